-- A group of more than 96 entries is refused whatever its entries are, so its first 97 decide how an append or a buffered group is played.
use mathlib.Core.Path.{◌≡◌, refl, sym, ◌∙◌}
use mathlib.Core.Bool.{Bool, true, false, cond, ◌&&◌}
use Rattle.std.proofs.Common.{Option, None, Some}
use mathlib.Core.List.{List, [], ◌∷◌, ◌++◌}
use Prim.Native.Nat.{ℕ, ◌≤◌, ◌<◌}
use native.Mathlib.Omega.{arith}
use native.Mathlib.Decide.{dec_le}
use lib.Dec.{leb, eqb}
use lib.ListN.{length, take, length-take}
use lib.Seq.{take_all}
use borrow.Author.Tests.{lt-leb}
use Rattle.lists.specs.Lists.{every}
use Rattle.lists.specs.Needs.{Answer, refused, Need, need, under}
use Rattle.lists.proofs.Laws.{by_cases}
use Rattle.flash.specs.Medium.{views}
use Rattle.state.specs.State.{Held}
use Rattle.calls.specs.Calls.{append_of, buffer_of, lists_ok, gate_needs, shut_needs}
use Rattle.valve_log.specs.Reached.{World, with_state, still, called, filled}
use Rattle.trace.specs.Trace.{Recorded}
use Rattle.player.specs.Lines.{Line, refusal_lines}
use Rattle.player.specs.Run.{with_held, append_in, buffer_in, played, run_goes_on}

-- the number of the first of some conditions that fails, or n
unfoldable first_or : List Need → ℕ → ℕ
first_or [] n = n
first_or (c ∷ cs) n = cond c.holds (first_or cs n) c.number

-- a condition that fails hides those behind it
stops : {A : Type 0} (cs ds : List Need) (n : ℕ) (b : Bool) (a : Answer A) → b ≡ false → under (cs ++ (need n b ∷ ds)) a ≡ refused (first_or cs n)
unfolding under first_or
stops [] ds n b a e = rw e
stops (c ∷ cs) ds n b a e = by_cases c.holds (λ h. rw h (stops cs ds n b a e)) (λ h. rw h)

-- where each state's answer is a refusal, so is the answer in a world
held_refused : {A : Type 0} (w : World) (f : Held → Answer A) (g : Held → ℕ) → ((s : Held) → f s ≡ refused (g s)) → with_held w f ≡ refused (with_state w.state 9 g)
unfolding with_held with_state
held_refused {A} w f g e = go w.state
  where
    go : (o : Option Held) → with_state o (refused 9) f ≡ refused (with_state o 9 g)
    go None = refl
    go (Some s) = e s

false_last : (a b : Bool) → a && (b && false) ≡ false
false_last true true = refl
false_last true false = refl
false_last false b = refl

module _ (w : World) where
  -- what refuses a long group
  abbrev append_number : ℕ
  append_number = with_state w.state 9 (λ s. first_or (shut_needs (length w.medium) (views w.medium) s w.buffer) 10)

  abbrev buffer_number : ℕ
  buffer_number = with_state w.state 9 (λ s. first_or (gate_needs (length w.medium) (views w.medium) s w.buffer) 10)

  module _ (ks ws : List ℕ) (h : 96 < length ks) where
    too_long : lists_ok ks ws ≡ false
    unfolding lists_ok every
    too_long = rw (lt-leb (length ks) 96 h) (false_last (eqb (length ks) (length ws)) (leb 1 (length ks)))

    append_long : append_in w ks ws ≡ refused append_number
    append_long = held_refused w _ _ (λ s. unfold append_of in stops (shut_needs (length w.medium) (views w.medium) s w.buffer) _ 10 (lists_ok ks ws) _ too_long)

    buffer_long : buffer_in w ks ws ≡ refused buffer_number
    buffer_long = held_refused w _ _ (λ s. unfold buffer_of in stops (gate_needs (length w.medium) (views w.medium) s w.buffer) _ 10 (lists_ok ks ws) _ too_long)

    played_append : played w (Recorded.append ks ws) ≡ run_goes_on (still w) (Line.refusal append_number ∷ [])
    unfolding played called refusal_lines
    played_append = rw append_long

    played_buffer : played w (Recorded.buffer ks ws) ≡ run_goes_on (still w) (Line.refusal buffer_number ∷ [])
    unfolding played filled refusal_lines
    played_buffer = rw buffer_long

  -- the first 97 entries decide
  module _ (ks ws : List ℕ) (e : length ks ≡ length ws) where
    pub append_first : played w (Recorded.append (take 97 ks) (take 97 ws)) ≡ played w (Recorded.append ks ws)
    append_first = go (dec_le (length ks) 97)
      where
        go : Dec (length ks ≤ 97) → played w (Recorded.append (take 97 ks) (take 97 ws)) ≡ played w (Recorded.append ks ws)
        go (yes h) = rw (take_all 97 ks h, take_all 97 ws (omega arith))
        go (no h) = played_append (take 97 ks) (take 97 ws) (omega (arith, length-take 97 ks)) ∙ sym (played_append ks ws (omega arith))

    pub buffer_first : played w (Recorded.buffer (take 97 ks) (take 97 ws)) ≡ played w (Recorded.buffer ks ws)
    buffer_first = go (dec_le (length ks) 97)
      where
        go : Dec (length ks ≤ 97) → played w (Recorded.buffer (take 97 ks) (take 97 ws)) ≡ played w (Recorded.buffer ks ws)
        go (yes h) = rw (take_all 97 ks h, take_all 97 ws (omega arith))
        go (no h) = played_buffer (take 97 ks) (take 97 ws) (omega (arith, length-take 97 ks)) ∙ sym (played_buffer ks ws (omega arith))
