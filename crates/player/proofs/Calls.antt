-- A call of a trace is played as it is recorded.
use mathlib.Core.Path.{◌≡◌, refl, sym, ap, ◌∙◌, subst}
use mathlib.Core.Bool.{Bool, true, false, ◌||◌}
use mathlib.Core.List.{List, []}
use Prim.Native.Nat.{ℕ, ◌+◌, ◌*◌, ◌≤◌, min}
use native.Mathlib.Omega.{arith}
use Rattle.std.proofs.Common.{◌⊎◌, inl, inr}
use mir.Val.{Fits}
use mir.Syntax.{w64}
use lib.Dec.{eqb}
use lib.ListN.{length, take}
use lib.Seq.{length-take-le}
use borrow.Author.Tests.{eqb-true, ne_eqb}
use Rattle.lists.proofs.Laws.{by_cases, true_false}
use Rattle.codec.specs.Codec.{part}
use Rattle.valve_log.specs.Reached.{World}
use Rattle.trace.specs.Trace.{Recorded, code_at, number_at, has_group, pattern_size, numbers_at, keys_from, words_from, recorded_as, recorded_at}
use Rattle.trace.specs.declared.Kind.{Kind}
use Rattle.trace.specs.declared.Kind.TheVariants.{Format, Append, Commit, Collect, Step, Cut, Recover, Buffer, Flush}
use Rattle.trace.specs.Kinds.{code_of, kind_at}
use Rattle.trace.proofs.Laws.{recorded_kind, group_kind, cut_code}
use Rattle.trace.proofs.Form.{length_numbers, numbers_taken, keys_there, words_there, words_start, pattern_there}
use Rattle.player.specs.declared.Reply.{Reply}
use Rattle.player.specs.Run as run
use Rattle.player.specs.Run.{played}
use Rattle.player.specs.Played.{Plays, Playable}
use Rattle.player.proofs.Long.{append_first, buffer_first}

-- calls that are played alike
alike : (w : World) (c d : Recorded) (r : Reply) (m b : List ℕ) → played w c ≡ played w d → Plays w c r m b → Plays w d r m b
alike w c d r m b e p =
    record {
      after = p.after ∙ ap (λ (x : run.Turn). x.moment.after) e;
      lines = p.lines ∙ ap (λ (x : run.Turn). x.lines) e;
      ends = p.ends ∙ ap (λ (x : run.Turn). x.ends) e;
      few = p.few;
    }

-- a kind with a group is an append or a group buffered
group_other : (k : Kind) → has_group (code_of k) ≡ true → (k ≡ Append → ⊥) → k ≡ Buffer
unfolding has_group
group_other Format h f = true_false h refl
group_other Append h f = absurd (f refl)
group_other Commit h f = true_false h refl
group_other Collect h f = true_false h refl
group_other Step h f = true_false h refl
group_other Cut h f = true_false h refl
group_other Recover h f = true_false h refl
group_other Buffer h f = refl
group_other Flush h f = true_false h refl

group_this : (k : Kind) → (k ≡ Append) ⊎ (k ≡ Buffer) → has_group (code_of k) ≡ true
unfolding has_group
group_this k (inl e) = rw e
group_this k (inr e) = rw e

-- the entries that are read
pub taken_few : (k n : ℕ) (xs : List ℕ) → k ≡ min n 97 → length xs ≡ 97 → k ≡ length (take k xs)
taken_few k n xs e h = sym (length-take-le k xs (omega arith))

module _ (t : List ℕ) (i at : ℕ) (m b : List ℕ) (p : Playable t i at m b) where
  module _ (n : ℕ) (q : n ≡ number_at t i) where
    module _ (k : Kind) (e : k ≡ kind_at t i) (w : World) (r : Reply) (m' b' : List ℕ) where
      -- the call in the words of the code
      as_recorded : (x : Kind) → k ≡ x → Plays w (recorded_as (code_of x) n at t) r m' b' → Plays w (recorded_at t i) r m' b'
      as_recorded x z y =
          let f : recorded_as (code_of x) n at t ≡ recorded_at t i = ap (λ (j : Kind). recorded_as (code_of j) n at t) (sym z ∙ e) ∙ sym (recorded_kind t i n at q p.start) in
          subst (λ (d : Recorded). Plays w d r m' b') f y

      pub play_format : k ≡ Format → Plays w (Recorded.format n) r m' b' → Plays w (recorded_at t i) r m' b'
      unfolding recorded_as
      play_format z x = as_recorded Format z x

      pub play_commit : k ≡ Commit → Plays w Recorded.commit r m' b' → Plays w (recorded_at t i) r m' b'
      unfolding recorded_as
      play_commit z x = as_recorded Commit z x

      pub play_collect : k ≡ Collect → Plays w (Recorded.collect n) r m' b' → Plays w (recorded_at t i) r m' b'
      unfolding recorded_as
      play_collect z x = as_recorded Collect z x

      pub play_step : k ≡ Step → Plays w Recorded.step r m' b' → Plays w (recorded_at t i) r m' b'
      unfolding recorded_as
      play_step z x = as_recorded Step z x

      pub play_recover : k ≡ Recover → Plays w Recorded.recover r m' b' → Plays w (recorded_at t i) r m' b'
      unfolding recorded_as
      play_recover z x = as_recorded Recover z x

      pub play_flush : k ≡ Flush → Plays w Recorded.flush r m' b' → Plays w (recorded_at t i) r m' b'
      unfolding recorded_as
      play_flush z x = as_recorded Flush z x

      pub play_cut : (pattern : List ℕ) → k ≡ Cut → pattern ≡ part at (pattern_size n) t → Plays w (Recorded.cut n pattern) r m' b' → Plays w (recorded_at t i) r m' b'
      unfolding recorded_as
      play_cut pattern z y x = as_recorded Cut z (rw y at x)

    module _ (k : Kind) (e : k ≡ kind_at t i) where
      pub cut_bytes : k ≡ Cut → at + pattern_size n ≤ length t
      cut_bytes z = pattern_there t i (code_at t i) n at refl q p.start p.has (cut_code t i (sym e ∙ z))

    module _ (h : has_group (code_at t i) ≡ true) where
      grouped : true ≡ has_group (code_at t i)
      grouped = sym h

      pub group_keys : (k : ℕ) → k ≡ min n 97 → at + 2 * k ≤ length t
      group_keys k x = keys_there t i (code_at t i) n at refl q p.start p.has true grouped refl k x

      pub group_words : (k : ℕ) → k ≡ min n 97 → at + 2 * n + 8 * k ≤ length t
      group_words k x = words_there t i (code_at t i) n at refl q p.start p.has true grouped refl k x

      pub group_twice : Fits w64 (2 * n)
      group_twice = let x = words_start t i (code_at t i) n at refl q p.start p.has true grouped refl in omega arith

      pub group_start : Fits w64 (at + 2 * n)
      group_start = let x = words_start t i (code_at t i) n at refl q p.start p.has true grouped refl in omega arith

      module _ (k : ℕ) (ks ws : List ℕ) (x : k ≡ min n 97) (y : take k ks ≡ numbers_at 2 k at t) (z : take k ws ≡ numbers_at 8 k (at + 2 * n) t)
          (kind : Kind) (e : kind ≡ kind_at t i) (w : World) (r : Reply) (m' b' : List ℕ) where
        keys_first : take k ks ≡ take 97 (keys_from n at t)
        keys_first = numbers_taken 2 n at t ks k x y

        words_first : take k ws ≡ take 97 (words_from n at t)
        words_first = numbers_taken 8 n (at + 2 * n) t ws k x z

        same_many : length (keys_from n at t) ≡ length (words_from n at t)
        same_many = length_numbers 2 n at t ∙ sym (length_numbers 8 n (at + 2 * n) t)

        pub append_plays : kind ≡ Append → Plays w (Recorded.append (take k ks) (take k ws)) r m' b' → Plays w (recorded_at t i) r m' b'
        unfolding recorded_as
        append_plays s g =
            as_recorded kind e w r m' b' Append s
            (alike w _ _ r m' b' (append_first w (keys_from n at t) (words_from n at t) same_many) (rw (keys_first, words_first) at g))

        pub buffer_plays : (kind ≡ Append → ⊥) → Plays w (Recorded.buffer (take k ks) (take k ws)) r m' b' → Plays w (recorded_at t i) r m' b'
        unfolding recorded_as
        buffer_plays s g =
            let f : kind ≡ Buffer = group_other kind (ap (λ (j : Kind). has_group (code_of j)) e ∙ sym (group_kind t i) ∙ h) s in
            as_recorded kind e w r m' b' Buffer f
            (alike w _ _ r m' b' (buffer_first w (keys_from n at t) (words_from n at t) same_many) (rw (keys_first, words_first) at g))

  pub has_group_lem : (k : Kind) → k ≡ kind_at t i → (k ≡ Append) ⊎ (k ≡ Buffer) → has_group (code_at t i) ≡ true
  has_group_lem k e z = group_kind t i ∙ ap (λ (j : Kind). has_group (code_of j)) (sym e) ∙ group_this k z
