-- Along a run: each call of the form is an event of the list of calls and power cuts, and keeps the medium's length.
use mathlib.Core.Path.{◌≡◌, refl, sym, ap, ◌∙◌}
use mathlib.Core.Bool.{true}
use Rattle.std.proofs.Common.{Option, None, Some}
use mathlib.Core.List.{List}
use Prim.Native.Nat.{ℕ, ◌+◌, ◌-◌, ◌^◌, ◌≤◌}
use native.Mathlib.Omega.{arith}
use lib.Dec.{eqb}
use lib.ListN.{length}
use borrow.Author.Tests.{eqb-true, lt-ltb, le-ltb}
use Rattle.lists.specs.Lists.{Below}
use Rattle.lists.specs.Needs.{Answer, refused, gives}
use Rattle.lists.proofs.Laws.{by_cases}
use Rattle.flash.specs.Medium.{views}
use Rattle.flash.proofs.Steps.{program_length, erase_length}
use Rattle.state.specs.State.{Held}
use Rattle.recovery.specs.Recovery.{Recovery}
use Rattle.calls.specs.Calls.{zip}
use Rattle.step.specs.Step.{Step, step_of, medium_after}
use Rattle.valve_log.specs.History.{History, Told, put_in, began_append, began_commit, began_collect, began_flush}
use Rattle.valve_log.specs.Reached.{World, world, with_state, step_due, CutOf, Event, Moment, still, called, filled, stepped, cut_short, recovered, happen}
use Rattle.valve_log.proofs.Events.{Upheld, there, block_there, due_good}
use Rattle.valve_log.proofs.Due.{Good}
use Rattle.trace.specs.Trace.{Recorded, pattern_size}
use Rattle.cut_patterns.specs.Cuts.{left_by_cut}
use Rattle.player.specs.Run.{with_held, played, played_cut, played_recovery, recover_in, name_of}
use Rattle.cut_patterns.proofs.CutsAllowed.{program_cut, erase_cut}

-- ---- the length of the medium

called_medium : (w : World) (t : Told) (a : Answer Held) → (called w t a).after.medium ≡ w.medium
unfolding called
called_medium w t (refused n) = refl
called_medium w t (gives s) = refl

filled_medium : (w : World) (t : Told) (a : Answer (List ℕ)) → (filled w t a).after.medium ≡ w.medium
unfolding filled
filled_medium w t (refused n) = refl
filled_medium w t (gives b) = refl

recovered_medium : (w : World) (a : Answer Recovery) → (recovered w a).after.medium ≡ w.medium
unfolding recovered
recovered_medium w (refused n) = refl
recovered_medium w (gives r) = refl

pub stepped_medium : (w : World) (st : Answer Step) → (stepped w st).after.medium ≡ medium_after w.medium st
unfolding stepped medium_after
stepped_medium w (refused n) = refl
stepped_medium w (gives (Step.program p pg s finished)) = refl
stepped_medium w (gives (Step.erase b s finished)) = refl

module _ (m : List ℕ) (s : Held) (bs : List ℕ) (h : History) (U : Upheld (world m (Some s) bs) h) where
  step_length : (st : Answer Step) → Good (views m) s bs h st → length (medium_after m st) ≡ length m
  unfolding Good medium_after
  step_length (refused n) G = refl
  step_length (gives (Step.program p pg s' finished)) G = program_length m p pg (there m s bs h U p pg s' G) G.fits_in.count
  step_length (gives (Step.erase b s' finished)) G = erase_length m b (block_there m s bs h U b s' G)

  cut_length : (left : List ℕ) (st : Answer Step) → CutOf m st left → length (cut_short (world m (Some s) bs) left st).after.medium ≡ length m
  unfolding CutOf cut_short
  cut_length left (refused n) c = absurd c
  cut_length left (gives (Step.program p pg s' finished)) c = unfold Rattle.flash.specs.Cuts.CutProgram in c.size
  cut_length left (gives (Step.erase b s' finished)) c = unfold Rattle.flash.specs.Cuts.CutErase in c.size

  -- a cut by a pattern of the size that the form asks is a cut of the list
  pub pattern_cut : (st : Answer Step) → Good (views m) s bs h st → length m ≤ 65536 → (due : Step) (name : ℕ) (pattern : List ℕ) → st ≡ gives due → eqb name (name_of due) ≡ true
      → length pattern ≡ pattern_size name → CutOf m st (left_by_cut m due pattern)
  unfolding Good CutOf name_of pattern_size
  pattern_cut st G small (Step.program p pg s' finished) name pattern e n l =
      let P = rw e at G in
      let t = there m s bs h U p pg s' P in
      let q : name ≡ p = eqb-true name p n in
      let z : length pattern ≡ 256 = rw (q, lt-ltb p 256 (omega arith)) at l in
      rw e (program_cut m pattern p pg z t P.fits_in.count U.guarded s' finished)
  pattern_cut st G small (Step.erase b s' finished) name pattern e n l =
      let E = rw e at G in
      let q : name ≡ 256 + b = eqb-true name (256 + b) n in
      let z : length pattern ≡ 4096 = rw (q, le-ltb (256 + b) 256 (omega arith)) at l in
      rw e (erase_cut m pattern b z (block_there m s bs h U b s' E) U.guarded.bytes s' finished)

-- ---- a call as an event

pub record AsEvent (w : World) (k : Moment) : Type 0 where
  pub event : Event w
  pub same : k ≡ happen w event

-- without a state a call is refused, and nothing changes
called_held : (w : World) (t : Told) (f : Held → Answer Held) → called w t (with_held w f) ≡ with_state w.state (still w) (λ s. called w t (f s))
unfolding with_held with_state called
called_held w t f = go w.state
  where
    go : (o : Option Held) → called w t (with_state o (refused 9) f) ≡ with_state o (still w) (λ s. called w t (f s))
    go None = refl
    go (Some s) = refl

filled_held : (w : World) (t : Told) (f : Held → Answer (List ℕ)) → filled w t (with_held w f) ≡ with_state w.state (still w) (λ s. filled w t (f s))
unfolding with_held with_state filled
filled_held w t f = go w.state
  where
    go : (o : Option Held) → filled w t (with_state o (refused 9) f) ≡ with_state o (still w) (λ s. filled w t (f s))
    go None = refl
    go (Some s) = refl

-- what the form asks of a call after the first: it is no format, keys have 16 bits and words 64, and a cut's pattern has its size
unfoldable pub InForm : Recorded → Type 0
InForm (Recorded.format n) = ⊥
InForm (Recorded.append ks ws) = Below (2 ^ 16) ks × Below (2 ^ 64) ws
InForm Recorded.commit = Unit {0}
InForm (Recorded.collect b) = Unit {0}
InForm Recorded.step = Unit {0}
InForm (Recorded.cut name pattern) = length pattern ≡ pattern_size name
InForm Recorded.recover = Unit {0}
InForm (Recorded.buffer ks ws) = Below (2 ^ 16) ks × Below (2 ^ 64) ws
InForm Recorded.flush = Unit {0}

stays : (w : World) → AsEvent w (still w)
unfolding happen
stays w = record { event = Event.read; same = refl }

struck : (w : World) (st : Answer Step) (left : List ℕ) → step_due w ≡ st → CutOf w.medium (step_due w) left → AsEvent w (cut_short w left st)
unfolding happen
struck w st left e c = record { event = Event.cut_inside left c; same = ap (cut_short w left) (sym e) }

cut_event : (m : List ℕ) (s : Option Held) (b : List ℕ) (h : History) → Upheld (world m s b) h → length m ≤ 65536 → (name : ℕ) (pattern : List ℕ) → length pattern ≡ pattern_size name
    → AsEvent (world m s b) (played_cut (world m s b) name pattern (step_due (world m s b))).moment
unfolding step_due with_state played_cut
cut_event m None b h U small name pattern l = stays (world m None b)
cut_event m (Some s) b h U small name pattern l = go (step_of (length m) (views m) s b) refl
  where
    go : (st : Answer Step) → step_of (length m) (views m) s b ≡ st → AsEvent (world m (Some s) b) (played_cut (world m (Some s) b) name pattern st).moment
    go (refused n) e = stays (world m (Some s) b)
    go (gives d) e =
        by_cases (eqb name (name_of d))
        (λ q. rw q (struck (world m (Some s) b) (gives d) (left_by_cut m d pattern) e (pattern_cut m s b h U (step_of (length m) (views m) s b) (due_good m s b h U) small d name pattern e q l)))
        (λ q. rw q (stays (world m (Some s) b)))

recovery_event : (w : World) (a : Answer Recovery) → recover_in w ≡ a → AsEvent w (played_recovery w a).moment
unfolding played_recovery happen recovered
recovery_event w (refused n) e = stays w
recovery_event w (gives r) e = record { event = Event.recover; same = ap (recovered w) (sym e) }

-- after formatting each call of the form is an event
pub as_event : (w : World) (h : History) → Upheld w h → length w.medium ≤ 65536 → (c : Recorded) → InForm c → AsEvent w (played w c).moment
unfolding InForm played happen
as_event w h U small (Recorded.format n) i = absurd i
as_event w h U small (Recorded.append ks ws) i = record { event = Event.append ks ws i.0 i.1; same = called_held w (began_append (zip ks ws)) _ }
as_event w h U small Recorded.commit i = record { event = Event.commit; same = called_held w began_commit _ }
as_event w h U small (Recorded.collect b) i = record { event = Event.collect b; same = called_held w began_collect _ }
as_event w h U small Recorded.step i = record { event = Event.step; same = refl }
as_event w h U small (Recorded.cut name pattern) i = cut_event w.medium w.state w.buffer h U small name pattern i
as_event w h U small Recorded.recover i = recovery_event w (recover_in w) refl
as_event w h U small (Recorded.buffer ks ws) i = record { event = Event.buffer ks ws i.0 i.1; same = filled_held w (put_in (zip ks ws)) _ }
as_event w h U small Recorded.flush i = record { event = Event.flush; same = called_held w began_flush _ }

-- and an event keeps the medium's length
held_medium : (w : World) (f : Held → Moment) → ((s : Held) → (f s).after.medium ≡ w.medium) → (with_state w.state (still w) f).after.medium ≡ w.medium
unfolding with_state
held_medium w f k = go w.state
  where
    go : (o : Option Held) → (with_state o (still w) f).after.medium ≡ w.medium
    go None = refl
    go (Some s) = k s

pub happen_length : (m : List ℕ) (s : Option Held) (b : List ℕ) (h : History) (e : Event (world m s b)) → Upheld (world m s b) h → length (happen (world m s b) e).after.medium ≡ length m
unfolding happen
happen_length m s b h (Event.append ks ws x y) U = ap length (held_medium (world m s b) _ (λ t. called_medium (world m s b) _ _))
happen_length m s b h Event.commit U = ap length (held_medium (world m s b) _ (λ t. called_medium (world m s b) _ _))
happen_length m s b h (Event.collect k) U = ap length (held_medium (world m s b) _ (λ t. called_medium (world m s b) _ _))
happen_length m s b h (Event.buffer ks ws x y) U = ap length (held_medium (world m s b) _ (λ t. filled_medium (world m s b) _ _))
happen_length m s b h Event.flush U = ap length (held_medium (world m s b) _ (λ t. called_medium (world m s b) _ _))
happen_length m None b h Event.step U = unfold step_due with_state stepped in refl
happen_length m (Some s) b h Event.step U =
    unfold step_due with_state in (ap length (stepped_medium (world m (Some s) b) _) ∙ step_length m s b h U _ (due_good m s b h U))
happen_length m s b h Event.recover U = ap length (recovered_medium (world m s b) _)
happen_length m s b h Event.read U = refl
happen_length m s b h Event.cut U = refl
happen_length m None b h (Event.cut_inside left c) U = absurd (unfold step_due with_state CutOf in c)
happen_length m (Some s) b h (Event.cut_inside left c) U = unfold step_due with_state in cut_length m s b h U left _ c
