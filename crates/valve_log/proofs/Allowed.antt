-- What today's program has under way or buffered, its own 11 allows. A medium that the program before Paper 8 left is taken over without a
-- state, and with the state that recovery gives nothing is under way or buffered.
use mathlib.Core.Path.{◌≡◌, refl}
use mathlib.Core.Bool.{true}
use Rattle.std.proofs.Common.{Option, None, Some}
use mathlib.Core.List.{List, [], ◌∷◌, ◌++◌}
use Prim.Native.Nat.{ℕ, zero, suc, max}
use lib.ListN.{length}
use Rattle.lists.specs.Lists.{all, every}
use Rattle.lists.specs.Needs.{Answer, refused, gives, Need, checked}
use Rattle.lists.specs.Cells.{Entry}
use Rattle.lists.proofs.Laws.{every_at, tests, checked_cases}
use Rattle.page.specs.Pages.{pages_for, changes_of}
use Rattle.page.specs.Buffer.{holding}
use Rattle.page.proofs.More.{changes_snoc}
use Rattle.flash.specs.Medium.{views}
use Rattle.index.specs.Index.{entry_allowed, entries_allowed}
use Rattle.state.specs.State.{Pending, Held, buffered_in}
use Rattle.recovery.specs.Recovery.{Recovery}
use Rattle.recovery.specs.Recovery
use Rattle.calls.specs.Calls.{starting, zip, append_needs, append_of, commit_of, collect_of, flush_of, buffer_needs, buffer_of}
use Rattle.step.specs.Step.{Step, step_of}
use Rattle.valve_log.specs.History.{UnderWay, nothing, appending, committing, collecting, flushing, History, history, start as no_history}
use Rattle.valve_log.specs.History.{Told, began_append, began_commit, began_collect, put_in, began_flush, counted, tell}
use Rattle.valve_log.specs.Reached.{World, world, with_state, step_due, Event, Moment, called, filled, stepped, cut_short, recovered, happen, Reached}
use Rattle.valve_log.proofs.Lent.{all_join}

-- the entries of the append that is under way
unfoldable pub appended_in : UnderWay → List Entry
appended_in nothing = []
appended_in (appending es n) = es
appended_in (committing n) = []
appended_in collecting = []
appended_in (flushing gs n) = []

pub record Allowed (h : History) : Type 0 where
  pub gathers : entries_allowed (changes_of h.buffered) ≡ true
  pub appends : entries_allowed (appended_in h.under_way) ≡ true

-- where there is a state
unfoldable pub StateAllowed : Option Held → History → Type 0
StateAllowed None h = Unit {0}
StateAllowed (Some s) h = Allowed h

none_allowed : entries_allowed [] ≡ true
unfolding entries_allowed all
none_allowed = refl

none_buffered : entries_allowed (changes_of []) ≡ true
unfolding changes_of
none_buffered = none_allowed

counted_allowed : (h : History) (u : UnderWay) → h.under_way ≡ u → Allowed h → Allowed (counted h u)
unfolding counted appended_in
counted_allowed h nothing e A = A
counted_allowed h (appending es zero) e A = A
counted_allowed h (appending es (suc zero)) e A = record { gathers = A.gathers; appends = none_allowed }
counted_allowed h (appending es (suc (suc n))) e A = record { gathers = A.gathers; appends = rw e at A.appends }
counted_allowed h (committing zero) e A = A
counted_allowed h (committing (suc zero)) e A = record { gathers = A.gathers; appends = none_allowed }
counted_allowed h (committing (suc (suc n))) e A = record { gathers = A.gathers; appends = none_allowed }
counted_allowed h collecting e A = A
counted_allowed h (flushing gs zero) e A = A
counted_allowed h (flushing gs (suc zero)) e A = record { gathers = none_buffered; appends = none_allowed }
counted_allowed h (flushing gs (suc (suc n))) e A = record { gathers = A.gathers; appends = none_allowed }

abbrev Keeps : History → Moment → Type 0
Keeps h t = StateAllowed t.after.state (tell h t.told)

module _ (m : List ℕ) (s : Held) (b : List ℕ) (h : History) (A : Allowed h) where
  call_allowed : (t : Told) (cs : List Need) (s' : Held) → (every (tests cs) ≡ true → Allowed (tell h t))
      → Keeps h (called (world m (Some s) b) t (checked cs s'))
  call_allowed t cs s' f =
      checked_cases (λ (r : Answer Held). Keeps h (called (world m (Some s) b) t r)) cs (gives s')
      (λ n. unfold called tell StateAllowed in A) (λ e. unfold called StateAllowed in f e)

  -- an operation begun that is no append
  begun_allowed : (t : Told) (cs : List Need) (s' : Held) (u : UnderWay) → tell h t ≡ history h.settings h.log u h.buffered
      → appended_in u ≡ [] → Keeps h (called (world m (Some s) b) t (checked cs s'))
  begun_allowed t cs s' u i e = call_allowed t cs s' (λ q. rw i (record { gathers = A.gathers; appends = rw e none_allowed }))

  append_allowed : (ks ws : List ℕ)
      → Keeps h (called (world m (Some s) b) (began_append (zip ks ws)) (append_of (length m) (views m) s b ks ws))
  unfolding append_of tests tell appended_in
  append_allowed ks ws =
      call_allowed (began_append (zip ks ws)) (append_needs (length m) (views m) s b ks ws) (starting s (Pending.append (zip ks ws) []))
      (λ e. record { gathers = A.gathers; appends = every_at 5 _ e })

  put_allowed : (es : List Entry) → entries_allowed es ≡ true → Allowed (tell h (put_in es))
  unfolding tell entries_allowed
  put_allowed es e =
      record {
        gathers = rw (changes_snoc h.buffered es) (all_join entry_allowed (changes_of h.buffered) es A.gathers e);
        appends = A.appends;
      }

  buffer_allowed : (ks ws : List ℕ) → Keeps h (filled (world m (Some s) b) (put_in (zip ks ws)) (buffer_of (length m) (views m) s b ks ws))
  unfolding buffer_of tests
  buffer_allowed ks ws =
      checked_cases (λ (r : Answer (List ℕ)). Keeps h (filled (world m (Some s) b) (put_in (zip ks ws)) r))
      (buffer_needs (length m) (views m) s b ks ws) (gives (holding (buffered_in b ++ (zip ks ws ∷ []))))
      (λ n. unfold filled tell StateAllowed in A) (λ e. unfold filled StateAllowed in put_allowed (zip ks ws) (every_at 4 _ e))

  stepped_allowed : (r : Answer Step) → Keeps h (stepped (world m (Some s) b) r)
  unfolding stepped tell StateAllowed
  stepped_allowed (refused n) = A
  stepped_allowed (gives (Step.program p pg s finished)) = counted_allowed h h.under_way refl A
  stepped_allowed (gives (Step.erase b s finished)) = A

cut_allowed : (w : World) (h : History) (left : List ℕ) (r : Answer Step) → Keeps h (cut_short w left r)
unfolding cut_short StateAllowed
cut_allowed w h left (refused n) = tt
cut_allowed w h left (gives (Step.program p pg s finished)) = tt
cut_allowed w h left (gives (Step.erase b s finished)) = tt

recovered_allowed : (w : World) (h : History) (r : Answer Recovery) → StateAllowed w.state h → Keeps h (recovered w r)
unfolding recovered tell appended_in
recovered_allowed w h (refused n) A = A
recovered_allowed w h (gives r) A = unfold StateAllowed in record { gathers = none_buffered; appends = none_allowed }

happen_allowed : (m : List ℕ) (s : Option Held) (b : List ℕ) (h : History) (e : Event (world m s b)) → StateAllowed s h
    → Keeps h (happen (world m s b) e)
unfolding happen with_state step_due
happen_allowed m None b h (Event.append ks ws x y) A = unfold tell in A
happen_allowed m (Some s) b h (Event.append ks ws x y) A = append_allowed m s b h (unfold StateAllowed in A) ks ws
happen_allowed m None b h Event.commit A = unfold tell in A
happen_allowed m (Some s) b h Event.commit A =
    unfold commit_of in
    begun_allowed m s b h (unfold StateAllowed in A) began_commit _ _ (committing (max 1 (pages_for (length h.settings)))) (unfold tell in refl)
    (unfold appended_in in refl)
happen_allowed m None b h (Event.collect k) A = unfold tell in A
happen_allowed m (Some s) b h (Event.collect k) A =
    unfold collect_of in
    begun_allowed m s b h (unfold StateAllowed in A) began_collect _ _ collecting (unfold tell in refl) (unfold appended_in in refl)
happen_allowed m None b h (Event.buffer ks ws x y) A = unfold tell in A
happen_allowed m (Some s) b h (Event.buffer ks ws x y) A = buffer_allowed m s b h (unfold StateAllowed in A) ks ws
happen_allowed m None b h Event.flush A = unfold tell in A
happen_allowed m (Some s) b h Event.flush A =
    unfold flush_of in
    begun_allowed m s b h (unfold StateAllowed in A) began_flush _ _ (flushing h.buffered 1) (unfold tell in refl) (unfold appended_in in refl)
happen_allowed m None b h Event.step A = unfold stepped tell in A
happen_allowed m (Some s) b h Event.step A = stepped_allowed m s b h (unfold StateAllowed in A) (step_of (length m) (views m) s b)
happen_allowed m s b h Event.recover A = recovered_allowed (world m s b) h (Recovery.recover (length m) (views m)) A
happen_allowed m s b h Event.read A = unfold tell in A
happen_allowed m s b h Event.cut A = unfold StateAllowed in tt
happen_allowed m s b h (Event.cut_inside left c) A = cut_allowed (world m s b) h left (step_due (world m s b))

start_allowed : (s : Option Held) → StateAllowed s no_history
unfolding StateAllowed appended_in
start_allowed None = tt
start_allowed (Some s) = record { gathers = none_buffered; appends = none_allowed }

pub reached_allowed : (w : World) (h : History) → Reached w h → StateAllowed w.state h
reached_allowed w h (Reached.start v F e) = start_allowed (happen v Event.step).after.state
reached_allowed w h (Reached.next v g e r) = happen_allowed v.medium v.state v.buffer g e (reached_allowed v g r)
reached_allowed w h (Reached.taken_over b) = unfold StateAllowed in tt
