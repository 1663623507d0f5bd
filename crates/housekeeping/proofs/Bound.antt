-- Paper 4's bound: where an append met 13 with 16 pages available, one commit at most and one collection at most let that group in.
use mathlib.Core.Path.{◌≡◌, refl, sym, ap, subst, ◌∙◌}
use mathlib.Core.Logic.{◌⊎◌, inl, inr}
use mathlib.Core.Bool.{Bool, true, false, not}
use Rattle.std.proofs.Common.{Some}
use mathlib.Core.List.{List, [], ◌∷◌, ◌++◌}
use Prim.Native.Nat.{ℕ, zero, suc, ◌+◌, ◌-◌, ◌*◌, ◌/◌, ◌^◌, ◌≤◌, ◌<◌}
use native.Mathlib.Omega.{arith}
use native.Mathlib.Decide.{dec_lt}
use lib.Dec.{eqb}
use lib.ListN.{length}
use borrow.Author.Tests.{lt-ltb, lt-leb, leb-true, leb-false, le-leb, eqb-true, not-false}
use Rattle.lists.specs.Lists.{every, all_below, count_below, value_or, Below}
use Rattle.page.proofs.Buffer.{gathered_blank}
use Rattle.lists.specs.Needs.{Need, need, Answer, refused, gives, and_then, under, checked}
use Rattle.lists.specs.Cells.{Entry, Place, keys_of}
use Rattle.lists.proofs.Laws.{by_cases, and_both, true_false, every_at, tests, checked_pass, same_refusal, given_refused, below_all}
use Rattle.page.specs.Pages.{Page, View, clean, spoilt, whole, ends, pages_for, changes_of}
use Rattle.flash.specs.Medium.{views, seen, wholly_clean}
use Rattle.index.specs.Index.{within, entries_allowed}
use Rattle.index.proofs.Keys.{within_same}
use Rattle.blocks.specs.declared.Head.{Head}
use Rattle.blocks.specs.Blocks.{size_ok, spare, available, reaches_base, old_block, collectible}
use Rattle.nodes.specs.Nodes.{live, pick_below}
use Rattle.nodes.proofs.Alive.{in_live, keys_words}
use Rattle.state.specs.State.{idle, append, commit, collect, Held, base_pages, fit_with, buffered_in, is_idle}
use Rattle.calls.specs.Calls.{starting, zip, lists_ok, room_for, serials_for, holds_none, append_needs, append_of, commit_needs, commit_of, collect_needs, collect_of, buffer_of}
use Rattle.newest_page.specs.Meeting.{base_end}
use Rattle.valve_log.specs.History.{History, Told, began_append, began_commit, began_collect, tell}
use Rattle.valve_log.specs.Reached.{World, world, fresh, Moment, moment, with_state, called, Event, happen, Reached}
use Rattle.valve_log.proofs.Small.{zip_length}
use Rattle.valve_log.proofs.Supply.{Witness, count_witness, spare_is}
use Rattle.valve_log.proofs.Ready.{sound_part, no_room}
use Rattle.valve_log.proofs.Events.{no_groups}
use Rattle.newest_page.specs.Newer.{greatest_serial, ends_base, newer}
use Rattle.dispatcher.specs.Dispatch.{Next, naming, collection, room_maker, answers13, next_of}
use Rattle.housekeeping.specs.Bound.{Finishes, named_in, append_in, Leads, here, commits, collects, commits_in, collections_in, Bounded, Suffice, Meets13, Bound, Sharper, Needed, pages_before, ByPages, Sixteen, SmallGroups}
use Rattle.housekeeping.proofs.Counting.{count_two, Two, two, One, one, live_two, live_few}
use Rattle.housekeeping.proofs.Picking.{Named, names}
use Rattle.housekeeping.proofs.Places.{InTwo}
use Rattle.housekeeping.proofs.Only.{needed}
use Rattle.housekeeping.proofs.Runs.{Known, known, alives, fits_fresh, bound as serials_bound, four, index_few}
use Rattle.housekeeping.proofs.Runs.{index_sound, serials_known, Frame, CommitDone, commit_runs, append_runs, CollectDone, collect_runs}

-- ---- what an append's 13 says

passed : {A : Type 0} (k : ℕ) (b : Bool) (cs : List Need) (a : Answer A) (n : ℕ) → (k ≡ n → ⊥) → under (need k b ∷ cs) a ≡ refused n → (b ≡ true) × (under cs a ≡ refused n)
unfolding under
passed k true cs a n d e = (refl, e)
passed k false cs a n d e = absurd (d (same_refusal k n e))

stopped : {A : Type 0} (b c : Bool) (s : A) → checked (need 13 b ∷ need 14 c ∷ []) s ≡ refused 13 → b ≡ false
unfolding under
stopped false c s e = refl
stopped true true s e = given_refused s 13 e
stopped true false s e = let z = same_refusal 14 13 e in absurd (omega arith)

-- an empty buffer holds no group
none_buffered : holds_none fresh ≡ true
unfolding holds_none buffered_in value_or
none_buffered = rw gathered_blank

-- conditions 10 to 12, which no housekeeping changes
pub record Offer (s : Held) (ks ws : List ℕ) : Type 0 where
  pub lists : lists_ok ks ws ≡ true
  pub allowed : entries_allowed (zip ks ws) ≡ true
  pub withins : within s.index (zip ks ws) ≡ true

record Full (v : List View) (s : Held) (ks ws : List ℕ) : Type 0 where
  offer : Offer s ks ws
  short : room_for v s.head (pages_for (length ks) + 16) ≡ false

full_of : (n : ℕ) (v : List View) (s : Held) (bs ks ws : List ℕ) → append_of n v s bs ks ws ≡ refused 13 → Full v s ks ws
unfolding append_of
full_of n v s bs ks ws e =
    let a = passed 1 _ _ _ 13 (λ z. omega arith) e in
    let b = passed 7 _ _ _ 13 (λ z. omega arith) a.1 in
    let c = passed 8 _ _ _ 13 (λ z. omega arith) b.1 in
    let c' = passed 24 _ _ _ 13 (λ z. omega arith) c.1 in
    let d = passed 10 _ _ _ 13 (λ z. omega arith) c'.1 in
    let f = passed 11 _ _ _ 13 (λ z. omega arith) d.1 in
    let g = passed 12 _ _ _ 13 (λ z. omega arith) f.1 in
    record { offer = record { lists = d.0; allowed = f.0; withins = g.0 }; short = stopped _ _ _ g.1 }

-- ---- a group that the write buffer turns away with 13

more_room : (v : List View) (h : Head) (n : ℕ) → 1 ≤ n → room_for v h (1 + 16) ≡ false → room_for v h (pages_for n + 16) ≡ false
unfolding room_for pages_for
more_room v h n k e = lt-leb ((n + 23) / 24 + 16) (available v h) (let z : available v h < 1 + 16 = leb-false (1 + 16) (available v h) e in omega arith)

some_entry : (ks ws : List ℕ) → lists_ok ks ws ≡ true → 1 ≤ length ks
unfolding lists_ok
some_entry ks ws e = leb-true 1 (length ks) (every_at 1 _ e)

none_held : (b : List ℕ) → holds_none b ≡ true → buffered_in b ≡ []
unfolding holds_none
none_held b e = no_groups (buffered_in b) e

-- what the buffer's 13 says
record Turned (n : ℕ) (v : List View) (s : Held) (b ks ws : List ℕ) : Type 0 where
  size : size_ok n ≡ true
  fits : fit_with v s b ≡ true
  rests : is_idle s.pending ≡ true
  lists : lists_ok ks ws ≡ true
  allowed : entries_allowed (zip ks ws) ≡ true
  withins : within s.index (changes_of (buffered_in b) ++ zip ks ws) ≡ true
  short : room_for v s.head (1 + 16) ≡ false

turned_of : (n : ℕ) (v : List View) (s : Held) (b ks ws : List ℕ) → buffer_of n v s b ks ws ≡ refused 13 → Turned n v s b ks ws
unfolding buffer_of
turned_of n v s b ks ws e =
    let a = passed 1 _ _ _ 13 (λ z. omega arith) e in
    let c = passed 7 _ _ _ 13 (λ z. omega arith) a.1 in
    let d = passed 8 _ _ _ 13 (λ z. omega arith) c.1 in
    let f = passed 10 _ _ _ 13 (λ z. omega arith) d.1 in
    let g = passed 11 _ _ _ 13 (λ z. omega arith) f.1 in
    let h = passed 12 _ _ _ 13 (λ z. omega arith) g.1 in
    let i = passed 23 _ _ _ 13 (λ z. omega arith) h.1 in
    record { size = a.0; fits = c.0; rests = d.0; lists = f.0; allowed = g.0; withins = h.0; short = stopped _ _ _ i.1 }

within_alone : (l : List Place) (b : List ℕ) (es : List Entry) → holds_none b ≡ true → within l (changes_of (buffered_in b) ++ es) ≡ true → within l es ≡ true
unfolding changes_of
within_alone l b es None w = rw (none_held b None) at w

pub small_groups_lem : SmallGroups
unfolding SmallGroups append_of under
small_groups_lem n v s b ks ws None e =
    let T = turned_of n v s b ks ws e in
    rw (T.size, T.fits, T.rests, None, T.lists, T.allowed, within_alone s.index b (zip ks ws) None T.withins, more_room v s.head (length ks) (some_entry ks ws T.lists) T.short)

few_pages : (ks ws : List ℕ) → lists_ok ks ws ≡ true → pages_for (length ks) ≤ 4
unfolding lists_ok pages_for
few_pages ks ws e = let k : length ks ≤ 96 = leb-true (length ks) 96 (every_at 2 _ e) in omega arith

module _ {m : List ℕ} {s : Held} {h : History} (K : Known m s h) (rests : s.pending ≡ idle) (ks ws : List ℕ) where
  is_idle_lem : is_idle s.pending ≡ true
  is_idle_lem = ap is_idle rests ∙ (unfold is_idle in refl)

  pub append_begins : Offer s ks ws → room_for (views m) s.head (pages_for (length ks) + 16) ≡ true → serials_for s.head (pages_for (length ks)) ≡ true
      → append_of (length m) (views m) s fresh ks ws ≡ gives (starting s (append (zip ks ws) []))
  unfolding append_of
  append_begins o a b =
      checked_pass (append_needs (length m) (views m) s fresh ks ws) (gives (starting s (append (zip ks ws) [])))
      (unfold every tests in rw (K.upheld.size, fits_fresh K, is_idle_lem, none_buffered, o.lists, o.allowed, o.withins, a, b))

  pub append_full : Offer s ks ws → room_for (views m) s.head (pages_for (length ks) + 16) ≡ false → append_of (length m) (views m) s fresh ks ws ≡ refused 13
  unfolding append_of under
  append_full o a = rw (K.upheld.size, fits_fresh K, is_idle_lem, none_buffered, o.lists, o.allowed, o.withins, a)

  append_short : Offer s ks ws → room_for (views m) s.head (pages_for (length ks) + 16) ≡ true
      → serials_for s.head (pages_for (length ks)) ≡ false
      → append_of (length m) (views m) s fresh ks ws ≡ refused 14
  unfolding append_of under
  append_short o a b = rw (K.upheld.size, fits_fresh K, is_idle_lem, none_buffered, o.lists, o.allowed, o.withins, a, b)

  commit_begins : base_pages (length s.index) ≤ available (views m) s.head
      → serials_for s.head (base_pages (length s.index)) ≡ true
      → commit_of (length m) (views m) s fresh ≡ gives (starting s (commit 0))
  unfolding commit_of
  commit_begins a b =
      checked_pass (commit_needs (length m) (views m) s fresh) (gives (starting s (commit 0)))
      (unfold every tests room_for in rw
      (K.upheld.size, fits_fresh K, is_idle_lem, none_buffered, le-leb (base_pages (length s.index)) (available (views m) s.head) a, b))

  commit_short : base_pages (length s.index) ≤ available (views m) s.head
      → serials_for s.head (base_pages (length s.index)) ≡ false
      → commit_of (length m) (views m) s fresh ≡ refused 14
  unfolding commit_of under room_for
  commit_short a b = rw (
    K.upheld.size,
    fits_fresh K,
    is_idle_lem,
    none_buffered,
    le-leb (base_pages (length s.index))
        (available (views m) s.head) a,
    b,
  )

  collect_begins : (b : ℕ) → collectible (views m) s.head b ≡ true → pages_for (length (live s.index b)) ≤ available (views m) s.head
      → serials_for s.head (pages_for (length (live s.index b))) ≡ true
      → collect_of (length m) (views m) s fresh b ≡ gives (starting s (collect b))
  unfolding collect_of
  collect_begins b c a r =
      checked_pass (collect_needs (length m) (views m) s fresh b) (gives (starting s (collect b)))
      (unfold every tests room_for in
      rw (
        K.upheld.size,
        fits_fresh K,
        is_idle_lem,
        none_buffered,
        c,
        sound_part (views m) s.index (live s.index b) (index_sound K) (λ x i. in_live s.index b i),
        le-leb (pages_for (length (live s.index b))) (available (views m) s.head) a,
        r,
      ))

  collect_short : (b : ℕ) → collectible (views m) s.head b ≡ true → pages_for (length (live s.index b)) ≤ available (views m) s.head
      → serials_for s.head (pages_for (length (live s.index b))) ≡ false → collect_of (length m) (views m) s fresh b ≡ refused 14
  unfolding collect_of under room_for
  collect_short b c a r =
      rw (
        K.upheld.size,
        fits_fresh K,
        is_idle_lem,
        none_buffered,
        c,
        sound_part (views m) s.index (live s.index b) (index_sound K) (λ x i. in_live s.index b i),
        le-leb (pages_for (length (live s.index b))) (available (views m) s.head) a,
        r,
      )

-- ---- what the dispatcher names

next_append : (m : List ℕ) (s s' : Held) (ks ws : List ℕ) → append_of (length m) (views m) s fresh ks ws ≡ gives s' → named_in (world m (Some s) fresh) ks ws ≡ gives Next.append
unfolding named_in with_state next_of answers13 and_then naming
next_append m s s' ks ws e = rw e

next_append_14 : (m : List ℕ) (s : Held) (ks ws : List ℕ) → append_of (length m) (views m) s fresh ks ws ≡ refused 14
    → named_in (world m (Some s) fresh) ks ws ≡ refused 14
unfolding named_in with_state next_of answers13 and_then naming
next_append_14 m s ks ws e = rw e

next_commit_14 : (m : List ℕ) (s : Held) (ks ws : List ℕ) → append_of (length m) (views m) s fresh ks ws ≡ refused 13
    → newer (views m) ≡ true
    → commit_of (length m) (views m) s fresh ≡ refused 14 → named_in (world m (Some s) fresh) ks ws ≡ refused 14
unfolding named_in with_state next_of answers13 and_then naming room_maker
next_commit_14 m s ks ws e a c = rw (e, a, c)

next_collect_14 : (m : List ℕ) (s : Held) (ks ws : List ℕ) (b : ℕ) → append_of (length m) (views m) s fresh ks ws ≡ refused 13
    → newer (views m) ≡ false
    → pick_below (views m) s.head s.index s.head.blocks ≡ Some b
    → collect_of (length m) (views m) s fresh b ≡ refused 14 → named_in (world m (Some s) fresh) ks ws ≡ refused 14
unfolding named_in with_state next_of answers13 and_then naming room_maker collection
next_collect_14 m s ks ws b e a p c = rw (e, a, p, c)

next_commit : (m : List ℕ) (s s' : Held) (ks ws : List ℕ) → append_of (length m) (views m) s fresh ks ws ≡ refused 13 → newer (views m) ≡ true
    → commit_of (length m) (views m) s fresh ≡ gives s' → named_in (world m (Some s) fresh) ks ws ≡ gives Next.commit
unfolding named_in with_state next_of answers13 and_then naming room_maker
next_commit m s s' ks ws e a c = rw (e, a, c)

next_collect : (m : List ℕ) (s s' : Held) (ks ws : List ℕ) (b : ℕ) → append_of (length m) (views m) s fresh ks ws ≡ refused 13 → newer (views m) ≡ false
    → pick_below (views m) s.head s.index s.head.blocks ≡ Some b
    → collect_of (length m) (views m) s fresh b ≡ gives s' → named_in (world m (Some s) fresh) ks ws ≡ gives (Next.collect b)
unfolding named_in with_state next_of answers13 and_then naming room_maker collection
next_collect m s s' ks ws b e a p c = rw (e, a, p, c)

-- ---- an operation begun

module _ {m : List ℕ} {s : Held} {h : History} (K : Known m s h) where
  commit_begun : (s' : Held) → commit_of (length m) (views m) s fresh ≡ gives s' → happen (world m (Some s) fresh) Event.commit ≡ moment m (Some s') fresh began_commit
  unfolding happen with_state called
  commit_begun s' e = rw e

  collect_begun : (b : ℕ) (s' : Held) → collect_of (length m) (views m) s fresh b ≡ gives s' → happen (world m (Some s) fresh) (Event.collect b) ≡ moment m (Some s') fresh began_collect
  unfolding happen with_state called
  collect_begun b s' e = rw e

  pub knows_begun : (s' : Held) (ev : Event (world m (Some s) fresh)) (t : Told) → happen (world m (Some s) fresh) ev ≡ moment m (Some s') fresh t → Known m s' (tell h t)
  knows_begun s' ev t e = known m s' (tell h t) (subst (λ (x : Moment). Reached x.after (tell h x.told)) e (Reached.next (world m (Some s) fresh) h ev K.reached))

  pub append_begun : (ks ws : List ℕ) (narrow : Below (2 ^ 16) ks) (small : Below (2 ^ 64) ws) (s' : Held) → append_of (length m) (views m) s fresh ks ws ≡ gives s'
      → happen (world m (Some s) fresh) (Event.append ks ws narrow small) ≡ moment m (Some s') fresh (began_append (zip ks ws))
  unfolding happen with_state called
  append_begun ks ws narrow small s' e = rw e

-- ---- bounds

-- a bound holds where a lower one does
wider : {ks ws : List ℕ} {a b c d : ℕ} {w : World} → Bounded ks ws a b w → a ≤ c → b ≤ d → Bounded ks ws c d w
wider B p q = record {
  operations = B.operations;
  end = B.end;
  few_commits = omega (arith, B.few_commits);
  few_collections = omega
      (arith, B.few_collections);
  admits = B.admits;
  history = B.history;
  reached = B.reached;
  in_log_lem = B.in_log_lem;
}

-- one commit more
commit_first : {ks ws : List ℕ} {a b : ℕ} (w w' : World) → named_in w ks ws ≡ gives Next.commit → Finishes (happen w Event.commit).after w' → Bounded ks ws a b w' → Bounded ks ws (suc a) b w
unfolding commits_in collections_in
commit_first w w' n F B =
    let A = B.admits in
    record {
      operations = Next.commit ∷ B.operations;
      end = B.end;
      few_commits = omega (arith, B.few_commits);
      few_collections = B.few_collections;
      admits = record {
        before = A.before;
        leads = commits w w' A.before n F
            A.leads;
        named = A.named;
        begun = A.begun;
        begins = A.begins;
        finishes = A.finishes;
      };
      history = B.history;
      reached = B.reached;
      in_log_lem = B.in_log_lem;
    }

-- one collection more
collect_first : {ks ws : List ℕ} {a b : ℕ} (w w' : World) (x : ℕ) → named_in w ks ws ≡ gives (Next.collect x) → Finishes (happen w (Event.collect x)).after w' → Bounded ks ws a b w'
    → Bounded ks ws a (suc b) w
unfolding commits_in collections_in
collect_first w w' x n F B =
    let A = B.admits in
    record {
      operations = Next.collect x ∷ B.operations;
      end = B.end;
      few_commits = B.few_commits;
      few_collections = omega (arith, B.few_collections);
      admits = record {
        before = A.before;
        leads = collects w w' A.before x n F
            A.leads;
        named = A.named;
        begun = A.begun;
        begins = A.begins;
        finishes = A.finishes;
      };
      history = B.history;
      reached = B.reached;
      in_log_lem = B.in_log_lem;
    }

-- ---- or serials run out

-- the dispatcher answers 14 somewhere on the way, and that only where the serials do not reach t
pub record Stopped (ks ws : List ℕ) (t : ℕ) (w : World) : Type 0 where
  pub operations : List Next
  pub end : World
  pub leads : Leads ks ws operations w end
  pub named : named_in end ks ws ≡ refused 14
  pub short : 2 ^ 64 - 1 < t

abbrev Comes : List ℕ → List ℕ → ℕ → ℕ → ℕ → World → Type 0
Comes ks ws t a b w = Bounded ks ws a b w ⊎ Stopped ks ws t w

stops : {ks ws : List ℕ} {t a b : ℕ} (w : World) → named_in w ks ws ≡ refused 14 → 2 ^ 64 - 1 < t → Comes ks ws t a b w
stops w n k = inr (record { operations = []; end = w; leads = here w; named = n; short = k })

comes_wider : {ks ws : List ℕ} {t a b c d : ℕ} {w : World} → Comes ks ws t a b w → a ≤ c → b ≤ d → Comes ks ws t c d w
comes_wider (inl B) p q = inl (wider B p q)
comes_wider (inr S) p q = inr S

commit_then : {ks ws : List ℕ} {t a b : ℕ} (w w' : World) → named_in w ks ws ≡ gives Next.commit
    → Finishes (happen w Event.commit).after w' → Comes ks ws t a b w' → Comes ks ws t (suc a) b w
commit_then w w' n F (inl B) = inl (commit_first w w' n F B)
commit_then w w' n F (inr S) = inr
    (record {
      operations = Next.commit ∷ S.operations;
      end = S.end;
      leads = commits w w' S.end n F
          S.leads;
      named = S.named;
      short = S.short;
    })

collect_then : {ks ws : List ℕ} {t a b : ℕ} (w w' : World) (x : ℕ) → named_in w ks ws ≡ gives (Next.collect x)
    → Finishes (happen w (Event.collect x)).after w' → Comes ks ws t a b w'
    → Comes ks ws t a (suc b) w
collect_then w w' x n F (inl B) = inl (collect_first w w' x n F B)
collect_then w w' x n F (inr S) = inr
    (record {
      operations = Next.collect x ∷ S.operations;
      end = S.end;
      leads = collects w w' S.end x n F
          S.leads;
      named = S.named;
      short = S.short;
    })

-- ---- the group is let in

same_lengths : (ks ws : List ℕ) → lists_ok ks ws ≡ true → length ks ≡ length ws
unfolding lists_ok
same_lengths ks ws e = eqb-true (length ks) (length ws) (every_at 0 _ e)

some_page : (ks ws : List ℕ) → lists_ok ks ws ≡ true → 1 ≤ pages_for (length ks)
unfolding pages_for
some_page ks ws e = omega (arith, some_entry ks ws e)

zip_pages : (ks ws : List ℕ) → lists_ok ks ws ≡ true → pages_for (length (zip ks ws)) ≡ 0 + suc (pages_for (length ks) - 1)
zip_pages ks ws e =
    let z : pages_for (length (zip ks ws)) ≡ pages_for (length ks) = ap pages_for (zip_length ks ws (same_lengths ks ws e)) in
    omega (arith, z, some_page ks ws e)

serials_true : (h : Head) (n : ℕ) → serials_for h n ≡ true → h.serial + n ≤ 2 ^ 64 - 1
unfolding serials_for
serials_true h n e = leb-true (h.serial + n) (2 ^ 64 - 1) e

serials_false : (h : Head) (n : ℕ) → serials_for h n ≡ false → 2 ^ 64 - 1 < h.serial + n
unfolding serials_for
serials_false h n e = leb-false (h.serial + n) (2 ^ 64 - 1) e

module _ (ks ws : List ℕ) (narrow : Below (2 ^ 16) ks) (small : Below (2 ^ 64) ws) (t : ℕ) where
  admit_now : {m : List ℕ} {s : Held} {h : History} (K : Known m s h) → s.pending ≡ idle → Offer s ks ws → pages_for (length ks) + 16 ≤ available (views m) s.head
      → s.head.serial + pages_for (length ks) ≤ t → Comes ks ws t 0 0 (world m (Some s) fresh)
  admit_now {m} {s} {h} K e o room serials =
      by_cases (serials_for s.head (pages_for (length ks))) (λ q. inl (goes q))
      (λ q. stops (world m (Some s) fresh) (next_append_14 m s ks ws (append_short K e ks ws o has_room q))
      (omega (arith, serials_false s.head (pages_for (length ks)) q)))
    where
      has_room : room_for (views m) s.head (pages_for (length ks) + 16) ≡ true
      has_room = unfold room_for in le-leb (pages_for (length ks) + 16) (available (views m) s.head) room

      goes : serials_for s.head (pages_for (length ks)) ≡ true → Bounded ks ws 0 0 (world m (Some s) fresh)
      goes q =
          let a = append_begins K e ks ws o has_room q in
          let K₁ =
          knows_begun K (starting s (append (zip ks ws) [])) (Event.append ks ws narrow small) (began_append (zip ks ws))
          (append_begun K ks ws narrow small (starting s (append (zip ks ws) [])) a) in
          let D =
          append_runs (pages_for (length ks) - 1) K₁ (zip ks ws) [] refl (zip_pages ks ws o.lists)
          (omega (arith, some_page ks ws o.lists))
          (omega (arith, some_page ks ws o.lists, serials_true s.head (pages_for (length ks)) q)) in
          record {
            operations = [];
            end = D.end;
            few_commits = unfold commits_in in omega arith;
            few_collections = unfold collections_in in omega arith;
            admits =
                record {
                  before = world m (Some s) fresh;
                  leads = here (world m (Some s) fresh);
                  named = next_append m s (starting s (append (zip ks ws) [])) ks ws a;
                  begun = starting s (append (zip ks ws) []);
                  begins = unfold append_in with_state in a;
                  finishes = D.run;
                };
            history = D.history;
            reached = D.reached;
            in_log_lem = D.in_log_lem;
          }

  keys_shown : {m : List ℕ} {s : Held} {h : History} (K : Known m s h) → keys_of s.index ≡ keys_of h.settings
  keys_shown {m} K = ap keys_of (alives K).indices ∙ sym (keys_words (views m) K.upheld.coupled.idx) ∙ ap keys_of K.upheld.coupled.medium.shows

  -- one collection suffices
  collect_once : {m : List ℕ} {s : Held} {h : History} (K : Known m s h) → s.pending ≡ idle → Offer s ks ws → append_of (length m) (views m) s fresh ks ws ≡ refused 13 → newer (views m) ≡ false
      → (b j : ℕ) → pick_below (views m) s.head s.index s.head.blocks ≡ Some b → collectible (views m) s.head b ≡ true
      → pages_for (length (live s.index b)) ≤ j → j ≤ available (views m) s.head
      → pages_for (length ks) + j ≤ available (views m) s.head → s.head.serial + (j + pages_for (length ks)) ≤ t
      → Comes ks ws t 0 1 (world m (Some s) fresh)
  collect_once {m} {s} {h} K e o full13 settled b j picks fit few room gains serials =
      by_cases (serials_for s.head (pages_for (length (live s.index b)))) (λ q. goes q)
      (λ q. stops (world m (Some s) fresh)
      (next_collect_14 m s ks ws b full13 settled picks (collect_short K e ks ws b fit (omega arith) q))
      (omega (arith, serials_false s.head (pages_for (length (live s.index b))) q)))
    where
      k : ℕ
      k = pages_for (length (live s.index b))

      offers : (D : CollectDone m (starting s (collect b)) (tell h began_collect) k) → Offer D.s' ks ws
      offers D =
          record {
            lists = o.lists;
            allowed = o.allowed;
            withins = within_same D.s'.index s.index (zip ks ws) (zip ks ws) (keys_shown D.knows ∙ ap keys_of D.settings ∙ (unfold tell in sym (keys_shown K))) refl ∙ o.withins;
          }

      goes : serials_for s.head k ≡ true → Comes ks ws t 0 1 (world m (Some s) fresh)
      goes q =
          let c = collect_begins K e ks ws b fit (omega arith) q in
          let ev = collect_begun K b (starting s (collect b)) c in
          let K₁ = knows_begun K (starting s (collect b)) (Event.collect b) began_collect ev in
          let D = collect_runs k K₁ b refl (unfold tell in refl) (omega arith) (serials_true s.head k q) in
          let B = admit_now D.knows D.rests (offers D) (omega (arith, D.supply)) (omega (arith, D.serials)) in
          collect_then (world m (Some s) fresh) (world D.m' (Some D.s') fresh) b
          (next_collect m s (starting s (collect b)) ks ws b full13 settled picks c)
          (subst (λ (x : Moment). Finishes x.after (world D.m' (Some D.s') fresh)) (sym ev) D.run) B

-- ---- collectible blocks

collectible_is : (v : List View) (h : Head) (x : ℕ) → x < h.blocks → wholly_clean v x ≡ false → (x ≡ h.block → ⊥) → old_block v h.base x ≡ true → collectible v h x ≡ true
unfolding collectible every
collectible_is v h x l u n o = rw (lt-ltb x h.blocks l, u, no_room h x n, o)

frame_collectible : (v : List View) (h : Head) (f a b x : ℕ) → Frame v h f a b → h.base ≡ f → x < h.blocks → (x ≡ a → ⊥) → (x ≡ b → ⊥) → collectible v h x ≡ true
frame_collectible v h f a b x F e l na nb = collectible_is v h x l (F.used x l na nb) (away F.head_in) (ap (λ (t : ℕ). old_block v t x) e ∙ F.olds x l na nb)
  where
    away : (h.block ≡ a) ⊎ (h.block ≡ b) → x ≡ h.block → ⊥
    away (inl p) q = na (q ∙ p)
    away (inr p) q = nb (q ∙ p)

-- a block without a page from serial f on
old_is : (v : List View) (f x : ℕ) → ((q : ℕ) (pg : Page) → q / 16 ≡ x → seen v q ≡ whole pg → pg.serial < f) → old_block v f x ≡ true
unfolding old_block
old_is v f x h = below_all 16 (λ i. not (reaches_base f (seen v (16 * x + i)))) (λ i l. ap not (go i l (seen v (16 * x + i)) refl))
  where
    go : (i : ℕ) → i < 16 → (y : View) → seen v (16 * x + i) ≡ y → reaches_base f (seen v (16 * x + i)) ≡ false
    go i l clean e = rw e (unfold reaches_base in refl)
    go i l spoilt e = rw e (unfold reaches_base in refl)
    go i l (whole pg) e = rw e (unfold reaches_base in borrow.Author.Tests.lt-leb f pg.serial (h (16 * x + i) pg (omega arith) e))

pages_most : (n k : ℕ) → n ≤ 24 * k → pages_for n ≤ k
unfolding pages_for
pages_most n k h = omega arith

base_some : (n : ℕ) → n ≤ 192 → (1 ≤ base_pages n) × (base_pages n ≤ 8)
unfolding base_pages pages_for
base_some n h = (omega arith, omega arith)

-- a page that stops a scan
record Stop (n : ℕ) (f : ℕ → Bool) : Type 0 where
  at : ℕ
  so : f at ≡ false

stop_of : (n : ℕ) (f : ℕ → Bool) → all_below n f ≡ false → Stop n f
unfolding all_below
stop_of zero f e = true_false refl e
stop_of (suc n) f e =
    by_cases (f n) (λ t. by_cases (all_below n f) (λ a. true_false (and_both a t) e) (λ a. let s = stop_of n f a in record { at = s.at; so = s.so }))
    (λ t. record { at = n; so = t })

-- the newest page, where it ends a base
record BaseLast (v : List View) : Type 0 where
  at : ℕ
  page : Page
  is : seen v at ≡ whole page
  serial : page.serial ≡ greatest_serial v
  base : base_end page ≡ true

base_end_lem : (pg : Page) → eqb pg.kind 2 ≡ true → ends pg ≡ true → base_end pg ≡ true
unfolding base_end
base_end_lem pg a b = and_both a b

base_last : (v : List View) → newer v ≡ false → BaseLast v
unfolding newer
base_last v e = go (seen v s.at) refl (not-false (ends_base (greatest_serial v) (seen v s.at)) s.so)
  where
    s : Stop (length v) (λ p. not (ends_base (greatest_serial v) (seen v p)))
    s = stop_of (length v) (λ p. not (ends_base (greatest_serial v) (seen v p))) e

    go : (x : View) → seen v s.at ≡ x → ends_base (greatest_serial v) (seen v s.at) ≡ true → BaseLast v
    go clean q t = true_false (rw q at t) (unfold ends_base in refl)
    go spoilt q t = true_false (rw q at t) (unfold ends_base in refl)
    go (whole pg) q t =
        let z : every (eqb pg.serial (greatest_serial v) ∷ eqb pg.kind 2 ∷ ends pg ∷ []) ≡ true = unfold ends_base in (rw q at t) in
        record { at = s.at; page = pg; is = q; serial = eqb-true pg.serial (greatest_serial v) (every_at 0 _ z); base = base_end_lem pg (every_at 1 _ z) (every_at 2 _ z) }

-- ---- the bound

module _ {m : List ℕ} {s : Held} {h : History} (K : Known m s h) (rests : s.pending ≡ idle) (ks ws : List ℕ) (narrow : Below (2 ^ 16) ks) (small : Below (2 ^ 64) ws)
    (full13 : append_of (length m) (views m) s fresh ks ws ≡ refused 13) (many : 16 ≤ available (views m) s.head) where
  abbrev v : List View
  v = views m

  -- the next serial after all pages that the way takes
  abbrev t : ℕ
  t = s.head.serial + (pages_before v s + pages_for (length ks))

  fulls : Full v s ks ws
  fulls = full_of (length m) v s fresh ks ws full13

  few : pages_for (length ks) ≤ 4
  few = few_pages ks ws fulls.offer.lists

  short : available v s.head < pages_for (length ks) + 16
  short = leb-false (pages_for (length ks) + 16) (available v s.head) (unfold room_for in fulls.short)

  -- exactly one block other than the head is clean
  one_spare : count_below s.head.blocks (spare v s.head.block) ≡ 1
  one_spare =
      let a : 16 ≤ 16 - s.head.next + 16 * count_below s.head.blocks (spare v s.head.block) = unfold available in many in
      let b : 16 - s.head.next + 16 * count_below s.head.blocks (spare v s.head.block) < pages_for (length ks) + 16 = unfold available in short in
      omega (arith, few, K.ready.heads.low)

  spare_one : Witness s.head.blocks (spare v s.head.block)
  spare_one = count_witness s.head.blocks (spare v s.head.block) (omega (arith, one_spare))

  used : (x : ℕ) → x < s.head.blocks → (x ≡ s.head.block → ⊥) → (x ≡ spare_one.at → ⊥) → wholly_clean v x ≡ false
  used x l nh ns =
      by_cases (wholly_clean v x)
      (λ e. absurd (let t = count_two s.head.blocks (spare v s.head.block) x spare_one.at l spare_one.below ns (spare_is v s.head.block x nh e) spare_one.so in omega
      (arith, one_spare)))
      (λ e. e)

  frame₀ : Frame v s.head s.head.serial s.head.block spare_one.at
  frame₀ = record { head_in = inl refl; used = used; olds = λ x l na nb. old_is v s.head.serial x (λ q pg e y. serials_bound K q pg y) }

  -- the newest page ends a base: one collection
  settled : newer v ≡ false → Comes ks ws t 0 1 (world m (Some s) fresh)
  settled e =
      let B = N.best_of in
      let p : pages_for (length (live s.index N.block)) ≤ 8 = pages_most (length (live s.index N.block)) 8 (omega (arith, live_few N.block s.index, index_few K)) in
      let a : pages_before v s ≡ 8 = unfold pages_before in rw e in
      collect_once ks ws narrow small t K rests fulls.offer full13 e N.block 8 N.is B.fits p (omega arith)
      (omega (arith, few)) (omega (arith, a))
    where
      L : BaseLast v
      L = base_last v e

      next_serial_lem : suc L.page.serial ≡ s.head.serial
      next_serial_lem = omega (arith, L.serial, serials_known K)

      in_head : L.at / 16 ≡ s.head.block
      in_head = K.stands.newest L.at L.page L.is next_serial_lem

      pair : InTwo v s.head.base (L.at / 16)
      pair = K.stands.based.two L.at L.page L.is next_serial_lem L.base

      free : One s.head.block spare_one.at pair.other
      free = one s.head.block spare_one.at pair.other

      inside : free.x < s.head.blocks
      inside = omega (arith, free.lx, four K)

      no_base_page : (q : ℕ) (pg : Page) → q / 16 ≡ free.x → seen v q ≡ whole pg → pg.serial < s.head.base
      no_base_page q pg i y = go (dec_lt pg.serial s.head.base)
        where
          apart : (q / 16 ≡ L.at / 16) ⊎ (q / 16 ≡ pair.other) → ⊥
          apart (inl z) = free.xa (sym i ∙ z ∙ in_head)
          apart (inr z) = free.xc (sym i ∙ z)

          go : Dec (pg.serial < s.head.base) → pg.serial < s.head.base
          go (yes k) = k
          go (no k) = absurd (apart (pair.each q pg y (omega arith)))

      N : Named v s.head s.index s.head.blocks
      N = names v s.head s.index s.head.blocks free.x inside
          (collectible_is v s.head free.x inside (used free.x inside free.xa free.xb) free.xa (old_is v s.head.base free.x no_base_page))

  -- after a commit: at once, or one collection
  module _ (c : ℕ) (D : CommitDone m (starting s (commit 0)) c s.head.serial s.head.block spare_one.at) (most : c ≤ 8)
      (counted : c + 4 ≤ pages_before v s) where
    offer₁ : Offer D.s' ks ws
    offer₁ = record { lists = fulls.offer.lists; allowed = fulls.offer.allowed; withins = ap (λ (l : List Place). within l (zip ks ws)) D.indices ∙ fulls.offer.withins }

    pages₁ : 8 ≤ available (views D.m') D.s'.head
    pages₁ = omega (arith, D.supply, many)

    free₁ : Two s.head.block spare_one.at
    free₁ = two s.head.block spare_one.at

    can : (x : ℕ) → x < 4 → (x ≡ s.head.block → ⊥) → (x ≡ spare_one.at → ⊥) → collectible (views D.m') D.s'.head x ≡ true
    can x l na nb = frame_collectible (views D.m') D.s'.head s.head.serial s.head.block spare_one.at x D.frame D.bases (omega (arith, four D.knows)) na nb

    N₁ : Named (views D.m') D.s'.head D.s'.index D.s'.head.blocks
    N₁ = names (views D.m') D.s'.head D.s'.index D.s'.head.blocks free₁.x (omega (arith, free₁.lx, four D.knows)) (can free₁.x free₁.lx free₁.xa free₁.xb)

    -- of two collectible blocks one has at most 96 live nodes
    fewest : length (live D.s'.index N₁.block) ≤ 96
    fewest =
        let a = N₁.best_of.least free₁.x (omega (arith, free₁.lx, four D.knows)) (can free₁.x free₁.lx free₁.xa free₁.xb) in
        let b = N₁.best_of.least free₁.y (omega (arith, free₁.ly, four D.knows)) (can free₁.y free₁.ly free₁.ya free₁.yb) in
        omega (arith, a, b, live_two free₁.x free₁.y D.s'.index free₁.xy, index_few D.knows)

    then_collect : room_for (views D.m') D.s'.head (pages_for (length ks) + 16) ≡ false
        → Comes ks ws t 0 1 (world D.m' (Some D.s') fresh)
    then_collect e =
        collect_once ks ws narrow small t D.knows D.rests offer₁ (append_full D.knows D.rests ks ws offer₁ e) D.ends_base_lem
        N₁.block 4 N₁.is N₁.best_of.fits
        (pages_most (length (live D.s'.index N₁.block)) 4 (omega (arith, fewest))) (omega (arith, pages₁)) (omega (arith, pages₁, few)) (omega (arith, D.serials))

    then_in : room_for (views D.m') D.s'.head (pages_for (length ks) + 16) ≡ true
        → Comes ks ws t 0 0 (world D.m' (Some D.s') fresh)
    then_in e =
        admit_now ks ws narrow small t D.knows D.rests offer₁
        (leb-true (pages_for (length ks) + 16) (available (views D.m') D.s'.head) (unfold room_for in e))
        (omega (arith, D.serials))

  base : (1 ≤ base_pages (length s.index)) × (base_pages (length s.index) ≤ 8)
  base = base_some (length s.index) (index_few K)

  few_base_pages : suc (base_pages (length s.index) - 1) ≤ 8
  few_base_pages = omega (arith, base.0, base.1)

  base_first_lem : newer v ≡ true → pages_before v s ≡ base_pages (length s.index) + 4
  base_first_lem e = unfold pages_before in rw e

  -- a page is newer than the base: a commit first
  module _ (e : newer v ≡ true) (q : serials_for s.head (base_pages (length s.index)) ≡ true) where
    c : commit_of (length m) v s fresh ≡ gives (starting s (commit 0))
    c = commit_begins K rests ks ws (omega (arith, base.1)) q

    ev : happen (world m (Some s) fresh) Event.commit ≡ moment m (Some (starting s (commit 0))) fresh began_commit
    ev = commit_begun K (starting s (commit 0)) c

    D₁ : CommitDone m (starting s (commit 0)) (suc (base_pages (length s.index) - 1)) s.head.serial s.head.block spare_one.at
    D₁ =
        commit_runs (base_pages (length s.index) - 1) (knows_begun K (starting s (commit 0)) Event.commit began_commit ev) 0
        s.head.serial s.head.block spare_one.at refl
        (omega (arith, base.0)) (omega arith) (omega (arith, base.0, serials_true s.head (base_pages (length s.index)) q)) frame₀

    first : (n : ℕ) → n ≤ 1 → Comes ks ws t 0 n (world D₁.m' (Some D₁.s') fresh) → Comes ks ws t 1 1 (world m (Some s) fresh)
    first n l B =
        comes_wider
        (commit_then (world m (Some s) fresh) (world D₁.m' (Some D₁.s') fresh)
        (next_commit m s (starting s (commit 0)) ks ws full13 e c)
        (subst (λ (x : Moment). Finishes x.after (world D₁.m' (Some D₁.s') fresh)) (sym ev) D₁.run) B)
        (omega arith) l

    after_commit : Comes ks ws t 1 1 (world m (Some s) fresh)
    after_commit =
        by_cases (room_for (views D₁.m') D₁.s'.head (pages_for (length ks) + 16))
        (λ r. first 0 (omega arith) (then_in (suc (base_pages (length s.index) - 1)) D₁ few_base_pages counted_base r))
        (λ r. first 1 (omega arith) (then_collect (suc (base_pages (length s.index) - 1)) D₁ few_base_pages counted_base r))
      where
        counted_base : suc (base_pages (length s.index) - 1) + 4 ≤ pages_before v s
        counted_base = omega (arith, base.0, base_first_lem e)

  unsettled : newer v ≡ true → Comes ks ws t 1 1 (world m (Some s) fresh)
  unsettled e =
      by_cases (serials_for s.head (base_pages (length s.index))) (λ q. after_commit e q)
      (λ q. stops (world m (Some s) fresh) (next_commit_14 m s ks ws full13 e (commit_short K rests ks ws (omega (arith, base.1)) q))
      (omega (arith, base_first_lem e, serials_false s.head (base_pages (length s.index)) q)))

  comes : Comes ks ws t 1 1 (world m (Some s) fresh)
  comes = by_cases (newer v) (λ e. unsettled e) (λ e. comes_wider (settled e) (omega arith) (omega arith))

-- the next serial after all pages that the way takes
abbrev serial_after : World → Held → List ℕ → ℕ
serial_after w s ks = s.head.serial + (pages_before (views w.medium) s + pages_for (length ks))

-- the group is let in, or serials run out, which they do only where there is not one for each page
let_in_or_14 : (w : World) (h : History) (s : Held) (ks ws : List ℕ) → Meets13 w h s ks ws → Comes ks ws (serial_after w s ks) 1 1 w
let_in_or_14 w h s ks ws M =
    let q : w ≡ world w.medium (Some s) fresh = rw (M.state, M.empty) in
    rw q (comes (known w.medium s h (rw q at M.reached)) M.rests ks ws M.narrow M.small (rw M.empty at M.met13)
    M.pages)

pub sharper : Sharper
unfolding Sharper Suffice
sharper w h s ks ws M S = go (let_in_or_14 w h s ks ws M)
  where
    go : Comes ks ws (serial_after w s ks) 1 1 w → Bounded ks ws 1 1 w
    go (inl B) = B
    go (inr X) = absurd (S X.operations X.end X.leads X.named)

pub bound : Bound
unfolding Bound Sharper
bound w h s ks ws M S = wider (sharper w h s ks ws M S) (omega arith) (omega arith)

pub by_pages : ByPages
unfolding ByPages Needed
by_pages w h s ks ws M k = go (let_in_or_14 w h s ks ws M)
  where
    go : Comes ks ws (serial_after w s ks) 1 1 w → Suffice ks ws w
    go (inl B) = needed ks ws B.operations w B.end B.admits
    go (inr X) = absurd (omega (arith, X.short))

-- at most 12 pages before the group's
few_before : (v : List View) (s : Held) → length s.index ≤ 192 → pages_before v s ≤ 12
unfolding pages_before
few_before v s l = by_cases (newer v) (λ e. rw e (omega (arith, (base_some (length s.index) l).1))) (λ e. rw e (omega arith))

pub sixteen : Sixteen
unfolding Sixteen ByPages
sixteen w h s ks ws M k = by_pages w h s ks ws M
    (omega (
      arith,
      few_before (views w.medium) s valves,
      few_pages ks ws
          (full_of (length w.medium) (views w.medium) s w.buffer ks ws M.met13).offer.lists,
    ))
  where
    valves : length s.index ≤ 192
    valves = index_few (known w.medium s h
        (let q : w ≡ world w.medium (Some s) fresh = rw (M.state, M.empty) in rw q at M.reached))
