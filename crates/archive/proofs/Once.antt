-- Each change is filed once, in order: along a list whose commits are begun only where nothing has counted since the reading that was filed last.
use mathlib.Core.Path.{◌≡◌, refl, sym, ap, ◌∙◌}
use mathlib.Core.Bool.{true}
use mathlib.Core.Logic.{◌⊎◌, inl, inr}
use Rattle.std.proofs.Common.{Option, None, Some}
use mathlib.Core.List.{List, [], ◌∷◌, ◌++◌, append-nil, append_assoc}
use Prim.Native.Nat.{ℕ, ◌≤◌}
use native.Mathlib.Omega.{arith}
use lib.Dec.{eqb}
use lib.ListN.{length, drop, drop_of_length-le}
use Rattle.lists.specs.Needs.{Answer, refused, gives}
use Rattle.lists.specs.Cells.{Entry, Setting}
use Rattle.lists.proofs.Laws.{by_cases, true_false, some_same, none_some}
use Rattle.page.specs.Pages.{View, changes_of}
use Rattle.page.proofs.More.{changes_append}
use Rattle.flash.specs.Medium.{views}
use Rattle.index.specs.Index.{assign_all}
use Rattle.nodes.specs.Nodes.{words}
use Rattle.state.specs.State.{Held}
use Rattle.recovery.specs.Recovery.{Recovery, recovery_with, recover as recover_of}
use Rattle.news.specs.declared.News.{News}
use Rattle.news.specs.News.{mark, no_mark, news_of}
use Rattle.valve_log.specs.History.{History, start as no_history, Told, unchanged, began_commit, recovery, assign_groups, tell}
use Rattle.valve_log.specs.Reached.{World, world, with_state, step_due, CutOf, Event, stepped, recovered, happen, finishes, Formatting, lent_anew, Before, switched_off, Reached, Shows, Point3}
use Rattle.valve_log.specs.SinceCommit.{commit_counts}
use Rattle.valve_log.specs.Made.{groups_counting, groups_made_before, groups_made, Tallied, MadeTallies}
use Rattle.valve_log.proofs.Made.{before_tallied, made_tallies, tell_empties, is_committing, counts_committing, tell_committing}
use Rattle.valve_log.proofs.Point3.{point3}
use Rattle.valve_log.proofs.Steps.{assign_groups_lem}
use Rattle.fading.specs.Fading.{now}
use Rattle.fading.proofs.Same.{base_found, serial_found}
use Rattle.archive.specs.Archive.{Reading, reading_with, reading_by, read, Archive, archive, nothing_filed, file, Filings, start, taken_over, event, reading, filing}
use Rattle.archive.specs.Archive.{FiledOnce, EndsWith, CheckPasses, CompleteAfterFiling, UpToDate, RuleCanBeKept, LostOtherwise}
use Rattle.archive.proofs.Kept.{new_at, no_changes, new_none, Kept, unmarked_kept, nothing_more, none_after, kept_told, new_told, seen_at, new_filed}
use Rattle.archive.proofs.Kept.{news_right, read_now}
use Rattle.archive.proofs.Moments.{base_in, serial_in, rises_in, never_falls, KeptIn, KeptSince, KeptFrom, AllMoments, kept_at, since_next, first_since, file_since}

-- ---- a reading

module _ (w : World) (h : History) (r : Reached w h) where
  shows_in : Shows w.medium h
  shows_in = unfold Point3 in point3 w h r

  base_in_lem : shows_in.state.head.base ≡ base_in w
  base_in_lem = base_found (length w.medium) (views w.medium) shows_in.log shows_in.state shows_in.accepts

  serial_in_lem : shows_in.state.head.serial ≡ serial_in w
  serial_in_lem = serial_found (length w.medium) (views w.medium) shows_in.log shows_in.state shows_in.accepts

  pub tallied : Tallied (groups_made r) h
  tallied = unfold MadeTallies in made_tallies w h r

  read_in : (a : Archive) → KeptIn a w h r → read a.mark w.medium ≡ Some (seen_at a (base_in w) (serial_in w) h)
  read_in a K = read_now w.medium h shows_in (base_in w) (serial_in w) base_in_lem serial_in_lem a K

-- the settings of a history are what the changes lead to that were filed and are new
pub sets_filed : {a : Archive} {b s : ℕ} (h : History) {made : List (List Entry)} → Kept a b s h.log made → Tallied made h → h.settings ≡ assign_all [] (a.filed ++ new_at a.mark b (changes_of h.log))
sets_filed {a} {b} h {made} K T = sym (ap (assign_all []) K.once ∙ sym (assign_groups_lem [] made) ∙ T.sets)

-- ---- the archive along a list, with what has counted since

pub record Good (a : Archive) (since : List (List Entry)) (w : World) (h : History) (r : Reached w h) : Type 0 where
  pub next : a.mark.serial ≤ serial_in w
  pub all : KeptSince a w h r
  pub new : new_at a.mark (base_in w) (changes_of h.log) ≡ changes_of since
  pub sets : a.settings ≡ assign_all [] a.filed

pub kept_now : {a : Archive} {since : List (List Entry)} (w : World) (h : History) (r : Reached w h) → Good a since w h r → KeptIn a w h r
kept_now w h r G = kept_at r w h r G.all now G.next

-- one event
good_next : {a : Archive} {since : List (List Entry)} (w : World) (h : History) (r : Reached w h) (e : Event w) → Good a since w h r → (commit_counts h (happen w e).told ≡ true → since ≡ [])
    → Good a (since ++ groups_counting h (happen w e).told) (happen w e).after (tell h (happen w e).told) (Reached.next w h e r)
unfolding groups_made
good_next {a} {since} w h r e G rule =
    let v = (happen w e).after in
    let t = (happen w e).told in
    let K = kept_now w h r G in
    let R = rises_in w h r e in
    let f = never_falls w h r e in
    record {
      next = omega (arith, G.next, f);
      all = since_next w h r e G.all (kept_told h K t (base_in v) (serial_in v) R f (λ c. G.new ∙ ap changes_of (rule c) ∙ no_changes));
      new = new_told h K t (base_in v) (serial_in v) R f since G.new rule;
      sets = G.sets;
    }

-- a reading filed at once
good_file : {a : Archive} {since : List (List Entry)} (w : World) (h : History) (r : Reached w h) → Good a since w h r → Good (file a (seen_at a (base_in w) (serial_in w) h)) [] w h r
unfolding file
good_file {a} w h r G =
    record {
      next = omega arith;
      all = file_since a r G.next w h r now G.all;
      new = new_filed a (base_in w) (serial_in w) h ∙ sym no_changes;
      sets = sets_filed h (kept_now w h r G) (tallied w h r);
    }

-- filed, what was read would do
pub record Waits (a : Archive) (since : List (List Entry)) (x : Reading) (later : List (List Entry)) (w : World) (h : History) (r : Reached w h) : Type 0 where
  pub good : Good (file a x) later w h r
  pub ends : EndsWith since later

unfoldable pub WaitsFor : Archive → List (List Entry) → Option Reading → List (List Entry) → (w : World) (h : History) → Reached w h → Type 0
WaitsFor a since None later w h r = Unit {0}
WaitsFor a since (Some x) later w h r = Waits a since x later w h r

-- No commit is under way where something has counted since; or there is no state, so that none goes on: what the program before Paper 8 had begun is lost.
abbrev Busy : List (List Entry) → World → History → Type 0
Busy since w h = (w.state ≡ None) ⊎ (is_committing h.under_way ≡ true → since ≡ [])

pub record Along (a : Archive) (since : List (List Entry)) (p : Option Reading) (later : List (List Entry)) (w : World) (h : History) (r : Reached w h) : Type 0 where
  pub good : Good a since w h r
  pub busy : Busy since w h
  pub waits : WaitsFor a since p later w h r

-- without a state a history is told nothing, and no state comes, or a recovery
abbrev StillOff : Told → Option Held → Type 0
StillOff t s = ((t ≡ unchanged) × (s ≡ None)) ⊎ (t ≡ recovery)

recovered_off : (w : World) (R : Answer Recovery) → w.state ≡ None → StillOff (recovered w R).told (recovered w R).after.state
unfolding recovered
recovered_off w (refused n) q = inl (refl, q)
recovered_off w (gives r) q = inr refl

happen_off : (m : List ℕ) (s : Option Held) (bs : List ℕ) (e : Event (world m s bs)) → s ≡ None
    → StillOff (happen (world m s bs) e).told (happen (world m s bs) e).after.state
unfolding happen with_state step_due stepped
happen_off m (Some s) bs e q = none_some (sym q)
happen_off m None bs (Event.append ks ws a b) q = inl (refl, refl)
happen_off m None bs Event.commit q = inl (refl, refl)
happen_off m None bs (Event.collect b) q = inl (refl, refl)
happen_off m None bs (Event.buffer ks ws a b) q = inl (refl, refl)
happen_off m None bs Event.flush q = inl (refl, refl)
happen_off m None bs Event.step q = inl (refl, refl)
happen_off m None bs Event.recover q = recovered_off (world m None bs) _ refl
happen_off m None bs Event.read q = inl (refl, refl)
happen_off m None bs Event.cut q = inl (refl, refl)
happen_off m None bs (Event.cut_inside left c) q = absurd (unfold CutOf in c)

no_count_off : (h : History) (t : Told) {s : Option Held} → StillOff t s → commit_counts h t ≡ true → ⊥
unfolding commit_counts
no_count_off h t (inl x) c = true_false (rw x.0 at c) refl
no_count_off h t (inr x) c = true_false (rw x at c) refl

busy_counts : {since : List (List Entry)} (w : World) (h : History) (e : Event w) → Busy since w h → commit_counts h (happen w e).told ≡ true → since ≡ []
busy_counts w h e (inl q) c = absurd (no_count_off h (happen w e).told (happen_off w.medium w.state w.buffer e q) c)
busy_counts w h e (inr f) c = f (counts_committing h (happen w e).told c)

busy_off : (since : List (List Entry)) (w : World) (h : History) (t : Told) → StillOff t w.state → Busy since w (tell h t)
unfolding tell is_committing
busy_off since w h t (inl x) = inl x.1
busy_off since w h t (inr x) = rw x (inr (λ c. true_false c refl))

busy_next : {since : List (List Entry)} (w : World) (h : History) (e : Event w) → Busy since w h → ((happen w e).told ≡ began_commit → since ≡ [])
    → Busy (since ++ groups_counting h (happen w e).told) (happen w e).after (tell h (happen w e).told)
busy_next w h e (inl q) rule = busy_off _ (happen w e).after h (happen w e).told (happen_off w.medium w.state w.buffer e q)
busy_next w h e (inr f) rule = inr (λ c. tell_committing h (happen w e).told c (λ b n. rw (rule b, n)) (λ b n. rw (f b, n)))

busy_filed : {since later : List (List Entry)} (w : World) (h : History) → EndsWith since later → Busy since w h → Busy later w h
busy_filed w h E (inl q) = inl q
busy_filed {later = later} w h E (inr f) = inr (λ c. none_after E.before later (sym E.is ∙ f c))

waits_next : (a : Archive) (since : List (List Entry)) (p : Option Reading) (later : List (List Entry)) (w : World) (h : History) (r : Reached w h) (e : Event w)
    → WaitsFor a since p later w h r → (commit_counts h (happen w e).told ≡ true → since ≡ [])
    → WaitsFor a (since ++ groups_counting h (happen w e).told) p (later ++ groups_counting h (happen w e).told) (happen w e).after (tell h (happen w e).told) (Reached.next w h e r)
unfolding WaitsFor
waits_next a since None later w h r e W rule = tt
waits_next a since (Some x) later w h r e W rule =
    let E = W.ends in
    let g = groups_counting h (happen w e).told in
    record {
      good = good_next w h r e W.good (λ c. none_after E.before later (sym E.is ∙ rule c));
      ends = record { before = E.before; is = ap (λ (l : List (List Entry)). l ++ g) E.is ∙ append_assoc E.before later g };
    }

along_start : (w : World) (h : History) (r : Reached w h) → KeptIn nothing_filed w h r → KeptSince nothing_filed w h r → h.log ≡ []
    → Along nothing_filed [] None [] w h r
unfolding WaitsFor assign_all
along_start w h r K S l =
    record {
      good = record { next = omega arith; all = S; new = rw l (new_none nothing_filed.mark (base_in w) ∙ sym no_changes); sets = refl };
      busy = inr (λ e. refl);
      waits = tt;
    }

-- where a list starts with nothing filed there is one moment
start_since : {v : World} (F : Formatting v) (e : finishes (step_due v) ≡ true)
    → KeptIn nothing_filed (lent_anew (happen v Event.step).after) no_history (Reached.start v F e)
    → KeptSince nothing_filed (lent_anew (happen v Event.step).after) no_history (Reached.start v F e)
unfolding KeptSince KeptFrom AllMoments
start_since F e K l = K

-- the first reading of a medium taken over, filed
module _ (w : World) (h : History) (b : Before w h) (before : List Entry) (made : before ++ changes_of h.log ≡ changes_of (groups_made_before b)) where
  taken_kept : KeptIn (archive before [] no_mark) (switched_off w) h (Reached.taken_over b)
  unfolding groups_made
  taken_kept = unmarked_kept before [] (base_in w) (serial_in w) h.log (groups_made_before b) made

  taken_read : read no_mark w.medium ≡ Some (seen_at (archive before [] no_mark) (base_in w) (serial_in w) h)
  taken_read = read_in (switched_off w) h (Reached.taken_over b) (archive before [] no_mark) taken_kept

along_taken : (w : World) (h : History) (b : Before w h) (before : List Entry) (x : Reading) → before ++ changes_of h.log ≡ changes_of (groups_made_before b)
    → read no_mark w.medium ≡ Some x → Along (file (archive before [] no_mark) x) [] None [] (switched_off w) h (Reached.taken_over b)
unfolding WaitsFor file
along_taken w h b before x made e =
    let a = archive before [] no_mark in
    let r : Reached (switched_off w) h = Reached.taken_over b in
    let K = taken_kept w h b before made in
    let z : x ≡ seen_at a (base_in w) (serial_in w) h = some_same (sym e ∙ taken_read w h b before made) in
    rw z
    (record {
      good =
          record {
            next = omega arith;
            all = first_since a (switched_off w) h r K;
            new = new_filed a (base_in w) (serial_in w) h ∙ sym no_changes;
            sets = sets_filed h K (tallied (switched_off w) h r);
          };
      busy = inl refl;
      waits = tt;
    })

pub along_filings : (w : World) (h : History) (r : Reached w h) (a : Archive) (since : List (List Entry)) (p : Option Reading) (later : List (List Entry))
    → Filings w h r a since p later → Along a since p later w h r
unfolding groups_made WaitsFor
along_filings w h r a since p later (start F e) =
    let K : KeptIn nothing_filed w h r = unmarked_kept [] [] (base_in w) (serial_in w) [] [] refl in
    along_start w h r K (start_since F e K) refl
along_filings w h r a since p later (taken_over {w = v} {h = g} b before {x = x} m e) = along_taken v g b before x m e
along_filings w h r a since p later (event {w = v} {h = g} {r = q} {since = s} {later = l} e F rule) =
    let A = along_filings v g q a s p l F in
    let t = (happen v e).told in
    let counts : commit_counts g t ≡ true → s ≡ [] = busy_counts v g e A.busy in
    record {
      good = good_next v g q e A.good counts;
      busy = busy_next v g e A.busy rule;
      waits = waits_next a s p l v g q e A.waits counts;
    }
along_filings w h r a since p later (reading {later = l} {p = q} F) =
    let A = along_filings w h r a since q l F in
    let K = kept_now w h r A.good in
    record {
      good = A.good;
      busy = A.busy;
      waits = rw (read_in w h r a K) (record { good = good_file w h r A.good; ends = record { before = since; is = sym (append-nil since) } });
    }
along_filings w h r a since p later (filing {a = old} {since = s} {x = x} F) =
    let A = along_filings w h r old s (Some x) since F in
    let W = A.waits in
    record { good = W.good; busy = busy_filed w h W.ends A.busy; waits = tt }

-- ---- the claims

pub filed_once : FiledOnce
unfolding FiledOnce
filed_once w h r a since later p F =
    let G = (along_filings w h r a since p later F).good in
    record { all = ap (◌++◌ a.filed) (sym G.new) ∙ (kept_now w h r G).once; settings = G.sets }

pub check_passes : CheckPasses
unfolding CheckPasses
check_passes w h r a since later p F =
    let G = (along_filings w h r a since p later F).good in
    let T = tallied w h r in
    news_right w.medium h (shows_in w h r) (base_in w) (serial_in w) (base_in_lem w h r) (serial_in_lem w h r) a (kept_now w h r G) since T.before T.ends G.new

pub complete_after_filing : CompleteAfterFiling
unfolding CompleteAfterFiling file
complete_after_filing w h r a since later p F =
    let K = kept_now w h r (along_filings w h r a since p later F).good in
    record { reading = seen_at a (base_in w) (serial_in w) h; reads = read_in w h r a K; all = K.once; settings = refl }

-- read and file after every event
filed_now : (w : World) (h : History) (r : Reached w h) (a : Archive) (since : List (List Entry)) (p : Option Reading) (later : List (List Entry))
    → Filings w h r a since p later → UpToDate r
filed_now w h r a since p later F =
    let K = kept_now w h r (along_filings w h r a since p later F).good in
    record { has = file a (seen_at a (base_in w) (serial_in w) h); filings = filing (rw (read_in w h r a K) at (reading F)) }

pub rule_can_be_kept : RuleCanBeKept
unfolding RuleCanBeKept
rule_can_be_kept w h (Reached.start v F e) = record { has = nothing_filed; filings = start F e }
rule_can_be_kept w h (Reached.next v g e r) =
    let A = rule_can_be_kept v g r in
    filed_now w h (Reached.next v g e r) A.has _ None _ (event e A.filings (λ q. refl))
rule_can_be_kept w h (Reached.taken_over {w = v} {h = g} b) =
    let T = before_tallied v g b in
    let before = changes_of T.before in
    let made : before ++ changes_of g.log ≡ changes_of (groups_made_before b) = sym (ap changes_of T.ends ∙ changes_append T.before g.log) in
    record { has = _; filings = taken_over b before made (taken_read v g b before made) }

-- ---- the rule is needed

-- of an empty log nothing is new, whatever the mark
reads_nothing : (n : News) (v : List View) (R : Recovery) (x : Reading) → R.log ≡ [] → reading_by n v (gives R) ≡ Some x → x.new ≡ []
unfolding reading_by
reads_nothing n v R x e f =
    by_cases (eqb n.number 0)
    (λ q.
    let i : reading_with (drop n.first (changes_of R.log)) (words v R.state.index) (mark n.base n.serial n.count) ≡ x = some_same (rw q at f) in
    sym (ap (λ (y : Reading). y.new) i) ∙ ap (drop n.first) (ap changes_of e ∙ no_changes) ∙ drop_of_length-le [] {i = n.first} (omega arith))
    (λ q. none_some (rw q at f))

pub lost_otherwise : LostOtherwise
unfolding LostOtherwise groups_made file
lost_otherwise w h r a missing f some-missing e c x s z =
    let E = tell_empties h (happen w e).told c in
    let v = (happen w e).after in
    let g = tell h (happen w e).told in
    let S = shows_in v g (Reached.next w h e r) in
    let o : x.new ≡ [] =
    reads_nothing (news_of a.mark v.medium) (views v.medium) (recovery_with S.log S.state) x (S.same_log ∙ E.empty)
    (sym (ap (reading_by (news_of a.mark v.medium) (views v.medium)) S.accepts) ∙ (unfold read in s)) in
    let m : changes_of (groups_made r ++ groups_counting h (happen w e).told) ≡ a.filed ++ missing =
    ap (λ (l : List (List Entry)). changes_of (groups_made r ++ l)) E.none ∙ ap changes_of (append-nil (groups_made r)) ∙ sym f in
    some-missing (nothing_more a.filed missing (sym (append-nil a.filed) ∙ ap (◌++◌ a.filed) (sym o) ∙ z ∙ m))
