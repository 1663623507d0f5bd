-- A commit that comes too early, on a medium of 4 blocks that was just formatted.
use mathlib.Core.Path.{◌≡◌, refl, sym, ap, subst, ◌∙◌}
use mathlib.Core.Bool.{Bool, true, false}
use Rattle.std.proofs.Common.{Option, Some}
use mathlib.Core.List.{List, [], ◌∷◌, ◌++◌}
use Prim.Native.Nat.{ℕ, suc, ◌+◌, ◌*◌, ◌/◌, ◌^◌, ◌≤◌, ◌<◌}
use native.Mathlib.Omega.{arith}
use lib.Dec.{eqb}
use lib.ListN.{length, set, replicate, length-replicate}
use Rattle.lists.specs.Lists.{Bytes, Below, all, every, value_or, all_below, count_below, one_if}
use Rattle.lists.specs.Needs.{Answer, gives, under}
use Rattle.lists.specs.Cells.{cell, Entry}
use Rattle.lists.proofs.Laws.{same_given, below_nil, below_cons}
use Rattle.codec.specs.Codec.{blank}
use Rattle.codec.proofs.Put.{length_blank, bytes_blank}
use Rattle.page.specs.Pages.{Page, View, clean, whole, is_clean, page, pages_for, changes_of}
use Rattle.page.proofs.Buffer.{gathered_blank}
use Rattle.flash.specs.Medium.{views, seen, wholly_clean, programmed}
use Rattle.flash.proofs.Laws.{length_views}
use Rattle.flash.proofs.Steps.{program_views, program_length}
use Rattle.blocks.specs.Blocks.{size_ok, spare, available, page_due}
use Rattle.index.specs.Index.{rising, rising_from, put, assign, assign_all, within, entry_allowed, entries_allowed}
use Rattle.blocks.specs.declared.Head.{Head}
use Rattle.state.specs.State.{Pending, Held, held, head_fit, place_fit, index_fit, group_ok, done_fit, base_pages, pending_fit, fit, is_idle, groups_fit, buffer_fit, fit_with, buffered_in}
use Rattle.calls.specs.Calls.{starting, holds_none, lists_ok, room_for, serials_for, append_of, commit_of, zip, formatting}
use Rattle.step.specs.Step.{Step, is_last, group_page, flags_of, head_after, addressed_from, addressed, appended, committed, programming, append_step, commit_step, due, programs_due, needs_erase}
use Rattle.step.specs.Step.{erased_first, step_of, medium_after, buffer_after}
use Rattle.valve_log.specs.History.{History, start as no_history, Told, began_append, began_commit, stepped_page, counted, tell}
use Rattle.valve_log.specs.Reached.{World, world, fresh, with_state, step_due, Event, Moment, moment, called, stepped, happen, finishes, Reached}
use Rattle.valve_log.specs.SinceCommit.{commit_ends_next, commit_counts}
use Rattle.valve_log.specs.Finished.{steps_on, Finished, FormattingFinishes}
use Rattle.valve_log.specs.Made.{groups_finished, groups_counting, groups_made}
use Rattle.valve_log.proofs.Due.{Programs, Good}
use Rattle.valve_log.proofs.Events.{there, due_good}
use Rattle.valve_log.proofs.Formats.{base_page, started, in_format, starts}
use Rattle.valve_log.proofs.Finished.{begun_there, under_way_lem, formatting_finishes}
use Rattle.valve_log.proofs.Point3.{reached_upheld}
use Rattle.news.specs.News.{mark, no_mark, news_of}
use Rattle.archive.specs.Archive.{reading_with, read, nothing_filed, LostOtherwise}
use Rattle.archive.specs.Examples.{move, written, TooEarly}
use Rattle.archive.proofs.Once.{lost_otherwise}
use Rattle.archive.proofs.Examples.{archive_examples}

-- ---- events by the pages of the medium

module _ (m : List ℕ) (v : List View) (s s' : Held) (sees : views m ≡ v) (long : length m ≡ 16384) where
  append_on : (ks ws : List ℕ) (a : Below (2 ^ 16) ks) (b : Below (2 ^ 64) ws) → append_of 16384 v s fresh ks ws ≡ gives s'
      → happen (world m (Some s) fresh) (Event.append ks ws a b) ≡ moment m (Some s') fresh (began_append (zip ks ws))
  unfolding happen with_state called
  append_on ks ws a b e = rw (long, sees, e) refl

  commit_on : commit_of 16384 v s fresh ≡ gives s' → happen (world m (Some s) fresh) Event.commit ≡ moment m (Some s') fresh began_commit
  unfolding happen with_state called
  commit_on e = rw (long, sees, e) refl

  step_on : (p : ℕ) (pg : Page) (finished : Bool) → eqb pg.kind 4 ≡ false → step_of 16384 v s fresh ≡ gives (Step.program p pg s' finished)
      → happen (world m (Some s) fresh) Event.step ≡ moment (programmed m p pg) (Some s') fresh stepped_page
  unfolding happen with_state step_due stepped medium_after buffer_after
  step_on p pg finished k e = rw (long, sees, e, k) refl

-- a list that leads to a world and a history, and what was made along it
record Leads (w : World) (h : History) (made : List (List Entry)) : Type 0 where
  pub list : Reached w h
  pub is : groups_made list ≡ made

leads_next : {made : List (List Entry)} (w : World) (h : History) (e : Event w) (k : Moment) → happen w e ≡ k → Leads w h made
    → Leads k.after (tell h k.told) (made ++ groups_counting h k.told)
unfolding groups_made
leads_next w h e k i L = rw (← i) (record { list = Reached.next w h e L.list; is = ap (λ (l : List (List Entry)). l ++ groups_counting h (happen w e).told) L.is })

-- the pages after a step on a page
module _ (m : List ℕ) (s : Held) (h : History) (r : Reached (world m (Some s) fresh) h) (p : ℕ) (pg : Page) (s' : Held) (finished : Bool)
    (e : step_of (length m) (views m) s fresh ≡ gives (Step.program p pg s' finished)) where
  programs : Programs (views m) s fresh h p pg s'
  programs = unfold Good in (subst (Good (views m) s fresh h) e (due_good m s fresh h (reached_upheld (world m (Some s) fresh) h r)))

  in_it : 256 * p + 256 ≤ length m
  in_it = there m s fresh h (reached_upheld (world m (Some s) fresh) h r) p pg s' programs

  sees_after : views (programmed m p pg) ≡ set (views m) p (whole pg)
  sees_after = program_views m p pg in_it programs.fits_in

  long_after : length (programmed m p pg) ≡ length m
  long_after = program_length m p pg in_it programs.fits_in.count

-- ---- a medium of 4 blocks, formatted

record Formatted : Type 0 where
  pub medium : List ℕ
  pub erased : List Bool
  pub leads : Leads (world medium (Some (started 4 erased)) fresh) no_history []
  pub sees : views medium ≡ written 1
  pub long : length medium ≡ 16384

formatted : (m : List ℕ) → Bytes m → length m ≡ 16384 → Formatted
unfolding FormattingFinishes groups_made steps_on
formatted m b n =
    let size : size_ok (length m) ≡ true = rw n (unfold size_ok every in refl) in
    let last = formatting_finishes m b size in
    let first : Held → World = λ s. steps_on (length m / 4096) (world m (Some s) fresh) in
    let begun = formatting (length m / 4096) in
    let same : last.state ≡ begun = same_given (sym last.begun ∙ begun_there (length m) size) in
    let over : finishes (step_due (first begun)) ≡ true = subst (λ (s : Held). finishes (step_due (first s)) ≡ true) same last.last in
    let long : length (happen (first begun) Event.step).after.medium ≡ length m =
    subst (λ (s : Held). length (happen (first s) Event.step).after.medium ≡ length m) same last.same_length in
    let F = under_way_lem m b size (length m / 4096) (omega arith) in
    let B = starts (first begun).medium (first begun).buffer (first begun).state (in_format (first begun) F) over in
    let after = (happen (first begun) Event.step).after in
    let pages : B.pages ≡ 63 = omega (arith, ap length B.sees, length_views after.medium, length-replicate {A = View} B.pages clean, long, n) in
    let blocks : length after.medium / 4096 ≡ 4 = omega (arith, long, n) in
    record {
      medium = after.medium;
      erased = B.erased;
      leads =
          subst (λ (s : Option Held). Leads (world after.medium s fresh) no_history []) (B.holds ∙ ap (λ (k : ℕ). Some (started k B.erased)) blocks)
          (record { list = Reached.start (first begun) F over; is = refl });
      sees = B.sees ∙ ap (λ (k : ℕ). whole base_page ∷ replicate k clean) pages;
      long = long ∙ n;
    }

-- ---- the calls

abbrev page_of_group : Page
page_of_group = page 1 3 2 move

abbrev page_of_base : Page
page_of_base = page 2 3 3 (cell 5 24 ∷ [])

-- the state once the group counts, with its entry at address 24; once it has counted a commit may begin; and once that counts
abbrev head_with : ℕ → ℕ → ℕ → Head
head_with next serial base = record { blocks = 4; block = 0; next = next; serial = serial; base = base }

abbrev state_with : Head → Pending → List Bool → Held
state_with h p e = held h (cell 5 24 ∷ []) p e

append_begins : (e : List Bool) → append_of 16384 (written 1) (started 4 e) fresh (5 ∷ []) (1000 ∷ []) ≡ gives (starting (started 4 e) (Pending.append move []))
unfolding append_of under size_ok every fit_with fit head_fit index_fit pending_fit buffer_fit groups_fit rising rising_from all is_idle holds_none buffered_in value_or
    lists_ok zip entries_allowed entry_allowed within assign put pages_for room_for serials_for available spare wholly_clean all_below count_below one_if seen is_clean
append_begins e = rw gathered_blank refl

append_counts : (e : List Bool)
    → step_of 16384 (written 1) (starting (started 4 e) (Pending.append move [])) fresh ≡ gives (Step.program 1 page_of_group (state_with (head_with 2 3 1) Pending.idle e) true)
unfolding step_of under size_ok every fit_with fit head_fit index_fit pending_fit group_ok done_fit buffer_fit groups_fit rising rising_from all is_idle entries_allowed entry_allowed
    within assign put pages_for serials_for erased_first needs_erase programs_due due append_step programming page_due is_last seen is_clean
    appended head_after addressed addressed_from assign_all group_page flags_of one_if
append_counts e = rw gathered_blank refl

commit_begins : (e : List Bool) → commit_of 16384 (written 2) (state_with (head_with 2 3 1) Pending.idle e) fresh ≡ gives (state_with (head_with 2 3 1) (Pending.commit 0) e)
unfolding commit_of under size_ok every fit_with fit head_fit index_fit place_fit pending_fit buffer_fit groups_fit rising rising_from all is_idle holds_none buffered_in value_or
    base_pages pages_for room_for serials_for available spare wholly_clean all_below count_below one_if seen is_clean within
commit_begins e = rw gathered_blank refl

commit_steps : (e : List Bool)
    → step_of 16384 (written 2) (state_with (head_with 2 3 1) (Pending.commit 0) e) fresh ≡ gives (Step.program 2 page_of_base (state_with (head_with 3 4 3) Pending.idle e) true)
unfolding step_of under size_ok every fit_with fit head_fit index_fit place_fit pending_fit done_fit base_pages buffer_fit groups_fit rising rising_from all is_idle within pages_for
    serials_for erased_first needs_erase programs_due due commit_step programming page_due is_last seen is_clean committed head_after group_page flags_of one_if
commit_steps e = rw gathered_blank refl

-- ---- the list

small : (n : ℕ) (x : ℕ) → x < n → Below n (x ∷ [])
small n x l = below_cons l (below_nil (omega (arith, l)))

abbrev told_so_far : History
told_so_far = tell (tell (tell no_history (began_append move)) stepped_page) began_commit

made_so_far : (groups_counting no_history (began_append move) ++ groups_counting (tell no_history (began_append move)) stepped_page)
    ++ groups_counting (tell (tell no_history (began_append move)) stepped_page) began_commit ≡ move ∷ []
unfolding groups_counting groups_finished tell pages_for
made_so_far = refl

counts_then : commit_counts told_so_far stepped_page ≡ true
unfolding commit_counts commit_ends_next tell counted pages_for assign_all assign put
counts_then = refl

-- what is read after it, by the pages
reads_then : (m : List ℕ) → views m ≡ written 3 → length m ≡ 16384 → read no_mark m ≡ Some (reading_with [] move (mark 3 4 0))
unfolding read news_of
reads_then m v n = rw (v, n) archive_examples.late

module _ (F : Formatted) where
  abbrev e : List Bool
  e = F.erased

  abbrev one : List ℕ
  one = programmed F.medium 1 page_of_group

  abbrev two : List ℕ
  two = programmed one 2 page_of_base

  begun : Leads (world F.medium (Some (starting (started 4 e) (Pending.append move []))) fresh) (tell no_history (began_append move)) (groups_counting no_history (began_append move))
  unfolding zip
  begun =
      leads_next (world F.medium (Some (started 4 e)) fresh) no_history (Event.append (5 ∷ []) (1000 ∷ []) (small (2 ^ 16) 5 (omega arith)) (small (2 ^ 64) 1000 (omega arith))) _
      (append_on F.medium (written 1) _ _ F.sees F.long (5 ∷ []) (1000 ∷ []) _ _ (append_begins e)) F.leads

  step_one : step_of (length F.medium) (views F.medium) (starting (started 4 e) (Pending.append move [])) fresh ≡ gives (Step.program 1 page_of_group (state_with (head_with 2 3 1) Pending.idle e) true)
  step_one = rw (F.sees, F.long) (append_counts e)

  counted_one : Leads (world one (Some (state_with (head_with 2 3 1) Pending.idle e)) fresh) (tell (tell no_history (began_append move)) stepped_page)
      (groups_counting no_history (began_append move) ++ groups_counting (tell no_history (began_append move)) stepped_page)
  counted_one =
      leads_next (world F.medium (Some (starting (started 4 e) (Pending.append move []))) fresh) (tell no_history (began_append move)) Event.step _
      (step_on F.medium (written 1) _ _ F.sees F.long 1 page_of_group true refl (append_counts e)) begun

  sees_one : views one ≡ written 2
  sees_one = sees_after F.medium _ _ begun.list 1 page_of_group _ true step_one ∙ ap (λ (v : List View). set v 1 (whole page_of_group)) F.sees

  long_one : length one ≡ 16384
  long_one = long_after F.medium _ _ begun.list 1 page_of_group _ true step_one ∙ F.long

  committing : Leads (world one (Some (state_with (head_with 2 3 1) (Pending.commit 0) e)) fresh) told_so_far (move ∷ [])
  committing =
      subst (Leads (world one (Some (state_with (head_with 2 3 1) (Pending.commit 0) e)) fresh) told_so_far) made_so_far
      (leads_next (world one (Some (state_with (head_with 2 3 1) Pending.idle e)) fresh) (tell (tell no_history (began_append move)) stepped_page) Event.commit _
      (commit_on one (written 2) _ _ sees_one long_one (commit_begins e)) counted_one)

  step_two : step_of (length one) (views one) (state_with (head_with 2 3 1) (Pending.commit 0) e) fresh ≡ gives (Step.program 2 page_of_base (state_with (head_with 3 4 3) Pending.idle e) true)
  step_two = rw (sees_one, long_one) (commit_steps e)

  happens_two : happen (world one (Some (state_with (head_with 2 3 1) (Pending.commit 0) e)) fresh) Event.step ≡ moment two (Some (state_with (head_with 3 4 3) Pending.idle e)) fresh stepped_page
  happens_two = step_on one (written 2) _ _ sees_one long_one 2 page_of_base true refl (commit_steps e)

  too_early_from : TooEarly
  unfolding LostOtherwise
  too_early_from =
      let w = world one (Some (state_with (head_with 2 3 1) (Pending.commit 0) e)) fresh in
      let r = committing.list in
      let sees = sees_after one _ _ r 2 page_of_base _ true step_two ∙ ap (λ (v : List View). set v 2 (whole page_of_base)) sees_one in
      let long = long_after one _ _ r 2 page_of_base _ true step_two ∙ long_one in
      let counts : commit_counts told_so_far (happen w Event.step).told ≡ true = ap (λ (k : Moment). commit_counts told_so_far k.told) happens_two ∙ counts_then in
      record {
        world = w;
        history = told_so_far;
        list = r;
        made = committing.is;
        counts = counts;
        reads = ap (λ (k : Moment). read no_mark k.after.medium) happens_two ∙ reads_then two sees long;
        lost = lost_otherwise w told_so_far r nothing_filed (changes_of (groups_made r)) refl some_change Event.step counts;
      }
    where
      some_change : changes_of (groups_made committing.list) ≡ [] → ⊥
      some_change q =
          let i : changes_of (move ∷ []) ≡ move = unfold changes_of in refl in
          omega (arith, ap length (sym i ∙ ap changes_of (sym committing.is) ∙ q))

pub too_early : TooEarly
too_early = too_early_from (formatted (blank 16384) (bytes_blank 16384) (length_blank 16384))
