-- A list of the program as it was before Paper 8 that sets valve 0: formatting, the append of one entry, and its step.
use mathlib.Core.Path.{◌≡◌, refl, ap, subst, ◌∙◌}
use mathlib.Core.Bool.{Bool, true}
use Rattle.std.proofs.Common.{Option, Some}
use mathlib.Core.List.{List, [], ◌∷◌}
use Prim.Native.Nat.{ℕ, zero, suc, ◌/◌, ◌^◌, ◌≤◌, ◌<◌}
use native.Mathlib.Omega.{arith}
use lib.ListN.{length, get_or, replicate, length-replicate}
use Rattle.lists.specs.Lists.{all, every, value_or, all_below, one_if, count_below, Below}
use Rattle.lists.specs.Needs.{gives, under}
use Rattle.lists.specs.Cells.{cell, Entry}
use Rattle.codec.specs.Codec.{blank, all_ones}
use Rattle.page.specs.Pages.{View, clean, whole, is_clean, pages_for}
use Rattle.page.specs.Layout.{clean_bytes}
use Rattle.page.specs.Buffer.{gathered}
use Rattle.flash.specs.Medium.{views, seen, wholly_clean, programmed}
use Rattle.flash.proofs.Laws.{length_views}
use Rattle.flash.proofs.Steps.{program_length}
use Rattle.index.specs.Index.{put, assign, assign_all, rising_from, rising, within}
use Rattle.blocks.specs.Blocks.{size_ok, spare, available, page_due}
use Rattle.state.specs.State.{Held, append, head_fit, index_fit, done_fit, pending_fit, fit, is_idle, groups_fit, buffer_fit, fit_with, buffered_in}
use Rattle.calls.specs.Calls.{starting, zip, lists_ok, room_for, serials_for, holds_none}
use Rattle.step.specs.Step.{Step, is_last, group_page, appended, programming, append_step, due, programs_due, needs_erase, erased_first, medium_after, buffer_after}
use Rattle.valve_log.specs.History.{nothing, history, start as no_history, began_append, stepped_page, counted, tell}
use Rattle.valve_log.specs.Reached.{World, world, fresh, lent_anew, with_state, Event, Moment, moment, called, stepped, happen, Formatting, step_due_before, Earlier, happened, Before}
use Rattle.valve_log.specs.ValveZero.{entry_allowed_before, allowed_before, with11, append_before, pending_before, fit_before, step_before}
use Rattle.valve_log.specs.Finished.{HoldsValveZero, ValveZeroReached}
use Rattle.valve_log.proofs.Formats.{Begins, base_page, started, in_format, starts}
use Rattle.valve_log.proofs.Finished.{erased_all, all_under_way, over, over_length}

-- four blocks where formatting is finished
abbrev four : List View
four = whole base_page ∷ replicate 63 clean

-- the group
abbrev zero_to : ℕ → List Entry
zero_to word = cell 0 word ∷ []

module _ (word : ℕ) (e : List Bool) where
  -- with its append begun
  abbrev begun : Held
  begun = starting (started 4 e) (append (zero_to word) [])

  begins : append_before 16384 four (started 4 e) fresh (0 ∷ []) (word ∷ []) ≡ gives begun
  unfolding
      append_before with11 under every all value_or all_below one_if count_below blank all_ones is_clean pages_for clean_bytes gathered seen wholly_clean
      put assign rising_from rising within size_ok spare available head_fit index_fit pending_fit fit is_idle groups_fit buffer_fit fit_with buffered_in
      zip lists_ok room_for serials_for holds_none entry_allowed_before allowed_before
  begins = refl

  steps : step_before 16384 four begun fresh
      ≡ gives (Step.program 1 (group_page 1 (zero_to word) 0 2) (appended begun (zero_to word) [] 1) true)
  unfolding
      step_before fit_before pending_before under every all value_or all_below blank all_ones is_clean pages_for clean_bytes gathered seen
      put assign rising_from rising within size_ok page_due head_fit index_fit done_fit pending_fit fit is_idle groups_fit buffer_fit fit_with buffered_in
      serials_for entry_allowed_before allowed_before is_last programming append_step due programs_due needs_erase erased_first
  steps = refl

one_entry : (word : ℕ) → length (group_page 1 (zero_to word) 0 2).entries ≤ 24
unfolding group_page
one_entry word = omega arith

-- ---- the list

-- numbers below a bound, of which there is one
one_below : (n k : ℕ) → 0 < n → k < n → Below n (k ∷ [])
one_below n k z l = record { each = at }
  where
    at : (i : ℕ) → get_or (k ∷ []) i 0 < n
    at zero = l
    at (suc i) = z

-- from where formatting is finished
module _ (m : List ℕ) (e : List Bool) (word : ℕ) (small : word < 2 ^ 64) (long : length m ≡ 16384) (sees : views m ≡ four) where
  abbrev first : World
  first = world m (Some (started 4 e)) fresh

  appending : Earlier first
  appending =
      Earlier.append (0 ∷ []) (word ∷ []) (one_below (2 ^ 16) 0 (omega arith) (omega arith)) (one_below (2 ^ 64) word (omega arith) small)

  appended_is : happened first appending ≡ moment m (Some (begun word e)) fresh (began_append (zero_to word))
  unfolding appending happened with_state called zip
  appended_is = rw (long, sees, begins word e)

  stepped_is : happened (world m (Some (begun word e)) fresh) Earlier.step
      ≡ moment (programmed m 1 (group_page 1 (zero_to word) 0 2)) (Some (appended (begun word e) (zero_to word) [] 1)) fresh stepped_page
  unfolding happened with_state step_due_before stepped medium_after buffer_after group_page
  stepped_is = rw (long, sees, steps word e)

  -- one group, which counts
  told_is : tell (tell no_history (began_append (zero_to word))) stepped_page ≡ history (cell 0 word ∷ []) ((cell 0 word ∷ []) ∷ []) nothing []
  unfolding tell counted pages_for assign_all assign put
  told_is = refl

  holds_zero : Before first no_history → HoldsValveZero word
  holds_zero b =
      let b₁ : Before (world m (Some (begun word e)) fresh) (tell no_history (began_append (zero_to word))) =
      subst (λ (t : Moment). Before t.after (tell no_history t.told)) appended_is (Before.next first no_history appending b) in
      let b₂ = subst (λ (t : Moment). Before t.after (tell (tell no_history (began_append (zero_to word))) t.told)) stepped_is
      (Before.next (world m (Some (begun word e)) fresh) (tell no_history (began_append (zero_to word))) Earlier.step b₁) in
      record {
        world = _;
        four_blocks = program_length m 1 (group_page 1 (zero_to word) 0 2) (omega (arith, long)) (one_entry word) ∙ long;
        before = subst (Before _) told_is b₂;
      }

size_of : (n : ℕ) → n ≡ 16384 → size_ok n ≡ true
unfolding size_ok every
size_of n e = rw e

pub valve_zero_reached : ValveZeroReached
unfolding ValveZeroReached
valve_zero_reached m bytes long word small =
    holds_zero w.medium B.erased word small same sees (subst (λ (o : Option Held). Before (world w.medium o fresh) no_history) state formatted)
  where
    size : size_ok (length m) ≡ true
    size = size_of (length m) long

    last : World
    last = erased_all m bytes size

    w : World
    w = (happen last Event.step).after

    F : Formatting last
    F = all_under_way m bytes size

    formatted : Before (lent_anew w) no_history
    formatted = Before.start last F (over m bytes size)

    B : Begins (lent_anew w)
    B = starts last.medium last.buffer last.state (in_format last F) (over m bytes size)

    same : length w.medium ≡ 16384
    same = over_length m bytes size ∙ long

    pages : B.pages ≡ 63
    pages =
        let n : length (views w.medium) ≡ suc B.pages = ap length B.sees ∙ ap suc (length-replicate {A = View} B.pages clean) in
        omega (arith, length_views w.medium, same)

    sees : views w.medium ≡ four
    sees = B.sees ∙ ap (λ (k : ℕ). whole base_page ∷ replicate k clean) pages

    state : w.state ≡ Some (started 4 B.erased)
    state = let n : length w.medium / 4096 ≡ 4 = omega (arith, same) in B.holds ∙ ap (λ (k : ℕ). Some (started k B.erased)) n
