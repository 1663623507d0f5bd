-- The steps of formatting: none is refused on a medium of allowed length.
use mathlib.Core.Path.{◌≡◌, refl, ◌∙◌}
use mathlib.Core.Bool.{Bool, true, false}
use Rattle.std.proofs.Common.{Some}
use mathlib.Core.List.{List, []}
use Prim.Native.Nat.{ℕ, suc, ◌/◌, ◌≤◌, ◌<◌}
use native.Mathlib.Omega.{arith}
use lib.ListN.{length}
use borrow.Author.Tests.{lt-ltb, le-ltb}
use Rattle.lists.specs.Lists.{every}
use Rattle.lists.specs.Needs.{gives, under}
use Rattle.lists.specs.Cells.{Entry}
use Rattle.page.specs.Pages.{View, clean, page, is_clean}
use Rattle.page.specs.Buffer.{gathered}
use Rattle.flash.specs.Medium.{seen}
use Rattle.blocks.specs.Blocks.{size_ok}
use Rattle.state.specs.State.{now_erased, groups_fit, buffer_fit, fit_with, is_idle}
use Rattle.calls.specs.Calls.{serials_for, formatting}
use Rattle.calls.proofs.Laws.{format_state, formatting_fit}
use Rattle.step.specs.Step.{Step, formatted, erasing, programming, format_step, due, step_of}
use Rattle.step.proofs.Laws.{format_adds_none}

erases : (v : List View) (blocks k : ℕ) (r : List Bool) → k < blocks → format_step v (format_state blocks k r) k ≡ gives (Step.erase k (format_state blocks (suc k) (now_erased r k)) false)
unfolding format_step formatting erasing
erases v blocks k r h = rw (lt-ltb k blocks h)

writes : (v : List View) (blocks : ℕ) (r : List Bool) → seen v 0 ≡ clean
    → format_step v (format_state blocks blocks r) blocks ≡ gives (Step.program 0 (page 2 3 1 []) (formatted (format_state blocks blocks r)) true)
unfolding format_step formatting programming under serials_for is_clean
writes v blocks r c = rw (le-ltb blocks blocks (omega arith), c)

-- such a state is fit with any buffer that holds groups, or none
formatting_fit_with : (v : List View) (blocks k : ℕ) (r : List Bool) (b : List ℕ) (gs : List (List Entry)) → blocks ≡ length v / 16 → 1 ≤ blocks → k ≤ blocks → gathered b ≡ Some gs
    → fit_with v (format_state blocks k r) b ≡ true
unfolding fit_with buffer_fit groups_fit every
formatting_fit_with v blocks k r b gs e low few g = rw (formatting_fit v blocks k r e low few, g)

module _ (n : ℕ) (v : List View) (blocks : ℕ) (r : List Bool) (b : List ℕ) (gs : List (List Entry)) (size : size_ok n ≡ true)
    (e : blocks ≡ length v / 16) (low : 1 ≤ blocks) (g : gathered b ≡ Some gs) where
  format_due : (k : ℕ) → k ≤ blocks → step_of n v (format_state blocks k r) b ≡ format_step v (format_state blocks k r) k
  unfolding step_of under due is_idle
  format_due k few = rw (size, formatting_fit_with v blocks k r b gs e low few g) (format_adds_none v (format_state blocks k r) (format_step v (format_state blocks k r) k) k refl)

  -- with k blocks erased, block k is erased
  pub erase_due : (k : ℕ) → k < blocks → step_of n v (format_state blocks k r) b ≡ gives (Step.erase k (format_state blocks (suc k) (now_erased r k)) false)
  erase_due k h = format_due k (omega arith) ∙ erases v blocks k r h

  -- with all of them erased and page 0 clean, the base is written and formatting is finished
  pub base_due : seen v 0 ≡ clean → step_of n v (format_state blocks blocks r) b ≡ gives (Step.program 0 (page 2 3 1 []) (formatted (format_state blocks blocks r)) true)
  base_due c = format_due blocks (omega arith) ∙ writes v blocks r c
