-- A reader by 01's page rules as they were answers 2 to a page of kind 4.
use mathlib.Core.Path.{◌≡◌, refl, sym, ap, ◌∙◌}
use mathlib.Core.Bool.{Bool, true}
use mathlib.Core.List.{List, [], ◌∷◌}
use Prim.Native.Nat.{ℕ, zero, suc, ◌≤◌, min}
use native.Mathlib.Omega.{arith}
use lib.ListN.{length}
use borrow.Author.Tests.{lt-leb}
use Rattle.lists.specs.Lists.{all}
use Rattle.lists.specs.Needs.{under}
use Rattle.lists.specs.Cells.{cell}
use Rattle.lists.proofs.Laws.{by_cases, true_false, all_head, all_tail, every_at, length_table}
use Rattle.page.specs.Pages.{Page, View, clean, spoilt, whole}
use Rattle.page.specs.Layout.{used, entry_at, decode}
use Rattle.page.proofs.Berger.{whole_view}
use Rattle.flash.specs.Medium.{page_at, views, seen}
use Rattle.flash.proofs.Laws.{seen_views}
use Rattle.recovery.specs.Recovery.{Placed, wholes}
use Rattle.valve_log.specs.Older.{older_carry, older_least, older_lawful, older_all, older_recover, OlderAnswers}

-- a page of bytes has 24 entries at most
entries_most : (s : List ℕ) → length (decode s).entries ≤ 24
unfolding decode
entries_most s = omega (arith, length_table (entry_at s) (cell 0 0) (min 24 (used s)))

unlawful : (pg : Page) → pg.kind ≡ 4 → length pg.entries ≤ 24 → older_lawful pg ≡ true → ⊥
unfolding older_lawful
unlawful pg k few l =
    let t : lib.Dec.leb (older_least pg.kind pg.flags) (length pg.entries) ≡ true = every_at 2 _ l in
    let z : older_least pg.kind pg.flags ≡ 25 = ap (λ (x : ℕ). older_least x pg.flags) k ∙ (unfold older_least older_carry in refl) in
    true_false t (ap (λ (x : ℕ). lib.Dec.leb x (length pg.entries)) z ∙ lt-leb 25 (length pg.entries) (omega arith))

-- what holds of each whole page holds of the one at a place
all_seen : (f : Page → Bool) (n : ℕ) (v : List View) (p : ℕ) (pg : Page) → all (λ (x : Placed). f x.page) (wholes n v) ≡ true → seen v p ≡ whole pg → f pg ≡ true
unfolding wholes seen
all_seen f n [] p pg a e = let z : ◌≡◌ {A = ℕ} 0 1 = cc in absurd (omega arith)
all_seen f n (clean ∷ v) zero pg a e = let z : ◌≡◌ {A = ℕ} 0 1 = cc in absurd (omega arith)
all_seen f n (spoilt ∷ v) zero pg a e = let z : ◌≡◌ {A = ℕ} 0 1 = cc in absurd (omega arith)
all_seen f n (whole x ∷ v) zero pg a e = let z : x ≡ pg = cc in ap f (sym z) ∙ all_head (λ (x : Placed). f x.page) _ _ a
all_seen f n (clean ∷ v) (suc p) pg a e = all_seen f (suc n) v p pg a e
all_seen f n (spoilt ∷ v) (suc p) pg a e = all_seen f (suc n) v p pg a e
all_seen f n (whole x ∷ v) (suc p) pg a e = all_seen f (suc n) v p pg (all_tail (λ (x : Placed). f x.page) _ _ a) e

pub older_answers : OlderAnswers
unfolding OlderAnswers older_recover under
older_answers most later answer m p pg size e k =
    by_cases (older_all (wholes 0 (views m))) (λ a. absurd (unlawful pg k few (all_seen older_lawful 0 (views m) p pg (unfold older_all in a) e))) (λ a. rw (size, a))
  where
    few : length pg.entries ≤ 24
    few = let d = whole_view (page_at m p) pg (sym (seen_views m p) ∙ e) in omega (arith, entries_most (page_at m p), ap (λ (x : Page). length x.entries) d.1)
