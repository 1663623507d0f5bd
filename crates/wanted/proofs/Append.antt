-- An append of entries that pass the tests of 10, 11 and 12 is refused with none of them.
use mathlib.Core.Path.{◌≡◌, refl, sym, ap, ◌∙◌}
use mathlib.Core.Bool.{Bool, true, cond, not, ◌||◌}
use mathlib.Core.List.{List, [], ◌∷◌}
use Prim.Native.Nat.{ℕ}
use lib.Dec.{eqb}
use borrow.Author.Tests.{eq-eqb}
use Rattle.lists.specs.Lists.{all}
use Rattle.lists.specs.Needs.{refused, Need, under, checked}
use Rattle.lists.specs.Cells.{Entry, Place, keys_of, words_of}
use Rattle.lists.proofs.Laws.{given_refused, same_refusal, by_cases, true_false, all_head, all_tail}
use Rattle.index.specs.Index.{within, entries_allowed}
use Rattle.state.specs.State.{Held}
use Rattle.calls.specs.Calls.{zip, lists_ok, append_needs, append_of}
use Rattle.wanted.specs.Serves.{NeverRefused, Appendable}

-- a condition with this number holds
abbrev clear : ℕ → Need → Bool
clear k c = not (eqb c.number k) || c.holds

-- where every condition with a number holds, that number does not refuse
never : (k : ℕ) (cs : List Need) (s : Held) → all (clear k) cs ≡ true → checked cs s ≡ refused k → ⊥
unfolding under
never k [] s h e = given_refused s k e
never k (c ∷ cs) s h e =
    by_cases c.holds
    (λ b. never k cs s (all_tail (clear k) c cs h) (sym (ap (λ (t : Bool). cond t (checked cs s) (refused c.number)) b) ∙ e))
    (λ b.
    let same : c.number ≡ k = same_refusal _ _ (sym (ap (λ (t : Bool). cond t (checked cs s) (refused c.number)) b) ∙ e) in
    true_false (all_head (clear k) c cs h) (ap (λ (t : Bool). not t || c.holds) (eq-eqb _ _ same) ∙ b))

pub appendable : (index : List Place) (es : List Entry) → lists_ok (keys_of es) (words_of es) ≡ true → entries_allowed (zip (keys_of es) (words_of es)) ≡ true
    → within index (zip (keys_of es) (words_of es)) ≡ true → Appendable index es
unfolding NeverRefused append_of all
appendable index es ten eleven twelve =
    record {
      ten = λ n v s b i e. never 10 (append_needs n v s b (keys_of es) (words_of es)) _ (rw ten refl) e;
      eleven = λ n v s b i e. never 11 (append_needs n v s b (keys_of es) (words_of es)) _ (rw eleven refl) e;
      twelve = λ n v s b i e. never 12 (append_needs n v s b (keys_of es) (words_of es)) _ (rw (i, twelve) refl) e;
    }
