-- The form of a trace puts its calls in order.
use mathlib.Core.Path.{◌≡◌}
use mathlib.Core.Bool.{true, false}
use mathlib.Core.List.{List}
use Prim.Native.Nat.{ℕ}
use lib.Dec.{eqb}
use borrow.Author.Tests.{eqb-true}
use Rattle.lists.proofs.Laws.{by_cases, true_false}
use Rattle.trace.specs.Trace.{code_at, number_at, data_start, recorded_as, recorded_at}
use Rattle.trace.specs.Calls.{is_format, is_cut, FormOrders}
use Rattle.trace.proofs.Form.{formed_lists, first_call, blocks_low, blocks_high, later_code, cut_not_last_lem, recovery_call}

-- a code that is not 1 stands for no format
no_format : (code n k : ℕ) (t : List ℕ) → eqb code 1 ≡ false → is_format (recorded_as code n k t) ≡ false
unfolding recorded_as is_format
no_format code n k t f =
    rw f
    (by_cases (eqb code 2) (λ q. rw q) (λ q. rw q
    (by_cases (eqb code 3) (λ q. rw q) (λ q. rw q
    (by_cases (eqb code 4) (λ q. rw q) (λ q. rw q
    (by_cases (eqb code 5) (λ q. rw q) (λ q. rw q
    (by_cases (eqb code 6) (λ q. rw q) (λ q. rw q
    (by_cases (eqb code 7) (λ q. rw q) (λ q. rw q
    (by_cases (eqb code 8) (λ q. rw q) (λ q. rw q))))))))))))))

-- and one that is not 6 for no cut
no_cut : (code n k : ℕ) (t : List ℕ) → eqb code 6 ≡ false → is_cut (recorded_as code n k t) ≡ false
unfolding recorded_as is_cut
no_cut code n k t f =
    by_cases (eqb code 1) (λ q. rw q) (λ q. rw q
    (by_cases (eqb code 2) (λ q. rw q) (λ q. rw q
    (by_cases (eqb code 3) (λ q. rw q) (λ q. rw q
    (by_cases (eqb code 4) (λ q. rw q) (λ q. rw q
    (by_cases (eqb code 5) (λ q. rw q) (λ q. rw (q, f)
    (by_cases (eqb code 7) (λ q. rw q) (λ q. rw q
    (by_cases (eqb code 8) (λ q. rw q) (λ q. rw q)))))))))))))

module _ (t : List ℕ) (i : ℕ) where
  cut_code : is_cut (recorded_at t i) ≡ true → code_at t i ≡ 6
  unfolding recorded_at
  cut_code e =
      by_cases (eqb (code_at t i) 6) (λ q. eqb-true (code_at t i) 6 q)
      (λ q. true_false e (no_cut (code_at t i) (number_at t i) (data_start t i) t q))

  later_call : eqb (code_at t i) 1 ≡ false → is_format (recorded_at t i) ≡ false
  unfolding recorded_at
  later_call f = no_format (code_at t i) (number_at t i) (data_start t i) t f

pub form_orders : FormOrders
unfolding FormOrders
form_orders t w = record {
  some = (formed_lists t w).some;
  first = first_call t w;
  fewest = blocks_low t w;
  most = blocks_high t w;
  once = λ i l h. later_call t i (later_code t w i l h);
  cut_not_last = λ i h e. cut_not_last_lem t w i h (cut_code t i e);
  after_cut = λ i h e. recovery_call t w i h (cut_code t i e);
}
