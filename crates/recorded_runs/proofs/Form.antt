-- The calls of a trace of the form: a format of 4 to 16 blocks, and calls after it that are none, with narrow keys and words and with patterns of their
-- sizes.
use mathlib.Core.Path.{◌≡◌, refl, ap, ◌∙◌}
use mathlib.Core.Bool.{true, false}
use mathlib.Core.List.{List, [], ◌∷◌, ◌++◌}
use Prim.Native.Nat.{ℕ, zero, suc, ◌+◌, ◌-◌, ◌*◌, ◌≤◌, ◌<◌}
use native.Mathlib.Omega.{arith}
use lib.Dec.{eqb}
use lib.ListN.{length}
use borrow.Author.Tests.{eqb-true}
use Rattle.lists.specs.Lists.{Bytes, table}
use Rattle.lists.proofs.Laws.{by_cases}
use Rattle.codec.proofs.Put.{length_part}
use Rattle.trace.specs.Trace.{call_count, code_at, number_at, has_group, pattern_size, data_size, data_start, well_formed, Recorded, recorded_as, recorded_at, recorded}
use Rattle.trace.proofs.Form.{formed_lists, formed_call, blocks_low, blocks_high, first_call, later_code, numbers_below}
use Rattle.recorded_runs.proofs.Along.{InForm}
use Rattle.recorded_runs.proofs.Prints.{AllInForm, end, more}

-- ---- the calls in order

table_cons : {A : Type 0} (n : ℕ) (f : ℕ → A) → table (suc n) f ≡ f 0 ∷ table n (λ i. f (suc i))
unfolding table
table_cons zero f = refl
table_cons (suc n) f = ap (λ xs. xs ++ (f (suc n) ∷ [])) (table_cons n f)

one_more : (cs : List Recorded) (c : Recorded) → AllInForm cs → InForm c → AllInForm (cs ++ (c ∷ []))
one_more [] c a i = more i end
one_more (d ∷ cs) c (more j a) i = more j (one_more cs c a i)

all_in_form : (n : ℕ) (f : ℕ → Recorded) → ((i : ℕ) → i < n → InForm (f i)) → AllInForm (table n f)
unfolding table
all_in_form zero f k = end
all_in_form (suc n) f k = one_more (table n f) (f n) (all_in_form n f (λ i h. k i (omega arith))) (k n (omega arith))

-- ---- a call that is no format, with its bytes there

as_in_form : (code n k : ℕ) (t : List ℕ) → Bytes t → eqb code 1 ≡ false → k + data_size code n ≤ length t → InForm (recorded_as code n k t)
unfolding InForm recorded_as data_size has_group
as_in_form code n k t b f h =
    rw f
    (by_cases (eqb code 2) (λ q. rw q (numbers_below 2 n k t b (omega arith), numbers_below 8 n (k + 2 * n) t b (omega arith))) (λ q2. rw q2
    (by_cases (eqb code 3) (λ q. rw q tt) (λ q3. rw q3
    (by_cases (eqb code 4) (λ q. rw q tt) (λ q4. rw q4
    (by_cases (eqb code 5) (λ q. rw q tt) (λ q5. rw q5
    (by_cases (eqb code 6) (λ q. rw q (length_part k (pattern_size n) t (pattern_there q))) (λ q6. rw q6
    (by_cases (eqb code 7) (λ q. rw q tt) (λ q7. rw q7
    (by_cases (eqb code 8) (λ q. rw q (numbers_below 2 n k t b (omega arith), numbers_below 8 n (k + 2 * n) t b (omega arith))) (λ q8. rw q8 tt))))))))))))))
  where
    pattern_there : eqb code 6 ≡ true → k + pattern_size n ≤ length t
    pattern_there q = let z : code ≡ 6 = eqb-true code 6 q in rw z at h

-- ---- the calls of a trace of the form

pub record BeginsWithFormat (t : List ℕ) : Type 0 where
  pub rest : List Recorded
  pub low : 4 ≤ number_at t 0
  pub high : number_at t 0 ≤ 16
  pub are : recorded t ≡ Recorded.format (number_at t 0) ∷ rest
  pub later : AllInForm rest

module _ (t : List ℕ) (b : Bytes t) (w : well_formed t ≡ true) where
  later_call : (i : ℕ) → suc i < call_count t → InForm (recorded_at t (suc i))
  unfolding recorded_at
  later_call i h = as_in_form (code_at t (suc i)) (number_at t (suc i)) (data_start t (suc i)) t b (later_code t w (suc i) (omega arith) h) (formed_call t w (suc i) h).bytes

  pub begins_of : BeginsWithFormat t
  begins_of =
      record {
        rest = table (call_count t - 1) (λ i. recorded_at t (suc i));
        low = blocks_low t w;
        high = blocks_high t w;
        are = unfold recorded in (let z : call_count t ≡ suc (call_count t - 1) = omega (arith, (formed_lists t w).some) in
            ap (λ (n : ℕ). table n (recorded_at t)) z ∙ table_cons (call_count t - 1) (recorded_at t)
            ∙ ap (λ (c : Recorded). c ∷ table (call_count t - 1) (λ i. recorded_at t (suc i))) (first_call t w));
        later = all_in_form (call_count t - 1) (λ i. recorded_at t (suc i)) (λ i h. later_call i (omega arith));
      }
