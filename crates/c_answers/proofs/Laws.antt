-- Laws of the answers for C, in the shapes that the code's proofs ask.
use mathlib.Core.Path.{◌≡◌, refl, sym, ap, ◌∙◌}
use Rattle.std.specs.Prelude.{Result, Ok, Err, replicate}
use Rattle.std.specs.Result.{result_unwrap_or as unwrap_or}
use mathlib.Core.List.{List, []}
use Prim.Native.Nat.{ℕ, ◌+◌, ◌*◌, ◌/◌, ◌%◌, ◌≤◌, ◌<◌}
use native.Mathlib.Omega.{arith}
use native.Mathlib.Decide.{dec_lt}
use lib.ListN.{length, get_or, set, length-set}
use lib.Seq.{ext_get_or, get_or-set_same, get_or-set_other}
use borrow.Author.Tests.{le-leb, lt-leb}
use Rattle.refusal.specs.declared.Refusal.{Refusal}
use Rattle.refusal.specs.Refusal.{number_of, answer_of}
use Rattle.lists.specs.Needs.{answer_or}
use Rattle.lists.specs.Lists.{table}
use Rattle.lists.proofs.Laws.{length_table, get_table}
use Rattle.flash.specs.Medium.{most_blocks, page_at, views}
use Rattle.state.specs.declared.State.{State}
use Rattle.state.specs.State.{meaning}
use Rattle.readings.specs.Readings.{survey_of}
use Rattle.read.proofs.Laws.{survey_number, survey_rows_are}
use Rattle.c_answers.specs.Forms.{IsPage, most_counts, joined, SurveysInOne}

-- ---- pages

pub page_in_lem : (m : List ℕ) (p : ℕ) → p < length m / 256 → IsPage m p (record { offset = 256 * p; length = 256 })
unfolding page_at
page_in_lem m p h = let l : 256 * p + 256 ≤ length m = omega arith in record { bytes = rw (le-leb _ _ l); start = rw (le-leb _ _ l); size = rw (le-leb _ _ l) }

pub page_out : (m : List ℕ) (p : ℕ) → length m / 256 ≤ p → IsPage m p (record { offset = 0; length = 0 })
unfolding page_at
page_out m p h = let l : length m < 256 * p + 256 = omega arith in record { bytes = rw (lt-leb _ _ l); start = rw (lt-leb _ _ l); size = rw (lt-leb _ _ l) }

-- ---- the survey

-- the first i counts stand in xs
pub record JoinedTo (rows : List (List ℕ)) (xs : List ℕ) (i : ℕ) : Type 0 where
  pub long : length xs ≡ most_counts
  pub so : (k : ℕ) → k < i → get_or xs k 0 ≡ get_or (get_or rows (k / 3) []) (k % 3) 0

pub joined_start : (rows : List (List ℕ)) (xs : List ℕ) → length xs ≡ most_counts → JoinedTo rows xs 0
joined_start rows xs l = record { long = l; so = λ i h. absurd (omega arith) }

pub joined_next : (rows : List (List ℕ)) (xs : List ℕ) (i : ℕ) → i < most_counts → JoinedTo rows xs i → JoinedTo rows (set xs i (get_or (get_or rows (i / 3) []) (i % 3) 0)) (i + 1)
joined_next rows xs i h t = record { long = length-set xs i (get_or (get_or rows (i / 3) []) (i % 3) 0) ∙ t.long; so = λ k l. go k l (dec_lt k i) }
  where
    go : (k : ℕ) → k < i + 1 → Dec (k < i) → get_or (set xs i (get_or (get_or rows (i / 3) []) (i % 3) 0)) k 0 ≡ get_or (get_or rows (k / 3) []) (k % 3) 0
    go k l (yes g) = get_or-set_other xs i k (get_or (get_or rows (i / 3) []) (i % 3) 0) 0 (λ x. omega arith) ∙ t.so k g
    go k l (no g) = let x : k ≡ i = omega arith in rw x (get_or-set_same xs i (get_or (get_or rows (i / 3) []) (i % 3) 0) 0 (omega (arith, t.long)))

pub joined_end : (rows : List (List ℕ)) (xs : List ℕ) (i : ℕ) → most_counts ≤ i → JoinedTo rows xs i → xs ≡ joined rows
unfolding joined
joined_end rows xs i h t =
    ext_get_or 0 xs (table most_counts (λ k. get_or (get_or rows (k / 3) []) (k % 3) 0)) (t.long ∙ sym (length_table (λ k. get_or (get_or rows (k / 3) []) (k % 3) 0) 0 most_counts))
    (λ k l. t.so k (omega (arith, t.long)) ∙ sym (get_table (λ j. get_or (get_or rows (j / 3) []) (j % 3) 0) 0 most_counts k (omega (arith, t.long))))

row_or : (r : Result (List (List ℕ)) Refusal) (d : List (List ℕ)) → unwrap_or r d ≡ answer_or (λ _. d) (answer_of r)
unfolding answer_or
row_or (Ok x) d = refl
row_or (Err e) d = refl

pub survey_tells : (m : List ℕ) (s : State) (r : Result (List (List ℕ)) Refusal) (n : ℕ) (rows : List (List ℕ)) (xs : List ℕ)
    → answer_of r ≡ survey_of (length m) (views m) (meaning s) → n ≡ number_of r → rows ≡ unwrap_or r (replicate most_blocks (replicate 3 0)) → xs ≡ joined rows
    → SurveysInOne m s (record { number = n; counts = xs })
survey_tells m s r n rows xs e k g z =
    rw (k, z, g, row_or r (replicate most_blocks (replicate 3 0)), survey_number m s r e, survey_rows_are m s r e)
