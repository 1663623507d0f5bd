-- What the picker names: a collectible block with no more live nodes than any other collectible one.
use mathlib.Core.Path.{◌≡◌, refl}
use mathlib.Core.Bool.{true, false}
use Rattle.std.proofs.Common.{Option, None, Some}
use mathlib.Core.List.{List}
use Prim.Native.Nat.{ℕ, zero, suc, ◌≤◌, ◌<◌}
use native.Mathlib.Omega.{arith}
use native.Mathlib.Decide.{ℕ_discrete}
use lib.Dec.{ltb}
use lib.ListN.{length}
use borrow.Author.Tests.{ltb-true, ltb-false}
use Rattle.lists.specs.Cells.{Place}
use Rattle.lists.proofs.Laws.{by_cases, true_false}
use Rattle.page.specs.Pages.{View}
use Rattle.blocks.specs.declared.Head.{Head}
use Rattle.blocks.specs.Blocks.{collectible}
use Rattle.nodes.specs.Nodes.{live, picked, pick_below}

module _ (v : List View) (h : Head) (index : List Place) where
  pub record Best (n b : ℕ) : Type 0 where
    pub inside : b < n
    pub fits : collectible v h b ≡ true
    pub least : (x : ℕ) → x < n → collectible v h x ≡ true → length (live index b) ≤ length (live index x)

  -- none, where none is collectible; else the best
  pub data Picks (n : ℕ) : Option ℕ → Type 0 where
    nothing : ((x : ℕ) → x < n → collectible v h x ≡ true → ⊥) → Picks n None
    best : {b : ℕ} → Best n b → Picks n (Some b)

  picks_next : (n : ℕ) (o : Option ℕ) → Picks n o → Picks (suc n) (picked v h index o n)
  unfolding picked
  picks_next n o (nothing f) =
      by_cases (collectible v h n)
      (λ e. rw e (best {b = n} (record { inside = omega arith; fits = e; least = λ x l c. only x c (ℕ_discrete x n) l })))
      (λ e. rw e (nothing (λ x l c. none_here e x c (ℕ_discrete x n) l)))
    where
      only : (x : ℕ) → collectible v h x ≡ true → Dec (x ≡ n) → x < suc n → length (live index n) ≤ length (live index x)
      only x c (yes q) l = rw q (omega arith)
      only x c (no q) l = absurd (f x (omega arith) c)

      none_here : collectible v h n ≡ false → (x : ℕ) → collectible v h x ≡ true → Dec (x ≡ n) → x < suc n → ⊥
      none_here e x c (yes q) l = true_false (rw q at c) e
      none_here e x c (no q) l = f x (omega arith) c
  picks_next n o (best {b = a} B) =
      by_cases (collectible v h n)
      (λ e. by_cases (ltb (length (live index n)) (length (live index a)))
      (λ k. rw (e, k) (best {b = n} (record { inside = omega arith; fits = e; least = λ x l c. fewer (ltb-true (length (live index n)) (length (live index a)) k) x c (ℕ_discrete x n) l })))
      (λ k. rw (e, k) (best {b = a} (record {
        inside = omega (arith, B.inside);
        fits = B.fits;
        least =
            λ x l c. same (ltb-false (length (live index n)) (length (live index a)) k) x c (ℕ_discrete x n) l;
      }))))
      (λ e. rw e (best {b = a} (record { inside = omega (arith, B.inside); fits = B.fits; least = λ x l c. apart e x c (ℕ_discrete x n) l })))
    where
      fewer : length (live index n) < length (live index a) → (x : ℕ) → collectible v h x ≡ true → Dec (x ≡ n) → x < suc n → length (live index n) ≤ length (live index x)
      fewer k x c (yes q) l = rw q (omega arith)
      fewer k x c (no q) l = omega (arith, B.least x (omega arith) c)

      same : length (live index a) ≤ length (live index n) → (x : ℕ) → collectible v h x ≡ true → Dec (x ≡ n) → x < suc n → length (live index a) ≤ length (live index x)
      same k x c (yes q) l = rw q k
      same k x c (no q) l = B.least x (omega arith) c

      apart : collectible v h n ≡ false → (x : ℕ) → collectible v h x ≡ true → Dec (x ≡ n) → x < suc n → length (live index a) ≤ length (live index x)
      apart e x c (yes q) l = true_false (rw q at c) e
      apart e x c (no q) l = B.least x (omega arith) c

  pub picks : (n : ℕ) → Picks n (pick_below v h index n)
  unfolding pick_below
  picks zero = nothing (λ x l c. absurd (omega arith))
  picks (suc n) = picks_next n (pick_below v h index n) (picks n)

  -- where a block is collectible the picker names one
  pub record Named (n : ℕ) : Type 0 where
    pub block : ℕ
    pub is : pick_below v h index n ≡ Some block
    pub best_of : Best n block

  pub names : (n x : ℕ) → x < n → collectible v h x ≡ true → Named n
  names n x l c = go (pick_below v h index n) refl (picks n)
    where
      go : (o : Option ℕ) → pick_below v h index n ≡ o → Picks n o → Named n
      go o e (nothing f) = absurd (f x l c)
      go o e (best {b = b} B) = record { block = b; is = e; best_of = B }
