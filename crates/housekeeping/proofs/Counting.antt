-- Counts below a bound, and blocks other than some.
use mathlib.Core.Path.{◌≡◌, refl, sym, ◌∙◌}
use mathlib.Core.Bool.{Bool, true, false}
use mathlib.Core.List.{List, [], ◌∷◌}
use Prim.Native.Nat.{ℕ, zero, suc, ◌+◌, ◌/◌, ◌≤◌, ◌<◌}
use native.Mathlib.Omega.{arith}
use native.Mathlib.Decide.{ℕ_discrete}
use lib.ListN.{length}
use Rattle.lists.specs.declared.Cell.{Cell}
use Rattle.lists.specs.Lists.{one_if, count_below, keep}
use Rattle.lists.specs.Cells.{Place}
use Rattle.lists.proofs.Laws.{by_cases}
use Rattle.nodes.specs.Nodes.{in_block, live}
use Rattle.valve_log.proofs.Moves.{live_length}
use borrow.Author.Tests.{eqb-true}

-- ---- counts

pub count_one : (n : ℕ) (f : ℕ → Bool) (x : ℕ) → x < n → f x ≡ true → 1 ≤ count_below n f
unfolding count_below
count_one zero f x l e = absurd (omega arith)
count_one (suc n) f x l e = go (ℕ_discrete x n) (λ k. count_one n f x k e)
  where
    go : Dec (x ≡ n) → (x < n → 1 ≤ count_below n f) → 1 ≤ count_below n f + one_if (f n)
    go (yes q) r = let t : f n ≡ true = rw q at e in rw t (unfold one_if in omega arith)
    go (no q) r = omega (arith, r (omega arith))

pub count_two : (n : ℕ) (f : ℕ → Bool) (x y : ℕ) → x < n → y < n → (x ≡ y → ⊥) → f x ≡ true → f y ≡ true → 2 ≤ count_below n f
unfolding count_below
count_two zero f x y l k d e g = absurd (omega arith)
count_two (suc n) f x y l k d e g = go (ℕ_discrete x n) (ℕ_discrete y n) (λ a b. count_two n f x y a b d e g)
  where
    last : f n ≡ true → one_if (f n) ≡ 1
    last t = rw t (unfold one_if in refl)

    go : Dec (x ≡ n) → Dec (y ≡ n) → (x < n → y < n → 2 ≤ count_below n f) → 2 ≤ count_below n f + one_if (f n)
    go (yes p) (yes q) r = absurd (d (p ∙ sym q))
    go (yes p) (no q) r = omega (arith, count_one n f y (omega arith) g, last (rw p at e))
    go (no p) (yes q) r = omega (arith, count_one n f x (omega arith) e, last (rw q at g))
    go (no p) (no q) r = omega (arith, r (omega arith) (omega arith))

one_le : (a b : Bool) → (a ≡ true → b ≡ true) → one_if a ≤ one_if b
unfolding one_if
one_le true b h = rw (h refl) (omega arith)
one_le false b h = omega arith

pub count_le : (n : ℕ) (f g : ℕ → Bool) → ((i : ℕ) → i < n → f i ≡ true → g i ≡ true) → count_below n f ≤ count_below n g
unfolding count_below
count_le zero f g h = omega arith
count_le (suc n) f g h = omega (arith, count_le n f g (λ i l. h i (omega arith)), one_le (f n) (g n) (h n (omega arith)))

-- g holds where f does, and at x too
pub count_more : (n : ℕ) (f g : ℕ → Bool) (x : ℕ) → x < n → f x ≡ false → g x ≡ true → ((i : ℕ) → i < n → f i ≡ true → g i ≡ true) → suc (count_below n f) ≤ count_below n g
unfolding count_below
count_more zero f g x l e k h = absurd (omega arith)
count_more (suc n) f g x l e k h = go (ℕ_discrete x n) (λ q. count_more n f g x q e k (λ i j. h i (omega arith)))
  where
    go : Dec (x ≡ n) → (x < n → suc (count_below n f) ≤ count_below n g) → suc (count_below n f + one_if (f n)) ≤ count_below n g + one_if (g n)
    go (yes q) r =
        let a : one_if (f n) ≡ 0 = rw (rw q at e) (unfold one_if in refl) in
        let b : one_if (g n) ≡ 1 = rw (rw q at k) (unfold one_if in refl) in
        omega (arith, count_le n f g (λ i j. h i (omega arith)))
    go (no q) r = omega (arith, r (omega arith), one_le (f n) (g n) (h n (omega arith)))

-- ---- of four blocks one is none of three, and two are none of two

record Three (a : ℕ) : Type 0 where
  x : ℕ
  y : ℕ
  z : ℕ
  lx : x < 4
  ly : y < 4
  lz : z < 4
  xy : x ≡ y → ⊥
  xz : x ≡ z → ⊥
  yz : y ≡ z → ⊥
  xa : x ≡ a → ⊥
  ya : y ≡ a → ⊥
  za : z ≡ a → ⊥

pub record Two (a b : ℕ) : Type 0 where
  pub x : ℕ
  pub y : ℕ
  pub lx : x < 4
  pub ly : y < 4
  pub xy : x ≡ y → ⊥
  pub xa : x ≡ a → ⊥
  pub ya : y ≡ a → ⊥
  pub xb : x ≡ b → ⊥
  pub yb : y ≡ b → ⊥

pub record One (a b c : ℕ) : Type 0 where
  pub x : ℕ
  pub lx : x < 4
  pub xa : x ≡ a → ⊥
  pub xb : x ≡ b → ⊥
  pub xc : x ≡ c → ⊥

three_of : (a x y z : ℕ) → x < y → y < z → z < 4 → (x ≡ a → ⊥) → (y ≡ a → ⊥) → (z ≡ a → ⊥) → Three a
three_of a x y z p q r f g h =
    record { x = x; y = y; z = z; lx = omega arith; ly = omega arith; lz = r; xy = λ e. omega arith; xz = λ e. omega arith; yz = λ e. omega arith; xa = f; ya = g; za = h }

three : (a : ℕ) → Three a
three a = go (ℕ_discrete a 0) (ℕ_discrete a 1) (ℕ_discrete a 2)
  where
    go : Dec (a ≡ 0) → Dec (a ≡ 1) → Dec (a ≡ 2) → Three a
    go (yes p) q r = three_of a 1 2 3 (omega arith) (omega arith) (omega arith) (λ e. omega arith) (λ e. omega arith) (λ e. omega arith)
    go (no p) (yes q) r = three_of a 0 2 3 (omega arith) (omega arith) (omega arith) (λ e. omega arith) (λ e. omega arith) (λ e. omega arith)
    go (no p) (no q) (yes r) = three_of a 0 1 3 (omega arith) (omega arith) (omega arith) (λ e. omega arith) (λ e. omega arith) (λ e. omega arith)
    go (no p) (no q) (no r) = three_of a 0 1 2 (omega arith) (omega arith) (omega arith) (λ e. p (sym e)) (λ e. q (sym e)) (λ e. r (sym e))

pub two : (a b : ℕ) → Two a b
two a b = go (three a)
  where
    go : Three a → Two a b
    go t = pick (ℕ_discrete t.x b) (ℕ_discrete t.y b)
      where
        pick : Dec (t.x ≡ b) → Dec (t.y ≡ b) → Two a b
        pick (yes p) q = record { x = t.y; y = t.z; lx = t.ly; ly = t.lz; xy = t.yz; xa = t.ya; ya = t.za; xb = λ e. t.xy (p ∙ sym e); yb = λ e. t.xz (p ∙ sym e) }
        pick (no p) (yes q) = record { x = t.x; y = t.z; lx = t.lx; ly = t.lz; xy = t.xz; xa = t.xa; ya = t.za; xb = p; yb = λ e. t.yz (q ∙ sym e) }
        pick (no p) (no q) = record { x = t.x; y = t.y; lx = t.lx; ly = t.ly; xy = t.xy; xa = t.xa; ya = t.ya; xb = p; yb = q }

pub one : (a b c : ℕ) → One a b c
one a b c = go (two a b)
  where
    go : Two a b → One a b c
    go t = pick (ℕ_discrete t.x c)
      where
        pick : Dec (t.x ≡ c) → One a b c
        pick (yes p) = record { x = t.y; lx = t.ly; xa = t.ya; xb = t.yb; xc = λ e. t.xy (p ∙ sym e) }
        pick (no p) = record { x = t.x; lx = t.lx; xa = t.xa; xb = t.xb; xc = p }

-- ---- live nodes of two blocks

keep_two : (x y : ℕ) (l : List Place) → (x ≡ y → ⊥) → length (keep (in_block x) l) + length (keep (in_block y) l) ≤ length l
unfolding keep
keep_two x y [] d = omega arith
keep_two x y (c ∷ l) d =
    by_cases (in_block x c)
    (λ e. by_cases (in_block y c) (λ g. absurd (d (both e g))) (λ g. rw (e, g) (omega (arith, keep_two x y l d))))
    (λ e. by_cases (in_block y c) (λ g. rw (e, g) (omega (arith, keep_two x y l d))) (λ g. rw (e, g) (omega (arith, keep_two x y l d))))
  where
    both : in_block x c ≡ true → in_block y c ≡ true → x ≡ y
    both e g = unfold in_block in (sym (eqb-true (c.val / 384) x (unfold in_block in e)) ∙ eqb-true (c.val / 384) y (unfold in_block in g))

keep_few : (f : Cell → Bool) (l : List Place) → length (keep f l) ≤ length l
unfolding keep
keep_few f [] = omega arith
keep_few f (c ∷ l) = by_cases (f c) (λ e. rw e (omega (arith, keep_few f l))) (λ e. rw e (omega (arith, keep_few f l)))

pub live_two : (x y : ℕ) (l : List Place) → (x ≡ y → ⊥) → length (live l x) + length (live l y) ≤ length l
live_two x y l d = omega (arith, keep_two x y l d, live_length l x, live_length l y)

pub live_few : (x : ℕ) (l : List Place) → length (live l x) ≤ length l
live_few x l = omega (arith, keep_few (in_block x) l, live_length l x)
