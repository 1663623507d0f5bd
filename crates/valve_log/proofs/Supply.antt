-- Available pages: as long as one is left the page due is there and clean, and programming it takes one away.
use mathlib.Core.Path.{◌≡◌, refl, sym, ap, ◌∙◌}
use mathlib.Core.Logic.{◌⊎◌, inl, inr}
use mathlib.Core.Bool.{Bool, true, false, not}
use mathlib.Core.List.{List}
use Prim.Native.Nat.{ℕ, zero, suc, ◌+◌, ◌-◌, ◌*◌, ◌/◌, ◌%◌, ◌≤◌, ◌<◌}
use native.Mathlib.Omega.{arith}
use native.Mathlib.Decide.{dec_lt, ℕ_discrete}
use lib.Dec.{ltb, eqb}
use lib.ListN.{set}
use borrow.Author.Tests.{ltb-true, lt-ltb, le-ltb, eqb-false, ne_eqb, not-true}
use Rattle.lists.specs.Lists.{one_if, count_below}
use Rattle.lists.proofs.Laws.{by_cases, and_l, and_r, true_false, below_same, below_at}
use Rattle.page.specs.Pages.{View, is_clean}
use Rattle.flash.specs.Medium.{seen, wholly_clean}
use Rattle.flash.proofs.Steps.{seen_set_other}
use Rattle.blocks.specs.declared.Head.{Head}
use Rattle.blocks.specs.Blocks.{spare, available, wrap, first_clean, new_head, page_due}
use Rattle.step.specs.Step.{head_after}

-- ---- counts

-- g holds where f does, but perhaps at x
count_but_one : (n : ℕ) (f g : ℕ → Bool) (x : ℕ) → ((i : ℕ) → i < n → f i ≡ true → (i ≡ x) ⊎ (g i ≡ true)) → count_below n f ≤ count_below n g + one_if (ltb x n)
unfolding count_below one_if
count_but_one zero f g x h = omega arith
count_but_one (suc n) f g x h = go (f n) refl (ℕ_discrete n x) (count_but_one n f g x (λ i l e. h i (omega arith) e))
  where
    grows : (a : ℕ) → one_if (ltb x n) ≤ one_if (ltb x (suc n))
    grows a = by_cases (ltb x n) (λ e. rw (e, lt-ltb x (suc n) (let l : x < n = ltb-true x n e in omega arith)) (unfold one_if in omega arith)) (λ e. rw e (unfold one_if in omega arith))

    here : n ≡ x → suc (one_if (ltb x n)) ≤ one_if (ltb x (suc n))
    here e = rw (le-ltb x n (omega arith), lt-ltb x (suc n) (omega arith)) (unfold one_if in omega arith)

    go : (b : Bool) → f n ≡ b → Dec (n ≡ x) → count_below n f ≤ count_below n g + one_if (ltb x n) → count_below n f + one_if (f n) ≤ count_below n g + one_if (g n) + one_if (ltb x (suc n))
    go false e d k = rw e (unfold one_if in omega (arith, grows 0))
    go true e (yes d) k = rw e (unfold one_if in omega (arith, here d))
    go true e (no d) k = rw e (other (h n (omega arith) e))
      where
        other : (n ≡ x) ⊎ (g n ≡ true) → count_below n f + one_if true ≤ count_below n g + one_if (g n) + one_if (ltb x (suc n))
        other (inl q) = absurd (d q)
        other (inr q) = rw q (unfold one_if in omega (arith, grows 0))

-- a count of at least one has a witness
pub record Witness (n : ℕ) (f : ℕ → Bool) : Type 0 where
  pub at : ℕ
  pub below : at < n
  pub so : f at ≡ true

pub count_witness : (n : ℕ) (f : ℕ → Bool) → 1 ≤ count_below n f → Witness n f
unfolding count_below one_if
count_witness zero f h = absurd (omega arith)
count_witness (suc n) f h =
    by_cases (f n) (λ e. record { at = n; below = omega arith; so = e })
    (λ e. let k : 1 ≤ count_below n f + 0 = rw e at h in let w = count_witness n f (omega arith) in record { at = w.at; below = omega (arith, w.below); so = w.so })

-- ---- a page of a wholly clean block, and blocks that a page does not touch

pub clean_page : (v : List View) (b i : ℕ) → wholly_clean v b ≡ true → i < 16 → is_clean (seen v (16 * b + i)) ≡ true
unfolding wholly_clean
clean_page v b i w h = below_at 16 (λ i. is_clean (seen v (16 * b + i))) w i h

pub clean_elsewhere : (v : List View) (p b : ℕ) (x : View) → (p / 16 ≡ b → ⊥) → wholly_clean (set v p x) b ≡ wholly_clean v b
unfolding wholly_clean
clean_elsewhere v p b x n =
    below_same 16 (λ i. is_clean (seen (set v p x) (16 * b + i))) (λ i. is_clean (seen v (16 * b + i))) (λ i l. ap is_clean (seen_set_other v p (16 * b + i) x (λ e. n (omega arith))))

-- a spare block
pub spare_is : (v : List View) (head b : ℕ) → (b ≡ head → ⊥) → wholly_clean v b ≡ true → spare v head b ≡ true
unfolding spare
spare_is v head b n c = rw (ne_eqb b head n) c

pub spare_other : (v : List View) (head b : ℕ) → spare v head b ≡ true → b ≡ head → ⊥
unfolding spare
spare_other v head b e = eqb-false b head (not-true (eqb b head) (and_l (not (eqb b head)) (wholly_clean v b) e))

pub spare_clean : (v : List View) (head b : ℕ) → spare v head b ≡ true → wholly_clean v b ≡ true
unfolding spare
spare_clean v head b e = and_r (not (eqb b head)) (wholly_clean v b) e

-- ---- the new head

record NewHead (v : List View) (blocks head found : ℕ) : Type 0 where
  inside : found < blocks
  other : found ≡ head → ⊥
  cleans : wholly_clean v found ≡ true

wrap_low : (blocks b : ℕ) → b < blocks → wrap blocks b ≡ b
unfolding wrap
wrap_low blocks b h = rw (lt-ltb b blocks h)

wrap_high : (blocks b : ℕ) → blocks ≤ b → wrap blocks b ≡ b - blocks
unfolding wrap
wrap_high blocks b h = rw (le-ltb b blocks h)

-- the blocks head + 1 .. head + blocks - 1, wrapped, are the others
wrap_other : (blocks head k : ℕ) → head < blocks → 1 ≤ k → k < blocks → (wrap blocks (head + k) < blocks) × (wrap blocks (head + k) ≡ head → ⊥)
wrap_other blocks head k h lo hi = go (dec_lt (head + k) blocks)
  where
    go : Dec (head + k < blocks) → (wrap blocks (head + k) < blocks) × (wrap blocks (head + k) ≡ head → ⊥)
    go (yes l) = rw (wrap_low blocks (head + k) l) (l, λ e. omega arith)
    go (no l) = rw (wrap_high blocks (head + k) (omega arith)) (omega arith, λ e. omega arith)

record Way (blocks head b : ℕ) : Type 0 where
  steps : ℕ
  low : 1 ≤ steps
  high : steps < blocks
  is : wrap blocks (head + steps) ≡ b

way : (blocks head b : ℕ) → head < blocks → b < blocks → (b ≡ head → ⊥) → Way blocks head b
way blocks head b p q n = go (dec_lt head b)
  where
    go : Dec (head < b) → Way blocks head b
    go (yes l) = let z : head + (b - head) ≡ b = omega arith in record { steps = b - head; low = omega arith; high = omega arith; is = rw z (wrap_low blocks b q) }
    go (no l) =
        let d : b < head = below (dec_lt b head) in
        let z : head + (b + blocks - head) ≡ b + blocks = omega arith in
        let y : b + blocks - blocks ≡ b = omega arith in
        record { steps = b + blocks - head; low = omega arith; high = omega arith; is = rw z (wrap_high blocks (b + blocks) (omega arith) ∙ y) }
      where
        below : Dec (b < head) → b < head
        below (yes k) = k
        below (no k) = absurd (n (omega arith))

found_head : (v : List View) (blocks head k n j : ℕ) → head < blocks → 1 ≤ k → k + n ≤ blocks → k ≤ j → j < k + n
    → wholly_clean v (wrap blocks (head + j)) ≡ true → NewHead v blocks head (first_clean v blocks head k n)
unfolding first_clean
found_head v blocks head k zero j h lo room a b w = absurd (omega arith)
found_head v blocks head k (suc n) j h lo room a b w =
    by_cases (wholly_clean v (wrap blocks (head + k)))
    (λ e. let o = wrap_other blocks head k h lo (omega arith) in rw e (record { inside = o.0; other = o.1; cleans = e }))
    (λ e. rw e (found_head v blocks head (k + 1) n j h (omega arith) (omega arith) (past e (ℕ_discrete k j)) (omega arith) w))
  where
    past : wholly_clean v (wrap blocks (head + k)) ≡ false → Dec (k ≡ j) → k + 1 ≤ j
    past e (yes q) = true_false (rw q w) e
    past e (no q) = omega arith

spare_head : (v : List View) (h : Head) → h.block < h.blocks → 1 ≤ count_below h.blocks (spare v h.block) → NewHead v h.blocks h.block (new_head v h)
unfolding new_head
spare_head v h inside one =
    let w = count_witness h.blocks (spare v h.block) one in
    let c = spare_clean v h.block w.at w.so in
    let j = way h.blocks h.block w.at inside w.below (spare_other v h.block w.at w.so) in
    found_head v h.blocks h.block 1 (h.blocks - 1) j.steps inside (omega arith) (omega arith) j.low (omega (arith, j.high)) (rw j.is c)

-- ---- the page due

-- the pages of the head from the next one on are clean
pub record HeadReady (v : List View) (h : Head) : Type 0 where
  pub inside : h.block < h.blocks
  pub low : 1 ≤ h.next
  pub high : h.next ≤ 16
  pub tail : (i : ℕ) → h.next ≤ i → i < 16 → is_clean (seen v (16 * h.block + i)) ≡ true

-- the page due is the head's next, or the first of a wholly clean block
pub data Which (v : List View) (h : Head) (p : ℕ) : Type 0 where
  in_head : h.next < 16 → p ≡ 16 * h.block + h.next → Which v h p
  new_head_lem : (b : ℕ) → 16 ≤ h.next → p ≡ 16 * b → b < h.blocks → (b ≡ h.block → ⊥) → wholly_clean v b ≡ true → Which v h p

pub record DuePage (v : List View) (h : Head) : Type 0 where
  pub which : Which v h (page_due v h)
  pub free : is_clean (seen v (page_due v h)) ≡ true

pub due_page : (v : List View) (h : Head) → HeadReady v h → 1 ≤ available v h → DuePage v h
unfolding page_due
due_page v h r one = go (dec_lt h.next 16)
  where
    go : Dec (h.next < 16) → DuePage v h
    go (yes l) = record { which = rw e (in_head l refl); free = rw e (r.tail h.next (omega arith) l) }
      where
        e : ltb h.next 16 ≡ true
        e = lt-ltb h.next 16 l
    go (no l) = record { which = rw e (new_head_lem (new_head v h) (omega arith) refl n.inside n.other n.cleans); free = rw e (rw z at (clean_page v (new_head v h) 0 n.cleans (omega arith))) }
      where
        e : ltb h.next 16 ≡ false
        e = le-ltb h.next 16 (omega arith)

        n : NewHead v h.blocks h.block (new_head v h)
        n = spare_head v h r.inside (unfold available in omega (arith, one, r.high))

        z : 16 * new_head v h + 0 ≡ 16 * new_head v h
        z = omega arith

-- ---- programming it

module _ (v : List View) (h : Head) (p base : ℕ) (x : View) (r : HeadReady v h) where
  spares : Which v h p → (b : ℕ) → b < h.blocks → spare v h.block b ≡ true → (b ≡ p / 16) ⊎ (spare (set v p x) (p / 16) b ≡ true)
  spares w b l e = go (ℕ_discrete b (p / 16))
    where
      go : Dec (b ≡ p / 16) → (b ≡ p / 16) ⊎ (spare (set v p x) (p / 16) b ≡ true)
      go (yes q) = inl q
      go (no q) = inr (spare_is (set v p x) (p / 16) b q (clean_elsewhere v p b x (λ k. q (sym k)) ∙ spare_clean v h.block b e))

  spares_head : p / 16 ≡ h.block → (b : ℕ) → b < h.blocks → spare v h.block b ≡ true → (b ≡ h.blocks) ⊎ (spare (set v p x) (p / 16) b ≡ true)
  spares_head k b l e =
      let q : b ≡ p / 16 → ⊥ = λ y. spare_other v h.block b e (y ∙ k) in
      inr (spare_is (set v p x) (p / 16) b q (clean_elsewhere v p b x (λ y. q (sym y)) ∙ spare_clean v h.block b e))

  -- at most one page is taken away
  pub available_after : Which v h p → available v h ≤ suc (available (set v p x) (head_after h p base))
  unfolding available head_after
  available_after (in_head l e) =
      let k : p / 16 ≡ h.block = omega arith in
      let n : p % 16 ≡ h.next = omega arith in
      let c = count_but_one h.blocks (spare v h.block) (spare (set v p x) (p / 16)) h.blocks (spares_head k) in
      let z : one_if (ltb h.blocks h.blocks) ≡ 0 = rw (le-ltb h.blocks h.blocks (omega arith)) (unfold one_if in refl) in
      omega (arith, c, z)
  available_after (new_head_lem b l e i o w) =
      let k : p / 16 ≡ b = omega arith in
      let n : p % 16 ≡ 0 = omega arith in
      let c = count_but_one h.blocks (spare v h.block) (spare (set v p x) (p / 16)) (p / 16) (spares (new_head_lem b l e i o w)) in
      let z : one_if (ltb (p / 16) h.blocks) ≡ 1 = rw (lt-ltb (p / 16) h.blocks (omega arith)) (unfold one_if in refl) in
      omega (arith, c, z, r.high)

  pub ready_after : Which v h p → HeadReady (set v p x) (head_after h p base)
  unfolding head_after
  ready_after (in_head l e) =
      let k : p / 16 ≡ h.block = omega arith in
      let n : p % 16 ≡ h.next = omega arith in
      record {
        inside = omega (arith, r.inside);
        low = omega arith;
        high = omega arith;
        tail = λ i a b. rw (seen_set_other v p (16 * (p / 16) + i) x (λ z. omega arith), k) (r.tail i (omega arith) b);
      }
  ready_after (new_head_lem y l e i o w) =
      let k : p / 16 ≡ y = omega arith in
      let n : p % 16 ≡ 0 = omega arith in
      record {
        inside = omega arith;
        low = omega arith;
        high = omega arith;
        tail = λ j a b. rw (seen_set_other v p (16 * (p / 16) + j) x (λ z. omega arith), k) (clean_page v y j w b);
      }
