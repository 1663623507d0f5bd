-- A page of moved nodes leaves so many fewer live nodes in the block.
use mathlib.Core.Path.{◌≡◌, refl, sym, ap, ◌∙◌}
use mathlib.Core.Logic.{◌⊎◌, inl, inr}
use mathlib.Core.Bool.{Bool, true, false}
use mathlib.Core.List.{List, [], ◌∷◌}
use Prim.Native.Nat.{ℕ, zero, suc, ◌+◌, ◌*◌, ◌/◌, ◌≤◌, ◌<◌}
use native.Mathlib.Omega.{arith}
use lib.ListN.{length, take}
use lib.Dec.{leb, ltb, eqb}
use borrow.Author.Tests.{eqb-true, le-ltb, eq-eqb, ne_eqb}
use Rattle.lists.specs.declared.Cell.{Cell}
use Rattle.lists.specs.Lists.{all, keep}
use Rattle.lists.specs.Needs.{under}
use Rattle.lists.specs.Cells.{cell, Place}
use Rattle.lists.proofs.Laws.{by_cases, all_head, all_tail, all_keep}
use Rattle.index.specs.Index.{put, rising_from, rising, assign, assign_all}
use Rattle.index.proofs.Rising.{rising_tail, assign_rising}
use Rattle.nodes.specs.Nodes.{in_block, insert_by_address, by_address, live}
use Rattle.index.proofs.Members.{In, first, later, all_in, in_all, in_above, in_keep, in_take}
use Rattle.nodes.proofs.Alive.{in_insert, in_sorted}
use Rattle.valve_log.proofs.Index.{valves, nodes}

in_cases : {x y : Cell} {l : List Cell} → In x (y ∷ l) → (x ≡ y) ⊎ In x l
in_cases first = inl refl
in_cases (later i) = inr i

-- ---- keys that occur once

pub data Unique : List Cell → Type 0 where
  nil : Unique []
  cons : {x : Cell} {l : List Cell} → ((y : Cell) → In y l → y.key ≡ x.key → ⊥) → Unique l → Unique (x ∷ l)

-- a rising list has none twice
unique_rising : (n : ℕ) (l : List Cell) → rising_from n l ≡ true → Unique l
unique_rising n [] r = nil
unique_rising n (x ∷ l) r =
    let t = rising_tail n x l r in
    cons (λ y i e. away y e (in_above (suc x.key) t i)) (unique_rising (suc x.key) l t)
  where
    away : (y : Cell) → y.key ≡ x.key → suc x.key ≤ y.key → ⊥
    away y e h = omega arith

-- nor has what is kept of it, sorted by address and cut
unique_keep : (f : Cell → Bool) (l : List Cell) → Unique l → Unique (keep f l)
unfolding keep
unique_keep f [] nil = nil
unique_keep f (x ∷ l) (cons h u) = by_cases (f x) (λ e. rw e (cons (λ y i. h y (in_keep f l i)) (unique_keep f l u))) (λ e. rw e (unique_keep f l u))

unique_insert : (x : Cell) (l : List Cell) → Unique (x ∷ l) → Unique (insert_by_address x l)
unfolding insert_by_address
unique_insert x [] u = u
unique_insert x (y ∷ l) (cons h (cons k u)) =
    by_cases (leb x.val y.val) (λ e. rw e (cons h (cons k u)))
    (λ e. rw e (cons (λ z i. away z (in_cases (in_insert x l i))) (unique_insert x l (cons (λ z i. h z (later i)) u))))
  where
    away : (z : Cell) → (z ≡ x) ⊎ In z l → z.key ≡ y.key → ⊥
    away z (inl e) q = h y first (sym q ∙ ap (λ (t : Cell). t.key) e)
    away z (inr i) q = k z i q

unique_sorted : (l : List Cell) → Unique l → Unique (by_address l)
unfolding by_address
unique_sorted [] nil = nil
unique_sorted (x ∷ l) (cons h u) = unique_insert x (by_address l) (cons (λ y i. h y (in_sorted l i)) (unique_sorted l u))

unique_take : (n : ℕ) (l : List Cell) → Unique l → Unique (take n l)
unique_take zero l u = nil
unique_take (suc n) [] nil = nil
unique_take (suc n) (x ∷ l) (cons h u) = cons (λ y i. h y (in_take n l i)) (unique_take n l u)

pub unique_live : (index : List Place) (b n : ℕ) → rising index ≡ true → Unique (take n (live index b))
unfolding live rising
unique_live index b n r =
    let kept = keep (in_block b) index in
    unique_take n (by_address kept) (unique_sorted kept (unique_keep (in_block b) index (unique_rising 0 index r)))

-- ---- live nodes are the nodes in the block, each once

pub live_in_block : (index : List Place) (b : ℕ) → all (in_block b) (live index b) ≡ true
unfolding live
live_in_block index b =
    let kept = keep (in_block b) index in
    in_all (in_block b) (by_address kept) (λ x i. all_in (in_block b) (all_keep (in_block b) index) (in_sorted kept i))

insert_length : (x : Cell) (l : List Cell) → length (insert_by_address x l) ≡ suc (length l)
unfolding insert_by_address
insert_length x [] = refl
insert_length x (y ∷ l) = by_cases (leb x.val y.val) (λ e. rw e) (λ e. rw e (ap suc (insert_length x l)))

sorted_length : (l : List Cell) → length (by_address l) ≡ length l
unfolding by_address
sorted_length [] = refl
sorted_length (x ∷ l) = insert_length x (by_address l) ∙ ap suc (sorted_length l)

pub live_length : (index : List Place) (b : ℕ) → length (live index b) ≡ length (keep (in_block b) index)
unfolding live
live_length index b = sorted_length (keep (in_block b) index)

-- ---- one node moved out of the block

-- the others stay
in_put : (k a : ℕ) {x : Cell} (l : List Cell) → (x.key ≡ k → ⊥) → In x l → In x (put k a l)
unfolding put
in_put k a {x = x} [] h i = elim i [ ]
in_put k a {x} (y ∷ l) h i =
    by_cases (ltb k y.key) (λ e. rw e (later i))
    (λ e. by_cases (eqb k y.key) (λ f. rw (e, f) (later (beyond (in_cases i) f))) (λ f. rw (e, f) (under (in_cases i) (in_put k a l h))))
  where
    beyond : (x ≡ y) ⊎ In x l → eqb k y.key ≡ true → In x l
    beyond (inl e) f = absurd (h (ap (λ (t : Cell). t.key) e ∙ sym (eqb-true k y.key f)))
    beyond (inr j) f = j

    under : (x ≡ y) ⊎ In x l → (In x l → In x (put k a l)) → In x (y ∷ put k a l)
    under (inl e) g = rw e first
    under (inr j) g = later (g j)

put_out : (b n k a a' : ℕ) (l : List Cell) → rising_from n l ≡ true → In (cell k a) l → in_block b (cell k a) ≡ true
    → in_block b (cell k a') ≡ false → suc (length (keep (in_block b) (put k a' l))) ≡ length (keep (in_block b) l)
unfolding put keep
put_out b n k a a' [] r i t f = elim i [ ]
put_out b n k a a' (y ∷ l) r i t f = go (in_cases i) (λ j. put_out b (suc y.key) k a a' l rest j t f)
  where
    rest : rising_from (suc y.key) l ≡ true
    rest = rising_tail n y l r

    go : (cell k a ≡ y) ⊎ In (cell k a) l → (In (cell k a) l → suc (length (keep (in_block b) (put k a' l))) ≡ length (keep (in_block b) l))
        → suc (length (keep (in_block b) (put k a' (y ∷ l)))) ≡ length (keep (in_block b) (y ∷ l))
    go (inl e) ih = rw (← e, le-ltb k k (omega arith), eq-eqb k k refl, f, t)
    go (inr j) ih =
        let h : suc y.key ≤ k = in_above (suc y.key) rest j in
        rw (le-ltb k y.key (omega arith), ne_eqb k y.key (λ z. omega arith)) (by_cases (in_block b y) (λ c. rw c (ap suc (ih j))) (λ c. rw c (ih j)))

-- ---- a page of moves

assign_put : (l : List Cell) (e : Cell) → ltb e.key 32768 ≡ true → assign l e ≡ put e.key e.val l
unfolding assign
assign_put l e h = rw h

-- to address a and on, none of them in the block
keep_out : (b a : ℕ) (l moves : List Cell) → rising l ≡ true → ((x : Cell) → In x moves → In x l) → all (in_block b) moves ≡ true
    → valves moves ≡ true → Unique moves → ((i : ℕ) → i < length moves → (a + i) / 384 ≡ b → ⊥)
    → length (keep (in_block b) (assign_all l (nodes a moves))) + length moves ≡ length (keep (in_block b) l)
unfolding assign_all nodes valves
keep_out b a l [] r m t c u o = omega arith
keep_out b a l (x ∷ moves) r m t c (cons h u) o =
    let k : ltb x.key 32768 ≡ true = all_head (λ (y : Cell). ltb y.key 32768) x moves c in
    let p : assign l (cell x.key a) ≡ put x.key a l = assign_put l (cell x.key a) k in
    let one : suc (length (keep (in_block b) (put x.key a l))) ≡ length (keep (in_block b) l) =
    put_out b 0 x.key x.val a l (unfold rising in r) (m x first) (all_head (in_block b) x moves t) outside in
    let ih =
    keep_out b (suc a) (assign l (cell x.key a)) moves (assign_rising l (cell x.key a) r) (λ y i. rw p (in_put x.key a l (h y i) (m y (later i))))
    (all_tail (in_block b) x moves t) (all_tail (λ (y : Cell). ltb y.key 32768) x moves c) u (λ i q e. o (suc i) (omega arith) (shift i e)) in
    omega (arith, ih, one, ap (λ (z : List Cell). length (keep (in_block b) z)) p)
  where
    outside : in_block b (cell x.key a) ≡ false
    outside = unfold in_block in ne_eqb (a / 384) b (λ e. o 0 (omega arith) (zero_right e))
      where
        zero_right : a / 384 ≡ b → (a + 0) / 384 ≡ b
        zero_right e = omega arith

    shift : (i : ℕ) → (suc a + i) / 384 ≡ b → (a + suc i) / 384 ≡ b
    shift i e = let z : a + suc i ≡ suc a + i = omega arith in rw z e

-- to page p of another block
pub moves_out : (b p : ℕ) (l moves : List Place) → rising l ≡ true → ((x : Cell) → In x moves → In x l)
    → all (in_block b) moves ≡ true → valves moves ≡ true → Unique moves → length moves ≤ 24 → (p / 16 ≡ b → ⊥)
    → length (live (assign_all l (nodes (24 * p) moves)) b) + length moves ≡ length (live l b)
moves_out b p l moves r m t c u n o =
    omega (arith, keep_out b (24 * p) l moves r m t c u away, live_length (assign_all l (nodes (24 * p) moves)) b, live_length l b)
  where
    away : (i : ℕ) → i < length moves → (24 * p + i) / 384 ≡ b → ⊥
    away i h e = o (omega arith)
