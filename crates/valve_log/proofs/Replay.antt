-- What point 3 needs of the replay: it goes group by group, takes in a group of nodes or a base whole, and finds the nodes of a group where
-- the state's addresses say.
use mathlib.Core.Path.{◌≡◌, refl, sym, ap, ◌∙◌}
use mathlib.Core.Bool.{Bool, true, false}
use Rattle.std.proofs.Common.{Option, Some}
use mathlib.Core.List.{List, [], ◌∷◌, ◌++◌, append_assoc, append-nil}
use Prim.Native.Nat.{ℕ, zero, suc, ◌+◌, ◌*◌, ◌/◌, ◌%◌, ◌≤◌}
use native.Mathlib.Omega.{arith}
use native.Mathlib.Nat.{add-zero}
use lib.Dec.{eqb, leb}
use lib.ListN.{length, get_or, take, drop, length-append, length-take, drop_of_length-le}
use lib.Seq.{drop-drop}
use borrow.Author.Tests.{le-leb, eqb-true}
use Rattle.lists.specs.declared.Cell.{Cell}
use Rattle.lists.specs.Lists.{all}
use Rattle.lists.specs.Cells.{cell, Entry}
use Rattle.lists.proofs.Laws.{and_l, and_r, and_both, all_head, all_tail}
use Rattle.index.specs.Index.{entering, most_valves, rising_from, assign, assign_all, within}
use Rattle.index.proofs.Entries.{assign_append, within_append}
use Rattle.recovery.specs.Recovery.{Placed, kind_of, Group, entries_of, log_of_group, log_of, above, stack, enter_one, enter_all, enter_page, enter_pages}
use Rattle.recovery.proofs.Pages.{above_snoc}
use Rattle.step.specs.Step.{group_page, addressed_from, addressed}
use Rattle.valve_log.proofs.Index.{nodes, nodes_of}
use Rattle.valve_log.proofs.Groups.{lay}

-- ---- group by group, page by page

pub log_append : (a b : List Group) → log_of (a ++ b) ≡ log_of a ++ log_of b
unfolding log_of
log_append [] b = refl
log_append (g ∷ a) b = ap (λ (t : List (List Entry)). log_of_group g ++ t) (log_append a b) ∙ sym (append_assoc (log_of_group g) (log_of a) (log_of b))

pub enter_pages_append : (o : Option (List Cell)) (a b : List Placed) → enter_pages o (a ++ b) ≡ enter_pages (enter_pages o a) b
unfolding enter_pages
enter_pages_append o [] b = refl
enter_pages_append o (x ∷ a) b = enter_pages_append (enter_page o x) a b

-- ---- a group of nodes

within_left : (l a b : List Cell) → within l (a ++ b) ≡ true → within l a ≡ true
within_left l a b h = and_l (within l a) (within (assign_all l a) b) (sym (within_append l a b) ∙ h)

within_right : (l a b : List Cell) → within l (a ++ b) ≡ true → within (assign_all l a) b ≡ true
within_right l a b h = and_r (within l a) (within (assign_all l a) b) (sym (within_append l a b) ∙ h)

enter_nodes : (k a : ℕ) (l es : List Cell) → eqb k 2 ≡ false → within l (nodes a es) ≡ true → enter_all k a (Some l) es ≡ Some (assign_all l (nodes a es))
unfolding enter_all enter_one entering nodes within assign_all
enter_nodes k a l [] q h = refl
enter_nodes k a l (e ∷ es) q h =
    let c : Cell = cell e.key a in
    let p : leb (length (assign l c)) most_valves ≡ true = and_l (leb (length (assign l c)) most_valves) (within (assign l c) (nodes (suc a) es)) h in
    let r : within (assign l c) (nodes (suc a) es) ≡ true = and_r (leb (length (assign l c)) most_valves) (within (assign l c) (nodes (suc a) es)) h in
    rw (q, p) (enter_nodes k (suc a) (assign l c) es q r)

-- a group of kind 1 or 3 enters the index whole
pub enter_group : (k : ℕ) (l : List Cell) (g : List Placed) → eqb k 2 ≡ false → all (λ x. eqb (kind_of x) k) g ≡ true
    → within l (nodes_of g) ≡ true → enter_pages (Some l) g ≡ Some (assign_all l (nodes_of g))
unfolding enter_pages enter_page nodes_of assign_all
enter_group k l [] q u h = refl
enter_group k l (x ∷ g) q u h =
    let f : Placed → Bool = λ y. eqb (kind_of y) k in
    let e : kind_of x ≡ k = eqb-true (kind_of x) k (all_head f x g u) in
    let ns : List Cell = nodes (24 * x.at) x.page.entries in
    let p : enter_all (kind_of x) (24 * x.at) (Some l) x.page.entries ≡ Some (assign_all l ns) = rw e (enter_nodes k (24 * x.at) l x.page.entries q (within_left l ns (nodes_of g) h)) in
    rw (p, assign_append l ns (nodes_of g)) (enter_group k (assign_all l ns) g q (all_tail f x g u) (within_right l ns (nodes_of g) h))

-- ---- a base

enter_stack : (a : ℕ) (l es : List Cell) → rising_from (above l) es ≡ true → length l + length es ≤ most_valves → enter_all 2 a (Some l) es ≡ Some (l ++ es)
unfolding enter_all enter_one stack rising_from
enter_stack a l [] r h = ap Some (sym (append-nil l))
enter_stack a l (e ∷ es) r h =
    let p = and_l (leb (above l) e.key) (rising_from (suc e.key) es) r in
    let t = and_r (leb (above l) e.key) (rising_from (suc e.key) es) r in
    let c : suc (length l) ≤ most_valves = omega arith in
    let z : length (l ++ (e ∷ [])) + length es ≤ most_valves = omega (arith, length-append l (e ∷ [])) in
    rw (p, le-leb (suc (length l)) most_valves c) (enter_stack (suc a) (l ++ (e ∷ [])) es (rw (above_snoc l e) t) z ∙ ap Some (append_assoc l (e ∷ []) es))

rising_right : (l a b : List Cell) → rising_from (above l) (a ++ b) ≡ true → rising_from (above (l ++ a)) b ≡ true
unfolding rising_from
rising_right l [] b h = rw append-nil h
rising_right l (e ∷ a) b h =
    let t = and_r (leb (above l) e.key) (rising_from (suc e.key) (a ++ b)) h in
    rw (← append_assoc l (e ∷ []) a) (rising_right (l ++ (e ∷ [])) a b (rw (above_snoc l e) t))

rising_left : (m : ℕ) (a b : List Cell) → rising_from m (a ++ b) ≡ true → rising_from m a ≡ true
unfolding rising_from
rising_left m [] b h = refl
rising_left m (e ∷ a) b h =
    and_both (and_l (leb m e.key) (rising_from (suc e.key) (a ++ b)) h)
    (rising_left (suc e.key) a b (and_r (leb m e.key) (rising_from (suc e.key) (a ++ b)) h))

-- a base that rises becomes the index
pub enter_base : (l : List Cell) (g : List Placed) → all (λ x. eqb (kind_of x) 2) g ≡ true → rising_from (above l) (entries_of g) ≡ true
    → length l + length (entries_of g) ≤ most_valves → enter_pages (Some l) g ≡ Some (l ++ entries_of g)
unfolding enter_pages enter_page entries_of
enter_base l [] u r h = ap Some (sym (append-nil l))
enter_base l (x ∷ g) u r h =
    let f : Placed → Bool = λ y. eqb (kind_of y) 2 in
    let e : kind_of x ≡ 2 = eqb-true (kind_of x) 2 (all_head f x g u) in
    let es : List Cell = x.page.entries in
    let n = length-append es (entries_of g) in
    let k = length-append l es in
    let p : enter_all (kind_of x) (24 * x.at) (Some l) es ≡ Some (l ++ es) = rw e (enter_stack (24 * x.at) l es (rising_left (above l) es (entries_of g) r) (omega arith)) in
    rw p (enter_base (l ++ es) g (all_tail f x g u) (rising_right l es (entries_of g) r) (omega arith) ∙ ap Some (append_assoc l es (entries_of g)))

-- ---- the state's addresses are the nodes of the pages laid out

addressed_split : (n i : ℕ) (es : List Entry) (q : List ℕ) → addressed_from i es q ≡ addressed_from i (take n es) q ++ addressed_from (i + n) (drop n es) q
unfolding addressed_from
addressed_split zero i es q = rw add-zero
addressed_split (suc n) i [] q = refl
addressed_split (suc n) i (e ∷ es) q =
    let z : i + suc n ≡ suc i + n = omega arith in
    rw z (ap (λ (t : List Cell). cell e.key (24 * get_or q (i / 24) 0 + i % 24) ∷ t) (addressed_split n (suc i) es q))

-- entries of page k only, from its place j on
addressed_page : (k j i a : ℕ) (es : List Entry) (q : List ℕ) → i ≡ 24 * k + j → a ≡ 24 * get_or q k 0 + j → j + length es ≤ 24 → addressed_from i es q ≡ nodes a es
unfolding addressed_from nodes
addressed_page k j i a [] q e f h = refl
addressed_page k j i a (x ∷ es) q e f h =
    let u : i / 24 ≡ k = omega arith in
    let w : i % 24 ≡ j = omega arith in
    rw (u, w, ← f, addressed_page k (suc j) (suc i) (suc a) es q (omega arith) (omega arith) (omega arith))

-- the pages from page k on; q lists all the pages, ps those from page k on
addressed_from_lem : (kind : ℕ) (es : List Entry) (k s : ℕ) (q ps : List ℕ) → ((j : ℕ) → get_or q (k + j) 0 ≡ get_or ps j 0)
    → length es ≤ 24 * (k + length ps) → addressed_from (24 * k) (drop (24 * k) es) q ≡ nodes_of (lay kind es k s ps)
unfolding lay nodes_of group_page
addressed_from_lem kind es k s q [] f h = rw (drop_of_length-le es {i = 24 * k} (omega arith)) (unfold addressed_from in refl)
addressed_from_lem kind es k s q (p ∷ ps) f h =
    let m : 24 * k + 24 ≡ 24 * suc k = omega arith in
    let z : k + 0 ≡ k = omega arith in
    let g : get_or q k 0 ≡ p = rw z at (f 0) in
    let c : addressed_from (24 * k) (take 24 (drop (24 * k) es)) q ≡ nodes (24 * p) (take 24 (drop (24 * k) es)) =
    addressed_page k 0 (24 * k) (24 * p) (take 24 (drop (24 * k) es)) q (omega arith) (omega (arith, g)) (omega (arith, length-take 24 (drop (24 * k) es))) in
    let r : addressed_from (24 * suc k) (drop (24 * suc k) es) q ≡ nodes_of (lay kind es (suc k) (suc s) ps) = addressed_from_lem kind es (suc k) (suc s) q ps (λ j. next j) (omega arith) in
    addressed_split 24 (24 * k) (drop (24 * k) es) q ∙ rw (drop-drop 24 (24 * k) es, m, c, r)
  where
    next : (j : ℕ) → get_or q (suc k + j) 0 ≡ get_or ps j 0
    next j = let z : k + suc j ≡ suc k + j = omega arith in rw z at (f (suc j))

pub addressed_laid : (es : List Entry) (s kind : ℕ) (ps : List ℕ) → length es ≤ 24 * length ps → addressed es ps ≡ nodes_of (lay kind es 0 s ps)
unfolding addressed
addressed_laid es s kind ps h = addressed_from_lem kind es 0 s ps ps start (omega arith)
  where
    start : (j : ℕ) → get_or ps (0 + j) 0 ≡ get_or ps j 0
    start j = let z : 0 + j ≡ j = omega arith in rw z

pub addressed_one : (es : List Entry) (p : ℕ) → length es ≤ 24 → addressed es (p ∷ []) ≡ nodes (24 * p) es
unfolding addressed
addressed_one es p h = addressed_page 0 0 0 (24 * p) es (p ∷ []) (omega arith) (omega arith) (omega arith)
