-- The pages of a group: their flags, lawfulness, entries; and what the walk makes of them.
use mathlib.Core.Path.{◌≡◌, refl, sym, ap, ◌∙◌}
use mathlib.Core.Bool.{Bool, true, false, cond, ◌||◌}
use Rattle.std.proofs.Common.{Some}
use mathlib.Core.List.{List, [], ◌∷◌, ◌++◌}
use Prim.Native.Nat.{ℕ, suc, ◌+◌, ◌-◌, ◌*◌, ◌%◌, ◌^◌, ◌≤◌, ◌<◌, min}
use native.Mathlib.Omega.{arith}
use native.Mathlib.Nat.{add-zero}
use lib.ListN.{length, take, drop, length-take, length-drop}
use lib.Seq.{take-add, drop-drop, take_all}
use lib.Dec.{leb, ltb, eqb}
use borrow.Author.Tests.{leb-true, leb-false, eqb-true, eqb-false, le-leb, lt-leb, eq-eqb, ne_eqb}
use Rattle.lists.specs.Lists.{all, every, one_if}
use Rattle.lists.specs.Cells.{Entry}
use Rattle.lists.proofs.Laws.{by_cases, all_take, all_drop, all_weaken, opposite}
use Rattle.page.specs.Pages.{page, begins, ends, pages_for}
use Rattle.page.specs.Rules.{may_carry, least_count, entry_ok, serial_ok, marks_ok, ruled, lawful}
use Rattle.state.specs.State.{base_pages}
use Rattle.recovery.specs.Recovery.{Placed, placed, kind_of, Group, Walk, between, inside, stray, joined, begun, continues, enter, groups_of, entries_of}
use Rattle.step.specs.Step.{is_last, flags_of, group_page}
use Rattle.valve_log.proofs.Order.{is_begin}

-- the pages from page k on of a group, written to the pages listed, with serials from s on
unfoldable pub lay : ℕ → List Entry → ℕ → ℕ → List ℕ → List Placed
lay kind es k s [] = []
lay kind es k s (p ∷ ps) = placed p (group_page kind es k s) ∷ lay kind es (suc k) (suc s) ps

-- ---- flags

pub begins_page : (kind : ℕ) (es : List Entry) (k s : ℕ) → begins (group_page kind es k s) ≡ eqb k 0
unfolding begins group_page flags_of one_if
begins_page kind es k s = flags_begin (eqb k 0) (is_last k (length es))
  where
    flags_begin : (b e : Bool) → eqb (flags_of b e % 2) 1 ≡ b
    flags_begin true true = refl
    flags_begin true false = refl
    flags_begin false true = refl
    flags_begin false false = refl

pub ends_page : (kind : ℕ) (es : List Entry) (k s : ℕ) → ends (group_page kind es k s) ≡ is_last k (length es)
unfolding ends group_page flags_of one_if
ends_page kind es k s = flags_end (eqb k 0) (is_last k (length es))
  where
    flags_end : (b e : Bool) → leb 2 (flags_of b e) ≡ e
    flags_end true true = refl
    flags_end true false = refl
    flags_end false true = refl
    flags_end false false = refl

-- ---- lawful

pub part_length : (es : List Entry) (k : ℕ) → length (take 24 (drop (24 * k) es)) ≡ min 24 (length es - 24 * k)
part_length es k = rw (length-take 24 (drop (24 * k) es), length-drop (24 * k) es)

pub page_most : (kind : ℕ) (es : List Entry) (k s : ℕ) → length (group_page kind es k s).entries ≤ 24
unfolding group_page
page_most kind es k s = omega (arith, part_length es k)

lawful_page : (kind flags s : ℕ) (es : List Entry) → eqb kind 4 ≡ false → least_count kind flags ≤ length es
    → all (entry_ok kind) es ≡ true → 1 ≤ s → s + 1 ≤ 2 ^ 64 - 1 → lawful (page kind flags s es) ≡ true
unfolding lawful ruled every serial_ok marks_ok
lawful_page kind flags s es k n e p q =
    let m : s ≤ 2 ^ 64 - 2 = omega arith in
    rw (le-leb (least_count kind flags) (length es) n, e, le-leb 1 s p, le-leb s (2 ^ 64 - 2) m, k)

-- a part of the entries
part_ok : (f : Entry → Bool) (es : List Entry) (k : ℕ) → all f es ≡ true → all f (take 24 (drop (24 * k) es)) ≡ true
part_ok f es k h = all_take f 24 (drop (24 * k) es) (all_drop f (24 * k) es h)

-- the least count of a group's page
least_nodes : (b e : Bool) → least_count 1 (flags_of b e) ≡ cond e 1 24
unfolding least_count may_carry flags_of one_if
least_nodes true true = refl
least_nodes true false = refl
least_nodes false true = refl
least_nodes false false = refl

least_base : (b e : Bool) → least_count 2 (flags_of b e) ≡ cond e (cond b 0 1) 24
unfolding least_count may_carry flags_of one_if
least_base true true = refl
least_base true false = refl
least_base false true = refl
least_base false false = refl

-- a page that is not the last is full, the last has as many as it must
part_enough : (es : List Entry) (k least : ℕ) → (length es ≤ 24 * suc k → least ≤ length es - 24 * k) → least ≤ 24 → cond (is_last k (length es)) least 24 ≤ length (take 24 (drop (24 * k) es))
unfolding is_last
part_enough es k least h m =
    by_cases (leb (length es) (24 * suc k))
    (λ e. rw e (omega (arith, part_length es k, h (leb-true (length es) (24 * suc k) e))))
    (λ e. let g : 24 * suc k < length es = leb-false (length es) (24 * suc k) e in rw e (omega (arith, part_length es k)))

pub lawful_nodes : (es : List Entry) (k s : ℕ) → all (entry_ok 1) es ≡ true → k < pages_for (length es) → 1 ≤ length es → 1 ≤ s → s + 1 ≤ 2 ^ 64 - 1 → lawful (group_page 1 es k s) ≡ true
unfolding group_page pages_for
lawful_nodes es k s r n l p q =
    lawful_page 1 (flags_of (eqb k 0) (is_last k (length es))) s (take 24 (drop (24 * k) es)) refl
    (rw (least_nodes (eqb k 0) (is_last k (length es))) (part_enough es k 1 (λ h. omega arith) (omega arith)))
    (part_ok (entry_ok 1) es k r) p q

-- an entry whose key is a valve is fit for any kind
valve_ok : (kind : ℕ) (es : List Entry) → all (λ e. ltb e.key 32768) es ≡ true → all (entry_ok kind) es ≡ true
unfolding entry_ok
valve_ok kind es = all_weaken (λ (e : Entry). ltb e.key 32768) (entry_ok kind) one es
  where
    one : (e : Entry) → ltb e.key 32768 ≡ true → entry_ok kind e ≡ true
    one e h = rw h

pub lawful_base : (es : List Entry) (k s : ℕ) → all (λ e. ltb e.key 32768) es ≡ true → k < base_pages (length es) → 1 ≤ s → s + 1 ≤ 2 ^ 64 - 1 → lawful (group_page 2 es k s) ≡ true
unfolding group_page base_pages pages_for
lawful_base es k s r n p q =
    lawful_page 2 (flags_of (eqb k 0) (is_last k (length es))) s (take 24 (drop (24 * k) es)) refl
    (rw (least_base (eqb k 0) (is_last k (length es))) enough)
    (valve_ok 2 (take 24 (drop (24 * k) es)) (part_ok (λ (e : Entry). ltb e.key 32768) es k r)) p q
  where
    enough : cond (is_last k (length es)) (cond (eqb k 0) 0 1) 24 ≤ length (take 24 (drop (24 * k) es))
    enough =
        by_cases (eqb k 0)
        (λ e. rw e (part_enough es k 0 (λ h. omega arith) (omega arith)))
        (λ e. let z : k ≡ 0 → ⊥ = eqb-false k 0 e in rw e (part_enough es k 1 (λ h. omega arith) (omega arith)))

pub lawful_moves : (es : List Entry) (s : ℕ) → all (λ e. ltb e.key 32768) es ≡ true → 1 ≤ length es → 1 ≤ s → s + 1 ≤ 2 ^ 64 - 1 → lawful (page 3 3 s es) ≡ true
lawful_moves es s r n p q = lawful_page 3 3 s es refl (unfold least_count may_carry in n) (valve_ok 3 es r) p q

-- ---- a group laid out

pub lay_snoc : (kind : ℕ) (es : List Entry) (k s : ℕ) (ps : List ℕ) (p : ℕ)
    → lay kind es k s (ps ++ (p ∷ [])) ≡ lay kind es k s ps ++ (placed p (group_page kind es (k + length ps) (s + length ps)) ∷ [])
unfolding lay
lay_snoc kind es k s [] p = rw (add-zero k, add-zero s)
lay_snoc kind es k s (q ∷ ps) p = rw (shift k (length ps), shift s (length ps), lay_snoc kind es (suc k) (suc s) ps p)
  where
    shift : (a b : ℕ) → a + suc b ≡ suc a + b
    shift a b = omega arith

pub lay_length : (kind : ℕ) (es : List Entry) (k s : ℕ) (ps : List ℕ) → length (lay kind es k s ps) ≡ length ps
unfolding lay
lay_length kind es k s [] = refl
lay_length kind es k s (p ∷ ps) = ap suc (lay_length kind es (suc k) (suc s) ps)

pub lay_entries : (kind : ℕ) (es : List Entry) (k s : ℕ) (ps : List ℕ) → entries_of (lay kind es k s ps) ≡ take (24 * length ps) (drop (24 * k) es)
unfolding lay entries_of group_page
lay_entries kind es k s [] = refl
lay_entries kind es k s (p ∷ ps) =
    let n : 24 * suc (length ps) ≡ 24 + 24 * length ps = omega arith in
    let m : 24 * k + 24 ≡ 24 * suc k = omega arith in
    ap (λ (t : List Entry). take 24 (drop (24 * k) es) ++ t) (lay_entries kind es (suc k) (suc s) ps)
    ∙ ap (λ (t : List Entry). take 24 (drop (24 * k) es) ++ take (24 * length ps) t) (ap (λ (t : ℕ). drop t es) (sym m) ∙ sym (drop-drop 24 (24 * k) es))
    ∙ sym (take-add 24 (24 * length ps) (drop (24 * k) es)) ∙ ap (λ (t : ℕ). take t (drop (24 * k) es)) (sym n)

pub lay_all : (kind : ℕ) (es : List Entry) (s : ℕ) (ps : List ℕ) → length es ≤ 24 * length ps → entries_of (lay kind es 0 s ps) ≡ es
lay_all kind es s ps h = lay_entries kind es 0 s ps ∙ take_all (24 * length ps) es h

-- its pages are of one kind, only page 0 begins, and their serials have no gap
pub lay_kind : (kind : ℕ) (es : List Entry) (k s : ℕ) (ps : List ℕ) → all (λ x. eqb (kind_of x) kind) (lay kind es k s ps) ≡ true
unfolding lay all group_page
lay_kind kind es k s [] = refl
lay_kind kind es k s (p ∷ ps) = rw (eq-eqb kind kind refl) (lay_kind kind es (suc k) (suc s) ps)

pub lay_begins : (kind : ℕ) (es : List Entry) (k s : ℕ) (ps : List ℕ) → 1 ≤ k → all (opposite is_begin) (lay kind es k s ps) ≡ true
unfolding lay all opposite is_begin
lay_begins kind es k s [] h = refl
lay_begins kind es k s (p ∷ ps) h = rw (begins_page kind es k s, ne_eqb k 0 (λ z. omega arith)) (lay_begins kind es (suc k) (suc s) ps (omega arith))

-- ---- what the walk makes of a page of a group

-- what is written of a group of this kind: nothing yet, or the group that the walk is inside
pub data Opened (kind : ℕ) (w : Walk) (gs : List Group) : List Placed → Type 0 where
  unopened : Opened kind w gs []
  opened : {x : Placed} {pages : List Placed} → w ≡ inside gs kind (x ∷ pages) → Opened kind w gs (x ∷ pages)

pub enter_begin : (w : Walk) (gs : List Group) (x : Placed) → groups_of w ≡ Some gs → begins x.page ≡ true → enter w x ≡ begun gs x
unfolding enter groups_of
enter_begin (between gs') gs x g b = rw b (ap (λ (l : List Group). begun l x) (cc))
enter_begin (inside gs' k pages) gs x g b = rw b (ap (λ (l : List Group). begun l x) (cc))
enter_begin stray gs x g b = let z : ◌≡◌ {A = ℕ} 0 1 = cc in absurd (omega arith)

pub enter_more : (gs : List Group) (k : ℕ) (pages : List Placed) (x : Placed) → begins x.page ≡ false → kind_of x ≡ k
    → (k ≡ 1 → length pages < 4) → enter (inside gs k pages) x ≡ joined gs k (pages ++ (x ∷ [])) (ends x.page)
unfolding enter continues
enter_more gs k pages x b e h =
    by_cases (eqb k 1)
    (λ f. rw (b, eq-eqb (kind_of x) k e, f, lt-leb 4 (length pages) (h (eqb-true k 1 f))))
    (λ f. rw (b, eq-eqb (kind_of x) k e, f))

-- the next page of a group
pub enter_page_lem : (kind : ℕ) (w : Walk) (gs : List Group) (es : List Entry) (s₀ s : ℕ) (ps : List ℕ) (p : ℕ) → groups_of w ≡ Some gs → Opened kind w gs (lay kind es 0 s₀ ps) → (kind ≡ 1 → length ps < 4)
    → enter w (placed p (group_page kind es (length ps) s)) ≡ joined gs kind (lay kind es 0 s₀ ps ++ (placed p (group_page kind es (length ps) s) ∷ [])) (is_last (length ps) (length es))
unfolding lay
enter_page_lem kind w gs es s₀ s [] p g unopened h =
    enter_begin w gs (placed p (group_page kind es 0 s)) g (begins_page kind es 0 s) ∙ (unfold begun group_page in ap (joined gs kind (placed p (group_page kind es 0 s) ∷ [])) (ends_page kind es 0 s))
enter_page_lem kind w gs es s₀ s (q ∷ ps) p g (opened e) h =
    rw e
    (enter_more gs kind (lay kind es 0 s₀ (q ∷ ps)) (placed p (group_page kind es (suc (length ps)) s))
    (begins_page kind es (suc (length ps)) s ∙ ne_eqb (suc (length ps)) 0 (λ c. omega arith)) (unfold group_page in refl) (λ k. omega (arith, h k, lay_length kind es 1 (suc s₀) ps))
    ∙ ap (joined gs kind (lay kind es 0 s₀ (q ∷ ps) ++ (placed p (group_page kind es (suc (length ps)) s) ∷ []))) (ends_page kind es (suc (length ps)) s))

pub opened_any : (kind : ℕ) {w : Walk} {gs : List Group} (pages : List Placed) → 1 ≤ length pages → w ≡ inside gs kind pages → Opened kind w gs pages
opened_any kind [] h e = absurd (omega arith)
opened_any kind (x ∷ pages) h e = opened e
