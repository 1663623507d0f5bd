-- Keys have 16 bits and words 64, all the way: in the calls, in what is pending, in each page that a step programs.
use mathlib.Core.Path.{◌≡◌, refl, sym, ◌∙◌, ap}
use mathlib.Core.Bool.{Bool, true, false, cond, ◌&&◌, ◌||◌}
use mathlib.Core.List.{List, [], ◌∷◌}
use Prim.Native.Nat.{ℕ, zero, suc, ◌+◌, ◌*◌, ◌/◌, ◌%◌, ◌^◌, ◌-◌, ◌≤◌, ◌<◌, min}
use native.Mathlib.Nat.{pow-succ'}
use native.Mathlib.Omega.{arith}
use native.Mathlib.Decide.{dec_lt}
use lib.Dec.{leb, ltb, eqb}
use lib.ListN.{length, get_or, take, drop}
use borrow.Author.Tests.{ltb-true, eqb-true, leb-true, lt-leb}
use Rattle.lists.specs.declared.Cell.{Cell}
use Rattle.lists.specs.Lists.{all, Below, Bytes, table, value_or}
use Rattle.lists.specs.Cells.{cell, Entry, Place, keys_of, words_of}
use Rattle.lists.proofs.Laws.{by_cases, and_r, every_at, all_head, all_tail, below_nil, below_cons, below_tail, below_drop, get_table, length_table, word_at_lem, and_l}
use Rattle.codec.specs.Codec.{le, part}
use Rattle.page.specs.Pages.{Page, View, clean, spoilt, whole}
use Rattle.page.specs.Rules.{may_carry, least_count, serial_ok, ruled, lawful}
use Rattle.page.specs.Layout.{used, entry_at, decode}
use Rattle.page.proofs.Written.{Narrow}
use Rattle.page.proofs.Berger.{whole_view}
use Rattle.flash.specs.Medium.{most_blocks, page_at, views, seen}
use Rattle.flash.proofs.Laws.{seen_views}
use Rattle.flash.proofs.Steps.{bytes_page}
use Rattle.nodes.specs.Nodes.{sets_valves, entry_in, node_in, word_for, word_at, words}
use Rattle.calls.specs.Calls.{zip}

-- ---- entries

pub record Small (es : List Entry) : Type 0 where
  pub keys : Below (2 ^ 16) (keys_of es)
  pub words : Below (2 ^ 64) (words_of es)

pub small_nil : Small []
small_nil = record { keys = unfold keys_of in below_nil (omega arith); words = unfold words_of in below_nil (omega arith) }

pub small_cons : (e : Entry) (es : List Entry) → e.key < 2 ^ 16 → e.val < 2 ^ 64 → Small es → Small (e ∷ es)
small_cons e es k w s = record { keys = unfold keys_of in below_cons k s.keys; words = unfold words_of in below_cons w s.words }

small_head : (e : Entry) (es : List Entry) → Small (e ∷ es) → (e.key < 2 ^ 16) × (e.val < 2 ^ 64)
unfolding keys_of words_of
small_head e es s = (s.keys.each 0, s.words.each 0)

small_tail : (e : Entry) (es : List Entry) → Small (e ∷ es) → Small es
unfolding keys_of words_of
small_tail e es s = record { keys = below_tail s.keys; words = below_tail s.words }

small_take : (n : ℕ) (es : List Entry) → Small es → Small (take n es)
small_take zero es s = small_nil
small_take (suc n) [] s = s
small_take (suc n) (e ∷ es) s = small_cons e (take n es) (small_head e es s).0 (small_head e es s).1 (small_take n es (small_tail e es s))

small_drop : (n : ℕ) (es : List Entry) → Small es → Small (drop n es)
small_drop zero es s = s
small_drop (suc n) [] s = s
small_drop (suc n) (e ∷ es) s = small_drop n es (small_tail e es s)

pub small_part : (a n : ℕ) (es : List Entry) → Small es → Small (part a n es)
small_part a n es s = small_take n (drop a es) (small_drop a es s)

pub small_all : (es : List Entry) → ((i : ℕ) → i < length es → ((get_or es i (cell 0 0)).key < 2 ^ 16) × ((get_or es i (cell 0 0)).val < 2 ^ 64)) → Small es
small_all [] h = small_nil
small_all (e ∷ es) h = small_cons e es (h 0 (omega arith)).0 (h 0 (omega arith)).1 (small_all es (λ i l. h (suc i) (omega arith)))

pub small_zip : (ks ws : List ℕ) → Below (2 ^ 16) ks → Below (2 ^ 64) ws → Small (zip ks ws)
unfolding zip
small_zip [] ws a b = small_nil
small_zip (k ∷ ks) [] a b = small_nil
small_zip (k ∷ ks) (w ∷ ws) a b = small_cons (cell k w) (zip ks ws) (a.each 0) (b.each 0) (small_zip ks ws (below_tail a) (below_tail b))

pub zip_length : (ks ws : List ℕ) → length ks ≡ length ws → length (zip ks ws) ≡ length ks
unfolding zip
zip_length [] ws e = refl
zip_length (k ∷ ks) [] e = absurd (omega arith)
zip_length (k ∷ ks) (w ∷ ws) e = ap suc (zip_length ks ws (omega arith))

-- ---- a lawful page of small entries has room in its fields

kind_small : (kind flags n : ℕ) → least_count kind flags ≤ n → n ≤ 24 → (kind < 256) × (flags < 256)
unfolding least_count may_carry
kind_small kind flags n h m =
    by_cases (eqb kind 3)
    (λ a. let x : kind ≡ 3 = eqb-true kind 3 a in one (rw a at h) (omega arith))
    (λ a. by_cases (eqb kind 4)
    (λ o. let x : kind ≡ 4 = eqb-true kind 4 o in one (rw (a, o) at h) (omega arith))
    (λ o. by_cases (leb flags 3)
    (λ b.
    let y : flags ≤ 3 = leb-true flags 3 b in
    by_cases (eqb kind 1)
    (λ c. let x : kind ≡ 1 = eqb-true kind 1 c in (omega arith, omega arith))
    (λ c. by_cases (eqb kind 2)
    (λ d. let x : kind ≡ 2 = eqb-true kind 2 d in (omega arith, omega arith))
    (λ d. let z : 25 ≤ n = rw (a, o, c, d) at h in absurd (omega arith))))
    (λ b. let z : 25 ≤ n = none (eqb kind 1 || eqb kind 2) (rw (a, o, b) at h) in absurd (omega arith))))
  where
    none : (c : Bool) → cond (c && false) (cond (leb 2 flags) (cond (eqb kind 2 && eqb flags 3) 0 1) 24) 25 ≤ n → 25 ≤ n
    none true h = h
    none false h = h

    -- a kind with flags 3 only
    one : cond (eqb flags 3) (cond (leb 2 flags) (cond (eqb kind 2 && eqb flags 3) 0 1) 24) 25 ≤ n → kind < 256 → (kind < 256) × (flags < 256)
    one h k =
        by_cases (eqb flags 3)
        (λ b. let y : flags ≡ 3 = eqb-true flags 3 b in (k, omega arith))
        (λ b. let z : 25 ≤ n = rw b at h in absurd (omega arith))

pub narrow : (pg : Page) → lawful pg ≡ true → length pg.entries ≤ 24 → Small pg.entries → pg.marks < 65536 → Narrow pg
unfolding lawful ruled serial_ok
narrow pg l few s m =
    let u : ruled pg ≡ true = and_l (ruled pg) (serial_ok pg.serial) l in
    let w : serial_ok pg.serial ≡ true = and_r (ruled pg) (serial_ok pg.serial) l in
    let k = kind_small pg.kind pg.flags (length pg.entries) (leb-true (least_count pg.kind pg.flags) (length pg.entries) (every_at 1 _ u)) few in
    let n : pg.serial ≤ 2 ^ 64 - 2 = leb-true pg.serial (2 ^ 64 - 2) (and_r (leb 1 pg.serial) (leb pg.serial (2 ^ 64 - 2)) w) in
    record { kind = k.0; flags = k.1; count = few; serial = omega arith; marks = m; keys = s.keys; words = s.words; tidy = every_at 0 _ u }

-- ---- the words of a medium

le_small : (n : ℕ) (xs : List ℕ) → Bytes xs → le (take n xs) < 256 ^ n
unfolding le
le_small zero xs b = omega arith
le_small (suc n) [] b = let p = pow-succ' 256 n in let q = positive n in omega arith
  where
    positive : (n : ℕ) → 0 < 256 ^ n
    positive zero = omega arith
    positive (suc n) = let p = pow-succ' 256 n in let q = positive n in omega arith
le_small (suc n) (x ∷ xs) b =
    let p = pow-succ' 256 n in
    let h : x < 256 = b.each 0 in
    omega (arith, le_small n xs (below_tail b))

abbrev pub SmallWords : List View → Type 0
SmallWords v = (x : Place) → value_or 0 (word_at v x) < 2 ^ 64

small_decode : (s : List ℕ) → Bytes s → Small (decode s).entries
unfolding decode
small_decode s b =
    let t = length_table (entry_at s) (cell 0 0) (min 24 (used s)) in
    small_all (table (min 24 (used s)) (entry_at s))
    (λ i l. let h : i < min 24 (used s) = omega arith in rw (get_table (entry_at s) (cell 0 0) (min 24 (used s)) i h) (entry i))
  where
    entry : (i : ℕ) → ((entry_at s i).key < 2 ^ 16) × ((entry_at s i).val < 2 ^ 64)
    entry i = unfold entry_at in (le_small 2 (drop (16 + 2 * i) s) (below_drop (16 + 2 * i) s b), le_small 8 (drop (64 + 8 * i) s) (below_drop (64 + 8 * i) s b))

page_bytes : (m : List ℕ) (p : ℕ) → Bytes m → Bytes (page_at m p)
page_bytes m p b = go (dec_lt (length m) (256 * p + 256))
  where
    go : Dec (length m < 256 * p + 256) → Bytes (page_at m p)
    go (yes h) = unfold page_at in rw (lt-leb (256 * p + 256) (length m) h) (below_nil (omega arith))
    go (no h) = bytes_page m p (omega arith) b

small_entry : (es : List Entry) (i k : ℕ) → Small es → value_or 0 (word_for k (entry_in es i)) < 2 ^ 64
unfolding word_for entry_in value_or
small_entry es i k s =
    by_cases (ltb i (length es))
    (λ e. rw e (by_cases (eqb (get_or es i (cell 0 0)).key k) (λ f. rw f (rw (word_at_lem es i) at (s.words.each i))) (λ f. rw f (omega arith))))
    (λ e. rw e (omega arith))

small_view : (x : View) (i k : ℕ) → ((pg : Page) → x ≡ whole pg → Small pg.entries) → value_or 0 (word_for k (node_in x i)) < 2 ^ 64
small_view clean i k h = unfold node_in word_for value_or in omega arith
small_view spoilt i k h = unfold node_in word_for value_or in omega arith
small_view (whole pg) i k h = unfold node_in in by_cases (sets_valves pg.kind) (λ e. rw e (small_entry pg.entries i k (h pg refl))) (λ e. rw e (unfold word_for value_or in omega arith))

pub words_small : (m : List ℕ) → Bytes m → SmallWords (views m)
unfolding word_at
words_small m b x =
    small_view (seen (views m) (x.val / 24)) (x.val % 24) x.key
    (λ pg e.
    let w = whole_view (page_at m (x.val / 24)) pg (sym (seen_views m (x.val / 24)) ∙ e) in
    rw w.1 at (small_decode (page_at m (x.val / 24)) (page_bytes m (x.val / 24) b)))

pub small_words : (v : List View) (l : List Place) → SmallWords v → all (λ x. ltb x.key 32768) l ≡ true → Small (words v l)
unfolding words
small_words v [] w h = small_nil
small_words v (x ∷ l) w h =
    let k : x.key < 32768 = ltb-true x.key 32768 (all_head (λ (y : Cell). ltb y.key 32768) x l h) in
    small_cons (cell x.key (value_or 0 (word_at v x))) (words v l) (omega arith) (w x) (small_words v l w (all_tail (λ (y : Cell). ltb y.key 32768) x l h))

-- places of an index that condition 7 passes
pub small_places : (b : ℕ) (l : List Place) → b ≤ most_blocks → all (λ x. ltb x.key 32768) l ≡ true → all (λ x. ltb x.val (384 * b)) l ≡ true → Small l
small_places b [] m h k = small_nil
small_places b (x ∷ l) m h k =
    let p : x.key < 32768 = ltb-true x.key 32768 (all_head (λ (y : Cell). ltb y.key 32768) x l h) in
    let q : x.val < 384 * b = ltb-true x.val (384 * b) (all_head (λ (y : Cell). ltb y.val (384 * b)) x l k) in
    small_cons x l (omega arith) (omega arith) (small_places b l m (all_tail (λ (y : Cell). ltb y.key 32768) x l h) (all_tail (λ (y : Cell). ltb y.val (384 * b)) x l k))
