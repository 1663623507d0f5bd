-- Laws of text put into a lent list, in the shapes that the code's proofs ask.
use mathlib.Core.Path.{◌≡◌, refl, sym, ap, ap₂, ◌∙◌}
use mathlib.Core.List.{List, [], ◌∷◌, ◌++◌, append-nil, append_assoc}
use Prim.Native.Nat.{ℕ, zero, suc, ◌+◌, ◌-◌, ◌*◌, ◌/◌, ◌%◌, ◌^◌, ◌≤◌, ◌<◌, min}
use native.Mathlib.Omega.{arith}
use native.Mathlib.Nat.{mod-eq_of_lt, pow-succ', one-le-pow, pow-le-pow_right, le_trans}
use native.Mathlib.Decide.{dec_le}
use lib.ListN.{length, take, drop, length-take, length-drop, length-append, drop_of_length-le}
use lib.Seq.{length-take-le, take_all, drop-append-le, drop-append-add, drop-nil}
use borrow.Author.Tests.{lt-ltb, le-ltb}
use borrow.Rule.Slice.PartMut.{put_mid, same_len_mid}
use Rattle.std.proofs.lemmas.Slice.{take-put_mid}
use Rattle.io.specs.Digits.{hex_digit_ascii, last_digits, IsDigitCount}
use Rattle.std.specs.Borrow.{GName}
use Rattle.text.specs.Filled.{Filled, starting}
use Rattle.text.specs.Text.{decimal_within, decimal, PutsBehind, Holds}

-- ---- one text behind the other

seam : (k : ℕ) (x y : List ℕ) → take k x ++ take (k - length (take k x)) y ≡ take k (x ++ y)
seam zero x y = refl
seam (suc k) [] y = let z : suc k - 0 ≡ suc k = omega arith in ap (λ (j : ℕ). take j y) z
seam (suc k) (c ∷ x) y =
    let z : suc k - suc (length (take k x)) ≡ k - length (take k x) = omega arith in
    ap (λ (t : List ℕ). c ∷ t) (ap (λ (j : ℕ). take k x ++ take j y) z ∙ seam k x y)

-- two texts in turn behind a third, as far as there is room
seam_behind : (n : ℕ) (t x u y v : List ℕ) → u ≡ t ++ take (n - length t) x → v ≡ u ++ take (n - length u) y
    → v ≡ t ++ take (n - length t) (x ++ y)
seam_behind n t x u y v p q =
    let k = n - length t in
    let e : n - length u ≡ k - length (take k x) = omega (arith, ap length p, length-append t (take k x)) in
    q
    ∙ ap (λ (j : ℕ). u ++ take j y) e
    ∙ ap (λ (l : List ℕ). l ++ take (k - length (take k x)) y) p
    ∙ append_assoc t (take k x) (take (k - length (take k x)) y)
    ∙ ap (λ (l : List ℕ). t ++ l) (seam k x y)

pub drop_append : (k : ℕ) (x y : List ℕ) → drop k (x ++ y) ≡ drop k x ++ drop (k - length x) y
drop_append k x y = go (dec_le k (length x))
  where
    go : Dec (k ≤ length x) → drop k (x ++ y) ≡ drop k x ++ drop (k - length x) y
    go (yes h) =
        let z : k - length x ≡ 0 = omega arith in
        drop-append-le k x y h ∙ ap (λ (j : ℕ). drop k x ++ drop j y) (sym z)
    go (no h) =
        let z : k ≡ length x + (k - length x) = omega arith in
        let l : length x ≤ k = omega arith in
        ap (λ (j : ℕ). drop j (x ++ y)) z
        ∙ drop-append-add x y (k - length x)
        ∙ ap (λ (t : List ℕ). t ++ drop (k - length x) y) (sym (drop_of_length-le x l))

module _ {t : Filled} where
  pub puts_none : PutsBehind t [] t
  puts_none =
      let k = t.room - length t.text in
      let z : t.skip - 0 ≡ t.skip = omega arith in
      let e : take k (drop t.skip []) ≡ [] = ap (take k) (drop-nil t.skip) ∙ take_all k [] (omega arith) in
      record { list = refl; room = refl; skip = sym z; so = sym (ap (λ (l : List ℕ). t.text ++ l) e ∙ append-nil t.text) }

  module _ {x : List ℕ} {u : Filled} where
    pub puts_then : {y : List ℕ} {v : Filled} → PutsBehind t x u → PutsBehind u y v → PutsBehind t (x ++ y) v
    puts_then {y} {v} p q =
        let a = p.skip in
        let b = q.skip in
        let l = length-append x y in
        let n = t.room in
        let e : v.text ≡ u.text ++ take (n - length u.text) (drop u.skip y) =
        q.so ∙ ap (λ (j : ℕ). u.text ++ take (j - length u.text) (drop u.skip y)) p.room in
        record {
          list = q.list ∙ p.list;
          room = q.room ∙ p.room;
          skip = omega arith;
          so =
              seam_behind n t.text (drop t.skip x) u.text (drop u.skip y) v.text p.so e
              ∙ ap (λ (j : ℕ). t.text ++ take (n - length t.text) (drop t.skip x ++ drop j y)) p.skip
              ∙ ap (λ (s : List ℕ). t.text ++ take (n - length t.text) s) (sym (drop_append t.skip x y));
        }

    pub puts_same : {y : List ℕ} → x ≡ y → PutsBehind t x u → PutsBehind t y u
    puts_same e p = rw (← e) p

-- ---- bytes put behind the text: k of s from place n on

-- what of s is shown, where b bytes of it are left out
shown_is : (s : List ℕ) (skip b : ℕ) → b ≡ min skip (length s) → take (length s - b) (drop b s) ≡ drop skip s
shown_is s skip b e = go (dec_le skip (length s))
  where
    all : take (length s - b) (drop b s) ≡ drop b s
    all = take_all (length s - b) (drop b s) (omega (arith, length-drop b s))

    go : Dec (skip ≤ length s) → take (length s - b) (drop b s) ≡ drop skip s
    go (yes h) = let z : b ≡ skip = omega arith in all ∙ ap (λ (k : ℕ). drop k s) z
    go (no h) =
        let y : length s ≤ b = omega arith in
        let z : length s ≤ skip = omega arith in
        all ∙ drop_of_length-le s y ∙ sym (drop_of_length-le s z)

pub puts_pushed : {list : GName} (bytes s x : List ℕ) {ys : List ℕ} (n skip b j : ℕ) {k : ℕ} → n ≤ length bytes
    → b ≡ min skip (length s) → x ≡ take (length s - b) (drop b s) → k ≡ min (length x) (length bytes - n) → j ≡ k → ys ≡ take k x
    → PutsBehind (record { list = list; room = length bytes; text = take n bytes; skip = skip }) s
    (record { list = list; room = length (put_mid n j bytes ys); text = take (n + k) (put_mid n j bytes ys); skip = skip - b })
puts_pushed bytes s x {ys} n skip b j {k} h l i e f g =
    let y : length ys ≡ k = omega (arith, ap length g, length-take k x) in
    let a : length (take n bytes) ≡ n = length-take-le n bytes h in
    record {
      list = refl;
      room = same_len_mid n j bytes ys (omega (arith, length-take j (drop n bytes), length-drop n bytes));
      skip = omega arith;
      so =
          take-put_mid n j bytes ys (n + k) (omega arith) h
          ∙ ap (λ (u : List ℕ). take n bytes ++ u)
          (g
          ∙ cut (dec_le (length x) (length bytes - n))
          ∙ ap (λ (u : List ℕ). take (length bytes - n) u) (i ∙ shown_is s skip b l)
          ∙ ap (λ (i : ℕ). take (length bytes - i) (drop skip s)) (sym a));
    }
  where
    cut : Dec (length x ≤ length bytes - n) → take k x ≡ take (length bytes - n) x
    cut (yes p) = let q : length x ≤ k = omega arith in take_all k x q ∙ sym (take_all (length bytes - n) x p)
    cut (no p) = let q : k ≡ length bytes - n = omega arith in ap (λ (j : ℕ). take j x) q

-- ---- numbers

pub within_one : (f n : ℕ) → n < 10 → decimal_within (suc f) n ≡ (48 + n) ∷ []
unfolding decimal_within
within_one f n h = rw (lt-ltb n 10 h)

pub within_more : (f n : ℕ) → 10 ≤ n → decimal_within (suc f) n ≡ decimal_within f (n / 10) ++ ((48 + n % 10) ∷ [])
unfolding decimal_within
within_more f n h = rw (le-ltb n 10 h)

glyph_is : (n : ℕ) → hex_digit_ascii (n % 10) ≡ 48 + n % 10
glyph_is n = let h : n % 10 < 10 = omega arith in rw (lt-ltb (n % 10) 10 h)

digits_are : (k f n : ℕ) → suc k ≤ f → n < 10 ^ suc k → (0 < k → 10 ^ k ≤ n) → last_digits 10 (suc k) n ≡ decimal_within f n
digits_are k zero n h l m = absurd (omega arith)
digits_are zero (suc f) n h l m =
    let z : n < 10 = l in
    ap (λ (t : ℕ). t ∷ []) (glyph_is n ∙ ap (λ (t : ℕ). 48 + t) (mod-eq_of_lt z)) ∙ sym (within_one f n z)
digits_are (suc k) (suc f) n h l m =
    let p : 10 ^ suc (suc k) ≡ 10 * 10 ^ suc k = pow-succ' 10 (suc k) in
    let q : 10 ^ suc k ≡ 10 * 10 ^ k = pow-succ' 10 k in
    let o : 1 ≤ 10 ^ k = one-le-pow k 10 (omega arith) in
    let a : 10 ^ suc k ≤ n = m (omega arith) in
    let b : 10 ≤ n = omega arith in
    let c : n / 10 < 10 ^ suc k = omega arith in
    let d : 10 ^ k ≤ n / 10 = omega arith in
    ap₂ (λ (t : List ℕ) (u : ℕ). t ++ (u ∷ [])) (digits_are k f (n / 10) (omega arith) c (λ _. d)) (glyph_is n)
    ∙ sym (within_more f n b)

-- no number of 64 bits takes more than 20 digits
twenty : (x k : ℕ) → x < 2 ^ 64 → (0 < k → 10 ^ k ≤ x) → suc k ≤ 20
twenty x k l m = go (dec_le (suc k) 20)
  where
    go : Dec (suc k ≤ 20) → suc k ≤ 20
    go (yes h) = h
    go (no h) =
        let a : 10 ^ 20 ≤ 10 ^ k = pow-le-pow_right (omega arith) {i = 20} {j = k} (omega arith) in
        let b : 10 ^ k ≤ x = m (omega arith) in
        let c : 10 ^ 20 ≤ x = le_trans a b in
        absurd (omega arith)

pub number_is : (x k : ℕ) (d : List ℕ) → x < 2 ^ 64 → IsDigitCount 10 1 x k → take k d ≡ last_digits 10 k x → take k d ≡ decimal x
unfolding decimal
number_is x zero d l f g = absurd (omega (arith, f.0))
number_is x (suc k) d l f g =
    let z : suc k - 1 ≡ k = omega arith in
    let b : 0 < k → 10 ^ k ≤ x = λ h. rw z at (f.2 (omega arith)) in
    g ∙ digits_are k 20 x (twenty x k l b) f.1 b

-- ---- where there is room for all of a text

pub puts_all : {list : GName} {room : ℕ} {x : List ℕ} {u : Filled} → length x ≤ room → PutsBehind (starting list room 0) x u → u.text ≡ x
puts_all {room = room} {x = x} l p = p.so ∙ take_all (room - 0) x (omega arith)

-- ---- a list that a text was in

pub started : {t : Filled} {list : GName} {room from : ℕ} → t ≡ starting list room from → t ≡ starting t.list t.room from
started {t} {list} {room} {from} e =
    e
    ∙ sym
    (ap₂ (λ (l : GName) (r : ℕ). starting l r from) (ap (λ (u : Filled). u.list) e) (ap (λ (u : Filled). u.room) e))

-- after the text's life the list holds the text
pub holds_text : {out x : List ℕ} {r : ℕ} (bytes : List ℕ) (n : ℕ) → out ≡ bytes → n ≤ length bytes → r ≡ length (take n bytes)
    → take n bytes ≡ x → Holds out r x
holds_text {out} {x} {r} bytes n o h e f =
    let a : r ≡ n = e ∙ length-take-le n bytes h in
    rw (a, o) (record { within = h; part = sym (length-take-le n bytes h); is = f })
