-- What a recorded cut leaves: the pattern's bits byte by byte, and a cut by what the step due did to a copy of the medium.
use mathlib.Core.Path.{◌≡◌, refl, sym, ap, ◌∙◌}
use mathlib.Core.Bool.{true, false}
use mathlib.Core.List.{List, [], ◌∷◌, append-nil}
use Prim.Native.Nat.{ℕ, zero, suc, ◌+◌, ◌-◌, ◌*◌, ◌/◌, ◌%◌, ◌^◌, ◌≤◌, ◌<◌, max, min}
use native.Mathlib.Nat.{add-zero}
use native.Mathlib.Numerals.{add-one}
use native.Mathlib.Omega.{arith}
use native.Mathlib.Decide.{dec_le}
use Rattle.std.proofs.Common.{◌⊎◌, inl, inr}
use lib.Bits.{bit_or, or_step}
use lib.ListN.{length, get_or, take, drop, set, length-take, length-drop, length-set, take-append-drop, drop_of_length-le}
use lib.Seq.{drop-cons, drop-set-lt}
use borrow.Author.Tests.{eq-eqb, ne_eqb}
use Rattle.bits.proofs.Laws.{half_below}
use Rattle.codec.specs.Codec.{put_at}
use Rattle.codec.proofs.Put.{put_sets}
use Rattle.cut_patterns.specs.Cuts.{raised, raised_bytes, raised_at}
use Rattle.cut_patterns.specs.Struck.{most_bytes, struck, struck_after}

-- ---- bits

or_raised : (k x y : ℕ) → x < 2 ^ k → y < 2 ^ k → bit_or x y ≡ raised k x y
unfolding raised
or_raised zero x y h l = let p : x ≡ 0 = omega arith in let q : y ≡ 0 = omega arith in rw (p, q)
or_raised (suc k) x y h l =
    let e = or_raised k (x / 2) (y / 2) (half_below k x h) (half_below k y l) in
    let f : bit_or (x / 2) (y / 2) * 2 + max (x % 2) (y % 2) ≡ max (x % 2) (y % 2) + 2 * bit_or (x / 2) (y / 2) = omega arith in
    or_step x y ∙ f ∙ ap (λ (z : ℕ). max (x % 2) (y % 2) + 2 * z) e

bits_raised : (x y : ℕ) → x < 256 → y < 256 → bit_or x y ≡ raised 8 x y
bits_raised x y h l = or_raised 8 x y h l

-- ---- bytes

put_nil : (m : List ℕ) (a : ℕ) → put_at m a [] ≡ m
unfolding put_at
put_nil m a = rw (add-zero) (take-append-drop a m)

-- a list of the same length put in the place of all
pub put_all : (m xs : List ℕ) → length xs ≡ length m → put_at m 0 xs ≡ xs
unfolding put_at
put_all m xs e = let z : drop (0 + length xs) m ≡ [] = drop_of_length-le m {i = 0 + length xs} (omega arith) in rw z (append-nil xs)

pub raised_long : (xs ys : List ℕ) → length (raised_bytes xs ys) ≡ length xs
unfolding raised_bytes
raised_long [] ys = refl
raised_long (x ∷ xs) [] = refl
raised_long (x ∷ xs) (y ∷ ys) = ap suc (raised_long xs ys)

take_none : (n : ℕ) → take {A = ℕ} n [] ≡ []
take_none zero = refl
take_none (suc n) = refl

raised_none : (m : List ℕ) (a : ℕ) → raised_at m a [] ≡ m
unfolding raised_at raised_bytes
raised_none m a = put_nil m a

raised_past : (m : List ℕ) (a : ℕ) (pattern : List ℕ) → length m ≤ a → raised_at m a pattern ≡ m
unfolding raised_at raised_bytes
raised_past m a pattern h = let z : take (length pattern) (drop a m) ≡ [] = ap (take (length pattern)) (drop_of_length-le m {i = a} h) ∙ take_none (length pattern) in rw z (put_nil m a)

raised_step : (m : List ℕ) (a y : ℕ) (ys : List ℕ) → a < length m → raised_at m a (y ∷ ys) ≡ raised_at (set m a (raised 8 (get_or m a 0) y)) (suc a) ys
unfolding raised_at raised_bytes
raised_step m a y ys h =
    let z : ℕ = raised 8 (get_or m a 0) y in
    let n : ℕ = length ys in
    let tail : List ℕ = raised_bytes (take n (drop (suc a) m)) ys in
    let p = raised_long (take n (drop (suc a) m)) ys in
    let q = length-take n (drop (suc a) m) in
    let d = length-drop (suc a) m in
    ap (λ (l : List ℕ). put_at m a (raised_bytes (take (suc n) l) (y ∷ ys))) (drop-cons m a 0 h)
    ∙ sym (put_sets m a (z ∷ tail) (omega (arith, p, q, d)))
    ∙ put_sets (set m a z) (suc a) tail (omega (arith, p, q, d, length-set m a z))
    ∙ sym (ap (λ (l : List ℕ). put_at (set m a z) (suc a) (raised_bytes (take n l) ys)) (drop-set-lt (suc a) m a z (omega arith)))

-- the bytes so far are raised: with the rest of the pattern over those from at + i on, m is m₀ with the whole pattern
pub record Raising (m₀ : List ℕ) (at : ℕ) (pattern m : List ℕ) (i : ℕ) : Type 0 where
  pub long : length m ≡ length m₀
  pub so : raised_at m (at + i) (drop i pattern) ≡ raised_at m₀ at pattern

pub raise_start : (m : List ℕ) (at : ℕ) (pattern : List ℕ) → Raising m at pattern m 0
raise_start m at pattern = record { long = refl; so = rw add-zero }

pub raise_nowhere : (m : List ℕ) (at : ℕ) (pattern : List ℕ) → length m ≤ at → m ≡ raised_at m at pattern
raise_nowhere m at pattern h = sym (raised_past m at pattern h)

module _ (m₀ : List ℕ) (at : ℕ) (pattern m : List ℕ) (i : ℕ) (r : Raising m₀ at pattern m i) where
  raise_next : (x : ℕ) → i < length m₀ - at → i < length pattern → x ≡ raised 8 (get_or m (at + i) 0) (get_or pattern i 0) → Raising m₀ at pattern (set m (at + i) x) (i + 1)
  raise_next x h l e =
      let k = r.long in
      let f : at + (i + 1) ≡ suc (at + i) = omega arith in
      let s = raised_step m (at + i) (get_or pattern i 0) (drop (suc i) pattern) (omega arith) in
      record {
        long = length-set m (at + i) x ∙ r.long;
        so = rw (f, add-one, e) (sym s ∙ ap (raised_at m (at + i)) (sym (drop-cons pattern i 0 l)) ∙ r.so);
      }

  -- as the code writes it
  pub raise_or : i < min (length pattern) (length m₀ - at) → get_or m (at + i) 0 < 256 → get_or pattern i 0 < 256
      → Raising m₀ at pattern (set m (at + i) (bit_or (get_or m (at + i) 0) (get_or pattern i 0))) (i + 1)
  raise_or h a b = raise_next _ (omega arith) (omega arith) (bits_raised _ _ a b)

  raise_over : length pattern ≤ i → m ≡ raised_at m₀ at pattern
  raise_over h = sym (raised_none m (at + i)) ∙ ap (raised_at m (at + i)) (sym (drop_of_length-le pattern {i = i} h)) ∙ r.so

  pub raise_end : min (length pattern) (length m₀ - at) ≤ i → m ≡ raised_at m₀ at pattern
  raise_end h = go (dec_le (length pattern) i)
    where
      go : Dec (length pattern ≤ i) → m ≡ raised_at m₀ at pattern
      go (yes l) = raise_over l
      go (no l) = let k = r.long in sym (raised_past m (at + i) (drop i pattern) (omega arith)) ∙ r.so

-- in a page or a block
pub raise_there : (m : List ℕ) (a n : ℕ) (pattern m' : List ℕ) → length m ≤ most_bytes → n ≡ min a 18446744073709551615 → m' ≡ raised_at m n pattern → m' ≡ raised_at m a pattern
raise_there m a n pattern m' h e q = go (dec_le a 18446744073709551615)
  where
    go : Dec (a ≤ 18446744073709551615) → m' ≡ raised_at m a pattern
    go (yes l) = let z : n ≡ a = omega arith in rw z at q
    go (no l) = q ∙ raised_past m n pattern (omega arith) ∙ sym (raised_past m a pattern (omega arith))

-- ---- what a cut leaves

-- by what a step did to a copy of the medium
module _ (m copy : List ℕ) (number touched at name : ℕ) (pattern : List ℕ) where
  pub leave_refused : (number ≡ 0 → ⊥) → struck false m ≡ struck_after m copy number touched at name pattern
  unfolding struck_after
  leave_refused h = rw (ne_eqb number 0 h)

  module _ (z : number ≡ 0) where
    module _ (t : touched ≡ 2) where
      pub leave_other : (name < 256) ⊎ ((256 ≤ name) × (name - 256 ≡ at → ⊥)) → struck false m ≡ struck_after m copy number touched at name pattern
      unfolding struck_after
      leave_other (inl h) = rw (eq-eqb number 0 z, eq-eqb touched 2 t, ne_eqb name (256 + at) (λ q. omega arith))
      leave_other (inr h) = let f = h.1 in rw (eq-eqb number 0 z, eq-eqb touched 2 t, ne_eqb name (256 + at) (λ q. f (omega arith)))

      pub leave_block : (m' : List ℕ) → 256 ≤ name → name - 256 ≡ at → m' ≡ raised_at m (4096 * at) pattern → struck true m' ≡ struck_after m copy number touched at name pattern
      unfolding struck_after
      leave_block m' l h e = rw (eq-eqb number 0 z, eq-eqb touched 2 t, eq-eqb name (256 + at) (omega arith), e)

    module _ (t : touched ≡ 2 → ⊥) where
      pub leave_another : (name ≡ at → ⊥) → struck false m ≡ struck_after m copy number touched at name pattern
      unfolding struck_after
      leave_another h = rw (eq-eqb number 0 z, ne_eqb touched 2 t, ne_eqb name at h)

      pub leave_page : (c m' : List ℕ) → name ≡ at → c ≡ copy → m' ≡ raised_at c (256 * at) pattern
          → struck true m' ≡ struck_after m copy number touched at name pattern
      unfolding struck_after
      leave_page c m' h e f = rw (eq-eqb number 0 z, ne_eqb touched 2 t, eq-eqb name at h, f, e)
