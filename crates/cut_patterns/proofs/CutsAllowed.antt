-- A recorded cut is a cut in the sense of the list of calls and power cuts: with its pattern, each bit is 1 or as it was to be.
use mathlib.Core.Path.{◌≡◌, refl, ap, ◌∙◌}
use mathlib.Core.Logic.{◌⊎◌, inl, inr}
use mathlib.Core.Bool.{Bool}
use mathlib.Core.List.{List, [], ◌∷◌}
use Prim.Native.Nat.{ℕ, zero, suc, ◌+◌, ◌-◌, ◌*◌, ◌/◌, ◌%◌, ◌^◌, ◌≤◌, ◌<◌, max}
use native.Mathlib.Nat.{two-pow-succ}
use native.Mathlib.Omega.{arith}
use native.Mathlib.Decide.{dec_lt}
use lib.ListN.{length, get_or}
use Rattle.lists.specs.Lists.{Bytes}
use Rattle.lists.proofs.Laws.{below_cons, below_tail}
use Rattle.bits.specs.Bits.{bit}
use Rattle.codec.specs.Codec.{part, put_at}
use Rattle.codec.proofs.Put.{length_put, get_put_in, get_put_outside, get_part, length_part, bytes_put, bytes_part}
use Rattle.page.specs.Pages.{Page}
use Rattle.flash.specs.Medium.{programmed}
use Rattle.flash.specs.Cuts.{bit_at, Cut, CutProgram, CutErase}
use Rattle.flash.proofs.Steps.{AllGuarded, program_length, program_outside, program_guarded}
use Rattle.state.specs.State.{Held}
use Rattle.step.specs.Step.{program, erase}
use Rattle.cut_patterns.proofs.Cuts.{raised_long}
use Rattle.cut_patterns.specs.CutBits.{Patterned, LeavesByPattern}
use Rattle.cut_patterns.specs.Cuts.{raised, raised_bytes, raised_at, left_by_cut}

-- ---- one byte

-- the bits but the lowest
raised_rest : (k x y : ℕ) → raised (suc k) x y / 2 ≡ raised k (x / 2) (y / 2)
unfolding raised
raised_rest k x y = omega arith

-- each bit is 1 where that of the pattern is, and else as it was
pub raised_bit : (k x y i : ℕ) → i < k → bit i (raised k x y) ≡ max (bit i x) (bit i y)
unfolding bit
raised_bit zero x y i h = absurd (omega arith)
raised_bit (suc k) x y zero h = unfold raised in omega arith
raised_bit (suc k) x y (suc i) h = rw (raised_rest k x y) (raised_bit k (x / 2) (y / 2) i (omega arith))

raised_below : (k x y : ℕ) → raised k x y < 2 ^ k
unfolding raised
raised_below zero x y = omega arith
raised_below (suc k) x y = omega (arith, two-pow-succ k, raised_below k (x / 2) (y / 2))

-- ---- bytes

raised_at_lem : (xs ys : List ℕ) (i : ℕ) → i < length xs → i < length ys → get_or (raised_bytes xs ys) i 0 ≡ raised 8 (get_or xs i 0) (get_or ys i 0)
unfolding raised_bytes
raised_at_lem [] ys i h l = absurd (omega arith)
raised_at_lem (x ∷ xs) [] i h l = absurd (omega arith)
raised_at_lem (x ∷ xs) (y ∷ ys) zero h l = refl
raised_at_lem (x ∷ xs) (y ∷ ys) (suc i) h l = raised_at_lem xs ys i (omega arith) (omega arith)

raised_bytes_lem : (xs ys : List ℕ) → Bytes xs → Bytes (raised_bytes xs ys)
unfolding raised_bytes
raised_bytes_lem [] ys b = b
raised_bytes_lem (x ∷ xs) [] b = b
raised_bytes_lem (x ∷ xs) (y ∷ ys) b = below_cons (raised_below 8 x y) (raised_bytes_lem xs ys (below_tail b))

-- ---- a medium

module _ (m : List ℕ) (a : ℕ) (pattern : List ℕ) (there : a + length pattern ≤ length m) where
  abbrev over : List ℕ
  over = raised_bytes (part a (length pattern) m) pattern

  long_here : length (part a (length pattern) m) ≡ length pattern
  long_here = length_part a (length pattern) m there

  long_over : length over ≡ length pattern
  long_over = raised_long (part a (length pattern) m) pattern ∙ long_here

  fits_there : a + length over ≤ length m
  fits_there = omega (arith, long_over)

  bits_there : (i j : ℕ) → i < length pattern → j < 8 → bit_at (put_at m a over) (a + i) j ≡ max (bit_at m (a + i) j) (bit_at pattern i j)
  unfolding bit_at
  bits_there i j h k =
      ap (bit j)
      (get_put_in m a over fits_there i 0 (omega (arith, long_over))
      ∙ raised_at_lem (part a (length pattern) m) pattern i (omega (arith, long_here)) h
      ∙ ap (λ (x : ℕ). raised 8 x (get_or pattern i 0)) (get_part a (length pattern) i 0 m h))
      ∙ raised_bit 8 (get_or m (a + i) 0) (get_or pattern i 0) j k

  patterned : Patterned m a pattern (raised_at m a pattern)
  unfolding raised_at
  patterned = record { size = length_put m a over fits_there; inside = bits_there; outside = λ i o. get_put_outside m a over fits_there i 0 (side i o) }
    where
      side : (i : ℕ) → (i < a) ⊎ (a + length pattern ≤ i) → (i < a) ⊎ (a + length over ≤ i)
      side i (inl h) = inl h
      side i (inr h) = inr (omega (arith, long_over))

-- `other` is m but for the bytes of the pattern: what is left is a cut's
either_bit : (i x y : ℕ) → (max (bit i x) (bit i y) ≡ 1) ⊎ (max (bit i x) (bit i y) ≡ bit i x)
unfolding bit
either_bit zero x y = lowest (dec_lt (x % 2) (y % 2))
  where
    lowest : Dec (x % 2 < y % 2) → (max (x % 2) (y % 2) ≡ 1) ⊎ (max (x % 2) (y % 2) ≡ x % 2)
    lowest (yes h) = inl (omega arith)
    lowest (no h) = inr (omega arith)
either_bit (suc i) x y = either_bit i (x / 2) (y / 2)

module _ (m other pattern : List ℕ) (a n : ℕ) (long : length pattern ≡ n) (there : a + n ≤ length m) (same : length other ≡ length m) (bytes : Bytes other)
    (apart : (i : ℕ) → (i < a) ⊎ (a + n ≤ i) → get_or other i 0 ≡ get_or m i 0) where
  P : Patterned other a pattern (raised_at other a pattern)
  P = patterned other a pattern (omega arith)

  either : (i j : ℕ) → i < n → j < 8 → (bit_at (raised_at other a pattern) (a + i) j ≡ 1) ⊎ (bit_at (raised_at other a pattern) (a + i) j ≡ bit_at other (a + i) j)
  either i j h k = rw (P.inside i j (omega arith) k) (unfold bit_at in either_bit j (get_or other (a + i) 0) (get_or pattern i 0))

  raised_cut : Cut m a n other (raised_at other a pattern)
  raised_cut =
      record {
        size = P.size ∙ same;
        bytes = unfold raised_at in bytes_put other a _ bytes (raised_bytes_lem _ pattern (bytes_part a (length pattern) other bytes));
        inside = λ i j lo hi h. let z : a + (i - a) ≡ i = omega arith in rw z at (either (i - a) j (omega arith) h);
        outside = λ i o. P.outside i (rw long o) ∙ apart i o;
      }

-- ---- the two cuts

pub program_cut : (m pattern : List ℕ) (p : ℕ) (pg : Page) → length pattern ≡ 256 → 256 * p + 256 ≤ length m → length pg.entries ≤ 24 → AllGuarded m
    → (s : Held) (finished : Bool) → CutProgram m p pg (left_by_cut m (program p pg s finished) pattern)
unfolding CutProgram left_by_cut
program_cut m pattern p pg long there few g s finished =
    raised_cut m (programmed m p pg) pattern (256 * p) 256 long there (program_length m p pg there few) (program_guarded m p pg there few g).bytes (program_outside m p pg there few)

pub erase_cut : (m pattern : List ℕ) (b : ℕ) → length pattern ≡ 4096 → 4096 * b + 4096 ≤ length m → Bytes m
    → (s : Held) (finished : Bool) → CutErase m b (left_by_cut m (erase b s finished) pattern)
unfolding CutErase left_by_cut
erase_cut m pattern b long there bytes s finished = raised_cut m m pattern (4096 * b) 4096 long there refl bytes (λ i o. refl)

pub leaves_by_pattern : LeavesByPattern
unfolding left_by_cut
leaves_by_pattern =
    record {
      programs = λ m p pg s finished pattern h. patterned (programmed m p pg) (256 * p) pattern h;
      erases = λ m b s finished pattern h. patterned m (4096 * b) pattern h;
    }
