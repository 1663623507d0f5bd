-- Playing a list of calls, as far as it is promised.
use mathlib.Core.Path.{◌≡◌, refl}
use mathlib.Core.List.{List}
use Prim.Native.Nat.{ℕ, ◌≤◌, ◌<◌}
use native.Mathlib.Omega.{arith}
use lib.Dec.{ltb}
use lib.ListN.{length, take}
use Rattle.lists.proofs.Laws.{by_cases, length_taken}
use Rattle.trace.specs.Trace.{pattern_size}
use Rattle.cut_patterns.specs.Struck.{most_bytes}
use Rattle.player.specs.declared.RecordedCall.{RecordedCall}
use Rattle.player.specs.declared.RecordedCall.TheVariants as call
use Rattle.player.specs.Played.{CutFits}
use Rattle.trials.specs.declared.Trial.{Trial}
use Rattle.trials.specs.Played.{Played}

-- a pattern's bytes
pub pattern_most : (n p : ℕ) → p ≡ pattern_size n → p ≤ 4096
unfolding pattern_size
pattern_most n p e = by_cases (ltb n 256) (λ q. let k : p ≡ 256 = rw q at e in omega arith) (λ q. let k : p ≡ 4096 = rw q at e in omega arith)

-- and the first so many of an array
pub length_pattern : (n p : ℕ) (xs : List ℕ) → p ≡ pattern_size n → length xs ≡ 4096 → p ≡ length (take p xs)
length_pattern n p xs e l = length_taken p 4096 xs (pattern_most n p e) l

-- after the calls before place i, of which there are none at first
pub record Playing (m₀ calls : List ℕ) (m : List ℕ) (number i : ℕ) : Type 0 where
  pub long : length m ≡ length m₀
  pub far : i ≤ length calls
  pub kept : i ≡ 0 → m ≡ m₀
  pub answered : i ≡ 0 → number ≡ 1

pub play_starts : (m calls : List ℕ) (n : ℕ) → n ≡ 1 → Playing m calls m n 0
play_starts m calls n e = record { long = refl; far = omega arith; kept = λ z. refl; answered = λ z. e }

pub play_goes_on : (m₀ calls m m' : List ℕ) (n n' i e : ℕ) → Playing m₀ calls m n i → length m' ≡ length m → i < e → e ≤ length calls → Playing m₀ calls m' n' e
play_goes_on m₀ calls m m' n n' i e p l h g = record { long = omega (arith, p.long, l); far = g; kept = λ z. absurd (omega arith); answered = λ z. absurd (omega arith) }

pub play_none : (m calls : List ℕ) (t : Trial) → t.number ≡ 1 → Played m calls t m
play_none m calls t e = record { long = refl; kept = λ z. refl; answered = λ z. e }

pub play_ends : (m₀ calls m : List ℕ) (t : Trial) (i : ℕ) → length calls ≤ i → Playing m₀ calls m t.number i → Played m₀ calls t m
play_ends m₀ calls m t i h p = record { long = p.long; kept = λ z. p.kept (omega (arith, z)); answered = λ z. p.answered (omega (arith, z)) }

-- on a medium that is not too long every call may be played
pub fits : (c : RecordedCall) (m : List ℕ) → length m ≤ most_bytes → CutFits c m
fits (call.Format n) m h = tt
fits (call.Append ks ws) m h = tt
fits call.Commit m h = tt
fits (call.Collect b) m h = tt
fits call.Step m h = tt
fits (call.Cut name pattern) m h = h
fits call.Recover m h = tt
fits (call.Buffer ks ws) m h = tt
fits call.Flush m h = tt
