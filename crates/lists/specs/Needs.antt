-- What a call answers, and its conditions in order, each with its number: the first that does not hold refuses.
use Rattle.std.specs.Prelude.{Bool, cond, List, [], ◌∷◌, ℕ, eqb}

-- "A refusal gives its number alone": refused with a number, or what the call gives
pub data Answer (A : Type 0) : Type 0 where
  refused : ℕ → Answer A
  gives : A → Answer A

-- what the code's answer says that has a number and a value beside it: the number is a refusal's, or 0 and the value is given
unfoldable pub answered : {A : Type 0} → ℕ → A → Answer A
answered n x = cond (eqb n 0) (gives x) (refused n)

-- a further answer, made of what an earlier one gives; where that is refused, with the same number
unfoldable pub and_then : {A B : Type 0} → Answer A → (A → Answer B) → Answer B
and_then (refused n) f = refused n
and_then (gives x) f = f x

-- a call is refused with this number unless the condition holds
pub record Need : Type 0 where
  pub number : ℕ
  pub holds : Bool

abbrev pub need : ℕ → Bool → Need
need n b = record { number = n; holds = b }

-- an answer under conditions: refused with the number of the first that does not hold
unfoldable pub under : {A : Type 0} → List Need → Answer A → Answer A
under [] answer = answer
under (c ∷ cs) answer = cond c.holds (under cs answer) (refused c.number)

-- what a call gives where all its conditions hold
abbrev pub checked : {A : Type 0} → List Need → A → Answer A
checked cs x = under cs (gives x)

-- what an answer gives, or what stands in its place where it is refused with a number
unfoldable pub answer_or : {A : Type 0} → (ℕ → A) → Answer A → A
answer_or f (refused n) = f n
answer_or f (gives x) = x

-- the number of the first condition that does not hold, 0 where all do
unfoldable pub refusal_of : List Need → ℕ
refusal_of cs = answer_or (λ n. n) (checked cs 0)
