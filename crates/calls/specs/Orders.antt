-- The orders of the refusals: "The lowest number wins, except as ordered here."
use Rattle.std.specs.Prelude.{◌≡◌, List, [], ◌∷◌, ℕ}
use Rattle.lists.specs.Needs.{Answer, Need, need, answer_or, and_then, gives, refusal_of}
use Rattle.page.specs.Pages.{View}
use Rattle.blocks.specs.Blocks.{size_ok}
use Rattle.state.specs.State.{Held}
use Rattle.calls.specs.Calls.{append_needs, append_of, commit_needs, commit_of, collect_needs, collect_of, flush_needs, flush_of, buffer_needs, buffer_of, format_of}

-- the numbers of conditions, in order
unfoldable pub numbers_of : List Need → List ℕ
numbers_of [] = []
numbers_of (c ∷ cs) = c.number ∷ numbers_of cs

-- the number that an answer refuses with, 0 where it gives something
unfoldable pub refusal_in : {A : Type 0} → Answer A → ℕ
refusal_in a = answer_or (λ n. n) (and_then a (λ x. gives 0))

-- A call with this answer asks these conditions: it is refused with the number of the first that does not hold, and with none where all
-- hold; and these are their numbers, in order.
pub record Asks {A : Type 0} (answer : Answer A) (needs : List Need) (numbers : List ℕ) : Type 0 where
  pub first : refusal_in answer ≡ refusal_of needs
  pub order : numbers_of needs ≡ numbers

-- the calls that begin an operation or fill the buffer, whatever they are given; `journal` Orders has every other call too
pub record Orders (n : ℕ) (v : List View) (s : Held) (b ks ws : List ℕ) (block : ℕ) : Type 0 where
  pub format : Asks (format_of n) (need 1 (size_ok n) ∷ []) (1 ∷ [])
  pub append : Asks (append_of n v s b ks ws) (append_needs n v s b ks ws) (1 ∷ 7 ∷ 8 ∷ 24 ∷ 10 ∷ 11 ∷ 12 ∷ 13 ∷ 14 ∷ [])
  pub commit : Asks (commit_of n v s b) (commit_needs n v s b) (1 ∷ 7 ∷ 8 ∷ 24 ∷ 13 ∷ 14 ∷ [])
  pub collect : Asks (collect_of n v s b block) (collect_needs n v s b block) (1 ∷ 7 ∷ 8 ∷ 24 ∷ 15 ∷ 6 ∷ 13 ∷ 14 ∷ [])
  pub flush : Asks (flush_of n v s b) (flush_needs n v s b) (1 ∷ 7 ∷ 8 ∷ 10 ∷ 11 ∷ 12 ∷ 13 ∷ 14 ∷ [])
  pub buffer : Asks (buffer_of n v s b ks ws) (buffer_needs n v s b ks ws) (1 ∷ 7 ∷ 8 ∷ 10 ∷ 11 ∷ 12 ∷ 23 ∷ 13 ∷ 14 ∷ [])

unfoldable pub InPapersOrder : Type 0
InPapersOrder = (n : ℕ) (v : List View) (s : Held) (b ks ws : List ℕ) (block : ℕ) → Orders n v s b ks ws block
