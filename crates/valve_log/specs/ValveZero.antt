-- "Media that hold it recover, list and commit it as before until it is removed" (Paper 8): the calls of the program as it was before
-- Paper 8, where they differ from today's. Then 11 was 01's alone: "removal whose word isn't 0". An append asked it, a group put into the
-- buffer, a flush, and through 7 a step. Any other call that finds an operation pending is refused, now by 7 and then by 8, and changes nothing.
use Rattle.std.specs.Prelude.{Bool, true, false, not, cond, ◌||◌, List, [], ◌∷◌, ◌++◌, ℕ, ltb, eqb, length}
use Rattle.lists.specs.Lists.{all, every}
use Rattle.lists.specs.Needs.{Answer, Need, need, under, checked}
use Rattle.lists.specs.Cells.{Entry}
use Rattle.page.specs.Pages.{View, pages_for, changes_of}
use Rattle.page.specs.Buffer.{holding}
use Rattle.index.specs.Index.{within}
use Rattle.blocks.specs.Blocks.{size_ok}
use Rattle.state.specs.State.{Pending, Held, count_tests, done_fit, pending_fit, is_idle, no_group, fit_with, buffered_in}
use Rattle.calls.specs.Calls.{starting, zip, append_needs, flush_needs, buffer_needs}
use Rattle.step.specs.Step.{Step, due, erased_first}

-- an entry was allowed if it sets a valve, be it valve 0, or removes one with word 0
unfoldable pub entry_allowed_before : Entry → Bool
entry_allowed_before e = ltb e.key 32768 || eqb e.val 0

-- 11 was the negation of this
unfoldable pub allowed_before : List Entry → Bool
allowed_before es = all entry_allowed_before es

-- the conditions of a call, with that 11 of these entries
unfoldable pub with11 : List Entry → List Need → List Need
with11 es [] = []
with11 es (c ∷ cs) = cond (eqb c.number 11) (need 11 (allowed_before es)) c ∷ with11 es cs

unfoldable pub append_before : ℕ → List View → Held → List ℕ → List ℕ → List ℕ → Answer Held
append_before n v s b ks ws = checked (with11 (zip ks ws) (append_needs n v s b ks ws)) (starting s (Pending.append (zip ks ws) []))

unfoldable pub buffer_before : ℕ → List View → Held → List ℕ → List ℕ → List ℕ → Answer (List ℕ)
buffer_before n v s b ks ws = checked (with11 (zip ks ws) (buffer_needs n v s b ks ws)) (holding (buffered_in b ++ (zip ks ws ∷ [])))

unfoldable pub flush_before : ℕ → List View → Held → List ℕ → Answer Held
flush_before n v s b = checked (with11 (changes_of (buffered_in b)) (flush_needs n v s b)) (starting s Pending.flush)

-- 10 to 12 with that 11, of a pending append, and of a pending flush, whose group is the lent buffer; else what is pending is fit as today
unfoldable pub pending_before : List View → Held → List (List Entry) → Pending → Bool
pending_before v s gs Pending.idle = true
pending_before v s gs (Pending.append es ps) =
    every (every (count_tests (length es)) ∷ allowed_before es ∷ within s.index es ∷ done_fit (length ps) s.head.serial (pages_for (length es)) ∷ [])
pending_before v s gs (Pending.commit k) = pending_fit v s.head s.index (Pending.commit k)
pending_before v s gs (Pending.collect b) = pending_fit v s.head s.index (Pending.collect b)
pending_before v s gs (Pending.format n) = pending_fit v s.head s.index (Pending.format n)
pending_before v s gs Pending.flush = every (not (no_group gs) ∷ allowed_before (changes_of gs) ∷ within s.index (changes_of gs) ∷ [])
pending_before v s gs Pending.unnamed = false

-- 7 was the negation of this: the rest of the state and the buffer are fit, and so is what is pending
unfoldable pub fit_before : List View → Held → List ℕ → Bool
fit_before v s b = every (fit_with v (starting s Pending.idle) b ∷ pending_before v s (buffered_in b) s.pending ∷ [])

-- the step, which asks 7
unfoldable pub step_before : ℕ → List View → Held → List ℕ → Answer Step
step_before n v s b =
    under (need 1 (size_ok n) ∷ need 7 (fit_before v s b) ∷ need 9 (not (is_idle s.pending)) ∷ [])
    (erased_first v s (due v s (buffered_in b) s.pending))
