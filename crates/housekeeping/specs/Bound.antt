-- How few operations the dispatcher names, where an append met 13, until that same group is let in.
use Rattle.std.specs.Prelude.{◌≡◌, Bool, true, false, not, cond, List, [], ◌∷◌, ◌++◌, ℕ, suc, ◌+◌, ◌-◌, ◌^◌, ◌≤◌, length}
use Rattle.std.specs.Prelude.{Some}
use Rattle.lists.specs.Lists.{Below}
use Rattle.lists.specs.Needs.{Answer, refused, gives}
use Rattle.lists.specs.Cells.{Entry}
use Rattle.page.specs.Pages.{View, pages_for}
use Rattle.flash.specs.Medium.{views}
use Rattle.blocks.specs.Blocks.{size_ok, available}
use Rattle.state.specs.State.{idle, Held, base_pages}
use Rattle.calls.specs.Calls.{zip, holds_none, append_of, buffer_of}
use Rattle.step.specs.Step.{Step}
use Rattle.newest_page.specs.Newer.{newer}
use Rattle.dispatcher.specs.Dispatch.{Next, next_of}
use Rattle.valve_log.specs.History.{History}
use Rattle.valve_log.specs.Reached.{World, world, fresh, with_state, Event, step_due, happen, finishes, Reached}

-- a step that touches a page or block and does not finish the operation
unfoldable pub is_unfinished : Answer Step → Bool
is_unfinished (refused n) = false
is_unfinished (gives (Step.program p pg s finished)) = not finished
is_unfinished (gives (Step.erase b s finished)) = not finished

-- "without cuts": the operation pending in a world is carried to its end by its steps, none of them refused, and the second world is the one
-- that it leads to.
pub data Finishes : World → World → Type 0 where
  last : (w : World) → finishes (step_due w) ≡ true → Finishes w (happen w Event.step).after
  more : (w w' : World) → is_unfinished (step_due w) ≡ true → Finishes (happen w Event.step).after w' → Finishes w w'

-- what the dispatcher answers in a world, where "the log is read"; without a state there is nothing to ask it with
unfoldable pub named_in : World → List ℕ → List ℕ → Answer Next
named_in w ks ws = with_state w.state (refused 7) (λ s. next_of (length w.medium) (views w.medium) s w.buffer ks ws true)

-- what an append of this group would answer there
unfoldable pub append_in : World → List ℕ → List ℕ → Answer Held
append_in w ks ws = with_state w.state (refused 7) (λ s. append_of (length w.medium) (views w.medium) s w.buffer ks ws)

-- The dispatcher is asked; the commit or collection it names is begun and finished; and so on. The list has these operations in order;
-- they lead from the first world to the second.
pub data Leads (ks ws : List ℕ) : List Next → World → World → Type 0 where
  here : (w : World) → Leads ks ws [] w w
  commits : {ops : List Next} (w w' end : World) → named_in w ks ws ≡ gives Next.commit → Finishes (happen w Event.commit).after w'
      → Leads ks ws ops w' end → Leads ks ws (Next.commit ∷ ops) w end
  collects : {ops : List Next} (w w' end : World) (x : ℕ) → named_in w ks ws ≡ gives (Next.collect x) → Finishes (happen w (Event.collect x)).after w'
      → Leads ks ws ops w' end → Leads ks ws (Next.collect x ∷ ops) w end

-- These operations lead to where it names the append of the group ks ws, which is then begun and finished too.
pub record Admits (ks ws : List ℕ) (ops : List Next) (w end : World) : Type 0 where
  pub before : World
  pub leads : Leads ks ws ops w before
  pub named : named_in before ks ws ≡ gives Next.append
  pub begun : Held
  pub begins : append_in before ks ws ≡ gives begun
  pub finishes : Finishes (world before.medium (Some begun) before.buffer) end

-- From a world there is one such way at most: the same operations in the same order, to the same world.
unfoldable pub OneWay : Type 0
OneWay = (ks ws : List ℕ) (ops ops' : List Next) (w end end' : World) → Admits ks ws ops w end → Admits ks ws ops' w end' → (ops ≡ ops') × (end ≡ end')

-- how many of the operations are commits
unfoldable pub commits_in : List Next → ℕ
commits_in [] = 0
commits_in (Next.append ∷ ops) = commits_in ops
commits_in (Next.commit ∷ ops) = suc (commits_in ops)
commits_in (Next.collect x ∷ ops) = commits_in ops

-- how many are collections
unfoldable pub collections_in : List Next → ℕ
collections_in [] = 0
collections_in (Next.append ∷ ops) = collections_in ops
collections_in (Next.commit ∷ ops) = collections_in ops
collections_in (Next.collect x ∷ ops) = suc (collections_in ops)

-- the last group of a log is this one
pub record EndsWith (group : List Entry) (log : List (List Entry)) : Type 0 where
  pub before : List (List Entry)
  pub is : log ≡ before ++ (group ∷ [])

-- At most so many commits and so many collections let the group in: the log of the plain history then ends with that very group. By point
-- 3 every history that leads to that world has this log.
pub record Bounded (ks ws : List ℕ) (most-commits most-collections : ℕ) (w : World) : Type 0 where
  pub operations : List Next
  pub end : World
  pub few_commits : commits_in operations ≤ most-commits
  pub few_collections : collections_in operations ≤ most-collections
  pub admits : Admits ks ws operations w end
  pub history : History
  pub reached : Reached end history
  pub in_log_lem : EndsWith (zip ks ws) history.log

-- "serials suffice": wherever the operations that it names lead, the dispatcher does not answer 14
unfoldable pub Suffice : List ℕ → List ℕ → World → Type 0
Suffice ks ws w = (ops : List Next) (w' : World) → Leads ks ws ops w w' → named_in w' ks ws ≡ refused 14 → ⊥

-- "On a medium reached, and with the state last handed back, as the valve log's statement describes, if an append met 13 with at least 16
-- pages available, the log is read, no operation is pending". Of the buffer Paper 10 says: "its bound needs it empty". As in the valve
-- log's statement, keys have 16 bits and words 64.
pub record Meets13 (w : World) (h : History) (s : Held) (ks ws : List ℕ) : Type 0 where
  pub reached : Reached w h
  pub state : w.state ≡ Some s
  pub empty : w.buffer ≡ fresh
  pub rests : s.pending ≡ idle
  pub met13 : append_of (length w.medium) (views w.medium) s w.buffer ks ws ≡ refused 13
  pub pages : 16 ≤ available (views w.medium) s.head
  pub narrow : Below (2 ^ 16) ks
  pub small : Below (2 ^ 64) ws

-- "and serials suffice, then without cuts at most one commit and at most two collections let that same group in", for every block count
-- at once
unfoldable pub Bound : Type 0
Bound = (w : World) (h : History) (s : Held) (ks ws : List ℕ) → Meets13 w h s ks ws → Suffice ks ws w → Bounded ks ws 1 2 w

-- one collection is enough
unfoldable pub Sharper : Type 0
Sharper = (w : World) (h : History) (s : Held) (ks ws : List ℕ) → Meets13 w h s ks ws → Suffice ks ws w → Bounded ks ws 1 1 w

-- The premise on serials is the weakest: where the group is let in, by whatever operations, serials suffice.
unfoldable pub Needed : Type 0
Needed = (ks ws : List ℕ) (ops : List Next) (w end : World) → Admits ks ws ops w end → Suffice ks ws w

-- the pages that the way takes at most before the group's own: where a commit is named, those of the base and 4 of moved nodes, else 8 of
-- moved nodes
unfoldable pub pages_before : List View → Held → ℕ
pages_before v s = cond (newer v) (base_pages (length s.index) + 4) 8

-- a serial for each of these pages and of the group's suffices
unfoldable pub ByPages : Type 0
ByPages =
    (w : World) (h : History) (s : Held) (ks ws : List ℕ) → Meets13 w h s ks ws
    → s.head.serial + (pages_before (views w.medium) s + pages_for (length ks)) ≤ 2 ^ 64 - 1 → Suffice ks ws w

-- so 16 serials suffice: a base takes at most 8 pages, and the group 4
unfoldable pub Sixteen : Type 0
Sixteen = (w : World) (h : History) (s : Held) (ks ws : List ℕ) → Meets13 w h s ks ws → s.head.serial + 16 ≤ 2 ^ 64 - 1 → Suffice ks ws w

-- A group that the empty write buffer turns away with 13 meets 13 in its append too; where the bound's other premises hold, it lets it in.
unfoldable pub SmallGroups : Type 0
SmallGroups = (n : ℕ) (v : List View) (s : Held) (b ks ws : List ℕ) → holds_none b ≡ true → buffer_of n v s b ks ws ≡ refused 13 → append_of n v s b ks ws ≡ refused 13

-- the premises are met by some world on a medium of n bytes
pub record Arises (n : ℕ) : Type 0 where
  pub w : World
  pub h : History
  pub s : Held
  pub ks : List ℕ
  pub ws : List ℕ
  pub size : length w.medium ≡ n
  pub met : Meets13 w h s ks ws
  pub serials : Suffice ks ws w

-- and so on media of every allowed length; `journal` Housekeeping says it of a run of the code
unfoldable pub Possible : Type 0
Possible = (n : ℕ) → size_ok n ≡ true → Arises n
