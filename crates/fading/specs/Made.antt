-- Paper 14: "It never shows a change that was not made, or an order that did not occur." Said of all the groups that have counted since formatting
-- ended, in the order in which they counted, with no word of moments.
use Rattle.std.specs.Prelude.{◌≡◌, List, [], ◌∷◌, ◌++◌, ℕ, length}
use Rattle.std.specs.Prelude.{Some}
use Rattle.lists.specs.Needs.{gives}
use Rattle.lists.specs.Cells.{cell, Entry}
use Rattle.page.specs.Pages.{changes_of}
use Rattle.flash.specs.Medium.{views}
use Rattle.nodes.specs.Nodes.{word_at}
use Rattle.state.specs.State.{Held}
use Rattle.recovery.specs.Recovery.{recovery_with, recover as recover_of}
use Rattle.valve_log.specs.History.{History, assign_groups}
use Rattle.valve_log.specs.Reached.{World, Reached, Words}
use Rattle.valve_log.specs.Made.{groups_made}
use Rattle.fading.specs.Fading.{Faded}

-- ---- nothing that was not made, no order that did not occur

-- Of the groups made, those before the log shown, then the log, then those that are not shown; and the settings shown, read on m, are what the
-- groups up to the end of the log lead to, none being set at first.
pub record ShownAsMade (made : List (List Entry)) (m : List ℕ) (log : List (List Entry)) (s : Held) : Type 0 where
  pub before : List (List Entry)
  pub after : List (List Entry)
  pub order : made ≡ before ++ log ++ after
  pub settings : Words (views m) s.index (assign_groups [] (before ++ log))

-- "or an order that did not occur": the groups shown stand in the order in which they counted, none left out between two of them.
unfoldable pub OrderOccurred : Type 0
OrderOccurred =
    (w : World) (h : History) (r : Reached w h) (m : List ℕ) → Faded w.medium m
    → (log : List (List Entry)) (s : Held) → recover_of (length m) (views m) ≡ gives (recovery_with log s) → ShownAsMade (groups_made r) m log s

-- x stands in a list
pub data StandsIn {A : Type 0} (x : A) : List A → Type 0 where
  first : {l : List A} → StandsIn x (x ∷ l)
  later : {y : A} {l : List A} → StandsIn x l → StandsIn x (y ∷ l)

-- a change was made if it stands in one of the groups made
pub record ChangeMade (made : List (List Entry)) (e : Entry) : Type 0 where
  pub group : List Entry
  pub counted : StandsIn group made
  pub change : StandsIn e group

-- each change of the log was made, and of each valve of the index the word at its address was set by a change that was made
pub record OnlyMade (made : List (List Entry)) (m : List ℕ) (log : List (List Entry)) (s : Held) : Type 0 where
  pub changes : (e : Entry) → StandsIn e (changes_of log) → ChangeMade made e
  pub settings : (valve address word : ℕ) → StandsIn (cell valve address) s.index → word_at (views m) (cell valve address) ≡ Some word → ChangeMade made (cell valve word)

-- "It never shows a change that was not made"
unfoldable pub NoChangeInvented : Type 0
NoChangeInvented =
    (w : World) (h : History) (r : Reached w h) (m : List ℕ) → Faded w.medium m
    → (log : List (List Entry)) (s : Held) → recover_of (length m) (views m) ≡ gives (recovery_with log s) → OnlyMade (groups_made r) m log s
