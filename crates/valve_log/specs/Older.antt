-- A reader by 01's page rules as they were, before there were pages of kind 4: "Older readers meet kind 4 and answer 2."
use Rattle.std.specs.Prelude.{◌≡◌, Bool, true, cond, ◌&&◌, ◌||◌, List, [], ◌∷◌, ℕ, ◌/◌, ◌%◌, length, leb, ltb, eqb}
use Rattle.lists.specs.Lists.{all, every}
use Rattle.lists.specs.Needs.{Answer, refused, Need, need, under}
use Rattle.lists.specs.Cells.{Entry}
use Rattle.page.specs.Pages.{Page, View, whole}
use Rattle.page.specs.Rules.{serial_ok}
use Rattle.flash.specs.Medium.{views, seen}
use Rattle.recovery.specs.Recovery.{Placed, wholes, Recovery}

-- "flags: 1 begins a group, 2 ends it, 3 both, 0 neither"; "Kind 3 always has flags 3". There are kinds 1 to 3.
unfoldable pub older_carry : ℕ → ℕ → Bool
older_carry kind flags = cond (eqb kind 3) (eqb flags 3) ((eqb kind 1 || eqb kind 2) && leb flags 3)

-- "n is at least 1, except 0 in a base with flags 3. A page without the end flag has n = 24." 25 where the kind may not carry the flags.
unfoldable pub older_least : ℕ → ℕ → ℕ
older_least kind flags = cond (older_carry kind flags) (cond (leb 2 flags) (cond (eqb kind 2 && eqb flags 3) 0 1) 24) 25

-- "In kind 1, key = valve sets it; key = valve + 32768 removes it, with word 0. In kinds 2 and 3 keys are valves."
unfoldable pub older_entry : ℕ → Entry → Bool
older_entry kind e = ltb e.key 32768 || eqb kind 1 && eqb e.val 0

-- and bytes 6-7 hold FFh
unfoldable pub older_lawful : Page → Bool
older_lawful pg =
    every
    (pg.tidy
    ∷ eqb pg.marks 65535
    ∷ leb (older_least pg.kind pg.flags) (length pg.entries)
    ∷ all (older_entry pg.kind) pg.entries
    ∷ serial_ok pg.serial
    ∷ [])

unfoldable pub older_all : List Placed → Bool
older_all ws = all (λ x. older_lawful x.page) ws

-- Condition 1 is the negation, of a reader that takes so many blocks at most: 16 by 01, "length not 4 to 16 × 4096", and 256 since Paper 5.
unfoldable pub older_size : ℕ → ℕ → Bool
older_size most n = every (eqb (n % 4096) 0 ∷ leb 4 (n / 4096) ∷ leb (n / 4096) most ∷ [])

-- recovery by these rules, with the conditions that come after 1 and 2, and what it gives where all hold
unfoldable pub older_recover : ℕ → List Need → Answer Recovery → ℕ → List View → Answer Recovery
older_recover most later answer n v = under (need 1 (older_size most n) ∷ need 2 (older_all (wholes 0 v)) ∷ later) answer

-- whatever these are, and so many blocks as it takes, it answers 2 to a medium of a length that it allows with a whole page of kind 4
unfoldable pub OlderAnswers : Type 0
OlderAnswers =
    (most : ℕ) (later : List Need) (answer : Answer Recovery) (m : List ℕ) (p : ℕ) (pg : Page)
    → older_size most (length m) ≡ true → seen (views m) p ≡ whole pg → pg.kind ≡ 4
    → older_recover most later answer (length m) (views m) ≡ refused 2
