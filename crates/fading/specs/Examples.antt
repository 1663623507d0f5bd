-- Paper 14 by example, over the pages of a medium of 4 blocks: where bits of one byte have faded, the moment that is shown, or the number that recovery
-- refuses with.
use Rattle.std.specs.Prelude.{◌≡◌, List, [], ◌∷◌, ◌++◌, ℕ, ◌+◌, ◌-◌, ◌*◌, take, set, replicate}
use Rattle.lists.specs.Needs.{Answer, refused, gives, and_then}
use Rattle.lists.specs.Cells.{cell, Entry, Setting}
use Rattle.page.specs.Pages.{View, clean, whole, page}
use Rattle.page.specs.Buffer.{groups_page}
use Rattle.flash.specs.Medium.{views}
use Rattle.nodes.specs.Nodes.{words}
use Rattle.recovery.specs.Recovery.{recover as recover_of}
use Rattle.fading.specs.Fading.{Faded}

-- ---- what is shown

-- a log and settings
pub record LogAndSettings : Type 0 where
  pub log : List (List Entry)
  pub settings : List Setting

abbrev pub log_with : List (List Entry) → List Setting → LogAndSettings
log_with l s = record { log = l; settings = s }

-- what recovery gives of these pages, 64 of them, or its refusal
abbrev pub shown_of : List View → Answer LogAndSettings
shown_of v = and_then (recover_of 16384 v) (λ r. gives (log_with r.log (words v r.state.index)))

-- ---- the journal

-- The pages that a journal writes one after the other, from page 0 on: formatting's empty base, serial 1; the appends of {5 → 1000, 7 → 20} and of
-- {remove 5}; a commit, whose base has valve 7 at page 1, place 1, address 25; a flush of {8 → 30} and {7 → 40}, on one page of kind 4.
abbrev pub pages_written : List View
pages_written =
    whole (page 2 3 1 [])
    ∷ whole (page 1 3 2 (cell 5 1000 ∷ cell 7 20 ∷ []))
    ∷ whole (page 1 3 3 (cell 32773 0 ∷ []))
    ∷ whole (page 2 3 4 (cell 7 25 ∷ []))
    ∷ whole (groups_page 5 ((cell 8 30 ∷ []) ∷ (cell 7 40 ∷ []) ∷ []))
    ∷ []

-- the 64 pages of the medium after the first n of them
abbrev pub written : ℕ → List View
written n = take n pages_written ++ replicate (64 - n) clean

-- A medium of these pages, on which byte i of page p then fades to x, some of its bits turned to 1 and nothing else altered; and what
-- recovery gives of the faded medium.
pub record FadedGives (p i x : ℕ) (v : List View) (answer : Answer LogAndSettings) : Type 0 where
  pub medium : List ℕ
  pub pages : views medium ≡ v
  pub faded : Faded medium (set medium (256 * p + i) x)
  pub shows : shown_of (views (set medium (256 * p + i) x)) ≡ answer

-- ---- the table

pub record FadedExamples : Type 0 where
  -- what was shown at each moment: after formatting, the first append, the second, the commit, the flush
  pub formatted : shown_of (written 1) ≡ gives (log_with [] [])
  pub first : shown_of (written 2) ≡ gives (log_with ((cell 5 1000 ∷ cell 7 20 ∷ []) ∷ []) (cell 5 1000 ∷ cell 7 20 ∷ []))
  pub second : shown_of (written 3) ≡ gives (log_with ((cell 5 1000 ∷ cell 7 20 ∷ []) ∷ (cell 32773 0 ∷ []) ∷ []) (cell 7 20 ∷ []))
  pub committed : shown_of (written 4) ≡ gives (log_with [] (cell 7 20 ∷ []))
  pub flushed : shown_of (written 5) ≡ gives (log_with ((cell 8 30 ∷ []) ∷ (cell 7 40 ∷ []) ∷ []) (cell 7 40 ∷ cell 8 30 ∷ []))
  -- The newest page, serial 3, with a bit of the serial turned to 1, so that it is 7: the moment before. And so with a bit of the check's high byte;
  -- with the flags 3 turned to 255; where it is of kind 4, serial 5 turned to 7; and where it is the base, serial 4 turned to 5, with the log from
  -- before the commit.
  pub newest_gone : FadedGives 2 8 7 (written 3) (shown_of (written 2))
  pub check_gone : FadedGives 2 1 1 (written 3) (shown_of (written 2))
  pub flags_gone : FadedGives 2 3 255 (written 3) (shown_of (written 2))
  pub flush_gone : FadedGives 4 8 7 (written 5) (shown_of (written 4))
  pub older_base : FadedGives 3 8 5 (written 4) (shown_of (written 3))
  -- A page between, valve 5 turned to 7: a gap. And so where the base has faded under a newer page.
  pub gap : FadedGives 1 16 7 (written 3) (refused 5)
  pub base_gone : FadedGives 3 8 5 (written 5) (refused 5)
  -- the only base, serial 1 turned to 3
  pub no_base_lem : FadedGives 0 8 3 (written 3) (refused 4)
  -- a page older than the base: today's where no address of the index leads there; 6 where one does
  pub not_needed : FadedGives 2 8 7 (written 5) (shown_of (written 5))
  pub node_gone : FadedGives 1 16 7 (written 4) (refused 6)
  -- the same page after the flush has set valve 7 anew: no address leads there any more
  pub node_replaced : FadedGives 1 16 7 (written 5) (shown_of (written 5))
