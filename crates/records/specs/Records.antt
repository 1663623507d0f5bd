-- A lent list of records, and what a walk over it notes.
use Rattle.std.specs.Prelude.{Bool, true, cond, ◌&&◌, List, [], ◌∷◌, ℕ, ◌+◌, leb, ltb}
use Rattle.lists.specs.Cells.{cell, Setting}
use Rattle.records.specs.declared.Record.{Record}
use Rattle.records.specs.declared.Notes.{Notes}

-- "records, each a valve and its word"
unfoldable pub wanted_settings : List Record → List Setting
wanted_settings [] = []
wanted_settings (r ∷ rs) = cell r.valve r.word ∷ wanted_settings rs

-- ---- the notes

-- none yet
unfoldable pub unnoted : Notes
unnoted = record { rises = true; least = 0; count = 0 }

-- The valves so far rise strictly and are below 32768 (b), and so with one more; `least` is the least valve that may come: one above the last.
unfoldable pub still_rises : Bool → ℕ → ℕ → Bool
still_rises b least valve = b && (leb least valve && ltb valve 32768)

-- one record more: its valve is judged, and it is counted; from the 193rd on the count is 193, which tells that there are too many
unfoldable pub noted : Notes → Record → Notes
noted n r = record { rises = still_rises n.rises n.least r.valve; least = r.valve + 1; count = cond (leb 192 n.count) 193 (n.count + 1) }

-- records in order
unfoldable pub noted_all : Notes → List Record → Notes
noted_all n [] = n
noted_all n (r ∷ rs) = noted_all (noted n r) rs
