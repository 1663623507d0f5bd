-- 01's example of what `morning` prints, and others, on the bytes that the calls leave on a medium of four blocks, whatever stood on it
-- before it was formatted.
use Rattle.std.specs.Prelude.{◌≡◌, List, [], ◌∷◌, ℕ, ◌^◌, length, replicate}
use Rattle.std.specs.Prelude.{Some}
use Rattle.lists.specs.Lists.{Below, Bytes}
use Rattle.lists.specs.Needs.{gives}
use Rattle.lists.specs.Cells.{cell, Entry, keys_of, words_of}
use Rattle.text.specs.Text.{ascii}
use Rattle.state.specs.State.{Held}
use Rattle.calls.specs.Calls.{format_of}
use Rattle.listing.specs.Listing.{listing}
use Rattle.valve_log.specs.Reached.{World, world, fresh, lent_anew, Event, happen}
use Rattle.valve_log.specs.Finished.{steps_on}

-- keys of 16 bits and words of 64, as a call takes them
pub record Sized (es : List Entry) : Type 0 where
  pub keys : Below (2 ^ 16) (keys_of es)
  pub words : Below (2 ^ 64) (words_of es)

-- the world after an append of these entries, with its step
abbrev pub after_append : (w : World) (es : List Entry) → Sized es → World
after_append w es s = (happen (happen w (Event.append (keys_of es) (words_of es) s.keys s.words)).after Event.step).after

-- after a group is buffered; after a flush, with its step
abbrev pub after_buffer : (w : World) (es : List Entry) → Sized es → World
after_buffer w es s = (happen w (Event.buffer (keys_of es) (words_of es) s.keys s.words)).after

abbrev pub after_flush : World → World
after_flush w = (happen (happen w Event.flush).after Event.step).after

-- {5→1000, 7→20}, {remove 5}; {5→1000}, {7→20, remove 5}; and valve 5 set to 0, valve 0 removed
abbrev pub two_set : List Entry
two_set = cell 5 1000 ∷ cell 7 20 ∷ []

abbrev pub one_removed : List Entry
one_removed = cell 32773 0 ∷ []

abbrev pub one_set : List Entry
one_set = cell 5 1000 ∷ []

abbrev pub set_and_removed : List Entry
set_and_removed = cell 7 20 ∷ cell 32773 0 ∷ []

abbrev pub zero_and_removed : List Entry
zero_and_removed = cell 5 0 ∷ cell 32768 0 ∷ []

-- all of these are
pub record AllSized : Type 0 where
  pub two_set_lem : Sized two_set
  pub one_removed_lem : Sized one_removed
  pub one_set_lem : Sized one_set
  pub set_and_removed_lem : Sized set_and_removed
  pub zero_and_removed_lem : Sized zero_and_removed

-- What `morning` prints after calls from world w on: none; "{5→1000, 7→20}, {remove 5}"; a word 0, and the removal of valve 0; and two
-- groups on one page of kind 4.
pub record Printed (w : World) : Type 0 where
  pub none : listing w.medium ≡ ascii "log 0\nset 0\n"
  pub sample : (a : Sized two_set) (b : Sized one_removed)
      → listing (after_append (after_append w two_set a) one_removed b).medium ≡ ascii "log 3\n0 5 1000\n0 7 20\n1 5 -\nset 1\n7 20\n"
  pub of_zero : (a : Sized zero_and_removed) → listing (after_append w zero_and_removed a).medium ≡ ascii "log 2\n0 5 0\n0 0 -\nset 1\n5 0\n"
  pub small : (a : Sized one_set) (b : Sized set_and_removed)
      → listing (after_flush (after_buffer (after_buffer w one_set a) set_and_removed b)).medium
      ≡ ascii "log 3\n0 5 1000\n1 7 20\n1 5 -\nset 1\n7 20\n"

-- "After format": its call, four erases and the page
unfoldable pub PrintedAfterFormat : Type 0
PrintedAfterFormat =
    (m : List ℕ) → Bytes m → length m ≡ 16384 → (s : Held) → format_of (length m) ≡ gives s
    → Printed (lent_anew (steps_on 5 (world m (Some s) fresh)))

-- a medium that was never formatted
unfoldable pub PrintedUnformatted : Type 0
PrintedUnformatted = listing (replicate 16384 255) ≡ ascii "refused 4\n"
