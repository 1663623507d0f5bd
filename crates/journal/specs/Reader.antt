-- The log reader on a medium reached: whatever `vj_reader` and the calls of `vj_change` after it answer, and whatever `make` and the calls of `next` after it,
-- it is the history's log, change by change.
use Rattle.std.specs.Prelude.{◌≡◌, List, ℕ}
use Rattle.std.specs.Borrow.{Bor}
use Rattle.page.specs.Pages.{changes_of}
use Rattle.readings.specs.Readings.{numbers_from}
use Rattle.log_reader.specs.declared.LogPlace.{LogPlace}
use Rattle.log_reader.specs.declared.ReadChange.{ReadChange}
use Rattle.log_reader.specs.declared.LogReader.{LogReader}
use Rattle.log_reader.specs.Reader.{start_of, MakesReader, NextInTurn, AskedInTurn, GivesLog}
use Rattle.valve_log.specs.History.{History}
use Rattle.journal.specs.Run.{Machine, Run}

-- What a program is handed after a run: the reader is not refused, and gives the history's log, keys, words and numbers of the groups; so does the form, made
-- of a lent slice that holds the medium.
pub record ReadOut (m : List ℕ) (h : History) : Type 0 where
  pub accepted : (p : LogPlace) → p ≡ start_of m → p.number ≡ 0
  pub log : (p : LogPlace) (cs : List ReadChange) → p ≡ start_of m → AskedInTurn m p cs → GivesLog (changes_of h.log) (numbers_from 0 h.log) cs
  pub form_accepted : (l : Bor (List ℕ)) (r : LogReader) → l.now ≡ m → MakesReader l r → r.place.number ≡ 0
  pub form_log : (l : Bor (List ℕ)) (r : LogReader) (cs : List ReadChange) → l.now ≡ m → MakesReader l r → NextInTurn r cs
      → GivesLog (changes_of h.log) (numbers_from 0 h.log) cs

unfoldable pub ReaderOfCode : Type 0
ReaderOfCode = (x : Machine) (h : History) → Run x h → ReadOut x.medium h
