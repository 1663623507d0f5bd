-- What the log reader gives after a run is the history's log.
use mathlib.Core.Path.{◌≡◌, sym, ap, subst, ◌∙◌}
use mathlib.Core.List.{List}
use Prim.Native.Nat.{ℕ}
use lib.ListN.{length}
use denote.Ref.{Bor}
use Rattle.lists.specs.Needs.{gives}
use Rattle.lists.specs.Cells.{Entry}
use Rattle.page.specs.Pages.{changes_of}
use Rattle.flash.specs.Medium.{views}
use Rattle.recovery.specs.Recovery.{recovery_with, recover}
use Rattle.readings.specs.Readings.{numbers_from}
use Rattle.log_reader.specs.declared.LogPlace.{LogPlace}
use Rattle.log_reader.specs.declared.ReadChange.{ReadChange}
use Rattle.log_reader.specs.declared.LogReader.{LogReader}
use Rattle.log_reader.specs.Reader.{start_place, start_of, MakesReader, NextInTurn, AskedInTurn, GivesLog}
use Rattle.log_reader.proofs.FirstToLast.{reads_log}
use Rattle.log_reader.proofs.Form.{answers, form_first_to_last}
use Rattle.valve_log.specs.History.{History}
use Rattle.valve_log.specs.Reached.{Shows, Point3}
use Rattle.valve_log.proofs.Point3.{point3}
use Rattle.journal.specs.Run.{world_of}
use Rattle.journal.specs.Reader.{ReadOut, ReaderOfCode}
use Rattle.journal.proofs.Chain.{runs}

module _ (m : List ℕ) (h : History) (S : Shows m h) where
  -- the medium behind a lent slice
  lent : (l : Bor (List ℕ)) → l.now ≡ m → recover (length l.now) (views l.now) ≡ gives (recovery_with S.log S.state)
  lent l e = subst (λ (x : List ℕ). recover (length x) (views x) ≡ gives (recovery_with S.log S.state)) (sym e) S.accepts

  pub out : ReadOut m h
  unfolding start_of start_place
  out =
      record {
        accepted = λ p e. ap (λ (q : LogPlace). q.number) (e ∙ ap (start_place m) S.accepts);
        log = λ p cs e a. subst (λ (l : List (List Entry)). GivesLog (changes_of l) (numbers_from 0 l) cs) S.same_log
            (answers (reads_log m S.log S.state S.accepts) (subst (λ (q : LogPlace). AskedInTurn m q cs) e a));
        form_accepted = λ l r e p. form_first_to_last.accepted l S.log S.state (lent l e) r p;
        form_log = λ l r cs e p q. subst (λ (x : List (List Entry)). GivesLog (changes_of x) (numbers_from 0 x) cs) S.same_log
            (form_first_to_last.lists l S.log S.state (lent l e) r cs p q);
      }

pub reader_of_code : ReaderOfCode
unfolding ReaderOfCode Point3
reader_of_code x h r = out x.medium h (point3 (world_of x) h (runs x h r))
