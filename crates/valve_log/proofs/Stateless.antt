-- On a reached medium format and recovery are never refused, and the log is refused by 17 alone.
use mathlib.Core.Path.{◌≡◌, sym, ◌∙◌}
use mathlib.Core.Bool.{true}
use mathlib.Core.List.{List}
use Prim.Native.Nat.{ℕ, ◌/◌}
use lib.ListN.{length}
use Rattle.lists.specs.Needs.{refused, and_then, under}
use Rattle.lists.proofs.Laws.{given_refused}
use Rattle.page.specs.Pages.{changes_of}
use Rattle.flash.specs.Medium.{views}
use Rattle.blocks.specs.Blocks.{size_ok}
use Rattle.recovery.specs.Recovery.{recover as recover_of}
use Rattle.readings.specs.Readings.{filed_log, read_log}
use Rattle.calls.specs.Calls.{formatting, format_of}
use Rattle.valve_log.specs.Reached.{Shows, Point3}
use Rattle.valve_log.specs.History.{History}
use Rattle.valve_log.specs.Steady.{SteadyWithoutState}
use Rattle.valve_log.proofs.Point3.{reached_upheld, point3}
use Rattle.valve_log.proofs.Steady.{filed_fairly}

format_begins : (n : ℕ) → size_ok n ≡ true → (k : ℕ) → format_of n ≡ refused k → ⊥
unfolding format_of under
format_begins n size k e = given_refused (formatting (n / 4096)) k (rw size at e)

module _ (m : List ℕ) (h : History) (S : Shows m h) where
  recovers : (n : ℕ) → recover_of (length m) (views m) ≡ refused n → ⊥
  recovers n e = given_refused _ n (sym S.accepts ∙ e)

  log_answers : (lists : List (List ℕ)) (n : ℕ) → read_log (length m) (views m) lists ≡ refused n → n ≡ 17
  unfolding read_log and_then filed_log
  log_answers lists n e = filed_fairly lists _ (length (changes_of S.log)) n (rw S.accepts at e)

pub steady_without_state : SteadyWithoutState
unfolding SteadyWithoutState Point3
steady_without_state w h R =
    let S = point3 w h R in
    record {
      format = format_begins (length w.medium) (reached_upheld w h R).size;
      recovery = recovers w.medium h S;
      log = log_answers w.medium h S;
    }
