use Rattle.std.proofs.Common.{length, take, ◌-◌}
use Rattle.std.specs.Io.KnownBytes.{Appends}
use Rattle.text.specs.Filled.{filled}
use Rattle.text.proofs.Parts.{Printing}
use Rattle.run_text.specs.RunText.{run_text}
use Rattle.rerun.proofs.print.Given as goal

abbrev pub invariant-loop-part : goal.invariant-loop-part
invariant-loop-part g l =
    record {
      printing : Printing (run_text l.t) (filled l.initial.out) (filled l.out) l.from;
      bytes : Appends (g.W.Write.contents l.initial.output) (g.W.Write.contents l.output) (take l.from (run_text l.t));
    }

abbrev pub decreases-loop-part : goal.decreases-loop-part
decreases-loop-part g l = length (run_text l.t) - l.from
