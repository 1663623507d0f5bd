use Rattle.std.proofs.Common.{length, take, ◌-◌}
use Rattle.std.specs.Io.KnownBytes.{Appends}
use Rattle.text.specs.Filled.{filled}
use Rattle.text.proofs.Parts.{Printing}
use Rattle.page_text.specs.PageText.{pages_text}
use Rattle.pages.proofs.print.Given as goal

abbrev pub invariant-loop-part : goal.invariant-loop-part
invariant-loop-part g l =
    record {
      printing : Printing (pages_text l.m) (filled l.initial.out) (filled l.out) l.from;
      bytes : Appends (g.W.Write.contents l.initial.output) (g.W.Write.contents l.output) (take l.from (pages_text l.m));
    }

abbrev pub decreases-loop-part : goal.decreases-loop-part
decreases-loop-part g l = length (pages_text l.m) - l.from
