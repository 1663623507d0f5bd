use mathlib.Core.Path.{refl}
use Rattle.records.specs.Records.{unnoted}
use Rattle.records.proofs.start.Goals as goal

pub returns : goal.returns
unfolding unnoted
returns c = refl
