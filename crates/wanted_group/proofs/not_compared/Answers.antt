use Rattle.wanted_group.proofs.Comparison.{none_compared}
use Rattle.wanted_group.proofs.not_compared.Goals as goal

pub returns : goal.returns
returns c = none_compared
