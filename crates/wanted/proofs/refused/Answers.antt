use Rattle.wanted.proofs.Laws.{refused_is}
use Rattle.wanted.proofs.refused.Goals as goal

pub returns : goal.returns
returns c = search refused_is
