use Rattle.wanted.proofs.Laws.{record_19, record_20, record_0}
use Rattle.wanted.proofs.check_records.Goals as goal

pub returns-then-not-n : goal.returns-then-not-n
returns-then-not-n c = search record_19

pub returns-then-n-gt192 : goal.returns-then-n-gt192
returns-then-n-gt192 c = search record_20

pub returns : goal.returns
returns c = search record_0
