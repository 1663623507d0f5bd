use Rattle.std.proofs.Common.{arith}
use Rattle.text.proofs.Laws.{puts_same, number_is}
use Rattle.text.proofs.Text.number.Goals as goal

pub returns : goal.returns
returns c =
    let e = c.decimal-k.ensures in
    puts_same (number_is _ _ _ (omega arith) e.len e.digits) c.push.ensures
