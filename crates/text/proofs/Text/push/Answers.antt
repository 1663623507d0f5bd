use Rattle.std.proofs.Common.{refl, arith}
use Rattle.text.proofs.Laws.{puts_pushed}
use Rattle.text.proofs.Text.push.Goals as goal

pub returns : goal.returns
returns c =
    let t = c.args.self.now in
    puts_pushed t.bytes.now c.args.s.now _ t.len t.skip _ _ t.inside c.min-before.ensures refl c.min-k.ensures (omega arith)
    c.copy_from_slice.ensures.after
