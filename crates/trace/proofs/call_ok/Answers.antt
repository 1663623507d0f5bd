use Rattle.std.proofs.Common.{◌≡◌}
use Rattle.trace.specs.Trace.{code_at}
use Rattle.trace.specs.Kinds.{code_of}
use Rattle.trace.proofs.Laws.{code_known, call_unknown, call_first, call_next, call_number}
use borrow.Author.Rules.{rules}
use Rattle.trace.proofs.call_ok.Goals as goal

pub returns-in_default : goal.returns-in_default
returns-in_default c = call_unknown _ _ _ _ c.read_kind.ensures c.in_default.is

pub returns-then-not-number_ok : goal.returns-then-not-number_ok
returns-then-not-number_ok c = let e : code_of c.in-Ok.kind ≡ code_at c.args.t.now c.args.i = code_known _ _ _ _ c.read_kind.ensures c.in-Ok.is in search (call_number, rules)

pub returns-then-formats_once : goal.returns-then-formats_once
returns-then-formats_once c = let e : code_of c.in-Ok.kind ≡ code_at c.args.t.now c.args.i = code_known _ _ _ _ c.read_kind.ensures c.in-Ok.is in search (call_next, rules)

pub returns-else-formats_once : goal.returns-else-formats_once
returns-else-formats_once c = let e : code_of c.in-Ok.kind ≡ code_at c.args.t.now c.args.i = code_known _ _ _ _ c.read_kind.ensures c.in-Ok.is in search (call_first, rules)
