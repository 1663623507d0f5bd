use mathlib.Core.Path.{ap}
use Rattle.std.proofs.lemmas.Result.{err_from_is_err_and}
use Rattle.flash.specs.Medium.{views}
use Rattle.state.specs.State.{meaning}
use Rattle.wanted.specs.Wanted.{reply}
use Rattle.wanted.proofs.InTurn.{lead_refused, lead_part, lead_11, lead_group}
use borrow.Author.Rules.{rules}
use Rattle.wanted.proofs.lead.Goals as goal

pub returns-in_err-present : goal.returns-in_err-present
returns-in_err-present c =
    let p = err_from_is_err_and c.from_residual.result c.from_residual.ensures.1 in
    rw (p.1, p.2) (ap reply (search (lead_refused, c.gather-n.ensures, c.in_err-present.ensures)))

pub slice_bounds-compare_all-end : goal.slice_bounds-compare_all-end
slice_bounds-compare_all-end c = search (lead_part, c.gather-n.ensures, c.in_ok-present.ensures)

pub returns-then-not-c : goal.returns-then-not-c
returns-then-not-c c = ap reply (search (lead_11, c.gather-n.ensures, c.in_ok-present.ensures, c.compare_all-c.ensures))

pub returns : goal.returns
returns c = ap reply (search (lead_group, c.gather-n.ensures, c.in_ok-present.ensures, c.compare_all-c.ensures, c.group.ensures))
