use Rattle.std.proofs.lemmas.Result.{err_from_is_err_and}
use Rattle.wanted.proofs.Laws.{begin_state, begin_few, begin_rises, begin_valves, begin_records, begin_index}
use Rattle.wanted.proofs.begin.Goals as goal

pub returns-in_err-check : goal.returns-in_err-check
returns-in_err-check c =
    let p = err_from_is_err_and c.from_residual.result c.from_residual.ensures.1 in
    rw (p.1, p.2) (search (begin_state, c.in_err-check.ensures))

pub returns-in_err-check_records : goal.returns-in_err-check_records
returns-in_err-check_records c =
    let p = err_from_is_err_and c.from_residual-in_err-check_records.result c.from_residual-in_err-check_records.ensures.1 in
    rw (p.1, p.2) (search (begin_records, c.in_ok-check.ensures, c.in_err-check_records.ensures))

pub from_index-requires : goal.from_index-requires
from_index-requires c = (search (begin_few, c.in_ok-check.ensures), search (begin_rises, c.in_ok-check.ensures), search (begin_valves, c.in_ok-check.ensures))

pub returns : goal.returns
returns c = search (begin_index, c.in_ok-check.ensures, c.in_ok-check_records.ensures, c.from_index.ensures)
