use borrow.Author.Rules.{rules}
use Rattle.trials.proofs.Laws.{pattern_most, length_pattern}
use Rattle.trials.proofs.cut.Goals as goal

pub slice_bounds-all-end : goal.slice_bounds-all-end
slice_bounds-all-end c = search (pattern_most, rules)

pub slice_bounds-pattern-end : goal.slice_bounds-pattern-end
slice_bounds-pattern-end c = search (length_pattern, rules)
