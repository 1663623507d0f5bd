use Rattle.run_text.proofs.Laws.{window_broken, window_formed, window_medium, window_part}
use borrow.Author.Rules.{rules}
use Rattle.run_text.proofs.window.Goals as goal

pub returns-then-not-is_well_formed : goal.returns-then-not-is_well_formed
returns-then-not-is_well_formed c = search (window_broken, rules)

pub medium_size-size-requires : goal.medium_size-size-requires
medium_size-size-requires c = search (window_formed, rules)

pub slice_bounds-calls-end-2 : goal.slice_bounds-calls-end-2
slice_bounds-calls-end-2 c = search (window_part, rules)

pub calls-requires : goal.calls-requires
calls-requires c = (search (window_formed, rules), search (window_medium, rules), search rules)
