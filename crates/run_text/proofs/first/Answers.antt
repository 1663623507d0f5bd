use Rattle.run_text.proofs.Laws.{first_is, first_listed, first_place_lem, first_times}
use borrow.Author.Rules.{rules}
use Rattle.run_text.proofs.first.Goals as goal

pub count-count-requires : goal.count-count-requires
count-count-requires c = search (first_listed, rules)

pub overflow_mul-result : goal.overflow_mul-result
overflow_mul-result c = search (first_times, rules)

pub overflow_add-result : goal.overflow_add-result
overflow_add-result c = search (first_place_lem, rules)

pub returns : goal.returns
returns c = search (first_is, rules)
