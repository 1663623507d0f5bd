use Rattle.run_text.proofs.Laws.{size_fits, size_is, size_listed, size_low, size_some}
use borrow.Author.Rules.{rules}
use Rattle.run_text.proofs.medium_size.Goals as goal

pub number-requires : goal.number-requires
number-requires c = (search (size_listed, rules), search (size_some, rules))

pub overflow_mul-result : goal.overflow_mul-result
overflow_mul-result c = search (size_fits, rules)

pub returns : goal.returns
returns c = (search (size_is, rules), search (size_low, rules))
