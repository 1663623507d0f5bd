use Rattle.wanted_group.proofs.Comparison.{compare_same, compare_past, compare_more}
use borrow.Author.Rules.{rules}
use Rattle.wanted_group.proofs.compare.Goals as goal

pub returns-then-has_word : goal.returns-then-has_word
returns-then-has_word c = search (compare_same, rules)

pub returns-then-k-ge96 : goal.returns-then-k-ge96
returns-then-k-ge96 c = search (compare_past, rules)

pub returns : goal.returns
returns c = search (compare_more, rules)
