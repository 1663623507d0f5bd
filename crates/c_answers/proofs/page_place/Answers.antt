use Rattle.c_answers.proofs.Laws.{page_in_lem, page_out}
use borrow.Author.Rules.{rules}
use Rattle.c_answers.proofs.page_place.Goals as goal

pub returns-then-p-m : goal.returns-then-p-m
returns-then-p-m c = search page_in_lem

pub returns : goal.returns
returns c = search page_out
