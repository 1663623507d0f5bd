use Rattle.c_answers.proofs.Laws.{survey_tells}
use borrow.Author.Rules.{rules}
use Rattle.c_answers.proofs.survey.Goals as goal

pub returns : goal.returns
returns c = search survey_tells
