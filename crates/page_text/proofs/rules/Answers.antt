use Rattle.page_text.proofs.Laws.{rules_kept, rules_broken}
use Rattle.text.specs.Text.{ascii}
use borrow.Author.Rules.{rules}
use Rattle.page_text.proofs.rules.Goals as goal

pub returns-then-is_lawful : goal.returns-then-is_lawful
unfolding ascii
returns-then-is_lawful c = search (rules_kept, rules)

pub returns-else-is_lawful : goal.returns-else-is_lawful
unfolding ascii
returns-else-is_lawful c = search (rules_broken, rules)
