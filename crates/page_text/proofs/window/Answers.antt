use Rattle.page_text.proofs.Medium.{whole_long, whole_all}
use borrow.Author.Rules.{rules}
use Rattle.page_text.proofs.window.Goals as goal

pub returns-then-m-gt-BYTES : goal.returns-then-m-gt-BYTES
returns-then-m-gt-BYTES c = search (whole_long, rules)

pub returns : goal.returns
returns c = search (whole_all, rules)
