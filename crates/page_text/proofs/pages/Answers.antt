use Rattle.page_text.proofs.Medium.{page_there, page_is, listed_start, listed_clean, listed_page, listed_end}
use borrow.Author.Rules.{rules}
use Rattle.page_text.proofs.pages.Goals as goal

pub loop-p-init : goal.loop-p-init
loop-p-init c = search (listed_start, rules)

pub unwrap-s-requires : goal.unwrap-s-requires
unwrap-s-requires c = page_there _ _ _ _ (search rules) c.page.ensures

pub returns : goal.returns
returns c = search (listed_end, rules)

pub loop-p-preserved-then-is_clean : goal.loop-p-preserved-then-is_clean
loop-p-preserved-then-is_clean c = search (listed_clean, page_is _ _ _ _ c.page.ensures c.unwrap-s.ensures, rules)

pub loop-p-preserved : goal.loop-p-preserved
loop-p-preserved c = search (listed_page, page_is _ _ _ _ c.page.ensures c.unwrap-s.ensures, rules)
