-- What the program `pages` prints, byte by byte: of each page that is not clean what it is and what its bytes say, then each of its
-- entries; of clean pages that follow each other one line; at the end the number that recovery refuses the medium with.
use Rattle.std.specs.Prelude.{cond, List, [], ◌∷◌, ◌++◌, ℕ, zero, suc, ◌-◌, ◌/◌, length, get_or, ltb, eqb}
use Rattle.lists.specs.Needs.{Answer, refused, gives}
use Rattle.lists.specs.Cells.{Entry}
use Rattle.text.specs.Text.{ascii, decimal}
use Rattle.page.specs.Pages.{Page}
use Rattle.page.specs.Rules.{lawful}
use Rattle.page.specs.Layout.{used, decode, whole_bytes, clean_bytes}
use Rattle.flash.specs.Medium.{views, page_at}
use Rattle.recovery.specs.Recovery.{Recovery, recover}
use Rattle.listing.specs.Listing.{refusal_line}

-- ---- one page, of 256 bytes s

-- what a kind is called
unfoldable pub kind_name : ℕ → List ℕ
kind_name kind =
    get_or
    (ascii " (unknown)" ∷ ascii " (nodes)" ∷ ascii " (base)" ∷ ascii " (moved nodes)" ∷ ascii " (small groups)" ∷ [])
    kind
    (ascii " (unknown)")

-- what flags say of the group: "flags: 1 begins a group, 2 ends it, 3 both, 0 neither"
unfoldable pub flags_name : ℕ → List ℕ
flags_name flags =
    get_or
    (ascii " (neither begins nor ends)" ∷ ascii " (begins)" ∷ ascii " (ends)" ∷ ascii " (begins and ends)" ∷ [])
    flags
    (ascii " (unknown)")

-- a word and a number; the kind; the flags
unfoldable pub field_text : List ℕ → ℕ → List ℕ
field_text word n = word ++ decimal n

unfoldable pub kind_text : ℕ → List ℕ
kind_text kind = field_text (ascii "kind ") kind ++ kind_name kind

unfoldable pub flags_text : ℕ → List ℕ
flags_text flags = field_text (ascii ", flags ") flags ++ flags_name flags

-- kind, flags, serial and n, as they stand there: n may be more than the 24 places
unfoldable pub fields_text : List ℕ → List ℕ
fields_text s =
    kind_text (decode s).kind
    ++ flags_text (decode s).flags
    ++ field_text (ascii ", serial ") (decode s).serial
    ++ field_text (ascii ", entries ") (used s)

-- whether a page keeps the page rules
unfoldable pub rules_text : Page → List ℕ
rules_text pg = cond (lawful pg) (ascii ", keeps the rules") (ascii ", breaks the rules")

-- whole or spoilt: a spoilt page says nothing, so the rules are not asked there
unfoldable pub class_text : List ℕ → List ℕ
class_text s =
    cond (whole_bytes s)
    (ascii ": whole, " ++ fields_text s ++ rules_text (decode s))
    (ascii ": spoilt, reads as " ++ fields_text s)

-- entry i
unfoldable pub entry_line : ℕ → Entry → List ℕ
entry_line i e = field_text (ascii "  entry ") i ++ field_text (ascii ": key ") e.key ++ field_text (ascii ", word ") e.val ++ ascii "\n"

-- entries, the first of which has number i
unfoldable pub entry_lines : ℕ → List Entry → List ℕ
entry_lines i [] = []
entry_lines i (e ∷ es) = entry_line i e ++ entry_lines (suc i) es

-- page p that is not clean: its line, then its entries, as many as n says and at most the 24 that there are places for
unfoldable pub page_text : ℕ → List ℕ → List ℕ
page_text p s = field_text (ascii "page ") p ++ class_text s ++ ascii "\n" ++ entry_lines 0 (decode s).entries

-- ---- the pages of a medium m

-- the clean pages from page a up to the one before page e: one line, none where there is no such page
unfoldable pub clean_line : ℕ → ℕ → List ℕ
clean_line a e =
    cond (ltb a e)
    (cond (eqb (suc a) e)
    (field_text (ascii "page ") a)
    (field_text (ascii "pages ") a ++ field_text (ascii " to ") (e - 1))
    ++ ascii ": clean\n")
    []

-- k pages from page p on, where the pages from a up to the one before p are clean and have not been told yet
unfoldable pub lines_from : List ℕ → ℕ → ℕ → ℕ → List ℕ
lines_from m zero a p = clean_line a p
lines_from m (suc k) a p =
    cond (clean_bytes (page_at m p))
    (lines_from m k a (suc p))
    (clean_line a p ++ page_text p (page_at m p) ++ lines_from m k (suc p) (suc p))

-- recovery's refusal; nothing where it gives a state
unfoldable pub end_text : Answer Recovery → List ℕ
end_text (refused n) = refusal_line n
end_text (gives r) = []

-- how recovery of this medium ends
abbrev pub end_of : List ℕ → List ℕ
end_of m = end_text (recover (length m) (views m))

-- Of what was read from standard input: the pages that are there with all their bytes, and how recovery ends. A medium has at most 256
-- blocks, 1048576 bytes; more are refused with 1 and not looked at.
unfoldable pub pages_text : List ℕ → List ℕ
pages_text m =
    cond (ltb 1048576 (length m)) (refusal_line 1) (lines_from m (length m / 256) 0 0 ++ end_of m)
