-- How long each piece of the text is, so that the lists that are lent for it have room.
use mathlib.Core.Bool.{Bool, true, false, cond}
use mathlib.Core.List.{List, [], ◌∷◌, ◌++◌}
use Prim.Native.Nat.{ℕ, zero, suc, ◌+◌, ◌-◌, ◌*◌, ◌/◌, ◌≤◌}
use native.Mathlib.Omega.{arith}
use lib.ListN.{length, length-append}
use lib.Dec.{ltb, eqb}
use borrow.Author.Tests.{ltb-false}
use Rattle.lists.specs.Needs.{Answer, refused, gives}
use Rattle.lists.specs.Cells.{Entry}
use Rattle.lists.proofs.Laws.{by_cases}
use Rattle.text.specs.Text.{ascii, decimal}
use Rattle.text.specs.Parts.{most_printed}
use Rattle.text.proofs.Decimal.{few_app, few_decimal}
use Rattle.page.specs.Pages.{Page}
use Rattle.page.specs.Rules.{lawful}
use Rattle.page.specs.Layout.{used, decode, whole_bytes, clean_bytes}
use Rattle.flash.specs.Medium.{views, page_at}
use Rattle.recovery.specs.Recovery.{Recovery, recover}
use Rattle.listing.proofs.Whole.{few_refusal}
use Rattle.page_text.specs.PageText.{kind_name, flags_name, field_text, kind_text, flags_text, fields_text, rules_text, class_text}
use Rattle.page_text.specs.PageText.{entry_line, entry_lines, page_text, clean_line, lines_from, end_text, pages_text}
use Rattle.page_text.proofs.Laws.{entries_many}

-- ---- the parts of a page's line

few_field : (word : List ℕ) (k n : ℕ) → length word ≤ k → length (field_text word n) ≤ k + 20
unfolding field_text
few_field word k n h = few_app word (decimal n) k 20 h (few_decimal n)

few_kind_name : (k : ℕ) → length (kind_name k) ≤ 15
unfolding kind_name ascii
few_kind_name zero = omega arith
few_kind_name (suc zero) = omega arith
few_kind_name (suc (suc zero)) = omega arith
few_kind_name (suc (suc (suc zero))) = omega arith
few_kind_name (suc (suc (suc (suc zero)))) = omega arith
few_kind_name (suc (suc (suc (suc (suc k))))) = omega arith

few_flags_name : (k : ℕ) → length (flags_name k) ≤ 26
unfolding flags_name ascii
few_flags_name zero = omega arith
few_flags_name (suc zero) = omega arith
few_flags_name (suc (suc zero)) = omega arith
few_flags_name (suc (suc (suc zero))) = omega arith
few_flags_name (suc (suc (suc (suc k)))) = omega arith

few_kind : (k : ℕ) → length (kind_text k) ≤ 40
unfolding kind_text ascii
few_kind k = few_app (field_text (ascii "kind ") k) (kind_name k) 25 15 (few_field (ascii "kind ") 5 k (omega arith)) (few_kind_name k)

few_flags : (k : ℕ) → length (flags_text k) ≤ 54
unfolding flags_text ascii
few_flags k =
    few_app (field_text (ascii ", flags ") k) (flags_name k) 28 26 (few_field (ascii ", flags ") 8 k (omega arith)) (few_flags_name k)

few_fields : (s : List ℕ) → length (fields_text s) ≤ 153
unfolding fields_text ascii
few_fields s =
    few_app
    (kind_text (decode s).kind ++ flags_text (decode s).flags ++ field_text (ascii ", serial ") (decode s).serial)
    (field_text (ascii ", entries ") (used s))
    123 30
    (few_app (kind_text (decode s).kind ++ flags_text (decode s).flags) (field_text (ascii ", serial ") (decode s).serial) 94 29
    (few_app (kind_text (decode s).kind) (flags_text (decode s).flags) 40 54 (few_kind (decode s).kind) (few_flags (decode s).flags))
    (few_field (ascii ", serial ") 9 (decode s).serial (omega arith)))
    (few_field (ascii ", entries ") 10 (used s) (omega arith))

few_rules : (pg : Page) → length (rules_text pg) ≤ 18
unfolding rules_text ascii
few_rules pg = by_cases (lawful pg) (λ e. rw e (omega arith)) (λ e. rw e (omega arith))

few_class : (s : List ℕ) → length (class_text s) ≤ 180
unfolding class_text ascii
few_class s =
    by_cases (whole_bytes s)
    (λ e. rw e
    (few_app (ascii ": whole, " ++ fields_text s) (rules_text (decode s)) 162 18
    (few_app (ascii ": whole, ") (fields_text s) 9 153 (omega arith) (few_fields s))
    (few_rules (decode s))))
    (λ e. rw e (let l = few_app (ascii ": spoilt, reads as ") (fields_text s) 19 153 (omega arith) (few_fields s) in omega arith))

-- ---- a page

few_entry : (i : ℕ) (e : Entry) → length (entry_line i e) ≤ 82
unfolding entry_line ascii
few_entry i e =
    few_app
    (field_text (ascii "  entry ") i ++ field_text (ascii ": key ") e.key ++ field_text (ascii ", word ") e.val) (ascii "\n")
    81 1
    (few_app (field_text (ascii "  entry ") i ++ field_text (ascii ": key ") e.key) (field_text (ascii ", word ") e.val) 54 27
    (few_app (field_text (ascii "  entry ") i) (field_text (ascii ": key ") e.key) 28 26
    (few_field (ascii "  entry ") 8 i (omega arith))
    (few_field (ascii ": key ") 6 e.key (omega arith)))
    (few_field (ascii ", word ") 7 e.val (omega arith)))
    (omega arith)

few_entries_lem : (i : ℕ) (es : List Entry) → length (entry_lines i es) ≤ 82 * length es
unfolding entry_lines
few_entries_lem i [] = omega arith
few_entries_lem i (e ∷ es) = omega (arith, few_entries_lem (suc i) es, few_entry i e, length-append (entry_line i e) (entry_lines (suc i) es))

few_page : (p : ℕ) (s : List ℕ) → length (page_text p s) ≤ 2174
unfolding page_text ascii
few_page p s =
    let l : length (entry_lines 0 (decode s).entries) ≤ 1968 = omega (arith, few_entries_lem 0 (decode s).entries, entries_many s) in
    few_app (field_text (ascii "page ") p ++ class_text s ++ ascii "\n") (entry_lines 0 (decode s).entries) 206 1968
    (few_app (field_text (ascii "page ") p ++ class_text s) (ascii "\n") 205 1
    (few_app (field_text (ascii "page ") p) (class_text s) 25 180 (few_field (ascii "page ") 5 p (omega arith)) (few_class s))
    (omega arith))
    l

-- ---- a line of clean pages, and a piece

few_run : (a e : ℕ) (b : Bool)
    → length (cond b (field_text (ascii "page ") a) (field_text (ascii "pages ") a ++ field_text (ascii " to ") (e - 1))) ≤ 50
unfolding ascii
few_run a e true = let l = few_field (ascii "page ") 5 a (omega arith) in omega arith
few_run a e false =
    few_app (field_text (ascii "pages ") a) (field_text (ascii " to ") (e - 1)) 26 24
    (few_field (ascii "pages ") 6 a (omega arith))
    (few_field (ascii " to ") 4 (e - 1) (omega arith))

pub few_clean : (a e : ℕ) → length (clean_line a e) ≤ 58
unfolding clean_line ascii
few_clean a e =
    by_cases (ltb a e)
    (λ q. rw q
    (few_app
    (cond (eqb (suc a) e) (field_text (ascii "page ") a) (field_text (ascii "pages ") a ++ field_text (ascii " to ") (e - 1)))
    (ascii ": clean\n") 50 8
    (few_run a e (eqb (suc a) e))
    (omega arith)))
    (λ q. rw q (omega arith))

pub few_piece : (a p : ℕ) (s : List ℕ) → length (clean_line a p ++ page_text p s) ≤ 2232
few_piece a p s = few_app (clean_line a p) (page_text p s) 58 2174 (few_clean a p) (few_page p s)

-- ---- the whole

few_lines : (m : List ℕ) (k a p : ℕ) → length (lines_from m k a p) ≤ 2232 * k + 58
unfolding lines_from
few_lines m zero a p = few_clean a p
few_lines m (suc k) a p =
    by_cases (clean_bytes (page_at m p)) (λ q. rw q (let l = few_lines m k a (suc p) in omega arith))
    (λ q. rw q
    (omega (
      arith,
      few_piece a p (page_at m p),
      few_lines m k (suc p) (suc p),
      length-append (clean_line a p ++ page_text p (page_at m p)) (lines_from m k (suc p) (suc p)),
    )))

few_end : (r : Answer Recovery) → length (end_text r) ≤ 29
unfolding end_text
few_end (refused n) = few_refusal n
few_end (gives x) = omega arith

-- of 4096 pages with 2304 bytes each, and two lines
pub few_text : (m : List ℕ) → length (pages_text m) ≤ most_printed
unfolding pages_text
few_text m =
    by_cases (ltb 1048576 (length m)) (λ q. rw q (let l = few_refusal 1 in omega arith))
    (λ q. rw q
    (omega (
      arith,
      ltb-false 1048576 (length m) q,
      few_lines m (length m / 256) 0 0,
      few_end (recover (length m) (views m)),
      length-append (lines_from m (length m / 256) 0 0) (end_text (recover (length m) (views m))),
    )))
