-- Laws of the text of one page, in the shapes that the code's proofs ask.
use mathlib.Core.Path.{◌≡◌, refl, ap, ◌∙◌}
use mathlib.Core.Bool.{Bool, true, false}
use mathlib.Core.List.{List, ◌∷◌, ◌++◌}
use Prim.Native.Nat.{ℕ, zero, suc, ◌+◌, ◌-◌, ◌≤◌, ◌<◌, min}
use native.Mathlib.Omega.{arith}
use lib.ListN.{length, drop, get_or, drop_of_length-le}
use lib.Seq.{drop-cons}
use borrow.Author.Tests.{lt-ltb, le-ltb, eq-eqb, ne_eqb}
use Rattle.lists.specs.declared.Cell.{Cell}
use Rattle.lists.specs.Cells.{Entry, cell}
use Rattle.lists.proofs.Laws.{length_table, get_table}
use Rattle.text.specs.Filled.{Filled}
use Rattle.text.specs.Text.{ascii, PutsBehind}
use Rattle.text.proofs.Laws.{puts_none, puts_then, puts_same}
use Rattle.codec.specs.Codec.{le, part}
use Rattle.page.specs.Rules.{lawful}
use Rattle.page.specs.Layout.{used, entry_at, decode, whole_bytes}
use Rattle.listing.proofs.Laws.{Telling, telling_next, telling_end}
use Rattle.page_text.specs.PageText.{kind_name, flags_name, field_text, kind_text, flags_text, fields_text, rules_text, class_text}
use Rattle.page_text.specs.PageText.{entry_line, entry_lines, clean_line}

-- ---- four texts in turn

pub puts_four : {t u v w z : Filled} {a b c d : List ℕ} → PutsBehind t a u → PutsBehind u b v → PutsBehind v c w → PutsBehind w d z → PutsBehind t (a ++ b ++ c ++ d) z
puts_four p q r s = puts_then (puts_then (puts_then p q) r) s

-- ---- names

kind_unknown : (k : ℕ) → (k ≡ 1 → ⊥) → (k ≡ 2 → ⊥) → (k ≡ 3 → ⊥) → (k ≡ 4 → ⊥) → ascii " (unknown)" ≡ kind_name k
unfolding kind_name
kind_unknown zero a b c d = refl
kind_unknown (suc zero) a b c d = absurd (a refl)
kind_unknown (suc (suc zero)) a b c d = absurd (b refl)
kind_unknown (suc (suc (suc zero))) a b c d = absurd (c refl)
kind_unknown (suc (suc (suc (suc zero)))) a b c d = absurd (d refl)
kind_unknown (suc (suc (suc (suc (suc k))))) a b c d = refl

flags_unknown : (k : ℕ) → (k ≡ 0 → ⊥) → (k ≡ 1 → ⊥) → (k ≡ 2 → ⊥) → (k ≡ 3 → ⊥) → ascii " (unknown)" ≡ flags_name k
unfolding flags_name
flags_unknown zero a b c d = absurd (a refl)
flags_unknown (suc zero) a b c d = absurd (b refl)
flags_unknown (suc (suc zero)) a b c d = absurd (c refl)
flags_unknown (suc (suc (suc zero))) a b c d = absurd (d refl)
flags_unknown (suc (suc (suc (suc k)))) a b c d = refl

module _ {t u : Filled} (k : ℕ) where
  pub kind_nodes : k ≡ 1 → PutsBehind t (ascii " (nodes)") u → PutsBehind t (kind_name k) u
  unfolding kind_name
  kind_nodes e p = rw e p

  pub kind_base : k ≡ 2 → PutsBehind t (ascii " (base)") u → PutsBehind t (kind_name k) u
  unfolding kind_name
  kind_base e p = rw e p

  pub kind_moved : k ≡ 3 → PutsBehind t (ascii " (moved nodes)") u → PutsBehind t (kind_name k) u
  unfolding kind_name
  kind_moved e p = rw e p

  pub kind_small : k ≡ 4 → PutsBehind t (ascii " (small groups)") u → PutsBehind t (kind_name k) u
  unfolding kind_name
  kind_small e p = rw e p

  pub kind_other : (k ≡ 1 → ⊥) → (k ≡ 2 → ⊥) → (k ≡ 3 → ⊥) → (k ≡ 4 → ⊥) → PutsBehind t (ascii " (unknown)") u
      → PutsBehind t (kind_name k) u
  kind_other a b c d p = puts_same (kind_unknown k a b c d) p

  pub flags_neither : k ≡ 0 → PutsBehind t (ascii " (neither begins nor ends)") u → PutsBehind t (flags_name k) u
  unfolding flags_name
  flags_neither e p = rw e p

  pub flags_begin : k ≡ 1 → PutsBehind t (ascii " (begins)") u → PutsBehind t (flags_name k) u
  unfolding flags_name
  flags_begin e p = rw e p

  pub flags_end : k ≡ 2 → PutsBehind t (ascii " (ends)") u → PutsBehind t (flags_name k) u
  unfolding flags_name
  flags_end e p = rw e p

  pub flags_both : k ≡ 3 → PutsBehind t (ascii " (begins and ends)") u → PutsBehind t (flags_name k) u
  unfolding flags_name
  flags_both e p = rw e p

  pub flags_other : (k ≡ 0 → ⊥) → (k ≡ 1 → ⊥) → (k ≡ 2 → ⊥) → (k ≡ 3 → ⊥) → PutsBehind t (ascii " (unknown)") u
      → PutsBehind t (flags_name k) u
  flags_other a b c d p = puts_same (flags_unknown k a b c d) p

-- ---- what a page is

pub fields_are : {t v : Filled} (s : List ℕ) (x u : ℕ) → x ≡ le (part 8 8 s) → u ≡ used s
    → PutsBehind t (kind_text (get_or s 2 0) ++ flags_text (get_or s 3 0) ++ field_text (ascii ", serial ") x ++ field_text (ascii ", entries ") u) v
    → PutsBehind t (fields_text s) v
unfolding fields_text decode
fields_are s x u c d p = rw (← c, ← d) p

module _ {t u : Filled} (s : List ℕ) (b : Bool) where
  pub rules_kept : b ≡ lawful (decode s) → b ≡ true → PutsBehind t (ascii ", keeps the rules") u
      → PutsBehind t (rules_text (decode s)) u
  unfolding rules_text
  rules_kept e t p = rw (← e, t) p

  pub rules_broken : b ≡ lawful (decode s) → b ≡ false → PutsBehind t (ascii ", breaks the rules") u
      → PutsBehind t (rules_text (decode s)) u
  unfolding rules_text
  rules_broken e t p = rw (← e, t) p

  pub class_whole : b ≡ whole_bytes s → b ≡ true → PutsBehind t (ascii ": whole, " ++ fields_text s ++ rules_text (decode s)) u
      → PutsBehind t (class_text s) u
  unfolding class_text
  class_whole e t p = rw (← e, t) p

  pub class_spoilt : b ≡ whole_bytes s → b ≡ false → PutsBehind t (ascii ": spoilt, reads as " ++ fields_text s) u
      → PutsBehind t (class_text s) u
  unfolding class_text
  class_spoilt e t p = rw (← e, t) p

-- ---- its entries

pub entries_many : (s : List ℕ) → length (decode s).entries ≡ min 24 (used s)
unfolding decode
entries_many s = length_table (entry_at s) (cell 0 0) (min 24 (used s))

entries_from : (s : List ℕ) (i : ℕ) → i < min 24 (used s) → drop i (decode s).entries ≡ entry_at s i ∷ drop (suc i) (decode s).entries
unfolding decode
entries_from s i h =
    drop-cons (decode s).entries i (cell 0 0) (omega (arith, entries_many s))
    ∙ ap (λ (e : Entry). e ∷ drop (suc i) (decode s).entries) (get_table (entry_at s) (cell 0 0) (min 24 (used s)) i h)

-- the entries before place i are told
abbrev pub Entering : List ℕ → Filled → Filled → ℕ → Type 0
Entering s t u i = Telling t (entry_lines 0 (decode s).entries) u (entry_lines i (drop i (decode s).entries))

module _ (s : List ℕ) (t u : Filled) (i : ℕ) (l : Entering s t u i) (many count : ℕ) (j : many ≡ used s) (k : count ≡ min many 24) where
  pub entering_next : i < count → (e : Cell) → e ≡ entry_at s i → (v : Filled) → PutsBehind u (entry_line i e) v → Entering s t v (i + 1)
  entering_next h e f v p =
      let z : i + 1 ≡ suc i = omega arith in
      let rest = drop (suc i) (decode s).entries in
      let o : entry_lines i (entry_at s i ∷ rest) ≡ entry_line i (entry_at s i) ++ entry_lines (suc i) rest = unfold entry_lines in refl in
      let q : PutsBehind u (entry_line i (entry_at s i)) v = puts_same (ap (entry_line i) f) p in
      rw z (telling_next l (ap (entry_lines i) (entries_from s i (omega arith)) ∙ o) q)

  pub entering_end : count ≤ i → PutsBehind t (entry_lines 0 (decode s).entries) u
  entering_end h =
      let n : length (decode s).entries ≤ i = omega (arith, entries_many s) in
      telling_end l (ap (entry_lines i) (drop_of_length-le (decode s).entries n) ∙ (unfold entry_lines in refl))

-- ---- clean pages

pub clean_none : (t : Filled) (a e : ℕ) → e ≤ a → PutsBehind t (clean_line a e) t
unfolding clean_line
clean_none t a e h = rw (le-ltb a e h) puts_none

module _ {t u : Filled} (a e : ℕ) (h : a < e) where
  pub clean_one : a + 1 ≡ e → PutsBehind t (field_text (ascii "page ") a ++ ascii ": clean\n") u → PutsBehind t (clean_line a e) u
  unfolding clean_line
  clean_one f p = let z : suc a ≡ e = omega arith in rw (lt-ltb a e h, eq-eqb (suc a) e z) p

  pub clean_more : (a + 1 ≡ e → ⊥)
      → PutsBehind t (field_text (ascii "pages ") a ++ field_text (ascii " to ") (e - 1) ++ ascii ": clean\n") u
      → PutsBehind t (clean_line a e) u
  unfolding clean_line
  clean_more f p = let z : a + 1 ≡ suc a = omega arith in rw (lt-ltb a e h, ne_eqb (suc a) e (λ q. f (z ∙ q))) p
