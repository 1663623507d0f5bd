-- The examples of Paper 14 hold by computation.
use mathlib.Core.Path.{◌≡◌, refl, sym, ap, ◌∙◌}
use mathlib.Core.Logic.{◌⊎◌, inl, inr}
use mathlib.Core.Bool.{Bool, true, ◌||◌}
use mathlib.Core.List.{List, [], ◌∷◌}
use Prim.Native.Nat.{ℕ, ◌+◌, ◌-◌, ◌*◌, ◌/◌, ◌^◌, ◌≤◌, ◌<◌}
use native.Mathlib.Omega.{arith}
use native.Mathlib.Decide.{dec_lt, ℕ_discrete}
use lib.Dec.{eqb}
use lib.ListN.{length, get_or, set, replicate, length-set, length-replicate, get_or-replicate, get_or-eq_default}
use lib.Seq.{ext_get_or, get_or-set_same, get_or-set_other}
use borrow.Author.Tests.{eqb-true}
use Rattle.lists.specs.Lists.{Below, Bytes, all, every, keep, is_some, value_or, all_below, one_if, count_below, table}
use Rattle.lists.specs.Needs.{Answer, under, and_then}
use Rattle.lists.proofs.Laws.{by_cases, below_at, below_nil, below_cons}
use Rattle.lists.specs.Cells.{cell, Entry, keys_of, words_of}
use Rattle.page.specs.Pages.{Page, View, clean, spoilt, whole, page, begins, ends, changes_of}
use Rattle.page.specs.Rules.{may_carry, least_count, entry_ok, serial_ok, mark_ok, last_marked, marks_ok, ruled, lawful}
use Rattle.page.specs.Layout.{fields, laid, zero_count, with_check, encode, check, used, entry_at, tidy, decode, whole_bytes, clean_bytes, view_of}
use Rattle.page.specs.Buffer.{group_if, divided, groups_in, ends_of, all_ends, bits_from, groups_page}
use Rattle.bits.specs.Bits.{bit, zero_bits, zeros}
use Rattle.codec.specs.Codec.{le, bytes_of, packed, put_at, blank, all_ones}
use Rattle.codec.proofs.Put.{get_blank, length_blank, bytes_blank, bytes_put}
use Rattle.page.proofs.Written.{length_encode, bytes_encode, Narrow}
use Rattle.page.proofs.Berger.{blank_clean}
use Rattle.flash.specs.Medium.{page_at, views, seen, programmed}
use Rattle.flash.specs.Cuts.{bit_at}
use Rattle.flash.proofs.Laws.{length_views}
use Rattle.flash.proofs.Steps.{get_page, views_alike, seen_set, seen_set_other, put_length, put_outside, put_inside, put_views, program_length, program_page, program_other, program_views}
use Rattle.index.specs.Index.{put, remove, assign, entering}
use Rattle.blocks.specs.Blocks.{size_ok}
use Rattle.nodes.specs.Nodes.{sets_valves, entry_in, node_in, word_for, word_at, sound, words}
use Rattle.recovery.specs.Recovery.{above, stack, wholes, all_lawful, other_serial, distinct, insert, sort, starts_group, goes_on, base_of, reaches, from, consecutive, joined, begun, continues}
use Rattle.recovery.specs.Recovery.{enter, walk, groups_of, entries_of, groups_on_pages, enters_log, log_of_group, log_of, pages_of, enter_one, enter_all, enter_page, enter_pages}
use Rattle.recovery.specs.Recovery.{base, chain, groups, replayed, recovered_state, recover}
use Rattle.fading.specs.Fading.{Faded}
use Rattle.fading.specs.Examples.{LogAndSettings, shown_of, written, FadedGives, FadedExamples}

-- ---- one byte

-- no bit of byte i is 1 and 0 then
turned_up : List ℕ → ℕ → ℕ → Bool
turned_up s i x = all_below 8 (λ j. eqb (bit j x) 1 || eqb (bit j x) (bit j (get_or s i 0)))

byte_fades : (s : List ℕ) (i x : ℕ) → Bytes s → x < 256 → turned_up s i x ≡ true → Faded s (set s i x)
byte_fades s i x bs small up = record {
  size = length-set s i x;
  bytes = record {
    each = λ k. byte k
        (ℕ_discrete k i);
  };
  bits = λ k j l b. unfold bit_at in bits k j l b (ℕ_discrete k i);
}
  where
    byte : (k : ℕ) → Dec (k ≡ i) → get_or (set s i x) k 0 < 256
    byte k (no n) = let e = get_or-set_other s i k x 0 n in omega (arith, e, bs.each k)
    byte k (yes e) = rw e (at (dec_lt i (length s)))
      where
        at : Dec (i < length s) → get_or (set s i x) i 0 < 256
        at (yes l) = let q = get_or-set_same s i x 0 l in omega (arith, q)
        at (no l) = let q = get_or-eq_default (set s i x) 0 {n = i} (omega (arith, length-set s i x)) in omega (arith, q)

    one_bit : (j : ℕ) → j < 8 → (bit j x ≡ 1) ⊎ (bit j x ≡ bit j (get_or s i 0))
    one_bit j l =
        let t = below_at 8 (λ j. eqb (bit j x) 1 || eqb (bit j x) (bit j (get_or s i 0))) (unfold turned_up in up) j l in
        by_cases (eqb (bit j x) 1) (λ e. inl (eqb-true (bit j x) 1 e)) (λ e. inr (eqb-true (bit j x) (bit j (get_or s i 0)) (rw e at t)))

    bits : (k j : ℕ) → k < length s → j < 8 → Dec (k ≡ i)
        → (bit j (get_or (set s i x) k 0) ≡ 1) ⊎ (bit j (get_or (set s i x) k 0) ≡ bit j (get_or s k 0))
    bits k j l b (no n) = inr (ap (bit j) (get_or-set_other s i k x 0 n))
    bits k j l b (yes e) = let q : get_or (set s i x) i 0 ≡ x = get_or-set_same s i x 0 (omega (arith, e)) in rw (e, q) (one_bit j b)

-- ---- a medium of given pages

-- a medium of 64 pages, of which those that are whole have the bytes that a program writes
record Medium (v : List View) : Type 0 where
  medium : List ℕ
  long : length medium ≡ 16384
  bytes : Bytes medium
  pages : views medium ≡ v
  encoded : (p : ℕ) (pg : Page) → seen v p ≡ whole pg → page_at medium p ≡ encode pg

not_whole : {P : Type 0} (pg : Page) → clean ≡ whole pg → P
not_whole pg e = let z : ◌≡◌ {A = ℕ} 0 1 = cc in absurd (omega arith)

spoilt_not_whole : {P : Type 0} (pg : Page) → spoilt ≡ whole pg → P
spoilt_not_whole pg e = let z : ◌≡◌ {A = ℕ} 0 1 = cc in absurd (omega arith)

-- all clean
unwritten : Medium (replicate 64 clean)
unfolding seen
unwritten =
    record {
      medium = blank 16384;
      long = length_blank 16384;
      bytes = bytes_blank 16384;
      pages =
          views_alike (blank 16384) (blank 256) (length_blank 256)
          (λ p i there l. get_blank 16384 (256 * p + i) 0 (omega (arith, length_blank 16384)) ∙ sym (get_blank 256 i 0 l))
          ∙ ap (λ (n : ℕ). replicate (n / 256) (view_of (blank 256))) (length_blank 16384) ∙ ap (λ (x : View). replicate 64 x) blank_clean;
      encoded = λ p pg e. none p pg (dec_lt p 64) e;
    }
  where
    none : (p : ℕ) (pg : Page) → Dec (p < 64) → seen (replicate 64 clean) p ≡ whole pg → page_at (blank 16384) p ≡ encode pg
    none p pg (yes l) e = not_whole pg (sym (get_or-replicate {A = View} 64 p clean spoilt l) ∙ e)
    none p pg (no l) e =
        spoilt_not_whole pg (sym (get_or-eq_default (replicate 64 clean) spoilt {n = p}
        (omega (arith, length-replicate {A = View} 64 clean))) ∙ e)

-- one page more programmed
more : (v : List View) (p : ℕ) (pg : Page) → p < 64 → Narrow pg → Medium v → Medium (set v p (whole pg))
more v p pg l n M =
    record {
      medium = programmed M.medium p pg;
      long = program_length M.medium p pg there n.count ∙ M.long;
      bytes = unfold programmed in bytes_put M.medium (256 * p) (encode pg) M.bytes (bytes_encode pg n.count);
      pages = program_views M.medium p pg there n ∙ ap (λ (w : List View). set w p (whole pg)) M.pages;
      encoded = λ q x e. go q x (ℕ_discrete q p) e;
    }
  where
    there : 256 * p + 256 ≤ length M.medium
    there = omega (arith, M.long)

    inside : p < length v
    inside = omega (arith, ap length M.pages, length_views M.medium, M.long)

    same_page : (x y : Page) → whole x ≡ whole y → x ≡ y
    same_page x y e = cc

    go : (q : ℕ) (x : Page) → Dec (q ≡ p) → seen (set v p (whole pg)) q ≡ whole x → page_at (programmed M.medium p pg) q ≡ encode x
    go q x (yes k) e =
        let z : pg ≡ x = same_page pg x (sym (seen_set v p (whole pg) inside) ∙ ap (λ (j : ℕ). seen (set v p (whole pg)) j) (sym k) ∙ e) in
        rw k (program_page M.medium p pg there n.count ∙ ap encode z)
    go q x (no k) e = program_other M.medium p pg there n.count q k ∙ M.encoded q x (sym (seen_set_other v p q (whole pg) k) ∙ e)

-- ---- a byte of it faded

-- a byte altered is its page altered
set_in_page : (m : List ℕ) (p i x : ℕ) (s : List ℕ) → 256 * p + 256 ≤ length m → i < 256 → page_at m p ≡ s → length s ≡ 256
    → set m (256 * p + i) x ≡ put_at m (256 * p) (set s i x)
set_in_page m p i x s there l e long =
    ext_get_or 0 (set m (256 * p + i) x) (put_at m (256 * p) (set s i x))
    (length-set m (256 * p + i) x ∙ sym (put_length m p (set s i x) there (length-set s i x ∙ long)))
    (λ k h. go k (ℕ_discrete k (256 * p + i)) (dec_lt k (256 * p)) (dec_lt k (256 * p + 256)))
  where
    outside : (k : ℕ) → (k ≡ 256 * p + i → ⊥) → (k < 256 * p) ⊎ (256 * p + 256 ≤ k)
        → get_or (set m (256 * p + i) x) k 0 ≡ get_or (put_at m (256 * p) (set s i x)) k 0
    outside k n o = get_or-set_other m (256 * p + i) k x 0 n ∙ sym (put_outside m p (set s i x) there (length-set s i x ∙ long) k o)

    inside : (j : ℕ) → j < 256 → (j ≡ i → ⊥)
        → get_or (set m (256 * p + i) x) (256 * p + j) 0 ≡ get_or (put_at m (256 * p) (set s i x)) (256 * p + j) 0
    inside j b n =
        get_or-set_other m (256 * p + i) (256 * p + j) x 0 (λ z. n (omega arith)) ∙ sym (get_page m p j there b)
        ∙ ap (λ (t : List ℕ). get_or t j 0) e
        ∙ sym (get_or-set_other s i j x 0 n) ∙ sym (put_inside m p (set s i x) there (length-set s i x ∙ long) j b)

    go : (k : ℕ) → Dec (k ≡ 256 * p + i) → Dec (k < 256 * p) → Dec (k < 256 * p + 256)
        → get_or (set m (256 * p + i) x) k 0 ≡ get_or (put_at m (256 * p) (set s i x)) k 0
    go k (yes q) a b =
        rw q (get_or-set_same m (256 * p + i) x 0 (omega arith) ∙ sym (get_or-set_same s i x 0 (omega (arith, long)))
        ∙ sym (put_inside m p (set s i x) there (length-set s i x ∙ long) i l))
    go k (no q) (yes a) b = outside k q (inl a)
    go k (no q) (no a) (no b) = outside k q (inr (omega arith))
    go k (no q) (no a) (yes b) =
        let z : 256 * p + (k - 256 * p) ≡ k = omega arith in
        rw z at (inside (k - 256 * p) (omega arith) (λ n. q (omega arith)))

-- byte i of a whole page p fades to x
fades : (v : List View) (p i x : ℕ) (pg : Page) (answer : Answer LogAndSettings) → Medium v → p < 64 → i < 256 → x < 256
    → seen v p ≡ whole pg → length pg.entries ≤ 24
    → turned_up (encode pg) i x ≡ true → shown_of (set v p (view_of (set (encode pg) i x))) ≡ answer → FadedGives p i x v answer
unfolding turned_up
fades v p i x pg answer M in_medium in-page small e few up gives_so =
    record {
      medium = M.medium;
      pages = M.pages;
      faded = byte_fades M.medium (256 * p + i) x M.bytes small turned;
      shows = ap shown_of seen_so ∙ gives_so;
    }
  where
    there : 256 * p + 256 ≤ length M.medium
    there = omega (arith, M.long)

    page_so : page_at M.medium p ≡ encode pg
    page_so = M.encoded p pg e

    turned : turned_up M.medium (256 * p + i) x ≡ true
    turned =
        let q : get_or M.medium (256 * p + i) 0 ≡ get_or (encode pg) i 0 = sym (get_page M.medium p i there in-page)
        ∙ ap (λ (t : List ℕ). get_or t i 0) page_so in
        rw q up

    long : length (set (encode pg) i x) ≡ 256
    long = length-set (encode pg) i x ∙ length_encode pg few

    seen_so : views (set M.medium (256 * p + i) x) ≡ set v p (view_of (set (encode pg) i x))
    seen_so =
        ap views (set_in_page M.medium p i x (encode pg) there in-page page_so (length_encode pg few))
        ∙ put_views M.medium p (set (encode pg) i x) there long
        ∙ ap (λ (w : List View). set w p (view_of (set (encode pg) i x))) M.pages

-- ---- the examples

-- the fields of a page have room for these
narrow_page : (kind flags serial : ℕ) (es : List Entry) → kind < 256 → flags < 256 → serial < 2 ^ 64 → length es ≤ 24
    → Below 65536 (keys_of es) → Below (2 ^ 64) (words_of es)
    → Narrow (page kind flags serial es)
narrow_page kind flags serial es a b c d ks ws =
    record { kind = a; flags = b; count = d; serial = c; marks = omega arith; keys = ks; words = ws; tidy = refl }

-- the pages that the journal writes
abbrev format_page : Page
format_page = page 2 3 1 []

abbrev first_page : Page
first_page = page 1 3 2 (cell 5 1000 ∷ cell 7 20 ∷ [])

abbrev second_page : Page
second_page = page 1 3 3 (cell 32773 0 ∷ [])

abbrev commit_page : Page
commit_page = page 2 3 4 (cell 7 25 ∷ [])

abbrev flush_page : Page
flush_page = groups_page 5 ((cell 8 30 ∷ []) ∷ (cell 7 40 ∷ []) ∷ [])

-- the medium after each of them
after_format : Medium (written 1)
unfolding keys_of words_of
after_format = more (replicate 64 clean) 0 format_page (omega arith)
    (narrow_page 2 3 1 [] (omega arith) (omega arith) (omega arith) (omega arith) (below_nil (omega arith))
    (below_nil (omega arith))) unwritten

after_first : Medium (written 2)
unfolding keys_of words_of
after_first =
    more (written 1) 1 first_page (omega arith)
    (narrow_page 1 3 2 (cell 5 1000 ∷ cell 7 20 ∷ []) (omega arith) (omega arith) (omega arith) (omega arith)
    (below_cons (omega arith) (below_cons (omega arith) (below_nil (omega arith))))
    (below_cons (omega arith) (below_cons (omega arith) (below_nil (omega arith))))) after_format

after_second : Medium (written 3)
unfolding keys_of words_of
after_second =
    more (written 2) 2 second_page (omega arith)
    (narrow_page 1 3 3 (cell 32773 0 ∷ []) (omega arith) (omega arith) (omega arith) (omega arith)
    (below_cons (omega arith) (below_nil (omega arith))) (below_cons (omega arith) (below_nil (omega arith)))) after_first

after_commit : Medium (written 4)
unfolding keys_of words_of
after_commit =
    more (written 3) 3 commit_page (omega arith)
    (narrow_page 2 3 4 (cell 7 25 ∷ []) (omega arith) (omega arith) (omega arith) (omega arith)
    (below_cons (omega arith) (below_nil (omega arith))) (below_cons (omega arith) (below_nil (omega arith)))) after_second

narrow_flush : Narrow flush_page
unfolding groups_page changes_of ends_of all_ends bits_from keys_of words_of one_if
narrow_flush =
    record {
      kind = omega arith;
      flags = omega arith;
      count = omega arith;
      serial = omega arith;
      marks = omega arith;
      keys = below_cons (omega arith) (below_cons (omega arith) (below_nil (omega arith)));
      words = below_cons (omega arith) (below_cons (omega arith) (below_nil (omega arith)));
      tidy = refl;
    }

after_flush_lem : Medium (written 5)
after_flush_lem = more (written 4) 4 flush_page (omega arith) narrow_flush after_commit

pub faded_examples : FadedExamples
unfolding
    fields laid zero_count with_check encode check used entry_at tidy decode whole_bytes clean_bytes view_of zero_bits zeros le bytes_of packed put_at blank all_ones keys_of words_of
    count_below table all every keep is_some value_or under and_then begins ends changes_of may_carry least_count entry_ok serial_ok mark_ok last_marked marks_ok ruled
    lawful group_if divided groups_in ends_of all_ends bits_from groups_page bit seen put remove assign entering size_ok sets_valves entry_in node_in
    word_for word_at sound words above stack wholes all_lawful other_serial distinct insert sort starts_group goes_on base_of reaches from
    consecutive joined begun continues enter walk groups_of entries_of groups_on_pages enters_log log_of_group log_of pages_of enter_one enter_all
    enter_page enter_pages base chain groups replayed recovered_state recover all_below one_if turned_up
faded_examples =
    record {
      formatted = refl;
      first = refl;
      second = refl;
      committed = refl;
      flushed = refl;
      newest_gone = fades _ _ _ _ second_page _ after_second (omega arith) (omega arith) (omega arith) refl (omega arith) refl refl;
      check_gone = fades _ _ _ _ second_page _ after_second (omega arith) (omega arith) (omega arith) refl (omega arith) refl refl;
      flags_gone = fades _ _ _ _ second_page _ after_second (omega arith) (omega arith) (omega arith) refl (omega arith) refl refl;
      flush_gone = fades _ _ _ _ flush_page _ after_flush_lem (omega arith) (omega arith) (omega arith) refl (omega arith) refl refl;
      older_base = fades _ _ _ _ commit_page _ after_commit (omega arith) (omega arith) (omega arith) refl (omega arith) refl refl;
      gap = fades _ _ _ _ first_page _ after_second (omega arith) (omega arith) (omega arith) refl (omega arith) refl refl;
      base_gone = fades _ _ _ _ commit_page _ after_flush_lem (omega arith) (omega arith) (omega arith) refl (omega arith) refl refl;
      no_base_lem = fades _ _ _ _ format_page _ after_second (omega arith) (omega arith) (omega arith) refl (omega arith) refl refl;
      not_needed = fades _ _ _ _ second_page _ after_flush_lem (omega arith) (omega arith) (omega arith) refl (omega arith) refl refl;
      node_gone = fades _ _ _ _ first_page _ after_commit (omega arith) (omega arith) (omega arith) refl (omega arith) refl refl;
      node_replaced = fades _ _ _ _ first_page _ after_flush_lem (omega arith) (omega arith) (omega arith) refl (omega arith) refl refl;
    }
