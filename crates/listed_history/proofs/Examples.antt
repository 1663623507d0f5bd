-- The examples by computation over pages: the table's journals tell the worlds.
use mathlib.Core.Path.{◌≡◌, refl, sym, ap, ◌∙◌}
use mathlib.Core.Bool.{true, false}
use Rattle.std.proofs.Common.{Some}
use mathlib.Core.List.{List, [], ◌∷◌}
use Prim.Native.Nat.{ℕ, suc, ◌/◌, ◌*◌, ◌+◌, ◌^◌, ◌<◌}
use native.Mathlib.Omega.{arith}
use lib.Dec.{ltb}
use lib.ListN.{length, replicate, length-replicate, get_or-replicate}
use Rattle.lists.specs.Lists.{all, every, keep, is_some, value_or, all_below, one_if, count_below, table}
use Rattle.lists.specs.Needs.{under}
use Rattle.lists.specs.Cells.{keys_of, words_of}
use Rattle.bits.specs.Bits.{bit, zero_bits, zeros}
use Rattle.codec.specs.Codec.{le, bytes_of, packed, put_at, blank, all_ones}
use Rattle.page.specs.Pages.{begins, ends, is_clean, is_spoilt, is_whole, pages_for, changes_of}
use Rattle.page.specs.Rules.{may_carry, least_count, entry_ok, serial_ok, mark_ok, last_marked, marks_ok, ruled, lawful}
use Rattle.page.specs.Layout.{fields, laid, zero_count, with_check, encode, check, used, entry_at, tidy, decode, whole_bytes}
use Rattle.page.specs.Layout.{clean_bytes, view_of}
use Rattle.page.specs.Buffer.{group_if, divided, groups_in, ends_of, all_ends, bits_from, groups_page, in_making, gathered}
use Rattle.flash.specs.Medium.{seen, wholly_clean}
use Rattle.index.specs.Index.{put, remove, rising_from, rising, assign, assign_all, within, entering, entry_allowed, entries_allowed}
use Rattle.blocks.specs.Blocks.{size_ok, spare, available, wrap, first_clean, new_head, page_due}
use Rattle.nodes.specs.Nodes.{sets_valves, entry_in, node_in, word_for, word_at, sound, words}
use Rattle.state.specs.State.{none_erased, was_erased, now_erased, head_fit, place_fit, index_fit, group_ok, base_pages, done_fit}
use Rattle.state.specs.State.{format_fit, pending_fit, fit, is_idle}
use Rattle.state.specs.State.{flush_ok, groups_fit, buffer_fit, fit_with, buffered_in}
use Rattle.recovery.specs.Recovery.{entries_of}
use Rattle.recovery.specs.Recovery.{above, stack, wholes, all_lawful, other_serial, distinct, insert, sort, last_of, starts_group}
use Rattle.recovery.specs.Recovery.{base_of, reaches, from, consecutive, joined, begun}
use Rattle.recovery.specs.Recovery.{enter, walk, groups_of, log_of, pages_of, enter_one, enter_all, enter_page, enter_pages, base}
use Rattle.recovery.specs.Recovery.{chain, groups, replayed, recovered_state, recover, groups_on_pages, enters_log, log_of_group}
use Rattle.calls.specs.Calls.{zip, lists_ok, room_for, serials_for, append_of, formatting, format_of, holds_none, places_for, flush_of, buffer_of}
use Rattle.step.specs.Step.{is_last, flags_of, group_page, head_after, addressed_from, addressed, appended, formatted, erasing}
use Rattle.step.specs.Step.{programming, append_step, format_step, flushed, flush_step, due, programs_due, needs_erase, erased_first}
use Rattle.step.specs.Step.{step_of, buffer_after}
use Rattle.page.specs.Pages.{View, clean}
use Rattle.page.specs.Buffer
use Rattle.flash.specs.Medium.{views}
use Rattle.flash.proofs.Steps.{views_alike}
use Rattle.state.specs.State.{Held}
use Rattle.lists.specs.Lists.{Below, Bytes}
use Rattle.lists.specs.Needs.{gives}
use Rattle.lists.specs.Cells.{Entry}
use Rattle.lists.proofs.Laws.{below_nil, below_cons, same_given}
use Rattle.text.specs.Text.{ascii, decimal_within, decimal}
use Rattle.listing.specs.Listing.{refusal_line, log_line, set_line, setting_line, removal_line, change_line, group_lines, change_lines}
use Rattle.listing.specs.Listing.{setting_lines, log_text, settings_text, answer_text, listing}
use Rattle.valve_log.specs.History.{History, tell, start as no_history}
use Rattle.valve_log.specs.Reached.{World, world, fresh, lent_anew, Event, happen, Reached}
use Rattle.valve_log.specs.Finished.{steps_on, Finished, FormattingFinishes, FormattedAlike}
use Rattle.valve_log.proofs.Finished.{formatting_finishes, formatted_alike}
use Rattle.test_pages.specs.Table.{Journal, steps}
use Rattle.test_pages.specs.Table
use Rattle.test_pages.specs.Tied.{Tells, GoesWith, Tied}
use Rattle.test_pages.proofs.Tied.{unformatted, unerased, long, zero_bytes, formatted_tells, shown}
use Rattle.listed_history.specs.Examples.{Sized, AllSized, after_append, after_buffer, two_set, one_removed, one_set}
use Rattle.listed_history.specs.Examples.{set_and_removed, zero_and_removed, PrintedAfterFormat, PrintedUnformatted}

-- ---- the groups

two_small : (k x y : ℕ) → x < k → y < k → Below k (x ∷ y ∷ [])
two_small k x y h l = below_cons h (below_cons l (below_nil (omega arith)))

one_small : (k x : ℕ) → x < k → Below k (x ∷ [])
one_small k x h = below_cons h (below_nil (omega arith))

pub all_sized : AllSized
unfolding keys_of words_of
all_sized =
    record {
      two_set_lem = record {
        keys = two_small (2 ^ 16) 5 7 (omega arith) (omega arith);
        words = two_small (2 ^ 64) 1000 20 (omega arith) (omega arith);
      };
      one_removed_lem = record { keys = one_small (2 ^ 16) 32773 (omega arith); words = one_small (2 ^ 64) 0 (omega arith) };
      one_set_lem = record { keys = one_small (2 ^ 16) 5 (omega arith); words = one_small (2 ^ 64) 1000 (omega arith) };
      set_and_removed_lem = record {
        keys = two_small (2 ^ 16) 7 32773 (omega arith) (omega arith);
        words = two_small (2 ^ 64) 20 0 (omega arith) (omega arith);
      };
      zero_and_removed_lem = record {
        keys = two_small (2 ^ 16) 5 32768 (omega arith) (omega arith);
        words = two_small (2 ^ 64) 0 0 (omega arith) (omega arith);
      };
    }

-- ---- a journal goes with its world

goes : (w : World) (h : History) (j : Journal) → Reached w h → Tells w j → GoesWith w j
unfolding Tied
goes w h j R T = shown.goes w h j R T

-- a world reached, with the journal that tells it
record Going (w : World) (j : Journal) : Type 0 where
  pub history : History
  pub reached : Reached w history
  pub tells : Tells w j

module _ (w : World) (j : Journal) (g : Going w j) where
  on : (e : Event w) (j' : Journal) → Tells (happen w e).after j' → Going (happen w e).after j'
  on e j' t = record { history = tell g.history (happen w e).told; reached = Reached.next w g.history e g.reached; tells = t }

  all_go : GoesWith w j
  all_go = goes w g.history j g.reached g.tells

  step_on : Going (happen w Event.step).after (Table.stepped j (Table.step_due j))
  step_on = on Event.step _ all_go.step

  begin_on : (es : List Entry) (s : Sized es)
      → Going (happen w (Event.append (keys_of es) (words_of es) s.keys s.words)).after (Table.begin j es)
  begin_on es s = on (Event.append (keys_of es) (words_of es) s.keys s.words) _ (all_go.append es s.keys s.words)

  buffer_on : (es : List Entry) (s : Sized es) → Going (after_buffer w es s) (Table.buffered j es)
  buffer_on es s = on (Event.buffer (keys_of es) (words_of es) s.keys s.words) _ (all_go.buffering es s.keys s.words)

  flush_on : Going (happen w Event.flush).after (Table.begin_flush j)
  flush_on = on Event.flush _ all_go.flush

abbrev step_once : Journal → Journal
step_once j = Table.stepped j (Table.step_due j)

append_on : (w : World) (j : Journal) → Going w j → (es : List Entry) (s : Sized es)
    → Going (after_append w es s) (step_once (Table.begin j es))
append_on w j g es s = step_on _ _ (begin_on w j g es s)

-- ---- the listing by the journal's pages

abbrev text_of : Journal → List ℕ
text_of j = answer_text j.pages (recover (Table.size j) j.pages)

by_pages : (w : World) (j : Journal) → Going w j → ltb 65536 (Table.size j) ≡ false → listing w.medium ≡ text_of j
unfolding listing
by_pages w j g e = rw (g.tells.long, g.tells.pages, e)

-- ---- where the calls start

finishes_there : (m : List ℕ) → Bytes m → size_ok (length m) ≡ true → Finished m
unfolding FormattingFinishes
finishes_there m b e = formatting_finishes m b e

module _ (m : List ℕ) (b : Bytes m) (l : length m ≡ 16384) (s : Held) (f : format_of (length m) ≡ gives s) where
  same_length : length m ≡ length unformatted
  same_length = l ∙ sym long

  four : length unformatted / 4096 ≡ 4
  four = ap (λ (n : ℕ). n / 4096) long

  begun_alike : format_of (length unformatted) ≡ gives s
  begun_alike = ap format_of (sym same_length) ∙ f

  state_is : s ≡ formatting 4
  unfolding format_of size_ok every under
  state_is = same_given (sym (ap format_of (sym l) ∙ f))

  size_ok_lem : size_ok (length unformatted) ≡ true
  unfolding size_ok every
  size_ok_lem = ap size_ok long

  world_is : steps_on 5 (world m (Some s) fresh) ≡ steps_on 5 unerased
  unfolding FormattedAlike
  world_is =
      ap (λ (n : ℕ). steps_on (suc n) (world m (Some s) fresh)) (sym four)
      ∙ formatted_alike unformatted m (zero_bytes 16384) b size_ok_lem same_length s begun_alike
      ∙ ap (λ (n : ℕ). steps_on (suc n) (world unformatted (Some s) fresh)) four
      ∙ ap (λ (x : Held). steps_on 5 (world unformatted (Some x) fresh)) state_is

  formatted_reached : Reached (lent_anew (steps_on 5 (world m (Some s) fresh))) no_history
  formatted_reached =
      let F = finishes_there m b (ap size_ok same_length ∙ size_ok_lem) in
      let e : F.state ≡ s = same_given (sym F.begun ∙ f) in
      let n : length m / 4096 ≡ 4 = ap (λ (n : ℕ). n / 4096) l in
      rw (e, n) at F.reached

  going : Going (lent_anew (steps_on 5 (world m (Some s) fresh))) Table.fresh
  going = record { history = no_history; reached = formatted_reached; tells = rw world_is formatted_tells }

-- ---- the texts

-- a journal of at most 65536 bytes, and the text of it
record Text (j : Journal) (t : List ℕ) : Type 0 where
  pub few : ltb 65536 (Table.size j) ≡ false
  pub is : text_of j ≡ t

prints : (w : World) (j : Journal) (t : List ℕ) → Going w j → Text j t → listing w.medium ≡ t
prints w j t g x = by_pages w j g x.few ∙ x.is

-- of each example
record Texts : Type 0 where
  pub none : Text Table.fresh (ascii "log 0\nset 0\n")
  pub sample : Text (step_once (Table.begin (step_once (Table.begin Table.fresh two_set)) one_removed))
      (ascii "log 3\n0 5 1000\n0 7 20\n1 5 -\nset 1\n7 20\n")
  pub of_zero : Text (step_once (Table.begin Table.fresh zero_and_removed)) (ascii "log 2\n0 5 0\n0 0 -\nset 1\n5 0\n")
  pub small : Text (step_once (Table.begin_flush (Table.buffered (Table.buffered Table.fresh one_set) set_and_removed)))
      (ascii "log 3\n0 5 1000\n1 7 20\n1 5 -\nset 1\n7 20\n")

texts : Texts
unfolding
    all every keep is_some value_or all_below one_if count_below table under keys_of words_of zero_bits zeros le bytes_of packed put_at
    blank all_ones begins ends is_clean is_spoilt is_whole pages_for may_carry least_count entry_ok serial_ok lawful fields laid
    zero_count with_check encode check whole_bytes clean_bytes view_of seen wholly_clean put remove rising_from rising assign
    assign_all within entry_allowed entering entries_allowed size_ok spare available wrap first_clean new_head page_due sets_valves
    entry_in node_in word_for word_at sound words head_fit place_fit index_fit group_ok base_pages done_fit format_fit pending_fit fit
    is_idle wholes all_lawful other_serial distinct insert sort last_of above stack starts_group base_of reaches from consecutive
    joined begun enter walk groups_of entries_of log_of pages_of enter_one enter_all enter_page enter_pages base chain groups replayed
    recovered_state recover zip lists_ok room_for serials_for append_of formatting format_of is_last flags_of group_page head_after
    addressed_from addressed appended formatted programming append_step format_step due step_of none_erased was_erased now_erased
    erasing programs_due needs_erase erased_first bit mark_ok last_marked marks_ok ruled changes_of used entry_at tidy decode group_if
    divided groups_in ends_of all_ends bits_from groups_page in_making gathered Buffer.holding flush_ok groups_fit buffer_fit fit_with
    buffered_in groups_on_pages enters_log log_of_group holds_none places_for flush_of buffer_of flushed flush_step buffer_after ascii
    decimal_within decimal refusal_line log_line set_line setting_line removal_line change_line group_lines change_lines setting_lines
    log_text settings_text answer_text steps
texts =
    record {
      none = record { few = refl; is = refl };
      sample = record { few = refl; is = refl };
      of_zero = record { few = refl; is = refl };
      small = record { few = refl; is = refl };
    }

pub printed_after_format : PrintedAfterFormat
unfolding PrintedAfterFormat
printed_after_format m b l s f =
    let g = going m b l s f in
    record {
      none = prints _ _ _ g texts.none;
      sample = λ a c. prints _ _ _ (append_on _ _ (append_on _ _ g two_set a) one_removed c) texts.sample;
      of_zero = λ a. prints _ _ _ (append_on _ _ g zero_and_removed a) texts.of_zero;
      small = λ a c.
          prints _ _ _ (step_on _ _ (flush_on _ _ (buffer_on _ _ (buffer_on _ _ g one_set a) set_and_removed c))) texts.small;
    }

-- ---- no base

all_clean : views (replicate 16384 255) ≡ replicate 64 clean
all_clean =
    views_alike (replicate 16384 255) (replicate 256 255) (length-replicate {A = ℕ} 256 255)
    (λ p i there k.
    get_or-replicate {A = ℕ} 16384 (256 * p + i) 255 0 (omega (arith, length-replicate {A = ℕ} 16384 255))
    ∙ sym (get_or-replicate {A = ℕ} 256 i 255 0 k))
    ∙ ap (λ (n : ℕ). replicate (n / 256) (view_of (replicate 256 255))) (length-replicate {A = ℕ} 16384 255)
    ∙ ap (λ (x : View). replicate 64 x) clean_page
  where
    clean_page : view_of (replicate 256 255) ≡ clean
    clean_page = unfold view_of whole_bytes clean_bytes check zero_count le zeros zero_bits all_ones in refl

no_base_lem : answer_text (replicate 64 clean) (recover 16384 (replicate 64 clean)) ≡ ascii "refused 4\n"
unfolding
    answer_text recover under size_ok every wholes all_lawful all distinct sort is_some base_of refusal_line ascii decimal decimal_within
no_base_lem = refl

pub printed_unformatted : PrintedUnformatted
unfolding PrintedUnformatted listing
printed_unformatted =
    let l : length {A = ℕ} (replicate 16384 255) ≡ 16384 = length-replicate {A = ℕ} 16384 255 in
    rw (l, all_clean) no_base_lem
