-- The claims about the text.
use mathlib.Core.Path.{◌≡◌, refl, ap}
use Prim.Native.Nat.{◌≤◌, ◌<◌}
use native.Mathlib.Omega.{arith}
use native.Mathlib.Decide.{dec_le}
use lib.ListN.{length, take, length-take}
use lib.Seq.{take_all}
use borrow.Author.Tests.{lt-ltb}
use Rattle.lists.specs.Lists.{all, every, all_below, table}
use Rattle.lists.specs.Needs.{under}
use Rattle.text.specs.Text.{ascii, decimal_within, decimal}
use Rattle.bits.specs.Bits.{zero_bits, zeros}
use Rattle.codec.specs.Codec.{le, blank, all_ones}
use Rattle.page.specs.Rules.{may_carry, least_count, entry_ok, marks_ok, serial_ok, ruled, lawful}
use Rattle.page.specs.Layout.{zero_count, check, used, entry_at, tidy, decode, whole_bytes, clean_bytes}
use Rattle.flash.specs.Medium.{page_at}
use Rattle.blocks.specs.Blocks.{size_ok}
use Rattle.recovery.specs.Recovery.{recover}
use Rattle.listing.specs.Listing.{refusal_line}
use Rattle.page_text.specs.PageText.{kind_name, flags_name, field_text, kind_text, flags_text, fields_text, rules_text, class_text}
use Rattle.page_text.specs.PageText.{entry_line, entry_lines, page_text, clean_line, lines_from, end_text, pages_text}
use Rattle.page_text.specs.Claims.{example_page, ExampleText, ReadsEnough}

pub example_text : ExampleText
unfolding
    all every all_below table under ascii decimal_within decimal zero_bits zeros le blank all_ones may_carry least_count entry_ok marks_ok serial_ok
    ruled lawful zero_count check used entry_at tidy decode whole_bytes clean_bytes page_at size_ok recover refusal_line kind_name flags_name
    field_text kind_text flags_text fields_text rules_text class_text entry_line entry_lines page_text clean_line lines_from end_text pages_text
    example_page ExampleText
example_text = refl

pub reads_enough : ReadsEnough
unfolding ReadsEnough pages_text
reads_enough m = go (dec_le (length m) 1048576)
  where
    go : Dec (length m ≤ 1048576) → pages_text (take 1048577 m) ≡ pages_text m
    go (yes h) = ap pages_text (take_all 1048577 m (omega arith))
    go (no h) =
        let a : 1048576 < length (take 1048577 m) = omega (arith, length-take 1048577 m) in
        let b : 1048576 < length m = omega arith in
        rw (lt-ltb 1048576 (length m) b, lt-ltb 1048576 (length (take 1048577 m)) a)
