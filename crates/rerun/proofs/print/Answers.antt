use Rattle.std.proofs.Common.{◌≡◌, ◌+◌, length, arith}
use Rattle.text.proofs.Parts.{part_seen, prints_all, printing_end, printing_next, printing_less, printing_within, printing_bytes}
use Rattle.rerun.proofs.print.Goals as goal

pub write_part-requires : goal.write_part-requires
write_part-requires g c = part_seen _ _ _ _ c.window.ensures _ c.as_bytes-part.ensures

pub returns-then-not-write_part-clause-gave : goal.returns-then-not-write_part-clause-gave
returns-then-not-write_part-clause-gave g c =
    let i = c.loop-part.invariant in
    let w = c.write_part.ensures in
    let e = c.as_bytes-part.ensures in
    record {
      count = c.loop-part.from + w.count;
      within = printing_within _ _ _ _ i.printing _ c.window.ensures _ e _ w.within;
      bytes = printing_bytes _ _ _ _ i.printing _ c.window.ensures _ e _ w.within _ _ _ i.bytes w.bytes;
      all = λ e. cc;
    }

pub returns-then-not-is_full-clause-all : goal.returns-then-not-is_full-clause-all
returns-then-not-is_full-clause-all g c =
    prints_all _ _
    (printing_end _ _ _ _ c.loop-part.invariant.printing _ c.window.ensures _ c.as_bytes-part.ensures _ c.is_full.ensures c.if-not-is_full.true)

pub returns-then-not-is_full-clause-gave : goal.returns-then-not-is_full-clause-gave
returns-then-not-is_full-clause-gave g c =
    let i = c.loop-part.invariant in
    let s = c.window.ensures in
    let w = c.write_part.ensures in
    let e = c.as_bytes-part.ensures in
    let whole : w.count ≡ length c.as_bytes-part.result.now = w.all c.if-not-write_part.false in
    record {
      count = c.loop-part.from + w.count;
      within = printing_within _ _ _ _ i.printing _ s _ e _ w.within;
      bytes = printing_bytes _ _ _ _ i.printing _ s _ e _ w.within _ _ _ i.bytes w.bytes;
      all = λ _. rw whole (printing_end _ _ _ _ i.printing _ s _ e _ c.is_full.ensures c.if-not-is_full.true);
    }

pub loop-part-smaller : goal.loop-part-smaller
loop-part-smaller g c =
    printing_less _ _ _ _ c.loop-part.invariant.printing _ c.window.ensures _ c.as_bytes-part.ensures _ c.is_full.ensures c.if-not-is_full.false (omega arith)

pub loop-part-preserved : goal.loop-part-preserved
loop-part-preserved g c =
    let i = c.loop-part.invariant in
    let s = c.window.ensures in
    let w = c.write_part.ensures in
    let e = c.as_bytes-part.ensures in
    let whole : w.count ≡ length c.as_bytes-part.result.now = w.all c.if-not-write_part.false in
    record {
      printing = printing_next _ _ _ _ i.printing _ s _ e _ c.is_full.ensures c.if-not-is_full.false;
      bytes = rw whole at (printing_bytes _ _ _ _ i.printing _ s _ e _ w.within _ _ _ i.bytes w.bytes);
    }
