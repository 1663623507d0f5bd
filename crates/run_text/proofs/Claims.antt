-- The claim about how much of its input the program reads.
use mathlib.Core.Path.{◌≡◌, ap}
use mathlib.Core.Bool.{false}
use mathlib.Core.List.{List}
use Prim.Native.Nat.{ℕ, ◌≤◌, ◌<◌}
use native.Mathlib.Omega.{arith}
use native.Mathlib.Decide.{dec_le}
use lib.ListN.{length, take, length-take}
use lib.Seq.{take_all}
use borrow.Author.Tests.{lt-leb}
use Rattle.lists.specs.Lists.{every}
use Rattle.trace.specs.Trace.{has_lists, well_formed}
use Rattle.player.specs.Run.{lines_of}
use Rattle.run_text.specs.RunText.{run_text, ReadsEnough}

too_long : (t : List ℕ) → 65536 < length t → well_formed t ≡ false
unfolding well_formed has_lists every
too_long t h = rw (lt-leb (length t) 65536 h)

pub reads_enough : ReadsEnough
unfolding ReadsEnough run_text lines_of
reads_enough t = go (dec_le (length t) 65536)
  where
    go : Dec (length t ≤ 65536) → run_text (take 65537 t) ≡ run_text t
    go (yes h) = ap run_text (take_all 65537 t (omega arith))
    go (no h) =
        let a : 65536 < length (take 65537 t) = omega (arith, length-take 65537 t) in
        let b : 65536 < length t = omega arith in
        rw (too_long t b, too_long (take 65537 t) a)
