-- Laws of a text seen through a window, in the shapes that the code's proofs ask.
use mathlib.Core.Path.{◌≡◌, sym, ap, ◌∙◌}
use mathlib.Core.List.{List, ◌++◌}
use Prim.Native.Nat.{ℕ, ◌-◌, ◌≤◌, min}
use native.Mathlib.Omega.{arith}
use lib.ListN.{length, take, drop, length-take, length-drop}
use lib.Seq.{take-append-le}
use Rattle.std.specs.Borrow.{GName}
use Rattle.text.specs.Filled.{Filled, starting}
use Rattle.text.specs.Text.{PutsBehind}
use Rattle.text.specs.Window.{window}
use Rattle.text.proofs.Laws.{drop_append}

pub length_window : (from size : ℕ) (text : List ℕ) → length (window from size text) ≡ min size (length text - from)
unfolding window
length_window from size text = length-take size (drop from text) ∙ ap (min size) (length-drop from text)

-- a full window holds what it holds of any longer text
window_full : (from size : ℕ) (told rest : List ℕ) → size ≤ length (window from size told)
    → window from size (told ++ rest) ≡ window from size told
unfolding window
window_full from size told rest h =
    let l : size ≤ length (drop from told) = omega (arith, length-take size (drop from told)) in
    ap (take size) (drop_append from told rest) ∙ take-append-le size (drop from told) (drop (from - length told) rest) l

module _ {list : GName} {room from : ℕ} {text : List ℕ} {t : Filled} (p : PutsBehind (starting list room from) text t) where
  -- the whole text handed over
  pub puts_window : t.text ≡ window from room text
  unfolding window
  puts_window =
      let z : room - 0 ≡ room = omega arith in
      p.so ∙ ap (λ (k : ℕ). take k (drop from text)) z

  -- a first part of it that fills the window
  pub puts_full : room ≤ length t.text → (rest : List ℕ) → t.text ≡ window from room (text ++ rest)
  puts_full f rest =
      let g : room ≤ length (window from room text) = omega (arith, ap length puts_window) in
      puts_window ∙ sym (window_full from room text rest g)
