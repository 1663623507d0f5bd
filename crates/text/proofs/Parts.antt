-- Laws of the loop that prints a text part by part, in the shapes that the code's proofs ask.
use mathlib.Core.Path.{◌≡◌, refl, sym, ap, ◌∙◌}
use mathlib.Core.List.{List}
use mathlib.Core.Bool.{Bool, true, false}
use Prim.Native.Nat.{ℕ, ◌+◌, ◌-◌, ◌≤◌, ◌<◌}
use native.Mathlib.Omega.{arith}
use native.Mathlib.Decide.{dec_le}
use mir.Val.{Fits}
use mir.Syntax.{w64}
use lib.ListN.{length, take, drop}
use lib.Seq.{length-take-le, take_all, take-add, take-take}
use borrow.Author.Tests.{eqb-true, eqb-false}
use Rattle.std.specs.Prelude.{◌==◌, Some, None}
use Rattle.std.proofs.KnownBytes.{Appends-trans}
use Rattle.std.specs.Io.KnownBytes.{Appends}
use Rattle.std.specs.declared.option.Option.{Option}
use Rattle.std.specs.Borrow.{GName}
use Rattle.text.specs.Filled.{Filled, starting}
use Rattle.text.specs.Text.{PutsBehind}
use Rattle.text.specs.Window.{window}
use Rattle.text.specs.Parts.{most_printed, SeesIn, PartAt, PrintsAll}
use Rattle.text.proofs.Seen.{length_window, puts_window}

-- a window is as long as it is
window_itself : (from size : ℕ) (text : List ℕ) → window from (length (window from size text)) text ≡ window from size text
unfolding window
window_itself from size text = go (dec_le size (length (drop from text)))
  where
    go : Dec (size ≤ length (drop from text)) → window from (length (window from size text)) text ≡ window from size text
    go (yes h) = ap (λ (k : ℕ). take k (drop from text)) (length-take-le size (drop from text) h)
    go (no h) =
        let l : length (drop from text) ≤ size = omega arith in
        let e = take_all size (drop from text) l in
        ap (λ (k : ℕ). take k (drop from text)) (ap length e)
        ∙ take_all (length (drop from text)) (drop from text) (omega arith)
        ∙ sym e

-- the first bytes of a window are those of the text from there on
of_window : (from size n : ℕ) (text : List ℕ) → n ≤ size → take n (window from size text) ≡ take n (drop from text)
unfolding window
of_window from size n text h = take-take n size (drop from text) h

-- a window on a whole text that is not too long
pub sees_put : {list : GName} {room from : ℕ} {text : List ℕ} {old t : Filled} → old.list ≡ list → old.room ≡ room
    → length text ≤ most_printed → PutsBehind (starting list room from) text t → SeesIn text from old t
sees_put {room = room} {from = from} {text = text} {t = t} f e few p =
    let h : t.text ≡ window from room text = puts_window p in
    let g : t.text ≡ window from t.room text = h ∙ ap (λ (k : ℕ). window from k text) (sym p.room) in
    record { list = p.list ∙ sym f; room = p.room ∙ sym e; is = g; low = omega (arith, ap length h, length_window from room text) }

pub part_seen : (text : List ℕ) (from : ℕ) (old w : Filled) → SeesIn text from old w → (part : List ℕ) → part ≡ w.text → PartAt text from part
part_seen text from old w s part q =
    let e = s.is in
    rw q (record { is = e ∙ sym (window_itself from w.room text) ∙ ap (λ (j : ℕ). window from j text) (ap length (sym e)) })

-- all of a text was printed
pub prints_all : (text : List ℕ) (n : ℕ) → n ≡ length text → PrintsAll text (Some n)
prints_all text n e = record { all = λ k h. sym (some_inj h) ∙ e }
  where
    value : Option ℕ → ℕ
    value None = 0
    value (Some k) = k

    some_inj : {k : ℕ} → Some n ≡ Some k → n ≡ k
    some_inj h = ap value h

-- so many bytes of a text were printed
pub record Printing (text : List ℕ) (start old : Filled) (from : ℕ) : Type 0 where
  pub far : from ≤ length text
  pub low : from ≤ most_printed
  pub room : old.room ≡ start.room

pub printing_start : (text : List ℕ) (start : Filled) → Printing text start start 0
printing_start text start = record { far = omega arith; low = omega arith; room = refl }

module _ (text : List ℕ) (start old : Filled) (from : ℕ) (P : Printing text start old from) (w : Filled) (s : SeesIn text from old w)
    (part : List ℕ) (q : part ≡ w.text) where
  long : length part ≡ length (window from w.room text)
  long = ap length (q ∙ s.is)

  pub printing_fits : Fits w64 (from + length part)
  printing_fits = let l = P.low in let h = s.low in omega (arith, ap length q)

  -- so many bytes of the part were written behind those of the text before it
  module _ (n : ℕ) (few : n ≤ length part) where
    pub printing_within : from + n ≤ length text
    printing_within =
        let f = P.far in
        omega (arith, long, length_window from w.room text)

    pub printing_bytes : (a b c : Option (List ℕ)) → Appends a b (take from text) → Appends b c (take n part)
        → Appends a c (take (from + n) text)
    printing_bytes a b c x y =
        let l : n ≤ w.room = omega (arith, long, length_window from w.room text) in
        rw (take-add from n text) (Appends-trans a b c _ _ x (rw (q, s.is, of_window from w.room n text l) at y))

  module _ (full : Bool) (e : full ≡ (length w.text == w.room)) where
    short : full ≡ false → length w.text ≡ w.room → ⊥
    short f g = let h = eqb-false (length w.text) w.room (sym e ∙ f) in h g

    same : full ≡ true → length part ≡ w.room
    same f = let h = eqb-true (length w.text) w.room (sym e ∙ f) in omega (arith, ap length q)

    pub printing_end : full ≡ false → from + length part ≡ length text
    printing_end f =
        let g = P.far in
        omega (arith, long, length_window from w.room text, ap length q, short f)

    module _ (f : full ≡ true) where
      pub printing_next : Printing text start w (from + length part)
      printing_next =
          let g = P.far in
          let l = P.low in
          let h = s.low in
          record {
            far = omega (arith, long, length_window from w.room text);
            low = omega (arith, same f, ap length q);
            room = s.room ∙ P.room;
          }

      pub printing_less : 0 < start.room → length text - (from + length part) < length text - from
      printing_less o =
          let g = P.far in
          let e : w.room ≡ start.room = s.room ∙ P.room in
          omega (arith, long, length_window from w.room text, same f)
