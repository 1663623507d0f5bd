-- What the walk over records notes, step by step.
use mathlib.Core.Path.{◌≡◌, refl, sym, ap, ◌∙◌}
use mathlib.Core.Bool.{Bool, true, false, not, ◌&&◌}
use mathlib.Core.List.{List, ◌∷◌}
use Prim.Native.Nat.{ℕ, suc, ◌+◌, ◌≤◌, ◌<◌}
use native.Mathlib.Omega.{arith}
use lib.ListN.{length, get_or, drop, drop_of_length-le}
use lib.Seq.{drop-cons}
use lib.Dec.{leb, ltb}
use borrow.Author.Tests.{lt-leb, le-leb, not-true, not-false}
use Rattle.records.specs.declared.Record.{Record}
use Rattle.records.specs.declared.Notes.{Notes}
use Rattle.records.specs.Records.{still_rises, noted, noted_all}

pub not_rising : (b : Bool) (least v : ℕ) → not b ≡ true → false ≡ still_rises b least v
unfolding still_rises
not_rising b least v e = ap (λ (t : Bool). t && (leb least v && ltb v 32768)) (sym (not-true b e))

and_false : (b : Bool) → false ≡ b && false
and_false true = refl
and_false false = refl

pub below_least : (b : Bool) (least v : ℕ) → v < least → false ≡ still_rises b least v
unfolding still_rises
below_least b least v h = and_false b ∙ ap (λ (t : Bool). b && (t && ltb v 32768)) (sym (lt-leb _ _ h))

pub goes_on : (b : Bool) (least v : ℕ) → not b ≡ false → least ≤ v → ltb v 32768 ≡ still_rises b least v
unfolding still_rises
goes_on b least v e h = ap (λ (t : Bool). t && ltb v 32768) (sym (le-leb _ _ h)) ∙ ap (λ (t : Bool). t && (leb least v && ltb v 32768)) (sym (not-false b e))

module _ (n : Notes) (r : Record) (b : Bool) (e : b ≡ still_rises n.rises n.least r.valve) where
  pub noted_past : 192 ≤ n.count → ◌≡◌ {A = Notes} (record { rises = b; least = r.valve + 1; count = 193 }) (noted n r)
  unfolding noted
  noted_past h = rw (e, le-leb 192 n.count h)

  pub noted_at : n.count < 192 → ◌≡◌ {A = Notes} (record { rises = b; least = r.valve + 1; count = n.count + 1 }) (noted n r)
  unfolding noted
  noted_at h = rw (e, lt-leb 192 n.count h)

-- the walk: start, next, end
pub all_next : (ys : List Record) (i : ℕ) (d : Record) (n q : Notes) {x : Notes} → i < length ys → q ≡ noted n (get_or ys i d) → noted_all n (drop i ys) ≡ x → noted_all q (drop (i + 1) ys) ≡ x
unfolding noted_all
all_next ys i d n q h e so =
    let step : drop i ys ≡ get_or ys i d ∷ drop (suc i) ys = drop-cons ys i d h
    in let one : suc i ≡ i + 1 = omega arith
    in ap (λ (k : ℕ). noted_all q (drop k ys)) (sym one) ∙ ap (λ (m : Notes). noted_all m (drop (suc i) ys)) e ∙ sym (ap (noted_all n) step) ∙ so

pub all_end : (ys : List Record) (i : ℕ) (n : Notes) {x : Notes} → length ys ≤ i → noted_all n (drop i ys) ≡ x → n ≡ x
unfolding noted_all
all_end ys i n h so = sym (ap (noted_all n) (drop_of_length-le ys h)) ∙ so
