-- What the notes of a whole list stand for: whether its valves rise, how many records it has, and whether there are more than 192.
use mathlib.Core.Path.{◌≡◌, refl, ap, ◌∙◌}
use mathlib.Core.Bool.{Bool, true, false, ◌&&◌}
use mathlib.Core.List.{List, [], ◌∷◌}
use Prim.Native.Nat.{ℕ, suc, ◌+◌, ◌≤◌, ◌<◌}
use native.Mathlib.Omega.{arith}
use lib.ListN.{length}
use lib.Dec.{leb, ltb}
use borrow.Author.Tests.{lt-leb, leb-false}
use Rattle.lists.specs.declared.Cell.{Cell}
use Rattle.lists.specs.Lists.{all}
use Rattle.lists.proofs.Laws.{by_cases}
use Rattle.index.specs.Index.{rising_from, rising}
use Rattle.records.specs.declared.Record.{Record}
use Rattle.records.specs.declared.Notes.{Notes}
use Rattle.records.specs.Records.{still_rises, noted, noted_all, unnoted, wanted_settings}

-- ---- whether they rise (19)

and_true : (b : Bool) → b ≡ b && (true && true)
and_true true = refl
and_true false = refl

-- a test of a record beside those of the rest: first all that rise, then all that are valves
beside : (r a b c d : Bool) → ((r && (a && b)) && (c && d)) ≡ (r && ((a && c) && (b && d)))
beside false a b c d = refl
beside true false b c d = refl
beside true true true c d = refl
beside true true false true d = refl
beside true true false false d = refl

-- a valve number
abbrev pub in_range : Cell → Bool
in_range x = ltb x.key 32768

rises_all : (n : Notes) (rs : List Record) → (noted_all n rs).rises ≡ n.rises && (rising_from n.least (wanted_settings rs) && all in_range (wanted_settings rs))
unfolding noted_all rising_from all wanted_settings still_rises noted
rises_all n [] = and_true n.rises
rises_all n (r ∷ rs) =
    let one : r.valve + 1 ≡ suc r.valve = omega arith in
    rises_all (noted n r) rs
    ∙ ap (λ (k : ℕ). still_rises n.rises n.least r.valve && (rising_from k (wanted_settings rs) && all in_range (wanted_settings rs))) one
    ∙ beside n.rises (leb n.least r.valve) (ltb r.valve 32768) (rising_from (suc r.valve) (wanted_settings rs)) (all in_range (wanted_settings rs))

pub notes_rise : (rs : List Record) → (noted_all unnoted rs).rises ≡ (rising (wanted_settings rs) && all in_range (wanted_settings rs))
unfolding unnoted rising
notes_rise rs = rises_all unnoted rs

-- ---- how many there are (20)

over_all : (n : Notes) (rs : List Record) → n.count ≤ 193 → 192 < n.count + length rs → (noted_all n rs).count ≡ 193
unfolding noted_all noted
over_all n [] h k = omega (arith, h, k)
over_all n (r ∷ rs) h k =
    by_cases (leb 192 n.count)
    (λ b.
    let e : (noted n r).count ≡ 193 = rw b in
    over_all (noted n r) rs (omega (arith, e)) (omega (arith, e)))
    (λ b.
    let l = leb-false 192 n.count b in
    let e : (noted n r).count ≡ n.count + 1 = rw b in
    over_all (noted n r) rs (omega (arith, e, l)) (omega (arith, e, k)))

pub notes_over : (rs : List Record) → 192 < length rs → (noted_all unnoted rs).count ≡ 193
unfolding unnoted
notes_over rs h = over_all unnoted rs (omega arith) (omega (arith, h))

count_all : (n : Notes) (rs : List Record) → n.count + length rs ≤ 192 → (noted_all n rs).count ≡ n.count + length rs
unfolding noted_all noted
count_all n [] h = omega arith
count_all n (r ∷ rs) h =
    let small : n.count < 192 = omega (arith, h) in
    let e : (noted n r).count ≡ n.count + 1 = rw (lt-leb 192 n.count small) in
    let z = count_all (noted n r) rs (omega (arith, e, h)) in
    omega (arith, e, z)

pub notes_count : (rs : List Record) → length rs ≤ 192 → (noted_all unnoted rs).count ≡ length rs
unfolding unnoted
notes_count rs h = let z = count_all unnoted rs (omega (arith, h)) in omega (arith, z)

pub length_settings : (rs : List Record) → length (wanted_settings rs) ≡ length rs
unfolding wanted_settings
length_settings [] = refl
length_settings (r ∷ rs) = ap suc (length_settings rs)
