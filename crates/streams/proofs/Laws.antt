-- Laws of bytes that are read and written piece by piece, in the shapes that the code's proofs ask.
use Rattle.std.proofs.Common.{◌≡◌, refl, sym, ap, ◌∙◌, Bool, true, false, cond, List, ◌++◌, ℕ, ◌+◌, ◌-◌, ◌≤◌, ◌<◌, min}
use Rattle.std.proofs.Common.{Ok, Err, IfOk, eqb, length, take, drop, arith}
use Rattle.std.proofs.Math.Seq.{take-add}
use Rattle.std.proofs.KnownBytes.{Consumes-trans, Appends-trans}
use Rattle.std.specs.Io.KnownBytes.{Appends, Consumes, ReadConsumes}
use Rattle.std.specs.Counts.{IsPrefixLen}
use Rattle.std.specs.declared.option.Option.{Option}
use Rattle.std.specs.declared.result.Result.{Result}
use Rattle.std.specs.declared.io.Error.{Error}
use borrow.Author.Tests.{eqb-true, eqb-false}
use Rattle.streams.specs.declared.Reading.TheVariants.{On, Over}
use Rattle.streams.specs.Streams.{Got, Took, after_read}
use borrow.Rule.Slice.PartMut.{put_mid, post_of}
use lib.Seq.{length-take-le, take-append-add, take-append-le, take-take}

-- the bytes before place n, and k of those that were put from there on
take_behind : (n j k : ℕ) (xs ys : List ℕ) → n ≤ length xs → k ≤ length ys → take (n + k) (put_mid n j xs ys) ≡ take n xs ++ take k ys
take_behind n j k xs ys h f =
    let a : n + k ≡ length (take n xs) + k = omega (arith, length-take-le n xs h) in
    ap (λ (i : ℕ). take i (put_mid n j xs ys)) a
    ∙ take-append-add (take n xs) (ys ++ post_of n j xs) k
    ∙ ap (λ (t : List ℕ). take n xs ++ t) (take-append-le k ys (post_of n j xs) f)

module _ (old mid new : Option (List ℕ)) (n : ℕ) where
  -- a read behind the bytes that were read before
  pub took_more : (j k : ℕ) (xs ys : List ℕ) → n ≤ length xs → k ≤ length ys → Consumes old mid (take n xs) → Consumes mid new (take k ys)
      → Consumes old new (take (n + k) (put_mid n j xs ys))
  took_more j k xs ys h f p q = rw (take_behind n j k xs ys h f) (Consumes-trans old mid new _ _ p q)

  -- a write behind the bytes that were written before
  pub gave_more : (j k : ℕ) (text : List ℕ) → k ≤ j → Appends old mid (take n text) → Appends mid new (take k (take j (drop n text)))
      → Appends old new (take (n + k) text)
  gave_more j k text h p q = rw (take-add n k text) (Appends-trans old mid new _ _ p (rw (take-take k j (drop n text) h) at q))

-- ---- how reading stands after a read

-- what reading stands at where one of two outcomes was chosen
over_where : (all : Result ℕ Error) (b : Bool) (n m : ℕ) → Over all ≡ cond b (Over (Ok n)) (On m) → (b ≡ true) × (all ≡ Ok n)
over_where all true n m e = (refl, cc)
over_where all false n m e = cc

on_where : (x : ℕ) (b : Bool) (n m : ℕ) → On x ≡ cond b (Over (Ok n)) (On m) → (b ≡ false) × (x ≡ m)
on_where x true n m e = cc
on_where x false n m e = (refl, cc)

-- what reading ends with where a read failed
failed_where : (all : Result ℕ Error) (e : Error) → Over all ≡ Over (Err e) → all ≡ Err e
failed_where all e h = cc

-- bytes that a read moved, behind those that were read before
pub record More (mid new : Option (List ℕ)) (done n : ℕ) (ys : List ℕ) : Type 0 where
  pub k : ℕ
  pub is : n ≡ done + k
  pub some : 0 < k
  pub few : k ≤ length ys
  pub bytes : Consumes mid new (take k ys)

-- the bytes so far, with these more
pub on_took : (old mid new : Option (List ℕ)) (xs ys : List ℕ) (j done n : ℕ) → done ≤ length xs → More mid new done n ys
    → Consumes old mid (take done xs) → Consumes old new (take n (put_mid done j xs ys))
on_took old mid new xs ys j done n h m p = rw m.is (took_more old mid new done j m.k xs ys h m.few p m.bytes)

module _ (mid new : Option (List ℕ)) (xs ys : List ℕ) (size done : ℕ) (same : size ≡ length xs) (less : done < size)
    (room : length ys ≡ size - done) where
  -- it goes on where bytes came, with these more
  pub on_after : (n : ℕ) (a : Result ℕ Error) → On n ≡ after_read size done a → IfOk a (λ k. IsPrefixLen k ys)
      → ReadConsumes mid new a ys → More mid new done n ys
  unfolding after_read
  on_after n (Err e) h f q = cc
  on_after n (Ok k) h f q =
      let p = on_where n (eqb (min k (size - done)) 0) done (done + min k (size - done)) h in
      let z = eqb-false (min k (size - done)) 0 p.0 in
      record { k = k; is = omega (arith, p.1, f.0); some = omega (arith, z); few = f.0; bytes = q.0 }

  -- it is over, but for an error, where no byte came: with what was read before, and no byte is left
  pub over_after : (old : Option (List ℕ)) (j : ℕ) (all a : Result ℕ Error) → Over all ≡ after_read size done a
      → IfOk a (λ k. IsPrefixLen k ys) → ReadConsumes mid new a ys → Consumes old mid (take done xs)
      → IfOk all (λ n. (n ≡ done) × Took old new (put_mid done j xs ys) n)
  unfolding after_read
  over_after old j all (Err e) h f q p = rw (failed_where all e h) tt
  over_after old j all (Ok k) h f q p =
      let w = over_where all (eqb (min k (size - done)) 0) done (done + min k (size - done)) h in
      let z = eqb-true (min k (size - done)) 0 w.0 in
      let y : k ≡ 0 = omega (arith, z) in
      let b = took_more old mid new done j k xs ys (omega arith) (omega arith) p q.0 in
      let d : done + k ≡ done = omega (arith, y) in
      rw w.1 (refl, record { bytes = rw d at b; end = λ _. q.1 y (omega arith) })

-- the two promises of an answer with so many bytes
pub got_over : (buf : List ℕ) (done : ℕ) (P : ℕ → Type 0) (all : Result ℕ Error) → done ≤ length buf → IfOk all (λ n. (n ≡ done) × P n)
    → IfOk all (Got buf)
got_over buf done P (Err e) h o = tt
got_over buf done P (Ok n) h o = record { within = omega (arith, o.0); part = sym (length-take-le n buf (omega (arith, o.0))) }

pub took_over : (done : ℕ) (P : ℕ → Type 0) (all : Result ℕ Error) → IfOk all (λ n. (n ≡ done) × P n) → IfOk all P
took_over done P (Err e) o = tt
took_over done P (Ok n) o = o.1
