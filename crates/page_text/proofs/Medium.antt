-- Laws of the text of a medium: the pieces in turn, seen through a window, are the whole.
use mathlib.Core.Path.{◌≡◌, refl, sym, ap, ◌∙◌}
use mathlib.Core.Bool.{Bool, true, false}
use mathlib.Core.List.{List, [], ◌++◌, append-nil}
use Prim.Native.Nat.{ℕ, suc, ◌+◌, ◌-◌, ◌/◌, ◌≤◌, ◌<◌}
use Rattle.std.proofs.Common.{Option, None, Some, MatchOption, IsSome, Bor}
use native.Mathlib.Omega.{arith}
use lib.ListN.{length}
use borrow.Author.Tests.{lt-ltb, le-ltb}
use Rattle.lists.specs.Needs.{Answer, refused, gives, and_then}
use Rattle.lists.proofs.Laws.{same_refusal, given_refused, answered_refused, answered_gives}
use Rattle.text.specs.Filled.{Filled, starting}
use Rattle.text.specs.Text.{PutsBehind}
use Rattle.text.specs.Parts.{most_printed, SeesIn}
use Rattle.text.proofs.Laws.{puts_none, puts_then, puts_same}
use Rattle.text.proofs.Parts.{sees_put}
use Rattle.page.specs.Layout.{clean_bytes}
use Rattle.flash.specs.Medium.{views, page_at}
use Rattle.flash.proofs.Steps.{length_page}
use Rattle.state.specs.State.{meaning}
use Rattle.recovery.specs.Recovery.{Recovery, recover}
use Rattle.recover.specs.declared.Recovered.{Recovered}
use Rattle.recover.specs.Recovers.{Recovers}
use Rattle.listing.specs.Listing.{refusal_line}
use Rattle.page_text.specs.PageText.{page_text, clean_line, lines_from, end_text, end_of, pages_text}
use Rattle.listing.proofs.Laws.{Telling, telling_start, telling_next, telling_end}
use Rattle.page_text.proofs.Lengths.{few_text}

-- ---- the pages

-- a page of the medium is there
pub page_there : {B : Type 0} (m : List ℕ) (p : ℕ) (r : Option B) (f : B → Type 0) → p < length m / 256 → MatchOption r (page_at m p ≡ []) f → IsSome r
page_there m p None f h e = let z : length (page_at m p) ≡ 0 = ap length e in absurd (omega (arith, length_page m p (omega arith)))
page_there m p (Some s) f h e = refl

-- and it is that page
pub page_is : (m : List ℕ) (p : ℕ) (r : Option (Bor (List ℕ))) (s : Bor (List ℕ)) → MatchOption r (page_at m p ≡ []) (λ x. x.now ≡ page_at m p) → r ≡ Some s → s.now ≡ page_at m p
page_is m p r s h e = rw e at h

-- the pages before page p are told, but for the clean ones from a on
abbrev pub Listed : List ℕ → Filled → Filled → ℕ → ℕ → Type 0
Listed m t u a p = Telling t (lines_from m (length m / 256) 0 0) u (lines_from m (length m / 256 - p) a p)

module _ (m : List ℕ) where
  pub listed_start : (t : Filled) → Listed m t t 0 0
  listed_start t =
      let z : length m / 256 - 0 ≡ length m / 256 = omega arith in
      rw z (telling_start t (lines_from m (length m / 256) 0 0))

  module _ (t u : Filled) (a p : ℕ) (l : Listed m t u a p) where
    module _ (h : p < length m / 256) (s : List ℕ) (e : s ≡ page_at m p) (b : Bool) (f : b ≡ clean_bytes s) where
      abbrev left : ℕ
      left = length m / 256 - suc p

      pub listed_clean : b ≡ true → Listed m t u a (p + 1)
      unfolding lines_from
      listed_clean q =
          let z : p + 1 ≡ suc p = omega arith in
          let y : length m / 256 - p ≡ suc left = omega arith in
          let x : clean_bytes (page_at m p) ≡ true = ap clean_bytes (sym e) ∙ sym f ∙ q in
          rw z (rw (y, x) at l)

      pub listed_page : b ≡ false → (v : Filled) → PutsBehind u (clean_line a p) v → (w : Filled) → PutsBehind v (page_text p s) w
          → Listed m t w (p + 1) (p + 1)
      unfolding lines_from
      listed_page q v x w y =
          let z : p + 1 ≡ suc p = omega arith in
          let k : length m / 256 - p ≡ suc left = omega arith in
          let o : clean_bytes (page_at m p) ≡ false = ap clean_bytes (sym e) ∙ sym f ∙ q in
          let i : PutsBehind v (page_text p (page_at m p)) w = rw e at y in
          rw z (telling_next (rw (k, o) at l) refl (puts_then x i))

    pub listed_end : length m / 256 ≤ p → p ≤ length m / 256 → (v : Filled) → PutsBehind u (clean_line a (length m / 256)) v
        → PutsBehind t (lines_from m (length m / 256) 0 0) v
    unfolding lines_from
    listed_end h g v x =
        let y : p ≡ length m / 256 = omega arith in
        let z : length m / 256 - length m / 256 ≡ 0 = omega arith in
        let i : Telling t (lines_from m (length m / 256) 0 0) u (clean_line a (length m / 256)) = rw (y, z) at l in
        telling_end (telling_next i (sym (append-nil (clean_line a (length m / 256)))) x) refl

-- ---- recovery's refusal

module _ (m : List ℕ) (r : Recovered) (s : Recovers m r) where
  pub end_none : (t : Filled) → r.number ≡ 0 → PutsBehind t (end_text (recover (length m) (views m))) t
  unfolding and_then end_text
  end_none t z = rw (go (recover (length m) (views m)) (sym (answered_gives r.number (meaning r.state) z) ∙ s)) puts_none
    where
      go : (a : Answer Recovery) → gives (meaning r.state) ≡ and_then a (λ x. gives x.state) → end_text a ≡ []
      go (refused k) e = given_refused (meaning r.state) k e
      go (gives x) e = refl

  pub end_refused : (t u : Filled) → (r.number ≡ 0 → ⊥) → PutsBehind t (refusal_line r.number) u
      → PutsBehind t (end_text (recover (length m) (views m))) u
  unfolding and_then end_text
  end_refused t u n p = rw (go (recover (length m) (views m)) (sym (answered_refused r.number (meaning r.state) n) ∙ s)) p
    where
      go : (a : Answer Recovery) → refused r.number ≡ and_then a (λ x. gives x.state) → end_text a ≡ refusal_line r.number
      go (refused k) e = ap refusal_line (sym (same_refusal r.number k e))
      go (gives x) e = given_refused x.state r.number (sym e)

-- ---- the whole

module _ (m : List ℕ) (from : ℕ) (old t : Filled) (o : t ≡ starting old.list old.room from) where
  seen : {u : Filled} {text : List ℕ} → text ≡ pages_text m → PutsBehind t text u → SeesIn (pages_text m) from old u
  seen {u} {text} e p =
      let f : length (pages_text m) ≤ most_printed = few_text m in
      sees_put refl refl f (puts_same e (rw o at p))

  pub whole_long : 1048576 < length m → (u : Filled) → PutsBehind t (refusal_line 1) u → SeesIn (pages_text m) from old u
  whole_long h u p =
      let e : refusal_line 1 ≡ pages_text m = unfold pages_text in rw (lt-ltb 1048576 (length m) h) in
      seen e p

  pub whole_all : length m ≤ 1048576 → (u : Filled) → PutsBehind t (lines_from m (length m / 256) 0 0) u → (v : Filled) → PutsBehind u (end_of m) v
      → SeesIn (pages_text m) from old v
  whole_all h u p v q =
      let e : lines_from m (length m / 256) 0 0 ++ end_of m ≡ pages_text m = unfold pages_text in rw (le-ltb 1048576 (length m) h) in
      seen e (puts_then p q)
