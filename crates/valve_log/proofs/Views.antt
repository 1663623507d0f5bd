-- What a device step, and a cut inside one, does to the whole pages of a medium and to the words that the index finds there.
use mathlib.Core.Path.{◌≡◌, refl, sym}
use mathlib.Core.Logic.{◌⊎◌, inl, inr}
use mathlib.Core.Bool.{true, false}
use mathlib.Core.List.{List, [], ◌∷◌}
use Prim.Native.Nat.{ℕ, zero, suc, ◌+◌, ◌-◌, ◌*◌, ◌/◌, ◌≤◌, ◌<◌}
use native.Mathlib.Omega.{arith}
use native.Mathlib.Decide.{dec_lt, ℕ_discrete}
use lib.ListN.{length, set}
use borrow.Author.Tests.{leb-false}
use Rattle.lists.specs.declared.Cell.{Cell}
use Rattle.lists.specs.Lists.{is_some}
use Rattle.lists.proofs.Laws.{true_false, below_at}
use Rattle.page.specs.Pages.{Page, View, clean, spoilt, whole, is_clean, is_whole}
use Rattle.page.proofs.Berger.{Turned, kept, torn, blanked}
use Rattle.flash.specs.Medium.{seen, wholly_clean}
use Rattle.flash.proofs.Steps.{seen_set_other, views_same}
use Rattle.flash.proofs.Cuts.{CutViews}
use Rattle.blocks.specs.Blocks.{reaches_base}
use Rattle.nodes.specs.Nodes.{node_in, word_for, word_at}
use Rattle.recovery.specs.Recovery.{placed, wholes}
use Rattle.valve_log.proofs.Order.{Grow, here, there, Thin, end, held, gone}

-- ---- a clean page

pub clean_is : (x : View) → is_clean x ≡ true → x ≡ clean
unfolding is_clean
clean_is clean e = refl
clean_is spoilt e = true_false e refl
clean_is (whole pg) e = true_false e refl

-- programming a clean page adds a whole page
pub wholes_grow : (v : List View) (n p : ℕ) (pg : Page) → is_clean (seen v p) ≡ true → Grow (placed (n + p) pg) (wholes n v) (wholes n (set v p (whole pg)))
unfolding wholes is_clean seen
wholes_grow [] n p pg e = true_false e refl
wholes_grow (clean ∷ v) n zero pg e = let z : n + 0 ≡ n = omega arith in rw z here
wholes_grow (spoilt ∷ v) n zero pg e = true_false e refl
wholes_grow (whole x ∷ v) n zero pg e = true_false e refl
wholes_grow (clean ∷ v) n (suc p) pg e = let z : n + suc p ≡ suc n + p = omega arith in rw z (wholes_grow v (suc n) p pg e)
wholes_grow (spoilt ∷ v) n (suc p) pg e = let z : n + suc p ≡ suc n + p = omega arith in rw z (wholes_grow v (suc n) p pg e)
wholes_grow (whole x ∷ v) n (suc p) pg e = let z : n + suc p ≡ suc n + p = omega arith in rw z (there (wholes_grow v (suc n) p pg e))

-- ---- pages lost: each page is as it was, or it was no page from serial b on and is not whole now

unfoldable pub Lost : ℕ → View → View → Type 0
Lost b x y = (y ≡ x) ⊎ ((reaches_base b x ≡ false) × (is_whole y ≡ false))

lost_thin : (b n : ℕ) (x y : View) (v w : List View) → Lost b x y → Thin b (wholes (suc n) v) (wholes (suc n) w) → Thin b (wholes n (x ∷ v)) (wholes n (y ∷ w))
unfolding wholes Lost reaches_base is_whole
lost_thin b n clean y v w (inl e) t = rw e t
lost_thin b n spoilt y v w (inl e) t = rw e t
lost_thin b n (whole pg) y v w (inl e) t = rw e (held t)
lost_thin b n x (whole pg) v w (inr (r, n')) t = true_false refl n'
lost_thin b n clean clean v w (inr (r, n')) t = t
lost_thin b n clean spoilt v w (inr (r, n')) t = t
lost_thin b n spoilt clean v w (inr (r, n')) t = t
lost_thin b n spoilt spoilt v w (inr (r, n')) t = t
lost_thin b n (whole pg) clean v w (inr (r, n')) t = gone (leb-false b pg.serial r) t
lost_thin b n (whole pg) spoilt v w (inr (r, n')) t = gone (leb-false b pg.serial r) t

pub thin_of : (b n : ℕ) (v w : List View) → length w ≡ length v → ((q : ℕ) → Lost b (seen v q) (seen w q)) → Thin b (wholes n v) (wholes n w)
unfolding seen
thin_of b n [] [] l f = unfold wholes in end
thin_of b n [] (y ∷ w) l f = absurd (omega arith)
thin_of b n (x ∷ v) [] l f = absurd (omega arith)
thin_of b n (x ∷ v) (y ∷ w) l f = lost_thin b n x y v w (f 0) (thin_of b (suc n) v w (omega arith) (λ q. f (suc q)))

-- a cut over pages of which none reaches the base
turned_lost : (b : ℕ) (x y : View) → reaches_base b x ≡ false → Turned x y → Lost b x y
unfolding Lost is_whole
turned_lost b x y r (kept x') = inl refl
turned_lost b x y r (torn pg) = inr (r, refl)
turned_lost b x y r (blanked x') = inr (r, refl)

pub cut_lost : (b : ℕ) (v w : List View) (a n : ℕ) → CutViews v a n v w → ((q : ℕ) → a ≤ q → q < a + n → reaches_base b (seen v q) ≡ false) → (q : ℕ) → Lost b (seen v q) (seen w q)
cut_lost b v w a n c r q = go (dec_lt q a) (dec_lt q (a + n))
  where
    go : Dec (q < a) → Dec (q < a + n) → Lost b (seen v q) (seen w q)
    go (yes h) d = unfold Lost in inl (c.outside q (inl h))
    go (no h) (no k) = unfold Lost in inl (c.outside q (inr (omega arith)))
    go (no h) (yes k) = turned_lost b (seen v q) (seen w q) (r q (omega arith) k) (c.inside q (omega arith) k)

-- an erase of a wholly clean block, cut or not, leaves every page as it was
pub clean_same : (v w : List View) (b : ℕ) → wholly_clean v b ≡ true → CutViews v (16 * b) 16 v w → w ≡ v
clean_same v w b e c = views_same w v c.size (λ q h. go q (dec_lt q (16 * b)) (dec_lt q (16 * b + 16)))
  where
    turned : (x y : View) → is_clean x ≡ true → Turned x y → y ≡ x
    turned x y t (kept z) = refl
    turned x y t (torn pg) = true_false t (unfold is_clean in refl)
    turned x y t (blanked z) = sym (clean_is z t)

    cleans : (q : ℕ) → 16 * b ≤ q → q < 16 * b + 16 → is_clean (seen v q) ≡ true
    cleans q lo hi =
        let i : 16 * b + (q - 16 * b) ≡ q = omega arith in
        rw i at (below_at 16 (λ i. is_clean (seen v (16 * b + i))) (unfold wholly_clean in e) (q - 16 * b) (omega arith))

    go : (q : ℕ) → Dec (q < 16 * b) → Dec (q < 16 * b + 16) → seen w q ≡ seen v q
    go q (yes h) d = c.outside q (inl h)
    go q (no h) (no k) = c.outside q (inr (omega arith))
    go q (no h) (yes k) = turned (seen v q) (seen w q) (cleans q (omega arith) k) (c.inside q (omega arith) k)

-- ---- the word at an address

pub word_same : (v w : List View) (x : Cell) → seen w (x.val / 24) ≡ seen v (x.val / 24) → word_at w x ≡ word_at v x
unfolding word_at
word_same v w x e = rw e

none_clean : (v : List View) (x : Cell) → seen v (x.val / 24) ≡ clean → is_some (word_at v x) ≡ false
unfolding word_at word_for node_in is_some
none_clean v x e = rw e

-- a change of a clean page keeps every word that is found
pub one_keeps : (v w : List View) (p : ℕ) → is_clean (seen v p) ≡ true → ((q : ℕ) → (q ≡ p → ⊥) → seen w q ≡ seen v q) → (x : Cell) → is_some (word_at v x) ≡ true → word_at w x ≡ word_at v x
one_keeps v w p e o x f = go (ℕ_discrete (x.val / 24) p)
  where
    go : Dec (x.val / 24 ≡ p) → word_at w x ≡ word_at v x
    go (yes q) = true_false f (none_clean v x (rw q (clean_is (seen v p) e)))
    go (no q) = word_same v w x (o (x.val / 24) q)

pub set_keeps : (v : List View) (p : ℕ) (y : View) → is_clean (seen v p) ≡ true → (x : Cell) → is_some (word_at v x) ≡ true → word_at (set v p y) x ≡ word_at v x
set_keeps v p y e = one_keeps v (set v p y) p e (λ q n. seen_set_other v p q y n)

pub one_lost : (b : ℕ) (v w : List View) (p : ℕ) → is_clean (seen v p) ≡ true → is_whole (seen w p) ≡ false → ((q : ℕ) → (q ≡ p → ⊥) → seen w q ≡ seen v q) → (q : ℕ) → Lost b (seen v q) (seen w q)
unfolding Lost
one_lost b v w p e n o q = go (ℕ_discrete q p)
  where
    go : Dec (q ≡ p) → (seen w q ≡ seen v q) ⊎ ((reaches_base b (seen v q) ≡ false) × (is_whole (seen w q) ≡ false))
    go (yes k) = rw k (inr (rw (clean_is (seen v p) e) (unfold reaches_base in refl), n))
    go (no k) = inl (o q k)
