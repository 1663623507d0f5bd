-- Where pages stand: the newest page lies in the head's block, and the pages of a base that is the newest lie in that block and one other.
use mathlib.Core.Path.{◌≡◌, refl, sym, subst, ap, ◌∙◌}
use mathlib.Core.Logic.{◌⊎◌, inl, inr}
use mathlib.Core.Bool.{Bool, true, false, not, ◌||◌}
use mathlib.Core.List.{List, [], ◌∷◌, ◌++◌}
use Prim.Native.Nat.{ℕ, zero, suc, ◌+◌, ◌-◌, ◌/◌, ◌%◌, ◌≤◌, ◌<◌}
use native.Mathlib.Omega.{arith}
use native.Mathlib.Decide.{dec_lt, ℕ_discrete}
use lib.Dec.{eqb}
use lib.ListN.{length, set, length-append}
use borrow.Author.Tests.{ltb-true, leb-true, eqb-true, eq-eqb, ne_eqb, eqb-false, not-true}
use Rattle.lists.specs.Lists.{all, value_or}
use Rattle.lists.specs.Cells.{Entry, Place}
use Rattle.lists.proofs.Laws.{and_l, and_r, and_both, true_false, all_head, all_tail, all_weaken, or_right}
use Rattle.page.specs.Pages.{Page, View, clean, spoilt, whole, is_clean, is_whole}
use Rattle.page.proofs.Berger.{Turned, kept, torn, blanked}
use Rattle.flash.specs.Medium.{seen}
use Rattle.flash.proofs.Laws.{clean_in}
use Rattle.flash.proofs.Steps.{seen_set, seen_set_other}
use Rattle.flash.proofs.Cuts.{CutViews}
use Rattle.blocks.specs.declared.Head.{Head}
use Rattle.blocks.specs.Blocks.{reaches_base}
use Rattle.state.specs.State.{Pending, commit, Held, held}
use Rattle.recovery.specs.Recovery.{Placed, placed, serial_of, wholes, other_serial, distinct, sort, last_of, no_page, Group, base}
use Rattle.recovery.proofs.Pages.{base_append}
use Rattle.step.specs.Step.{head_after}
use Rattle.newest_page.specs.Meeting.{base_end}
use Rattle.valve_log.proofs.Order.{below, all_sort, upto, sort_split, Thin, thin_from, last_append, consecutive_last}
use Rattle.valve_log.proofs.Sound.{Sound, split, greatest}
use Rattle.valve_log.proofs.Supply.{Which, in_head, new_head_lem}
use Rattle.valve_log.proofs.Steady.{all_last}

-- ---- views that are whole

pub not_spoilt : {P : Type 0} (pg : Page) → spoilt ≡ whole pg → P
unfolding is_whole
not_spoilt pg e = true_false (ap is_whole e) refl

pub not_clean : {P : Type 0} (pg : Page) → clean ≡ whole pg → P
unfolding is_whole
not_clean pg e = true_false (ap is_whole e) refl

pub whole_is : (a b : Page) → whole a ≡ whole b → a ≡ b
whole_is a b e = cc

wholes_at : (f : Placed → Bool) (n : ℕ) (v : List View) (q : ℕ) (pg : Page) → all f (wholes n v) ≡ true → seen v q ≡ whole pg → f (placed (n + q) pg) ≡ true
unfolding wholes seen
wholes_at f n [] q pg a e = not_spoilt pg e
wholes_at f n (clean ∷ v) zero pg a e = not_clean pg e
wholes_at f n (spoilt ∷ v) zero pg a e = not_spoilt pg e
wholes_at f n (whole x ∷ v) zero pg a e = let z : n + 0 ≡ n = omega arith in rw (z, ← whole_is x pg e) (all_head f (placed n x) (wholes (suc n) v) a)
wholes_at f n (clean ∷ v) (suc q) pg a e = let z : n + suc q ≡ suc n + q = omega arith in rw z (wholes_at f (suc n) v q pg a e)
wholes_at f n (spoilt ∷ v) (suc q) pg a e = let z : n + suc q ≡ suc n + q = omega arith in rw z (wholes_at f (suc n) v q pg a e)
wholes_at f n (whole x ∷ v) (suc q) pg a e = let z : n + suc q ≡ suc n + q = omega arith in rw z (wholes_at f (suc n) v q pg (all_tail f (placed n x) (wholes (suc n) v) a) e)

shown_all : (u : List View) (n : ℕ) (v : List View) → ((i : ℕ) → seen u (n + i) ≡ seen v i) → all (λ x. reaches_base (serial_of x) (seen u x.at)) (wholes n v) ≡ true
unfolding wholes all seen
shown_all u n [] h = refl
shown_all u n (clean ∷ v) h = shown_all u (suc n) v (λ i. let z : n + suc i ≡ suc n + i = omega arith in rw z at (h (suc i)))
shown_all u n (spoilt ∷ v) h = shown_all u (suc n) v (λ i. let z : n + suc i ≡ suc n + i = omega arith in rw z at (h (suc i)))
shown_all u n (whole pg ∷ v) h = and_both here (shown_all u (suc n) v (λ i. let z : n + suc i ≡ suc n + i = omega arith in rw z at (h (suc i))))
  where
    there : seen u n ≡ whole pg
    there = let z : n + 0 ≡ n = omega arith in unfold seen in (rw z at (h 0))

    here : reaches_base pg.serial (seen u n) ≡ true
    here = rw there (unfold reaches_base in borrow.Author.Tests.le-leb pg.serial pg.serial (omega arith))

-- the page with the greatest serial
abbrev pub newest_of : List View → Placed
newest_of v = last_of no_page (sort (wholes 0 v))

-- a whole page whose serial is the one before n
pub record There (v : List View) (n : ℕ) : Type 0 where
  pub at : ℕ
  pub page : Page
  pub is : seen v at ≡ whole page
  pub serial : suc page.serial ≡ n

or_left : (a b : Bool) → a ≡ true → (a || b) ≡ true
or_left true b h = refl
or_left false b h = true_false h refl

or_other : (a b : Bool) → (not a || b) ≡ true → a ≡ true → b ≡ true
or_other true b h e = h
or_other false b h e = true_false e refl

not_eqb : (a b : ℕ) → not (eqb a b) ≡ true → not (eqb b a) ≡ true
not_eqb a b e = rw (ne_eqb b a (λ q. eqb-false a b (not-true (eqb a b) e) (sym q)))

other_back : (s : ℕ) (y : Placed) → other_serial s y ≡ true → not (eqb (serial_of y) s) ≡ true
unfolding other_serial
other_back s y o = o

-- no two whole pages have one serial
same_at : (n : ℕ) (v : List View) (q : ℕ) (pg : Page) → distinct (wholes n v) ≡ true → seen v q ≡ whole pg → all (λ y. not (eqb (serial_of y) pg.serial) || eqb y.at (n + q)) (wholes n v) ≡ true
unfolding wholes seen all distinct
same_at n [] q pg d e = refl
same_at n (clean ∷ v) zero pg d e = not_clean pg e
same_at n (spoilt ∷ v) zero pg d e = not_spoilt pg e
same_at n (whole x ∷ v) zero pg d e =
    and_both (or_right (not (eqb x.serial pg.serial)) (eqb n (n + 0)) (eq-eqb n (n + 0) (omega arith)))
    (all_weaken (other_serial x.serial) (λ (y : Placed). not (eqb (serial_of y) pg.serial) || eqb y.at (n + 0)) weaker (wholes (suc n) v)
    (and_l (all (other_serial x.serial) (wholes (suc n) v)) (distinct (wholes (suc n) v)) d))
  where
    weaker : (y : Placed) → other_serial x.serial y ≡ true → (not (eqb (serial_of y) pg.serial) || eqb y.at (n + 0)) ≡ true
    weaker y o = or_left (not (eqb (serial_of y) pg.serial)) (eqb y.at (n + 0)) (rw (← whole_is x pg e) (other_back x.serial y o))
same_at n (clean ∷ v) (suc q) pg d e = let z : n + suc q ≡ suc n + q = omega arith in rw z (same_at (suc n) v q pg d e)
same_at n (spoilt ∷ v) (suc q) pg d e = let z : n + suc q ≡ suc n + q = omega arith in rw z (same_at (suc n) v q pg d e)
same_at n (whole x ∷ v) (suc q) pg d e =
    let z : n + suc q ≡ suc n + q = omega arith in
    let o : other_serial x.serial (placed (suc n + q) pg) ≡ true =
    wholes_at (other_serial x.serial) (suc n) v q pg (and_l (all (other_serial x.serial) (wholes (suc n) v)) (distinct (wholes (suc n) v)) d) e in
    and_both (or_left (not (eqb x.serial pg.serial)) (eqb n (n + suc q)) (not_eqb pg.serial x.serial (other_back x.serial (placed (suc n + q) pg) o)))
    (subst (λ (k : ℕ). all (λ (y : Placed). not (eqb (serial_of y) pg.serial) || eqb y.at k) (wholes (suc n) v) ≡ true) (sym z)
    (same_at (suc n) v q pg (and_r (all (other_serial x.serial) (wholes (suc n) v)) (distinct (wholes (suc n) v)) d) e))

module _ {v : List View} {log : List (List Entry)} {settings : List Place} {b : ℕ} {ch : List Placed} {gs : List Group} {idx : List Place} (S : Sound v log settings b ch gs idx) where
  pub serial_below : (q : ℕ) (pg : Page) → seen v q ≡ whole pg → pg.serial < b + length ch
  serial_below q pg e = ltb-true pg.serial (b + length ch) (unfold below in wholes_at (below (b + length ch)) 0 v q pg S.bound e)

  some_page : 1 ≤ length (sort (wholes 0 v))
  some_page = omega (arith, ap length (split S), length-append (sort (upto b (wholes 0 v))) ch, S.some_page)

  pub newest_there : There v (b + length ch)
  newest_there = go (seen v (newest_of v).at) refl
    where
      a : reaches_base (serial_of (newest_of v)) (seen v (newest_of v).at) ≡ true
      a =
          all_last (λ (x : Placed). reaches_base (serial_of x) (seen v x.at)) no_page (sort (wholes 0 v)) some_page
          (all_sort (λ (x : Placed). reaches_base (serial_of x) (seen v x.at)) (wholes 0 v) (shown_all v 0 v (λ i. let z : 0 + i ≡ i = omega arith in rw z refl)))

      go : (x : View) → seen v (newest_of v).at ≡ x → There v (b + length ch)
      go clean e = true_false (rw e at a) (unfold reaches_base in refl)
      go spoilt e = true_false (rw e at a) (unfold reaches_base in refl)
      go (whole pg) e =
          let k : serial_of (newest_of v) ≤ pg.serial = leb-true (serial_of (newest_of v)) pg.serial (unfold reaches_base in (rw e at a)) in
          record { at = (newest_of v).at; page = pg; is = e; serial = omega (arith, serial_below (newest_of v).at pg e, greatest S) }

  -- recovery's head holds it
  pub newest_at : (q : ℕ) (pg : Page) → seen v q ≡ whole pg → suc pg.serial ≡ b + length ch → q ≡ (newest_of v).at
  newest_at q pg e n =
      let f = all_last (λ (y : Placed). not (eqb (serial_of y) pg.serial) || eqb y.at (0 + q)) no_page (sort (wholes 0 v)) some_page
      (all_sort (λ (y : Placed). not (eqb (serial_of y) pg.serial) || eqb y.at (0 + q)) (wholes 0 v) (same_at 0 v q pg S.distincts e)) in
      let s : serial_of (newest_of v) ≡ pg.serial = omega (arith, greatest S) in
      let t : (newest_of v).at ≡ 0 + q =
      eqb-true (newest_of v).at (0 + q) (or_other (eqb (serial_of (newest_of v)) pg.serial) (eqb (newest_of v).at (0 + q)) f (eq-eqb (serial_of (newest_of v)) pg.serial s)) in
      omega arith

  -- pages below the base may go
  module _ (w : List View) (t : Thin b (wholes 0 v) (wholes 0 w)) where
    sorts : sort (wholes 0 w) ≡ sort (upto b (wholes 0 w)) ++ ch
    sorts = sort_split b (wholes 0 w) ∙ ap (λ (l : List Placed). sort (upto b (wholes 0 w)) ++ l) (ap sort (thin_from t) ∙ S.chained)

    pub lost_base : base w ≡ b
    unfolding base value_or
    lost_base = rw (sorts, base_append (sort (upto b (wholes 0 w))) ch b S.based)

    pub lost_next : suc (serial_of (newest_of w)) ≡ b + length ch
    lost_next =
        ap (λ (l : List Placed). suc (serial_of (last_of no_page l))) sorts
        ∙ ap (λ (x : Placed). suc (serial_of x)) (last_append no_page (sort (upto b (wholes 0 w))) ch)
        ∙ consecutive_last b (last_of no_page (sort (upto b (wholes 0 w)))) ch S.some_page S.rises

-- ---- where pages stand

-- every whole page of w is one of v
pub record Fewer (v w : List View) : Type 0 where
  pub same : (q : ℕ) (pg : Page) → seen w q ≡ whole pg → seen v q ≡ whole pg

-- the pages from serial f on lie in block a or in one other
pub record InTwo (v : List View) (f a : ℕ) : Type 0 where
  pub other : ℕ
  pub each : (q : ℕ) (pg : Page) → seen v q ≡ whole pg → f ≤ pg.serial → (q / 16 ≡ a) ⊎ (q / 16 ≡ other)

-- b is the base's first serial, n the next serial: if the newest page ends a base, the pages from b on lie in its block and one other
pub record Based (v : List View) (b n : ℕ) : Type 0 where
  pub two : (q : ℕ) (pg : Page) → seen v q ≡ whole pg → suc pg.serial ≡ n → base_end pg ≡ true → InTwo v b (q / 16)

-- k pages of a commit are done, those from serial f on: they all lie in the head, or in the head and one other block, and then no more than
-- k pages of the head are used, so that the head is not full before the commit ends
pub record Near (v : List View) (f : ℕ) (h : Head) (k : ℕ) : Type 0 where
  pub other : ℕ
  pub each : (q : ℕ) (pg : Page) → seen v q ≡ whole pg → f ≤ pg.serial → (q / 16 ≡ h.block) ⊎ (q / 16 ≡ other)
  pub room : (other ≡ h.block) ⊎ (h.next ≤ k)

pub record Stands (v : List View) (s : Held) : Type 0 where
  pub newest : (q : ℕ) (pg : Page) → seen v q ≡ whole pg → suc pg.serial ≡ s.head.serial → q / 16 ≡ s.head.block
  pub near : (k : ℕ) → s.pending ≡ commit k → Near v (s.head.serial - k) s.head k
  pub based : Based v s.head.base s.head.serial

-- ---- fewer pages

pub turned_fewer : (v w : List View) (a n : ℕ) → CutViews v a n v w → Fewer v w
turned_fewer v w a n c = record { same = λ q pg e. go q pg e (dec_lt q a) (dec_lt q (a + n)) }
  where
    turned : (x y : View) (pg : Page) → Turned x y → y ≡ whole pg → x ≡ whole pg
    turned x y pg (kept z) e = e
    turned x y pg (torn z) e = not_spoilt pg e
    turned x y pg (blanked z) e = not_clean pg e

    go : (q : ℕ) (pg : Page) → seen w q ≡ whole pg → Dec (q < a) → Dec (q < a + n) → seen v q ≡ whole pg
    go q pg e (yes x) d = sym (c.outside q (inl x)) ∙ e
    go q pg e (no x) (no y) = sym (c.outside q (inr (omega arith))) ∙ e
    go q pg e (no x) (yes y) = turned (seen v q) (seen w q) pg (c.inside q (omega arith) y) e

pub fewer_two : {v w : List View} {f a : ℕ} → Fewer v w → InTwo v f a → InTwo w f a
fewer_two F t = record { other = t.other; each = λ q pg e l. t.each q pg (F.same q pg e) l }

pub fewer_based : {v w : List View} {b n : ℕ} → Fewer v w → Based v b n → Based w b n
fewer_based F t = record { two = λ q pg e n l. fewer_two F (t.two q pg (F.same q pg e) n l) }

pub fewer_near : {v w : List View} {f k : ℕ} {h : Head} → Fewer v w → Near v f h k → Near w f h k
fewer_near F t = record { other = t.other; each = λ q pg e l. t.each q pg (F.same q pg e) l; room = t.room }

-- the operation pending may end
pub fewer_stands : (v w : List View) (s : Held) (pend : Pending) (records : List Bool) → ((k : ℕ) → pend ≡ commit k → s.pending ≡ commit k) → Fewer v w → Stands v s
    → Stands w (held s.head s.index pend records)
fewer_stands v w s pend records same F t =
    record {
      newest = λ q pg e n. t.newest q pg (F.same q pg e) n;
      near = λ k e. fewer_near F (t.near k (same k e));
      based = fewer_based F t.based;
    }

-- ---- one page more

pub data Seen (v : List View) (p : ℕ) (pg : Page) (q : ℕ) (x : Page) : Type 0 where
  new : q ≡ p → x ≡ pg → Seen v p pg q x
  old : seen v q ≡ whole x → Seen v p pg q x

seen_after : (v : List View) (p : ℕ) (pg : Page) → is_clean (seen v p) ≡ true → (q : ℕ) (x : Page) → seen (set v p (whole pg)) q ≡ whole x → Seen v p pg q x
seen_after v p pg c q x e = go (ℕ_discrete q p)
  where
    go : Dec (q ≡ p) → Seen v p pg q x
    go (yes k) = new k (whole_is x pg (sym e ∙ (rw k (seen_set v p (whole pg) (clean_in v p c)))))
    go (no k) = old (sym (seen_set_other v p q (whole pg) k) ∙ e)

module _ (v : List View) (h : Head) (p : ℕ) (pg : Page) (bound : (q : ℕ) (x : Page) → seen v q ≡ whole x → x.serial < h.serial) (cleans : is_clean (seen v p) ≡ true)
    (serials : pg.serial ≡ h.serial) where
  -- the page with the new greatest serial is the new one
  newest_new : (q : ℕ) (x : Page) → seen (set v p (whole pg)) q ≡ whole x → suc x.serial ≡ suc h.serial → (q ≡ p) × (x ≡ pg)
  newest_new q x e n = go (seen_after v p pg cleans q x e)
    where
      go : Seen v p pg q x → (q ≡ p) × (x ≡ pg)
      go (new a b) = (a, b)
      go (old a) = absurd (let z = bound q x a in omega arith)

  -- a page that ends no base
  pub plain_stands : (base : ℕ) (index : List Place) (pend : Pending) (records : List Bool)
      → ((k : ℕ) → pend ≡ commit k → Near (set v p (whole pg)) (suc h.serial - k) (head_after h p base) k) → base_end pg ≡ false
      → Stands (set v p (whole pg)) (held (head_after h p base) index pend records)
  unfolding head_after
  plain_stands base index pend records near open_end =
      record {
        newest = λ q x e n. ap (λ (t : ℕ). t / 16) (newest_new q x e n).0;
        near = near;
        based = record { two = λ q x e n l. true_false (rw (newest_new q x e n).1 at l) open_end };
      }

  near_after : (f base k : ℕ) → k < 16 → Which v h p → Near v f h k → Near (set v p (whole pg)) f (head_after h p base) (suc k)
  unfolding head_after
  near_after f base k few (in_head l e) N =
      record {
        other = N.other;
        each = λ q x s b. go q x b (seen_after v p pg cleans q x s);
        room = here N.room;
      }
    where
      same : p / 16 ≡ h.block
      same = omega arith

      go : (q : ℕ) (x : Page) → f ≤ x.serial → Seen v p pg q x → (q / 16 ≡ p / 16) ⊎ (q / 16 ≡ N.other)
      go q x b (new a c) = inl (ap (λ (t : ℕ). t / 16) a)
      go q x b (old a) = back (N.each q x a b)
        where
          back : (q / 16 ≡ h.block) ⊎ (q / 16 ≡ N.other) → (q / 16 ≡ p / 16) ⊎ (q / 16 ≡ N.other)
          back (inl y) = inl (y ∙ sym same)
          back (inr y) = inr y

      here : (N.other ≡ h.block) ⊎ (h.next ≤ k) → (N.other ≡ p / 16) ⊎ (suc (p % 16) ≤ suc k)
      here (inl y) = inl (y ∙ sym same)
      here (inr y) = inr (omega arith)
  near_after f base k few (new_head_lem b l e i o w) N =
      record {
        other = h.block;
        each = λ q x s c. go q x c (seen_after v p pg cleans q x s);
        room = inr (omega arith);
      }
    where
      all_head_block : (N.other ≡ h.block) ⊎ (h.next ≤ k) → N.other ≡ h.block
      all_head_block (inl y) = y
      all_head_block (inr y) = absurd (omega arith)

      go : (q : ℕ) (x : Page) → f ≤ x.serial → Seen v p pg q x → (q / 16 ≡ p / 16) ⊎ (q / 16 ≡ h.block)
      go q x c (new a d) = inl (ap (λ (t : ℕ). t / 16) a)
      go q x c (old a) = back (N.each q x a c)
        where
          back : (q / 16 ≡ h.block) ⊎ (q / 16 ≡ N.other) → (q / 16 ≡ p / 16) ⊎ (q / 16 ≡ h.block)
          back (inl y) = inr y
          back (inr y) = inr (y ∙ all_head_block N.room)

  -- a page of a commit that is not its last
  pub near_more : (base k : ℕ) → k < 16 → Which v h p → Near v (h.serial - k) h k → (j : ℕ) → commit (suc k) ≡ commit j → Near (set v p (whole pg)) (suc h.serial - j) (head_after h p base) j
  near_more base k few w N j e =
      let q : suc k ≡ j = cc in
      let z : suc h.serial - suc k ≡ h.serial - k = omega arith in
      rw (← q, z) (near_after (h.serial - k) base k few w N)

  -- its last
  pub base_stands : (k : ℕ) (index : List Place) (pend : Pending) (records : List Bool) → ((j : ℕ) → pend ≡ commit j → ⊥) → k < 16 → Which v h p → Near v (h.serial - k) h k
      → Stands (set v p (whole pg)) (held (head_after h p (h.serial - k)) index pend records)
  unfolding head_after
  base_stands k index pend records no_commit few w N =
      let M = near_after (h.serial - k) (h.serial - k) k few w N in
      record {
        newest = λ q x e n. ap (λ (t : ℕ). t / 16) (newest_new q x e n).0;
        near = λ j e. absurd (no_commit j e);
        based = record { two = λ q x e n l. record { other = M.other; each = λ q' x' e' l'. rw (newest_new q x e n).0 (M.each q' x' e' l') } };
      }
