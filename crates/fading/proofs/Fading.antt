-- Paper 14: a medium some of whose bits have faded is refused, or recovery gives of it what it gave at that or an earlier moment.
use mathlib.Core.Path.{◌≡◌, refl, sym, ap, subst, ◌∙◌}
use mathlib.Core.Logic.{◌⊎◌, inl, inr}
use mathlib.Core.Bool.{Bool, true, false}
use mathlib.Core.List.{List, [], ◌∷◌}
use Prim.Native.Nat.{ℕ, ◌+◌, ◌/◌, ◌≤◌, ◌<◌}
use native.Mathlib.Omega.{arith}
use lib.ListN.{length, get_or, get_or-eq_default}
use borrow.Author.Tests.{leb-true}
use Rattle.lists.specs.Lists.{every}
use Rattle.lists.specs.Needs.{Answer, refused, gives, need, under}
use Rattle.lists.proofs.Laws.{and_l, and_r, tests}
use Rattle.page.specs.Pages.{Page, View, whole}
use Rattle.page.specs.Rules.{serial_ok, ruled, lawful}
use Rattle.flash.specs.Medium.{views, seen}
use Rattle.flash.specs.Cuts.{bit_at, Cut}
use Rattle.flash.proofs.Laws.{length_views}
use Rattle.flash.proofs.Cuts.{CutViews, cut_views}
use Rattle.blocks.specs.Blocks.{size_ok}
use Rattle.recovery.specs.Recovery.{Placed, wholes, all_lawful, sort, base, Recovery, recovery_with, recover_needs, recover}
use Rattle.state.specs.State.{Held}
use Rattle.valve_log.specs.History.{History}
use Rattle.valve_log.specs.Reached.{World, Reached, Words, Shows, Point3}
use Rattle.valve_log.proofs.Events.{Upheld, sized}
use Rattle.valve_log.proofs.Point3.{reached_upheld, point3}
use Rattle.fading.specs.Fading.{Faded, FadesTogether, AsThen, RefusedOrAsThen, refuses, shown, Fades, RefusedWith4To6, OfOneMoment, NoMixture}
use Rattle.fading.proofs.Standing.{AllStand, nil, cons, standing_sort, Within, to_within, at_within, standing_within, next_serial, below_next, next_within}
use Rattle.fading.proofs.Standing.{distinct_within, lawful_within, at_page}
use Rattle.fading.proofs.Same.{Accepted, accepted, recover_cases, index_sound, words_within, some_page, recover_same}
use Rattle.fading.proofs.Moments.{cut_from, OlderStand, moment_of}

pub shows_at : (w : World) (h : History) → Reached w h → Shows w.medium h
shows_at = unfold Point3 in point3

-- ---- fading twice

pub fades_together : FadesTogether
unfolding FadesTogether
fades_together m m' m'' f g =
    record { size = g.size ∙ f.size; bytes = g.bytes; bits = λ i j l k. go i j (g.bits i j (omega (arith, f.size)) k) (f.bits i j l k) }
  where
    go : (i j : ℕ) → (bit_at m'' i j ≡ 1) ⊎ (bit_at m'' i j ≡ bit_at m' i j) → (bit_at m' i j ≡ 1) ⊎ (bit_at m' i j ≡ bit_at m i j) → (bit_at m'' i j ≡ 1) ⊎ (bit_at m'' i j ≡ bit_at m i j)
    go i j (inl a) b = inl a
    go i j (inr a) (inl b) = inl (a ∙ b)
    go i j (inr a) (inr b) = inr (a ∙ b)

-- ---- the pages of a faded medium

-- fading is a cut over the whole medium
as_cut : (m m' : List ℕ) → Faded m m' → Cut m 0 (length m) m m'
as_cut m m' f =
    record {
      size = f.size;
      bytes = f.bytes;
      inside = λ i j lo hi x. f.bits i j (omega arith) x;
      outside = λ i o. beyond i (past i o);
    }
  where
    past : (i : ℕ) → (i < 0) ⊎ (0 + length m ≤ i) → length m ≤ i
    past i (inl h) = absurd (omega arith)
    past i (inr h) = omega arith

    beyond : (i : ℕ) → length m ≤ i → get_or m' i 0 ≡ get_or m i 0
    beyond i h = get_or-eq_default m' 0 {n = i} (omega (arith, f.size)) ∙ sym (get_or-eq_default m 0 {n = i} h)

module _ (w : World) (h : History) (U : Upheld w h) (m : List ℕ) (f : Faded w.medium m) where
  faded_views : CutViews (views w.medium) 0 (length w.medium / 256) (views w.medium) (views m)
  faded_views =
      let S = sized (length w.medium) U.size in
      cut_views w.medium w.medium m 0 (length w.medium / 256) 0 (length w.medium) refl (omega (arith, S.even)) (omega (arith, S.even)) refl U.guarded (as_cut w.medium m f)

  pub faded_within : Within (views m) (views w.medium)
  faded_within = to_within (views m) (views w.medium) (λ q y e. go q y (cut_from (views w.medium) (views m) (views w.medium) 0 (length w.medium / 256) faded_views q y e))
    where
      go : (q : ℕ) (y : Page) → (seen (views w.medium) q ≡ whole y) ⊎ (seen (views w.medium) q ≡ whole y) → seen (views w.medium) q ≡ whole y
      go q y (inl k) = k
      go q y (inr k) = k

-- ---- an accepted medium has a page, with a serial of at least 1

lawful_serial : (x : Placed) → lawful x.page ≡ true → 1 ≤ x.page.serial
unfolding lawful serial_ok
lawful_serial x e = leb-true 1 x.page.serial (and_l _ _ (and_r (ruled x.page) _ e))

pub next_two : (v : List View) → Accepted v → 2 ≤ next_serial v
next_two v A = go (sort (wholes 0 v)) (standing_sort (wholes 0 v) (standing_within v v (to_within v v (λ q y e. e)))) (some_page (sort (wholes 0 v)) (base v) A.based)
  where
    go : (l : List Placed) → AllStand v l → 1 ≤ length l → 2 ≤ next_serial v
    go [] nil n = absurd (omega arith)
    go (x ∷ l) (cons p s) n =
        let a : lawful x.page ≡ true = at_page (λ (y : Placed). lawful y.page) x.at v x.page (unfold all_lawful in A.lawfuls) p in
        omega (arith, lawful_serial x a, below_next v x.at x.page p)

-- ---- what recovery gives at a moment with the same next serial

pub as_then : (v : World) (g : History) → Reached v g → (m : List ℕ) → length m ≡ length v.medium → Within (views m) (views v.medium) → next_serial (views m) ≡ next_serial (views v.medium)
    → every (tests (recover_needs (length m) (views m))) ≡ true → AsThen m v.medium g
as_then v g r m l w t e =
    let U = reached_upheld v g r in
    let P = shows_at v g r in
    let n : length (views m) ≡ length (views v.medium) = length_views m ∙ ap (λ (k : ℕ). k / 256) l ∙ sym (length_views v.medium) in
    let s : recover (length m) (views m) ≡ recover (length m) (views v.medium) =
    recover_same U.coupled.medium (views m) (accepted (length m) (views m) e) w t (length m) (rw l U.size) n e in
    let q : recover (length m) (views m) ≡ recover (length v.medium) (views v.medium) = s ∙ ap (λ (k : ℕ). recover k (views v.medium)) l in
    record {
      same = q;
      shows =
          record {
            log = P.log;
            state = P.state;
            accepts = q ∙ P.accepts;
            same_log = P.same_log;
            same_settings = words_within (views m) (views v.medium) P.state.index g.settings w (index_sound (length m) (views m) P.log P.state e (q ∙ P.accepts)) P.same_settings;
          };
      showed = P;
    }

-- at the moment at which its next serial was the faded medium's
pub as_since : (w v : World) (g : History) → Reached v g → (m : List ℕ) → length m ≡ length w.medium → Within (views m) (views w.medium)
    → OlderStand v.medium w.medium (next_serial (views m))
    → every (tests (recover_needs (length m) (views m))) ≡ true → AsThen m v.medium g
as_since w v g r m l within A e =
    as_then v g r m (l ∙ sym A.size)
    (to_within (views m) (views v.medium) (λ q y k. A.older q y (at_within (views m) (views w.medium) within q y k) (below_next (views m) q y k)))
    (sym A.next) e

-- ---- the claim

pub fades : Fades
unfolding Fades
fades w h r m f = recover_cases (length m) (views m) (λ n e. refuses n e) found
  where
    within : Within (views m) (views w.medium)
    within = faded_within w h (reached_upheld w h r) m f

    found : every (tests (recover_needs (length m) (views m))) ≡ true → RefusedOrAsThen r m
    found e =
        let A = moment_of w h r (next_serial (views m)) (next_two (views m) (accepted (length m) (views m) e)) (next_within (views m) (views w.medium) within) in
        let t = A.moment in
        shown t (as_since w t.world t.history t.reached m f.size within A.stand e)

-- ---- which refusals there are

same_refusal : (a n : ℕ) {A : Type 0} → ◌≡◌ {A = Answer A} (refused a) (refused n) → n ≡ a
same_refusal a n e = cc

four_to_six : {A : Type 0} (a b c : Bool) (x : A) (n : ℕ) → under (need 4 a ∷ need 5 b ∷ need 6 c ∷ []) (gives x) ≡ refused n → (4 ≤ n) × (n ≤ 6)
unfolding under
four_to_six false b c x n e = let z = same_refusal 4 n e in (omega arith, omega arith)
four_to_six true false c x n e = let z = same_refusal 5 n e in (omega arith, omega arith)
four_to_six true true false x n e = let z = same_refusal 6 n e in (omega arith, omega arith)
four_to_six true true true x n e = let z : ◌≡◌ {A = ℕ} 0 1 = cc in absurd (omega arith)

past_three : {A : Type 0} (a b c d e f : Bool) (x : A) (n : ℕ) → a ≡ true → b ≡ true → c ≡ true
    → under (need 1 a ∷ need 2 b ∷ need 3 c ∷ need 4 d ∷ need 5 e ∷ need 6 f ∷ []) (gives x) ≡ refused n → (4 ≤ n) × (n ≤ 6)
past_three a b c d e f x n p q r h = four_to_six d e f x n (unfold under in (rw (p, q, r) at h))

pub refused_with_4_to_6 : RefusedWith4To6
unfolding RefusedWith4To6 recover
refused_with_4_to_6 w h r m f n e =
    let U = reached_upheld w h r in
    let within = faded_within w h U m f in
    let S = U.coupled.medium in
    let l : length (views m) ≡ length (views w.medium) = length_views m ∙ ap (λ (k : ℕ). k / 256) f.size ∙ sym (length_views w.medium) in
    let size : size_ok (length m) ≡ true = rw f.size U.size in
    let lawfuls = lawful_within (views m) (views w.medium) within S.lawfuls in
    let distincts = distinct_within (views m) (views w.medium) l within S.distincts in
    past_three _ _ _ _ _ _ _ n size lawfuls distincts e

-- ---- one moment

pub no_mixture : NoMixture
unfolding NoMixture Fades
no_mixture w h r m f log s a = go (fades w h r m f)
  where
    go : RefusedOrAsThen r m → OfOneMoment r m log s
    go (refuses n e) = let z : refused n ≡ gives (recovery_with log s) = sym e ∙ a in let t : ◌≡◌ {A = ℕ} 0 1 = cc in absurd (omega arith)
    go (shown t A) =
        let S = A.shows in
        let z : gives (recovery_with S.log S.state) ≡ gives (recovery_with log s) = sym S.accepts ∙ a in
        let p : recovery_with S.log S.state ≡ recovery_with log s = cc in
        let l : S.log ≡ log = ap (λ (x : Recovery). x.log) p in
        let q : S.state ≡ s = ap (λ (x : Recovery). x.state) p in
        record {
          moment = t;
          log_then = sym l ∙ S.same_log;
          settings_then = subst (λ (x : Held). Words (views m) x.index t.history.settings) q S.same_settings;
        }
