-- When a faded medium still shows today's history, and that an earlier one can be shown.
use mathlib.Core.Path.{◌≡◌, refl, sym, ap, subst, ◌∙◌}
use mathlib.Core.Logic.{◌⊎◌, inl, inr}
use mathlib.Core.Bool.{Bool, true}
use Rattle.std.proofs.Common.{Option, None, Some}
use mathlib.Core.List.{List, [], ◌∷◌}
use Prim.Native.Nat.{ℕ, zero, suc, ◌+◌, ◌-◌, ◌*◌, ◌/◌, ◌≤◌, ◌<◌}
use native.Mathlib.Omega.{arith}
use native.Mathlib.Decide.{dec_lt, ℕ_discrete}
use lib.ListN.{length, get_or}
use lib.Dec.{eqb}
use borrow.Author.Tests.{eqb-true}
use Rattle.lists.specs.Lists.{Bytes, every}
use Rattle.lists.specs.Needs.{gives}
use Rattle.lists.specs.Cells.{Entry, Place, Setting}
use Rattle.lists.proofs.Laws.{by_cases, and_l, and_r, tests}
use Rattle.bits.specs.Bits.{bit}
use Rattle.codec.specs.Codec.{all_ones}
use Rattle.page.specs.Pages.{Page, View, clean, whole, is_whole}
use Rattle.page.specs.Layout.{whole_bytes, clean_bytes, view_of}
use Rattle.flash.specs.Medium.{page_at, views, seen, programmed}
use Rattle.flash.specs.Cuts.{bit_at, CutProgram}
use Rattle.flash.proofs.Laws.{seen_views, length_views}
use Rattle.flash.proofs.Steps.{get_page, length_page, program_length, program_outside}
use Rattle.nodes.specs.Nodes.{sound}
use Rattle.state.specs.State.{Held}
use Rattle.recovery.specs.Recovery.{Placed, Group, Recovery, recovery_with, recover_needs}
use Rattle.step.specs.Step.{Step, step_of, medium_after}
use Rattle.valve_log.specs.History.{History}
use Rattle.valve_log.specs.Reached.{World, world, with_state, step_due, Event, stepped, happen, Reached}
use Rattle.valve_log.proofs.Index.{words_keep, sound_keep}
use Rattle.valve_log.proofs.Views.{clean_is, Lost, one_keeps}
use Rattle.valve_log.proofs.Sound.{Sound, lost_sound, greatest, outcome, accepts}
use Rattle.valve_log.proofs.Coupling.{Coupled}
use Rattle.valve_log.proofs.Due.{Programs, Good}
use Rattle.valve_log.proofs.Events.{Upheld, there, others, due_good}
use Rattle.valve_log.proofs.Point3.{reached_upheld}
use Rattle.fading.specs.Fading.{Faded, now, earlier, AsThen}
use Rattle.fading.specs.Today.{refuses, shown, NewestDecides, NeededSuffice, SerialTells, OnlyPageGone, NewestGone, MayStay, MayGoBack}
use Rattle.fading.proofs.Standing.{not_whole, lost_of, Within, to_within, at_within, next_serial, next_is, below_next, next_most, next_within}
use Rattle.fading.proofs.Same.{accepted, recover_cases, met_where_accepted, serial_found, word_within}
use Rattle.fading.proofs.Moments.{OlderStand, older_apart, Along, along, moment_of, moment_from}
use Rattle.fading.proofs.Fading.{faded_within, next_two, as_then, as_since, shows_at}

-- ---- the newest page

pub newest_decides : NewestDecides
unfolding NewestDecides
newest_decides w h r m f N =
    recover_cases (length m) (views m) (λ n e. refuses n e)
    (λ e. shown (as_then w h r m f.size within (same (next_within (views m) (views w.medium) within) high) e))
  where
    within : Within (views m) (views w.medium)
    within = faded_within w h (reached_upheld w h r) m f

    high : next_serial (views w.medium) ≤ next_serial (views m)
    high = next_most (next_serial (views m)) (views w.medium) (omega (arith, next_is (views m))) (λ q y k. less q y (N.newest q y k) (below_next (views m) N.at N.page N.stands))
      where
        less : (q : ℕ) (y : Page) → y.serial ≤ N.page.serial → N.page.serial < next_serial (views m) → y.serial < next_serial (views m)
        less q y a b = omega arith

    same : next_serial (views m) ≤ next_serial (views w.medium) → next_serial (views w.medium) ≤ next_serial (views m) → next_serial (views m) ≡ next_serial (views w.medium)
    same a b = omega arith

-- ---- the next serial

pub serial_tells : SerialTells
unfolding SerialTells
serial_tells w h r p m f log log' noted found a b =
    record {
      same = λ z. shown_at p.world p.history p.reached (subst (OlderStand then w.medium) (omega (arith, i, j, z)) L.stand);
      lower = λ z.
          let A = moment_of p.world p.history p.reached (next_serial (views m)) (next_two (views m) (accepted (length m) (views m) e)) (omega (arith, i, j, z)) in
          let t = A.moment in
          record {
            moment = t;
            as_then = shown_at t.world t.history t.reached
                (older_apart t.world.medium then w.medium (next_serial (views m)) (next_serial (views then)) (omega (arith, i, j, z)) A.stand L.stand);
          };
      greater = λ z.
          let A = moment_from p.reached w h r p.passed (next_serial (views m)) (omega (arith, i, j, z)) (next_within (views m) (views w.medium) within) in
          let t = A.moment.moment in
          record { moment = t; passed = A.moment.passed; as_then = shown_at t.world t.history t.reached A.stand };
    }
  where
    then : List ℕ
    then = p.world.medium

    e : every (tests (recover_needs (length m) (views m))) ≡ true
    e = met_where_accepted (length m) (views m) log' found b

    within : Within (views m) (views w.medium)
    within = faded_within w h (reached_upheld w h r) m f

    L : Along then w.medium
    L = along p.reached w h r p.passed

    i : found.head.serial ≡ next_serial (views m)
    i = serial_found (length m) (views m) log' found b

    j : noted.head.serial ≡ next_serial (views then)
    j = serial_found (length then) (views then) log noted a

    shown_at : (v : World) (g : History) → Reached v g → OlderStand v.medium w.medium (next_serial (views m)) → AsThen m v.medium g
    shown_at v g q A = as_since w v g q m f.size within A e

-- ---- the pages that recovery needs

module _ {v : List View} {log : List (List Entry)} {settings : List Setting} {b : ℕ} {ch : List Placed} {gs : List Group} {idx : List Place} (S : Sound v log settings b ch gs idx) where
  outcome_base : (outcome S).head.base ≡ b
  unfolding outcome
  outcome_base = refl

  outcome_index : (outcome S).index ≡ idx
  unfolding outcome
  outcome_index = refl

-- a medium whose whole pages are pages of a reached one, all from its base on among them, and the nodes of its index too
module _ (w : World) (h : History) (r : Reached w h) (m : List ℕ) (long : length m ≡ length w.medium) (within : Within (views m) (views w.medium)) where
  abbrev U : Upheld w h
  U = reached_upheld w h r

  lost : ((q : ℕ) (x : Page) → seen (views w.medium) q ≡ whole x → U.coupled.b ≤ x.serial → seen (views m) q ≡ whole x) → (q : ℕ)
      → Lost U.coupled.b (seen (views w.medium) q) (seen (views m) q)
  lost f q = lost_of U.coupled.b (seen (views w.medium) q) (seen (views m) q) (λ pg e. at_within (views m) (views w.medium) within q pg e) (λ pg e k. f q pg e k)

  shows_today : ((q : ℕ) (x : Page) → seen (views w.medium) q ≡ whole x → U.coupled.b ≤ x.serial → seen (views m) q ≡ whole x) → sound (views m) U.coupled.idx ≡ true
      → AsThen m w.medium h
  shows_today chain sounds =
      as_then w h r m long within top (met_where_accepted (length m) (views m) h.log (outcome kept) (accepts kept (length m) (rw long U.size)))
    where
      kept : Sound (views m) h.log h.settings U.coupled.b U.coupled.ch U.coupled.gs U.coupled.idx
      kept =
          lost_sound U.coupled.medium (views m) (length_views m ∙ ap (λ (k : ℕ). k / 256) long ∙ sym (length_views w.medium)) (lost chain) sounds
          (sym (words_keep (views m) (views w.medium) U.coupled.idx (word_within (views m) (views w.medium) within) sounds))

      top : next_serial (views m) ≡ next_serial (views w.medium)
      top = next_is (views m) ∙ greatest kept ∙ sym (greatest U.coupled.medium) ∙ sym (next_is (views w.medium))

pub needed_suffice : NeededSuffice
unfolding NeededSuffice
needed_suffice w h r log s a m f N =
    shows_today w h r m f.size (faded_within w h (reached_upheld w h r) m f) (λ q x e k. N.chain q x e (rw first k)) (rw index at N.nodes)
  where
    K : Coupled (views w.medium) w.state h
    K = (reached_upheld w h r).coupled

    state : outcome K.medium ≡ s
    state =
        let e : gives (recovery_with h.log (outcome K.medium)) ≡ gives (recovery_with log s) = sym (accepts K.medium (length w.medium) (reached_upheld w h r).size) ∙ a in
        let p : recovery_with h.log (outcome K.medium) ≡ recovery_with log s = cc in
        ap (λ (x : Recovery). x.state) p

    index : s.index ≡ K.idx
    index = ap (λ (t : Held). t.index) (sym state) ∙ outcome_index K.medium

    first : s.head.base ≡ K.b
    first = ap (λ (t : Held). t.head.base) (sym state) ∙ outcome_base K.medium

-- ---- the claim is not empty

unchanged : (w : World) (h : History) → Reached w h → AsThen w.medium w.medium h
unchanged w h r = record { same = refl; shows = shows_at w h r; showed = shows_at w h r }

pub may_stay : MayStay
unfolding MayStay
may_stay w h r = (
  record { size = refl; bytes = (reached_upheld w h r).guarded.bytes; bits = λ i j l k. inr refl },
  unchanged w h r,
)

one : (i : ℕ) → i < 8 → bit i 255 ≡ 1
unfolding bit
one zero h = refl
one (suc zero) h = refl
one (suc (suc zero)) h = refl
one (suc (suc (suc zero))) h = refl
one (suc (suc (suc (suc zero)))) h = refl
one (suc (suc (suc (suc (suc zero))))) h = refl
one (suc (suc (suc (suc (suc (suc zero)))))) h = refl
one (suc (suc (suc (suc (suc (suc (suc zero))))))) h = refl
one (suc (suc (suc (suc (suc (suc (suc (suc i)))))))) h = absurd (omega arith)

ones_at : (xs : List ℕ) (i : ℕ) → all_ones xs ≡ true → i < length xs → get_or xs i 0 ≡ 255
unfolding all_ones
ones_at [] i e h = absurd (omega arith)
ones_at (x ∷ xs) zero e h = eqb-true x 255 (and_l (eqb x 255) (all_ones xs) e)
ones_at (x ∷ xs) (suc i) e h = ones_at xs i (and_r (eqb x 255) (all_ones xs) e) (omega arith)

clean_ones : (s : List ℕ) → view_of s ≡ clean → all_ones s ≡ true
unfolding view_of clean_bytes
clean_ones s e =
    by_cases (whole_bytes s) (λ a. let z = rw a at e in let t : ◌≡◌ {A = ℕ} 0 1 = cc in absurd (omega arith))
    (λ a. by_cases (eqb (length s) 256)
    (λ b. by_cases (all_ones s) (λ c. c) (λ c. let z = rw (a, b, c) at e in let t : ◌≡◌ {A = ℕ} 0 1 = cc in absurd (omega arith)))
    (λ b. let z = rw (a, b) at e in let t : ◌≡◌ {A = ℕ} 0 1 = cc in absurd (omega arith)))

-- a page that was clean, programmed, and all its bits then turned up
unprogrammed : (m : List ℕ) (p : ℕ) (pg : Page) → 256 * p + 256 ≤ length m → length pg.entries ≤ 24 → seen (views m) p ≡ clean → Bytes m → Faded (programmed m p pg) m
unprogrammed m p pg there few c bs =
    record { size = sym (program_length m p pg there few); bytes = bs; bits = λ i j l k. unfold bit_at in go i j k (dec_lt i (256 * p)) (dec_lt i (256 * p + 256)) }
  where
    go : (i j : ℕ) → j < 8 → Dec (i < 256 * p) → Dec (i < 256 * p + 256) → (bit j (get_or m i 0) ≡ 1) ⊎ (bit j (get_or m i 0) ≡ bit j (get_or (programmed m p pg) i 0))
    go i j l (yes a) b = inr (ap (bit j) (sym (program_outside m p pg there few i (inl a))))
    go i j l (no a) (no b) = inr (ap (bit j) (sym (program_outside m p pg there few i (inr (omega arith)))))
    go i j l (no a) (yes b) =
        let k : 256 * p + (i - 256 * p) ≡ i = omega arith in
        let o : get_or (page_at m p) (i - 256 * p) 0 ≡ 255 = ones_at (page_at m p) (i - 256 * p) (clean_ones (page_at m p) (sym (seen_views m p) ∙ c)) (omega (arith, length_page m p there)) in
        let g : get_or m (256 * p + (i - 256 * p)) 0 ≡ 255 = sym (get_page m p (i - 256 * p) there (omega arith)) ∙ o in
        inl (ap (bit j) (rw k at g) ∙ one j l)

-- the step due, where it programs a page
due_programs : (m : List ℕ) (t : Held) (bs : List ℕ) (h : History) → Upheld (world m (Some t) bs) h → (p : ℕ) (pg : Page) (s : Held) (finished : Bool)
    → step_due (world m (Some t) bs) ≡ gives (Step.program p pg s finished) → Programs (views m) t bs h p pg s
due_programs m t bs h U p pg s finished e = good (rw due at (due_good m t bs h U))
  where
    due : step_of (length m) (views m) t bs ≡ gives (Step.program p pg s finished)
    due = unfold step_due with_state in e

    good : Good (views m) t bs h (gives (Step.program p pg s finished)) → Programs (views m) t bs h p pg s
    good G = unfold Good in G

no_state_lem : {P : Type 0} (m bs : List ℕ) (x : Step) → step_due (world m None bs) ≡ gives x → P
unfolding step_due with_state
no_state_lem m bs x e = let z : ◌≡◌ {A = ℕ} 0 1 = cc in absurd (omega arith)

step_medium : (w : World) (p : ℕ) (pg : Page) (s : Held) (finished : Bool) → step_due w ≡ gives (Step.program p pg s finished) → (happen w Event.step).after.medium ≡ programmed w.medium p pg
unfolding happen
step_medium w p pg s finished e = rw e (unfold stepped medium_after in refl)

-- what that page may have faded to is what a cut inside the program may leave
as_cut_program : (m₀ : List ℕ) (p : ℕ) (pg : Page) → 256 * p + 256 ≤ length m₀ → length pg.entries ≤ 24
    → (m : List ℕ) → Faded (programmed m₀ p pg) m → OnlyPageGone (programmed m₀ p pg) m p → CutProgram m₀ p pg m
unfolding CutProgram
as_cut_program m₀ p pg there few m f G =
    record {
      size = f.size ∙ program_length m₀ p pg there few;
      bytes = f.bytes;
      inside = λ i j lo hi x. f.bits i j (omega (arith, program_length m₀ p pg there few)) x;
      outside = λ i o. G.others i o ∙ program_outside m₀ p pg there few i o;
    }

gone : (m₀ : List ℕ) (o : Option Held) (bs : List ℕ) (h : History) → Reached (world m₀ o bs) h → (p : ℕ) (pg : Page) (s : Held) (finished : Bool)
    → step_due (world m₀ o bs) ≡ gives (Step.program p pg s finished) → (m : List ℕ) → Faded (programmed m₀ p pg) m → OnlyPageGone (programmed m₀ p pg) m p → AsThen m m₀ h
unfolding CutProgram
gone m₀ None bs h r p pg s finished e m f G = no_state_lem m₀ bs _ e
gone m₀ (Some t) bs h r p pg s finished e m f G =
    shows_today (world m₀ (Some t) bs) h r m c.size (to_within (views m) (views m₀) (λ q y k. back q y k (ℕ_discrete q p))) (λ q y k b. onward q y k (ℕ_discrete q p))
    (sound_keep (views m₀) (views m) K.coupled.idx (one_keeps (views m₀) (views m) p P.cleans other) K.coupled.medium.sounds)
  where
    K : Upheld (world m₀ (Some t) bs) h
    K = reached_upheld (world m₀ (Some t) bs) h r

    P : Programs (views m₀) t bs h p pg s
    P = due_programs m₀ t bs h K p pg s finished e

    c : CutProgram m₀ p pg m
    c = as_cut_program m₀ p pg (there m₀ t bs h K p pg s P) P.fits_in.count m f G

    other : (q : ℕ) → (q ≡ p → ⊥) → seen (views m) q ≡ seen (views m₀) q
    other = others m₀ t bs h K p pg s P m c

    back : (q : ℕ) (y : Page) → seen (views m) q ≡ whole y → Dec (q ≡ p) → seen (views m₀) q ≡ whole y
    back q y k (yes z) = not_whole (seen (views m) q) (rw z G.gone) k
    back q y k (no z) = sym (other q z) ∙ k

    onward : (q : ℕ) (y : Page) → seen (views m₀) q ≡ whole y → Dec (q ≡ p) → seen (views m) q ≡ whole y
    onward q y k (yes z) = not_whole clean (unfold is_whole in refl) (sym (clean_is (seen (views m₀) p) P.cleans) ∙ (rw z at k))
    onward q y k (no z) = other q z ∙ k

pub newest_gone : NewestGone
unfolding NewestGone
newest_gone w h r p pg s finished e m f G =
    let z = step_medium w p pg s finished e in
    gone w.medium w.state w.buffer h r p pg s finished e m (rw z at f) (rw z at G)

go_back : (m : List ℕ) (o : Option Held) (bs : List ℕ) (h : History) → Upheld (world m o bs) h → (p : ℕ) (pg : Page) (s : Held) (finished : Bool)
    → step_due (world m o bs) ≡ gives (Step.program p pg s finished) → Faded (programmed m p pg) m
go_back m None bs h U p pg s finished e = no_state_lem m bs _ e
go_back m (Some t) bs h U p pg s finished e =
    let P = due_programs m t bs h U p pg s finished e in
    unprogrammed m p pg (there m t bs h U p pg s P) P.fits_in.count (clean_is (seen (views m) p) P.cleans) U.guarded.bytes

pub may_go_back : MayGoBack
unfolding MayGoBack
may_go_back w h r p pg s finished e =
    record {
      faded = rw (step_medium w p pg s finished e) (go_back w.medium w.state w.buffer h (reached_upheld w h r) p pg s finished e);
      passed = earlier Event.step now;
      shows = unchanged w h r;
    }
