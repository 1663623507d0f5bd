-- The write buffer beside state and history: its bytes are those of the history's buffered groups.
use mathlib.Core.Path.{◌≡◌, refl, sym, ap, ◌∙◌}
use mathlib.Core.Bool.{Bool, true, false, cond}
use Rattle.std.proofs.Common.{Option, None, Some}
use mathlib.Core.List.{List, [], ◌∷◌, ◌++◌}
use Prim.Native.Nat.{ℕ, zero, suc, ◌+◌, ◌≤◌}
use native.Mathlib.Omega.{arith}
use lib.ListN.{length, length-append}
use borrow.Author.Tests.{le-leb, ne_eqb}
use Rattle.lists.specs.Lists.{all, every, value_or}
use Rattle.lists.specs.Cells.{Entry, Place, keys_of, words_of}
use Rattle.lists.proofs.Laws.{true_false, and_both, below_nil, below_append, every_at, all_head, all_tail, all_cons, all_snoc, all_weaken}
use Rattle.codec.specs.Codec.{blank}
use Rattle.page.specs.Pages.{View, changes_of}
use Rattle.page.specs.Rules.{entry_ok}
use Rattle.page.specs.Buffer.{gathered, holding}
use Rattle.page.proofs.Buffer.{filled, Fitting, gathered_holding}
use Rattle.page.proofs.More.{changes_snoc}
use Rattle.index.specs.Index.{within, entries_allowed}
use Rattle.state.specs.State.{Pending, idle, append, commit, collect, format, flush, unnamed, Held, fit, flush_ok, groups_fit, buffer_fit, fit_with, buffered_in, is_idle}
use Rattle.valve_log.specs.History.{UnderWay, appending, committing, flushing, History, history, counted}
use Rattle.valve_log.proofs.Index.{keys_append}
use Rattle.valve_log.proofs.Small.{Small}

-- while an append, a commit or a collection is pending nothing is buffered (24), and a flush has under way what is
unfoldable pub Beside : Pending → UnderWay → List (List Entry) → Type 0
Beside idle u gs = Unit {0}
Beside (append es ps) u gs = gs ≡ []
Beside (commit k) u gs = gs ≡ []
Beside (collect b) u gs = gs ≡ []
Beside (format n) u gs = Unit {0}
Beside flush u gs = (u ≡ flushing gs 1) × (1 ≤ length gs)
Beside unnamed u gs = Unit {0}

pub record Lent (s : Held) (b : List ℕ) (h : History) : Type 0 where
  pub holds : b ≡ holding h.buffered
  pub fits_in : Fitting h.buffered
  pub count : within s.index (changes_of h.buffered) ≡ true
  pub beside : Beside s.pending h.under_way h.buffered

-- a state that a cut lost is lent no buffer
pub data Lending (b : List ℕ) (h : History) : Option Held → Type 0 where
  lost : Lending b h None
  kept : {s : Held} → Lent s b h → Lending b h (Some s)

pub lent_of : {s : Held} {b : List ℕ} {h : History} → Lending b h (Some s) → Lent s b h
lent_of (kept l) = l

-- the groups that the rules see are the history's
pub lent_gathered : {s : Held} {b : List ℕ} {h : History} → Lent s b h → gathered b ≡ Some h.buffered
lent_gathered {h = h} l = ap gathered l.holds ∙ gathered_holding h.buffered l.fits_in

pub lent_groups : {s : Held} {b : List ℕ} {h : History} → Lent s b h → buffered_in b ≡ h.buffered
unfolding buffered_in value_or
lent_groups l = rw (lent_gathered l)

-- ---- condition 7

pub state_fit : (v : List View) (s : Held) (b : List ℕ) → fit_with v s b ≡ true → fit v s ≡ true
unfolding fit_with
state_fit v s b w = every_at 0 _ w

-- ---- nothing buffered

unfoldable pub not_flush : Pending → Bool
not_flush idle = true
not_flush (append es ps) = true
not_flush (commit k) = true
not_flush (collect b) = true
not_flush (format n) = true
not_flush flush = false
not_flush unnamed = true

beside_none : (p : Pending) (u : UnderWay) (gs : List (List Entry)) → not_flush p ≡ true → gs ≡ [] → Beside p u gs
unfolding not_flush Beside
beside_none idle u gs n e = tt
beside_none (append es ps) u gs n e = e
beside_none (commit k) u gs n e = e
beside_none (collect b) u gs n e = e
beside_none (format k) u gs n e = tt
beside_none flush u gs n e = Rattle.lists.proofs.Laws.true_false n refl
beside_none unnamed u gs n e = tt

fitting_none : Fitting []
fitting_none =
    record {
      each = unfold all in refl;
      few = unfold changes_of in omega arith;
      entries = unfold changes_of all in refl;
      keys = unfold changes_of keys_of in below_nil (omega arith);
      words = unfold changes_of words_of in below_nil (omega arith);
    }

pub lent_none : (s : Held) (b : List ℕ) (h : History) → b ≡ blank 256 → h.buffered ≡ [] → not_flush s.pending ≡ true → Lent s b h
lent_none s b h e g n =
    record {
      holds = e ∙ (unfold holding in sym (ap holding g));
      fits_in = rw g fitting_none;
      count = rw g (unfold changes_of within in refl);
      beside = beside_none s.pending h.under_way h.buffered n g;
    }

-- after a step of another operation than a flush: nothing is buffered before and after
pub lent_after : (s s' : Held) (b : List ℕ) (h h' : History) (k : Bool) → Lent s b h → h.buffered ≡ [] → h'.buffered ≡ h.buffered → not_flush s'.pending ≡ true → Lent s' (cond k (blank 256) b) h'
lent_after s s' b h h' k l e f n = lent_none s' (cond k (blank 256) b) h' (same k) (f ∙ e) n
  where
    blanks : b ≡ blank 256
    blanks = l.holds ∙ ap holding e ∙ (unfold holding in refl)

    same : (k : Bool) → cond k (blank 256) b ≡ blank 256
    same true = refl
    same false = blanks

-- what a step of these counts leaves buffered
pub kept_append : (h : History) (es : List Entry) (n : ℕ) → (counted h (appending es n)).buffered ≡ h.buffered
unfolding counted
kept_append h es zero = refl
kept_append h es (suc zero) = refl
kept_append h es (suc (suc n)) = refl

pub kept_commit : (h : History) (n : ℕ) → (counted h (committing n)).buffered ≡ h.buffered
unfolding counted
kept_commit h zero = refl
kept_commit h (suc zero) = refl
kept_commit h (suc (suc n)) = refl

-- ---- a group more

pub all_join : (f : Entry → Bool) (a b : List Entry) → all f a ≡ true → all f b ≡ true → all f (a ++ b) ≡ true
all_join f [] b x y = y
all_join f (e ∷ a) b x y = all_cons f e (a ++ b) (all_head f e a x) (all_join f a b (all_tail f e a x) y)

words_append : (a b : List Entry) → words_of (a ++ b) ≡ words_of a ++ words_of b
unfolding words_of
words_append [] b = refl
words_append (e ∷ a) b = rw (words_append a b)

fitting_more : (gs : List (List Entry)) (es : List Entry) → Fitting gs → Small es → 1 ≤ length es → length (changes_of gs) + length es ≤ 16 → all (entry_ok 4) es ≡ true → Fitting (gs ++ (es ∷ []))
fitting_more gs es F S one few r =
    record {
      each = all_snoc filled gs es ∙ and_both F.each (le-leb 1 (length es) one);
      few = rw (changes_snoc gs es) (omega (arith, length-append (changes_of gs) es));
      entries = rw (changes_snoc gs es) (all_join (entry_ok 4) (changes_of gs) es F.entries r);
      keys = rw (changes_snoc gs es, keys_append (changes_of gs) es) (below_append (keys_of (changes_of gs)) (keys_of es) F.keys S.keys);
      words = rw (changes_snoc gs es, words_append (changes_of gs) es) (below_append (words_of (changes_of gs)) (words_of es) F.words S.words);
    }

beside_idle : (p : Pending) (u : UnderWay) (gs : List (List Entry)) → is_idle p ≡ true → Beside p u gs
unfolding is_idle Beside
beside_idle idle u gs n = tt
beside_idle (append es ps) u gs n = true_false n refl
beside_idle (commit k) u gs n = true_false n refl
beside_idle (collect b) u gs n = true_false n refl
beside_idle (format k) u gs n = true_false n refl
beside_idle flush u gs n = true_false n refl
beside_idle unnamed u gs n = true_false n refl

pub lent_more : {s : Held} {b : List ℕ} {h : History} → Lent s b h → (es : List Entry) → is_idle s.pending ≡ true → Small es → 1 ≤ length es → length (changes_of (buffered_in b)) + length es ≤ 16
    → all (entry_ok 4) es ≡ true → within s.index (changes_of (buffered_in b) ++ es) ≡ true
    → Lent s (holding (buffered_in b ++ (es ∷ []))) (history h.settings h.log h.under_way (h.buffered ++ (es ∷ [])))
lent_more {s} {b} {h} L es i S one few r w =
    record {
      holds = ap (λ (t : List (List Entry)). holding (t ++ (es ∷ []))) g;
      fits_in = fitting_more h.buffered es L.fits_in S one (rw g at few) r;
      count = rw (changes_snoc h.buffered es) (rw g at w);
      beside = beside_idle s.pending h.under_way (h.buffered ++ (es ∷ [])) i;
    }
  where
    g : buffered_in b ≡ h.buffered
    g = lent_groups L

-- ---- the buffer is fit

flush_fit : (index : List Place) (gs : List (List Entry)) → entries_allowed (changes_of gs) ≡ true → 1 ≤ length gs → within index (changes_of gs) ≡ true → flush_ok index gs ≡ true
unfolding flush_ok every
flush_fit index gs F n w = rw (ne_eqb (length gs) 0 (λ z. omega arith), F, w)

groups_fit_lem : (index : List Place) (p : Pending) (u : UnderWay) (gs : List (List Entry)) → entries_allowed (changes_of gs) ≡ true
    → within index (changes_of gs) ≡ true → Beside p u gs → groups_fit index p gs ≡ true
unfolding groups_fit Beside
groups_fit_lem index idle u gs F w B = refl
groups_fit_lem index (append es ps) u gs F w B = refl
groups_fit_lem index (commit k) u gs F w B = refl
groups_fit_lem index (collect b) u gs F w B = refl
groups_fit_lem index (format n) u gs F w B = refl
groups_fit_lem index flush u gs F w B = flush_fit index gs F B.1 w
groups_fit_lem index unnamed u gs F w B = refl

pub with_fit : (v : List View) {s : Held} {b : List ℕ} {h : History} → Lent s b h → entries_allowed (changes_of h.buffered) ≡ true → fit v s ≡ true → fit_with v s b ≡ true
unfolding fit_with buffer_fit every
with_fit v {s} {b} {h} L A f = rw (f, lent_gathered L, groups_fit_lem s.index s.pending h.under_way h.buffered A L.count L.beside)
