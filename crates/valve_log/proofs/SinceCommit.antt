-- The whole log's effect on the settings at the last counted commit.
use mathlib.Core.Path.{◌≡◌, refl, sym, ap, ◌∙◌, subst}
use mathlib.Core.Bool.{true, cond}
use mathlib.Core.List.{List, [], ◌∷◌, ◌++◌, append-nil}
use Prim.Native.Nat.{ℕ, zero, suc}
use native.Mathlib.Omega.{arith}
use lib.Dec.{eqb}
use borrow.Author.Tests.{eqb-true, eqb-false}
use Rattle.lists.specs.Cells.{Entry, Setting}
use Rattle.lists.proofs.Laws.{by_cases}
use Rattle.page.specs.Pages.{changes_of}
use Rattle.page.proofs.More.{changes_append}
use Rattle.flash.specs.Medium.{views}
use Rattle.index.specs.Index.{valve_of, lookup, rising, rising_from, assign, assign_all}
use Rattle.index.proofs.Rising.{assign_rising}
use Rattle.effects.specs.Effects.{touch, join, effect, ascends_from, ascends}
use Rattle.effects.proofs.Laws.{by_order, touch_before, touch_same, touch_after, ascends_head, ascends_tail, ascends_cons, ascends_lower, nothing_ascends, touch_ascends, effect_changes}
use Rattle.index.proofs.Lookup.{valve, assign_it, assign_else, same_list}
use Rattle.index.proofs.Entries.{all_rising, assign_append}
use Rattle.valve_log.specs.History.{UnderWay, nothing, appending, committing, collecting, flushing, History, start as no_history, Told, unchanged}
use Rattle.valve_log.specs.History.{began_append, began_commit, began_collect, put_in, began_flush, stepped_page, stepped_block, recovery, counted, tell}
use Rattle.valve_log.specs.Reached.{World, happen, happened, Before, Reached, Words, Point3}
use Rattle.valve_log.specs.SinceCommit.{commit_ends_next, commit_counts, settings_at_commit, last_committed_before, last_committed, EffectExplains}
use Rattle.valve_log.proofs.Point3.{point3}
use Rattle.valve_log.proofs.Steps.{assign_groups_lem}

-- ---- two entries on settings

module _ (s : List Setting) (x e : Entry) (r : rising s ≡ true) where
  -- of two valves, in either order
  swapped : (valve_of x ≡ valve_of e → ⊥) → assign (assign s x) e ≡ assign (assign s e) x
  unfolding rising valve
  swapped d =
      same_list (assign (assign s x) e) (assign (assign s e) x) 0 0 (assign_rising (assign s x) e (assign_rising s x r)) (assign_rising (assign s e) x (assign_rising s e r))
      (λ k. by_cases (eqb k (valve_of e)) (λ q. first k (eqb-true k (valve_of e) q)) (λ q. others k (eqb-false k (valve_of e) q)))
    where
      first : (k : ℕ) → k ≡ valve_of e → lookup k (assign (assign s x) e) ≡ lookup k (assign (assign s e) x)
      first k q =
          ap (λ (i : ℕ). lookup i (assign (assign s x) e)) q ∙ assign_it (assign s x) e (assign_rising s x r)
          ∙ sym (ap (λ (i : ℕ). lookup i (assign (assign s e) x)) q ∙ assign_else (assign s e) x (valve_of e) (assign_rising s e r) (λ z. d (sym z)) ∙ assign_it s e r)

      others : (k : ℕ) → (k ≡ valve_of e → ⊥) → lookup k (assign (assign s x) e) ≡ lookup k (assign (assign s e) x)
      others k n =
          assign_else (assign s x) e k (assign_rising s x r) n
          ∙ by_cases (eqb k (valve_of x))
          (λ q. let z = eqb-true k (valve_of x) q in ap (λ (i : ℕ). lookup i (assign s x)) z ∙ assign_it s x r
          ∙ sym (ap (λ (i : ℕ). lookup i (assign (assign s e) x)) z ∙ assign_it (assign s e) x (assign_rising s e r)))
          (λ q. let z = eqb-false k (valve_of x) q in assign_else s x k r z ∙ sym (assign_else (assign s e) x k (assign_rising s e r) z ∙ assign_else s e k r n))

  -- of one valve, the later stands
  covered : valve_of x ≡ valve_of e → assign (assign s x) e ≡ assign s e
  unfolding rising valve
  covered d =
      same_list (assign (assign s x) e) (assign s e) 0 0 (assign_rising (assign s x) e (assign_rising s x r)) (assign_rising s e r)
      (λ k. by_cases (eqb k (valve_of e))
      (λ q. let z = eqb-true k (valve_of e) q in ap (λ (i : ℕ). lookup i (assign (assign s x) e)) z
      ∙ assign_it (assign s x) e (assign_rising s x r)
      ∙ sym (ap (λ (i : ℕ). lookup i (assign s e)) z ∙ assign_it s e r))
      (λ q. let z = eqb-false k (valve_of e) q in assign_else (assign s x) e k (assign_rising s x r) z ∙ assign_else s x k r (λ w. z (w ∙ d)) ∙ sym (assign_else s e k r z)))

-- ---- an effect laid on settings

-- an entry before those of higher valves, or after them
past_all : (s : List Setting) (e : Entry) (a : List Entry) → rising s ≡ true → ascends_from (suc (valve_of e)) a ≡ true → assign_all (assign s e) a ≡ assign (assign_all s a) e
unfolding assign_all
past_all s e [] r h = refl
past_all s e (x ∷ a) r h =
    let l = ascends_head (suc (valve_of e)) x a h in
    ap (λ (t : List Setting). assign_all t a) (swapped s e x r (λ q. absurd (omega arith)))
    ∙ past_all (assign s x) e a (assign_rising s x r) (ascends_lower (suc (valve_of e)) (suc (valve_of x)) a (omega arith) (ascends_tail (suc (valve_of e)) x a h))

touch_laid : (m : ℕ) (s : List Setting) (a : List Entry) (e : Entry) → rising s ≡ true → ascends_from m a ≡ true → assign_all s (touch a e) ≡ assign (assign_all s a) e
unfolding assign_all touch
touch_laid m s [] e r h = refl
touch_laid m s (x ∷ a) e r h =
    by_order (valve_of e) (valve_of x)
    (λ p. ap (assign_all s) (touch_before x e a p) ∙ past_all s e (x ∷ a) r (ascends_cons (suc (valve_of e)) x a p (ascends_tail m x a h)))
    (λ p. ap (assign_all s) (touch_after x e a p) ∙ touch_laid (suc (valve_of x)) (assign s x) a e (assign_rising s x r) (ascends_tail m x a h))
    (λ p. ap (assign_all s) (touch_same x e a p)
    ∙ past_all s e a r (ascends_lower (suc (valve_of e)) (suc (valve_of x)) a (omega arith) (ascends_tail m x a h))
    ∙ covers p)
  where
    covers : valve_of e ≡ valve_of x → assign (assign_all s a) e ≡ assign (assign_all (assign s x) a) e
    covers p =
        let l = ascends_tail m x a h in
        sym (ap (λ (t : List Setting). assign t e) (past_all s x a r l) ∙ covered (assign_all s a) x e (all_rising s a r) (sym p))

join_laid : (s : List Setting) (a es : List Entry) → rising s ≡ true → ascends a ≡ true → assign_all s (join a es) ≡ assign_all (assign_all s a) es
unfolding join assign_all ascends
join_laid s a [] r h = refl
join_laid s a (e ∷ es) r h = join_laid s (touch a e) es r (touch_ascends a e h) ∙ ap (λ (t : List Setting). assign_all t es) (touch_laid 0 s a e r h)

-- an effect gives what the changes give one by one
pub effect_laid : (s : List Setting) (gs : List (List Entry)) → rising s ≡ true → assign_all s (effect gs) ≡ assign_all s (changes_of gs)
unfolding assign_all
effect_laid s gs r = ap (assign_all s) (effect_changes gs) ∙ join_laid s [] (changes_of gs) r nothing_ascends

-- ---- a history and the settings at its last counted commit

pub record Since (h : History) (s : List Setting) : Type 0 where
  pub rises : rising s ≡ true
  pub rises_now : rising h.settings ≡ true
  pub so : assign_all s (changes_of h.log) ≡ h.settings

-- groups that join the log
joined_since : (h : History) (s : List Setting) (gs : List (List Entry)) → Since h s → assign_all s (changes_of (h.log ++ gs)) ≡ assign_all h.settings (changes_of gs)
joined_since h s gs k =
    ap (assign_all s) (changes_append h.log gs) ∙ assign_append s (changes_of h.log) (changes_of gs) ∙ ap (λ (t : List Setting). assign_all t (changes_of gs)) k.so

one_group : (es : List Entry) → changes_of (es ∷ []) ≡ es
unfolding changes_of
one_group es = append-nil es

nothing_since : (s : List Setting) → assign_all s (changes_of []) ≡ s
unfolding changes_of assign_all
nothing_since s = refl

counted_since : (h : History) (s : List Setting) (u : UnderWay) → Since h s → Since (counted h u) (cond (commit_ends_next u) h.settings s)
unfolding counted commit_ends_next
counted_since h s nothing k = k
counted_since h s (appending es zero) k = k
counted_since h s (appending es (suc zero)) k =
    record {
      rises = k.rises;
      rises_now = all_rising h.settings es k.rises_now;
      so = joined_since h s (es ∷ []) k ∙ ap (assign_all h.settings) (one_group es);
    }
counted_since h s (appending es (suc (suc n))) k = record { rises = k.rises; rises_now = k.rises_now; so = k.so }
counted_since h s (committing zero) k = k
counted_since h s (committing (suc zero)) k = record { rises = k.rises_now; rises_now = k.rises_now; so = nothing_since h.settings }
counted_since h s (committing (suc (suc n))) k = record { rises = k.rises; rises_now = k.rises_now; so = k.so }
counted_since h s collecting k = k
counted_since h s (flushing gs zero) k = k
counted_since h s (flushing gs (suc zero)) k =
    record {
      rises = k.rises;
      rises_now = ap rising (assign_groups_lem h.settings gs) ∙ all_rising h.settings (changes_of gs) k.rises_now;
      so = joined_since h s gs k ∙ sym (assign_groups_lem h.settings gs);
    }
counted_since h s (flushing gs (suc (suc n))) k = record { rises = k.rises; rises_now = k.rises_now; so = k.so }

pub tell_since : (h : History) (s : List Setting) (t : Told) → Since h s → Since (tell h t) (settings_at_commit s h t)
unfolding tell settings_at_commit commit_counts
tell_since h s unchanged k = k
tell_since h s (began_append es) k = record { rises = k.rises; rises_now = k.rises_now; so = k.so }
tell_since h s began_commit k = record { rises = k.rises; rises_now = k.rises_now; so = k.so }
tell_since h s began_collect k = record { rises = k.rises; rises_now = k.rises_now; so = k.so }
tell_since h s (put_in es) k = record { rises = k.rises; rises_now = k.rises_now; so = k.so }
tell_since h s began_flush k = record { rises = k.rises; rises_now = k.rises_now; so = k.so }
tell_since h s stepped_page k = counted_since h s h.under_way k
tell_since h s stepped_block k = k
tell_since h s recovery k = record { rises = k.rises; rises_now = k.rises_now; so = k.so }

pub start_since : Since no_history []
unfolding rising rising_from changes_of assign_all
start_since = record { rises = refl; rises_now = refl; so = refl }

-- so the log's effect gives the settings
pub since_effect : (h : History) (s : List Setting) → Since h s → assign_all s (effect h.log) ≡ h.settings
since_effect h s k = effect_laid s h.log k.rises ∙ k.so

pub before_since : (w : World) (h : History) (b : Before w h) → Since h (last_committed_before w h b)
unfolding last_committed_before
before_since w h (Before.start v F e) = start_since
before_since w h (Before.next v g e b) = tell_since g (last_committed_before v g b) (happened v e).told (before_since v g b)

reached_since : (w : World) (h : History) (r : Reached w h) → Since h (last_committed w h r)
unfolding last_committed
reached_since w h (Reached.start v F e) = start_since
reached_since w h (Reached.next v g e r) = tell_since g (last_committed v g r) (happen v e).told (reached_since v g r)
reached_since w h (Reached.taken_over {w = v} {h = g} b) = before_since v g b

pub effect_explains : EffectExplains
unfolding EffectExplains Point3
effect_explains w h r =
    let P = point3 w h r in
    let z : h.settings ≡ assign_all (last_committed w h r) (effect P.log) =
    sym (since_effect h (last_committed w h r) (reached_since w h r)) ∙ ap (λ (l : List (List Entry)). assign_all (last_committed w h r) (effect l)) (sym P.same_log) in
    record {
      log = P.log;
      state = P.state;
      accepts = P.accepts;
      settings = subst (λ (s : List Setting). Words (views w.medium) P.state.index s) z P.same_settings;
    }
