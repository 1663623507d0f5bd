-- A history's log is the last of the groups made along its list, and its settings are what all of them lead to; and what a log becomes where something counts.
use mathlib.Core.Path.{◌≡◌, refl, sym, ap, ◌∙◌}
use mathlib.Core.Bool.{Bool, true, false}
use mathlib.Core.List.{List, [], ◌∷◌, ◌++◌, append-nil, append_assoc}
use Prim.Native.Nat.{zero, suc}
use Rattle.lists.specs.Cells.{Entry, Setting}
use Rattle.lists.proofs.Laws.{true_false}
use Rattle.index.specs.Index.{assign_all}
use Rattle.valve_log.specs.History.{UnderWay, nothing, appending, committing, collecting, flushing, History, start as no_history, Told, unchanged}
use Rattle.valve_log.specs.History.{began_append, began_commit, began_collect, put_in, began_flush, stepped_page, stepped_block, recovery, assign_groups, counted, tell}
use Rattle.valve_log.specs.Reached.{World, happen, happened, Before, Reached}
use Rattle.valve_log.specs.SinceCommit.{commit_ends_next, commit_counts}
use Rattle.valve_log.specs.Made.{groups_finished, groups_counting, groups_made_before, groups_made, Tallied, MadeTallies}

-- ---- a history beside the groups made

groups_append : (s : List Setting) (a b : List (List Entry)) → assign_groups s (a ++ b) ≡ assign_groups (assign_groups s a) b
unfolding assign_groups
groups_append s [] b = refl
groups_append s (g ∷ a) b = groups_append (assign_all s g) a b

module _ (made : List (List Entry)) (h : History) (T : Tallied made h) (h' : History) where
  -- groups count
  joined : (new : List (List Entry)) → h'.log ≡ h.log ++ new → h'.settings ≡ assign_groups h.settings new → Tallied (made ++ new) h'
  joined new l s =
      record {
        before = T.before;
        ends = ap (λ (x : List (List Entry)). x ++ new) T.ends ∙ append_assoc T.before h.log new ∙ ap (◌++◌ T.before) (sym l);
        sets = groups_append [] made new ∙ ap (λ (x : List Setting). assign_groups x new) T.sets ∙ sym s;
      }

  none_new : h'.settings ≡ h.settings → assign_groups [] (made ++ []) ≡ h'.settings
  none_new s = ap (assign_groups []) (append-nil made) ∙ T.sets ∙ sym s

  same : h'.log ≡ h.log → h'.settings ≡ h.settings → Tallied (made ++ []) h'
  same l s = record { before = T.before; ends = append-nil made ∙ T.ends ∙ ap (◌++◌ T.before) (sym l); sets = none_new s }

  -- a commit counts
  emptied : h'.log ≡ [] → h'.settings ≡ h.settings → Tallied (made ++ []) h'
  emptied l s = record { before = made; ends = ap (◌++◌ made) (sym l); sets = none_new s }

module _ (made : List (List Entry)) (h : History) (T : Tallied made h) where
  counted_tallied : (u : UnderWay) → Tallied (made ++ groups_finished u) (counted h u)
  unfolding counted groups_finished
  counted_tallied nothing = same made h T h refl refl
  counted_tallied (appending es zero) = same made h T h refl refl
  counted_tallied (appending es (suc zero)) = joined made h T _ (es ∷ []) refl (unfold assign_groups in refl)
  counted_tallied (appending es (suc (suc n))) = same made h T _ refl refl
  counted_tallied (committing zero) = same made h T h refl refl
  counted_tallied (committing (suc zero)) = emptied made h T _ refl refl
  counted_tallied (committing (suc (suc n))) = same made h T _ refl refl
  counted_tallied collecting = same made h T h refl refl
  counted_tallied (flushing gs zero) = same made h T h refl refl
  counted_tallied (flushing gs (suc zero)) = joined made h T _ gs refl refl
  counted_tallied (flushing gs (suc (suc n))) = same made h T _ refl refl

  pub tell_tallied : (t : Told) → Tallied (made ++ groups_counting h t) (tell h t)
  unfolding tell groups_counting
  tell_tallied unchanged = same made h T h refl refl
  tell_tallied (began_append es) = same made h T _ refl refl
  tell_tallied began_commit = same made h T _ refl refl
  tell_tallied began_collect = same made h T _ refl refl
  tell_tallied (put_in es) = same made h T _ refl refl
  tell_tallied began_flush = same made h T _ refl refl
  tell_tallied stepped_page = counted_tallied h.under_way
  tell_tallied stepped_block = same made h T h refl refl
  tell_tallied recovery = same made h T _ refl refl

-- where the list starts there is none of either
pub start_tallied : Tallied [] no_history
unfolding assign_groups
start_tallied = record { before = []; ends = refl; sets = refl }

pub before_tallied : (w : World) (h : History) (b : Before w h) → Tallied (groups_made_before b) h
unfolding groups_made_before
before_tallied w h (Before.start v F e) = start_tallied
before_tallied w h (Before.next v g e b) = tell_tallied (groups_made_before b) g (before_tallied v g b) (happened v e).told

pub made_tallies : MadeTallies
unfolding MadeTallies groups_made
made_tallies w h (Reached.start v F e) = start_tallied
made_tallies w h (Reached.next v g e r) = tell_tallied (groups_made r) g (made_tallies v g r) (happen v e).told
made_tallies w h (Reached.taken_over {w = v} {h = g} b) = before_tallied v g b

-- ---- what a history's log becomes

counted_joins : (h : History) (u : UnderWay) → commit_ends_next u ≡ false → (counted h u).log ≡ h.log ++ groups_finished u
unfolding counted commit_ends_next groups_finished
counted_joins h nothing e = sym (append-nil h.log)
counted_joins h (appending es zero) e = sym (append-nil h.log)
counted_joins h (appending es (suc zero)) e = refl
counted_joins h (appending es (suc (suc n))) e = sym (append-nil h.log)
counted_joins h (committing zero) e = sym (append-nil h.log)
counted_joins h (committing (suc zero)) e = true_false refl e
counted_joins h (committing (suc (suc n))) e = sym (append-nil h.log)
counted_joins h collecting e = sym (append-nil h.log)
counted_joins h (flushing gs zero) e = sym (append-nil h.log)
counted_joins h (flushing gs (suc zero)) e = refl
counted_joins h (flushing gs (suc (suc n))) e = sym (append-nil h.log)

-- where no commit counts, the groups that count join the log
pub tell_joins : (h : History) (t : Told) → commit_counts h t ≡ false → (tell h t).log ≡ h.log ++ groups_counting h t
unfolding tell commit_counts groups_counting
tell_joins h unchanged e = sym (append-nil h.log)
tell_joins h (began_append es) e = sym (append-nil h.log)
tell_joins h began_commit e = sym (append-nil h.log)
tell_joins h began_collect e = sym (append-nil h.log)
tell_joins h (put_in es) e = sym (append-nil h.log)
tell_joins h began_flush e = sym (append-nil h.log)
tell_joins h stepped_page e = counted_joins h h.under_way e
tell_joins h stepped_block e = sym (append-nil h.log)
tell_joins h recovery e = sym (append-nil h.log)

-- where one does, the log is empty then, and no group counts
pub record Empties (h : History) (log new : List (List Entry)) : Type 0 where
  pub empty : log ≡ []
  pub none : new ≡ []

counted_empties : (h : History) (u : UnderWay) → commit_ends_next u ≡ true → Empties h (counted h u).log (groups_finished u)
unfolding counted commit_ends_next groups_finished
counted_empties h nothing e = true_false e refl
counted_empties h (appending es n) e = true_false e refl
counted_empties h (committing zero) e = true_false e refl
counted_empties h (committing (suc zero)) e = record { empty = refl; none = refl }
counted_empties h (committing (suc (suc n))) e = true_false e refl
counted_empties h collecting e = true_false e refl
counted_empties h (flushing gs n) e = true_false e refl

pub tell_empties : (h : History) (t : Told) → commit_counts h t ≡ true → Empties h (tell h t).log (groups_counting h t)
unfolding tell commit_counts groups_counting
tell_empties h unchanged e = true_false e refl
tell_empties h (began_append es) e = true_false e refl
tell_empties h began_commit e = true_false e refl
tell_empties h began_collect e = true_false e refl
tell_empties h (put_in es) e = true_false e refl
tell_empties h began_flush e = true_false e refl
tell_empties h stepped_page e = counted_empties h h.under_way e
tell_empties h stepped_block e = true_false e refl
tell_empties h recovery e = true_false e refl

-- ---- a commit under way

unfoldable pub is_committing : UnderWay → Bool
is_committing nothing = false
is_committing (appending es n) = false
is_committing (committing n) = true
is_committing collecting = false
is_committing (flushing gs n) = false

ends_committing : (u : UnderWay) → commit_ends_next u ≡ true → is_committing u ≡ true
unfolding commit_ends_next is_committing
ends_committing nothing e = e
ends_committing (appending es n) e = e
ends_committing (committing n) e = refl
ends_committing collecting e = e
ends_committing (flushing gs n) e = e

pub counts_committing : (h : History) (t : Told) → commit_counts h t ≡ true → is_committing h.under_way ≡ true
unfolding commit_counts
counts_committing h unchanged e = true_false e refl
counts_committing h (began_append es) e = true_false e refl
counts_committing h began_commit e = true_false e refl
counts_committing h began_collect e = true_false e refl
counts_committing h (put_in es) e = true_false e refl
counts_committing h began_flush e = true_false e refl
counts_committing h stepped_page e = ends_committing h.under_way e
counts_committing h stepped_block e = true_false e refl
counts_committing h recovery e = true_false e refl

-- it was begun just now, or it was under way before and no group counts
counted_committing : {P : Type 0} (h : History) (u : UnderWay) → h.under_way ≡ u → is_committing (counted h u).under_way ≡ true → (is_committing u ≡ true → groups_finished u ≡ [] → P) → P
unfolding counted is_committing groups_finished
counted_committing h nothing q e f = true_false (rw q at e) refl
counted_committing h (appending es zero) q e f = true_false (rw q at e) refl
counted_committing h (appending es (suc zero)) q e f = true_false e refl
counted_committing h (appending es (suc (suc n))) q e f = true_false e refl
counted_committing h (committing n) q e f = f refl refl
counted_committing h collecting q e f = true_false (rw q at e) refl
counted_committing h (flushing gs zero) q e f = true_false (rw q at e) refl
counted_committing h (flushing gs (suc zero)) q e f = true_false e refl
counted_committing h (flushing gs (suc (suc n))) q e f = true_false e refl

pub tell_committing : {P : Type 0} (h : History) (t : Told) → is_committing (tell h t).under_way ≡ true
    → (t ≡ began_commit → groups_counting h t ≡ [] → P) → (is_committing h.under_way ≡ true → groups_counting h t ≡ [] → P) → P
unfolding tell groups_counting
tell_committing h unchanged e f g = g e refl
tell_committing h (began_append es) e f g = true_false e (unfold is_committing in refl)
tell_committing h began_commit e f g = f refl refl
tell_committing h began_collect e f g = true_false e (unfold is_committing in refl)
tell_committing h (put_in es) e f g = g e refl
tell_committing h began_flush e f g = true_false e (unfold is_committing in refl)
tell_committing h stepped_page e f g = counted_committing h h.under_way refl e g
tell_committing h stepped_block e f g = g e refl
tell_committing h recovery e f g = true_false e (unfold is_committing in refl)
