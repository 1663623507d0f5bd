-- Paper 7: "On a medium reached as the valve log's statement describes, the whole log's effect, limit 22 aside, laid on the settings at the last
-- counted commit (none set before the first), gives recovery's settings."
use Rattle.std.specs.Prelude.{◌≡◌, Bool, true, false, cond, List, [], length, ℕ, zero, suc}
use Rattle.lists.specs.Cells.{Entry, Setting}
use Rattle.flash.specs.Medium.{views}
use Rattle.index.specs.Index.{assign_all}
use Rattle.state.specs.State.{Held}
use Rattle.lists.specs.Needs.{gives}
use Rattle.recovery.specs.Recovery.{recovery_with, recover as recover_of}
use Rattle.effects.specs.Effects.{effect}
use Rattle.valve_log.specs.History.{UnderWay, nothing, appending, committing, collecting, flushing, History, Told}
use Rattle.valve_log.specs.History.{unchanged, began_append, began_commit, began_collect, put_in, began_flush, stepped_page, stepped_block, recovery}
use Rattle.valve_log.specs.Reached.{World, happen, happened, Before, Reached, Words}

-- a commit has one page left, so that a step on a page finishes it and it counts
unfoldable pub commit_ends_next : UnderWay → Bool
commit_ends_next nothing = false
commit_ends_next (appending es n) = false
commit_ends_next (committing zero) = false
commit_ends_next (committing (suc zero)) = true
commit_ends_next (committing (suc (suc n))) = false
commit_ends_next collecting = false
commit_ends_next (flushing gs n) = false

-- a commit counts where the history h is told this
unfoldable pub commit_counts : History → Told → Bool
commit_counts h unchanged = false
commit_counts h (began_append es) = false
commit_counts h began_commit = false
commit_counts h began_collect = false
commit_counts h (put_in es) = false
commit_counts h began_flush = false
commit_counts h stepped_page = commit_ends_next h.under_way
commit_counts h stepped_block = false
commit_counts h recovery = false

-- The settings at the last counted commit, s so far, after what the history h is told: where a commit counts they are the history's.
unfoldable pub settings_at_commit : List Setting → History → Told → List Setting
settings_at_commit s h t = cond (commit_counts h t) h.settings s

-- along a list of calls and cuts; "none set before the first"
unfoldable pub last_committed_before : (w : World) (h : History) → Before w h → List Setting
last_committed_before w h (Before.start v F e) = []
last_committed_before w h (Before.next v g e b) = settings_at_commit (last_committed_before v g b) g (happened v e).told

unfoldable pub last_committed : (w : World) (h : History) → Reached w h → List Setting
last_committed w h (Reached.start v F e) = []
last_committed w h (Reached.next v g e r) = settings_at_commit (last_committed v g r) g (happen v e).told
last_committed w h (Reached.taken_over {w = v} {h = g} b) = last_committed_before v g b

-- Recovery is accepted, and the effect of its whole log, laid on some settings, gives its valves, each with the word at its address.
pub record Explains (m : List ℕ) (before : List Setting) : Type 0 where
  pub log : List (List Entry)
  pub state : Held
  pub accepts : recover_of (length m) (views m) ≡ gives (recovery_with log state)
  pub settings : Words (views m) state.index (assign_all before (effect log))

unfoldable pub EffectExplains : Type 0
EffectExplains = (w : World) (h : History) (r : Reached w h) → Explains w.medium (last_committed w h r)
