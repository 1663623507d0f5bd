-- The lines of the example, from the worlds that its calls lead to.
use mathlib.Core.Path.{◌≡◌, refl, sym, ap, subst, ◌∙◌}
use mathlib.Core.Bool.{Bool, true, false, cond}
use Rattle.std.proofs.Common.{Some}
use mathlib.Core.List.{List, [], ◌∷◌, ◌++◌, append-nil}
use Prim.Native.Nat.{ℕ, ◌^◌, ◌≤◌, ◌<◌}
use native.Mathlib.Omega.{arith}
use lib.ListN.{length, replicate}
use Rattle.lists.proofs.Laws.{below_nil, below_cons}
use Rattle.lists.specs.Lists.{Below, every, all_below, table, count_below, all, one_if, value_or}
use Rattle.lists.specs.Needs.{gives, under}
use Rattle.lists.specs.Cells.{cell, Entry}
use Rattle.codec.specs.Codec.{le, packed, bytes_of}
use Rattle.trace.specs.Trace.{call_count, code_at, number_at, has_group, without_number, number_ok, pattern_size, data_size, data_below, data_start, formats_once, recovers_next, call_ok, has_lists, well_formed}
use Rattle.trace.specs.Trace.{Recorded, numbers_at, recorded_as, recorded_at, recorded}
use Rattle.page.specs.Pages.{View, clean, whole, is_clean, pages_for, changes_of}
use Rattle.page.proofs.Buffer.{gathered_blank}
use Rattle.flash.specs.Medium.{seen, wholly_clean}
use Rattle.index.specs.Index.{rising, rising_from, put, assign, assign_all, within, entry_allowed, entries_allowed}
use Rattle.blocks.specs.Blocks.{size_ok, available, spare, page_due}
use Rattle.state.specs.State.{append, Held, is_idle, fit, head_fit, index_fit, pending_fit, group_ok, done_fit, buffer_fit, groups_fit, fit_with, buffered_in}
use Rattle.calls.specs.Calls.{starting, zip, lists_ok, room_for, serials_for, holds_none, append_of}
use Rattle.step.specs.Step.{Step, is_last, group_page, appended, programming, append_step, due, programs_due, needs_erase, erased_first, step_of}
use Rattle.valve_log.specs.History.{History, start as no_history, began_append, stepped_page, tell, counted}
use Rattle.valve_log.specs.Reached.{World, world, fresh, with_state, step_due, Moment, moment, called, stepped, Reached}
use Rattle.player.specs.Lines.{Line, refusal_lines, summary, setting_lines}
use Rattle.player.specs.Run.{with_held, append_in, recover_in, played, played_recovery, start_world, lines_from, lines_of}
use Rattle.valve_log.proofs.Formats.{base_page, started}
use Rattle.recorded_runs.specs.Example.{example_trace, Example}
use Rattle.recorded_runs.proofs.Prints.{recovery_lines_lem}
use Rattle.recorded_runs.proofs.Along.{InForm}
use Rattle.recorded_runs.proofs.Reaches.{call_reached}
use Rattle.recorded_runs.proofs.Formatted.{FormattedWorld, formatted, format_lines, line_next}

formed : well_formed example_trace ≡ true
unfolding well_formed has_lists every call_count code_at number_at has_group without_number number_ok pattern_size data_size data_below data_start formats_once recovers_next
    call_ok all_below le packed bytes_of example_trace
formed = refl

abbrev step : Recorded
step = Recorded.step

calls : recorded example_trace ≡ Recorded.format 4 ∷ step ∷ step ∷ step ∷ step ∷ step ∷ Recorded.append (1 ∷ 2 ∷ []) (5 ∷ 7 ∷ []) ∷ step ∷ Recorded.recover ∷ []
unfolding recorded table recorded_at recorded_as numbers_at call_count code_at number_at has_group pattern_size data_size data_below data_start le packed bytes_of example_trace
calls = refl

-- ---- the pages after formatting, and the calls then

abbrev pub pages : List View
pages = whole base_page ∷ replicate 63 clean

abbrev pub group : List Entry
group = cell 1 5 ∷ cell 2 7 ∷ []

-- the append is accepted
begins : (e : List Bool) → append_of 16384 pages (started 4 e) fresh (1 ∷ 2 ∷ []) (5 ∷ 7 ∷ []) ≡ gives (starting (started 4 e) (append group []))
unfolding append_of under size_ok every fit_with fit head_fit index_fit pending_fit buffer_fit groups_fit rising rising_from all is_idle holds_none buffered_in value_or
    lists_ok zip entries_allowed entry_allowed within assign put pages_for room_for serials_for available spare wholly_clean all_below count_below one_if seen
    is_clean
begins e = rw gathered_blank refl

-- and its step programs page 1
writes : (e : List Bool)
    → step_of 16384 pages (starting (started 4 e) (append group [])) fresh ≡ gives (Step.program 1 (group_page 1 group 0 2) (appended (starting (started 4 e) (append group [])) group [] 1) true)
unfolding step_of under size_ok every fit_with fit head_fit index_fit pending_fit group_ok done_fit buffer_fit groups_fit rising rising_from all is_idle entries_allowed
    entry_allowed within assign put pages_for serials_for erased_first needs_erase programs_due due append_step programming page_due is_last seen is_clean
writes e = rw gathered_blank refl

-- ---- from the end of formatting on

abbrev pub appends : Recorded
appends = Recorded.append (1 ∷ 2 ∷ []) (5 ∷ 7 ∷ [])

abbrev pub expected : List Line
expected = Line.log_length 2 ∷ Line.valves_set 2 ∷ Line.setting 1 5 ∷ Line.setting 2 7 ∷ []

-- a recovery as the last call of a run
pub last_lines : (w : World) (h : History) → Reached w h → lines_from w (Recorded.recover ∷ []) ≡ summary h.log h.settings
unfolding lines_from played
last_lines w h r =
    ap (λ (l : List Line). (played_recovery w (recover_in w)).lines ++ l) (none_more (played_recovery w (recover_in w)).ends)
    ∙ append-nil (played_recovery w (recover_in w)).lines ∙ sym (recovery_lines_lem w h r)
  where
    none_more : (b : Bool) → cond {A = List Line} b [] [] ≡ []
    none_more true = refl
    none_more false = refl

-- what the history defines
pub told_lines_lem : summary (tell (tell no_history (began_append group)) stepped_page).log (tell (tell no_history (began_append group)) stepped_page).settings ≡ expected
unfolding tell counted pages_for assign_all assign put summary setting_lines changes_of
told_lines_lem = refl

narrow : (n a b : ℕ) → a < n → b < n → Below n (a ∷ b ∷ [])
narrow n a b x y = below_cons x (below_cons y (below_nil (omega arith)))

module _ (w : World) (F : FormattedWorld 4 w) where
  abbrev pub s : Held
  s = started 4 F.records

  -- after the append, and after its step
  abbrev pub appending : World
  appending = world w.medium (Some (starting s (append group []))) fresh

  begun : append_in w (1 ∷ 2 ∷ []) (5 ∷ 7 ∷ []) ≡ gives (starting s (append group []))
  unfolding with_held with_state
  begun = rw (F.state, F.buffer, F.long, F.sees) (begins F.records)

  pub due_there : step_due appending ≡ gives (Step.program 1 (group_page 1 group 0 2) (appended (starting s (append group [])) group [] 1) true)
  unfolding step_due with_state
  due_there = rw (F.long, F.sees) (writes F.records)

  pub append_played : (played w appends).moment ≡ moment w.medium (Some (starting s (append group []))) fresh (began_append group)
  unfolding played
  append_played = rw begun (unfold called zip in (rw F.buffer refl))

  pub append_quiet : (played w appends).lines ≡ []
  unfolding played refusal_lines
  append_quiet = rw begun refl

  step_told : (played appending step).moment.told ≡ stepped_page
  unfolding played stepped
  step_told = rw due_there refl

  step_quiet : (played appending step).lines ≡ []
  unfolding played refusal_lines
  step_quiet = rw due_there refl

  -- the world after both
  abbrev over : World
  over = (played appending step).moment.after

  abbrev pub told : History
  told = tell (tell no_history (began_append group)) stepped_page

  pub small : length w.medium ≤ 65536
  small = omega (arith, F.long)

  pub begun_reached : Reached appending (tell no_history (began_append group))
  begun_reached =
      subst (λ (k : Moment). Reached k.after (tell no_history k.told)) append_played
      (call_reached w no_history appends F.reached small
      (unfold InForm in (narrow (2 ^ 16) 1 2 (omega arith) (omega arith), narrow (2 ^ 64) 5 7 (omega arith) (omega arith))))

  over_reached : Reached over told
  over_reached = rw step_told at (call_reached appending (tell no_history (began_append group)) step begun_reached small (unfold InForm in tt))

  recover_lines : lines_from over (Recorded.recover ∷ []) ≡ expected
  recover_lines = last_lines over told over_reached ∙ told_lines_lem

  pub then : lines_from w (appends ∷ step ∷ Recorded.recover ∷ []) ≡ expected
  then =
      line_next w appending appends (step ∷ Recorded.recover ∷ []) append_quiet (unfold played in refl) (ap (λ (k : Moment). k.after) append_played)
      ∙ line_next appending over step (Recorded.recover ∷ []) step_quiet (unfold played in refl) refl ∙ recover_lines

-- a trace of the form that starts with a format of 4 blocks and five steps: its lines are those of the calls then
pub lines_after : (t : List ℕ) (cs : List Recorded) (ls : List Line) → well_formed t ≡ true → number_at t 0 ≡ 4
    → recorded t ≡ Recorded.format 4 ∷ replicate 5 Recorded.step ++ cs → ((w : World) → FormattedWorld 4 w → lines_from w cs ≡ ls) → lines_of t ≡ ls
unfolding lines_of start_world
lines_after t cs ls f n r k =
    let low : 4 ≤ 4 = omega arith in let high : 4 ≤ 16 = omega arith in
    rw (f, n, r) (format_lines 4 low high cs ∙ k _ (formatted 4 low high))

blocks : number_at example_trace 0 ≡ 4
unfolding number_at call_count le packed bytes_of example_trace
blocks = refl

pub example : Example
example = record { formed = formed; lines = lines_after example_trace (appends ∷ step ∷ Recorded.recover ∷ []) expected formed blocks calls then }
