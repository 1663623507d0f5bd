-- The lines of the traces that are refused.
use mathlib.Core.Path.{◌≡◌, refl}
use mathlib.Core.Bool.{Bool, true, false}
use mathlib.Core.List.{List, [], ◌∷◌, ◌++◌}
use Prim.Native.Nat.{ℕ}
use lib.ListN.{replicate}
use Rattle.lists.specs.Lists.{every, all_below, table, all, value_or}
use Rattle.lists.specs.Needs.{refused, under}
use Rattle.codec.specs.Codec.{le, packed, bytes_of}
use Rattle.page.proofs.Buffer.{gathered_blank}
use Rattle.index.specs.Index.{rising, rising_from, within}
use Rattle.blocks.specs.Blocks.{size_ok}
use Rattle.state.specs.State.{is_idle, fit, head_fit, index_fit, pending_fit, buffer_fit, groups_fit, fit_with, buffered_in}
use Rattle.step.specs.Step.{step_of}
use Rattle.valve_log.specs.Reached.{World, fresh, with_state, step_due}
use Rattle.valve_log.proofs.Formats.{started}
use Rattle.trace.specs.Trace.{call_count, code_at, number_at, has_group, without_number, number_ok, pattern_size, data_size, data_below, data_start, formats_once, recovers_next, call_ok, has_lists, well_formed}
use Rattle.trace.specs.Trace.{Recorded, numbers_at, recorded_as, recorded_at, recorded}
use Rattle.player.specs.Lines.{Line}
use Rattle.player.specs.Run.{played, played_cut, lines_from, lines_of}
use Rattle.recorded_runs.specs.Example.{example_trace, no_call_trace, longer_trace, cut_last_trace, nothing_due_trace, RefusedExamples}
use Rattle.recorded_runs.proofs.Formatted.{FormattedWorld}
use Rattle.recorded_runs.proofs.Example.{pages, lines_after}

-- ---- 26

lines_26 : (t : List ℕ) → well_formed t ≡ false → lines_of t ≡ Line.refusal 26 ∷ []
unfolding lines_of
lines_26 t e = rw e refl

no_call_formed : well_formed no_call_trace ≡ false
unfolding well_formed has_lists every call_count le packed bytes_of no_call_trace
no_call_formed = refl

longer_formed : well_formed longer_trace ≡ false
unfolding well_formed has_lists every call_count code_at number_at has_group without_number number_ok pattern_size data_size data_below data_start formats_once recovers_next
    call_ok all_below le packed bytes_of example_trace longer_trace
longer_formed = refl

cut_last_formed : well_formed cut_last_trace ≡ false
unfolding well_formed has_lists every call_count code_at number_at has_group without_number number_ok pattern_size data_size data_below data_start formats_once recovers_next
    call_ok all_below le packed bytes_of cut_last_trace
cut_last_formed = refl

-- ---- 27

formed : well_formed nothing_due_trace ≡ true
unfolding well_formed has_lists every call_count code_at number_at has_group without_number number_ok pattern_size data_size data_below data_start formats_once recovers_next
    call_ok all_below le packed bytes_of nothing_due_trace
formed = refl

abbrev pub cut_call : Recorded
cut_call = Recorded.cut 1 (replicate 256 0)

calls : recorded nothing_due_trace ≡ Recorded.format 4 ∷ replicate 5 Recorded.step ++ (cut_call ∷ Recorded.recover ∷ [])
unfolding recorded table recorded_at recorded_as numbers_at call_count code_at number_at has_group pattern_size data_size data_below data_start le packed bytes_of nothing_due_trace
calls = refl

blocks : number_at nothing_due_trace 0 ≡ 4
unfolding number_at call_count le packed bytes_of nothing_due_trace
blocks = refl

no_step : (e : List Bool) → step_of 16384 pages (started 4 e) fresh ≡ refused 9
unfolding step_of under size_ok every fit_with fit head_fit index_fit pending_fit buffer_fit groups_fit rising rising_from all is_idle buffered_in value_or within
no_step e = rw gathered_blank refl

module _ (w : World) (F : FormattedWorld 4 w) where
  none_due : step_due w ≡ refused 9
  unfolding step_due with_state
  none_due = rw (F.state, F.buffer, F.long, F.sees) (no_step F.records)

  then_27 : lines_from w (cut_call ∷ Recorded.recover ∷ []) ≡ Line.refusal 27 ∷ []
  unfolding lines_from played played_cut
  then_27 = rw none_due refl

pub refused_examples : RefusedExamples
refused_examples =
    record {
      no_call = lines_26 no_call_trace no_call_formed;
      longer = lines_26 longer_trace longer_formed;
      cut_last = lines_26 cut_last_trace cut_last_formed;
      nothing_due = lines_after nothing_due_trace (cut_call ∷ Recorded.recover ∷ []) (Line.refusal 27 ∷ []) formed blocks calls then_27;
    }
