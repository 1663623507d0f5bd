-- Document 02's Paper 13: "once formatting has finished they equal what the history defines". The plain history of a trace's calls, the lines that it
-- defines, and the claim.
use Rattle.std.specs.Prelude.{◌≡◌, Bool, true, false, cond, List, [], ◌∷◌, ◌++◌, ℕ}
use Rattle.lists.specs.Lists.{Bytes}
use Rattle.valve_log.specs.History.{History, start as no_history, tell}
use Rattle.valve_log.specs.Reached.{World, step_due, accepted, finishes}
use Rattle.trace.specs.Trace.{Recorded, well_formed, recorded}
use Rattle.player.specs.Lines.{Line, summary}
use Rattle.player.specs.Run.{recover_in, played, start_world, lines_of}

-- where a run stands: in formatting; past it, with the plain history since; or past a cut or an accepted recovery inside formatting, after which
-- nothing is promised. Both are named as in the valve log's statement. In a run an accepted recovery inside formatting comes only after such a cut, since
-- till the last step of formatting no page of a medium that started all FFh is whole; nothing here rests on that.
pub data Phase : Type 0 where
  formatting : Phase
  since : History → Phase
  unpromised : Phase

-- a call in formatting: the step that finishes it starts the history
unfoldable pub after_formatting : World → Recorded → Phase
after_formatting w Recorded.step = cond (finishes (step_due w)) (Phase.since no_history) Phase.formatting
after_formatting w (Recorded.cut name pattern) = Phase.unpromised
after_formatting w Recorded.recover = cond (accepted (recover_in w)) Phase.unpromised Phase.formatting
after_formatting w (Recorded.format n) = Phase.formatting
after_formatting w (Recorded.append ks ws) = Phase.formatting
after_formatting w Recorded.commit = Phase.formatting
after_formatting w (Recorded.collect b) = Phase.formatting
after_formatting w (Recorded.buffer ks ws) = Phase.formatting
after_formatting w Recorded.flush = Phase.formatting

-- after it, the history is told each call
unfoldable pub phase_after : Phase → World → Recorded → Phase
phase_after Phase.formatting w c = after_formatting w c
phase_after (Phase.since h) w c = Phase.since (tell h (played w c).moment.told)
phase_after Phase.unpromised w c = Phase.unpromised

-- whether a call is a recovery
unfoldable pub is_recovery : Recorded → Bool
is_recovery (Recorded.format n) = false
is_recovery (Recorded.append ks ws) = false
is_recovery Recorded.commit = false
is_recovery (Recorded.collect b) = false
is_recovery Recorded.step = false
is_recovery (Recorded.cut name pattern) = false
is_recovery Recorded.recover = true
is_recovery (Recorded.buffer ks ws) = false
is_recovery Recorded.flush = false

-- the lines of a call, of which those of a recovery after formatting are the history's: the length of its log, and its settings
unfoldable pub told_lines : Phase → World → Recorded → List Line
told_lines Phase.formatting w c = (played w c).lines
told_lines (Phase.since h) w c = cond (is_recovery c) (summary h.log h.settings) (played w c).lines
told_lines Phase.unpromised w c = (played w c).lines

unfoldable pub told_from : Phase → World → List Recorded → List Line
told_from p w [] = []
told_from p w (c ∷ cs) = told_lines p w c ++ cond (played w c).ends [] (told_from (phase_after p w c) (played w c).moment.after cs)

-- What a trace prints is what the history defines. So after formatting no recovery is refused: a refusal is one line, a summary two or more.
unfoldable pub PrintsHistory : Type 0
PrintsHistory = (t : List ℕ) → Bytes t → well_formed t ≡ true → lines_of t ≡ told_from Phase.formatting (start_world t) (recorded t)
