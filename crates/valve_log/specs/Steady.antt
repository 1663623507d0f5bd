-- What no call answers on a medium that such a list reaches, with the state last handed back and the buffer last left: 1, 6, 7 and 16 are
-- for media, states and buffers that the journal's own writer does not produce.
use Rattle.std.specs.Prelude.{◌≡◌, Bool, true, not, List, [], ◌∷◌, ℕ, eqb, length}
use Rattle.std.specs.Prelude.{Some}
use Rattle.lists.specs.Lists.{every}
use Rattle.lists.specs.Needs.{refused}
use Rattle.flash.specs.Medium.{views}
use Rattle.state.specs.State.{Held}
use Rattle.recovery.specs.Recovery.{recover as recover_of}
use Rattle.readings.specs.Readings.{opening_of, word_refusal, pick_of, survey_of, available_of, read_log, read_settings}
use Rattle.calls.specs.Calls.{append_of, commit_of, collect_of, buffer_of, flush_of, format_of}
use Rattle.step.specs.Step.{step_of}
use Rattle.valve_log.specs.History.{History}
use Rattle.valve_log.specs.Reached.{World, Reached}

-- a number other than 1, 6, 7 and 16
unfoldable pub expected : ℕ → Bool
expected n = every (not (eqb n 1) ∷ not (eqb n 6) ∷ not (eqb n 7) ∷ not (eqb n 16) ∷ [])

-- each call that takes a state, with any other arguments, where it refuses (a word has the number 0 where it does not); picker, survey and
-- available pages never do
pub record Answers (m : List ℕ) (s : Held) (b : List ℕ) : Type 0 where
  pub append : (ks ws : List ℕ) (n : ℕ) → append_of (length m) (views m) s b ks ws ≡ refused n → expected n ≡ true
  pub commit : (n : ℕ) → commit_of (length m) (views m) s b ≡ refused n → expected n ≡ true
  pub collect : (block n : ℕ) → collect_of (length m) (views m) s b block ≡ refused n → expected n ≡ true
  pub buffer : (ks ws : List ℕ) (n : ℕ) → buffer_of (length m) (views m) s b ks ws ≡ refused n → expected n ≡ true
  pub flush : (n : ℕ) → flush_of (length m) (views m) s b ≡ refused n → expected n ≡ true
  pub step : (n : ℕ) → step_of (length m) (views m) s b ≡ refused n → expected n ≡ true
  pub opening : (valve n : ℕ) → opening_of (length m) (views m) s valve ≡ refused n → expected n ≡ true
  pub word : (valve : ℕ) → expected (word_refusal m (views m) s b valve) ≡ true
  pub settings : (lists : List (List ℕ)) (n : ℕ) → read_settings (length m) (views m) s lists ≡ refused n → expected n ≡ true
  pub pick : (n : ℕ) → pick_of (length m) (views m) s ≡ refused n → ⊥
  pub survey : (n : ℕ) → survey_of (length m) (views m) s ≡ refused n → ⊥
  pub available : (n : ℕ) → available_of (length m) (views m) s ≡ refused n → ⊥

unfoldable pub Steady : Type 0
Steady = (w : World) (h : History) (s : Held) → Reached w h → w.state ≡ Some s → Answers w.medium s w.buffer

-- The calls that take no state, also where a cut lost it: format and recovery never refuse, and the log, filed into any lists, is refused
-- by 17 alone. A page of the medium refuses nothing anywhere.
pub record AnswersWithoutState (m : List ℕ) : Type 0 where
  pub format : (n : ℕ) → format_of (length m) ≡ refused n → ⊥
  pub recovery : (n : ℕ) → recover_of (length m) (views m) ≡ refused n → ⊥
  pub log : (lists : List (List ℕ)) (n : ℕ) → read_log (length m) (views m) lists ≡ refused n → n ≡ 17

unfoldable pub SteadyWithoutState : Type 0
SteadyWithoutState = (w : World) (h : History) → Reached w h → AnswersWithoutState w.medium
