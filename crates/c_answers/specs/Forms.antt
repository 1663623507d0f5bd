-- What the answers for C say that the library's own do not: the place of a page, the survey in one list.
use Rattle.std.specs.Prelude.{◌≡◌, cond, List, [], ℕ, ◌+◌, ◌*◌, ◌/◌, ◌%◌, length, get_or, leb}
use Rattle.lists.specs.Lists.{table}
use Rattle.codec.specs.Codec.{part}
use Rattle.flash.specs.Medium.{most_blocks, page_at}
use Rattle.state.specs.declared.State.{State}
use Rattle.read.specs.Answers.{survey_refusal, survey_rows}
use Rattle.c_answers.specs.declared.VjPart.{VjPart}
use Rattle.c_answers.specs.declared.VjSurvey.{VjSurvey}

-- ---- pages

-- a part of the medium that is page p: its 256 bytes from byte 256p on, or nothing from byte 0 on
pub record IsPage (m : List ℕ) (p : ℕ) (r : VjPart) : Type 0 where
  pub bytes : part r.offset r.length m ≡ page_at m p
  pub start : r.offset ≡ cond (leb (256 * p + 256) (length m)) (256 * p) 0
  pub size : r.length ≡ cond (leb (256 * p + 256) (length m)) 256 0

-- ---- the survey: a row of three counts for each block, one row after another

-- how many counts they are
abbrev pub most_counts : ℕ
most_counts = 3 * most_blocks

unfoldable pub joined : List (List ℕ) → List ℕ
joined rows = table most_counts (λ i. get_or (get_or rows (i / 3) []) (i % 3) 0)

-- what `survey` promises of a medium m and a state s: the number that refuses the survey, or 0, and its rows in one list, with 0 in every place on a refusal
abbrev pub SurveysInOne : List ℕ → State → VjSurvey → Type 0
SurveysInOne m s r = r ≡ record { number = survey_refusal m s; counts = joined (survey_rows m s) }
