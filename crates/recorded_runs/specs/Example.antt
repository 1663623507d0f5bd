-- A trace as bytes, and the lines that it prints: a medium of 4 blocks is formatted, one group of two changes is appended, and a recovery shows both.
use Rattle.std.specs.Prelude.{◌≡◌, true, List, [], ◌∷◌, ◌++◌, ℕ, replicate}
use Rattle.codec.specs.Codec.{packed}
use Rattle.trace.specs.Trace.{well_formed}
use Rattle.player.specs.Lines.{Line}
use Rattle.player.specs.Run.{lines_of}

-- nine calls: format, five steps, append, step, recover; their numbers; the keys and the words of the group
unfoldable pub example_trace : List ℕ
example_trace =
    packed 8 (9 ∷ [])
    ++ packed 8 (1 ∷ 5 ∷ 5 ∷ 5 ∷ 5 ∷ 5 ∷ 2 ∷ 5 ∷ 7 ∷ [])
    ++ packed 8 (4 ∷ 0 ∷ 0 ∷ 0 ∷ 0 ∷ 0 ∷ 2 ∷ 0 ∷ 0 ∷ [])
    ++ packed 2 (1 ∷ 2 ∷ [])
    ++ packed 8 (5 ∷ 7 ∷ [])

-- `log 2`, `set 2`, `1 5`, `2 7`
pub record Example : Type 0 where
  pub formed : well_formed example_trace ≡ true
  pub lines : lines_of example_trace ≡ Line.log_length 2 ∷ Line.valves_set 2 ∷ Line.setting 1 5 ∷ Line.setting 2 7 ∷ []

-- ---- traces that are refused

-- no call at all
unfoldable pub no_call_trace : List ℕ
no_call_trace = packed 8 (0 ∷ [])

-- the example with a byte too many
unfoldable pub longer_trace : List ℕ
longer_trace = example_trace ++ (0 ∷ [])

-- a cut, of page 1 by a pattern of zeros, as the last call
unfoldable pub cut_last_trace : List ℕ
cut_last_trace = packed 8 (2 ∷ []) ++ packed 8 (1 ∷ 6 ∷ []) ++ packed 8 (4 ∷ 1 ∷ []) ++ replicate 256 0

-- eight calls: format, five steps, the same cut, and a recovery; formatting has finished, so no step is due at the cut
unfoldable pub nothing_due_trace : List ℕ
nothing_due_trace =
    packed 8 (8 ∷ [])
    ++ packed 8 (1 ∷ 5 ∷ 5 ∷ 5 ∷ 5 ∷ 5 ∷ 6 ∷ 7 ∷ [])
    ++ packed 8 (4 ∷ 0 ∷ 0 ∷ 0 ∷ 0 ∷ 0 ∷ 1 ∷ 0 ∷ [])
    ++ replicate 256 0

-- `refused 26` alone for the first three; `refused 27` for the last, whose recovery is not played any more
pub record RefusedExamples : Type 0 where
  pub no_call : lines_of no_call_trace ≡ Line.refusal 26 ∷ []
  pub longer : lines_of longer_trace ≡ Line.refusal 26 ∷ []
  pub cut_last : lines_of cut_last_trace ≡ Line.refusal 26 ∷ []
  pub nothing_due : lines_of nothing_due_trace ≡ Line.refusal 27 ∷ []

-- ---- a cut that counts

-- the example, but with a cut of page 1 in the place of the last step, by a pattern of zeros: it leaves the page complete
unfoldable pub complete_cut_trace : List ℕ
complete_cut_trace =
    packed 8 (9 ∷ [])
    ++ packed 8 (1 ∷ 5 ∷ 5 ∷ 5 ∷ 5 ∷ 5 ∷ 2 ∷ 6 ∷ 7 ∷ [])
    ++ packed 8 (4 ∷ 0 ∷ 0 ∷ 0 ∷ 0 ∷ 0 ∷ 2 ∷ 1 ∷ 0 ∷ [])
    ++ packed 2 (1 ∷ 2 ∷ [])
    ++ packed 8 (5 ∷ 7 ∷ [])
    ++ replicate 256 0

-- so its recovery shows the group, as without the cut
pub record CompleteCutExample : Type 0 where
  pub formed : well_formed complete_cut_trace ≡ true
  pub lines : lines_of complete_cut_trace ≡ Line.log_length 2 ∷ Line.valves_set 2 ∷ Line.setting 1 5 ∷ Line.setting 2 7 ∷ []
