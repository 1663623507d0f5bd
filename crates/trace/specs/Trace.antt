-- Document 02's Paper 13: the form of a trace, and the calls that it records.
use Rattle.std.specs.Prelude.{Bool, true, false, not, cond, ◌&&◌, ◌||◌, List, [], ◌∷◌, ℕ, zero, suc, ◌+◌, ◌*◌, length, leb, ltb, eqb}
use Rattle.lists.specs.Lists.{every, all_below, table}
use Rattle.codec.specs.Codec.{le, part}

-- ---- the lists: "It gives its number of calls, then two parallel lists, all as 64-bit numbers"

-- the 64-bit number at byte k of a trace t
abbrev pub number_in : List ℕ → ℕ → ℕ
number_in t k = le (part k 8 t)

-- how many calls it records
unfoldable pub call_count : List ℕ → ℕ
call_count t = number_in t 0

-- the code of call i
unfoldable pub code_at : List ℕ → ℕ → ℕ
code_at t i = number_in t (8 + 8 * i)

-- the number of call i: "blocks, 4 to 16, for 1; entries for 2 and 8; block for 4; page, or 256 + block, at most 271, for 6; else 0"
unfoldable pub number_at : List ℕ → ℕ → ℕ
number_at t i = number_in t (8 + 8 * call_count t + 8 * i)

-- "codes (1 format, 2 append, 3 commit, 4 collect, 5 step, 6 cut, 7 recover, 8 buffer a group, 9 begin a flush)"; those with a group
unfoldable pub has_group : ℕ → Bool
has_group code = eqb code 2 || eqb code 8

-- those with no number: "else 0"
unfoldable pub without_number : ℕ → Bool
without_number code = eqb code 3 || (eqb code 5 || (eqb code 7 || eqb code 9))

-- whether this is a code, and the number allowed beside it
unfoldable pub number_ok : ℕ → ℕ → Bool
number_ok code n =
    cond (eqb code 1) (leb 4 n && leb n 16)
    (cond (eqb code 6) (leb n 271)
    (cond (has_group code || eqb code 4) true
    (cond (without_number code) (eqb n 0) false)))

-- ---- "After them, in call order, come each appended or buffered group's keys as 16-bit, then its words as 64-bit numbers, and each cut's pattern,
-- 256 bytes for a page or 4096 for a block"

-- the bytes of a cut's pattern
unfoldable pub pattern_size : ℕ → ℕ
pattern_size n = cond (ltb n 256) 256 4096

-- the bytes that follow the lists for a call with this code and number
unfoldable pub data_size : ℕ → ℕ → ℕ
data_size code n = cond (has_group code) (10 * n) (cond (eqb code 6) (pattern_size n) 0)

-- and for the first i calls
unfoldable pub data_below : List ℕ → ℕ → ℕ
data_below t zero = 0
data_below t (suc i) = data_below t i + data_size (code_at t i) (number_at t i)

-- the byte at which those of call i start
unfoldable pub data_start : List ℕ → ℕ → ℕ
data_start t i = 8 + 16 * call_count t + data_below t i

-- ---- the form; 26 is its negation

-- "The first code is 1, used only once"
unfoldable pub formats_once : List ℕ → ℕ → Bool
formats_once t i = cond (eqb i 0) (eqb (code_at t i) 1) (not (eqb (code_at t i) 1))

-- "after 6 comes 7"
unfoldable pub recovers_next : List ℕ → ℕ → Bool
recovers_next t i = cond (eqb (code_at t i) 6) (ltb (suc i) (call_count t) && eqb (code_at t (suc i)) 7) true

-- call i is as the form asks
unfoldable pub call_ok : List ℕ → ℕ → Bool
call_ok t i = every (number_ok (code_at t i) (number_at t i) ∷ formats_once t i ∷ recovers_next t i ∷ [])

-- "A trace is at most 65536 bytes"; it has its number of calls and the two lists, and there is a first call
unfoldable pub has_lists : List ℕ → Bool
has_lists t =
    every (leb (length t) 65536 ∷ leb 8 (length t) ∷ leb (8 + 16 * call_count t) (length t) ∷ ltb 0 (call_count t) ∷ [])

-- it has its lists; each call is as it should be; the bytes of the groups and patterns follow, "and nothing more"
unfoldable pub well_formed : List ℕ → Bool
well_formed t =
    every (has_lists t ∷ all_below (call_count t) (call_ok t) ∷ eqb (length t) (data_start t (call_count t)) ∷ [])

-- ---- the calls

-- a call with what the trace says beside it: the blocks, the keys and words of a group, the block, what a cut names and its pattern
pub data Recorded : Type 0 where
  format : ℕ → Recorded
  append : List ℕ → List ℕ → Recorded
  commit : Recorded
  collect : ℕ → Recorded
  step : Recorded
  cut : ℕ → List ℕ → Recorded
  recover : Recorded
  buffer : List ℕ → List ℕ → Recorded
  flush : Recorded

-- n numbers of w bytes each, from byte k on
unfoldable pub numbers_at : ℕ → ℕ → ℕ → List ℕ → List ℕ
numbers_at w n k t = table n (λ j. le (part (k + w * j) w t))

-- the keys and the words of a group of n entries whose bytes start at k
abbrev pub keys_from : ℕ → ℕ → List ℕ → List ℕ
keys_from n k t = numbers_at 2 n k t

abbrev pub words_from : ℕ → ℕ → List ℕ → List ℕ
words_from n k t = numbers_at 8 n (k + 2 * n) t

-- the call with this code and number whose bytes start at k; a code that is none of the first eight stands for 9, as in a trace of the form it is
unfoldable pub recorded_as : ℕ → ℕ → ℕ → List ℕ → Recorded
recorded_as code n k t =
    cond (eqb code 1) (Recorded.format n)
    (cond (eqb code 2) (Recorded.append (keys_from n k t) (words_from n k t))
    (cond (eqb code 3) Recorded.commit
    (cond (eqb code 4) (Recorded.collect n)
    (cond (eqb code 5) Recorded.step
    (cond (eqb code 6) (Recorded.cut n (part k (pattern_size n) t))
    (cond (eqb code 7) Recorded.recover
    (cond (eqb code 8) (Recorded.buffer (keys_from n k t) (words_from n k t))
    Recorded.flush)))))))

-- call i of a trace
unfoldable pub recorded_at : List ℕ → ℕ → Recorded
recorded_at t i = recorded_as (code_at t i) (number_at t i) (data_start t i) t

-- the calls of a trace, in order
unfoldable pub recorded : List ℕ → List Recorded
recorded t = table (call_count t) (recorded_at t)
