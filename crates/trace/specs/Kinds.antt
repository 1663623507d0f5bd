-- The kinds of calls and their codes.
use Rattle.std.specs.Prelude.{◌≡◌, cond, List, ℕ, ◌<◌, ◌⊎◌, Result, MatchResult, eqb}
use Rattle.trace.specs.declared.Kind.{Kind}
use Rattle.trace.specs.declared.Kind.TheVariants.{Format, Append, Commit, Collect, Step, Cut, Recover, Buffer, Flush}
use Rattle.trace.specs.declared.UnknownCode.{UnknownCode}
use Rattle.trace.specs.Trace.{code_at}

-- "codes (1 format, 2 append, 3 commit, 4 collect, 5 step, 6 cut, 7 recover, 8 buffer a group, 9 begin a flush)"
abbrev pub code_of : Kind → ℕ
code_of Format = 1
code_of Append = 2
code_of Commit = 3
code_of Collect = 4
code_of Step = 5
code_of Cut = 6
code_of Recover = 7
code_of Buffer = 8
code_of Flush = 9

-- the kind with this code, or the code, if it is that of no kind
abbrev pub Decodes : ℕ → Result Kind UnknownCode → Type 0
Decodes code r = MatchResult r (λ kind. code_of kind ≡ code) (λ e. (e.0 ≡ code) × ((code ≡ 0) ⊎ (9 < code)))

-- the kind with this code; a code that is none of the first eight stands for 9
unfoldable pub kind_as : ℕ → Kind
kind_as code =
    cond (eqb code 1) Format
    (cond (eqb code 2) Append
    (cond (eqb code 3) Commit
    (cond (eqb code 4) Collect
    (cond (eqb code 5) Step
    (cond (eqb code 6) Cut
    (cond (eqb code 7) Recover
    (cond (eqb code 8) Buffer
    Flush)))))))

-- the kind of call i
unfoldable pub kind_at : List ℕ → ℕ → Kind
kind_at t i = kind_as (code_at t i)
