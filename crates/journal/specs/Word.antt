-- The word's part along a program's run, with the state last handed back and the buffer as it is lent: it is the word that the history's settings
-- have once the buffered groups are in.
use Rattle.std.specs.Prelude.{◌≡◌, List, [], ℕ}
use Rattle.std.specs.Prelude.{Option, None, Some}
use Rattle.codec.specs.Codec.{bytes_of}
use Rattle.flash.specs.Medium.{views}
use Rattle.index.specs.Index.{lookup}
use Rattle.state.specs.declared.State.{State}
use Rattle.state.specs.State.{meaning}
use Rattle.readings.specs.Readings.{word_part, word_refusal}
use Rattle.valve_log.specs.History.{History, assign_groups}
use Rattle.journal.specs.Run.{Machine, Run}

-- what the two calls hand back: the number, or 0, and the part
pub record WordHanded : Type 0 where
  pub number : ℕ
  pub bytes : List ℕ

abbrev pub word_handed : ℕ → List ℕ → WordHanded
word_handed n bs = record { number = n; bytes = bs }

-- "the eight bytes of a valve's word" that is set; 18 and no byte where it is not
unfoldable pub word_in : Option ℕ → WordHanded
word_in None = word_handed 18 []
word_in (Some w) = word_handed 0 (bytes_of 8 w)

-- whatever the two calls give, of which nothing is known but the promises of `word` and `word_refusal`
unfoldable pub WordToldOfCode : Type 0
WordToldOfCode =
    (x : Machine) (h : History) (s : State) (valve number : ℕ) (bytes : List ℕ) → Run x h → x.state ≡ Some s
    → number ≡ word_refusal x.medium (views x.medium) (meaning s) x.buffer valve
    → bytes ≡ word_part x.medium (views x.medium) (meaning s) x.buffer valve
    → word_handed number bytes ≡ word_in (lookup valve (assign_groups h.settings h.buffered))
