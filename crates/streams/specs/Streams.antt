-- What is promised of input that is read into a lent list, and of bytes that are written. Which bytes standard input gives and standard
-- output takes, no contract can say; of a reader and a writer whose bytes are known it is said here (`None` where they are not).
use Rattle.std.specs.Prelude.{◌≡◌, ◌↔◌, Bool, true, false, cond, List, ℕ, ◌+◌, ◌-◌, ◌≤◌, ◌<◌, min, eqb, length, take, IsTrue}
use Rattle.std.specs.Prelude.{Option, Result, Ok, Err}
use Rattle.std.specs.Io.KnownBytes.{Appends, Consumes, IsAtEnd}
use Rattle.std.specs.IoError.{error_kind}
use Rattle.std.specs.declared.io.Error.{Error}
use Rattle.std.specs.declared.io.ErrorKind.TheVariants.{Interrupted}
use Rattle.streams.specs.declared.Reading.{Reading}
use Rattle.streams.specs.declared.Reading.TheVariants.{On, Over}

-- So many bytes stand at the front of the list. `part` follows from `within`, and is what the code asks for the part `&buf[..n]`.
pub record Got (buf : List ℕ) (n : ℕ) : Type 0 where
  pub within : n ≤ length buf
  pub part : n ≡ length (take n buf)

-- A call that gave this answer is made again exactly where a signal interrupted it, before it moved a byte, and it may be made again
-- `left` times yet, one at least.
abbrev pub Repeats : ℕ → Result ℕ Error → Bool → Type 0
Repeats left (Ok k) again = again ≡ false
Repeats left (Err e) again = IsTrue again ↔ ((0 < left) × (error_kind e ≡ Interrupted))

-- How reading into `size` bytes stands after `done` of them and a read of more with this answer: an error is a failure, and no end; the end
-- is where no byte comes.
unfoldable pub after_read : ℕ → ℕ → Result ℕ Error → Reading
after_read size done (Err e) = Over (Err e)
after_read size done (Ok k) = cond (eqb (min k (size - done)) 0) (Over (Ok done)) (On (done + min k (size - done)))

-- Of a reader that has the bytes `old` left before and `new` after: what was read is what stands first there, and none is left where the
-- list has room for more.
pub record Took (old new : Option (List ℕ)) (buf : List ℕ) (n : ℕ) : Type 0 where
  pub bytes : Consumes old new (take n buf)
  pub end : n < length buf → IsAtEnd new

-- Of a writer that holds the bytes `old` before and `new` after: the front of the text came behind them, the whole text unless a write
-- failed.
pub record Gave (old new : Option (List ℕ)) (text : List ℕ) (whole : Bool) : Type 0 where
  pub count : ℕ
  pub within : count ≤ length text
  pub bytes : Appends old new (take count text)
  pub all : whole ≡ true → count ≡ length text
