-- What the functions that read a trace ask of it.
use Rattle.std.specs.Prelude.{ℕ, ◌+◌, ◌*◌, ◌≤◌, ◌<◌, List, length}
use Rattle.trace.specs.Trace.{call_count, code_at, number_at, data_size, data_start}

-- the number of calls and the two lists are there
pub record Listed (t : List ℕ) : Type 0 where
  pub long : length t ≤ 65536
  pub room : 8 + 16 * call_count t ≤ length t
  pub some : 0 < call_count t

-- and so are the bytes of call i
pub record HasCall (t : List ℕ) (i : ℕ) : Type 0 where
  pub lists : Listed t
  pub call : i < call_count t
  pub bytes : data_start t i + data_size (code_at t i) (number_at t i) ≤ length t
