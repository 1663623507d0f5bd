-- What the buffer holds in a world that such a list reaches, and what a flush programs of it.
use Rattle.std.specs.Prelude.{◌≡◌, Bool, List, ℕ}
use Rattle.std.specs.Prelude.{Some}
use Rattle.lists.specs.Lists.{Bytes}
use Rattle.lists.specs.Needs.{gives}
use Rattle.codec.specs.Codec.{bytes_of, put_at}
use Rattle.page.specs.Pages.{Page, View}
use Rattle.page.specs.Layout.{with_check, encode}
use Rattle.page.specs.Buffer.{gathered}
use Rattle.state.specs.State.{flush, Held}
use Rattle.step.specs.Step.{Step, step_of}
use Rattle.valve_log.specs.History.{History}
use Rattle.valve_log.specs.Reached.{World, Reached}

-- where there is a state, the groups in the buffer are those that the history has as buffered, in order
unfoldable pub HoldsBuffered : Type 0
HoldsBuffered = (w : World) (h : History) (s : Held) → Reached w h → w.state ≡ Some s → gathered w.buffer ≡ Some h.buffered

-- "a flush's step programs it as then lent": a page that it programs is the lent buffer, whatever that is, with the serial in bytes 8–15 and then
-- the check in bytes 0–1
unfoldable pub ProgramsAsLent : Type 0
ProgramsAsLent =
    (n : ℕ) (v : List View) (s : Held) (b : List ℕ) (p : ℕ) (pg : Page) (t : Held) (finished : Bool)
    → Bytes b → s.pending ≡ flush → step_of n v s b ≡ gives (Step.program p pg t finished)
    → encode pg ≡ with_check (put_at b 8 (bytes_of 8 s.head.serial))
