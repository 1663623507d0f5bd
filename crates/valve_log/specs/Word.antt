-- The word's part on a medium reached: its eight bytes are the valve's word once the buffered groups are in.
use Rattle.std.specs.Prelude.{◌≡◌, List, ℕ}
use Rattle.std.specs.Prelude.{None, Some}
use Rattle.codec.specs.Codec.{bytes_of}
use Rattle.flash.specs.Medium.{views}
use Rattle.index.specs.Index.{lookup}
use Rattle.state.specs.State.{Held}
use Rattle.readings.specs.Readings.{word_part, word_refusal}
use Rattle.valve_log.specs.History.{History, assign_groups}
use Rattle.valve_log.specs.Reached.{World, Reached}

-- the part is "the eight bytes of a valve's word", which is the word that the settings and the buffered groups give
pub record Holds (m : List ℕ) (s : Held) (b : List ℕ) (h : History) (valve : ℕ) : Type 0 where
  pub word : ℕ
  pub set : lookup valve (assign_groups h.settings h.buffered) ≡ Some word
  pub bytes : word_part m (views m) s b valve ≡ bytes_of 8 word

-- not refused: the part is the word; refused: the number is 18, and the valve is not set
pub record Tells (m : List ℕ) (s : Held) (b : List ℕ) (h : History) (valve : ℕ) : Type 0 where
  pub found : word_refusal m (views m) s b valve ≡ 0 → Holds m s b h valve
  pub unset : (word_refusal m (views m) s b valve ≡ 0 → ⊥) → (word_refusal m (views m) s b valve ≡ 18) × (lookup valve (assign_groups h.settings h.buffered) ≡ None)

unfoldable pub WordTold : Type 0
WordTold = (w : World) (h : History) (s : Held) (valve : ℕ) → Reached w h → w.state ≡ Some s → Tells w.medium s w.buffer h valve
