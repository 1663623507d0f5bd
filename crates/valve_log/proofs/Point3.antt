-- Point 3: after every list of calls and power cuts, recovery is accepted and gives the log and the settings of the plain history.
use mathlib.Core.Path.{◌≡◌, refl}
use mathlib.Core.Bool.{true}
use Rattle.std.proofs.Common.{Option, None, Some}
use mathlib.Core.List.{List, [], ◌∷◌}
use Prim.Native.Nat.{ℕ}
use lib.ListN.{length}
use Rattle.lists.specs.declared.Cell.{Cell}
use Rattle.lists.specs.Lists.{is_some, value_or}
use Rattle.lists.specs.Cells.{Place}
use Rattle.lists.proofs.Laws.{all_head, all_tail, true_false}
use Rattle.page.specs.Pages.{View}
use Rattle.flash.specs.Medium.{views}
use Rattle.nodes.specs.Nodes.{word_at, sound, words}
use Rattle.valve_log.specs.History.{History}
use Rattle.valve_log.specs.Reached.{World, fresh, Reached, Words, Shows, Point3}
use Rattle.valve_log.proofs.Sound.{outcome, accepts}
use Rattle.valve_log.proofs.Events.{Upheld, cut_good, happen_good}
use Rattle.valve_log.proofs.Formats.{in_format, starts}
use Rattle.valve_log.proofs.ValveZero.{before_upheld}

pub reached_upheld : (w : World) (h : History) → Reached w h → Upheld w h
reached_upheld w h (Reached.start v F e) = (starts v.medium v.buffer v.state (in_format v F) e).upheld
reached_upheld w h (Reached.next v g e r) = happen_good v.medium v.state v.buffer g e (reached_upheld v g r)
reached_upheld w h (Reached.taken_over {w = v} {h = g} b) = cut_good v.medium v.state v.buffer fresh g (before_upheld v g b)

-- the words of a sound index, place by place
words_of : (v : List View) (l : List Place) → sound v l ≡ true → Words v l (words v l)
unfolding sound words
words_of v [] h = Words.end
words_of v (x ∷ l) h =
    Words.more {k = x.key} {a = x.val} (has (word_at v x) (all_head (λ (y : Cell). is_some (word_at v y)) x l h)) (words_of v l (all_tail (λ (y : Cell). is_some (word_at v y)) x l h))
  where
    has : (o : Option ℕ) → is_some o ≡ true → o ≡ Some (value_or 0 o)
    has None e = true_false e (unfold is_some in refl)
    has (Some w) e = unfold value_or in refl

-- and the other way
pub words_are : (v : List View) {index settings : List Cell} → Words v index settings → words v index ≡ settings
unfolding words value_or
words_are v Words.end = refl
words_are v (Words.more {k = k} {a = a} {w = w} e ws) = rw (e, words_are v ws) refl

-- what the invariant says of recovery
pub upheld_shows : (w : World) (h : History) → Upheld w h → Shows w.medium h
upheld_shows w h U =
    let M = U.coupled.medium in
    record {
      log = h.log;
      state = outcome M;
      accepts = accepts M (length w.medium) U.size;
      same_log = refl;
      same_settings = unfold outcome in rw M.shows at (words_of (views w.medium) _ M.sounds);
    }

pub point3 : Point3
unfolding Point3
point3 w h r = upheld_shows w h (reached_upheld w h r)
