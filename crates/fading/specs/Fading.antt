-- Document 02's Paper 14, bits that fade: "For a medium reached as the valve log's statement describes, with any bits afterwards turned to 1 and
-- nothing else altered, show this: recovery refuses, or it gives the settings and log that recovery gave or would have given at that or an earlier
-- moment since formatting ended."
use Rattle.std.specs.Prelude.{◌≡◌, ◌⊎◌, List, ℕ, ◌≤◌, ◌<◌, length}
use Rattle.lists.specs.Lists.{Bytes}
use Rattle.lists.specs.Needs.{refused, gives}
use Rattle.lists.specs.Cells.{Entry}
use Rattle.flash.specs.Medium.{views}
use Rattle.flash.specs.Cuts.{bit_at}
use Rattle.state.specs.State.{Held}
use Rattle.recovery.specs.Recovery.{recovery_with, recover as recover_of}
use Rattle.valve_log.specs.History.{History, tell}
use Rattle.valve_log.specs.Reached.{World, Event, happen, Earlier, happened, Before, switched_off, Reached, Words, Shows}

-- ---- the medium

-- "with any bits afterwards turned to 1 and nothing else altered": m' has as many bytes as m, and each of their bits is 1 or as in m
pub record Faded (m m' : List ℕ) : Type 0 where
  pub size : length m' ≡ length m
  pub bytes : Bytes m'
  pub bits : (i j : ℕ) → i < length m → j < 8 → (bit_at m' i j ≡ 1) ⊎ (bit_at m' i j ≡ bit_at m i j)

-- Bits that fade later on a medium that has faded: it is one fading.
unfoldable pub FadesTogether : Type 0
FadesTogether = (m m' m'' : List ℕ) → Faded m m' → Faded m' m'' → Faded m m''

-- ---- the moments of a list

-- q is the list r of calls and cuts as it is now, or as it was before its last event or events: r begins with q. A moment of the program
-- as it was before Paper 8 is the medium as it then stood.
pub data AtOrBefore {v : World} {g : History} (q : Reached v g) : (w : World) (h : History) → Reached w h → Type 0 where
  now : AtOrBefore q v g q
  earlier : {w : World} {h : History} {r : Reached w h} (e : Event w) → AtOrBefore q w h r → AtOrBefore q (happen w e).after (tell h (happen w e).told) (Reached.next w h e r)
  older : {w : World} {h : History} {b : Before w h} (e : Earlier w) → AtOrBefore q (switched_off w) h (Reached.taken_over b)
      → AtOrBefore q (switched_off (happened w e).after) (tell h (happened w e).told) (Reached.taken_over (Before.next w h e b))

-- "that or an earlier moment since formatting ended": the list as it was then, which starts where formatting ended as every list does, with the world
-- and the plain history that it had led to. It may stand after any event, also between a cut and its recovery.
pub record MomentOf {w : World} {h : History} (r : Reached w h) : Type 0 where
  pub world : World
  pub history : History
  pub reached : Reached world history
  pub passed : AtOrBefore reached w h r

-- ---- the claim

-- Recovery of m gives "the settings and log that recovery gave or would have given" where the medium was `then` and the history g: the same log and
-- the same state; and on m as on the medium then, the log is that of g, and the valves set, each with the word at its address, are the settings of g.
pub record AsThen (m then : List ℕ) (g : History) : Type 0 where
  pub same : recover_of (length m) (views m) ≡ recover_of (length then) (views then)
  pub shows : Shows m g
  pub showed : Shows then g

-- "recovery refuses, or it gives the settings and log that recovery gave or would have given at that or an earlier moment"
pub data RefusedOrAsThen {w : World} {h : History} (r : Reached w h) (m : List ℕ) : Type 0 where
  refuses : (n : ℕ) → recover_of (length m) (views m) ≡ refused n → RefusedOrAsThen r m
  shown : (t : MomentOf r) → AsThen m t.world.medium t.history → RefusedOrAsThen r m

-- "For a medium reached as the valve log's statement describes, with any bits afterwards turned to 1 and nothing else altered"
unfoldable pub Fades : Type 0
Fades = (w : World) (h : History) (r : Reached w h) (m : List ℕ) → Faded w.medium m → RefusedOrAsThen r m

-- ---- which refusals there are

-- The length is as it was, and a whole page is one that the journal wrote: a faded medium is refused with 4, 5 or 6 and with no other number.
unfoldable pub RefusedWith4To6 : Type 0
RefusedWith4To6 =
    (w : World) (h : History) → Reached w h → (m : List ℕ) → Faded w.medium m
    → (n : ℕ) → recover_of (length m) (views m) ≡ refused n → (4 ≤ n) × (n ≤ 6)

-- ---- one moment, not a mixture of two

-- a log and a state's settings, read on m, that are both of one moment of the list
pub record OfOneMoment {w : World} {h : History} (r : Reached w h) (m : List ℕ) (log : List (List Entry)) (s : Held) : Type 0 where
  pub moment : MomentOf r
  pub log_then : log ≡ moment.history.log
  pub settings_then : Words (views m) s.index moment.history.settings

-- What recovery gives of a faded medium is never the log of one moment with the settings of another.
unfoldable pub NoMixture : Type 0
NoMixture =
    (w : World) (h : History) (r : Reached w h) (m : List ℕ) → Faded w.medium m
    → (log : List (List Entry)) (s : Held) → recover_of (length m) (views m) ≡ gives (recovery_with log s) → OfOneMoment r m log s
