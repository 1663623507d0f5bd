-- Paper 14: which moment a faded medium shows. It is today's where the pages that recovery needs have not faded, and where the newest page has not;
-- it is the moment before where only the newest page has.
use Rattle.std.specs.Prelude.{◌≡◌, ◌⊎◌, Bool, true, false, List, ℕ, ◌+◌, ◌*◌, ◌≤◌, ◌<◌, length, get_or}
use Rattle.lists.specs.Needs.{refused, gives}
use Rattle.lists.specs.Cells.{Entry}
use Rattle.page.specs.Pages.{Page, whole, is_whole}
use Rattle.flash.specs.Medium.{views, seen}
use Rattle.nodes.specs.Nodes.{sound}
use Rattle.state.specs.State.{Held}
use Rattle.recovery.specs.Recovery.{recovery_with, recover as recover_of}
use Rattle.step.specs.Step.{Step}
use Rattle.valve_log.specs.History.{History, tell}
use Rattle.valve_log.specs.Reached.{World, step_due, Event, happen, Reached}
use Rattle.fading.specs.Fading.{Faded, AtOrBefore, MomentOf, AsThen}

-- ---- the pages that recovery needs

-- s is the state that recovery gives of m: no page of m from the base's first on has faded in m', and each address of the index has its node there
pub record NeededStand (m : List ℕ) (s : Held) (m' : List ℕ) : Type 0 where
  pub chain : (q : ℕ) (x : Page) → seen (views m) q ≡ whole x → s.head.base ≤ x.serial → seen (views m') q ≡ whole x
  pub nodes : sound (views m') s.index ≡ true

-- Then recovery accepts and gives today's log and settings, whatever else faded.
unfoldable pub NeededSuffice : Type 0
NeededSuffice =
    (w : World) (h : History) → Reached w h → (log : List (List Entry)) (s : Held)
    → recover_of (length w.medium) (views w.medium) ≡ gives (recovery_with log s)
    → (m : List ℕ) → Faded w.medium m → NeededStand w.medium s m → AsThen m w.medium h

-- ---- the newest page

-- the page of m with the greatest serial has not faded in m'
pub record NewestStands (m m' : List ℕ) : Type 0 where
  pub at : ℕ
  pub page : Page
  pub stood : seen (views m) at ≡ whole page
  pub newest : (q : ℕ) (x : Page) → seen (views m) q ≡ whole x → x.serial ≤ page.serial
  pub stands : seen (views m') at ≡ whole page

-- Then recovery refuses or gives today's log and settings: whatever else faded, no earlier moment is shown.
pub data RefusedOrToday (w : World) (h : History) (m : List ℕ) : Type 0 where
  refuses : (n : ℕ) → recover_of (length m) (views m) ≡ refused n → RefusedOrToday w h m
  shown : AsThen m w.medium h → RefusedOrToday w h m

unfoldable pub NewestDecides : Type 0
NewestDecides = (w : World) (h : History) → Reached w h → (m : List ℕ) → Faded w.medium m → NewestStands w.medium m → RefusedOrToday w h m

-- m' differs from m in page p alone, which is not whole there: clean or spoilt
pub record OnlyPageGone (m m' : List ℕ) (p : ℕ) : Type 0 where
  pub gone : is_whole (seen (views m') p) ≡ false
  pub others : (i : ℕ) → (i < 256 * p) ⊎ (256 * p + 256 ≤ i) → get_or m' i 0 ≡ get_or m i 0

-- A step programs a page, and then that page fades, so that it is no longer whole: recovery accepts and gives what it would have given before that step.
unfoldable pub NewestGone : Type 0
NewestGone =
    (w : World) (h : History) → Reached w h → (p : ℕ) (pg : Page) (s : Held) (finished : Bool) → step_due w ≡ gives (Step.program p pg s finished)
    → (m : List ℕ) → Faded (happen w Event.step).after.medium m → OnlyPageGone (happen w Event.step).after.medium m p → AsThen m w.medium h

-- ---- the next serial

-- a moment of the list q is shown
pub record ShownOf {v : World} {g : History} (q : Reached v g) (m : List ℕ) : Type 0 where
  pub moment : MomentOf q
  pub as_then : AsThen m moment.world.medium moment.history

-- a moment of the list r at which it had passed the moment p is shown
pub record ShownSince {w : World} {h : History} (r : Reached w h) (p : MomentOf r) (m : List ℕ) : Type 0 where
  pub moment : MomentOf r
  pub passed : AtOrBefore p.reached moment.world moment.history moment.reached
  pub as_then : AsThen m moment.world.medium moment.history

-- The next serial tells the moment, to who has noted it at a moment p: `noted` is the state that recovery gave then, `found` the one that it gives of
-- the faded medium. The same next serial: that moment is shown. A lower one: that moment or one before it. A greater one: that moment or one after it.
pub record ToldBySerial {w : World} {h : History} (r : Reached w h) (m : List ℕ) (p : MomentOf r) (noted found : Held) : Type 0 where
  pub same : found.head.serial ≡ noted.head.serial → AsThen m p.world.medium p.history
  pub lower : found.head.serial ≤ noted.head.serial → ShownOf p.reached m
  pub greater : noted.head.serial ≤ found.head.serial → ShownSince r p m

unfoldable pub SerialTells : Type 0
SerialTells =
    (w : World) (h : History) (r : Reached w h) (p : MomentOf r) (m : List ℕ) → Faded w.medium m
    → (log log' : List (List Entry)) (noted found : Held) → recover_of (length p.world.medium) (views p.world.medium) ≡ gives (recovery_with log noted)
    → recover_of (length m) (views m) ≡ gives (recovery_with log' found) → ToldBySerial r m p noted found

-- ---- the claim is not empty

-- A medium on which nothing faded is one of those of which the claim speaks, and it shows today's log and settings.
unfoldable pub MayStay : Type 0
MayStay = (w : World) (h : History) → Reached w h → Faded w.medium w.medium × AsThen w.medium w.medium h

-- Where a step programs a page and all bits of that page then fade, the medium is what it was before the step: the claim speaks of it, and it shows
-- that earlier moment.
pub record StepFadesAway (w : World) (h : History) (r : Reached w h) : Type 0 where
  pub faded : Faded (happen w Event.step).after.medium w.medium
  pub passed : AtOrBefore r (happen w Event.step).after (tell h (happen w Event.step).told) (Reached.next w h Event.step r)
  pub shows : AsThen w.medium w.medium h

unfoldable pub MayGoBack : Type 0
MayGoBack =
    (w : World) (h : History) (r : Reached w h) (p : ℕ) (pg : Page) (s : Held) (finished : Bool)
    → step_due w ≡ gives (Step.program p pg s finished) → StepFadesAway w h r
