-- The premises of the bound can be met on media of every allowed length: formatted, and filled with groups of one entry until one meets 13.
use mathlib.Core.Path.{◌≡◌, refl, sym, ap, subst, ◌∙◌}
use mathlib.Core.Bool.{Bool, true, false}
use Rattle.std.proofs.Common.{Option, Some}
use mathlib.Core.List.{List, [], ◌∷◌}
use Prim.Native.Nat.{ℕ, zero, suc, ◌+◌, ◌-◌, ◌*◌, ◌/◌, ◌%◌, ◌^◌, ◌≤◌, ◌<◌}
use native.Mathlib.Omega.{arith}
use native.Mathlib.Decide.{ℕ_discrete}
use lib.ListN.{length, get_or, set, replicate, length-replicate, get_or-replicate}
use borrow.Author.Tests.{le-leb, leb-true}
use Rattle.lists.specs.Lists.{all, every, one_if, count_below, Below}
use Rattle.lists.specs.Needs.{gives, under}
use Rattle.lists.specs.Cells.{cell, Entry, Place}
use Rattle.lists.proofs.Laws.{by_cases, true_false, below_all}
use Rattle.codec.specs.Codec.{blank}
use Rattle.codec.proofs.Put.{length_blank, bytes_blank}
use Rattle.page.specs.Pages.{Page, View, clean, spoilt, whole, page, is_clean, pages_for}
use Rattle.flash.specs.Medium.{views, seen, wholly_clean, erased}
use Rattle.flash.proofs.Laws.{length_views}
use Rattle.index.specs.Index.{put, assign, assign_all, within, entry_allowed, entries_allowed}
use Rattle.blocks.specs.declared.Head.{Head}
use Rattle.blocks.specs.Blocks.{size_ok, spare, available, page_due}
use Rattle.state.specs.State.{idle, append, Held, held, buffered_in, is_idle}
use Rattle.calls.specs.Calls.{starting, zip, lists_ok, room_for, serials_for, append_of, formatting, format_of}
use Rattle.step.specs.Step.{Step, is_last, group_page, head_after, addressed_from, addressed, appended, append_step, due}
use Rattle.valve_log.specs.History.{History, start, began_append, counted, tell}
use Rattle.valve_log.specs.Reached.{World, world, fresh, lent_anew, moment, Event, happen, Reached}
use Rattle.valve_log.specs.Finished.{steps_on, Finished, FormattingFinishes}
use Rattle.valve_log.proofs.Events.{Sized, sized}
use Rattle.valve_log.proofs.Formats.{Begins, base_page, started, in_format, starts}
use Rattle.valve_log.proofs.Finished.{under_way_lem, formatting_finishes}
use Rattle.valve_log.proofs.Supply.{clean_page, clean_elsewhere, spare_is, spare_other, spare_clean, HeadReady, Which, in_head, new_head_lem, due_page, available_after}
use Rattle.housekeeping.specs.Bound.{Meets13, Sixteen, Arises, Possible}
use Rattle.housekeeping.proofs.Counting.{count_one, count_le, count_more}
use Rattle.housekeeping.proofs.Places.{There}
use Rattle.housekeeping.proofs.Runs.{Known, known, newest, writes, page_programmed}
use Rattle.housekeeping.proofs.Bound.{Offer, append_begins, append_full, append_begun, knows_begun, sixteen}

-- ---- one page taken

available_less : (v : List View) (h : Head) (p base : ℕ) (x : View) → HeadReady v h → wholly_clean v h.block ≡ false → Which v h p → available (set v p x) (head_after h p base) < available v h
unfolding available head_after
available_less v h p base x r u (in_head l e) =
    let k : p / 16 ≡ h.block = omega arith in
    let n : p % 16 ≡ h.next = omega arith in
    let c = count_le h.blocks (spare (set v p x) (p / 16)) (spare v h.block) (λ i y s. back i k s) in
    omega (arith, c)
  where
    back : (i : ℕ) → p / 16 ≡ h.block → spare (set v p x) (p / 16) i ≡ true → spare v h.block i ≡ true
    back i k s =
        let o = spare_other (set v p x) (p / 16) i s in
        spare_is v h.block i (λ z. o (z ∙ sym k)) (sym (clean_elsewhere v p i x (λ z. o (sym z))) ∙ spare_clean (set v p x) (p / 16) i s)
available_less v h p base x r u (new_head_lem b l e inside other c) =
    let k : p / 16 ≡ b = omega arith in
    let n : p % 16 ≡ 0 = omega arith in
    let m = count_more h.blocks (spare (set v p x) (p / 16)) (spare v h.block) (p / 16) (omega arith) not_now (rw k (spare_is v h.block b other c)) (λ i y s. back i s) in
    omega (arith, m, r.high)
  where
    not_now : spare (set v p x) (p / 16) (p / 16) ≡ false
    not_now = by_cases (spare (set v p x) (p / 16) (p / 16)) (λ s. absurd (spare_other (set v p x) (p / 16) (p / 16) s refl)) (λ s. s)

    back : (i : ℕ) → spare (set v p x) (p / 16) i ≡ true → spare v h.block i ≡ true
    back i s = go (ℕ_discrete i h.block)
      where
        o : i ≡ p / 16 → ⊥
        o = spare_other (set v p x) (p / 16) i s

        cleans : wholly_clean v i ≡ true
        cleans = sym (clean_elsewhere v p i x (λ z. o (sym z))) ∙ spare_clean (set v p x) (p / 16) i s

        go : Dec (i ≡ h.block) → spare v h.block i ≡ true
        go (yes z) = true_false (rw z at cleans) u
        go (no z) = spare_is v h.block i z cleans

head_used : {m : List ℕ} {s : Held} {h : History} (K : Known m s h) → wholly_clean (views m) s.head.block ≡ false
head_used {m} {s} K = by_cases (wholly_clean (views m) s.head.block) (λ e. absurd (not_clean_there e)) (λ e. e)
  where
    t : There (views m) s.head.serial
    t = newest K

    not_clean_there : wholly_clean (views m) s.head.block ≡ true → ⊥
    not_clean_there e =
        let q = K.stands.newest t.at t.page t.is t.serial in
        let z : 16 * s.head.block + t.at % 16 ≡ t.at = omega arith in
        let c = clean_page (views m) s.head.block (t.at % 16) e (omega arith) in
        true_false (rw (z, t.is) at c) (unfold is_clean in refl)

-- ---- groups of one entry

abbrev keys : List ℕ
keys = 5 ∷ []

abbrev texts : List ℕ
texts = 1 ∷ []

abbrev entry : List Entry
entry = cell 5 1 ∷ []

narrow_keys : Below (2 ^ 16) keys
narrow_keys = record { each = go }
  where
    go : (i : ℕ) → get_or keys i 0 < 2 ^ 16
    go zero = omega arith
    go (suc i) = omega arith

narrow_texts : Below (2 ^ 64) texts
narrow_texts = record { each = go }
  where
    go : (i : ℕ) → get_or texts i 0 < 2 ^ 64
    go zero = omega arith
    go (suc i) = omega arith

zipped : zip keys texts ≡ entry
unfolding zip
zipped = refl

-- the index: nothing set, or valve 5
data Least : List Place → Type 0 where
  unset : Least []
  is_set : (a : ℕ) → Least (cell 5 a ∷ [])

least_within : (l : List Place) → Least l → within l entry ≡ true
unfolding within assign put
least_within l unset = refl
least_within l (is_set a) = refl

least_after : (l : List Place) (p : ℕ) → Least l → Least (assign_all l (addressed entry (p ∷ [])))
unfolding assign_all assign put addressed addressed_from
least_after l p unset = is_set _
least_after l p (is_set a) = is_set _

offers : (s : Held) → Least s.index → Offer s keys texts
offers s l = record { lists = unfold lists_ok every in refl; allowed = rw zipped (unfold entries_allowed entry_allowed all in refl); withins = rw zipped (least_within s.index l) }

-- a world in which the loop goes on
record Filling (m : List ℕ) (s : Held) (h : History) : Type 0 where
  knows : Known m s h
  rests : s.pending ≡ idle
  index : Least s.index
  pages : 16 ≤ available (views m) s.head

record Filled (n d : ℕ) : Type 0 where
  m : List ℕ
  s : Held
  h : History
  size : length m ≡ n
  filling : Filling m s h
  short : room_for (views m) s.head (pages_for (length keys) + 16) ≡ false
  serials : s.head.serial ≤ d

record FillNext (m : List ℕ) (s : Held) : Type 0 where
  m' : List ℕ
  s' : Held
  h' : History
  size : length m' ≡ length m
  filling : Filling m' s' h'
  less : available (views m') s'.head < available (views m) s.head
  serials : s'.head.serial ≡ suc s.head.serial

one_page : pages_for (length keys) ≡ 1
unfolding pages_for
one_page = refl

-- the page of the group
append_due : {m : List ℕ} (s : Held) {h : History} (K : Known m (starting s (append entry [])) h) → 1 ≤ available (views m) s.head → s.head.serial + 1 ≤ 2 ^ 64 - 1 → (records : List Bool)
    → due (views m) (held s.head s.index (append entry []) records) (buffered_in fresh) (append entry []) ≡ gives
    (Step.program (page_due (views m) s.head) (group_page 1 entry 0 s.head.serial)
    (held (head_after s.head (page_due (views m) s.head) s.head.base) (assign_all s.index (addressed entry (page_due (views m) s.head ∷ []))) idle records) true)
unfolding due append_step appended is_last
append_due {m} s K one room records =
    page_programmed K one room (group_page 1 entry 0 s.head.serial)
    (held (head_after s.head (page_due (views m) s.head) s.head.base) (assign_all s.index (addressed entry (page_due (views m) s.head ∷ []))) idle records) true

fill_next : {m : List ℕ} {s : Held} {h : History} → Filling m s h → room_for (views m) s.head (pages_for (length keys) + 16) ≡ true → s.head.serial + 1 ≤ 2 ^ 64 - 1 → FillNext m s
fill_next {m} {s} {h} F room serials =
    let W = writes K₁ (append entry []) refl (unfold is_idle in refl) p pg hd index idle true (append_due s K₁ (omega (arith, many)) serials) in
    record {
      m' = W.m';
      s' = held hd index idle W.records;
      h' = counted (tell h (began_append entry)) (tell h (began_append entry)).under_way;
      size = W.size;
      filling = record { knows = W.goes_on.knows; rests = refl; index = least_after s.index p F.index; pages = pages_after_lem W.m' W.sees };
      less = less_after W.m' W.sees;
      serials = unfold head_after in refl;
    }
  where
    K : Known m s h
    K = F.knows

    many : 17 ≤ available (views m) s.head
    many =
        let z : pages_for (length keys) + 16 ≤ available (views m) s.head = leb-true (pages_for (length keys) + 16) (available (views m) s.head) (unfold room_for in room) in omega (arith, one_page)

    begun : append_of (length m) (views m) s fresh keys texts ≡ gives (starting s (append entry []))
    begun =
        append_begins K F.rests keys texts (offers s F.index) room (unfold serials_for in le-leb (s.head.serial + pages_for (length keys)) (2 ^ 64 - 1) (omega (arith, one_page)))
        ∙ ap (λ (es : List Entry). gives (starting s (append es []))) zipped

    ev : happen (world m (Some s) fresh) (Event.append keys texts narrow_keys narrow_texts) ≡ moment m (Some (starting s (append entry []))) fresh (began_append entry)
    ev =
        append_begun K keys texts narrow_keys narrow_texts (starting s (append entry [])) begun ∙ ap (λ (es : List Entry). moment m (Some (starting s (append entry []))) fresh (began_append es)) zipped

    K₁ : Known m (starting s (append entry [])) (tell h (began_append entry))
    K₁ = knows_begun K (starting s (append entry [])) (Event.append keys texts narrow_keys narrow_texts) (began_append entry) ev

    p : ℕ
    p = page_due (views m) s.head

    pg : Page
    pg = group_page 1 entry 0 s.head.serial

    hd : Head
    hd = head_after s.head p s.head.base

    index : List Place
    index = assign_all s.index (addressed entry (p ∷ []))

    w : Which (views m) s.head p
    w = (due_page (views m) s.head K.ready.heads (omega (arith, many))).which

    pages_after_lem : (m' : List ℕ) → views m' ≡ set (views m) p (whole pg) → 16 ≤ available (views m') (hd)
    pages_after_lem m' vs = rw vs (omega (arith, many, available_after (views m) s.head p s.head.base (whole pg) K.ready.heads w))

    less_after : (m' : List ℕ) → views m' ≡ set (views m) p (whole pg) → available (views m') (hd) < available (views m) s.head
    less_after m' vs = rw vs (available_less (views m) s.head p s.head.base (whole pg) K.ready.heads (head_used K) w)

fill : (d : ℕ) {m : List ℕ} {s : Held} {h : History} → Filling m s h → available (views m) s.head ≤ d → s.head.serial + d ≤ 2 ^ 64 - 1 → Filled (length m) (s.head.serial + d)
fill zero F less room = absurd (omega (arith, F.pages))
fill (suc d) {m} {s} {h} F less room =
    by_cases (room_for (views m) s.head (pages_for (length keys) + 16))
    (λ e. again (fill_next F e (omega arith)) (λ N. fill d N.filling (omega (arith, N.less)) (omega (arith, N.serials))))
    (λ e. record { m = m; s = s; h = h; size = refl; filling = F; short = e; serials = omega arith })
  where
    again : (N : FillNext m s) → ((N : FillNext m s) → Filled (length N.m') (N.s'.head.serial + d)) → Filled (length m) (s.head.serial + suc d)
    again N f =
        let r = f N in
        record { m = r.m; s = r.s; h = r.h; size = r.size ∙ N.size; filling = r.filling; short = r.short; serials = omega (arith, r.serials, N.serials) }

-- ---- from formatting to there

count_few : (n : ℕ) (f : ℕ → Bool) → count_below n f ≤ n
unfolding count_below
count_few zero f = omega arith
count_few (suc n) f = omega (arith, count_few n f, one_most (f n))
  where
    one_most : (b : Bool) → one_if b ≤ 1
    one_most true = unfold one_if in omega arith
    one_most false = unfold one_if in omega arith

available_most : (v : List View) (h : Head) → available v h ≤ 16 + 16 * h.blocks
unfolding available
available_most v h = omega (arith, count_few h.blocks (spare v h.block))

later_clean : (k q : ℕ) → 1 ≤ q → q < suc k → is_clean (seen (whole base_page ∷ replicate k clean) q) ≡ true
unfolding seen is_clean
later_clean k zero a b = absurd (omega arith)
later_clean k (suc q) a b = rw (get_or-replicate {A = View} k q clean spoilt (omega arith)) refl

-- block 1 is clean after formatting
available_first : (n k : ℕ) → 2 ≤ n → 32 ≤ suc k → 16 ≤ available (whole base_page ∷ replicate k clean) (started n []).head
unfolding available
available_first n k h l = omega (arith, count_one n (spare (whole base_page ∷ replicate k clean) 0) 1 (omega arith) (spare_is (whole base_page ∷ replicate k clean) 0 1 (λ z. omega arith) second))
  where
    second : wholly_clean (whole base_page ∷ replicate k clean) 1 ≡ true
    second = unfold wholly_clean in below_all 16 (λ i. is_clean (seen (whole base_page ∷ replicate k clean) (16 * 1 + i))) (λ i y. later_clean k (16 * 1 + i) (omega arith) (omega arith))

-- formatted
record Start (n : ℕ) : Type 0 where
  m : List ℕ
  records : List Bool
  size : length m ≡ n
  fills : Filling m (started (n / 4096) records) start

format_begins : (n : ℕ) (s : Held) → size_ok n ≡ true → format_of n ≡ gives s → s ≡ formatting (n / 4096)
unfolding format_of under
format_begins n s size e = let f : gives (formatting (n / 4096)) ≡ gives s = rw size at e in cc

-- formatting of a medium of n bytes, all FFh, is finished
module _ (n : ℕ) (size : size_ok n ≡ true) where
  sizes : size_ok (length (blank n)) ≡ true
  sizes = rw (length_blank n) size

  ends : Finished (blank n)
  unfolding FormattingFinishes
  ends = formatting_finishes (blank n) (bytes_blank n) sizes

  before : World
  before = steps_on (length (blank n) / 4096) (world (blank n) (Some ends.state) fresh)

  after : World
  after = lent_anew (happen before Event.step).after

  begins : Begins after
  unfolding after before
  begins =
      let F = rw (← format_begins (length (blank n)) ends.state sizes ends.begun) at (under_way_lem (blank n) (bytes_blank n) sizes (length (blank n) / 4096) (omega arith)) in
      starts before.medium before.buffer before.state (in_format before F) ends.last

  long : length after.medium ≡ n
  unfolding after before steps_on
  long = ends.same_length ∙ length_blank n

  reached : Reached after start
  unfolding after before steps_on
  reached = ends.reached

  is : after ≡ world after.medium (Some (started (n / 4096) begins.erased)) fresh
  unfolding after
  is = ap (λ (o : Option Held). world after.medium o fresh) (begins.holds ∙ ap (λ (k : ℕ). Some (started (k / 4096) begins.erased)) long)

  enough : 16 ≤ available (views after.medium) (started (n / 4096) begins.erased).head
  enough =
      let z = sized n size in
      let l : length (views after.medium) ≡ suc begins.pages = ap length begins.sees ∙ ap suc (length-replicate {A = View} begins.pages clean) in
      rw begins.sees (available_first (n / 4096) begins.pages (omega (arith, z.low)) (omega (arith, l, length_views after.medium, long, z.low)))

  start_of : Start n
  start_of =
      record {
        m = after.medium;
        records = begins.erased;
        size = long;
        fills = record { knows = known after.medium (started (n / 4096) begins.erased) start (subst (λ (x : World). Reached x start) is reached); rests = refl; index = unset; pages = enough };
      }

-- a medium that is filled
arises : (n d : ℕ) → Filled n d → d + 16 ≤ 2 ^ 64 - 1 → Arises n
arises n d f room =
    record {
      w = world f.m (Some f.s) fresh;
      h = f.h;
      s = f.s;
      ks = keys;
      ws = texts;
      size = f.size;
      met = met;
      serials = unfold Sixteen in sixteen (world f.m (Some f.s) fresh) f.h f.s keys texts met (omega (arith, f.serials));
    }
  where
    met : Meets13 (world f.m (Some f.s) fresh) f.h f.s keys texts
    met =
        record {
          reached = f.filling.knows.reached;
          state = refl;
          empty = refl;
          rests = f.filling.rests;
          met13 = append_full f.filling.knows f.filling.rests keys texts (offers f.s f.filling.index) f.short;
          pages = f.filling.pages;
          narrow = narrow_keys;
          small = narrow_texts;
        }

from_start : (n : ℕ) → size_ok n ≡ true → Start n → Arises n
from_start n size D = subst Arises D.size (arises (length D.m) (2 + available (views D.m) hd.head) filled (omega (arith, most, z.high)))
  where
    z : Sized n
    z = sized n size

    hd : Held
    hd = started (n / 4096) D.records

    most : available (views D.m) hd.head ≤ 16 + 16 * (n / 4096)
    most = available_most (views D.m) hd.head

    filled : Filled (length D.m) (2 + available (views D.m) hd.head)
    filled = fill (available (views D.m) hd.head) D.fills (omega arith) (omega (arith, most, z.high))

pub possible : Possible
unfolding Possible
possible n size = from_start n size (start_of n size)
