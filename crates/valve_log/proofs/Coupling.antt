-- The coupling of medium, state and history: what holds of the three at every moment.
use mathlib.Core.Path.{◌≡◌, refl}
use mathlib.Core.Bool.{true, ◌||◌}
use Rattle.std.proofs.Common.{Option, None, Some}
use mathlib.Core.List.{List, [], ◌++◌}
use Prim.Native.Nat.{ℕ, ◌+◌, ◌-◌, ◌*◌, ◌/◌, ◌≤◌, ◌<◌}
use lib.Dec.{ltb, eqb}
use lib.ListN.{length}
use borrow.Author.Tests.{leb-true, ltb-true, eqb-true}
use Rattle.lists.specs.Lists.{all}
use Rattle.lists.specs.Cells.{Entry, Place}
use Rattle.lists.specs.declared.Cell.{Cell}
use Rattle.lists.proofs.Laws.{by_cases, all_weaken, every_at}
use Rattle.page.specs.Pages.{View, pages_for}
use Rattle.page.specs.Rules.{entry_ok}
use Rattle.index.specs.Index.{rising, within, entry_allowed, entries_allowed}
use Rattle.blocks.specs.Blocks.{collectible}
use Rattle.state.specs.State.{Pending, idle, append, commit, collect, format, flush, unnamed, Held, head_fit, place_fit, index_fit, group_ok, done_fit, pending_fit, base_pages, fit}
use Rattle.recovery.specs.Recovery.{Placed, Group, between, walk, groups_of}
use Rattle.valve_log.specs.History.{UnderWay, appending, committing, collecting, flushing, History, history}
use Rattle.valve_log.proofs.Index.{valves}
use Rattle.valve_log.proofs.Groups.{lay, Opened}
use Rattle.valve_log.proofs.Present.{PresentAll}
use Rattle.valve_log.proofs.Small.{Small}
use Rattle.valve_log.proofs.Sound.{Sound}

-- What is pending, beside what the history has under way; `serial` is the state's next serial. An append: its pages left and its pages
-- written make up its group, and the walk is inside exactly these. A commit: the same with the index as its list, and its pages alone walk
-- as an open base. A collection and a flush: nothing more, since condition 7 judges block and buffer at each step.
pub data Pend (v : List View) (serial : ℕ) (ch : List Placed) (gs : List Group) (idx : List Place) : Pending → UnderWay → Type 0 where
  at_rest : {u : UnderWay} → Pend v serial ch gs idx idle u
  in_append : {es : List Entry} {ps : List ℕ} {left : ℕ} (f : ℕ) → Small es → left + length ps ≡ pages_for (length es) → f + length ps ≡ serial
      → Opened 1 (walk (between []) ch) gs (lay 1 es 0 f ps) → PresentAll v (lay 1 es 0 f ps) → Pend v serial ch gs idx (append es ps) (appending es left)
  in_commit : {k left : ℕ} (f : ℕ) (ps : List ℕ) (pre : List Placed) → length ps ≡ k → left + k ≡ base_pages (length idx) → f + k ≡ serial
      → ch ≡ pre ++ lay 2 idx 0 f ps
      → Opened 2 (walk (between []) ch) gs (lay 2 idx 0 f ps)
      → Opened 2 (walk (between []) (lay 2 idx 0 f ps)) [] (lay 2 idx 0 f ps)
      → groups_of (walk (between []) (lay 2 idx 0 f ps)) ≡ Some []
      → Pend v serial ch gs idx (commit k) (committing left)
  in_collect : {b : ℕ} → Pend v serial ch gs idx (collect b) collecting
  in_flush : {small : List (List Entry)} → Pend v serial ch gs idx flush (flushing small 1)

-- the state is recovery's, with the operation pending
pub record Alive (v : List View) (s : Held) (u : UnderWay) (b : ℕ) (ch : List Placed) (gs : List Group) (idx : List Place) : Type 0 where
  pub serials : s.head.serial ≡ b + length ch
  pub bases : s.head.base ≡ b
  pub indices : s.index ≡ idx
  pub pends : Pend v s.head.serial ch gs idx s.pending u

pub data Memory (v : List View) (u : UnderWay) (b : ℕ) (ch : List Placed) (gs : List Group) (idx : List Place) : Option Held → Type 0 where
  lost : Memory v u b ch gs idx None
  alive : {s : Held} → Alive v s u b ch gs idx → Memory v u b ch gs idx (Some s)

pub record Coupled (v : List View) (s : Option Held) (h : History) : Type 0 where
  pub b : ℕ
  pub ch : List Placed
  pub gs : List Group
  pub idx : List Place
  pub medium : Sound v h.log h.settings b ch gs idx
  pub memory : Memory v h.under_way b ch gs idx s

-- the state is lost; what the history has under way does not matter then
pub forget : {v : List View} {s : Option Held} {h : History} (u : UnderWay) → Coupled v s h → Coupled v None (history h.settings h.log u h.buffered)
forget u c = record { b = c.b; ch = c.ch; gs = c.gs; idx = c.idx; medium = c.medium; memory = lost }

pub alive_of : {v : List View} {u : UnderWay} {b : ℕ} {ch : List Placed} {gs : List Group} {idx : List Place} {s : Held} → Memory v u b ch gs idx (Some s) → Alive v s u b ch gs idx
alive_of (alive a) = a

-- ---- what condition 7 gives

-- of a pending append's group: its entries keep the page rules, as 11 sees to, and 10 and 12
pub record Let-in (index : List Place) (es : List Entry) : Type 0 where
  pub many : 1 ≤ length es
  pub most : length es ≤ 96
  pub lawfuls : all (entry_ok 1) es ≡ true
  pub counts : within index es ≡ true

-- of what is pending
unfoldable pub Awaited : List View → Held → Pending → Type 0
Awaited v s idle = Unit {0}
Awaited v s (append es ps) = Let-in s.index es × (length ps < pages_for (length es))
Awaited v s (commit k) = k < base_pages (length s.index)
Awaited v s (collect b) = collectible v s.head b ≡ true
Awaited v s (format n) = Unit {0}
Awaited v s flush = Unit {0}
Awaited v s unnamed = Unit {0}

-- 11 gives the page rules of entries
one_lawful : (kind : ℕ) → eqb kind 1 || eqb kind 4 ≡ true → (e : Entry) → entry_allowed e ≡ true → entry_ok kind e ≡ true
unfolding entry_allowed entry_ok
one_lawful kind k e h = by_cases (ltb e.key 32768) (λ q. rw q) (λ q. rw (q, k) (rw q at h))

pub allowed_lawful : (kind : ℕ) → eqb kind 1 || eqb kind 4 ≡ true → (es : List Entry) → entries_allowed es ≡ true → all (entry_ok kind) es ≡ true
unfolding entries_allowed
allowed_lawful kind k es h = all_weaken entry_allowed (entry_ok kind) (one_lawful kind k) es h

group_in : (index : List Place) (es : List Entry) → group_ok index es ≡ true → Let-in index es
unfolding group_ok
group_in index es g =
    record {
      many = leb-true 1 (length es) (every_at 0 _ g);
      most = leb-true (length es) 96 (every_at 1 _ g);
      lawfuls = allowed_lawful 1 refl es (every_at 2 _ g);
      counts = every_at 3 _ g;
    }

pub awaited : (v : List View) (s : Held) (p : Pending) → pending_fit v s.head s.index p ≡ true → Awaited v s p
unfolding pending_fit Awaited done_fit
awaited v s idle f = tt
awaited v s (append es ps) f = (group_in s.index es (every_at 0 _ f), ltb-true (length ps) (pages_for (length es)) (every_at 1 _ (every_at 1 _ f)))
awaited v s (commit k) f = ltb-true k (base_pages (length s.index)) (every_at 1 _ f)
awaited v s (collect b) f = f
awaited v s (format n) f = tt
awaited v s flush f = tt
awaited v s unnamed f = tt

pub record Fits (v : List View) (s : Held) : Type 0 where
  pub size : s.head.blocks ≡ length v / 16
  pub count : length s.index ≤ 192
  pub rise : rising s.index ≡ true
  pub valve : valves s.index ≡ true
  pub address : all (λ x. ltb x.val (384 * s.head.blocks)) s.index ≡ true
  pub serial : 1 ≤ s.head.serial

pub fits : (v : List View) (s : Held) → fit v s ≡ true → Fits v s
unfolding fit head_fit index_fit
fits v s h =
    let a = every_at 0 _ h in
    let b = every_at 1 _ h in
    record {
      size = eqb-true s.head.blocks (length v / 16) (every_at 0 _ a);
      count = leb-true (length s.index) 192 (every_at 0 _ b);
      rise = every_at 1 _ b;
      valve = unfold valves in all_weaken (place_fit s.head.blocks) (λ (x : Cell). ltb x.key 32768) (λ x e. unfold place_fit in every_at 0 _ e) s.index (every_at 2 _ b);
      address = all_weaken (place_fit s.head.blocks) (λ (x : Cell). ltb x.val (384 * s.head.blocks)) (λ x e. unfold place_fit in every_at 1 _ e) s.index (every_at 2 _ b);
      serial = leb-true 1 s.head.serial (every_at 4 _ a);
    }

-- and what is pending fits too
pub pending_fit_lem : (v : List View) (s : Held) → fit v s ≡ true → pending_fit v s.head s.index s.pending ≡ true
unfolding fit
pending_fit_lem v s f = every_at 2 _ f
