-- An archive beside all moments of a list: it is right at each whose next serial is not smaller than that of its mark. What is read at any of these, and filed,
-- leaves it so; what is read now, and what a faded medium shows of an earlier moment, are the same.
use mathlib.Core.Path.{◌≡◌, refl, sym, ap, ◌∙◌}
use mathlib.Core.Logic.{◌⊎◌, inl, inr}
use mathlib.Core.Bool.{Bool, true, false}
use mathlib.Core.List.{List, [], ◌++◌, append-nil}
use Prim.Native.Nat.{ℕ, ◌≤◌, ◌<◌}
use native.Mathlib.Omega.{arith}
use Rattle.lists.specs.Cells.{Entry}
use Rattle.lists.proofs.Laws.{by_cases}
use Rattle.page.specs.Pages.{changes_of}
use Rattle.flash.specs.Medium.{views}
use Rattle.recovery.specs.Recovery.{base}
use Rattle.valve_log.specs.History.{History, Told, unchanged, began_append, began_commit, began_collect, put_in, began_flush, stepped_page, stepped_block, recovery, tell}
use Rattle.valve_log.specs.Reached.{World, Event, happen, Earlier, happened, Before, switched_off, Reached}
use Rattle.valve_log.specs.SinceCommit.{commit_counts}
use Rattle.valve_log.specs.Base.{Rises}
use Rattle.valve_log.specs.Made.{groups_counting, groups_made_before, groups_made}
use Rattle.valve_log.proofs.Base.{base_rises, base_rises_before}
use Rattle.valve_log.proofs.Made.{tell_joins}
use Rattle.valve_log.proofs.Point3.{reached_upheld}
use Rattle.fading.specs.Fading.{AtOrBefore, now, earlier, older}
use Rattle.fading.proofs.Standing.{next_serial, next_is}
use Rattle.fading.proofs.Moments.{happen_change, changed_before, page_told, happen_risen, risen_before, Along, along}
use Rattle.archive.specs.Archive.{Archive, file}
use Rattle.archive.proofs.Kept.{Kept, kept_same, kept_told, committed_none, seen_at, filed_kept, nothing_later}

-- ---- base and next serial of a world

abbrev pub base_in : World → ℕ
base_in w = base (views w.medium)

abbrev pub serial_in : World → ℕ
serial_in w = next_serial (views w.medium)

-- what an event does to them
pub rises_in : (w : World) (h : History) → Reached w h → (e : Event w) → Rises (commit_counts h (happen w e).told) (base_in w) (serial_in w) (base_in (happen w e).after)
rises_in w h r e = rw (next_is (views w.medium)) (base_rises w h r e)

pub never_falls : (w : World) (h : History) → Reached w h → (e : Event w) → serial_in w ≤ serial_in (happen w e).after
never_falls w h r e = (happen_change w.medium w.state w.buffer h e (reached_upheld w h r)).never_falls

-- one event more, of today's program or of that before Paper 8: the list r comes of r'
record Onward {w' : World} {h' : History} (r' : Reached w' h') {w : World} {h : History} (r : Reached w h) : Type 0 where
  pub told : Told
  pub history : h ≡ tell h' told
  pub made : groups_made r ≡ groups_made r' ++ groups_counting h' told
  pub rises : Rises (commit_counts h' told) (base_in w') (serial_in w') (base_in w)
  pub never_falls : serial_in w' ≤ serial_in w
  pub risen : page_told told ≡ true → serial_in w' < serial_in w

onward : (w : World) (h : History) (r : Reached w h) (e : Event w) → Onward r (Reached.next w h e r)
unfolding groups_made
onward w h r e =
    record {
      told = (happen w e).told;
      history = refl;
      made = refl;
      rises = rises_in w h r e;
      never_falls = never_falls w h r e;
      risen = happen_risen w.medium w.state w.buffer h e (reached_upheld w h r);
    }

onward_before : (w : World) (h : History) (b : Before w h) (e : Earlier w) → Onward (Reached.taken_over b) (Reached.taken_over (Before.next w h e b))
unfolding groups_made groups_made_before
onward_before w h b e =
    record {
      told = (happened w e).told;
      history = refl;
      made = refl;
      rises = rw (next_is (views w.medium)) (base_rises_before w h b e);
      never_falls = (changed_before w h e b).never_falls;
      risen = risen_before w h e b;
    }

-- ---- the moments of a list

-- something holds at every moment of the program before Paper 8
unfoldable pub AllBefore : ((w : World) (h : History) → Reached w h → Type 0) → (w : World) (h : History) → Before w h → Type 0
AllBefore P w h (Before.start v F e) = P (switched_off w) h (Reached.taken_over (Before.start v F e))
AllBefore P w h (Before.next v g e b) = AllBefore P v g b × P (switched_off w) h (Reached.taken_over (Before.next v g e b))

-- something holds at every moment
unfoldable pub AllMoments : ((w : World) (h : History) → Reached w h → Type 0) → (w : World) (h : History) → Reached w h → Type 0
AllMoments P w h (Reached.start v F e) = P w h (Reached.start v F e)
AllMoments P w h (Reached.next v g e r) = AllMoments P v g r × P w h (Reached.next v g e r)
AllMoments P w h (Reached.taken_over {w = v} {h = g} b) = AllBefore P v g b

module _ (P : (w : World) (h : History) → Reached w h → Type 0) where
  all_last : (w : World) (h : History) (b : Before w h) → AllBefore P w h b → P (switched_off w) h (Reached.taken_over b)
  unfolding AllBefore
  all_last w h (Before.start v F e) A = A
  all_last w h (Before.next v g e b) A = A.1

  all_now : (w : World) (h : History) (r : Reached w h) → AllMoments P w h r → P w h r
  unfolding AllMoments
  all_now w h (Reached.start v F e) A = A
  all_now w h (Reached.next v g e r) A = A.1
  all_now w h (Reached.taken_over {w = v} {h = g} b) A = all_last v g b A

  all_at : {v : World} {g : History} (q : Reached v g) (w : World) (h : History) (r : Reached w h) → AllMoments P w h r → AtOrBefore q w h r → P v g q
  unfolding AllMoments AllBefore
  all_at {v} {g} q w h r A now = all_now v g q A
  all_at q w h r A (earlier {w = w'} {h = h'} {r = r'} e p) = all_at q w' h' r' A.0 p
  all_at q w h r A (older {w = w'} {h = h'} {b = b} e p) = all_at q (switched_off w') h' (Reached.taken_over b) A.0 p

  all_before : (w : World) (h : History) (b : Before w h)
      → ((u : World) (k : History) (q : Reached u k) → AtOrBefore q (switched_off w) h (Reached.taken_over b) → P u k q) → AllBefore P w h b
  unfolding AllBefore
  all_before w h (Before.start v F e) f = f (switched_off w) h (Reached.taken_over (Before.start v F e)) now
  all_before w h (Before.next v g e b) f =
      (all_before v g b (λ u k q i. f u k q (older e i)), f (switched_off w) h (Reached.taken_over (Before.next v g e b)) now)

  all_of : (w : World) (h : History) (r : Reached w h) → ((v : World) (g : History) (q : Reached v g) → AtOrBefore q w h r → P v g q) → AllMoments P w h r
  unfolding AllMoments
  all_of w h (Reached.start v F e) f = f w h (Reached.start v F e) now
  all_of w h (Reached.next v g e r) f = (all_of v g r (λ u k q i. f u k q (earlier e i)), f w h (Reached.next v g e r) now)
  all_of w h (Reached.taken_over {w = v} {h = g} b) f = all_before v g b f

join : {u v : World} {f g : History} {p : Reached u f} {q : Reached v g} {w : World} {h : History} {r : Reached w h} → AtOrBefore p v g q → AtOrBefore q w h r → AtOrBefore p w h r
join a now = a
join a (earlier e b) = earlier e (join a b)
join a (older e b) = older e (join a b)

-- of two moments one comes first
unfoldable Ordered : {v : World} {g : History} → Reached v g → (w : World) (h : History) → Reached w h → Type 0
Ordered {v} {g} q w h r = AtOrBefore q w h r ⊎ AtOrBefore r v g q

all_ordered : {v : World} {g : History} (q : Reached v g) (w : World) (h : History) (r : Reached w h) → AtOrBefore q w h r → AllMoments (Ordered q) w h r
unfolding AllMoments AllBefore Ordered
all_ordered {v} {g} q w h r now = all_of (Ordered q) v g q (λ u f o i. inr i)
all_ordered q w h r (earlier {w = w'} {h = h'} {r = r'} e p) = (all_ordered q w' h' r' p, inl (earlier e p))
all_ordered q w h r (older {w = w'} {h = h'} {b = b} e p) = (all_ordered q (switched_off w') h' (Reached.taken_over b) p, inl (older e p))

one_first : {u v : World} {f g : History} (p : Reached u f) (q : Reached v g) (w : World) (h : History) (r : Reached w h) → AtOrBefore p w h r → AtOrBefore q w h r
    → AtOrBefore p v g q ⊎ AtOrBefore q u f p
unfolding Ordered
one_first p q w h r a b = all_at (Ordered p) q w h r (all_ordered p w h r a) b

-- ---- nothing counts while the next serial stays

no_commit : (h : History) (t : Told) → page_told t ≡ false → commit_counts h t ≡ false
unfolding page_told commit_counts
no_commit h unchanged e = refl
no_commit h (began_append es) e = refl
no_commit h began_commit e = refl
no_commit h began_collect e = refl
no_commit h (put_in es) e = refl
no_commit h began_flush e = refl
no_commit h stepped_page e = let z : ◌≡◌ {A = ℕ} 0 1 = cc in absurd (omega arith)
no_commit h stepped_block e = refl
no_commit h recovery e = refl

no_group_lem : (h : History) (t : Told) → page_told t ≡ false → groups_counting h t ≡ []
unfolding page_told groups_counting
no_group_lem h unchanged e = refl
no_group_lem h (began_append es) e = refl
no_group_lem h began_commit e = refl
no_group_lem h began_collect e = refl
no_group_lem h (put_in es) e = refl
no_group_lem h began_flush e = refl
no_group_lem h stepped_page e = let z : ◌≡◌ {A = ℕ} 0 1 = cc in absurd (omega arith)
no_group_lem h stepped_block e = refl
no_group_lem h recovery e = refl

record Still (v : World) (g : History) (q : Reached v g) (w : World) (h : History) (r : Reached w h) : Type 0 where
  pub bases : base_in w ≡ base_in v
  pub logs : h.log ≡ g.log
  pub made : groups_made r ≡ groups_made q

still_onward : {v : World} {g : History} (q : Reached v g) {w' : World} {h' : History} (r' : Reached w' h') {w : World} {h : History} (r : Reached w h) → Onward r' r
    → Along v.medium w'.medium → serial_in w ≤ serial_in v → (serial_in w' ≤ serial_in v → Still v g q w' h' r') → Still v g q w h r
still_onward {v} {g} q {w'} {h'} r' {w} {h} r O A l before =
    by_cases (page_told O.told) (λ y. absurd (omega (arith, l, O.risen y, A.rises))) (stood (before (omega (arith, l, O.never_falls))))
  where
    stood : Still v g q w' h' r' → page_told O.told ≡ false → Still v g q w h r
    stood S n =
        let c = no_commit h' O.told n in
        let z = no_group_lem h' O.told n in
        record {
          bases = O.rises.same c ∙ S.bases;
          logs = ap (λ (x : History). x.log) O.history ∙ tell_joins h' O.told c ∙ ap (◌++◌ h'.log) z ∙ append-nil h'.log ∙ S.logs;
          made = O.made ∙ ap (◌++◌ (groups_made r')) z ∙ append-nil (groups_made r') ∙ S.made;
        }

still : {v : World} {g : History} (q : Reached v g) (w : World) (h : History) (r : Reached w h) → AtOrBefore q w h r → serial_in w ≤ serial_in v → Still v g q w h r
still q w h r now l = record { bases = refl; logs = refl; made = refl }
still q w h r (earlier {w = w'} {h = h'} {r = r'} e p) l =
    still_onward q r' r (onward w' h' r' e) (along q w' h' r' p) l (λ k. still q w' h' r' p k)
still q w h r (older {w = w'} {h = h'} {b = b} e p) l =
    still_onward q (Reached.taken_over b) r (onward_before w' h' b e) (along q (switched_off w') h' (Reached.taken_over b) p) l
    (λ k. still q (switched_off w') h' (Reached.taken_over b) p k)

-- ---- the archive beside a moment, and beside all of a list

abbrev pub KeptIn : Archive → (w : World) (h : History) → Reached w h → Type 0
KeptIn a w h r = Kept a (base_in w) (serial_in w) h.log (groups_made r)

-- it is right where the next serial is not smaller than that of its mark
unfoldable pub KeptFrom : Archive → (w : World) (h : History) → Reached w h → Type 0
KeptFrom a w h r = a.mark.serial ≤ serial_in w → KeptIn a w h r

unfoldable pub KeptSince : Archive → (w : World) (h : History) → Reached w h → Type 0
KeptSince a w h r = AllMoments (KeptFrom a) w h r

pub kept_at : {a : Archive} {v : World} {g : History} (q : Reached v g) (w : World) (h : History) (r : Reached w h) → KeptSince a w h r → AtOrBefore q w h r
    → a.mark.serial ≤ serial_in v → KeptIn a v g q
unfolding KeptSince KeptFrom
kept_at {a} q w h r K p l = all_at (KeptFrom a) q w h r K p l

pub kept_of : {a : Archive} (w : World) (h : History) (r : Reached w h)
    → ((v : World) (g : History) (q : Reached v g) → AtOrBefore q w h r → a.mark.serial ≤ serial_in v → KeptIn a v g q) → KeptSince a w h r
unfolding KeptSince KeptFrom
kept_of {a} w h r f = all_of (KeptFrom a) w h r f

-- one event more
pub since_next : {a : Archive} (w : World) (h : History) (r : Reached w h) (e : Event w) → KeptSince a w h r → KeptIn a (happen w e).after (tell h (happen w e).told) (Reached.next w h e r)
    → KeptSince a (happen w e).after (tell h (happen w e).told) (Reached.next w h e r)
unfolding KeptSince KeptFrom AllMoments
since_next {a} w h r e K N = (K, λ l. N)

-- ---- what is read at a moment, and filed

-- it is right at each moment before that with the same next serial
filed_before : (a : Archive) {v : World} {g : History} (q : Reached v g) → KeptIn a v g q → (u : World) (f : History) (o : Reached u f) → AtOrBefore o v g q
    → serial_in v ≤ serial_in u → KeptIn (file a (seen_at a (base_in v) (serial_in v) g)) u f o
filed_before a {v} {g} q K u f o y n =
    let m = (along o v g q y).rises in
    let e : serial_in v ≡ serial_in u = omega arith in
    let S = still o v g q y n in
    kept_same S.bases e S.logs S.made (filed_kept a (base_in v) (serial_in v) g K)

-- so where the first reading is filed it is right at each moment
pub first_since : (a : Archive) (v : World) (g : History) (q : Reached v g) → KeptIn a v g q → KeptSince (file a (seen_at a (base_in v) (serial_in v) g)) v g q
unfolding file
first_since a v g q K = kept_of v g q (λ u f o y n. filed_before a q K u f o y n)

module _ (a : Archive) {v : World} {g : History} (q : Reached v g) (l : a.mark.serial ≤ serial_in v) where
  abbrev filed_then : Archive
  filed_then = file a (seen_at a (base_in v) (serial_in v) g)

  -- it is right at each moment after that
  later_onward : {w' : World} {h' : History} (r' : Reached w' h') {w : World} {h : History} (r : Reached w h) → Onward r' r → KeptIn a w' h' r' → KeptIn a w h r
      → KeptIn filed_then w' h' r' → KeptIn filed_then w h r
  later_onward {w'} {h'} r' {w} {h} r O here then L =
      let t = O.told in
      let logs : h.log ≡ (tell h' t).log = ap (λ (x : History). x.log) O.history in
      let then' : Kept a (base_in w) (serial_in w) (tell h' t).log (groups_made r' ++ groups_counting h' t) = kept_same refl refl logs O.made then in
      kept_same refl refl (sym logs) (sym O.made)
      (kept_told h' L t (base_in w) (serial_in w) O.rises O.never_falls
      (λ c. nothing_later (seen_at a (base_in v) (serial_in v) g) here L (committed_none h' t c here then')))

  later_kept : (w : World) (h : History) (r : Reached w h) → AtOrBefore q w h r → KeptSince a w h r → KeptIn filed_then w h r
  later_kept w h r now K = filed_kept a (base_in v) (serial_in v) g (kept_at q v g q K now l)
  later_kept w h r (earlier {w = w'} {h = h'} {r = r'} e p) K =
      let K' : KeptSince a w' h' r' = kept_of w' h' r' (λ u f o i k. kept_at o w h r K (earlier e i) k) in
      let n : a.mark.serial ≤ serial_in w' = omega (arith, l, (along q w' h' r' p).rises) in
      let O = onward w' h' r' e in
      later_onward r' r O (kept_at r' w' h' r' K' now n) (kept_at r w h r K now (omega (arith, n, O.never_falls))) (later_kept w' h' r' p K')
  later_kept w h r (older {w = w'} {h = h'} {b = b} e p) K =
      let r' : Reached (switched_off w') h' = Reached.taken_over b in
      let K' : KeptSince a (switched_off w') h' r' = kept_of (switched_off w') h' r' (λ u f o i k. kept_at o w h r K (older e i) k) in
      let n : a.mark.serial ≤ serial_in w' = omega (arith, l, (along q (switched_off w') h' r' p).rises) in
      let O = onward_before w' h' b e in
      later_onward r' r O (kept_at r' (switched_off w') h' r' K' now n) (kept_at r w h r K now (omega (arith, n, O.never_falls)))
      (later_kept (switched_off w') h' r' p K')

  file_serial : filed_then.mark.serial ≡ serial_in v
  unfolding file
  file_serial = refl

  pub file_since : (w : World) (h : History) (r : Reached w h) → AtOrBefore q w h r → KeptSince a w h r → KeptSince filed_then w h r
  file_since w h r p K = kept_of w h r each
    where
      each : (u : World) (f : History) (o : Reached u f) → AtOrBefore o w h r → filed_then.mark.serial ≤ serial_in u → KeptIn filed_then u f o
      each u f o i k = go (one_first q o w h r p i)
        where
          go : AtOrBefore q u f o ⊎ AtOrBefore o v g q → KeptIn filed_then u f o
          go (inl y) = later_kept u f o y (kept_of u f o (λ u' f' o' i' k'. kept_at o' w h r K (join i' i) k'))
          go (inr y) = filed_before a q (kept_at q w h r K p l) u f o y (omega (arith, file_serial, k))
