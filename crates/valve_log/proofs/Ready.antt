-- On a reached medium the state is fit, the page due is clean, and there are pages enough for what is pending.
use mathlib.Core.Path.{◌≡◌, refl, sym, ap, ◌∙◌}
use mathlib.Core.Logic.{inl, inr}
use mathlib.Core.Bool.{Bool, true, false, not}
use Rattle.std.proofs.Common.{Some}
use mathlib.Core.List.{List, [], ◌∷◌, ◌++◌}
use Prim.Native.Nat.{ℕ, suc, ◌+◌, ◌-◌, ◌*◌, ◌/◌, ◌≤◌, ◌<◌}
use native.Mathlib.Omega.{arith}
use native.Mathlib.Decide.{dec_lt}
use lib.Dec.{ltb, leb}
use lib.ListN.{length, set, take, length-set, length-take, length-append}
use borrow.Author.Tests.{ltb-true, leb-false, lt-ltb, le-leb, eq-eqb, ne_eqb, not-true}
use Rattle.lists.specs.declared.Cell.{Cell}
use Rattle.lists.specs.Lists.{all, every, is_some}
use Rattle.lists.specs.Needs.{Answer, refused, gives, under}
use Rattle.lists.specs.Cells.{Entry, Place}
use Rattle.lists.proofs.Laws.{by_cases, and_both, true_false, below_same, every_at, all_head, all_tail, all_take}
use Rattle.page.specs.Pages.{Page, View, spoilt, whole, page, is_clean, pages_for}
use Rattle.page.specs.Buffer.{groups_page}
use Rattle.page.proofs.Berger.{Turned, kept, torn, blanked}
use Rattle.flash.specs.Medium.{seen, wholly_clean}
use Rattle.flash.proofs.Steps.{seen_set_other}
use Rattle.flash.proofs.Cuts.{CutViews}
use Rattle.index.specs.Index.{rising, assign_all, within, entries_allowed}
use Rattle.blocks.specs.declared.Head.{Head}
use Rattle.blocks.specs.Blocks.{size_ok, available, reaches_base, old_block, head_with_room, new_head, page_due, collectible}
use Rattle.nodes.specs.Nodes.{node_in, word_for, word_at, in_block, sound, words, live}
use Rattle.state.specs.State.{Pending, idle, append, commit, collect, format, unnamed, Held, held, head_fit, place_fit, index_fit, count_tests, group_ok, base_pages, done_fit, pending_fit, fit, is_idle, flush, buffered_in}
use Rattle.recovery.specs.Recovery.{Placed, Group}
use Rattle.calls.specs.Calls.{serials_for}
use Rattle.step.specs.Step.{Step, is_last, group_page, head_after, addressed, appended, committed, collected, erasing}
use Rattle.step.specs.Step.{erased_first, programming, append_step, commit_step, move_step, collect_step, due, step_of, flushed, flush_step}
use Rattle.step.proofs.Laws.{first_cases}
use Rattle.valve_log.specs.History.{UnderWay, History}
use Rattle.valve_log.specs.Steady.{expected}
use Rattle.index.proofs.Members.{In, in_take, in_all, all_in}
use Rattle.nodes.proofs.Alive.{in_live}
use Rattle.valve_log.proofs.Index.{valves}
use Rattle.valve_log.proofs.Views.{clean_same}
use Rattle.valve_log.proofs.Moves.{unique_live, live_in_block, moves_out}
use Rattle.valve_log.proofs.Replay.{addressed_one}
use Rattle.valve_log.proofs.Coupling.{Pend, at_rest, in_append, in_commit, in_collect, in_flush, Alive, alive_of, Coupled}
use Rattle.valve_log.proofs.Lent.{Lent, with_fit}
use Rattle.valve_log.proofs.Allowed.{appended_in, Allowed}
use Rattle.valve_log.proofs.Supply.{clean_elsewhere, HeadReady, Which, in_head, new_head_lem, due_page, available_after, ready_after}

-- pages enough for what is pending; formatting is never pending there
unfoldable pub Left : List View → Head → List Place → Pending → Type 0
Left v h index idle = Unit {0}
Left v h index (append es ps) = pages_for (length es) ≤ length ps + available v h
Left v h index (commit k) = base_pages (length index) ≤ k + available v h
Left v h index (collect b) = pages_for (length (live index b)) ≤ available v h
Left v h index (format n) = ⊥
Left v h index flush = 1 ≤ available v h
Left v h index unnamed = ⊥

-- what 7 asks of what is pending, but for 11, which was another before Paper 8
unfoldable pub pending_well : List View → Head → List Place → Pending → Bool
pending_well v h index idle = true
pending_well v h index (append es ps) =
    every (every (count_tests (length es)) ∷ within index es ∷ done_fit (length ps) h.serial (pages_for (length es)) ∷ [])
pending_well v h index (commit k) = done_fit k h.serial (base_pages (length index))
pending_well v h index (collect b) = collectible v h b
pending_well v h index (format n) = false
pending_well v h index flush = true
pending_well v h index unnamed = false

pub record Ready (v : List View) (s : Held) : Type 0 where
  pub size : length v ≡ 16 * s.head.blocks
  pub heads : HeadReady v s.head
  pub pend : pending_well v s.head s.index s.pending ≡ true
  pub left : Left v s.head s.index s.pending

-- ---- the state is fit

word_there : (v : List View) (x : Cell) → is_some (word_at v x) ≡ true → x.val / 24 < length v
word_there v x e = go (dec_lt (x.val / 24) (length v))
  where
    none_at : seen v (x.val / 24) ≡ spoilt → is_some (word_at v x) ≡ false
    none_at q = unfold word_at word_for node_in is_some in rw q

    go : Dec (x.val / 24 < length v) → x.val / 24 < length v
    go (yes h) = h
    go (no h) = true_false e (none_at (unfold seen in lib.ListN.get_or-eq_default v spoilt {n = x.val / 24} (omega arith)))

places_fit : (v : List View) (blocks : ℕ) (l : List Place) → length v ≡ 16 * blocks → valves l ≡ true → sound v l ≡ true → all (place_fit blocks) l ≡ true
unfolding valves sound all place_fit every
places_fit v blocks [] n a s = refl
places_fit v blocks (x ∷ l) n a s =
    let h = word_there v x (all_head (λ (y : Cell). is_some (word_at v y)) x l s) in
    and_both (and_both (all_head (λ (y : Cell). ltb y.key 32768) x l a) (and_both (lt-ltb x.val (384 * blocks) (omega arith)) refl))
    (places_fit v blocks l n (all_tail (λ (y : Cell). ltb y.key 32768) x l a) (all_tail (λ (y : Cell). is_some (word_at v y)) x l s))

-- with 11 it is all that 7 asks of it
append_fits : (v : List View) (h : Head) (index : List Place) (es : List Entry) (ps : List ℕ) → entries_allowed es ≡ true
    → leb 1 (length es) ≡ true → leb (length es) 96 ≡ true → within index es ≡ true → done_fit (length ps) h.serial (pages_for (length es)) ≡ true → pending_fit v h index (append es ps) ≡ true
unfolding pending_fit group_ok every
append_fits v h index es ps A low high count done = rw (low, high, A, count, done)

pending_fits_lem : (v : List View) (h : Head) (index : List Place) {serial : ℕ} {ch : List Placed} {gs : List Group} {idx : List Place}
    (p : Pending) (u : UnderWay) → Pend v serial ch gs idx p u → entries_allowed (appended_in u) ≡ true → pending_well v h index p ≡ true → pending_fit v h index p ≡ true
unfolding pending_well appended_in
pending_fits_lem v h index p u at_rest A f = unfold pending_fit in refl
pending_fits_lem v h index p u (in_append {es = es} {ps = ps} k a b c d g) A f =
    append_fits v h index es ps A (every_at 0 _ (every_at 0 _ f)) (every_at 1 _ (every_at 0 _ f)) (every_at 1 _ f) (every_at 2 _ f)
pending_fits_lem v h index p u (in_commit k ps pre a b c d g o i) A f = unfold pending_fit in f
pending_fits_lem v h index p u in_collect A f = unfold pending_fit in f
pending_fits_lem v h index p u in_flush A f = unfold pending_fit in refl

pub fit_ready : (v : List View) (s : Held) (h : History) → Coupled v (Some s) h → Allowed h → Ready v s → fit v s ≡ true
unfolding fit head_fit index_fit every
fit_ready v s h c A r =
    rw (
      eq-eqb s.head.blocks (length v / 16) (omega (arith, r.size)),
      lt-ltb s.head.block s.head.blocks r.heads.inside,
      le-leb 1 s.head.next r.heads.low,
      le-leb s.head.next 16 r.heads.high,
      le-leb 1 s.head.serial (omega (arith, a.serials, c.medium.some_page)),
      lt-ltb s.head.base s.head.serial (omega (arith, a.serials, a.bases, c.medium.some_page)),
      le-leb (length s.index) 192 (omega (arith, c.medium.tidy.count, ap length a.indices)),
      ap rising a.indices ∙ c.medium.tidy.rise,
      places_fit v s.head.blocks s.index r.size (ap valves a.indices ∙ c.medium.tidy.valve) (ap (sound v) a.indices ∙ c.medium.sounds),
      pending_fits_lem v s.head s.index s.pending h.under_way a.pends A.appends r.pend,
    )
  where
    a : Alive v s h.under_way c.b c.ch c.gs c.idx
    a = alive_of c.memory

-- every node that the index points at is there
pub sound_part : (v : List View) (index l : List Place) → sound v index ≡ true → ((x : Cell) → In x l → In x index) → sound v l ≡ true
unfolding sound
sound_part v index l s m = in_all (λ (x : Cell). is_some (word_at v x)) l (λ x i. all_in (λ (x : Cell). is_some (word_at v x)) s (m x i))

-- ---- a block that is being collected stays collectible, and no page goes into it

room_left : (h : Head) (b : ℕ) → b ≡ h.block → h.next < 16 → head_with_room h b ≡ true
unfolding head_with_room
room_left h b e l = rw (eq-eqb b h.block e, lt-ltb h.next 16 l)

pub no_room : (h : Head) (b : ℕ) → (b ≡ h.block → ⊥) → head_with_room h b ≡ false
unfolding head_with_room
no_room h b n = rw (ne_eqb b h.block n)

-- what collectible says
pub record Collects (v : List View) (h : Head) (b : ℕ) : Type 0 where
  pub inside : b < h.blocks
  pub used : wholly_clean v b ≡ false
  pub closed : head_with_room h b ≡ false
  pub old : old_block v h.base b ≡ true

pub collects : (v : List View) (h : Head) (b : ℕ) → collectible v h b ≡ true → Collects v h b
unfolding collectible
collects v h b c =
    record {
      inside = ltb-true b h.blocks (every_at 0 _ c);
      used = not-true (wholly_clean v b) (every_at 1 _ c);
      closed = not-true (head_with_room h b) (every_at 2 _ c);
      old = every_at 3 _ c;
    }

pub due_outside : (v : List View) (h : Head) (b p : ℕ) → Which v h p → collectible v h b ≡ true → p / 16 ≡ b → ⊥
due_outside v h b p (in_head l e) c q = let i : b ≡ h.block = omega arith in true_false (room_left h b i l) (collects v h b c).closed
due_outside v h b p (new_head_lem x l e i o w) c q = let z : x ≡ b = omega arith in true_false (rw z at w) (collects v h b c).used

pub old_elsewhere : (v : List View) (p b base : ℕ) (x : View) → (p / 16 ≡ b → ⊥) → old_block (set v p x) base b ≡ old_block v base b
unfolding old_block
old_elsewhere v p b base x n =
    below_same 16 (λ i. not (reaches_base base (seen (set v p x) (16 * b + i)))) (λ i. not (reaches_base base (seen v (16 * b + i))))
    (λ i l. ap (λ (y : View). not (reaches_base base y)) (seen_set_other v p (16 * b + i) x (λ e. n (omega arith))))

stays_collectible : (v : List View) (h : Head) (b p : ℕ) (x : View) → (p / 16 ≡ b → ⊥) → collectible v h b ≡ true → collectible (set v p x) (head_after h p h.base) b ≡ true
unfolding collectible head_after every
stays_collectible v h b p x n c =
    let f = collects v h b c in
    rw (lt-ltb b h.blocks f.inside, clean_elsewhere v p b x n, f.used, no_room (head_after h p h.base) b (λ e. n (sym e)), old_elsewhere v p b h.base x n, f.old)

-- an append and a commit with some pages done
pub well_append : (v : List View) (h : Head) (index : List Place) (es : List Entry) (ps : List ℕ) → every (count_tests (length es)) ≡ true
    → within index es ≡ true → length ps < h.serial → length ps < pages_for (length es) → pending_well v h index (append es ps) ≡ true
unfolding pending_well done_fit every
well_append v h index es ps n w a b = rw (n, w, lt-ltb (length ps) h.serial a, lt-ltb (length ps) (pages_for (length es)) b)

pub well_commit : (v : List View) (h : Head) (index : List Place) (k : ℕ) → k < h.serial → k < base_pages (length index) → pending_well v h index (commit k) ≡ true
unfolding pending_well done_fit every
well_commit v h index k a b = rw (lt-ltb k h.serial a, lt-ltb k (base_pages (length index)) b)

pub left_append : (v : List View) (h : Head) (index : List Place) (es : List Entry) (ps : List ℕ) → pages_for (length es) ≤ length ps + available v h → Left v h index (append es ps)
unfolding Left
left_append v h index es ps k = k

pub left_commit : (v : List View) (h : Head) (index : List Place) (k : ℕ) → base_pages (length index) ≤ k + available v h → Left v h index (commit k)
unfolding Left
left_commit v h index k l = l

pub left_flush : (v : List View) (h : Head) (index : List Place) → 1 ≤ available v h → Left v h index flush
unfolding Left
left_flush v h index k = k

pub left_collect : (v : List View) (h : Head) (index : List Place) (b : ℕ) → pages_for (length (live index b)) ≤ available v h → Left v h index (collect b)
unfolding Left
left_collect v h index b k = k

-- ---- the step keeps it all

unfoldable pub StepReady : List View → Answer Step → Type 0
StepReady v (refused n) = expected n ≡ true
StepReady v (gives (Step.program p pg s' finished)) = Ready (set v p (whole pg)) s'
StepReady v (gives (Step.erase b s' finished)) = (w : List View) → CutViews v (16 * b) 16 v w → Ready w s'

expected_9 : expected 9 ≡ true
unfolding expected every
expected_9 = refl

expected_14 : expected 14 ≡ true
unfolding expected every
expected_14 = refl

-- only 14 may refuse a page where one is available
programming_ready : (v : List View) (h : Head) (pg : Page) (s' : Held) (finished : Bool) → HeadReady v h → 1 ≤ available v h → (Which v h (page_due v h) → Ready (set v (page_due v h) (whole pg)) s')
    → StepReady v (programming v h (page_due v h) pg s' finished)
unfolding programming under StepReady
programming_ready v h pg s' finished r one f =
    let d = due_page v h r one in
    by_cases (serials_for h 1) (λ e. rw (e, d.free) (f d.which)) (λ e. rw e expected_14)

more_pages : (n k : ℕ) → is_last k n ≡ false → suc k < pages_for n
unfolding is_last pages_for
more_pages n k e = let h : 24 * suc k < n = leb-false n (24 * suc k) e in omega arith

more_base : (n k : ℕ) → is_last k n ≡ false → suc k < base_pages n
unfolding base_pages
more_base n k e = let m = more_pages n k e in omega arith

head_after_serial : (h : Head) (p base : ℕ) → (head_after h p base).serial ≡ suc h.serial
unfolding head_after
head_after_serial h p base = refl

collected_is : (s : Held) (b : ℕ) (moves : List Place) (p : ℕ)
    → collected s b moves p ≡ held (head_after s.head p s.head.base) (assign_all s.index (addressed moves (p ∷ []))) (collect b) s.erased
unfolding collected
collected_is s b moves p = refl

appended_more : (s : Held) (es : List Entry) (ps : List ℕ) (p : ℕ) → is_last (length ps) (length es) ≡ false
    → appended s es ps p ≡ held (head_after s.head p s.head.base) s.index (append es (ps ++ (p ∷ []))) s.erased
unfolding appended
appended_more s es ps p e = rw e

module _ (v : List View) (s : Held) (h : History) (c : Coupled v (Some s) h) (r : Ready v s) where
  abbrev p : ℕ
  p = page_due v s.head

  grown_size : (x : View) → length (set v p x) ≡ 16 * s.head.blocks
  grown_size x = length-set v p x ∙ r.size

  append_ready : (es : List Entry) (ps : List ℕ) → s.pending ≡ append es ps → StepReady v (append_step v s es ps)
  unfolding append_step
  append_ready es ps e =
      programming_ready v s.head (group_page 1 es (length ps) s.head.serial) (appended s es ps p) (is_last (length ps) (length es)) r.heads
      (omega (arith, lefts, fewer)) (λ w. by_cases (is_last (length ps) (length es)) (λ l. last w l) (λ l. more w l))
    where
      pends : pending_well v s.head s.index (append es ps) ≡ true
      pends = rw e at r.pend

      lefts : pages_for (length es) ≤ length ps + available v s.head
      lefts = unfold Left in (rw e at r.left)

      fewer : length ps < pages_for (length es)
      fewer = unfold pending_well done_fit in ltb-true (length ps) (pages_for (length es)) (every_at 1 _ (every_at 2 _ pends))

      last : Which v s.head p → is_last (length ps) (length es) ≡ true → Ready (set v p (whole (group_page 1 es (length ps) s.head.serial))) (appended s es ps p)
      last w l = unfold appended in rw l
          (record {
            size = unfold head_after in grown_size (whole (group_page 1 es (length ps) s.head.serial));
            heads = ready_after v s.head p s.head.base (whole (group_page 1 es (length ps) s.head.serial)) r.heads w;
            pend = unfold pending_well in refl;
            left = unfold Left in tt;
          })

      more : Which v s.head p → is_last (length ps) (length es) ≡ false → Ready (set v p (whole (group_page 1 es (length ps) s.head.serial))) (appended s es ps p)
      more w l =
          let a = available_after v s.head p s.head.base (whole (group_page 1 es (length ps) s.head.serial)) r.heads w in
          let n : length (ps ++ (p ∷ [])) ≡ suc (length ps) = omega (arith, length-append ps (p ∷ [])) in
          rw (appended_more s es ps p l)
          (record {
            size = unfold head_after in grown_size (whole (group_page 1 es (length ps) s.head.serial));
            heads = ready_after v s.head p s.head.base (whole (group_page 1 es (length ps) s.head.serial)) r.heads w;
            pend = pend_more l;
            left = left_append (set v p (whole (group_page 1 es (length ps) s.head.serial))) (head_after s.head p s.head.base) s.index es (ps ++ (p ∷ [])) (omega (arith, lefts));
          })
        where
          pend_more : is_last (length ps) (length es) ≡ false → pending_well (set v p (whole (group_page 1 es (length ps) s.head.serial))) (head_after s.head p s.head.base) s.index
              (append es (ps ++ (p ∷ []))) ≡ true
          pend_more l =
              let n : length (ps ++ (p ∷ [])) ≡ suc (length ps) = omega (arith, length-append ps (p ∷ [])) in
              let k : length ps < s.head.serial = unfold pending_well done_fit in ltb-true (length ps) s.head.serial (every_at 0 _ (every_at 2 _ pends)) in
              let m = more_pages (length es) (length ps) l in
              well_append (set v p (whole (group_page 1 es (length ps) s.head.serial))) (head_after s.head p s.head.base) s.index es (ps ++ (p ∷ []))
              (unfold pending_well in every_at 0 _ pends) (unfold pending_well in every_at 1 _ pends)
              (omega (arith, head_after_serial s.head p s.head.base)) (omega arith)

  commit_ready : (k : ℕ) → s.pending ≡ commit k → StepReady v (commit_step v s k)
  unfolding commit_step
  commit_ready k e =
      programming_ready v s.head (group_page 2 s.index k s.head.serial) (committed s k p) (is_last k (length s.index)) r.heads
      (omega (arith, lefts, fewer)) (λ w. by_cases (is_last k (length s.index)) (λ l. last w l) (λ l. more w l))
    where
      pends : pending_well v s.head s.index (commit k) ≡ true
      pends = rw e at r.pend

      lefts : base_pages (length s.index) ≤ k + available v s.head
      lefts = unfold Left in (rw e at r.left)

      fewer : k < base_pages (length s.index)
      fewer = unfold pending_well done_fit in ltb-true k (base_pages (length s.index)) (every_at 1 _ pends)

      last : Which v s.head p → is_last k (length s.index) ≡ true → Ready (set v p (whole (group_page 2 s.index k s.head.serial))) (committed s k p)
      last w l = unfold committed in rw l
          (record {
            size = unfold head_after in grown_size (whole (group_page 2 s.index k s.head.serial));
            heads = ready_after v s.head p (s.head.serial - k) (whole (group_page 2 s.index k s.head.serial)) r.heads w;
            pend = unfold pending_well in refl;
            left = unfold Left in tt;
          })

      more : Which v s.head p → is_last k (length s.index) ≡ false → Ready (set v p (whole (group_page 2 s.index k s.head.serial))) (committed s k p)
      more w l =
          let a = available_after v s.head p s.head.base (whole (group_page 2 s.index k s.head.serial)) r.heads w in
          unfold committed in rw l
          (record {
            size = unfold head_after in grown_size (whole (group_page 2 s.index k s.head.serial));
            heads = ready_after v s.head p s.head.base (whole (group_page 2 s.index k s.head.serial)) r.heads w;
            pend = pend_more l;
            left = unfold Left in omega (arith, lefts);
          })
        where
          pend_more : is_last k (length s.index) ≡ false → pending_well (set v p (whole (group_page 2 s.index k s.head.serial))) (head_after s.head p s.head.base) s.index
              (commit (suc k)) ≡ true
          pend_more l =
              let q : k < s.head.serial = unfold pending_well done_fit in ltb-true k s.head.serial (every_at 0 _ pends) in
              well_commit (set v p (whole (group_page 2 s.index k s.head.serial))) (head_after s.head p s.head.base) s.index (suc k)
              (omega (arith, head_after_serial s.head p s.head.base)) (more_base (length s.index) k l)

  -- the nodes moved leave the block, and a page fewer is wanted
  move_ready : (b : ℕ) (l : List Place) → s.pending ≡ collect b → live s.index b ≡ l → 1 ≤ length l → StepReady v (move_step v s b (take 24 l))
  unfolding move_step under
  move_ready b l e q many =
      rw sounds (programming_ready v s.head (page 3 3 s.head.serial (words v (take 24 l))) (collected s b (take 24 l) p) false r.heads (omega (arith, lefts, pages)) (λ w. after w))
    where
      a : Alive v s h.under_way c.b c.ch c.gs c.idx
      a = alive_of c.memory

      members : (x : Cell) → In x (take 24 l) → In x s.index
      members x i = in_live s.index b (rw q (in_take 24 l i))

      sounds : sound v (take 24 l) ≡ true
      sounds = sound_part v s.index (take 24 l) (ap (sound v) a.indices ∙ c.medium.sounds) members

      valved : valves s.index ≡ true
      valved = ap valves a.indices ∙ c.medium.tidy.valve

      rises : rising s.index ≡ true
      rises = ap rising a.indices ∙ c.medium.tidy.rise

      lefts : pages_for (length l) ≤ available v s.head
      lefts = unfold Left in (rw (e, q) at r.left)

      pages : 1 ≤ pages_for (length l)
      pages = unfold pages_for in omega arith

      fits : collectible v s.head b ≡ true
      fits = unfold pending_well in (rw e at r.pend)

      taken : length (take 24 l) ≤ 24
      taken = omega (arith, length-take 24 l)

      moved_out : (p / 16 ≡ b → ⊥) → length (live (assign_all s.index (addressed (take 24 l) (p ∷ []))) b) + length (take 24 l) ≡ length l
      moved_out n =
          ap (λ (t : List Place). length (live (assign_all s.index t) b) + length (take 24 l)) (addressed_one (take 24 l) p taken)
          ∙ moves_out b p s.index (take 24 l) rises members (rw q at (all_take (in_block b) 24 (live s.index b) (live_in_block s.index b)))
          (unfold valves in in_all (λ (x : Cell). ltb x.key 32768) (take 24 l) (λ x i. all_in (λ (x : Cell). ltb x.key 32768) (index_valved) (members x i)))
          (rw q at (unique_live s.index b 24 rises)) taken n
          ∙ ap length q
        where
          index_valved : all (λ x. ltb x.key 32768) s.index ≡ true
          index_valved = unfold valves in valved

      fewer : (m : ℕ) → m + length (take 24 l) ≡ length l → pages_for m + 1 ≤ pages_for (length l)
      fewer m k = unfold pages_for in omega (arith, length-take 24 l)

      after : Which v s.head p → Ready (set v p (whole (page 3 3 s.head.serial (words v (take 24 l))))) (collected s b (take 24 l) p)
      after w =
          let n = due_outside v s.head b p w fits in
          let k = available_after v s.head p s.head.base (whole (page 3 3 s.head.serial (words v (take 24 l)))) r.heads w in
          let f = fewer (length (live (assign_all s.index (addressed (take 24 l) (p ∷ []))) b)) (moved_out n) in
          rw (collected_is s b (take 24 l) p)
          (record {
            size = unfold head_after in grown_size (whole (page 3 3 s.head.serial (words v (take 24 l))));
            heads = ready_after v s.head p s.head.base (whole (page 3 3 s.head.serial (words v (take 24 l)))) r.heads w;
            pend = unfold pending_well in stays_collectible v s.head b p (whole (page 3 3 s.head.serial (words v (take 24 l)))) n fits;
            left = left_collect (set v p (whole (page 3 3 s.head.serial (words v (take 24 l))))) (head_after s.head p s.head.base)
                (assign_all s.index (addressed (take 24 l) (p ∷ []))) b (omega (arith, lefts));
          })

  -- an erase leaves the head's clean pages clean
  erase_ready : (b : ℕ) (w : List View) → CutViews v (16 * b) 16 v w → Ready w (erasing s b idle)
  erase_ready b w cut =
      unfold erasing in
      record {
        size = cut.size ∙ r.size;
        heads = record { inside = r.heads.inside; low = r.heads.low; high = r.heads.high; tail = λ i lo hi. still (16 * s.head.block + i) (r.heads.tail i lo hi) };
        pend = unfold pending_well in refl;
        left = unfold Left in tt;
      }
    where
      turned_clean : (x y : View) → is_clean x ≡ true → Turned x y → is_clean y ≡ true
      turned_clean x y e (kept z) = e
      turned_clean x y e (torn pg) = true_false e (unfold is_clean in refl)
      turned_clean x y e (blanked z) = unfold is_clean in refl

      still : (q : ℕ) → is_clean (seen v q) ≡ true → is_clean (seen w q) ≡ true
      still q e = go (dec_lt q (16 * b)) (dec_lt q (16 * b + 16))
        where
          go : Dec (q < 16 * b) → Dec (q < 16 * b + 16) → is_clean (seen w q) ≡ true
          go (yes x) d = rw (cut.outside q (inl x)) e
          go (no x) (no y) = rw (cut.outside q (inr (omega arith))) e
          go (no x) (yes y) = turned_clean (seen v q) (seen w q) e (cut.inside q (omega arith) y)

  -- one of a new head, before its first page, leaves all as it was
  first_ready : (own : Answer Step) → StepReady v own → StepReady v (erased_first v s own)
  first_ready own R =
      first_cases (StepReady v) v s own
      (λ f. unfold StepReady in (λ w cut. rw (clean_same v w (new_head v s.head) f.cleans cut) (unfold erasing in record { size = r.size; heads = r.heads; pend = r.pend; left = r.left })))
      (λ e. R)

  collect_ready : (b : ℕ) → s.pending ≡ collect b → (l : List Place) → live s.index b ≡ l → StepReady v (collect_step v s b l)
  unfolding collect_step
  collect_ready b e [] q = unfold StepReady in erase_ready b
  collect_ready b e (x ∷ xs) q = move_ready b (x ∷ xs) e q (omega arith)

  flush_ready : (gs : List (List Entry)) → s.pending ≡ flush → StepReady v (flush_step v s gs)
  unfolding flush_step
  flush_ready gs e =
      programming_ready v s.head (groups_page s.head.serial gs) (flushed s gs p) true r.heads one (λ w.
      unfold flushed in
      record {
        size = unfold head_after in grown_size (whole (groups_page s.head.serial gs));
        heads = ready_after v s.head p s.head.base (whole (groups_page s.head.serial gs)) r.heads w;
        pend = unfold pending_well in refl;
        left = unfold Left in tt;
      })
    where
      one : 1 ≤ available v s.head
      one = unfold Left in (rw e at r.left)

  due_ready : (gs : List (List Entry)) (pend : Pending) → s.pending ≡ pend → StepReady v (due v s gs pend)
  unfolding due
  due_ready gs idle e = unfold StepReady in expected_9
  due_ready gs (append es ps) e = append_ready es ps e
  due_ready gs (commit k) e = commit_ready k e
  due_ready gs (collect b) e = collect_ready b e (live s.index b) refl
  due_ready gs (format n) e = absurd (unfold Left in (rw e at r.left))
  due_ready gs flush e = flush_ready gs e
  due_ready gs unnamed e = absurd (unfold Left in (rw e at r.left))

  -- the step, whatever was asked before it
  pub own_ready : (gs : List (List Entry)) → StepReady v (erased_first v s (due v s gs s.pending))
  own_ready gs = first_ready (due v s gs s.pending) (due_ready gs s.pending refl)

  pub step_ready : (b : List ℕ) → Lent s b h → Allowed h → (n : ℕ) → size_ok n ≡ true → StepReady v (step_of n v s b)
  unfolding step_of under
  step_ready b L A n size =
      let f = with_fit v L A.gathers (fit_ready v s h c A r) in
      by_cases (is_idle s.pending) (λ i. rw (size, f, i) (unfold StepReady in expected_9))
      (λ i. rw (size, f, i) (own_ready (buffered_in b)))
