-- The step that is due on a coupled medium and state: what it may do, and that the coupling holds after it, and after a cut inside it.
use mathlib.Core.Path.{◌≡◌, refl, sym, ap, ◌∙◌}
use mathlib.Core.Logic.{◌⊎◌, inl, inr}
use mathlib.Core.Bool.{Bool, true, false, not, cond}
use Rattle.std.proofs.Common.{Some}
use mathlib.Core.List.{List, [], ◌∷◌}
use Prim.Native.Nat.{ℕ, ◌+◌, ◌-◌, ◌*◌, ◌/◌, ◌^◌, ◌≤◌, ◌<◌}
use native.Mathlib.Omega.{arith}
use lib.Dec.{leb, ltb, eqb}
use lib.ListN.{length, set, take, length-take}
use borrow.Author.Tests.{leb-true, ltb-true, not-true, eqb-false}
use Rattle.lists.specs.declared.Cell.{Cell}
use Rattle.lists.specs.Lists.{all}
use Rattle.lists.specs.Needs.{Answer, refused, gives, need}
use Rattle.lists.specs.Cells.{Entry, Place}
use Rattle.lists.proofs.Laws.{by_cases, every_at, below_at, tests, checked_cases, opposite}
use Rattle.page.specs.Pages.{Page, View, whole, page, is_clean, pages_for}
use Rattle.codec.specs.Codec.{blank}
use Rattle.page.specs.Rules.{lawful}
use Rattle.page.specs.Buffer.{groups_page}
use Rattle.page.proofs.Buffer.{narrow_groups}
use Rattle.page.proofs.Written.{Narrow}
use Rattle.flash.specs.Medium.{most_pages, seen}
use Rattle.flash.proofs.Cuts.{CutViews}
use Rattle.blocks.specs.Blocks.{size_ok, reaches_base, old_block, new_head, page_due, collectible}
use Rattle.nodes.specs.Nodes.{in_block, sound, words, live, word_at}
use Rattle.state.specs.State.{Pending, idle, Held, base_pages, is_idle, fit_with, buffered_in}
use Rattle.calls.specs.Calls.{serials_for}
use Rattle.recovery.specs.Recovery.{Placed, Group}
use Rattle.step.specs.Step.{Step, is_last, group_page, appended, committed, collected, erasing, erased_first, page_needs, programming, append_step}
use Rattle.step.specs.Step.{commit_step, move_step, collect_step, due, step_of, flushed, flush_step}
use Rattle.step.proofs.Laws.{first_cases}
use Rattle.valve_log.specs.History.{UnderWay, collecting, History, counted, appending, committing, flushing}
use Rattle.index.proofs.Members.{In, in_take, in_all, all_in}
use Rattle.nodes.proofs.Alive.{in_live, words_length}
use Rattle.valve_log.proofs.Index.{valves, not_live, words_outside, sound_outside}
use Rattle.valve_log.proofs.Views.{cut_lost, clean_same, word_same}
use Rattle.valve_log.proofs.Groups.{page_most}
use Rattle.valve_log.proofs.Small.{small_part, small_places, small_words, SmallWords, narrow}
use Rattle.valve_log.proofs.Sound.{Sound, lost_sound}
use Rattle.valve_log.proofs.Coupling.{Pend, at_rest, in_append, in_commit, in_collect, in_flush, Alive, alive, alive_of, Coupled, Fits, fits, Awaited, awaited, pending_fit_lem}
use Rattle.valve_log.proofs.Steps.{page_serial, ap_lawful, ap_more, ap_last, cm_lawful, cm_more, cm_last, cl_lawful, cl_more, fl_lawful, fl_last}
use Rattle.valve_log.proofs.Lent.{Beside, Lent, lent_groups, state_fit, not_flush, lent_none, lent_after, kept_append, kept_commit}

-- ---- what a step may be

-- a program: where the medium is clean, a lawful page with the next serial whose fields have room; the coupling holds after it
pub record Programs (v : List View) (s : Held) (b : List ℕ) (h : History) (p : ℕ) (pg : Page) (s' : Held) : Type 0 where
  pub cleans : is_clean (seen v p) ≡ true
  pub fits_in : Narrow pg
  pub lawfuls : lawful pg ≡ true
  pub serials : pg.serial ≡ s.head.serial
  pub after : Coupled (set v p (whole pg)) (Some s') (counted h h.under_way)
  pub lends : Lent s' (cond (eqb pg.kind 4) (blank 256) b) (counted h h.under_way)

-- an erase: of a block, whose pages may each be as before, spoilt or clean; the coupling holds after it
pub record Erases (v : List View) (bs : List ℕ) (h : History) (b : ℕ) (s' : Held) : Type 0 where
  pub inside : 16 * b + 16 ≤ length v
  pub after : (w : List View) → CutViews v (16 * b) 16 v w → Coupled w (Some s') h
  pub lends : Lent s' bs h

unfoldable pub Good : List View → Held → List ℕ → History → Answer Step → Type 0
Good v s bs h (refused n) = Unit {0}
Good v s bs h (gives (Step.program p pg s' finished)) = Programs v s bs h p pg s'
Good v s bs h (gives (Step.erase b s' finished)) = Erases v bs h b s'

pub refused_good : (v : List View) (s : Held) (bs : List ℕ) (h : History) (n : ℕ) → Good v s bs h (refused n)
unfolding Good
refused_good v s bs h n = tt

-- conditions 14 and 16
programming_good : (v : List View) (s : Held) (bs : List ℕ) (h : History) (p : ℕ) (pg : Page) (s' : Held) (finished : Bool)
    → (is_clean (seen v p) ≡ true → s.head.serial + 1 ≤ 2 ^ 64 - 1 → Programs v s bs h p pg s') → Good v s bs h (programming v s.head p pg s' finished)
unfolding programming
programming_good v s bs h p pg s' finished f =
    checked_cases (Good v s bs h) (page_needs v s.head p) (gives (Step.program p pg s' finished)) (refused_good v s bs h)
    (λ e. unfold Good in f (unfold tests in every_at 1 _ e) (room (unfold tests in every_at 0 _ e)))
  where
    room : serials_for s.head 1 ≡ true → s.head.serial + 1 ≤ 2 ^ 64 - 1
    room e = unfold serials_for in leb-true (s.head.serial + 1) (2 ^ 64 - 1) e

-- ---- a block with no page from the base on and no live node

pub old_page : (v : List View) (base b : ℕ) → old_block v base b ≡ true → (q : ℕ) → 16 * b ≤ q → q < 16 * b + 16 → reaches_base base (seen v q) ≡ false
unfolding old_block
old_page v base b e q lo hi =
    let i : 16 * b + (q - 16 * b) ≡ q = omega arith in
    let o = below_at 16 (λ i. not (reaches_base base (seen v (16 * b + i)))) e (q - 16 * b) (omega arith) in
    rw i at (not-true (reaches_base base (seen v (16 * b + (q - 16 * b)))) o)

module _ (v : List View) (s : Held) (h : History) {ch : List Placed} {gs : List Group} (S : Sound v h.log h.settings s.head.base ch gs s.index)
    (ser : s.head.serial ≡ s.head.base + length ch) (facts : Fits v s) where
  erase_good : (bs : List ℕ) (b : ℕ) → Lent s bs h → h.buffered ≡ [] → collectible v s.head b ≡ true → live s.index b ≡ [] → Erases v bs h b (erasing s b idle)
  erase_good bs b L none_buffered c e =
      record {
        inside = let k : b < s.head.blocks = ltb-true b s.head.blocks (unfold collectible in every_at 0 _ c) in omega (arith, facts.size);
        after = λ w cut. after w cut;
        lends = lent_after s (erasing s b idle) bs h h false L none_buffered refl (unfold erasing not_flush in refl);
      }
    where
      old : (q : ℕ) → 16 * b ≤ q → q < 16 * b + 16 → reaches_base s.head.base (seen v q) ≡ false
      old = old_page v s.head.base b (unfold collectible in every_at 3 _ c)

      keeps : (w : List View) → CutViews v (16 * b) 16 v w → (x : Cell) → opposite (in_block b) x ≡ true → word_at w x ≡ word_at v x
      keeps w cut x t = word_same v w x (cut.outside (x.val / 24) (side (eqb-false (x.val / 384) b (unfold opposite in_block in not-true (in_block b x) t))))
        where
          side : (x.val / 384 ≡ b → ⊥) → (x.val / 24 < 16 * b) ⊎ (16 * b + 16 ≤ x.val / 24)
          side n = by_cases (ltb (x.val / 24) (16 * b)) (λ y. inl (ltb-true (x.val / 24) (16 * b) y)) (λ y. inr (above (borrow.Author.Tests.ltb-false (x.val / 24) (16 * b) y)))
            where
              above : 16 * b ≤ x.val / 24 → 16 * b + 16 ≤ x.val / 24
              above k =
                  by_cases (leb (16 * b + 16) (x.val / 24)) (λ z. leb-true (16 * b + 16) (x.val / 24) z)
                  (λ z. absurd (n (let u : x.val / 24 < 16 * b + 16 = borrow.Author.Tests.leb-false (16 * b + 16) (x.val / 24) z in omega arith)))

      outside : all (opposite (in_block b)) s.index ≡ true
      outside = not_live s.index b e

      after : (w : List View) → CutViews v (16 * b) 16 v w → Coupled w (Some (erasing s b idle)) h
      after w cut =
          record {
            b = s.head.base;
            ch = ch;
            gs = gs;
            idx = s.index;
            medium =
                lost_sound S w cut.size (cut_lost s.head.base v w (16 * b) 16 cut old)
                (sound_outside v w (opposite (in_block b)) s.index outside (keeps w cut) ∙ S.sounds) (words_outside v w (opposite (in_block b)) s.index outside (keeps w cut));
            memory = alive {s = erasing s b idle} (unfold erasing in record { serials = ser; bases = refl; indices = refl; pends = at_rest });
          }

-- ---- the erase before a new head's first page

-- the record of an erase does not touch the coupling
still_coupled : {v : List View} {s : Held} {h : History} (b : ℕ) → Coupled v (Some s) h → Coupled v (Some (erasing s b s.pending)) h
still_coupled {v} {s} {h} b c =
    let a = alive_of c.memory in
    record {
      b = c.b;
      ch = c.ch;
      gs = c.gs;
      idx = c.idx;
      medium = c.medium;
      memory = alive {s = erasing s b s.pending} (unfold erasing in record { serials = a.serials; bases = a.bases; indices = a.indices; pends = a.pends });
    }

-- nor the buffer beside it, a pending flush's groups included
still_lent : {s : Held} {bs : List ℕ} {h : History} (b : ℕ) → Lent s bs h → Lent (erasing s b s.pending) bs h
unfolding erasing
still_lent b L = record { holds = L.holds; fits_in = L.fits_in; count = L.count; beside = L.beside }

-- the block is wholly clean, and reads as before also where the erase is cut
first_good : (v : List View) (s : Held) (bs : List ℕ) (h : History) (own : Answer Step) → Coupled v (Some s) h → Lent s bs h → Fits v s → Good v s bs h own → Good v s bs h (erased_first v s own)
first_good v s bs h own c L facts G =
    first_cases (Good v s bs h) v s own
    (λ r. unfold Good in
    record {
      inside = omega (arith, r.inside, facts.size);
      after = λ w cut. rw (clean_same v w (new_head v s.head) r.cleans cut) (still_coupled (new_head v s.head) c);
      lends = still_lent (new_head v s.head) L;
    })
    (λ e. G)

-- ---- the step of each operation

appended_calm : (s : Held) (es : List Entry) (ps : List ℕ) (p : ℕ) → not_flush (appended s es ps p).pending ≡ true
unfolding appended not_flush
appended_calm s es ps p = by_cases (is_last (length ps) (length es)) (λ e. rw e) (λ e. rw e)

committed_calm : (s : Held) (k p : ℕ) → not_flush (committed s k p).pending ≡ true
unfolding committed not_flush
committed_calm s k p = by_cases (is_last k (length s.index)) (λ e. rw e) (λ e. rw e)

pub counted_collect : (h : History) (u : UnderWay) → u ≡ collecting → counted h u ≡ h
unfolding counted
counted_collect h u e = rw e

module _ (v : List View) (s : Held) (h : History) {ch : List Placed} {gs : List Group} (S : Sound v h.log h.settings s.head.base ch gs s.index)
    (ser : s.head.serial ≡ s.head.base + length ch) (facts : Fits v s)
    (texts : SmallWords v) (few : length v ≤ most_pages) (bs : List ℕ) (L : Lent s bs h) where
  move_good : (b : ℕ) (moves : List Place) → h.buffered ≡ [] → h.under_way ≡ collecting → ((y : Cell) → In y moves → In y s.index)
      → 1 ≤ length moves → length moves ≤ 24 → Good v s bs h (move_step v s b moves)
  unfolding move_step
  move_good b moves nb u mem many most =
      checked_cases (Good v s bs h) (need 6 (sound v moves) ∷ [])
      (programming v s.head (page_due v s.head) (page 3 3 s.head.serial (words v moves)) (collected s b moves (page_due v s.head)) false) (refused_good v s bs h)
      (λ e. programming_good v s bs h (page_due v s.head) (page 3 3 s.head.serial (words v moves)) (collected s b moves (page_due v s.head)) false (λ c room. programs c room))
    where
      index_valved : all (λ x. ltb x.key 32768) s.index ≡ true
      index_valved = unfold valves in facts.valve

      valved : all (λ x. ltb x.key 32768) moves ≡ true
      valved = in_all (λ (y : Cell). ltb y.key 32768) moves (λ y i. all_in (λ (y : Cell). ltb y.key 32768) index_valved (mem y i))

      programs : is_clean (seen v (page_due v s.head)) ≡ true → s.head.serial + 1 ≤ 2 ^ 64 - 1
          → Programs v s bs h (page_due v s.head) (page 3 3 s.head.serial (words v moves)) (collected s b moves (page_due v s.head))
      programs c room =
          let l = cl_lawful v s h S ser b (page_due v s.head) moves mem many most facts room c u in
          record {
            cleans = c;
            fits_in = narrow (page 3 3 s.head.serial (words v moves)) l (omega (arith, words_length v moves)) (small_words v moves texts valved) (omega arith);
            lawfuls = l;
            serials = refl;
            after = rw (counted_collect h h.under_way u) (cl_more v s h S ser b (page_due v s.head) moves mem many most facts room c u);
            lends =
                lent_after s (collected s b moves (page_due v s.head)) bs h (counted h h.under_way) false L nb
                (ap (λ (t : History). t.buffered) (counted_collect h h.under_way u)) (unfold collected not_flush in refl);
          }

  collect_good : (b : ℕ) → h.buffered ≡ [] → h.under_way ≡ collecting → collectible v s.head b ≡ true → (l : List Place) → live s.index b ≡ l → Good v s bs h (collect_step v s b l)
  unfolding collect_step
  collect_good b nb u c [] e = unfold Good in erase_good v s h S ser facts bs b L nb c e
  collect_good b nb u c (x ∷ xs) e =
      move_good b (take 24 (x ∷ xs)) nb u (λ y i. in_live s.index b (rw e (in_take 24 (x ∷ xs) i))) (omega (arith, length-take 24 (x ∷ xs))) (omega (arith, length-take 24 (x ∷ xs)))

  due_good : (pend : Pending) (u : UnderWay) → Pend v s.head.serial ch gs s.index pend u → h.under_way ≡ u → Awaited v s pend
      → Beside pend h.under_way h.buffered → Good v s bs h (due v s h.buffered pend)
  unfolding due Awaited Beside
  due_good pend u at_rest e q B = refused_good v s bs h 9
  due_good pend u (in_flush {small = small}) e q B =
      unfold flush_step in
      programming_good v s bs h (page_due v s.head) (groups_page s.head.serial h.buffered) (flushed s h.buffered (page_due v s.head)) true (λ c room.
      let n : s.head.serial < 2 ^ 64 = omega arith in
      record {
        cleans = c;
        fits_in = narrow_groups s.head.serial h.buffered L.fits_in n;
        lawfuls = fl_lawful v s h S ser h.buffered (page_due v s.head) L.fits_in B.1 L.count facts.serial room c;
        serials = unfold groups_page in refl;
        after = rw (ap (counted h) B.0) (fl_last v s h S ser h.buffered (page_due v s.head) L.fits_in B.1 L.count facts.serial room c);
        lends =
            rw (ap (counted h) B.0)
            (lent_none (flushed s h.buffered (page_due v s.head)) _ (counted h (flushing h.buffered 1)) (unfold groups_page in refl) (unfold counted in refl) (unfold flushed not_flush in refl));
      })
  due_good pend u (in_append {es = es} {ps = ps} {left = left} f small a b op pr) e q B =
      unfold append_step in
      programming_good v s bs h (page_due v s.head) (group_page 1 es (length ps) s.head.serial) (appended s es ps (page_due v s.head)) (is_last (length ps) (length es)) (λ c room.
      let fewer : length ps < pages_for (length es) = q.1 in
      let l = ap_lawful v s h S ser es ps left f (page_due v s.head) small a b op pr q.0 fewer facts.serial room c in
      record {
        cleans = c;
        fits_in =
            narrow (group_page 1 es (length ps) s.head.serial) l (page_most 1 es (length ps) s.head.serial)
            (unfold group_page in small_part (24 * length ps) 24 es small) (unfold group_page in omega arith);
        lawfuls = l;
        serials = page_serial 1 es (length ps) s.head.serial;
        after =
            rw (ap (counted h) e)
            (by_cases (is_last (length ps) (length es))
            (λ z. ap_last v s h S ser es ps left f (page_due v s.head) small a b op pr q.0 fewer facts.serial room c z)
            (λ z. ap_more v s h S ser es ps left f (page_due v s.head) small a b op pr q.0 fewer facts.serial room c z));
        lends =
            rw (ap (counted h) e)
            (lent_after s (appended s es ps (page_due v s.head)) bs h (counted h (appending es left)) (eqb (group_page 1 es (length ps) s.head.serial).kind 4) L B (kept_append h es left)
            (appended_calm s es ps (page_due v s.head)));
      })
  due_good pend u (in_commit {k = k} {left = left} f ps pre n a b sp op al ag) e q B =
      unfold commit_step in
      rw (← n)
      (programming_good v s bs h (page_due v s.head) (group_page 2 s.index (length ps) s.head.serial)
      (committed s (length ps) (page_due v s.head)) (is_last (length ps) (length s.index)) (λ c room.
      let fewer : length ps < base_pages (length s.index) = rw n q in
      let l = cm_lawful v s h S ser ps left f (page_due v s.head) pre (rw n a) (rw n b) sp op al ag facts fewer room c in
      record {
        cleans = c;
        fits_in =
            narrow (group_page 2 s.index (length ps) s.head.serial) l (page_most 2 s.index (length ps) s.head.serial)
            (unfold group_page in small_part (24 * length ps) 24 s.index (small_places s.head.blocks s.index (omega (arith, facts.size)) (unfold valves in facts.valve) facts.address))
            (unfold group_page in omega arith);
        lawfuls = l;
        serials = page_serial 2 s.index (length ps) s.head.serial;
        after =
            rw (ap (counted h) e)
            (by_cases (is_last (length ps) (length s.index))
            (λ z. cm_last v s h S ser ps left f (page_due v s.head) pre (rw n a) (rw n b) sp op al ag facts fewer room c z)
            (λ z. cm_more v s h S ser ps left f (page_due v s.head) pre (rw n a) (rw n b) sp op al ag facts fewer room c z));
        lends =
            rw (ap (counted h) e)
            (lent_after s (committed s (length ps) (page_due v s.head)) bs h (counted h (committing left))
            (eqb (group_page 2 s.index (length ps) s.head.serial).kind 4) L B (kept_commit h left)
            (committed_calm s (length ps) (page_due v s.head)));
      }))
  due_good pend u (in_collect {b = b}) e q B = collect_good b B e q (live s.index b) refl

aligned : {v : List View} {log : List (List Entry)} {settings : List Cell} {b : ℕ} {ch : List Placed} {gs : List Group} {idx : List Place} (b' : ℕ) (idx' : List Place)
    → b' ≡ b → idx' ≡ idx → Sound v log settings b ch gs idx → Sound v log settings b' ch gs idx'
aligned b' idx' p q S = rw (p, q) S

-- the operation's step, on a state that is fit for it
pub awaited_good : (v : List View) (s : Held) (b : List ℕ) (h : History) → SmallWords v → length v ≤ most_pages → Coupled v (Some s) h → Lent s b h → Fits v s → Awaited v s s.pending
    → Good v s b h (erased_first v s (due v s (buffered_in b) s.pending))
awaited_good v s b h texts few c L F A = first_good v s b h (due v s (buffered_in b) s.pending) c L F (with_state_lem (alive_of c.memory))
  where
    with_state_lem : Alive v s h.under_way c.b c.ch c.gs c.idx → Good v s b h (due v s (buffered_in b) s.pending)
    with_state_lem a =
        rw (lent_groups L)
        (due_good v s h (aligned s.head.base s.index a.bases a.indices c.medium)
        (a.serials ∙ ap (λ (n : ℕ). n + length c.ch) (sym a.bases)) F texts few b L s.pending h.under_way
        (rw a.indices a.pends) refl A L.beside)

-- the step that is due
pub step_good : (n : ℕ) (v : List View) (s : Held) (b : List ℕ) (h : History) → SmallWords v → length v ≤ most_pages → Coupled v (Some s) h → Lent s b h → Good v s b h (step_of n v s b)
unfolding step_of
step_good n v s b h texts few c L =
    checked_cases (Good v s b h) (need 1 (size_ok n) ∷ need 7 (fit_with v s b) ∷ need 9 (not (is_idle s.pending)) ∷ []) (erased_first v s (due v s (buffered_in b) s.pending)) (refused_good v s b h)
    (λ e. let f = state_fit v s b (unfold tests in every_at 1 _ e) in
    awaited_good v s b h texts few c L (fits v s f) (awaited v s s.pending (pending_fit_lem v s f)))
