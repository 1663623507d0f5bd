-- One page more: the coupling after a page of an append, of a commit and of a collection.
use mathlib.Core.Path.{◌≡◌, refl, sym, ap, subst, ◌∙◌}
use mathlib.Core.Bool.{Bool, true, false, ◌&&◌}
use Rattle.std.proofs.Common.{Option, Some}
use mathlib.Core.List.{List, [], ◌∷◌, ◌++◌, append_assoc, append-nil}
use Prim.Native.Nat.{ℕ, suc, ◌+◌, ◌-◌, ◌*◌, ◌^◌, ◌≤◌, ◌<◌}
use native.Mathlib.Omega.{arith}
use lib.Dec.{ltb, eqb}
use lib.ListN.{length, set, length-append}
use borrow.Author.Tests.{leb-true, leb-false, le-leb, eq-eqb, ne_eqb}
use Rattle.lists.specs.declared.Cell.{Cell}
use Rattle.lists.specs.Lists.{all, every, value_or}
use Rattle.lists.specs.Needs.{under}
use Rattle.lists.specs.Cells.{cell, Entry, Place, Setting, keys_of}
use Rattle.lists.proofs.Laws.{every_at, all_head, or_right}
use Rattle.page.specs.Pages.{Page, View, whole, page, begins, ends, is_clean, pages_for, changes_of}
use Rattle.page.specs.Rules.{serial_ok, entry_ok, lawful}
use Rattle.page.specs.Buffer.{groups_in, groups_page}
use Rattle.page.proofs.Buffer.{filled, Fitting, lawful_groups, groups_back}
use Rattle.flash.specs.Medium.{seen}
use Rattle.flash.proofs.Steps.{seen_set}
use Rattle.index.specs.Index.{rising, within, assign_all}
use Rattle.nodes.specs.Nodes.{sets_valves, word_at, words}
use Rattle.state.specs.State.{idle, append, commit, collect, Held, held, base_pages}
use Rattle.recovery.specs.Recovery.{Placed, placed, kind_of, wholes, sort, base_of, starts_group, goes_on, from, consecutive, Group, group}
use Rattle.recovery.specs.Recovery.{between, joined, begun, walk, groups_of, entries_of, groups_on_pages, enters_log, log_of_group, log_of, pages_of, above, enter_pages}
use Rattle.recovery.proofs.Pages.{pages_append}
use Rattle.step.specs.Step.{is_last, group_page, head_after, addressed, appended, committed, collected, flushed}
use Rattle.valve_log.specs.History.{nothing, appending, committing, collecting, flushing, History, history, assign_groups, counted}
use Rattle.valve_log.proofs.Order.{from_parts, from_from, from_sort, walk_append, is_begin, base_snoc, base_group, starts_one}
use Rattle.valve_log.proofs.Order.{starts_more, consecutive_left, consecutive_right, consecutive_reaches, consecutive_below}
use Rattle.index.proofs.Keys.{within_same}
use Rattle.index.proofs.Members.{In, in_all, all_in}
use Rattle.index.proofs.Entries.{assign_append}
use Rattle.nodes.proofs.Alive.{keys_words, words_length, rising_words}
use Rattle.valve_log.proofs.Index.{valves, nodes, nodes_of, keys_group, valves_words, tidy_assign, in_words, move_same, move_within}
use Rattle.flash.proofs.Laws.{clean_in}
use Rattle.valve_log.proofs.Present.{PresentAll, nil, cons, present_snoc, present_set, group_words, group_sound}
use Rattle.valve_log.proofs.Small.{Small}
use Rattle.valve_log.proofs.Groups.{lay, ends_page, begins_page, page_most, lawful_nodes, lawful_base, lawful_moves, lay_snoc, lay_length, lay_all}
use Rattle.valve_log.proofs.Groups.{lay_kind, lay_begins, Opened, enter_begin, enter_page_lem, opened_any}
use Rattle.valve_log.proofs.Replay.{enter_pages_append, enter_group, enter_base, log_append, addressed_laid, addressed_one}
use Rattle.valve_log.proofs.Sound.{Sound, grown}
use Rattle.valve_log.proofs.Coupling.{at_rest, in_append, in_commit, in_collect, alive, Coupled, Fits, Let-in}

-- ---- the history's count of pages

counted_append_last : (h : History) (es : List Entry) (left : ℕ) → left ≡ 1 → counted h (appending es left) ≡ history (assign_all h.settings es) (h.log ++ (es ∷ [])) nothing h.buffered
unfolding counted
counted_append_last h es left e = rw e

counted_append_more : (h : History) (es : List Entry) (left n : ℕ) → left ≡ suc (suc n) → counted h (appending es left) ≡ history h.settings h.log (appending es (suc n)) h.buffered
unfolding counted
counted_append_more h es left n e = rw e

counted_commit_last : (h : History) (left : ℕ) → left ≡ 1 → counted h (committing left) ≡ history h.settings [] nothing h.buffered
unfolding counted
counted_commit_last h left e = rw e

counted_commit_more : (h : History) (left n : ℕ) → left ≡ suc (suc n) → counted h (committing left) ≡ history h.settings h.log (committing (suc n)) h.buffered
unfolding counted
counted_commit_more h left n e = rw e

-- the last page of a list is where none is left
last_left : (n k left : ℕ) → left + k ≡ base_pages n → k < base_pages n → is_last k n ≡ true → left ≡ 1
unfolding is_last base_pages pages_for
last_left n k left p q e = let h : n ≤ 24 * suc k = leb-true n (24 * suc k) e in omega arith

more_left : (n k left : ℕ) → left + k ≡ base_pages n → is_last k n ≡ false → left ≡ suc (suc (left - 2))
unfolding is_last base_pages pages_for
more_left n k left p e = let h : 24 * suc k < n = leb-false n (24 * suc k) e in omega arith

some_pages : (n : ℕ) → 1 ≤ n → pages_for n ≡ base_pages n
unfolding base_pages pages_for
some_pages n h = omega arith

-- ---- a page of a list

pub page_serial : (kind : ℕ) (es : List Entry) (k s : ℕ) → (group_page kind es k s).serial ≡ s
unfolding group_page
page_serial kind es k s = refl

-- ---- a base laid out whole

-- from page k on its pages go on to the end
goes_laid : (es : List Entry) (k s q : ℕ) (qs : List ℕ) → 1 ≤ k → is_last (k + length qs) (length es) ≡ true → goes_on 2 s (lay 2 es k s (q ∷ qs)) ≡ true
unfolding goes_on lay every
goes_laid es k s q [] h e =
    let z : k + 0 ≡ k = omega arith in
    rw (begins_page 2 es k s, ne_eqb k 0 (λ c. omega arith), ends_page 2 es k s, rw z at e) (unfold group_page in rw (eq-eqb s s refl))
goes_laid es k s q (r ∷ qs) h e =
    let z : k + suc (length qs) ≡ suc k + length qs = omega arith in
    rw (
      begins_page 2 es k s,
      ne_eqb k 0 (λ c. omega arith),
      or_right (ends (group_page 2 es k s)) (goes_on 2 (suc s) (lay 2 es (suc k) (suc s) (r ∷ qs)))
          (goes_laid es (suc k) (suc s) r qs (omega arith) (rw z at e)),
    ) (unfold group_page in rw (eq-eqb s s refl))

base_laid : (es : List Entry) (f q : ℕ) (qs : List ℕ) → is_last (length qs) (length es) ≡ true → base_of (lay 2 es 0 f (q ∷ qs)) ≡ Some f
unfolding lay
base_laid es f q qs e = base_group (placed q (group_page 2 es 0 f)) (lay 2 es 1 (suc f) qs) (lay_begins 2 es 1 (suc f) qs (omega arith)) (starts qs e) ∙ ap Some (page_serial 2 es 0 f)
  where
    starts : (qs : List ℕ) → is_last (length qs) (length es) ≡ true → starts_group 2 (placed q (group_page 2 es 0 f) ∷ lay 2 es 1 (suc f) qs) ≡ true
    starts [] e = starts_one 2 (placed q (group_page 2 es 0 f)) (lay 2 es 1 (suc f) []) (unfold group_page in refl) (unfold is_begin in begins_page 2 es 0 f) (ends_page 2 es 0 f ∙ e)
    starts (r ∷ qs) e =
        let z : suc (length qs) ≡ 1 + length qs = omega arith in
        let g : goes_on 2 (suc (group_page 2 es 0 f).serial) (lay 2 es 1 (suc f) (r ∷ qs)) ≡ true = rw (page_serial 2 es 0 f) (goes_laid es 1 (suc f) r qs (omega arith) (rw z at e)) in
        starts_more 2 (placed q (group_page 2 es 0 f)) (lay 2 es 1 (suc f) (r ∷ qs)) (unfold group_page in refl) (unfold is_begin in begins_page 2 es 0 f) g

-- ---- a list laid out, and its next page

abbrev next : ℕ → List Entry → List ℕ → ℕ → ℕ → Placed
next kind es ps p serial = placed p (group_page kind es (length ps) serial)

-- its pages, the next one with them
abbrev laid : ℕ → List Entry → List ℕ → ℕ → ℕ → ℕ → List Placed
laid kind es ps f p serial = lay kind es 0 f ps ++ (next kind es ps p serial ∷ [])

module _ (kind : ℕ) (es : List Entry) (ps : List ℕ) (f p serial : ℕ) (firsts : f + length ps ≡ serial) where
  laid_is : lay kind es 0 f (ps ++ (p ∷ [])) ≡ laid kind es ps f p serial
  laid_is = let q : 0 + length ps ≡ length ps = omega arith in lay_snoc kind es 0 f ps p ∙ (rw (q, firsts))

  laid_size : length (laid kind es ps f p serial) ≡ suc (length ps)
  laid_size = omega (arith, length-append (lay kind es 0 f ps) (next kind es ps p serial ∷ []), lay_length kind es 0 f ps)

  laid_kind : all (λ x. eqb (kind_of x) kind) (laid kind es ps f p serial) ≡ true
  laid_kind = rw (← laid_is) (lay_kind kind es 0 f (ps ++ (p ∷ [])))

  module _ (e : is_last (length ps) (length es) ≡ true) where
    enough : length es ≤ 24 * length (ps ++ (p ∷ []))
    enough = unfold is_last in (let q : length es ≤ 24 * suc (length ps) = leb-true (length es) (24 * suc (length ps)) e in omega (arith, length-append ps (p ∷ [])))

    laid_entries : entries_of (laid kind es ps f p serial) ≡ es
    laid_entries = ap entries_of (sym laid_is) ∙ lay_all kind es f (ps ++ (p ∷ [])) enough

    laid_nodes : addressed es (ps ++ (p ∷ [])) ≡ nodes_of (laid kind es ps f p serial)
    laid_nodes = addressed_laid es f kind (ps ++ (p ∷ [])) enough ∙ ap nodes_of laid_is

    -- the index as a list laid out whole is a base
    laid_base : kind ≡ 2 → base_of (laid kind es ps f p serial) ≡ Some f
    laid_base k = rw (← laid_is, k) (go ps refl)
      where
        go : (qs : List ℕ) → ps ≡ qs → base_of (lay 2 es 0 f (ps ++ (p ∷ []))) ≡ Some f
        go [] q = rw q (base_laid es f p [] (rw q at e))
        go (r ∷ qs) q =
            let n : length (qs ++ (p ∷ [])) ≡ length (r ∷ qs) = omega (arith, length-append qs (p ∷ [])) in
            rw q (base_laid es f r (qs ++ (p ∷ [])) (rw n (rw q at e)))

-- nodes go by keys alone
same_nodes : (v : List View) (a : ℕ) (l : List Place) → nodes a l ≡ nodes a (words v l)
unfolding nodes words
same_nodes v a [] = refl
same_nodes v a (x ∷ l) = ap (λ (t : List Place). cell x.key a ∷ t) (same_nodes v (suc a) l)

-- ---- the groups of a flush

pub assign_groups_lem : (l : List Setting) (gs : List (List Entry)) → assign_groups l gs ≡ assign_all l (changes_of gs)
unfolding assign_groups changes_of
assign_groups_lem l [] = unfold assign_all in refl
assign_groups_lem l (g ∷ gs) = assign_groups_lem (assign_all l g) gs ∙ sym (assign_append l g (changes_of gs))

some_entries : (gs : List (List Entry)) → all filled gs ≡ true → 1 ≤ length gs → 1 ≤ length (changes_of gs)
unfolding changes_of
some_entries [] h n = absurd (omega arith)
some_entries (g ∷ gs) h n = let m : 1 ≤ length g = leb-true 1 (length g) (all_head filled g gs h) in omega (arith, length-append g (changes_of gs))

serial_ok_lem : (n : ℕ) → 1 ≤ n → n + 1 ≤ 2 ^ 64 - 1 → serial_ok n ≡ true
unfolding serial_ok
serial_ok_lem n a b = let m : n ≤ 2 ^ 64 - 2 = omega arith in rw (le-leb 1 n a, le-leb n (2 ^ 64 - 2) m)

-- ---- a page more

module _ (v : List View) (s : Held) (h : History) {ch : List Placed} {gs : List Group}
    (S : Sound v h.log h.settings s.head.base ch gs s.index) (ser : s.head.serial ≡ s.head.base + length ch) where
  -- the group stays open
  longer : (p : ℕ) (pg : Page) → is_clean (seen v p) ≡ true → lawful pg ≡ true → pg.serial ≡ s.head.serial → groups_of (walk (between []) (ch ++ (placed p pg ∷ []))) ≡ Some gs
      → (eqb pg.kind 2 && ends pg) ≡ false → Sound (set v p (whole pg)) h.log h.settings s.head.base (ch ++ (placed p pg ∷ [])) gs s.index
  longer p pg c l e w k =
      let g = grown S p pg c l (e ∙ ser) in
      record {
        lawfuls = g.lawfuls;
        distincts = g.distincts;
        bound = g.bound;
        some_page = omega (arith, length-append ch (placed p pg ∷ []));
        chained = g.chained;
        rises = g.rises;
        based = base_snoc ch (placed p pg) k ∙ S.based;
        walks = w;
        replays = S.replays;
        logs = S.logs;
        sounds = g.sounds;
        shows = g.shows;
        tidy = S.tidy;
      }

  -- a group of kind 1 or 3 is complete
  complete : (p : ℕ) (pg : Page) (g : Group) (log' : List (List Entry)) (settings' : List Setting) → is_clean (seen v p) ≡ true → lawful pg ≡ true → pg.serial ≡ s.head.serial
      → eqb pg.kind 2 ≡ false → eqb g.kind 2 ≡ false
      → walk (between []) (ch ++ (placed p pg ∷ [])) ≡ between (gs ++ (g ∷ []))
      → all (λ x. eqb (kind_of x) g.kind) g.pages ≡ true
      → within s.index (nodes_of g.pages) ≡ true
      → PresentAll (set v p (whole pg)) g.pages
      → h.log ++ log_of (g ∷ []) ≡ log'
      → assign_all h.settings (entries_of g.pages) ≡ settings'
      → Sound (set v p (whole pg)) log' settings' s.head.base (ch ++ (placed p pg ∷ [])) (gs ++ (g ∷ [])) (assign_all s.index (nodes_of g.pages))
  complete p pg grp log' settings' c l e k k' w kinds wi here lg t =
      let g = grown S p pg c l (e ∙ ser) in
      record {
        lawfuls = g.lawfuls;
        distincts = g.distincts;
        bound = g.bound;
        some_page = omega (arith, length-append ch (placed p pg ∷ []));
        chained = g.chained;
        rises = g.rises;
        based = base_snoc ch (placed p pg) (rw k) ∙ S.based;
        walks = ap groups_of w ∙ (unfold groups_of in refl);
        replays = replayed;
        logs = log_append gs (grp ∷ []) ∙ ap (λ (z : List (List Entry)). z ++ log_of (grp ∷ [])) S.logs ∙ lg;
        sounds = group_sound (set v p (whole pg)) grp.pages s.index here g.sounds;
        shows = group_words (set v p (whole pg)) grp.pages s.index here ∙ ap (λ (z : List Setting). assign_all z (entries_of grp.pages)) g.shows ∙ t;
        tidy = tidy_assign s.index (nodes_of grp.pages) wi S.tidy;
      }
    where
      replayed : enter_pages (Some []) (pages_of (gs ++ (grp ∷ []))) ≡ Some (assign_all s.index (nodes_of grp.pages))
      replayed =
          let a : pages_of (grp ∷ []) ≡ grp.pages = unfold pages_of in append-nil grp.pages in
          ap (enter_pages (Some [])) (pages_append gs (grp ∷ []) ∙ ap (λ (z : List Placed). pages_of gs ++ z) a)
          ∙ enter_pages_append (Some []) (pages_of gs) grp.pages
          ∙ ap (λ (o : Option (List Place)). enter_pages o grp.pages) S.replays
          ∙ enter_group grp.kind s.index grp.pages k' kinds wi

  -- ---- a page of an append

  module _ (es : List Entry) (ps : List ℕ) (left f p : ℕ) (small : Small es) (lefts : left + length ps ≡ pages_for (length es)) (firsts : f + length ps ≡ s.head.serial)
      (openeds : Opened 1 (walk (between []) ch) gs (lay 1 es 0 f ps)) (presents : PresentAll v (lay 1 es 0 f ps))
      (okays : Let-in s.index es) (fewer : length ps < pages_for (length es)) (starts : 1 ≤ s.head.serial)
      (room : s.head.serial + 1 ≤ 2 ^ 64 - 1) (cleans : is_clean (seen v p) ≡ true) where
    abbrev serial : ℕ
    serial = s.head.serial

    abbrev pg : Page
    pg = group_page 1 es (length ps) serial

    abbrev written : List Placed
    written = laid 1 es ps f p serial

    ap_many : 1 ≤ length es
    ap_many = okays.many

    ap_most : length es ≤ 96
    ap_most = okays.most

    pub ap_lawful : lawful pg ≡ true
    ap_lawful = lawful_nodes es (length ps) serial okays.lawfuls fewer ap_many starts room

    ap_short : length ps < 4
    ap_short = let a = ap_most in unfold pages_for in omega (arith, fewer)

    ap_lefts : left + length ps ≡ base_pages (length es)
    ap_lefts = lefts ∙ some_pages (length es) ap_many

    ap_fewer : length ps < base_pages (length es)
    ap_fewer = omega (arith, fewer, some_pages (length es) ap_many)

    ap_walk : walk (between []) (ch ++ (placed p pg ∷ [])) ≡ joined gs 1 written (is_last (length ps) (length es))
    ap_walk = walk_append (between []) ch (placed p pg ∷ []) ∙ (unfold walk in enter_page_lem 1 (walk (between []) ch) gs es f serial ps p S.walks openeds (λ z. ap_short))

    ap_present : PresentAll (set v p (whole pg)) written
    ap_present =
        present_snoc (present_set p (whole pg) cleans presents)
        (record { there = seen_set v p (whole pg) (clean_in v p cleans); bears = unfold sets_valves group_page in refl; short = page_most 1 es (length ps) serial })

    pub ap_more : is_last (length ps) (length es) ≡ false → Coupled (set v p (whole pg)) (Some (appended s es ps p)) (counted h (appending es left))
    unfolding appended head_after
    ap_more e =
        let n = more_left (length es) (length ps) left ap_lefts e in
        let w = ap_walk ∙ ap (joined gs 1 written) e in
        let l = laid_is 1 es ps f p serial firsts in
        rw (counted_append_more h es left (left - 2) n, e)
        (record {
          b = s.head.base;
          ch = ch ++ (placed p pg ∷ []);
          gs = gs;
          idx = s.index;
          medium = longer p pg cleans ap_lawful (page_serial 1 es (length ps) serial) (ap groups_of w ∙ (unfold joined groups_of in refl)) (unfold group_page in refl);
          memory =
              alive {s = held (head_after s.head p s.head.base) s.index (append es (ps ++ (p ∷ []))) s.erased}
              (record {
                serials = omega (arith, length-append ch (placed p pg ∷ []));
                bases = refl;
                indices = refl;
                pends =
                    in_append {es = es} {ps = ps ++ (p ∷ [])} {left = suc (left - 2)} f small (omega (arith, length-append ps (p ∷ []))) (omega (arith, length-append ps (p ∷ [])))
                    (rw l (opened_any 1 written (omega (arith, laid_size 1 es ps f p serial firsts)) (w ∙ (unfold joined in refl))))
                    (rw l ap_present);
              });
        })

    pub ap_last : is_last (length ps) (length es) ≡ true → Coupled (set v p (whole pg)) (Some (appended s es ps p)) (counted h (appending es left))
    unfolding appended head_after
    ap_last e =
        let n = last_left (length es) (length ps) left ap_lefts ap_fewer e in
        let w = ap_walk ∙ ap (joined gs 1 written) e in
        rw (counted_append_last h es left n, e)
        (record {
          b = s.head.base;
          ch = ch ++ (placed p pg ∷ []);
          gs = gs ++ (group 1 written ∷ []);
          idx = assign_all s.index (nodes_of written);
          medium =
              complete p pg (group 1 written) (h.log ++ (es ∷ [])) (assign_all h.settings es) cleans ap_lawful
              (page_serial 1 es (length ps) serial) (unfold group_page in refl) refl (w ∙ (unfold joined in refl))
              (laid_kind 1 es ps f p serial firsts) within_is ap_present log_is (ap (assign_all h.settings) entries_are);
          memory =
              alive {s = held (head_after s.head p s.head.base) (assign_all s.index (addressed es (ps ++ (p ∷ [])))) idle s.erased}
              (record {
                serials = omega (arith, length-append ch (placed p pg ∷ []));
                bases = refl;
                indices = ap (assign_all s.index) (laid_nodes 1 es ps f p serial firsts e);
                pends = at_rest;
              });
        })
      where
        entries_are : entries_of written ≡ es
        entries_are = laid_entries 1 es ps f p serial firsts e

        within_is : within s.index (nodes_of written) ≡ true
        within_is = within_same s.index s.index (nodes_of written) es refl (keys_group written ∙ ap keys_of entries_are) ∙ okays.counts

        log_is : h.log ++ log_of (group 1 written ∷ []) ≡ h.log ++ (es ∷ [])
        log_is = unfold log_of log_of_group enters_log in ap (λ (z : List Entry). h.log ++ (z ∷ [])) entries_are

  -- ---- a page of a commit

  module _ (ps : List ℕ) (left f p : ℕ) (pre : List Placed) (lefts : left + length ps ≡ base_pages (length s.index)) (firsts : f + length ps ≡ s.head.serial)
      (split : ch ≡ pre ++ lay 2 s.index 0 f ps)
      (openeds : Opened 2 (walk (between []) ch) gs (lay 2 s.index 0 f ps))
      (alone : Opened 2 (walk (between []) (lay 2 s.index 0 f ps)) [] (lay 2 s.index 0 f ps))
      (alone-groups : groups_of (walk (between []) (lay 2 s.index 0 f ps)) ≡ Some [])
      (facts : Fits v s) (fewer : length ps < base_pages (length s.index)) (room : s.head.serial + 1 ≤ 2 ^ 64 - 1) (cleans : is_clean (seen v p) ≡ true) where
    abbrev now : ℕ
    now = s.head.serial

    abbrev bp : Page
    bp = group_page 2 s.index (length ps) now

    abbrev stored : List Placed
    stored = laid 2 s.index ps f p now

    pub cm_lawful : lawful bp ≡ true
    cm_lawful = lawful_base s.index (length ps) now (unfold valves in facts.valve) fewer facts.serial room

    not_one : {P : Type 0} → ◌≡◌ {A = ℕ} 2 1 → P
    not_one z = absurd (omega arith)

    cm_walk : walk (between []) (ch ++ (placed p bp ∷ [])) ≡ joined gs 2 stored (is_last (length ps) (length s.index))
    cm_walk = walk_append (between []) ch (placed p bp ∷ []) ∙ (unfold walk in enter_page_lem 2 (walk (between []) ch) gs s.index f now ps p S.walks openeds not_one)

    cm_alone : walk (between []) stored ≡ joined [] 2 stored (is_last (length ps) (length s.index))
    cm_alone =
        walk_append (between []) (lay 2 s.index 0 f ps) (placed p bp ∷ [])
        ∙ (unfold walk in enter_page_lem 2 (walk (between []) (lay 2 s.index 0 f ps)) [] s.index f now ps p alone-groups alone not_one)

    cm_split : ch ++ (placed p bp ∷ []) ≡ pre ++ stored
    cm_split = ap (λ (t : List Placed). t ++ (placed p bp ∷ [])) split ∙ append_assoc pre (lay 2 s.index 0 f ps) (placed p bp ∷ [])

    pub cm_more : is_last (length ps) (length s.index) ≡ false → Coupled (set v p (whole bp)) (Some (committed s (length ps) p)) (counted h (committing left))
    unfolding committed head_after
    cm_more e =
        let n = more_left (length s.index) (length ps) left lefts e in
        let w = cm_walk ∙ ap (joined gs 2 stored) e in
        let a = cm_alone ∙ ap (joined [] 2 stored) e in
        let l = laid_is 2 s.index ps f p now firsts in
        let t = laid_size 2 s.index ps f p now firsts in
        rw (counted_commit_more h left (left - 2) n, e)
        (record {
          b = s.head.base;
          ch = ch ++ (placed p bp ∷ []);
          gs = gs;
          idx = s.index;
          medium =
              longer p bp cleans cm_lawful (page_serial 2 s.index (length ps) now) (ap groups_of w ∙ (unfold joined groups_of in refl))
              (rw (ends_page 2 s.index (length ps) now, e) (and_false (eqb bp.kind 2)));
          memory =
              alive {s = held (head_after s.head p s.head.base) s.index (commit (suc (length ps))) s.erased}
              (record {
                serials = omega (arith, length-append ch (placed p bp ∷ []));
                bases = refl;
                indices = refl;
                pends =
                    in_commit {k = suc (length ps)} {left = suc (left - 2)} f (ps ++ (p ∷ [])) pre (omega (arith, length-append ps (p ∷ []))) (omega arith) (omega arith)
                    (rw l cm_split)
                    (rw l (opened_any 2 stored (omega arith) (w ∙ (unfold joined in refl))))
                    (rw l (opened_any 2 stored (omega arith) (a ∙ (unfold joined in refl))))
                    (rw l (ap groups_of a ∙ (unfold joined groups_of in refl)));
              });
        })
      where
        and_false : (b : Bool) → (b && false) ≡ false
        and_false true = refl
        and_false false = refl

    cm_sound : is_last (length ps) (length s.index) ≡ true → Sound (set v p (whole bp)) [] h.settings f stored (group 2 stored ∷ []) s.index
    cm_sound e =
        let g = grown S p bp cleans cm_lawful (page_serial 2 s.index (length ps) now ∙ ser) in
        let t = laid_size 2 s.index ps f p now firsts in
        let u : s.head.base + length pre ≡ f = omega (arith, ap length split, length-append pre (lay 2 s.index 0 f ps), lay_length 2 s.index 0 f ps) in
        let r : consecutive s.head.base (pre ++ stored) ≡ true = rw cm_split at g.rises in
        let m : consecutive f stored ≡ true = rw u at (consecutive_right s.head.base pre stored r) in
        let b : s.head.base + length (ch ++ (placed p bp ∷ [])) ≡ f + length stored = omega (arith, length-append ch (placed p bp ∷ [])) in
        record {
          lawfuls = g.lawfuls;
          distincts = g.distincts;
          bound = rw b at g.bound;
          some_page = omega arith;
          chained =
              sym (ap sort (from_from s.head.base f (wholes 0 (set v p (whole bp))) (omega arith)))
              ∙ sym (from_sort f (from s.head.base (wholes 0 (set v p (whole bp)))))
              ∙ ap (from f) (g.chained ∙ cm_split)
              ∙ from_parts f pre stored (consecutive_below f s.head.base pre (omega arith) (consecutive_left s.head.base pre stored r)) (consecutive_reaches f f stored (omega arith) m);
          rises = m;
          based = laid_base 2 s.index ps f p now firsts e refl;
          walks = ap groups_of (cm_alone ∙ ap (joined [] 2 stored) e) ∙ (unfold joined groups_of in refl);
          replays = replayed;
          logs = unfold log_of log_of_group enters_log in refl;
          sounds = g.sounds;
          shows = g.shows;
          tidy = S.tidy;
        }
      where
        entries_are : entries_of stored ≡ s.index
        entries_are = laid_entries 2 s.index ps f p now firsts e

        replayed : enter_pages (Some []) (pages_of (group 2 stored ∷ [])) ≡ Some s.index
        replayed =
            let a : pages_of (group 2 stored ∷ []) ≡ stored = unfold pages_of in append-nil stored in
            let n : 0 + length (entries_of stored) ≤ 192 = rw entries_are (let z = facts.count in omega arith) in
            ap (enter_pages (Some [])) a
            ∙ enter_base [] stored (laid_kind 2 s.index ps f p now firsts) (unfold above rising in (rw entries_are (unfold rising in facts.rise))) n
            ∙ ap Some entries_are

    pub cm_last : is_last (length ps) (length s.index) ≡ true → Coupled (set v p (whole bp)) (Some (committed s (length ps) p)) (counted h (committing left))
    unfolding committed head_after
    cm_last e =
        let n = last_left (length s.index) (length ps) left lefts fewer e in
        let t = laid_size 2 s.index ps f p now firsts in
        rw (counted_commit_last h left n, e)
        (record {
          b = f;
          ch = stored;
          gs = group 2 stored ∷ [];
          idx = s.index;
          medium = cm_sound e;
          memory = alive {s = held (head_after s.head p (s.head.serial - length ps)) s.index idle s.erased}
              (record { serials = omega arith; bases = omega arith; indices = refl; pends = at_rest });
        })

  -- ---- a page of a collection

  module _ (blk p : ℕ) (moves : List Place) (mem : (y : Cell) → In y moves → In y s.index) (many : 1 ≤ length moves) (most : length moves ≤ 24)
      (facts : Fits v s) (room : s.head.serial + 1 ≤ 2 ^ 64 - 1) (cleans : is_clean (seen v p) ≡ true) (under : h.under_way ≡ collecting) where
    abbrev mp : Page
    mp = page 3 3 s.head.serial (words v moves)

    cl_valves : valves moves ≡ true
    cl_valves = unfold valves in in_all (λ (y : Cell). ltb y.key 32768) moves (λ y i. all_in (λ (y : Cell). ltb y.key 32768) (unfold valves in facts.valve) (mem y i))

    pub cl_lawful : lawful mp ≡ true
    cl_lawful = lawful_moves (words v moves) s.head.serial (unfold valves in (valves_words v moves ∙ cl_valves)) (omega (arith, words_length v moves)) facts.serial room

    cl_rising : rising h.settings ≡ true
    cl_rising = ap rising (sym S.shows) ∙ (unfold rising in (rising_words v 0 s.index ∙ (unfold rising in facts.rise)))

    cl_mem : (y : Cell) → In y moves → In (cell y.key (value_or 0 (word_at v y))) h.settings
    cl_mem y i = subst (In (cell y.key (value_or 0 (word_at v y)))) S.shows (in_words v (mem y i))

    cl_count : length h.settings ≤ 192
    cl_count = omega (arith, facts.count, words_length v s.index, ap length S.shows)

    cl_entries : entries_of (placed p mp ∷ []) ≡ words v moves
    unfolding entries_of
    cl_entries = append-nil (words v moves)

    cl_nodes : addressed moves (p ∷ []) ≡ nodes_of (placed p mp ∷ [])
    unfolding nodes_of
    cl_nodes = addressed_one moves p most ∙ same_nodes v (24 * p) moves ∙ sym (append-nil (nodes (24 * p) (words v moves)))

    cl_within : within s.index (nodes_of (placed p mp ∷ [])) ≡ true
    cl_within =
        within_same s.index h.settings (nodes_of (placed p mp ∷ [])) (words v moves) (sym (keys_words v s.index) ∙ ap keys_of S.shows) (keys_group (placed p mp ∷ []) ∙ ap keys_of cl_entries)
        ∙ move_within v h.settings moves cl_rising cl_count cl_mem cl_valves

    cl_walk : walk (between []) (ch ++ (placed p mp ∷ [])) ≡ between (gs ++ (group 3 (placed p mp ∷ []) ∷ []))
    unfolding walk begins ends begun joined
    cl_walk = walk_append (between []) ch (placed p mp ∷ []) ∙ enter_begin (walk (between []) ch) gs (placed p mp) S.walks refl

    cl_present : PresentAll (set v p (whole mp)) (placed p mp ∷ [])
    cl_present = cons (record { there = seen_set v p (whole mp) (clean_in v p cleans); bears = unfold sets_valves in refl; short = omega (arith, words_length v moves) }) nil

    pub cl_more : Coupled (set v p (whole mp)) (Some (collected s blk moves p)) h
    unfolding collected head_after
    cl_more =
        record {
          b = s.head.base;
          ch = ch ++ (placed p mp ∷ []);
          gs = gs ++ (group 3 (placed p mp ∷ []) ∷ []);
          idx = assign_all s.index (nodes_of (placed p mp ∷ []));
          medium =
              complete p mp (group 3 (placed p mp ∷ [])) h.log h.settings cleans cl_lawful refl refl refl cl_walk (unfold all in refl) cl_within cl_present
              (unfold log_of log_of_group enters_log in append-nil h.log) (ap (assign_all h.settings) cl_entries ∙ move_same v h.settings moves cl_rising cl_mem cl_valves);
          memory =
              alive {s = held (head_after s.head p s.head.base) (assign_all s.index (addressed moves (p ∷ []))) (collect blk) s.erased}
              (record { serials = omega (arith, length-append ch (placed p mp ∷ [])); bases = refl; indices = ap (assign_all s.index) cl_nodes; pends = rw under in_collect });
        }

  -- ---- the page of a flush

  module _ (small : List (List Entry)) (p : ℕ) (fitting : Fitting small) (some_group : 1 ≤ length small) (counts : within s.index (changes_of small) ≡ true)
      (starts : 1 ≤ s.head.serial) (room : s.head.serial + 1 ≤ 2 ^ 64 - 1) (cleans : is_clean (seen v p) ≡ true) where
    abbrev fp : Page
    fp = groups_page s.head.serial small

    fl_many : 1 ≤ length (changes_of small)
    fl_many = some_entries small fitting.each some_group

    pub fl_lawful : lawful fp ≡ true
    fl_lawful = lawful_groups s.head.serial small fitting fl_many (serial_ok_lem s.head.serial starts room)

    fl_entries : entries_of (placed p fp ∷ []) ≡ changes_of small
    unfolding entries_of groups_page
    fl_entries = append-nil (changes_of small)

    fl_nodes : addressed (changes_of small) (p ∷ []) ≡ nodes_of (placed p fp ∷ [])
    unfolding nodes_of groups_page
    fl_nodes = addressed_one (changes_of small) p (omega (arith, fitting.few)) ∙ sym (append-nil (nodes (24 * p) (changes_of small)))

    fl_within : within s.index (nodes_of (placed p fp ∷ [])) ≡ true
    fl_within = within_same s.index s.index (nodes_of (placed p fp ∷ [])) (changes_of small) refl (keys_group (placed p fp ∷ []) ∙ ap keys_of fl_entries) ∙ counts

    fl_walk : walk (between []) (ch ++ (placed p fp ∷ [])) ≡ between (gs ++ (group 4 (placed p fp ∷ []) ∷ []))
    unfolding walk begins ends begun joined groups_page
    fl_walk = walk_append (between []) ch (placed p fp ∷ []) ∙ enter_begin (walk (between []) ch) gs (placed p fp) S.walks refl

    fl_present : PresentAll (set v p (whole fp)) (placed p fp ∷ [])
    fl_present = cons (record { there = seen_set v p (whole fp) (clean_in v p cleans); bears = unfold sets_valves groups_page in refl; short = unfold groups_page in omega (arith, fitting.few) }) nil

    fl_log : h.log ++ log_of (group 4 (placed p fp ∷ []) ∷ []) ≡ h.log ++ small
    unfolding log_of log_of_group enters_log groups_on_pages
    fl_log = ap (λ (z : List (List Entry)). h.log ++ z) (append-nil (groups_in fp ++ []) ∙ append-nil (groups_in fp) ∙ groups_back s.head.serial small fitting)

    pub fl_last : Coupled (set v p (whole fp)) (Some (flushed s small p)) (counted h (flushing small 1))
    unfolding flushed head_after counted
    fl_last =
        record {
          b = s.head.base;
          ch = ch ++ (placed p fp ∷ []);
          gs = gs ++ (group 4 (placed p fp ∷ []) ∷ []);
          idx = assign_all s.index (nodes_of (placed p fp ∷ []));
          medium =
              complete p fp (group 4 (placed p fp ∷ [])) (h.log ++ small) (assign_groups h.settings small) cleans fl_lawful (unfold groups_page in refl) (unfold groups_page in refl) refl fl_walk
              (unfold all groups_page in refl) fl_within fl_present
              fl_log (ap (assign_all h.settings) fl_entries ∙ sym (assign_groups_lem h.settings small));
          memory =
              alive {s = held (head_after s.head p s.head.base) (assign_all s.index (addressed (changes_of small) (p ∷ []))) idle s.erased}
              (record { serials = omega (arith, length-append ch (placed p fp ∷ [])); bases = refl; indices = ap (assign_all s.index) fl_nodes; pends = at_rest });
        }
