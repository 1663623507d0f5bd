-- The word's part: the last buffered entry that names a valve decides, else the medium.
use mathlib.Core.Path.{◌≡◌, refl, sym, ap, ◌∙◌}
use mathlib.Core.Bool.{true, false, cond}
use Rattle.std.proofs.Common.{Option, None, Some}
use mathlib.Core.List.{List, [], ◌∷◌, ◌++◌, append_assoc}
use Prim.Native.Nat.{ℕ, suc, ◌+◌, ◌-◌, ◌*◌, ◌/◌, ◌%◌, ◌≤◌, ◌<◌, min}
use native.Mathlib.Omega.{arith}
use lib.Dec.{leb, ltb, eqb}
use lib.ListN.{length, get_or, length-append}
use lib.Seq.{get_or-append_seam}
use borrow.Author.Tests.{ltb-true, leb-true, eqb-true, eqb-false, ne_eqb}
use Rattle.lists.specs.declared.Cell.{Cell}
use Rattle.lists.specs.Lists.{table, is_some, value_or, Bytes}
use Rattle.lists.specs.Needs.{under, checked, answer_or, refusal_of}
use Rattle.lists.specs.Cells.{cell, Entry, Place}
use Rattle.lists.proofs.Laws.{by_cases, and_r, true_false, get_table, length_table, some_same, none_some}
use Rattle.codec.specs.Codec.{le, bytes_of, part}
use Rattle.codec.proofs.Put.{get_part, length_part, part_same, bytes_part}
use Rattle.codec.proofs.Numbers.{bytes_le}
use Rattle.page.specs.Pages.{Page, View, clean, spoilt, whole, changes_of}
use Rattle.page.specs.Layout.{used, entry_at, decode, whole_bytes, view_of}
use Rattle.page.proofs.Berger.{whole_view}
use Rattle.page.proofs.More.{Stored, stored_holding}
use Rattle.flash.specs.Medium.{page_at, views, seen}
use Rattle.flash.proofs.Laws.{seen_views}
use Rattle.flash.proofs.Steps.{page_is}
use Rattle.index.specs.Index.{remove, lookup, rising_from, rising, assign, assign_all}
use Rattle.index.proofs.Rising.{assign_rising}
use Rattle.index.proofs.Assigned.{lookup_put, lookup_put_other, lookup_below}
use Rattle.nodes.specs.Nodes.{sets_valves, entry_in, node_in, word_for, word_at, words}
use Rattle.nodes.proofs.Alive.{rising_words}
use Rattle.state.specs.State.{Held, fit_with}
use Rattle.readings.specs.Readings.{place_of, names, last_naming, sets_at, sought_in, sought, eight_bytes, word_part, word_refusal}
use Rattle.valve_log.specs.History.{History, assign_groups}
use Rattle.valve_log.specs.Reached.{world}
use Rattle.valve_log.specs.Word.{Holds, Tells, WordTold}
use Rattle.valve_log.proofs.Coupling.{alive_of}
use Rattle.valve_log.proofs.Steps.{assign_groups_lem}
use Rattle.valve_log.proofs.Lent.{Lent, lent_of, lent_groups, with_fit}
use Rattle.valve_log.proofs.Events.{Upheld}
use Rattle.valve_log.proofs.Point3.{reached_upheld}
use Rattle.valve_log.proofs.Ready.{Ready, fit_ready}
use Rattle.valve_log.proofs.Allowed.{Allowed, StateAllowed, reached_allowed}
use Rattle.valve_log.proofs.Steady.{StateReady, reached_ready, has_word}

-- ---- a valve in a list that rises

removed_same : (k m : ℕ) (l : List Cell) → rising_from m l ≡ true → lookup k (remove k l) ≡ None
unfolding lookup remove
removed_same k m [] r = refl
removed_same k m (x ∷ l) r =
    let t : rising_from (suc x.key) l ≡ true = unfold rising_from in and_r (leb m x.key) (rising_from (suc x.key) l) r in
    by_cases (ltb k x.key) (λ e. rw (e, e))
    (λ e. by_cases (eqb k x.key)
    (λ f. let z : k ≡ x.key = eqb-true k x.key f in rw (e, f) (lookup_below k (suc x.key) l (omega arith) t))
    (λ f. rw (e, f, e, f) (removed_same k (suc x.key) l t)))

removed_other : (v k m : ℕ) (l : List Cell) → (v ≡ k → ⊥) → rising_from m l ≡ true → lookup v (remove k l) ≡ lookup v l
unfolding lookup remove
removed_other v k m [] n r = refl
removed_other v k m (x ∷ l) n r =
    let t : rising_from (suc x.key) l ≡ true = unfold rising_from in and_r (leb m x.key) (rising_from (suc x.key) l) r in
    by_cases (ltb k x.key) (λ e. rw e)
    (λ e. by_cases (eqb k x.key)
    (λ f. let z : k ≡ x.key = eqb-true k x.key f in let o : v ≡ x.key → ⊥ = λ q. n (omega arith) in
    rw (e, f, ne_eqb v x.key o) (by_cases (ltb v x.key) (λ g. let q : v < x.key = ltb-true v x.key g in rw g (lookup_below v (suc x.key) l (omega arith) t)) (λ g. rw g)))
    (λ f. rw (e, f) (by_cases (ltb v x.key) (λ g. rw g) (λ g. by_cases (eqb v x.key) (λ j. rw (g, j)) (λ j. rw (g, j) (removed_other v k (suc x.key) l n t))))))

-- one entry
abbrev told : Entry → Option ℕ
told e = cond (ltb e.key 32768) (Some e.val) None

lookup_assign : (v : ℕ) (l : List Cell) (e : Entry) → rising l ≡ true → lookup v (assign l e) ≡ cond (names v e) (told e) (lookup v l)
unfolding assign names rising
lookup_assign v l e r =
    by_cases (ltb e.key 32768)
    (λ s. rw s (by_cases (eqb e.key v)
    (λ q. let z : e.key ≡ v = eqb-true e.key v q in rw (q, z) (lookup_put v e.val l))
    (λ q. let z : e.key ≡ v → ⊥ = eqb-false e.key v q in rw q (lookup_put_other v e.key e.val l (λ y. z (sym y))))))
    (λ s. rw s (by_cases (eqb (e.key - 32768) v)
    (λ q. let z : e.key - 32768 ≡ v = eqb-true (e.key - 32768) v q in rw (q, z) (removed_same v 0 l r))
    (λ q. let z : e.key - 32768 ≡ v → ⊥ = eqb-false (e.key - 32768) v q in rw q (removed_other v (e.key - 32768) 0 l (λ y. z (sym y)) r))))

-- ---- the last entry that names it

-- what the entries say: at a place the last, or none
unfoldable Says : ℕ → List Cell → List Entry → List Entry → Option ℕ → Type 0
Says v l es full None = lookup v (assign_all l es) ≡ lookup v l
Says v l es full (Some j) = (lookup v (assign_all l es) ≡ told (get_or full j (cell 0 0))) × (j < length full)

says : (v : ℕ) (es done : List Entry) (l : List Cell) → rising l ≡ true → Says v l es (done ++ es) (last_naming v (length done) es)
unfolding last_naming Says assign_all
says v [] done l r = refl
says v (e ∷ es) done l r = go (last_naming v (suc (length done)) es) (ih (says v es (done ++ (e ∷ [])) (assign l e) (assign_rising l e r)))
  where
    longer : (done ++ (e ∷ [])) ++ es ≡ done ++ (e ∷ es)
    longer = append_assoc done (e ∷ []) es

    size : length (done ++ (e ∷ [])) ≡ suc (length done)
    size = length-append done (e ∷ []) ∙ (let z : length done + 1 ≡ suc (length done) = omega arith in z)

    ih : Says v (assign l e) es ((done ++ (e ∷ [])) ++ es) (last_naming v (length (done ++ (e ∷ []))) es) → Says v (assign l e) es (done ++ (e ∷ es)) (last_naming v (suc (length done)) es)
    ih x = rw (longer, size) at x

    go : (o : Option ℕ) → Says v (assign l e) es (done ++ (e ∷ es)) o → Says v l (e ∷ es) (done ++ (e ∷ es)) (cond (is_some o) o (cond (names v e) (Some (length done)) None))
    go (Some j) i = unfold is_some in i
    go None i =
        unfold is_some in
        by_cases (names v e)
        (λ q. rw q (i ∙ lookup_assign v l e r ∙ (rw q (ap told (sym (get_or-append_seam done e es (cell 0 0))))), omega (arith, length-append done (e ∷ es))))
        (λ q. rw q (i ∙ lookup_assign v l e r ∙ rw q))

-- ---- the eight bytes in the medium

part_part : (s : List ℕ) (a n k c : ℕ) → k + c ≤ n → a + n ≤ length s → part k c (part a n s) ≡ part (a + k) c s
part_part s a n k c h l =
    part_same k (a + k) c 0 (part a n s) s (omega (arith, length_part a n s l)) (omega arith)
    (λ i x. let z : a + (k + i) ≡ a + k + i = omega arith in get_part a n (k + i) 0 s (omega arith) ∙ ap (λ (j : ℕ). get_or s j 0) z)

page_in_lem : (m : List ℕ) (p : ℕ) → whole_bytes (page_at m p) ≡ true → 256 * p + 256 ≤ length m
page_in_lem m p w =
    by_cases (leb (256 * p + 256) (length m)) (λ e. leb-true (256 * p + 256) (length m) e)
    (λ e. true_false w (unfold page_at whole_bytes in rw e))

entry_word : (s : List ℕ) (i : ℕ) → ltb i (length (decode s).entries) ≡ true → ((get_or (decode s).entries i (cell 0 0)).val ≡ le (part (64 + 8 * i) 8 s)) × (i < 24)
unfolding decode
entry_word s i e =
    let n = length_table (entry_at s) (cell 0 0) (min 24 (used s)) in
    let h : i < length (table (min 24 (used s)) (entry_at s)) = ltb-true i (length (table (min 24 (used s)) (entry_at s))) e in
    let k : i < min 24 (used s) = omega arith in
    (ap (λ (x : Entry). x.val) (get_table (entry_at s) (cell 0 0) (min 24 (used s)) i k) ∙ (unfold entry_at in refl), omega arith)

node_bytes : (m : List ℕ) (p i key w : ℕ) (y : View) → Bytes m → view_of (page_at m p) ≡ y → word_for key (node_in y i) ≡ Some w → part (256 * p + (64 + 8 * i)) 8 m ≡ bytes_of 8 w
unfolding node_in word_for entry_in
node_bytes m p i key w clean b e q = none_some q
node_bytes m p i key w spoilt b e q = none_some q
node_bytes m p i key w (whole pg) b e q =
    by_cases (sets_valves pg.kind)
    (λ s. by_cases (ltb i (length pg.entries))
    (λ t. by_cases (eqb (get_or pg.entries i (cell 0 0)).key key)
    (λ u. bytes t ∙ ap (bytes_of 8) (some_same (rw (s, t, u) at q)))
    (λ u. none_some (rw (s, t, u) at q)))
    (λ t. none_some (rw (s, t) at q)))
    (λ s. none_some (rw s at q))
  where
    w_view : (whole_bytes (page_at m p) ≡ true) × (decode (page_at m p) ≡ pg)
    w_view = whole_view (page_at m p) pg e

    inside : 256 * p + 256 ≤ length m
    inside = page_in_lem m p w_view.0

    bytes : ltb i (length pg.entries) ≡ true → part (256 * p + (64 + 8 * i)) 8 m ≡ bytes_of 8 (get_or pg.entries i (cell 0 0)).val
    bytes t =
        let d = w_view.1 in
        let r = entry_word (page_at m p) i (rw d t) in
        let f : (get_or pg.entries i (cell 0 0)).val ≡ le (part (256 * p + (64 + 8 * i)) 8 m) =
        ap (λ (x : Page). (get_or x.entries i (cell 0 0)).val) (sym d) ∙ r.0
        ∙ ap le (ap (part (64 + 8 * i) 8) (page_is m p inside) ∙ part_part m (256 * p) 256 (64 + 8 * i) 8 (omega (arith, r.1)) inside) in
        let l : length (part (256 * p + (64 + 8 * i)) 8 m) ≡ 8 = length_part (256 * p + (64 + 8 * i)) 8 m (omega (arith, r.1, inside)) in
        sym (bytes_le (part (256 * p + (64 + 8 * i)) 8 m) (bytes_part (256 * p + (64 + 8 * i)) 8 m b))
        ∙ ap (λ (k : ℕ). bytes_of k (le (part (256 * p + (64 + 8 * i)) 8 m))) l ∙ ap (bytes_of 8) (sym f)

word_bytes : (m : List ℕ) (x : Place) (w : ℕ) → Bytes m → word_at (views m) x ≡ Some w → part (256 * (x.val / 24) + (64 + 8 * (x.val % 24))) 8 m ≡ bytes_of 8 w
unfolding word_at
word_bytes m x w b e =
    let f : word_for x.key (node_in (seen (views m) (x.val / 24)) (x.val % 24)) ≡ Some w = e in
    node_bytes m (x.val / 24) (x.val % 24) x.key w (view_of (page_at m (x.val / 24))) b refl (rw (seen_views m (x.val / 24)) at f)

-- ---- the settings are the words of the index

worded : List View → ℕ → Option ℕ → Option ℕ
worded v k None = None
worded v k (Some a) = Some (value_or 0 (word_at v (cell k a)))

lookup_words : (v : List View) (k : ℕ) (l : List Place) → lookup k (words v l) ≡ worded v k (lookup k l)
unfolding lookup words worded
lookup_words v k [] = refl
lookup_words v k (x ∷ l) =
    by_cases (ltb k x.key) (λ e. rw e)
    (λ e. by_cases (eqb k x.key) (λ f. let z : k ≡ x.key = eqb-true k x.key f in rw (e, f, z)) (λ f. rw (e, f) (lookup_words v k l)))

-- ---- what the reading tells

module _ (m : List ℕ) (s : Held) (bs : List ℕ) (h : History) (U : Upheld (world m (Some s) bs) h) (r : Ready (views m) s) (A : Allowed h) (valve : ℕ) where
  abbrev v : List View
  v = views m

  L : Lent s bs h
  L = lent_of U.lending

  fits_all : fit_with v s bs ≡ true
  fits_all = with_fit v L A.gathers (fit_ready v s h U.coupled A r)

  abbrev es : List Entry
  es = changes_of h.buffered

  rises : rising h.settings ≡ true
  unfolding rising
  rises = ap (rising_from 0) (sym U.coupled.medium.shows) ∙ rising_words v 0 U.coupled.idx ∙ U.coupled.medium.tidy.rise

  after : assign_groups h.settings h.buffered ≡ assign_all h.settings es
  after = assign_groups_lem h.settings h.buffered

  said : Says valve h.settings es es (last_naming valve 0 es)
  said = says valve es [] h.settings rises

  stored : Stored bs es
  stored = rw L.holds (stored_holding h.buffered (omega (arith, L.fits_in.few)))

  -- with 1 and 7 met
  number_is : (o : Option ℕ) → last_naming valve 0 es ≡ o → word_refusal m v s bs valve ≡ refusal_of (sought_in v s bs valve o).needs
  unfolding word_refusal refusal_of answer_or under sought
  number_is o e = rw (U.size, fits_all, lent_groups L, e)

  part_is : (o : Option ℕ) → last_naming valve 0 es ≡ o
      → word_part m v s bs valve ≡ answer_or (λ n. []) (checked (sought_in v s bs valve o).needs (eight_bytes m bs (sought_in v s bs valve o)))
  unfolding word_part answer_or under sought
  part_is o e = rw (U.size, fits_all, lent_groups L, e)

  record Has (part : List ℕ) : Type 0 where
    word : ℕ
    set : lookup valve (assign_all h.settings es) ≡ Some word
    bytes : part ≡ bytes_of 8 word

  abbrev Said : ℕ → List ℕ → Type 0
  Said n part = (n ≡ 0 → Has part) × ((n ≡ 0 → ⊥) → (n ≡ 18) × (lookup valve (assign_all h.settings es) ≡ None))

  -- in the buffer
  in_buffer : (j : ℕ) → lookup valve (assign_all h.settings es) ≡ told (get_or es j (cell 0 0)) → j < length es
      → Said (refusal_of (sought_in v s bs valve (Some j)).needs) (answer_or (λ n. []) (checked (sought_in v s bs valve (Some j)).needs (eight_bytes m bs (sought_in v s bs valve (Some j)))))
  unfolding sought_in refusal_of answer_or under sets_at
  in_buffer j e k =
      rw (lent_groups L) (by_cases (ltb (get_or es j (cell 0 0)).key 32768)
      (λ q. rw q ((λ z. record { word = (get_or es j (cell 0 0)).val; set = e ∙ rw q; bytes = stored.word j k }), λ z. absurd (z refl)))
      (λ q. rw q ((λ z. absurd (omega arith)), λ z. (refl, e ∙ rw q))))

  -- in the medium
  index_is : lookup valve h.settings ≡ worded v valve (lookup valve s.index)
  index_is =
      ap (lookup valve) (sym U.coupled.medium.shows) ∙ lookup_words v valve U.coupled.idx
      ∙ ap (λ (l : List Place). worded v valve (lookup valve l)) (sym (alive_of U.coupled.memory).indices)

  there : (o : Option ℕ) → is_some o ≡ true → o ≡ Some (value_or 0 o)
  unfolding is_some value_or
  there None e = true_false e refl
  there (Some w) e = refl

  place_is : (a : ℕ) → lookup valve s.index ≡ Some a → place_of s valve ≡ cell valve a
  unfolding value_or
  place_is a q = rw q

  settings_none : lookup valve s.index ≡ None → lookup valve h.settings ≡ None
  settings_none q = index_is ∙ ap (worded v valve) q ∙ (unfold worded in refl)

  settings_some : (a : ℕ) → lookup valve s.index ≡ Some a → lookup valve h.settings ≡ Some (value_or 0 (word_at v (cell valve a)))
  settings_some a q = index_is ∙ ap (worded v valve) q ∙ (unfold worded in refl)

  some_there : (a : ℕ) → lookup valve s.index ≡ Some a → is_some (lookup valve s.index) ≡ true
  unfolding is_some
  some_there a q = rw q

  word_there : (a : ℕ) → lookup valve s.index ≡ Some a → is_some (word_at v (place_of s valve)) ≡ true
  word_there a q = has_word m s bs h U r A valve (some_there a q)

  medium_word : (a : ℕ) → lookup valve s.index ≡ Some a → part (256 * ((place_of s valve).val / 24) + (64 + 8 * ((place_of s valve).val % 24))) 8 m ≡ bytes_of 8 (value_or 0 (word_at v (place_of s valve)))
  medium_word a q = word_bytes m (place_of s valve) (value_or 0 (word_at v (place_of s valve))) U.guarded.bytes (there (word_at v (place_of s valve)) (word_there a q))

  in_medium : lookup valve (assign_all h.settings es) ≡ lookup valve h.settings
      → Said (refusal_of (sought_in v s bs valve None).needs) (answer_or (λ n. []) (checked (sought_in v s bs valve None).needs (eight_bytes m bs (sought_in v s bs valve None))))
  unfolding sought_in refusal_of answer_or under
  in_medium e = go (lookup valve s.index) refl
    where
      go : (o : Option ℕ) → lookup valve s.index ≡ o
          → Said (refusal_of (sought_in v s bs valve None).needs) (answer_or (λ n. []) (checked (sought_in v s bs valve None).needs (eight_bytes m bs (sought_in v s bs valve None))))
      go None q =
          let f : is_some (lookup valve s.index) ≡ false = rw q (unfold is_some in refl) in
          rw f ((λ z. absurd (omega arith)), λ z. (refl, e ∙ settings_none q))
      go (Some a) q =
          let w = settings_some a q ∙ ap (λ (x : Place). Some (value_or 0 (word_at v x))) (sym (place_is a q)) in
          rw (some_there a q, word_there a q) ((λ z. record { word = _; set = e ∙ w; bytes = medium_word a q }), λ z. absurd (z refl))

  holds : (part : List ℕ) → word_part m v s bs valve ≡ part → Has part → Holds m s bs h valve
  holds part e a = record { word = a.word; set = ap (lookup valve) after ∙ a.set; bytes = e ∙ a.bytes }

  tells : Tells m s bs h valve
  tells = go (last_naming valve 0 es) refl said
    where
      go : (o : Option ℕ) → last_naming valve 0 es ≡ o → Says valve h.settings es es o → Tells m s bs h valve
      go None q y =
          let a = in_medium (unfold Says in y) in
          record { found = λ z. holds _ (part_is None q) (a.0 (sym (number_is None q) ∙ z)); unset = rw (after, number_is None q) a.1 }
      go (Some j) q y =
          let t : (lookup valve (assign_all h.settings es) ≡ told (get_or es j (cell 0 0))) × (j < length es) = unfold Says in y in
          let a = in_buffer j t.0 t.1 in
          record { found = λ z. holds _ (part_is (Some j) q) (a.0 (sym (number_is (Some j) q) ∙ z)); unset = rw (after, number_is (Some j) q) a.1 }

pub word_told : WordTold
unfolding WordTold
word_told w h s valve R e = answers w.medium w.buffer w.state (reached_upheld w h R) (reached_ready w h R) (reached_allowed w h R) e
  where
    answers : (m bs : List ℕ) (o : Option Held) → Upheld (world m o bs) h → StateReady (views m) o → StateAllowed o h → o ≡ Some s → Tells m s bs h valve
    answers m bs None U r A e = let z : ◌≡◌ {A = ℕ} 0 1 = cc in absurd (omega arith)
    answers m bs (Some t) U r A e =
        let q : t ≡ s = cc in
        let r' : Ready (views m) t = unfold StateReady in r in
        rw (← q) (tells m t bs h U r' (unfold StateAllowed in A) valve)
