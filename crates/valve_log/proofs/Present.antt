-- The nodes of pages that are in the medium: entered into an index, they do to its words what the entries do to the settings.
use mathlib.Core.Path.{◌≡◌, refl, sym, ap, ◌∙◌}
use mathlib.Core.Bool.{true}
use Rattle.std.proofs.Common.{Some}
use mathlib.Core.List.{List, [], ◌∷◌, ◌++◌, append_assoc}
use Prim.Native.Nat.{ℕ, suc, ◌+◌, ◌*◌, ◌/◌, ◌%◌, ◌≤◌, ◌<◌}
use native.Mathlib.Omega.{arith}
use lib.ListN.{length, set, length-append}
use lib.Seq.{get_or-append_seam}
use borrow.Author.Tests.{eq-eqb, lt-ltb}
use Rattle.lists.specs.Cells.{cell, Entry, Place}
use Rattle.page.specs.Pages.{View, clean, whole, is_clean}
use Rattle.flash.specs.Medium.{seen}
use Rattle.flash.proofs.Steps.{seen_set_other}
use Rattle.index.specs.Index.{assign, assign_all}
use Rattle.index.proofs.Entries.{assign_append}
use Rattle.nodes.specs.Nodes.{sets_valves, entry_in, node_in, word_for, word_at, sound, words}
use Rattle.recovery.specs.Recovery.{Placed, kind_of, entries_of}
use Rattle.valve_log.proofs.Index.{nodes, nodes_of, words_assign, sound_assign}
use Rattle.valve_log.proofs.Views.{clean_is}

pub record Present (v : List View) (x : Placed) : Type 0 where
  pub there : seen v x.at ≡ whole x.page
  pub bears : sets_valves (kind_of x) ≡ true
  pub short : length x.page.entries ≤ 24

pub data PresentAll (v : List View) : List Placed → Type 0 where
  nil : PresentAll v []
  cons : {x : Placed} {l : List Placed} → Present v x → PresentAll v l → PresentAll v (x ∷ l)

pub present_snoc : {v : List View} {l : List Placed} {x : Placed} → PresentAll v l → Present v x → PresentAll v (l ++ (x ∷ []))
present_snoc nil p = cons p nil
present_snoc (cons q l) p = cons q (present_snoc l p)

pub present_set : {v : List View} {l : List Placed} (p : ℕ) (y : View) → is_clean (seen v p) ≡ true → PresentAll v l → PresentAll (set v p y) l
present_set p y e nil = nil
present_set {v} p y e (cons {x = x} {l = l} q r) =
    cons (record { there = seen_set_other v p x.at y (λ c. differ c) ∙ q.there; bears = q.bears; short = q.short }) (present_set p y e r)
  where
    differ : x.at ≡ p → ⊥
    differ c =
        let z : clean ≡ whole x.page = sym (clean_is (seen v p) e) ∙ ap (seen v) (sym c) ∙ q.there in
        let t : ◌≡◌ {A = ℕ} 0 1 = cc in
        omega arith

-- ---- one page

node_word : (v : List View) (x : Placed) (l : List Entry) (e : Entry) (r : List Entry) → Present v x
    → x.page.entries ≡ l ++ (e ∷ r) → word_at v (cell e.key (24 * x.at + length l)) ≡ Some e.val
unfolding word_at node_in entry_in word_for
node_word v x l e r p q =
    let n = length-append l (e ∷ r) in
    let h : length l < 24 = omega (arith, p.short, ap length q) in
    let d : (24 * x.at + length l) / 24 ≡ x.at = omega arith in
    let m : (24 * x.at + length l) % 24 ≡ length l = omega arith in
    let k : length l < length (l ++ (e ∷ r)) = omega arith in
    rw (d, m, p.there, p.bears, q, lt-ltb (length l) (length (l ++ (e ∷ r))) k, get_or-append_seam l e r (cell 0 0), eq-eqb e.key e.key refl)

module _ (v : List View) (x : Placed) (p : Present v x) where
  nodes_words : (done es l : List Entry) → x.page.entries ≡ done ++ es → words v (assign_all l (nodes (24 * x.at + length done) es)) ≡ assign_all (words v l) es
  unfolding assign_all nodes
  nodes_words done [] l q = refl
  nodes_words done (e ∷ es) l q =
      let w = node_word v x done e es p q in
      let n : suc (24 * x.at + length done) ≡ 24 * x.at + length (done ++ (e ∷ [])) = omega (arith, length-append done (e ∷ [])) in
      let ih = nodes_words (done ++ (e ∷ [])) es (assign l (cell e.key (24 * x.at + length done))) (q ∙ sym (append_assoc done (e ∷ []) es)) in
      rw (n, ih, words_assign v e (24 * x.at + length done) l w)

  nodes_sound : (done es l : List Entry) → x.page.entries ≡ done ++ es → sound v l ≡ true → sound v (assign_all l (nodes (24 * x.at + length done) es)) ≡ true
  unfolding assign_all nodes
  nodes_sound done [] l q s = s
  nodes_sound done (e ∷ es) l q s =
      let w = node_word v x done e es p q in
      let n : suc (24 * x.at + length done) ≡ 24 * x.at + length (done ++ (e ∷ [])) = omega (arith, length-append done (e ∷ [])) in
      rw n (nodes_sound (done ++ (e ∷ [])) es (assign l (cell e.key (24 * x.at + length done))) (q ∙ sym (append_assoc done (e ∷ []) es)) (sound_assign v e (24 * x.at + length done) l w s))

-- ---- the pages of a group

pub group_words : (v : List View) (g : List Placed) (l : List Place) → PresentAll v g → words v (assign_all l (nodes_of g)) ≡ assign_all (words v l) (entries_of g)
unfolding nodes_of entries_of assign_all
group_words v [] l nil = refl
group_words v (x ∷ g) l (cons p r) =
    let z : 24 * x.at ≡ 24 * x.at + 0 = omega arith in
    rw (
      assign_append l (nodes (24 * x.at) x.page.entries) (nodes_of g),
      assign_append (words v l) x.page.entries (entries_of g),
      group_words v g (assign_all l (nodes (24 * x.at) x.page.entries)) r,
    )
    (ap (λ (t : List Place). assign_all t (entries_of g)) (ap (λ (n : ℕ). words v (assign_all l (nodes n x.page.entries))) z ∙ nodes_words v x p [] x.page.entries l refl))

pub group_sound : (v : List View) (g : List Placed) (l : List Place) → PresentAll v g → sound v l ≡ true → sound v (assign_all l (nodes_of g)) ≡ true
unfolding nodes_of assign_all
group_sound v [] l nil s = s
group_sound v (x ∷ g) l (cons p r) s =
    let z : 24 * x.at ≡ 24 * x.at + 0 = omega arith in
    rw (assign_append l (nodes (24 * x.at) x.page.entries) (nodes_of g))
    (group_sound v g (assign_all l (nodes (24 * x.at) x.page.entries)) r (rw z (nodes_sound v x p [] x.page.entries l refl s)))
