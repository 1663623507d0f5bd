-- The call's answers, in the shapes that the code's proofs ask.
use mathlib.Core.Path.{◌≡◌, refl, sym, ap, ◌∙◌}
use mathlib.Core.Bool.{Bool, true, false, not}
use Rattle.std.proofs.Common.{Result, Ok, Err}
use mathlib.Core.List.{List, [], ◌++◌}
use Prim.Native.Nat.{ℕ, ◌≤◌, ◌<◌}
use native.Mathlib.Omega.{arith}
use lib.ListN.{length}
use lib.Dec.{leb, ltb}
use borrow.Author.Tests.{le-leb, lt-leb, not-true, not-false, eq-eqb, ne_eqb}
use Rattle.lists.specs.declared.Cell.{Cell}
use Rattle.lists.specs.declared.Cells.{Cells}
use Rattle.lists.specs.Lists.{all}
use Rattle.lists.specs.Needs.{Answer, refused, gives, under, answer_or, refusal_of}
use Rattle.lists.specs.Cells.{Setting, pairs, listed}
use Rattle.lists.proofs.Laws.{by_cases, true_false, all_weaken, every_at, number_refuses, number_clear, numbered, checked_pass}
use Rattle.page.specs.Pages.{View}
use Rattle.flash.specs.Medium.{views}
use Rattle.index.specs.Index.{rising_from, rising}
use Rattle.index.specs.Search.{Kept}
use Rattle.nodes.specs.Nodes.{sound, words}
use Rattle.nodes.proofs.Alive.{rising_words, all_words}
use Rattle.state.specs.declared.State.{State}
use Rattle.state.specs.State.{meaning, place_fit, index_fit, fit, state_needs}
use Rattle.state.specs.Parts.{state_number}
use Rattle.state.proofs.Laws.{passed, state_few, state_rises}
use Rattle.records.specs.declared.Notes.{Notes}
use Rattle.settings.specs.Present.{present_of, settings_in}
use Rattle.settings.proofs.Told.{present_sound, present_words}
use Rattle.refusal.specs.declared.Refusal.{Refusal}
use Rattle.refusal.specs.declared.Refusal.TheVariants.{Index}
use Rattle.refusal.specs.Refusal.{number}
use Rattle.refusal.proofs.Laws.{number_some}
use Rattle.wanted_group.specs.Group.{is_valve}
use Rattle.wanted.specs.Wanted.{Reply, reply, reply_by}
use Rattle.wanted.specs.InTurn.{record_needs, after_records, beginning, Ready, Begins}

-- ---- a refusal

pub refused_is : (k : ℕ) (g : Cells) → listed g ≡ [] → reply_by (record { number = k; found = false; group = g }) ≡ reply (refused k)
unfolding reply
refused_is k g e = ap (λ (t : List Cell). record { number = k; found = false; entries = t }) e

-- ---- 19 and 20

module _ (rises : Bool) (count : ℕ) where
  pub record_19 : not rises ≡ true → 19 ≡ refusal_of (record_needs rises count)
  unfolding refusal_of answer_or under
  record_19 h = rw (not-true rises h)

  module _ (h : not rises ≡ false) where
    pub record_20 : 192 < count → 20 ≡ refusal_of (record_needs rises count)
    unfolding refusal_of answer_or under
    record_20 l = rw (not-false rises h, lt-leb count 192 l)

    pub record_0 : count ≤ 192 → 0 ≡ refusal_of (record_needs rises count)
    unfolding refusal_of answer_or under
    record_0 l = rw (not-false rises h, le-leb count 192 l)

-- ---- before the records are compared

-- b tells whether the n places of an index, the valves in ks and the addresses in ads, have words, which then stand in ws
module _ (v : List View) (n : ℕ) (ks ads ws : List ℕ) (b : Bool) (k : settings_in b n ks ws ≡ present_of v (pairs n ks ads)) where
  abbrev index : List Cell
  index = pairs n ks ads

  told_sound : b ≡ sound v index
  told_sound = present_sound v index b n ks ws k

  pub index_6 : not b ≡ true → Begins (after_records v index) (Err Index)
  unfolding after_records under
  index_6 h = record { ready = tt; so = rw (← told_sound, not-true b h) }

  module _ (h : not b ≡ false) (f : n ≤ 192) (l : length ks ≡ 192) (m : length ws ≡ 192) (r : rising index ≡ true) (a : all is_valve index ≡ true) where
    told_words : pairs n ks ws ≡ words v index
    told_words = present_words v index b n ks ws k (not-false b h)

    ready : Ready (record { count = n; keys = ks; vals = ws })
    unfolding rising is_valve
    ready =
        record {
          lent = record { few = f; long = l; long₂ = m; rise = ap rising told_words ∙ rising_words v 0 index ∙ r };
          valves = ap (all is_valve) told_words ∙ all_words (λ k. ltb k 32768) v index ∙ a;
        }

    pub index_start : Begins (after_records v index) (Ok (record { count = n; keys = ks; vals = ws }))
    unfolding after_records under
    index_start = record { ready = ready; so = rw (← told_sound, not-false b h) (ap gives told_words) }

pub all_valves : (blocks : ℕ) (l : List Cell) → index_fit blocks l ≡ true → all is_valve l ≡ true
unfolding index_fit place_fit is_valve
all_valves blocks l h = all_weaken (place_fit blocks) is_valve (λ x k. every_at 0 _ k) l (every_at 2 _ h)

module _ (m : List ℕ) (s : State) (n : Notes) where
  abbrev start : Answer (List Setting)
  start = beginning (length m) (views m) (meaning s) n

  pub begin_state : (r : Refusal) → number r ≡ state_number m s → Begins start (Err r)
  unfolding state_number beginning
  begin_state r e = record { ready = tt; so = number_refuses (state_needs (length m) (views m) (meaning s)) _ (number r) e (number_some r) }

  module _ (e : 0 ≡ state_number m s) where
    pub begin_few : s.index.count ≤ 192
    begin_few = state_few m s 0 e refl

    pub begin_rises : rising (listed s.index) ≡ true
    begin_rises = state_rises m s 0 e refl

    pub begin_valves : all is_valve (listed s.index) ≡ true
    unfolding fit
    begin_valves = all_valves s.head.blocks (listed s.index) (every_at 1 _ (passed m s 0 e refl).fits)

    on : start ≡ under (record_needs n.rises n.count) (after_records (views m) (listed s.index))
    unfolding beginning under
    on = let p = passed m s 0 e refl in rw (p.size, p.fits)

    pub begin_records : (r : Refusal) → number r ≡ refusal_of (record_needs n.rises n.count) → Begins start (Err r)
    begin_records r f =
        record { ready = tt; so = number_refuses (record_needs n.rises n.count) (after_records (views m) (listed s.index)) (number r) f (number_some r) ∙ sym on }

    pub begin_index : 0 ≡ refusal_of (record_needs n.rises n.count) → (r : Result Cells Refusal) → Begins (after_records (views m) (listed s.index)) r → Begins start r
    unfolding numbered
    begin_index f r q =
        rw (
          on,
          checked_pass (record_needs n.rises n.count) (after_records (views m) (listed s.index))
              (number_clear (record_needs n.rises n.count) refl (sym f)),
        ) q
