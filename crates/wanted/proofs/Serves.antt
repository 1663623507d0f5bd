-- Every answer serves: the group leads to the wanted settings, nothing shorter does, an append takes it, and 'none' means that nothing of at
-- most 96 entries leads there.
use mathlib.Core.Path.{◌≡◌, refl, sym, ap, ◌∙◌, subst}
use mathlib.Core.Bool.{Bool, true, false, cond, not}
use Rattle.std.proofs.Common.{Option, None, Some}
use mathlib.Core.List.{List, [], ◌∷◌}
use Prim.Native.Nat.{ℕ, ◌≤◌, ◌<◌}
use native.Mathlib.Omega.{arith}
use lib.ListN.{length}
use lib.Dec.{leb, ltb, eqb}
use borrow.Author.Tests.{le-leb, eq-eqb, leb-true, leb-false, not-true}
use Rattle.lists.specs.declared.Cell.{Cell}
use Rattle.lists.specs.Lists.{all, every}
use Rattle.lists.specs.Needs.{Answer, refused, gives, answered, Need, need, under, checked}
use Rattle.lists.specs.Cells.{Entry, Setting, keys_of, words_of}
use Rattle.lists.proofs.Laws.{by_cases, true_false, same_refusal, given_refused, answered_refused, and_l, and_r, and_both, all_head}
use Rattle.lists.proofs.Laws.{all_tail, numbered, every_at, tests, checked_cases, checked_pass, checked_join, length_keys, length_words}
use Rattle.page.specs.Pages.{View}
use Rattle.flash.specs.Medium.{views}
use Rattle.index.specs.Index.{rising, assign_all, within, entries_allowed}
use Rattle.index.proofs.Keys.{within_same}
use Rattle.blocks.specs.Blocks.{size_ok}
use Rattle.nodes.specs.Nodes.{sound}
use Rattle.nodes.proofs.Alive.{keys_words, words_length, rising_words, all_words}
use Rattle.state.specs.State.{Held, index_fit, fit, meaning}
use Rattle.calls.specs.Calls.{zip, lists_ok}
use Rattle.records.specs.Records.{wanted_settings}
use Rattle.wanted_group.specs.Group.{is_valve, group_for, differing}
use Rattle.wanted_group.proofs.Leads.{group_leads}
use Rattle.wanted_group.proofs.Fewest.{group_length, leads_length}
use Rattle.wanted_group.proofs.Eleven.{zero_needed}
use Rattle.wanted_group.proofs.Accepted.{group_within}
use Rattle.wanted.specs.Wanted.{present, valves_ok, few_records, wanted_needs, wanted_for, wanted_of, Reply, reply}
use Rattle.wanted.specs.Serves.{LeadsTo, Fewest, InOrder, Appendable, Far, Serves, Served, ZeroNeeded, answer_in, ServedByCall}
use Rattle.wanted.proofs.Laws.{all_valves}
use Rattle.wanted.proofs.Order.{group_ordered}
use Rattle.wanted.proofs.Append.{appendable}

-- ---- the kinds of answers

abbrev kind : Answer (Option (List Entry)) → ℕ
kind (refused n) = 0
kind (gives None) = 1
kind (gives (Some es)) = 2

other : {P : Type 0} {a b : Answer (Option (List Entry))} → (kind a ≡ kind b → ⊥) → a ≡ b → P
other n e = absurd (n (ap kind e))

abbrev entries : Answer (Option (List Entry)) → List Entry
entries (gives (Some es)) = es
entries (gives None) = []
entries (refused n) = []

-- a refusal claims nothing
serves_refused : (v : List View) (s : Held) (w : List Setting) (n : ℕ) → Serves v s w (refused n)
serves_refused v s w n =
    record {
      shortest = λ es e. other (λ z. absurd (omega (arith, z))) e;
      ordered = λ es e. other (λ z. absurd (omega (arith, z))) e;
      appends = λ es e h. other (λ z. absurd (omega (arith, z))) e;
      none_far = λ e. other (λ z. absurd (omega (arith, z))) e;
      far_none = λ h f. absurd (h n refl);
      nothing_differs = λ h e. absurd (h n refl);
    }

-- ---- entries as two lists

zip_both : (es : List Cell) → zip (keys_of es) (words_of es) ≡ es
unfolding zip keys_of words_of
zip_both [] = refl
zip_both (e ∷ es) = ap (λ (t : List Cell). e ∷ t) (zip_both es)

lists_ok_lem : (es : List Cell) → 1 ≤ length es → length es ≤ 96 → lists_ok (keys_of es) (words_of es) ≡ true
unfolding lists_ok every
lists_ok_lem es low few =
    let k = length_keys es in
    let w = length_words es in
    let same : length (keys_of es) ≡ length (words_of es) = k ∙ sym w in
    let least : 1 ≤ length (keys_of es) = omega (arith, k, low) in
    let most : length (keys_of es) ≤ 96 = omega (arith, k, few) in
    and_both (eq-eqb _ _ same) (and_both (le-leb _ _ least) (and_both (le-leb _ _ most) refl))

no_entries : (es : List Cell) → length es ≤ 0 → es ≡ []
no_entries [] h = refl
no_entries (e ∷ es) h = absurd (omega (arith, h))

-- ---- an answer that is not a refusal

module _ (v : List View) (s : Held) (w : List Setting) (f : fit v s ≡ true) (r : valves_ok w ≡ true) (few : few_records w ≡ true) where
  index_fit_lem : index_fit s.head.blocks s.index ≡ true
  unfolding fit
  index_fit_lem = every_at 1 _ f

  pub present_rises : rising (present v s) ≡ true
  unfolding index_fit rising
  present_rises = rising_words v 0 s.index ∙ every_at 1 _ index_fit_lem

  pub present_valves : all is_valve (present v s) ≡ true
  unfolding is_valve
  present_valves = all_words (λ k. ltb k 32768) v s.index ∙ all_valves s.head.blocks s.index index_fit_lem

  pub present_few : length (present v s) ≤ 192
  unfolding index_fit
  present_few = let z = words_length v s.index in let y = leb-true (length s.index) 192 (every_at 0 _ index_fit_lem) in omega (arith, z, y)

  pub wanted_rises : rising w ≡ true
  unfolding valves_ok
  wanted_rises = every_at 0 _ r

  pub wanted_valves : all is_valve w ≡ true
  unfolding valves_ok
  wanted_valves = every_at 1 _ r

  wanted_few : length w ≤ 192
  unfolding few_records
  wanted_few = leb-true (length w) 192 few

  abbrev g : List Entry
  g = group_for (present v s) w

  long : length g ≡ differing (present v s) w
  long = group_length (present v s) w present_rises wanted_rises present_valves wanted_valves

  -- every list that leads there has an entry for each valve that differs
  least : (fs : List Entry) → LeadsTo (present v s) w fs → differing (present v s) w ≤ length fs
  unfolding LeadsTo
  least fs h = leads_length (present v s) w fs present_rises h

  leads : LeadsTo (present v s) w g
  unfolding LeadsTo
  leads = group_leads (present v s) w present_rises wanted_rises wanted_valves

  fewest : Fewest (present v s) w g
  fewest =
      record {
        leads = leads;
        fewest = λ fs h. let z = least fs h in let y = long in omega (arith, z, y);
        most = group_within (present v s) w present_rises wanted_rises wanted_valves present_few wanted_few;
      }

  -- no entry leads where nothing differs
  same_least : present v s ≡ w → differing (present v s) w ≤ 0
  unfolding LeadsTo assign_all
  same_least e = least [] e

  accepted : entries_allowed g ≡ true → differing (present v s) w ≤ 96 → 1 ≤ length g → Appendable s.index g
  accepted a h low =
      let z = long in
      appendable s.index g (lists_ok_lem g low (omega (arith, z, h))) (ap entries_allowed (zip_both g) ∙ a)
      (ap (within s.index) (zip_both g)
      ∙ within_same s.index (present v s) g g (sym (keys_words v s.index)) refl
      ∙ fewest.most)

  serves_group : entries_allowed g ≡ true → differing (present v s) w ≤ 96 → Serves v s w (gives (Some g))
  unfolding Far
  serves_group a h =
      let z = long in
      record {
        shortest = λ es e. subst (Fewest (present v s) w) (ap entries e) fewest;
        ordered = λ es e. subst InOrder (ap entries e) (group_ordered (present v s) w present_rises wanted_rises wanted_valves);
        appends = λ es e. subst (λ (t : List Entry). 1 ≤ length t → Appendable s.index t) (ap entries e) (accepted a h);
        none_far = λ e. other (λ y. absurd (omega (arith, y))) e;
        far_none = λ n far. let y = far g leads in absurd (omega (arith, y, z, h));
        nothing_differs = λ n e. let y = same_least e in ap (λ (t : List Entry). gives (Some t)) (no_entries g (omega (arith, y, z)));
      }

  serves_none : 96 < differing (present v s) w → Serves v s w (gives None)
  unfolding Far
  serves_none h =
      record {
        shortest = λ es e. other (λ y. absurd (omega (arith, y))) e;
        ordered = λ es e. other (λ y. absurd (omega (arith, y))) e;
        appends = λ es e. other (λ y. absurd (omega (arith, y))) e;
        none_far = λ e fs l. let y = least fs l in omega (arith, y, h);
        far_none = λ n far. refl;
        nothing_differs = λ n e. let y = same_least e in absurd (omega (arith, y, h));
      }

  serves_accepted : entries_allowed g ≡ true → Serves v s w (gives (wanted_for (present v s) w))
  unfolding wanted_for
  serves_accepted a =
      by_cases (leb (differing (present v s) w) 96)
      (λ b. rw b (serves_group a (leb-true (differing (present v s) w) 96 b)))
      (λ b. rw b (serves_none (leb-false (differing (present v s) w) 96 b)))

-- ---- the definition

pub serves : Served
unfolding Served wanted_of tests
serves n v s w =
    checked_cases (Serves v s w) (wanted_needs n v s w) (gives (wanted_for (present v s) w)) (serves_refused v s w)
    (λ h. serves_accepted v s w (every_at 1 _ h) (every_at 2 _ h) (every_at 3 _ h) (every_at 5 _ h))

-- ---- 11

-- a refusal with a number that none of the first conditions has is past them all
past : {A : Type 0} (k : ℕ) (cs : List Need) (a : Answer A) → all (λ c. not (eqb c.number k)) cs ≡ true → under cs a ≡ refused k → every (tests cs) ≡ true
unfolding under tests every
past k [] a h e = refl
past {A} k (c ∷ cs) a h e =
    let on : (b : Bool) → c.holds ≡ b → cond b (under cs a) (refused c.number) ≡ refused k
    = λ b q. sym (ap (λ (t : Bool). cond t (under cs a) (refused c.number)) q) ∙ e in
    by_cases c.holds
    (λ b. and_both b (past k cs a (all_tail (λ c. not (eqb c.number k)) c cs h) (on true b)))
    (λ b.
    true_false (eq-eqb c.number k (same_refusal {A = A} c.number k (on false b))) (not-true (eqb c.number k) (all_head (λ c. not (eqb c.number k)) c cs h)))

-- 11 refuses what is given only where its condition does not hold
eleven_fails : {A : Type 0} (x : A) (b : Bool) → checked (need 11 b ∷ []) x ≡ refused 11 → b ≡ false
unfolding under
eleven_fails x false e = refl
eleven_fails x true e = given_refused x 11 e

pub zero_is_needed : ZeroNeeded
unfolding ZeroNeeded wanted_of LeadsTo tests all
zero_is_needed n v s w fs e h =
    let before = need 1 (size_ok n) ∷ need 7 (fit v s) ∷ need 19 (valves_ok w) ∷ need 20 (few_records w) ∷ need 6 (sound v s.index) ∷ [] in
    let x = wanted_for (present v s) w in
    let on = sym (checked_join before (need 11 (entries_allowed (group_for (present v s) w)) ∷ []) (gives x)) ∙ e in
    let met = past 11 before _ refl on in
    let f = every_at 1 _ met in
    let r = every_at 2 _ met in
    let few = every_at 3 _ met in
    zero_needed (present v s) w fs (present_rises v s w f r few) (wanted_rises v s w f r few) (wanted_valves v s w f r few) h
    (eleven_fails x (entries_allowed (group_for (present v s) w)) (sym (checked_pass before _ met) ∙ on))

-- ---- the call

-- what an answer says stands for it again, but for a refusal numbered 0
heard : Reply → Answer (Option (List Entry))
heard t = answered t.number (cond t.found (Some t.entries) None)

heard_given : (o : Option (List Entry)) → heard (reply (gives o)) ≡ gives o
unfolding heard reply answered
heard_given None = refl
heard_given (Some es) = refl

-- no condition has number 0
heard_checked : (cs : List Need) (o : Option (List Entry)) → numbered cs ≡ true → heard (reply (checked cs o)) ≡ checked cs o
unfolding under numbered
heard_checked [] o p = heard_given o
heard_checked (c ∷ cs) o p =
    by_cases c.holds
    (λ b. rw b (heard_checked cs o (and_r (leb 1 c.number) (numbered cs) p)))
    (λ b.
    let low = leb-true 1 c.number (and_l (leb 1 c.number) (numbered cs) p) in
    rw b (unfold heard reply in answered_refused c.number _ (λ e. absurd (omega arith))))

-- whatever the call answers serves
pub answers_serve : ServedByCall
unfolding ServedByCall Served answer_in heard wanted_of numbered
answers_serve m s records r e =
    let w = wanted_settings records in
    subst (Serves (views m) (meaning s) w) (sym (ap heard e ∙ heard_checked (wanted_needs (length m) (views m) (meaning s) w) (wanted_for (present (views m) (meaning s)) w) refl))
    (serves (length m) (views m) (meaning s) w)
