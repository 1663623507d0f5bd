-- The records are noted, then compared with the present settings one by one: the walk, and that it comes to the answer of the definition.
use mathlib.Core.Path.{◌≡◌, refl, sym, ap, ◌∙◌}
use mathlib.Core.Bool.{Bool, true, false, not, cond, ◌&&◌}
use Rattle.std.proofs.Common.{Option, None, Some, Ok, Err}
use mathlib.Core.List.{List, [], ◌∷◌}
use Prim.Native.Nat.{ℕ, suc, ◌+◌, ◌≤◌, ◌<◌}
use native.Mathlib.Omega.{arith}
use lib.ListN.{length, get_or, take, drop, drop_of_length-le}
use lib.Seq.{drop-cons, length-take-le, take_all}
use lib.Dec.{leb}
use borrow.Author.Tests.{leb-true, leb-false, not-true, not-false}
use Rattle.lists.specs.Lists.{all, every}
use Rattle.lists.specs.Needs.{Answer, refused, gives, need, under, and_then, checked}
use Rattle.lists.specs.Cells.{cell, Entry, Setting, listed}
use Rattle.lists.proofs.Laws.{by_cases, given_refused}
use Rattle.lists.specs.declared.Cells.{Cells}
use Rattle.refusal.specs.declared.Refusal.{Refusal}
use Rattle.refusal.specs.Refusal.{number}
use Rattle.page.specs.Pages.{View}
use Rattle.index.specs.Index.{rising, entries_allowed}
use Rattle.blocks.specs.Blocks.{size_ok}
use Rattle.nodes.specs.Nodes.{sound}
use Rattle.state.specs.State.{Held, fit}
use Rattle.records.specs.declared.Record.{Record}
use Rattle.records.specs.declared.Notes.{Notes}
use Rattle.records.specs.Records.{wanted_settings, unnoted, noted_all}
use Rattle.records.proofs.Meaning.{in_range, notes_rise, notes_over, notes_count, length_settings}
use Rattle.wanted_group.specs.declared.Compared.{Compared}
use Rattle.wanted_group.specs.Group.{is_valve, group_for}
use Rattle.wanted_group.specs.Limited.{limited, limited_by}
use Rattle.wanted_group.specs.Compare.{SoFar, not_compared, compared_with, compared_all, group_of, so_far, ComesTo}
use Rattle.wanted_group.proofs.Fewest.{group_length}
use Rattle.wanted_group.proofs.Together.{compared_allowed, compared_group}
use Rattle.wanted.specs.Wanted.{valves_ok, few_records, present, wanted_for, wanted_of}
use Rattle.wanted.specs.InTurn.{after_records, beginning, Begins, group_given, closing, group_told}
use Rattle.wanted.proofs.Serves.{present_rises, present_valves, present_few, wanted_rises, wanted_valves}

-- ---- the walk over records: next and end

module _ (s : List Setting) (ys : List Record) (i : ℕ) where
  pub turn_next : (d : Record) (t q : SoFar) {x : SoFar} → i < length ys → q ≡ compared_with s t (cell (get_or ys i d).valve (get_or ys i d).word)
      → compared_all s t (wanted_settings (drop i ys)) ≡ x → compared_all s q (wanted_settings (drop (i + 1) ys)) ≡ x
  unfolding compared_all wanted_settings
  turn_next d t q k e so =
      let step : drop i ys ≡ get_or ys i d ∷ drop (suc i) ys = drop-cons ys i d k in
      let one : suc i ≡ i + 1 = omega arith in
      ap (λ (k : ℕ). compared_all s q (wanted_settings (drop k ys))) (sym one)
      ∙ ap (λ (m : SoFar). compared_all s m (wanted_settings (drop (suc i) ys))) e
      ∙ sym (ap (λ (l : List Record). compared_all s t (wanted_settings l)) step) ∙ so

  pub turn_end : (t : SoFar) {x : SoFar} → length ys ≤ i → compared_all s t (wanted_settings (drop i ys)) ≡ x → t ≡ x
  unfolding compared_all wanted_settings
  turn_end t h so = sym (ap (λ (l : List Record). compared_all s t (wanted_settings l)) (drop_of_length-le ys h)) ∙ so

-- ---- 11, and then the answer that the definition gives

given_limited : (es : List Entry) → group_given (limited es) ≡ cond (leb (length es) 96) (Some es) None
unfolding limited
given_limited es = by_cases (leb (length es) 96) (λ b. rw b) (λ b. rw b)

closing_wanted : (s w : List Setting) → rising s ≡ true → rising w ≡ true → all is_valve s ≡ true → all is_valve w ≡ true → length s ≤ 192
    → closing s (compared_all s not_compared w) ≡ checked (need 11 (entries_allowed (group_for s w)) ∷ []) (wanted_for s w)
unfolding closing wanted_for
closing_wanted s w r q a b h =
    let t = compared_all s not_compared w in
    let e = compared_group s w r q b h in
    ap (λ (d : Bool). checked (need 11 d ∷ []) (group_given (group_of s t))) (compared_allowed s w r q b h)
    ∙ ap (λ (x : Option (List Entry)). checked (need 11 (entries_allowed (group_for s w)) ∷ []) x)
    (ap group_given e ∙ given_limited (group_for s w) ∙ ap (λ (k : ℕ). cond (leb k 96) (Some (group_for s w)) None) (group_length s w r q a b))

-- ---- the whole

-- the answer from what stands before the records are compared
abbrev answering : ℕ → Answer (List Setting) → List Record → Answer (Option (List Entry))
answering n t rs = and_then t (λ s. closing s (compared_all s not_compared (wanted_settings (take n rs))))

and_last : (a b : Bool) → (a && b) ≡ (a && (b && true))
and_last true true = refl
and_last true false = refl
and_last false b = refl

module _ (rs : List Record) where
  abbrev notes : Notes
  notes = noted_all unnoted rs

  abbrev w : List Setting
  w = wanted_settings rs

  -- 19
  same_rises : notes.rises ≡ valves_ok w
  unfolding valves_ok every is_valve
  same_rises = notes_rise rs ∙ and_last (rising w) (all in_range w)

  -- 20
  same_few : leb notes.count 192 ≡ few_records w
  unfolding few_records
  same_few =
      by_cases (leb (length rs) 192)
      (λ b. ap (λ (k : ℕ). leb k 192) (notes_count rs (leb-true (length rs) 192 b) ∙ sym (length_settings rs)))
      (λ b.
      let over = notes_over rs (leb-false (length rs) 192 b) in
      ap (λ (k : ℕ). leb k 192) over ∙ sym b ∙ ap (λ (k : ℕ). leb k 192) (sym (length_settings rs)))

  -- where 20 does not refuse, the count is the number of records
  few_count : few_records w ≡ true → notes.count ≡ length rs
  unfolding few_records
  few_count h = let z = leb-true (length w) 192 h in let y = length_settings rs in notes_count rs (omega (arith, z, y))

  module _ (n : ℕ) (v : List View) (s : Held) where
    abbrev start : Answer (List Setting)
    start = beginning n v s notes

    -- where the settings are there, no more records are to be compared than there are
    pub start_few : (p : List Setting) → gives p ≡ start → notes.count ≤ length rs
    unfolding beginning under after_records
    start_few p =
        by_cases (size_ok n)
        (λ a. rw a (by_cases (fit v s)
        (λ b. rw b (by_cases (valves_ok w)
        (λ c. rw (same_rises, c) (by_cases (few_records w)
        (λ d q. let z = few_count d in omega (arith, z))
        (λ d. rw (same_few, d) (λ q. given_refused p 20 q))))
        (λ c. rw (same_rises, c) (λ q. given_refused p 19 q))))
        (λ b. rw b (λ q. given_refused p 7 q))))
        (λ a. rw a (λ q. given_refused p 1 q))

    pub answers : answering notes.count start rs ≡ wanted_of n v s w
    unfolding beginning under after_records and_then wanted_of
    answers =
        by_cases (size_ok n)
        (λ a. rw a (by_cases (fit v s)
        (λ b. rw b (by_cases (valves_ok w)
        (λ c. rw (same_rises, c) (by_cases (few_records w)
        (λ d. rw (same_few, d) (by_cases (sound v s.index)
        (λ e. rw e (all_compared b c d))
        (λ e. rw e)))
        (λ d. rw (same_few, d))))
        (λ c. rw (same_rises, c))))
        (λ b. rw b)))
        (λ a. rw a)
      where
        all_compared : fit v s ≡ true → valves_ok w ≡ true → few_records w ≡ true
            → closing (present v s) (compared_all (present v s) not_compared (wanted_settings (take notes.count rs)))
            ≡ checked (need 11 (entries_allowed (group_for (present v s) w)) ∷ []) (wanted_for (present v s) w)
        all_compared f r k =
            let z = few_count k in
            let e : take notes.count rs ≡ rs = take_all notes.count rs (omega (arith, z)) in
            ap (λ (l : List Record). closing (present v s) (compared_all (present v s) not_compared (wanted_settings l))) e
            ∙ closing_wanted (present v s) w (present_rises v s w f r k) (wanted_rises v s w f r k) (present_valves v s w f r k) (wanted_valves v s w f r k)
            (present_few v s w f r k)

    -- what the code comes to, from its notes q on
    module _ (q : Notes) (e : q ≡ notes) where
      pub lead_refused : (r : Refusal) → Begins (beginning n v s q) (Err r) → refused (number r) ≡ wanted_of n v s w
      unfolding and_then
      lead_refused r g = ap (λ t. answering q.count t rs) g.so ∙ ap (λ (t : Notes). answering t.count (beginning n v s t) rs) e ∙ answers

      module _ (p : Cells) (g : Begins (beginning n v s q) (Ok p)) where
        lead_few : q.count ≤ length rs
        lead_few = let z = ap (λ (t : Notes). t.count) e in let y = start_few (listed p) (g.so ∙ ap (beginning n v s) e) in omega (arith, z, y)

        pub lead_part : q.count ≡ length (take q.count rs)
        lead_part = sym (length-take-le q.count rs lead_few)

        module _ (c : Compared) (h : ComesTo (compared_all (listed p) not_compared (wanted_settings (take q.count rs))) c) where
          closes : closing (listed p) (so_far c) ≡ wanted_of n v s w
          unfolding and_then
          closes =
              ap (closing (listed p)) h.so
              ∙ ap (λ t. answering q.count t rs) g.so
              ∙ ap (λ (t : Notes). answering t.count (beginning n v s t) rs) e
              ∙ answers

          pub lead_11 : not c.allowed ≡ true → refused 11 ≡ wanted_of n v s w
          unfolding closing under
          lead_11 z = (rw (not-true c.allowed z)) ∙ closes

          pub lead_group : (o : Option Cells) → not c.allowed ≡ false → limited_by o ≡ group_of (listed p) (so_far c) → group_told (Ok o) ≡ wanted_of n v s w
          unfolding closing under
          lead_group o z k = told o ∙ ap (λ g. gives (group_given g)) k ∙ (rw (not-false c.allowed z)) ∙ closes
            where
              told : (x : Option Cells) → group_told (Ok x) ≡ gives (group_given (limited_by x))
              told None = refl
              told (Some y) = refl
