-- The lines of a reply, counted and one by one.
use mathlib.Core.Path.{◌≡◌, refl, sym, ap, ◌∙◌}
use mathlib.Core.Bool.{true, false, not}
use mathlib.Core.List.{List, [], ◌∷◌}
use Prim.Native.Nat.{ℕ, zero, suc, ◌+◌, ◌-◌, ◌≤◌, ◌<◌}
use native.Mathlib.Omega.{arith}
use mir.Val.{Fits}
use mir.Syntax.{w64}
use lib.ListN.{length, get_or, get_or-eq_default}
use borrow.Author.Tests.{eq-eqb, ne_eqb, not-true, not-false}
use Rattle.lists.specs.Lists.{value_or}
use Rattle.lists.specs.declared.Cells.{Cells}
use Rattle.lists.specs.Cells.{cell, Setting, Place, listed}
use Rattle.lists.proofs.Laws.{by_cases, length_pairs, get_pairs}
use Rattle.page.specs.Pages.{View}
use Rattle.flash.specs.Medium.{views}
use Rattle.nodes.specs.Nodes.{word_at, words}
use Rattle.nodes.proofs.Alive.{words_length}
use Rattle.std.proofs.Common.{Option, None, Some}
use Rattle.std.specs.Prelude.{unwrap_or}
use Rattle.state.specs.declared.State.{State}
use Rattle.player.specs.declared.Told.{Told}
use Rattle.player.specs.declared.Told.TheVariants.{Nothing, Refused, Recovered}
use Rattle.player.specs.declared.Reply.{Reply}
use Rattle.player.specs.Lines.{Line, setting_lines}
use Rattle.player.specs.Played.{LastState, settings_in, lines_told, lines_by, FewSet}
use Rattle.reply_lines.specs.declared.PrintedLine.{PrintedLine}
use Rattle.reply_lines.specs.declared.PrintedLine.TheVariants as printed
use Rattle.reply_lines.specs.Printed.{many_set, summary_told, CountsLines, GivesLineOf, GivesLine, GivesSetting, line_of}

-- a word, or 0
pub word_or : (o o' : Option ℕ) (x : ℕ) → o ≡ o' → x ≡ unwrap_or o 0 → x ≡ value_or 0 o'
unfolding value_or
word_or o None x e q = rw e at q
word_or o (Some y) x e q = rw e at q

lines_long : (l : List Setting) → length (setting_lines l) ≡ length l
unfolding setting_lines
lines_long [] = refl
lines_long (x ∷ l) = ap suc (lines_long l)

line_at : (v : List View) (l : List Place) (i : ℕ) → i < length l
    → Line.setting (get_or l i (cell 0 0)).key (value_or 0 (word_at v (get_or l i (cell 0 0)))) ≡ get_or (setting_lines (words v l)) i (Line.refusal 0)
unfolding setting_lines words
line_at v [] i h = absurd (omega arith)
line_at v (x ∷ l) zero h = refl
line_at v (x ∷ l) (suc i) h = line_at v l i (omega arith)

pub setting_is : (v : List View) (c : Cells) (i w : ℕ) → i < c.count → w ≡ value_or 0 (word_at v (cell (get_or c.keys i 0) (get_or c.vals i 0)))
    → GivesSetting (words v (listed c)) i (printed.Setting (get_or c.keys i 0) w)
setting_is v c i w h e =
    let k : get_or (listed c) i (cell 0 0) ≡ cell (get_or c.keys i 0) (get_or c.vals i 0) = get_pairs c.count c.keys c.vals i h in
    record {
      is =
          ap (λ (y : ℕ). Line.setting (get_or c.keys i 0) y) e ∙ ap (λ (x : Place). Line.setting x.key (value_or 0 (word_at v x))) (sym k)
          ∙ line_at v (listed c) i (omega (arith, length_pairs c.count c.keys c.vals));
    }

pub many_are : (m : List ℕ) (l : LastState) → length (settings_in m l) ≡ many_set l
unfolding settings_in many_set
many_are m None = refl
many_are m (Some s) = words_length (views m) (listed s.index) ∙ length_pairs s.index.count s.index.keys s.index.vals

pub many_none : (l : LastState) → l ≡ None → 0 ≡ many_set l
unfolding many_set
many_none l e = rw e

pub many_some : (l : LastState) (s : State) → l ≡ Some s → s.index.count ≡ many_set l
unfolding many_set
many_some l s e = rw e

module _ (r : Reply) where
  pub count_none : r.told ≡ Nothing → CountsLines 0 r
  unfolding lines_told
  count_none e = record { is = λ m. ap (λ (t : Told). length (lines_told t (settings_in m r.last))) (sym e) }

  module _ (n : ℕ) (e : r.told ≡ Refused n) where
    pub count_refused : CountsLines 1 r
    unfolding lines_told
    count_refused = record { is = λ m. ap (λ (t : Told). length (lines_told t (settings_in m r.last))) (sym e) }

  module _ (log : ℕ) (e : r.told ≡ Recovered log) where
    pub told_lines : (m : List ℕ) → lines_by m r ≡ summary_told m log r.last
    unfolding summary_told
    told_lines m = ap (λ (t : Told). lines_told t (settings_in m r.last)) e

    summary_long : (m : List ℕ) → 2 + many_set r.last ≡ length (summary_told m log r.last)
    unfolding summary_told lines_told
    summary_long m = let a = lines_long (settings_in m r.last) in let b = many_are m r.last in omega arith

    pub count_summary : (n : ℕ) → n ≡ many_set r.last → CountsLines (2 + n) r
    count_summary n q = record { is = λ m. ap (λ (k : ℕ). 2 + k) q ∙ summary_long m ∙ ap length (sym (told_lines m)) }

    pub few_many : FewSet r → many_set r.last ≤ 192
    unfolding many_set
    few_many f = go r.last refl
      where
        go : (l : LastState) → r.last ≡ l → many_set l ≤ 192
        go None q = omega arith
        go (Some s) q = f.most log s e q

    pub count_fits : (n : ℕ) → FewSet r → n ≡ many_set r.last → Fits w64 (2 + n)
    count_fits n f q = let k = few_many f in omega arith

  module _ (n k : ℕ) (p : CountsLines n r) where
    module _ (m : List ℕ) where
      pub line_past : n ≤ k → GivesLine m r k (printed.Refusal 0)
      line_past h = record { is = sym (get_or-eq_default (lines_by m r) (Line.refusal 0) {n = k} (omega (arith, p.is m))) }

      pub line_none : r.told ≡ Nothing → GivesLine m r k (printed.Refusal 0)
      unfolding lines_told
      line_none e = record { is = ap (λ (t : Told). get_or (lines_told t (settings_in m r.last)) k (Line.refusal 0)) (sym e) }

      pub line_refused : (x : ℕ) → r.told ≡ Refused x → k < n → GivesLine m r k (printed.Refusal x)
      unfolding lines_told
      line_refused x e h =
          let a = p.is m in
          let b = (count_refused x e).is m in
          let z : k ≡ 0 = omega arith in
          record { is = ap (λ (i : ℕ). get_or (Line.refusal x ∷ []) i (Line.refusal 0)) (sym z) ∙ ap (λ (t : Told). get_or (lines_told t (settings_in m r.last)) k (Line.refusal 0)) (sym e) }

      module _ (log : ℕ) (e : r.told ≡ Recovered log) where
        pub line_recovered : (x : PrintedLine) → GivesLineOf (summary_told m log r.last) k x → GivesLine m r k x
        line_recovered x g = record { is = g.is ∙ ap (λ (ls : List Line). get_or ls k (Line.refusal 0)) (sym (told_lines log e m)) }

    pub line_place : (log : ℕ) → r.told ≡ Recovered log → k < n → k < 2 + many_set r.last
    line_place log e h = let a = p.is [] in let b = (count_summary log e (many_set r.last) refl).is [] in omega arith

-- the lines of a recovery
module _ (m : List ℕ) (log : ℕ) (l : LastState) (k : ℕ) where
  pub recovery_log : k ≡ 0 → GivesLineOf (summary_told m log l) k (printed.LogLength log)
  unfolding summary_told lines_told
  recovery_log e = record { is = ap (λ (i : ℕ). get_or (summary_told m log l) i (Line.refusal 0)) (sym e) }

  module _ (z : k ≡ 0 → ⊥) (h : k < 2 + many_set l) where
    pub recovery_none : l ≡ None → GivesLineOf (summary_told m log l) k (printed.ValvesSet 0)
    unfolding summary_told lines_told settings_in many_set
    recovery_none e =
        let a = many_none l e in
        let o : k ≡ 1 = omega arith in
        record { is = rw (o, e) refl }

    module _ (s : State) (e : l ≡ Some s) where
      pub recovery_set : k ≡ 1 → GivesLineOf (summary_told m log l) k (printed.ValvesSet s.index.count)
      unfolding summary_told lines_told
      recovery_set o = record { is = ap Line.valves_set (many_some l s e ∙ sym (many_are m l)) ∙ ap (λ (i : ℕ). get_or (summary_told m log l) i (Line.refusal 0)) (sym o) }

      module _ (o : k ≡ 1 → ⊥) where
        pub recovery_place : k - 2 < s.index.count
        recovery_place = let a = many_some l s e in omega arith

        pub recovery_few : many_set l ≤ 192 → s.index.count ≤ 192
        recovery_few f = let a = many_some l s e in omega arith

        pub recovery_setting : (x : PrintedLine) → GivesSetting (words (views m) (listed s.index)) (k - 2) x → GivesLineOf (summary_told m log l) k x
        unfolding summary_told lines_told settings_in
        recovery_setting x g =
            let t : suc (suc (k - 2)) ≡ k = omega arith in
            let u : words (views m) (listed s.index) ≡ settings_in m l = ap (settings_in m) (sym e) in
            record {
              is =
                  g.is ∙ ap (λ (S : List Setting). get_or (setting_lines S) (k - 2) (Line.refusal 0)) u
                  ∙ ap (λ (i : ℕ). get_or (summary_told m log l) i (Line.refusal 0)) t;
            }
