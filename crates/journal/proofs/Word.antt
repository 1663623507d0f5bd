-- The word's part along a run is the history's word.
use mathlib.Core.Path.{◌≡◌, refl}
use mathlib.Core.List.{List, [], ◌∷◌}
use Prim.Native.Nat.{ℕ}
use lib.Dec.{eqb}
use borrow.Author.Tests.{eqb-true, eqb-false}
use Rattle.lists.specs.Needs.{Need, refusal_of, under, checked, answer_or}
use Rattle.lists.proofs.Laws.{by_cases}
use Rattle.flash.specs.Medium.{views}
use Rattle.index.specs.Index.{lookup}
use Rattle.state.specs.State.{Held}
use Rattle.readings.specs.Readings.{word_part, word_refusal}
use Rattle.valve_log.specs.History.{History, assign_groups}
use Rattle.valve_log.specs.Word.{Tells, WordTold}
use Rattle.valve_log.proofs.Word.{word_told}
use Rattle.journal.specs.Run.{world_of, meant}
use Rattle.journal.specs.Word.{word_handed, word_in, WordToldOfCode}
use Rattle.journal.proofs.Chain.{runs}

-- where a condition refuses there is no byte
none_shown : (cs : List Need) (bs : List ℕ) → (refusal_of cs ≡ 0 → ⊥) → answer_or (λ n. []) (checked cs bs) ≡ []
unfolding refusal_of answer_or under
none_shown [] bs h = absurd (h refl)
none_shown (c ∷ cs) bs h = by_cases c.holds (λ q. rw q (none_shown cs bs (λ z. h (rw q z)))) (λ q. rw q)

module _ (m : List ℕ) (s : Held) (b : List ℕ) (h : History) (valve : ℕ) (t : Tells m s b h valve) where
  no_bytes : (word_refusal m (views m) s b valve ≡ 0 → ⊥) → word_part m (views m) s b valve ≡ []
  unfolding word_refusal word_part
  no_bytes z = none_shown _ _ z

  handed : word_handed (word_refusal m (views m) s b valve) (word_part m (views m) s b valve) ≡ word_in (lookup valve (assign_groups h.settings h.buffered))
  unfolding word_in
  handed =
      by_cases (eqb (word_refusal m (views m) s b valve) 0)
      (λ q. let z = eqb-true (word_refusal m (views m) s b valve) 0 q in let w = t.found z in rw (z, w.bytes, w.set))
      (λ q. let z = eqb-false (word_refusal m (views m) s b valve) 0 q in let u = t.unset z in rw (u.0, u.1, no_bytes z))

pub word_told_of_code : WordToldOfCode
unfolding WordToldOfCode WordTold meant
word_told_of_code x h s valve number bytes R e n p =
    rw (n, p) (handed x.medium _ x.buffer h valve (word_told (world_of x) h _ valve (runs x h R) (rw e)))
