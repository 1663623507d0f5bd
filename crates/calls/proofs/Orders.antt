-- Each call that begins an operation asks its conditions in the order of the papers.
use mathlib.Core.Path.{◌≡◌, refl}
use mathlib.Core.List.{List, [], ◌∷◌}
use Rattle.lists.specs.Needs.{Need, under, checked, answer_or, and_then, refusal_of}
use Rattle.lists.proofs.Laws.{by_cases}
use Rattle.calls.specs.Calls.{append_of, commit_of, collect_of, flush_of, buffer_of, format_of}
use Rattle.calls.specs.Orders.{numbers_of, refusal_in, InPapersOrder}

-- a call that gives something under conditions is refused by the first that does not hold
pub checked_refusal : {A : Type 0} (cs : List Need) (x : A) → refusal_in (checked cs x) ≡ refusal_of cs
unfolding refusal_in refusal_of under and_then answer_or
checked_refusal [] x = refl
checked_refusal (c ∷ cs) x = by_cases c.holds (λ e. rw e (checked_refusal cs x)) (λ e. rw e)

pub ordered : InPapersOrder
unfolding InPapersOrder numbers_of
ordered n v s b ks ws block =
    record {
      format = record { first = unfold format_of in checked_refusal _ _; order = refl };
      append = record { first = unfold append_of in checked_refusal _ _; order = refl };
      commit = record { first = unfold commit_of in checked_refusal _ _; order = refl };
      collect = record { first = unfold collect_of in checked_refusal _ _; order = refl };
      flush = record { first = unfold flush_of in checked_refusal _ _; order = refl };
      buffer = record { first = unfold buffer_of in checked_refusal _ _; order = refl };
    }
