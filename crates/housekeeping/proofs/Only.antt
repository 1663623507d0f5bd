-- There is one way at most on which the dispatcher lets a group in.
use mathlib.Core.Path.{◌≡◌, refl, sym, ap, ◌∙◌}
use mathlib.Core.Bool.{true, not}
use Rattle.std.proofs.Common.{Some}
use mathlib.Core.List.{List, ◌∷◌}
use Prim.Native.Nat.{ℕ, ◌≤◌}
use native.Mathlib.Omega.{arith}
use Rattle.lists.proofs.Laws.{true_false, same_given}
use Rattle.step.specs.Step.{Step}
use Rattle.valve_log.specs.Reached.{World, world, Event, step_due, happen, finishes}
use Rattle.lists.specs.Needs.{Answer, refused, gives}
use Rattle.dispatcher.specs.Dispatch.{Next}
use Rattle.housekeeping.specs.Bound.{is_unfinished, Finishes, named_in, append_in, Leads, here, commits, collects, Admits, Suffice, Needed, OneWay}

not_both : {P : Type 0} (st : Answer Step) → finishes st ≡ true → is_unfinished st ≡ true → P
unfolding finishes is_unfinished
not_both (refused n) a b = true_false a refl
not_both (gives (Step.program p pg s finished)) a b = true_false b (ap not a)
not_both (gives (Step.erase b s finished)) a c = true_false c (ap not a)

one_end : (w x y : World) → Finishes w x → Finishes w y → x ≡ y
one_end w x y (Finishes.last w₁ a) (Finishes.last w₂ b) = refl
one_end w x y (Finishes.last w₁ a) (Finishes.more w₂ y₂ b G) = not_both (step_due w) a b
one_end w x y (Finishes.more w₁ x₁ a F) (Finishes.last w₂ b) = not_both (step_due w) b a
one_end w x y (Finishes.more w₁ x₁ a F) (Finishes.more w₂ y₂ b G) = one_end (happen w Event.step).after x y F G

number_of : Answer Next → ℕ
number_of (refused n) = 0
number_of (gives Next.append) = 1
number_of (gives Next.commit) = 2
number_of (gives (Next.collect b)) = 3

clash : {P : Type 0} {x : Answer Next} (a b : Answer Next) → x ≡ a → x ≡ b → (number_of a ≡ number_of b → ⊥) → P
clash a b p q d = absurd (d (ap number_of (sym p ∙ q)))

same_block : (w : World) (ks ws : List ℕ) (y u : ℕ) → named_in w ks ws ≡ gives (Next.collect y) → named_in w ks ws ≡ gives (Next.collect u)
    → y ≡ u
same_block w ks ws y u p q = let z : gives (Next.collect y) ≡ gives (Next.collect u) = sym p ∙ q in cc

both : (y u : ℕ) (a b : List Next) → y ≡ u → a ≡ b → ◌≡◌ {A = List Next} (Next.collect y ∷ a) (Next.collect u ∷ b)
both y u a b k e = rw (k, e)

-- no commit or collection is named there, so that no way goes on
stays : {P : Type 0} {x : Answer Next} (a : Answer Next) → x ≡ a → number_of x ≤ 1 → 2 ≤ number_of a → P
stays a e few many = absurd (omega (arith, ap number_of e))

-- to where no commit or collection is named there is one way
one_lead : (ks ws : List ℕ) (a b : List Next) (w d f : World) → Leads ks ws a w d → Leads ks ws b w f
    → number_of (named_in d ks ws) ≤ 1 → number_of (named_in f ks ws) ≤ 1 → (a ≡ b) × (d ≡ f)
unfolding number_of
one_lead ks ws a b w d f (here w₁) (here w₂) p q = (refl, refl)
one_lead ks ws a b w d f (here w₁) (commits w₂ x e n F B) p q = stays (gives Next.commit) n p (omega arith)
one_lead ks ws a b w d f (here w₁) (collects w₂ x e y n F B) p q = stays (gives (Next.collect y)) n p (omega arith)
one_lead ks ws a b w d f (commits w₁ x e n F A) (here w₂) p q = stays (gives Next.commit) n q (omega arith)
one_lead ks ws a b w d f (commits {ops = a₁} w₁ x e n F A) (commits {ops = a₂} w₂ y e₂ m G B) p q =
    let k = one_end (happen w Event.commit).after x y F G in
    let r = one_lead ks ws a₁ a₂ y d f (rw k at A) B p q in
    (ap (λ (l : List Next). Next.commit ∷ l) r.0, r.1)
one_lead ks ws a b w d f (commits w₁ x e n F A) (collects w₂ y e₂ z m G B) p q = clash (gives Next.commit) (gives (Next.collect z)) n m
    (λ z. omega arith)
one_lead ks ws a b w d f (collects w₁ x e y n F A) (here w₂) p q = stays (gives (Next.collect y)) n q (omega arith)
one_lead ks ws a b w d f (collects w₁ x e y n F A) (commits w₂ z e₂ m G B) p q = clash (gives (Next.collect y)) (gives Next.commit) n m
    (λ z. omega arith)
one_lead ks ws a b w d f (collects {ops = a₁} w₁ x e y n F A) (collects {ops = a₂} w₂ z e₂ u m G B) p q =
    let k = same_block w ks ws y u n m in
    let e = one_end (happen w (Event.collect y)).after x z F (rw k G) in
    let r = one_lead ks ws a₁ a₂ z d f (rw e at A) B p q in
    (both y u a₁ a₂ k r.0, r.1)

append_named : (w : World) (ks ws : List ℕ) → named_in w ks ws ≡ gives Next.append → number_of (named_in w ks ws) ≤ 1
unfolding number_of
append_named w ks ws e = omega (arith, ap number_of e)

pub only : OneWay
unfolding OneWay
only ks ws a b w d f A B =
    let r = one_lead ks ws a b w A.before B.before A.leads B.leads (append_named A.before ks ws A.named)
    (append_named B.before ks ws B.named) in
    (r.0, one_end (world A.before.medium (Some A.begun) A.before.buffer) d f A.finishes (same r.1))
  where
    same : A.before ≡ B.before → Finishes (world A.before.medium (Some A.begun) A.before.buffer) f
    same e =
        let k : A.begun ≡ B.begun = same_given (sym A.begins ∙ ap (λ (x : World). append_in x ks ws) e ∙ B.begins) in
        rw (e, k) B.finishes

-- where the group is let in, no 14 is on the way: a world with that answer would be the one where the append is named
pub needed : Needed
unfolding Needed Suffice number_of
needed ks ws ops w end A b f L q =
    let r = one_lead ks ws ops b w A.before f A.leads L (append_named A.before ks ws A.named) (omega (arith, ap number_of q)) in
    clash (gives Next.append) (refused 14) A.named (ap (λ (x : World). named_in x ks ws) r.1 ∙ q) (λ z. omega arith)
