-- The group leads to the wanted settings: what it says, last, of each valve is what the wanted settings have.
use mathlib.Core.Path.{◌≡◌, refl, sym, ap, ◌∙◌}
use mathlib.Core.Bool.{Bool, true, false, cond, not, ◌&&◌}
use Rattle.std.proofs.Common.{Option, None, Some}
use mathlib.Core.List.{List, [], ◌∷◌, ◌++◌}
use Prim.Native.Nat.{ℕ, suc, ◌+◌, ◌-◌, ◌≤◌}
use native.Mathlib.Omega.{arith}
use lib.Dec.{eqb}
use borrow.Author.Tests.{le-ltb, eq-eqb, ne_eqb}
use Rattle.lists.specs.declared.Cell.{Cell}
use Rattle.lists.specs.Lists.{all, is_some}
use Rattle.lists.specs.Cells.{cell}
use Rattle.lists.proofs.Laws.{by_cases, all_head, all_tail, by_eq}
use Rattle.index.specs.Index.{lookup, rising_from, rising, assign, assign_all}
use Rattle.index.proofs.Rising.{rising_tail, assign_rising}
use Rattle.index.proofs.Assigned.{lookup_below}
use Rattle.index.proofs.Entries.{all_rising}
use Rattle.wanted_group.specs.Group.{is_valve, same, removals_for, settings_for, group_for}
use Rattle.index.proofs.Lookup.{valve, word, lookup_none, lookup_here, lookup_other, assign_it, assign_else, same_list}

-- ---- what entries, in order, say of a valve that had o

abbrev pub told : ℕ → List Cell → Option ℕ → Option ℕ
told k [] o = o
told k (e ∷ es) o = told k es (cond (eqb k (valve e)) (word e) o)

pub lookup_all : (l es : List Cell) (k : ℕ) → rising l ≡ true → lookup k (assign_all l es) ≡ told k es (lookup k l)
unfolding assign_all
lookup_all l [] k r = refl
lookup_all l (e ∷ es) k r =
    lookup_all (assign l e) es k (assign_rising l e r)
    ∙ ap (told k es)
    (by_eq k (valve e)
    (λ h. ap (λ (t : ℕ). lookup t (assign l e)) h ∙ assign_it l e r ∙ sym (ap (λ (t : Bool). cond t (word e) (lookup k l)) (eq-eqb _ _ h)))
    (λ h. assign_else l e k r h ∙ sym (ap (λ (t : Bool). cond t (word e) (lookup k l)) (ne_eqb _ _ h))))

told_append : (k : ℕ) (es fs : List Cell) (o : Option ℕ) → told k (es ++ fs) o ≡ told k fs (told k es o)
told_append k [] fs o = refl
told_append k (e ∷ es) fs o = told_append k es fs (cond (eqb k (valve e)) (word e) o)

-- by an entry for that valve, and for another
module _ (k : ℕ) (e : Cell) (es : List Cell) (o : Option ℕ) where
  told_it : k ≡ valve e → told k (e ∷ es) o ≡ told k es (word e)
  told_it h = ap (λ (t : Bool). told k es (cond t (word e) o)) (eq-eqb _ _ h)

  told_else : (k ≡ valve e → ⊥) → told k (e ∷ es) o ≡ told k es o
  told_else h = ap (λ (t : Bool). told k es (cond t (word e) o)) (ne_eqb _ _ h)

-- the entry that removes a valve, and one that sets it
abbrev pub removal : Cell → Cell
removal x = cell (x.key + 32768) 0

removal_valve : (x : Cell) → valve (removal x) ≡ x.key
unfolding valve
removal_valve x = let h : 32768 ≤ x.key + 32768 = omega arith in let e : x.key + 32768 - 32768 ≡ x.key = omega arith in rw (le-ltb (x.key + 32768) 32768 h, e)

removal_word : (x : Cell) → word (removal x) ≡ None
unfolding word
removal_word x = let h : 32768 ≤ x.key + 32768 = omega arith in rw (le-ltb (x.key + 32768) 32768 h)

pub setting_valve : (y : Cell) → is_valve y ≡ true → valve y ≡ y.key
unfolding valve is_valve
setting_valve y h = rw h

setting_word : (y : Cell) → is_valve y ≡ true → word y ≡ Some y.val
unfolding word is_valve
setting_word y h = rw h

-- ---- the two parts of the group, one place of a list at a time

-- the valve of x is wanted; y stands so among the present settings
abbrev pub is_wanted : List Cell → Cell → Bool
is_wanted w x = is_some (lookup x.key w)

abbrev pub stands : List Cell → Cell → Bool
stands s y = same (lookup y.key s) (Some y.val)

module _ (x : Cell) (xs w : List Cell) where
  pub removals_kept : is_wanted w x ≡ true → removals_for (x ∷ xs) w ≡ removals_for xs w
  unfolding removals_for
  removals_kept h = rw h

  pub removals_gone : is_wanted w x ≡ false → removals_for (x ∷ xs) w ≡ removal x ∷ removals_for xs w
  unfolding removals_for
  removals_gone h = rw h

module _ (s : List Cell) (y : Cell) (ys : List Cell) where
  pub settings_same : stands s y ≡ true → settings_for s (y ∷ ys) ≡ settings_for s ys
  unfolding settings_for
  settings_same h = rw h

  pub settings_new : stands s y ≡ false → settings_for s (y ∷ ys) ≡ y ∷ settings_for s ys
  unfolding settings_for
  settings_new h = rw h

-- what stands under the first valve of a rising list does not stand in the rest
pub rest_none : (k : ℕ) (x : Cell) (xs : List Cell) → rising_from (suc x.key) xs ≡ true → k ≡ x.key → lookup k xs ≡ None
rest_none k x xs r h = lookup_below k (suc x.key) xs (omega (arith, h)) r

-- ---- removals: a valve that is set and not wanted

abbrev pub gone : Option ℕ → Option ℕ → Bool
gone a b = is_some a && not (is_some b)

pub gone_none : (b : Option ℕ) → gone None b ≡ false
unfolding is_some
gone_none b = refl

pub gone_some : (x : ℕ) (b : Option ℕ) → gone (Some x) b ≡ not (is_some b)
unfolding is_some
gone_some x b = refl

gone_wanted : (a b : Option ℕ) → is_some b ≡ true → gone a b ≡ false
unfolding is_some
gone_wanted None b h = refl
gone_wanted (Some x) b h = rw h

cond_none : (t : Bool) → cond {A = Option ℕ} t None None ≡ None
cond_none true = refl
cond_none false = refl

-- what a valve that had o has after the removals
abbrev left : List Cell → List Cell → ℕ → Option ℕ → Option ℕ
left s w k o = cond (gone (lookup k s) (lookup k w)) None o

pub told_removals : (s w : List Cell) (k n : ℕ) (o : Option ℕ) → rising_from n s ≡ true → told k (removals_for s w) o ≡ left s w k o
unfolding removals_for
told_removals [] w k n o r =
    sym (ap (λ (t : Option ℕ). cond (gone t (lookup k w)) None o) (lookup_none k) ∙ ap (λ (t : Bool). cond t None o) (gone_none (lookup k w)))
told_removals (x ∷ xs) w k n o r =
    let tail = rising_tail n x xs r in
    let other : (k ≡ x.key → ⊥) → left xs w k o ≡ left (x ∷ xs) w k o = λ h. ap (λ (t : Option ℕ). cond (gone t (lookup k w)) None o) (sym (lookup_other k x xs tail h)) in
    by_cases (is_wanted w x)
    (λ b.
    ap (λ (t : List Cell). told k t o) (removals_kept x xs w b)
    ∙ told_removals xs w k (suc x.key) o tail
    ∙ by_eq k x.key
    (λ h.
    let in-w = ap (λ (t : ℕ). is_some (lookup t w)) h ∙ b in
    ap (λ (t : Bool). cond t None o) (gone_wanted (lookup k xs) (lookup k w) in-w ∙ sym (gone_wanted (lookup k (x ∷ xs)) (lookup k w) in-w)))
    other)
    (λ b.
    ap (λ (t : List Cell). told k t o) (removals_gone x xs w b)
    ∙ by_eq k x.key
    (λ h.
    let not-w = gone_some x.val (lookup k w) ∙ ap not (ap (λ (t : ℕ). is_some (lookup t w)) h ∙ b) in
    told_it k (removal x) (removals_for xs w) o (h ∙ sym (removal_valve x))
    ∙ ap (told k (removals_for xs w)) (removal_word x)
    ∙ told_removals xs w k (suc x.key) None tail
    ∙ cond_none (gone (lookup k xs) (lookup k w))
    ∙ sym (ap (λ (t : Option ℕ). cond (gone t (lookup k w)) None o) (lookup_here k x xs h) ∙ ap (λ (t : Bool). cond t None o) not-w))
    (λ h. told_else k (removal x) (removals_for xs w) o (λ e. h (e ∙ removal_valve x)) ∙ told_removals xs w k (suc x.key) o tail ∙ other h))

-- ---- settings: a valve that is wanted and does not stand so

abbrev pub changed : Option ℕ → Option ℕ → Bool
changed None t = false
changed (Some v) t = not (same t (Some v))

-- what a valve that had o has after the settings, where t stands and a is wanted
abbrev chosen : Option ℕ → Option ℕ → Option ℕ → Option ℕ
chosen None t o = o
chosen (Some v) t o = cond (same t (Some v)) o (Some v)

told_settings : (s w : List Cell) (k n : ℕ) (o : Option ℕ) → rising_from n w ≡ true → all is_valve w ≡ true
    → told k (settings_for s w) o ≡ chosen (lookup k w) (lookup k s) o
unfolding settings_for
told_settings s [] k n o r a = sym (ap (λ (t : Option ℕ). chosen t (lookup k s) o) (lookup_none k))
told_settings s (y ∷ ys) k n o r a =
    let tail = rising_tail n y ys r in
    let lowy = all_head is_valve y ys a in
    let rest = all_tail is_valve y ys a in
    let other : (k ≡ y.key → ⊥) → chosen (lookup k ys) (lookup k s) o ≡ chosen (lookup k (y ∷ ys)) (lookup k s) o
    = λ h. ap (λ (t : Option ℕ). chosen t (lookup k s) o) (sym (lookup_other k y ys tail h)) in
    let here : (b : Bool) → stands s y ≡ b → k ≡ y.key → chosen (lookup k (y ∷ ys)) (lookup k s) o ≡ cond b o (Some y.val)
    = λ b e h. ap (λ (t : Option ℕ). chosen t (lookup k s) o) (lookup_here k y ys h)
    ∙ ap (λ (t : Bool). cond t o (Some y.val)) (ap (λ (t : ℕ). same (lookup t s) (Some y.val)) h ∙ e) in
    by_cases (stands s y)
    (λ b.
    ap (λ (t : List Cell). told k t o) (settings_same s y ys b)
    ∙ told_settings s ys k (suc y.key) o tail rest
    ∙ by_eq k y.key (λ h. ap (λ (t : Option ℕ). chosen t (lookup k s) o) (rest_none k y ys tail h) ∙ sym (here true b h)) other)
    (λ b.
    ap (λ (t : List Cell). told k t o) (settings_new s y ys b)
    ∙ by_eq k y.key
    (λ h.
    told_it k y (settings_for s ys) o (h ∙ sym (setting_valve y lowy))
    ∙ ap (told k (settings_for s ys)) (setting_word y lowy)
    ∙ told_settings s ys k (suc y.key) (Some y.val) tail rest
    ∙ ap (λ (t : Option ℕ). chosen t (lookup k s) (Some y.val)) (rest_none k y ys tail h)
    ∙ sym (here false b h))
    (λ h. told_else k y (settings_for s ys) o (λ e. h (e ∙ setting_valve y lowy)) ∙ told_settings s ys k (suc y.key) o tail rest ∙ other h))

-- ---- both

picked : (a b : Option ℕ) → chosen a b (cond (gone b a) None b) ≡ a
unfolding is_some same
picked None None = refl
picked None (Some x) = refl
picked (Some v) None = refl
picked (Some v) (Some x) = by_eq x v (λ h. rw (eq-eqb _ _ h) (ap Some h)) (λ h. rw (ne_eqb _ _ h))

-- "leave exactly the wanted settings"
pub group_leads : (s w : List Cell) → rising s ≡ true → rising w ≡ true → all is_valve w ≡ true → assign_all s (group_for s w) ≡ w
unfolding rising group_for
group_leads s w r q a =
    same_list (assign_all s (group_for s w)) w 0 0 (all_rising s (group_for s w) r) q
    (λ k.
    lookup_all s (group_for s w) k r
    ∙ told_append k (removals_for s w) (settings_for s w) (lookup k s)
    ∙ ap (told k (settings_for s w)) (told_removals s w k 0 (lookup k s) r)
    ∙ told_settings s w k 0 (left s w k (lookup k s)) q a
    ∙ picked (lookup k w) (lookup k s))
