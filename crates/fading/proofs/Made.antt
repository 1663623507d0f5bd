-- What a faded medium shows was made, in that order: it is what the history of a moment shows, whose log is the last of the groups made by then.
use mathlib.Core.Path.{◌≡◌, refl, sym, ap, ap₂, subst, ◌∙◌}
use mathlib.Core.Logic.{◌⊎◌, inl, inr}
use Rattle.std.proofs.Common.{Some}
use mathlib.Core.List.{List, [], ◌∷◌, ◌++◌, append-nil, append_assoc}
use Prim.Native.Nat.{ℕ, zero, suc, ◌-◌}
use lib.Dec.{ltb, eqb}
use Rattle.lists.specs.declared.Cell.{Cell}
use Rattle.lists.specs.Cells.{cell, Entry, Setting}
use Rattle.lists.proofs.Laws.{by_cases}
use Rattle.page.specs.Pages.{View, changes_of}
use Rattle.flash.specs.Medium.{views}
use Rattle.index.specs.Index.{put, remove, assign, assign_all}
use Rattle.nodes.specs.Nodes.{word_at}
use Rattle.valve_log.specs.History.{History, assign_groups}
use Rattle.valve_log.specs.Reached.{World, happen, happened, Before, switched_off, Reached, Words}
use Rattle.valve_log.specs.Made.{groups_counting, groups_made_before, groups_made, Tallied, MadeTallies}
use Rattle.valve_log.proofs.Made.{made_tallies}
use Rattle.fading.specs.Fading.{AtOrBefore, now, earlier, older, NoMixture}
use Rattle.fading.specs.Made.{ShownAsMade, OrderOccurred, StandsIn, first, later, ChangeMade, NoChangeInvented}
use Rattle.fading.proofs.Fading.{no_mixture}

-- ---- the moments of a list, beside what was made

-- what was made up to a moment is the first part of what was made since
pub record MadeSince (then made : List (List Entry)) : Type 0 where
  pub after : List (List Entry)
  pub is : made ≡ then ++ after

pub none_since : (made : List (List Entry)) → MadeSince made made
none_since made = record { after = []; is = sym (append-nil made) }

pub more_since : {then made : List (List Entry)} (new : List (List Entry)) → MadeSince then made → MadeSince then (made ++ new)
more_since {then} new S = record { after = S.after ++ new; is = ap (λ (x : List (List Entry)). x ++ new) S.is ∙ append_assoc then S.after new }

pub made_since : {v : World} {g : History} (q : Reached v g) (w : World) (h : History) (r : Reached w h) → AtOrBefore q w h r → MadeSince (groups_made q) (groups_made r)
unfolding groups_made groups_made_before
made_since q w h r now = none_since (groups_made q)
made_since q w h r (earlier {w = w'} {h = h'} {r = r'} e p) = more_since (groups_counting h' (happen w' e).told) (made_since q w' h' r' p)
made_since q w h r (older {w = w'} {h = h'} {b = b} e p) =
    more_since (groups_counting h' (happened w' e).told) (made_since q (switched_off w') h' (Reached.taken_over b) p)

-- the log of that moment among all that was made since, and its settings
module _ {then made : List (List Entry)} {g : History} (T : Tallied then g) (S : MadeSince then made) where
  pub log_among : made ≡ T.before ++ g.log ++ S.after
  log_among = S.is ∙ ap (λ (x : List (List Entry)). x ++ S.after) T.ends

  pub settings_then : g.settings ≡ assign_groups [] (T.before ++ g.log)
  settings_then = sym T.sets ∙ ap (assign_groups []) T.ends

pub order_occurred : OrderOccurred
unfolding OrderOccurred NoMixture MadeTallies
order_occurred w h r m f log s a =
    let M = no_mixture w h r m f log s a in
    let t = M.moment in
    let T = made_tallies t.world t.history t.reached in
    let S = made_since t.reached w h r t.passed in
    record {
      before = T.before;
      after = S.after;
      order = log_among T S ∙ ap (λ (l : List (List Entry)). T.before ++ l ++ S.after) (sym M.log_then);
      settings =
          subst (λ (x : List Setting). Words (views m) s.index x)
          (settings_then T S ∙ ap (λ (l : List (List Entry)). assign_groups [] (T.before ++ l)) (sym M.log_then)) M.settings_then;
    }

-- ---- change by change

stands_right : {A : Type 0} {x : A} (a b : List A) → StandsIn x b → StandsIn x (a ++ b)
stands_right [] b i = i
stands_right (y ∷ a) b i = later (stands_right a b i)

stands_left : {A : Type 0} {x : A} {a : List A} (b : List A) → StandsIn x a → StandsIn x (a ++ b)
stands_left b first = first
stands_left b (later i) = later (stands_left b i)

stands_either : {A : Type 0} {x : A} (a b : List A) → StandsIn x (a ++ b) → StandsIn x a ⊎ StandsIn x b
stands_either [] b i = inr i
stands_either (y ∷ a) b first = inl first
stands_either {A} {x} (y ∷ a) b (later i) = go (stands_either a b i)
  where
    go : StandsIn x a ⊎ StandsIn x b → StandsIn x (y ∷ a) ⊎ StandsIn x b
    go (inl j) = inl (later j)
    go (inr j) = inr j

here : {g : List Entry} {gs : List (List Entry)} {e : Entry} → StandsIn e g → ChangeMade (g ∷ gs) e
here {g} i = record { group = g; counted = first; change = i }

there : {g : List Entry} {gs : List (List Entry)} {e : Entry} → ChangeMade gs e → ChangeMade (g ∷ gs) e
there c = record { group = c.group; counted = later c.counted; change = c.change }

made_left : {a : List (List Entry)} (b : List (List Entry)) {e : Entry} → ChangeMade a e → ChangeMade (a ++ b) e
made_left b c = record { group = c.group; counted = stands_left b c.counted; change = c.change }

made_right : (a b : List (List Entry)) {e : Entry} → ChangeMade b e → ChangeMade (a ++ b) e
made_right a b c = record { group = c.group; counted = stands_right a b c.counted; change = c.change }

change_made : (gs : List (List Entry)) (e : Entry) → StandsIn e (changes_of gs) → ChangeMade gs e
unfolding changes_of
change_made [] e i = elim i [ ]
change_made (g ∷ gs) e i = go (stands_either g (changes_of gs) i) (λ j. change_made gs e j)
  where
    go : StandsIn e g ⊎ StandsIn e (changes_of gs) → (StandsIn e (changes_of gs) → ChangeMade gs e) → ChangeMade (g ∷ gs) e
    go (inl j) ih = here j
    go (inr j) ih = there (ih j)

-- ---- setting by setting

-- it is the first, or stands after it
stands_cases : {A P : Type 0} {x : A} (y : A) (l : List A) → StandsIn x (y ∷ l) → (x ≡ y → P) → (StandsIn x l → P) → P
stands_cases y l first f g = f refl
stands_cases y l (later i) f g = g i

stands_here : {A : Type 0} (x y : A) (l : List A) → x ≡ y → StandsIn x (y ∷ l)
stands_here x y l e = subst (λ z. StandsIn z (y ∷ l)) (sym e) first

word_stands : (v : List View) (k a w : ℕ) (index settings : List Cell) → Words v index settings → StandsIn (cell k a) index → word_at v (cell k a) ≡ Some w → StandsIn (cell k w) settings
word_stands v k a w index settings Words.end i e = elim i [ ]
word_stands v k a w index settings (Words.more {k = k'} {a = a'} {w = w'} {index = places} {settings = rest} q r) i e =
    stands_cases (cell k' a') places i (λ z. found z) (λ j. later (word_stands v k a w places rest r j e))
  where
    found : cell k a ≡ cell k' a' → StandsIn (cell k w) (cell k' w' ∷ rest)
    found z =
        let p : Some w ≡ Some w' = sym e ∙ ap (word_at v) z ∙ q in
        let s : w ≡ w' = cc in
        let t : k ≡ k' = ap (λ (c : Cell). c.key) z in
        stands_here (cell k w) (cell k' w') rest (ap₂ cell t s)

-- a cell that stands after an entry is the entry's own, or stood before it
put_stands : {P : Type 0} (x : Cell) (k a : ℕ) (l : List Cell) → StandsIn x (put k a l) → (x ≡ cell k a → P) → (StandsIn x l → P) → P
unfolding put
put_stands x k a [] i f g = stands_cases (cell k a) [] i f g
put_stands x k a (y ∷ l) i f g =
    by_cases (ltb k y.key) (λ e. stands_cases (cell k a) (y ∷ l) (rw e at i) f g)
    (λ e. by_cases (eqb k y.key) (λ z. stands_cases (cell k a) l (rw (e, z) at i) f (λ j. g (later j)))
    (λ z. stands_cases y (put k a l) (rw (e, z) at i) (λ q. g (stands_here x y l q)) (λ j. put_stands x k a l j f (λ n. g (later n)))))

remove_stands : (x : Cell) (k : ℕ) (l : List Cell) → StandsIn x (remove k l) → StandsIn x l
unfolding remove
remove_stands x k [] i = i
remove_stands x k (y ∷ l) i =
    by_cases (ltb k y.key) (λ e. rw e at i)
    (λ e. by_cases (eqb k y.key) (λ z. later (rw (e, z) at i))
    (λ z. stands_cases y (remove k l) (rw (e, z) at i) (λ q. stands_here x y l q) (λ j. later (remove_stands x k l j))))

assign_stands : {P : Type 0} (x : Cell) (l : List Cell) (e : Entry) → StandsIn x (assign l e) → (x ≡ e → P) → (StandsIn x l → P) → P
unfolding assign
assign_stands x l e i f g =
    by_cases (ltb e.key 32768) (λ z. put_stands x e.key e.val l (rw z at i) f g) (λ z. g (remove_stands x (e.key - 32768) l (rw z at i)))

all_stands : {P : Type 0} (x : Cell) (l : List Cell) (es : List Entry) → StandsIn x (assign_all l es) → (StandsIn x es → P) → (StandsIn x l → P) → P
unfolding assign_all
all_stands x l [] i f g = g i
all_stands x l (e ∷ es) i f g = all_stands x (assign l e) es i (λ j. f (later j)) (λ j. assign_stands x l e j (λ q. f (stands_here x e es q)) g)

groups_stands : {P : Type 0} (x : Cell) (l : List Cell) (gs : List (List Entry)) → StandsIn x (assign_groups l gs) → (ChangeMade gs x → P) → (StandsIn x l → P) → P
unfolding assign_groups
groups_stands x l [] i f g = g i
groups_stands x l (es ∷ gs) i f g = groups_stands x (assign_all l es) gs i (λ c. f (there c)) (λ j. all_stands x l es j (λ n. f (here n)) g)

pub no_change_invented : NoChangeInvented
unfolding NoChangeInvented OrderOccurred
no_change_invented w h r m f log s a =
    let M = order_occurred w h r m f log s a in
    record {
      changes = λ e i. placed M e (made_left M.after (made_right M.before log (change_made log e i)));
      settings = λ valve address word i q.
          groups_stands (cell valve word) [] (M.before ++ log) (word_stands (views m) valve address word s.index _ M.settings i q)
          (λ c. placed M (cell valve word) (made_left M.after c)) (λ i. elim i [ ]);
    }
  where
    placed : (M : ShownAsMade (groups_made r) m log s) (e : Entry) → ChangeMade (M.before ++ log ++ M.after) e → ChangeMade (groups_made r) e
    placed M e c = subst (λ (l : List (List Entry)). ChangeMade l e) (sym M.order) c
