-- The index and the settings: counting set valves depends on the keys alone, setting and removing keep an index tidy and its words in step
-- with the settings, and moving a node leaves the settings as they are.
use mathlib.Core.Path.{◌≡◌, refl, ap, ◌∙◌}
use mathlib.Core.Bool.{Bool, true}
use Rattle.std.proofs.Common.{Some}
use mathlib.Core.List.{List, [], ◌∷◌, ◌++◌}
use Prim.Native.Nat.{ℕ, suc, ◌-◌, ◌*◌, ◌≤◌}
use native.Mathlib.Omega.{arith}
use lib.ListN.{length}
use lib.Dec.{leb, ltb, eqb}
use borrow.Author.Tests.{leb-true}
use Rattle.lists.specs.declared.Cell.{Cell}
use Rattle.lists.specs.Lists.{all, keep, is_some, value_or}
use Rattle.lists.specs.Cells.{cell, keys_of}
use Rattle.lists.proofs.Laws.{by_cases, and_l, and_r, all_head, all_tail, all_cons, opposite}
use Rattle.page.specs.Pages.{View}
use Rattle.index.specs.Index.{put, remove, rising, assign, assign_all, most_valves, within}
use Rattle.index.proofs.Rising.{assign_rising}
use Rattle.index.proofs.Members.{In, first, later, in_none, assign_same, members_within}
use Rattle.nodes.specs.Nodes.{word_at, sound, words, in_block, insert_by_address, by_address, live}
use Rattle.nodes.proofs.Alive.{all_words}
use Rattle.recovery.specs.Recovery.{Placed, entries_of}

-- ---- valves and nodes

-- each key is a valve: none removes one
unfoldable pub valves : List Cell → Bool
valves l = all (λ x. ltb x.key 32768) l

-- entries at address a and on, each as the place of the index that it makes; and those of whole pages in order
unfoldable pub nodes : ℕ → List Cell → List Cell
nodes a [] = []
nodes a (e ∷ es) = cell e.key a ∷ nodes (suc a) es

unfoldable pub nodes_of : List Placed → List Cell
nodes_of [] = []
nodes_of (x ∷ xs) = nodes (24 * x.at) x.page.entries ++ nodes_of xs

-- the two tests of a cell
abbrev is_valve : Cell → Bool
is_valve x = ltb x.key 32768

abbrev has_word : List View → Cell → Bool
has_word v x = is_some (word_at v x)

-- ---- the keys of nodes are those of their entries

pub keys_append : (a b : List Cell) → keys_of (a ++ b) ≡ keys_of a ++ keys_of b
unfolding keys_of
keys_append [] b = refl
keys_append (x ∷ a) b = rw (keys_append a b)

pub keys_nodes : (a : ℕ) (es : List Cell) → keys_of (nodes a es) ≡ keys_of es
unfolding keys_of nodes
keys_nodes a [] = refl
keys_nodes a (e ∷ es) = rw (keys_nodes (suc a) es)

pub keys_group : (g : List Placed) → keys_of (nodes_of g) ≡ keys_of (entries_of g)
unfolding nodes_of entries_of
keys_group [] = refl
keys_group (x ∷ g) = rw (keys_append (nodes (24 * x.at) x.page.entries) (nodes_of g), keys_append x.page.entries (entries_of g), keys_nodes, keys_group g)

pub valves_words : (v : List View) (l : List Cell) → valves (words v l) ≡ valves l
unfolding valves
valves_words v l = all_words (λ k. ltb k 32768) v l

-- ---- the words of an index in two media that agree on its nodes

-- on each node of which f holds
pub words_outside : (v v' : List View) (f : Cell → Bool) (l : List Cell) → all f l ≡ true → ((x : Cell) → f x ≡ true → word_at v' x ≡ word_at v x) → words v' l ≡ words v l
unfolding words
words_outside v v' f [] s k = refl
words_outside v v' f (x ∷ l) s k = rw (k x (all_head f x l s), words_outside v v' f l (all_tail f x l s) k)

pub sound_outside : (v v' : List View) (f : Cell → Bool) (l : List Cell) → all f l ≡ true → ((x : Cell) → f x ≡ true → word_at v' x ≡ word_at v x) → sound v' l ≡ sound v l
unfolding sound all
sound_outside v v' f [] s k = refl
sound_outside v v' f (x ∷ l) s k = rw (k x (all_head f x l s), sound_outside v v' f l (all_tail f x l s) k)

-- on each node that has a word
pub words_keep : (v v' : List View) (l : List Cell) → ((x : Cell) → is_some (word_at v x) ≡ true → word_at v' x ≡ word_at v x) → sound v l ≡ true → words v' l ≡ words v l
unfolding sound
words_keep v v' l k s = words_outside v v' (has_word v) l s k

pub sound_keep : (v v' : List View) (l : List Cell) → ((x : Cell) → is_some (word_at v x) ≡ true → word_at v' x ≡ word_at v x) → sound v l ≡ true → sound v' l ≡ true
sound_keep v v' l k s = sound_outside v v' (has_word v) l (unfold sound in s) k ∙ s

-- ---- setting and removing, in the index and in the settings

pub words_put : (v : List View) (k a : ℕ) (l : List Cell) → words v (put k a l) ≡ put k (value_or 0 (word_at v (cell k a))) (words v l)
unfolding words put
words_put v k a [] = refl
words_put v k a (x ∷ l) = by_cases (ltb k x.key) (λ e. rw e) (λ e. by_cases (eqb k x.key) (λ f. rw (e, f)) (λ f. rw (e, f, words_put v k a l)))

pub words_remove : (v : List View) (k : ℕ) (l : List Cell) → words v (remove k l) ≡ remove k (words v l)
unfolding words remove
words_remove v k [] = refl
words_remove v k (x ∷ l) = by_cases (ltb k x.key) (λ e. rw e) (λ e. by_cases (eqb k x.key) (λ f. rw (e, f)) (λ f. rw (e, f, words_remove v k l)))

pub all_put : (g : Cell → Bool) (k a : ℕ) (l : List Cell) → g (cell k a) ≡ true → all g l ≡ true → all g (put k a l) ≡ true
unfolding put
all_put g k a [] p q = all_cons g (cell k a) [] p q
all_put g k a (x ∷ l) p q =
    by_cases (ltb k x.key) (λ e. rw e (all_cons g (cell k a) (x ∷ l) p q))
    (λ e. by_cases (eqb k x.key) (λ f. rw (e, f) (all_cons g (cell k a) l p (all_tail g x l q)))
    (λ f. rw (e, f) (all_cons g x (put k a l) (all_head g x l q) (all_put g k a l p (all_tail g x l q)))))

pub all_remove : (g : Cell → Bool) (k : ℕ) (l : List Cell) → all g l ≡ true → all g (remove k l) ≡ true
unfolding remove
all_remove g k [] q = q
all_remove g k (x ∷ l) q =
    by_cases (ltb k x.key) (λ e. rw e q)
    (λ e. by_cases (eqb k x.key) (λ f. rw (e, f) (all_tail g x l q))
    (λ f. rw (e, f) (all_cons g x (remove k l) (all_head g x l q) (all_remove g k l (all_tail g x l q)))))

all_assign : (g : Cell → Bool) (l : List Cell) (e : Cell) → (is_valve e ≡ true → g e ≡ true) → all g l ≡ true → all g (assign l e) ≡ true
unfolding assign
all_assign g l e p q = by_cases (is_valve e) (λ f. rw f (all_put g e.key e.val l (p f) q)) (λ f. rw f (all_remove g (e.key - 32768) l q))

-- one entry e whose node is at address a
pub words_assign : (v : List View) (e : Cell) (a : ℕ) (l : List Cell) → word_at v (cell e.key a) ≡ Some e.val → words v (assign l (cell e.key a)) ≡ assign (words v l) e
unfolding assign
words_assign v e a l w =
    by_cases (is_valve e) (λ f. rw f (rw words_put (rw w (unfold value_or in refl)))) (λ f. rw f (words_remove v (e.key - 32768) l))

pub sound_assign : (v : List View) (e : Cell) (a : ℕ) (l : List Cell) → word_at v (cell e.key a) ≡ Some e.val → sound v l ≡ true → sound v (assign l (cell e.key a)) ≡ true
unfolding sound
sound_assign v e a l w s = all_assign (has_word v) l (cell e.key a) (λ f. rw w (unfold is_some in refl)) s

-- ---- moved nodes

pub in_words : (v : List View) {x : Cell} {l : List Cell} → In x l → In (cell x.key (value_or 0 (word_at v x))) (words v l)
unfolding words
in_words v first = first
in_words v (later i) = later (in_words v i)

-- moving a list of nodes, each with its own word
pub move_same : (v : List View) (s moves : List Cell) → rising s ≡ true → ((x : Cell) → In x moves → In (cell x.key (value_or 0 (word_at v x))) s)
    → valves moves ≡ true → assign_all s (words v moves) ≡ s
unfolding words assign_all valves
move_same v s [] r h b = refl
move_same v s (x ∷ moves) r h b =
    ap (λ (t : List Cell). assign_all t (words v moves)) (assign_same r (h x first) (all_head is_valve x moves b))
    ∙ move_same v s moves r (λ y i. h y (later i)) (all_tail is_valve x moves b)

words_in : (v : List View) (s l : List Cell) {y : Cell} → ((x : Cell) → In x l → In (cell x.key (value_or 0 (word_at v x))) s) → In y (words v l) → In y s
unfolding words
words_in v s [] h i = in_none i
words_in v s (x ∷ l) h first = h x first
words_in v s (x ∷ l) h (later i) = words_in v s l (λ z j. h z (later j)) i

pub move_within : (v : List View) (s moves : List Cell) → rising s ≡ true → length s ≤ most_valves
    → ((x : Cell) → In x moves → In (cell x.key (value_or 0 (word_at v x))) s) → valves moves ≡ true → within s (words v moves) ≡ true
unfolding valves
move_within v s moves r n h b = members_within s (words v moves) r n (λ y i. words_in v s moves h i) (valves_words v moves ∙ b)

-- ---- a block with no live node

cons_nil : {P : Type 0} {x : Cell} {l : List Cell} → x ∷ l ≡ [] → P
cons_nil e = let z : ◌≡◌ {A = ℕ} 0 1 = cc in absurd (omega arith)

nil_insert : {P : Type 0} (x : Cell) (l : List Cell) → insert_by_address x l ≡ [] → P
unfolding insert_by_address
nil_insert x [] e = cons_nil e
nil_insert x (y ∷ l) e = by_cases (leb x.val y.val) (λ f. cons_nil (rw f at e)) (λ f. cons_nil (rw f at e))

none_live : (f : Cell → Bool) (l : List Cell) → by_address (keep f l) ≡ [] → all (opposite f) l ≡ true
unfolding keep by_address opposite all
none_live f [] e = refl
none_live f (x ∷ l) e =
    by_cases (f x) (λ p. nil_insert x (by_address (keep f l)) (rw p at e)) (λ p. all_cons (opposite f) x l (rw p) (none_live f l (rw p at e)))

pub not_live : (index : List Cell) (b : ℕ) → live index b ≡ [] → all (opposite (in_block b)) index ≡ true
unfolding live
not_live index b e = none_live (in_block b) index e

-- ---- an index that a state may hold

pub record TidyIndex (l : List Cell) : Type 0 where
  pub rise : rising l ≡ true
  pub valve : valves l ≡ true
  pub count : length l ≤ most_valves

assign_valves : (l : List Cell) (e : Cell) → valves l ≡ true → valves (assign l e) ≡ true
unfolding valves
assign_valves l e r = all_assign is_valve l e (λ f. f) r

pub tidy_assign : (l es : List Cell) → within l es ≡ true → TidyIndex l → TidyIndex (assign_all l es)
unfolding assign_all within
tidy_assign l [] w t = t
tidy_assign l (e ∷ es) w t =
    tidy_assign (assign l e) es (and_r (leb (length (assign l e)) most_valves) (within (assign l e) es) w)
    (record {
      rise = assign_rising l e t.rise;
      valve = assign_valves l e t.valve;
      count = leb-true (length (assign l e)) most_valves (and_l (leb (length (assign l e)) most_valves) (within (assign l e) es) w);
    })
