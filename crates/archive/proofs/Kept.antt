-- An archive beside one moment of a list: what it has filed, and what is new to it there, is all that was made by then; and `news` says so.
use mathlib.Core.Path.{◌≡◌, refl, sym, ap, ◌∙◌}
use mathlib.Core.Bool.{true, false, cond}
use Rattle.std.proofs.Common.{Some}
use mathlib.Core.List.{List, [], ◌∷◌, ◌++◌, append-nil, append_assoc}
use Prim.Native.Nat.{ℕ, ◌+◌, ◌≤◌, ◌<◌}
use native.Mathlib.Omega.{arith}
use lib.Dec.{eqb}
use lib.ListN.{length, take, drop, length-append, take-append-drop, drop_of_length-le}
use lib.Seq.{take-length, drop-length, take-append-le, drop-append-le}
use borrow.Author.Tests.{lt-ltb, le-leb, lt-leb, eq-eqb, ne_eqb}
use Rattle.lists.specs.Needs.{gives, under, answer_or}
use Rattle.lists.specs.Cells.{Entry, Setting}
use Rattle.lists.proofs.Laws.{by_cases, by_eq}
use Rattle.page.specs.Pages.{View, changes_of}
use Rattle.page.proofs.More.{changes_append}
use Rattle.flash.specs.Medium.{views}
use Rattle.nodes.specs.Nodes.{words}
use Rattle.recovery.specs.Recovery.{recovery_with, recover as recover_of}
use Rattle.news.specs.declared.News.{News}
use Rattle.news.specs.declared.Mark.{Mark}
use Rattle.news.specs.News.{mark, no_mark, mark_of, comes_after, first_new, refused_news, news_from, compared, news_after, news_of}
use Rattle.valve_log.specs.History.{History, Told, tell}
use Rattle.valve_log.specs.Reached.{Shows}
use Rattle.valve_log.specs.SinceCommit.{commit_counts}
use Rattle.valve_log.specs.Base.{Rises}
use Rattle.valve_log.specs.Made.{groups_counting}
use Rattle.valve_log.proofs.Made.{tell_joins, tell_empties}
use Rattle.valve_log.proofs.Point3.{words_are}
use Rattle.archive.specs.Archive.{Reading, reading_with, reading_by, read, Archive, archive, file, EndsWith, NewsRight}

-- ---- what is new, by the base and the log

unfoldable pub new_at : Mark → ℕ → List Entry → List Entry
new_at k b l = cond (eqb b k.base) (drop k.count l) l

module _ (k : Mark) (b : ℕ) (l : List Entry) where
  pub new_equal : b ≡ k.base → new_at k b l ≡ drop k.count l
  unfolding new_at
  new_equal e = rw (eq-eqb b k.base e)

  pub new_other : (b ≡ k.base → ⊥) → new_at k b l ≡ l
  unfolding new_at
  new_other n = rw (ne_eqb b k.base n)

-- no change, and nothing new, of an empty log
pub no_changes : changes_of [] ≡ []
unfolding changes_of
no_changes = refl

pub new_none : (k : Mark) (b : ℕ) → new_at k b (changes_of []) ≡ []
new_none k b =
    by_eq b k.base (λ e. new_equal k b (changes_of []) e ∙ ap (drop k.count) no_changes ∙ drop_of_length-le [] {i = k.count} (omega arith))
    (λ n. new_other k b (changes_of []) n ∙ no_changes)

-- ---- the archive beside a moment: base b, next serial s, log, and all that was made

pub record Kept (a : Archive) (b s : ℕ) (log made : List (List Entry)) : Type 0 where
  pub once : a.filed ++ new_at a.mark b (changes_of log) ≡ changes_of made
  pub low : a.mark.base ≤ b
  pub enough : b ≡ a.mark.base → a.mark.count ≤ length (changes_of log)
  pub late : (b ≡ a.mark.base → ⊥) → a.mark.serial ≤ b + 7
  pub next : a.mark.serial ≤ s

pub kept_same : {a : Archive} {b b' s s' : ℕ} {log log' made made' : List (List Entry)} → b ≡ b' → s ≡ s' → log ≡ log' → made ≡ made' → Kept a b s log made → Kept a b' s' log' made'
kept_same i j k l K = rw (← i, ← j, ← k, ← l) K

-- where the mark says that nothing is filed, all of the log is new
new_all : (b : ℕ) (l : List Entry) → new_at no_mark b l ≡ l
new_all b l = by_eq b 0 (λ e. new_equal no_mark b l e) (λ n. new_other no_mark b l n)

pub unmarked_kept : (filed : List Entry) (settings : List Setting) (b s : ℕ) (log made : List (List Entry)) → filed ++ changes_of log ≡ changes_of made
    → Kept (archive filed settings no_mark) b s log made
unmarked_kept filed settings b s log made e =
    record { once = ap (◌++◌ filed) (new_all b (changes_of log)) ∙ e; low = omega arith; enough = λ e. omega arith; late = λ n. omega arith; next = omega arith }

module _ {a : Archive} {b s : ℕ} {log made : List (List Entry)} (K : Kept a b s log made) (s' : ℕ) (rises : s ≤ s') where
  -- groups count
  module _ (gs : List (List Entry)) where
    pub new_joined : new_at a.mark b (changes_of (log ++ gs)) ≡ new_at a.mark b (changes_of log) ++ changes_of gs
    new_joined =
        by_eq b a.mark.base
        (λ e. new_equal a.mark b (changes_of (log ++ gs)) e ∙ ap (drop a.mark.count) (changes_append log gs)
        ∙ drop-append-le a.mark.count (changes_of log) (changes_of gs) (K.enough e) ∙ ap (λ (l : List Entry). l ++ changes_of gs) (sym (new_equal a.mark b (changes_of log) e)))
        (λ n. new_other a.mark b (changes_of (log ++ gs)) n ∙ changes_append log gs ∙ ap (λ (l : List Entry). l ++ changes_of gs) (sym (new_other a.mark b (changes_of log) n)))

    joined_kept : Kept a b s' (log ++ gs) (made ++ gs)
    joined_kept =
        record {
          once =
              ap (◌++◌ a.filed) new_joined ∙ sym (append_assoc a.filed (new_at a.mark b (changes_of log)) (changes_of gs))
              ∙ ap (λ (l : List Entry). l ++ changes_of gs) K.once ∙ sym (changes_append made gs);
          low = K.low;
          enough = λ e. omega (arith, K.enough e, ap length (changes_append log gs), length-append (changes_of log) (changes_of gs));
          late = K.late;
          next = omega (arith, K.next, rises);
        }

  -- a commit counts
  committed_kept : (b' : ℕ) → b < b' → s ≤ b' + 7 → new_at a.mark b (changes_of log) ≡ [] → Kept a b' s' [] (made ++ [])
  committed_kept b' l late z =
      record {
        once = ap (◌++◌ a.filed) (new_none a.mark b' ∙ sym z) ∙ K.once ∙ ap changes_of (sym (append-nil made));
        low = omega (arith, K.low, l);
        enough = λ e. absurd (omega (arith, K.low, l, e));
        late = λ n. omega (arith, K.next, late);
        next = omega (arith, K.next, rises);
      }

-- ---- nothing more

pub nothing_more : {A : Type 0} (a b : List A) → a ≡ a ++ b → b ≡ []
nothing_more a [] e = refl
nothing_more a (x ∷ b) e = absurd (omega (arith, ap length e, length-append a (x ∷ b)))

pub none_after : {A : Type 0} (a b : List A) → a ++ b ≡ [] → b ≡ []
none_after [] b e = e
none_after (x ∷ a) b e = absurd (omega (arith, ap length e))

-- ---- one event

module _ (h : History) {a : Archive} {b s : ℕ} {made : List (List Entry)} (K : Kept a b s h.log made) (t : Told) (b' s' : ℕ) (R : Rises (commit_counts h t) b s b')
    (rises : s ≤ s') where
  pub kept_told : (commit_counts h t ≡ true → new_at a.mark b (changes_of h.log) ≡ []) → Kept a b' s' (tell h t).log (made ++ groups_counting h t)
  kept_told rule =
      by_cases (commit_counts h t)
      (λ c. let E = tell_empties h t c in rw (E.empty, E.none) (committed_kept K s' rises b' (R.greater c) (R.late c) (rule c)))
      (λ c. rw (R.same c, tell_joins h t c) (joined_kept K s' rises (groups_counting h t)))

  pub new_told : (since : List (List Entry)) → new_at a.mark b (changes_of h.log) ≡ changes_of since → (commit_counts h t ≡ true → since ≡ [])
      → new_at a.mark b' (changes_of (tell h t).log) ≡ changes_of (since ++ groups_counting h t)
  new_told since n rule =
      by_cases (commit_counts h t)
      (λ c. let E = tell_empties h t c in rw (E.empty, E.none, rule c) (new_none a.mark b' ∙ sym no_changes))
      (λ c. rw (R.same c, tell_joins h t c)
      (new_joined K s' rises (groups_counting h t) ∙ ap (λ (l : List Entry). l ++ changes_of (groups_counting h t)) n ∙ sym (changes_append since (groups_counting h t))))

-- where the archive still is right after a commit counted, nothing was new to it before
pub committed_none : (h : History) {a : Archive} {b s b' s' : ℕ} {made : List (List Entry)} (t : Told) → commit_counts h t ≡ true → Kept a b s h.log made
    → Kept a b' s' (tell h t).log (made ++ groups_counting h t) → new_at a.mark b (changes_of h.log) ≡ []
committed_none h {a} {b} {b' = b'} {made = made} t c K L =
    let E = tell_empties h t c in
    let z : new_at a.mark b' (changes_of (tell h t).log) ≡ [] = rw E.empty (new_none a.mark b') in
    let f : a.filed ≡ changes_of made =
    sym (append-nil a.filed) ∙ ap (◌++◌ a.filed) (sym z) ∙ L.once ∙ ap (λ (g : List (List Entry)). changes_of (made ++ g)) E.none ∙ ap changes_of (append-nil made) in
    nothing_more a.filed (new_at a.mark b (changes_of h.log)) (f ∙ sym K.once)

-- ---- a reading filed

abbrev pub seen_at : Archive → ℕ → ℕ → History → Reading
seen_at a b s h = reading_with (new_at a.mark b (changes_of h.log)) h.settings (mark b s (length (changes_of h.log)))

module _ (a : Archive) (b s : ℕ) (h : History) where
  pub new_filed : new_at (mark b s (length (changes_of h.log))) b (changes_of h.log) ≡ []
  new_filed = new_equal (mark b s (length (changes_of h.log))) b (changes_of h.log) refl ∙ drop-length (changes_of h.log)

  pub filed_kept : {made : List (List Entry)} → Kept a b s h.log made → Kept (file a (seen_at a b s h)) b s h.log made
  unfolding file
  filed_kept K =
      record {
        once = ap (◌++◌ (a.filed ++ new_at a.mark b (changes_of h.log))) new_filed ∙ append-nil (a.filed ++ new_at a.mark b (changes_of h.log)) ∙ K.once;
        low = omega arith;
        enough = λ e. omega arith;
        late = λ n. absurd (n refl);
        next = omega arith;
      }

-- where nothing is new to an archive, nothing is once a reading made before is filed
pub nothing_later : {a : Archive} {b s : ℕ} {log made : List (List Entry)} (x : Reading) → Kept a b s log made → Kept (file a x) b s log made
    → new_at a.mark b (changes_of log) ≡ [] → new_at (file a x).mark b (changes_of log) ≡ []
nothing_later {a} {b} {s} {log} {made} x K L e =
    let n = new_at (file a x).mark b (changes_of log) in
    let f : (file a x).filed ≡ a.filed ++ x.new = unfold file in refl in
    let z : a.filed ≡ a.filed ++ (x.new ++ n) =
    sym (append-nil a.filed) ∙ ap (◌++◌ a.filed) (sym e) ∙ K.once ∙ sym L.once ∙ ap (λ (l : List Entry). l ++ n) f ∙ append_assoc a.filed x.new n in
    none_after x.new n (nothing_more a.filed (x.new ++ n) z)

-- ---- the call

module _ (filed found : Mark) where
  accepted_after : filed.serial ≤ found.serial → filed.base ≤ found.base → (found.base ≡ filed.base → filed.count ≤ found.count)
      → ((found.base ≡ filed.base → ⊥) → filed.serial ≤ found.base + 7) → compared filed found ≡ news_from (first_new filed found) found
  unfolding compared under answer_or comes_after
  accepted_after s l n k =
      by_eq found.base filed.base
      (λ e. rw (le-leb filed.serial found.serial s, eq-eqb found.base filed.base e, le-leb filed.count found.count (n e)))
      (λ e.
      let g : filed.base < found.base = omega arith in
      rw (le-leb filed.serial found.serial s, ne_eqb found.base filed.base e, lt-ltb filed.base found.base g, le-leb filed.serial (found.base + 7) (k e)))

  pub refused_earlier : found.serial < filed.serial → compared filed found ≡ refused_news 28
  unfolding compared under answer_or
  refused_earlier l = rw (lt-leb filed.serial found.serial l)

first_new_lem : (k : Mark) (b s n : ℕ) (l : List Entry) → drop (first_new k (mark b s n)) l ≡ new_at k b l
unfolding first_new new_at
first_new_lem k b s n l = by_cases (eqb b k.base) (λ e. rw e refl) (λ e. rw e refl)

same_front : {A : Type 0} (a b c : List A) → a ++ c ≡ b ++ c → a ≡ b
same_front a b c e =
    let n : length a ≡ length b = omega (arith, ap length e, length-append a c, length-append b c) in
    let i : a ≡ take (length a) (a ++ c) = sym (take-append-le (length a) a c (omega arith) ∙ take-length a) in
    let j : take (length b) (b ++ c) ≡ b = take-append-le (length b) b c (omega arith) ∙ take-length b in
    i ∙ ap (take (length a)) e ∙ ap (λ (k : ℕ). take k (b ++ c)) n ∙ j

front_of : (a : Archive) (b s n : ℕ) (l before : List Entry) → a.filed ++ new_at a.mark b l ≡ before ++ l → EndsWith a.filed (take (first_new a.mark (mark b s n)) l)
unfolding first_new new_at
front_of a b s n l before e =
    by_cases (eqb b a.mark.base)
    (λ q.
    let z : a.filed ++ drop a.mark.count l ≡ before ++ l = rw q at e in
    rw q
    (record {
      before = before;
      is =
          same_front a.filed (before ++ take a.mark.count l) (drop a.mark.count l)
          (z ∙ ap (◌++◌ before) (sym (take-append-drop a.mark.count l)) ∙ sym (append_assoc before (take a.mark.count l) (drop a.mark.count l)));
    }))
    (λ q. rw q (record { before = a.filed; is = sym (append-nil a.filed) }))

-- of a medium that shows a history beside which the archive is right
module _ (m : List ℕ) (h : History) (S : Shows m h) (b s : ℕ) (bases : S.state.head.base ≡ b) (serials : S.state.head.serial ≡ s) (a : Archive) where
  abbrev mark_now : Mark
  mark_now = mark b s (length (changes_of h.log))

  mark_now_lem : mark_of (recovery_with S.log S.state) ≡ mark_now
  unfolding mark_of
  mark_now_lem = rw (bases, serials, S.same_log)

  pub news_now : news_of a.mark m ≡ compared a.mark mark_now
  unfolding news_of news_after
  news_now = rw S.accepts (ap (compared a.mark) mark_now_lem)

  module _ {made : List (List Entry)} (K : Kept a b s h.log made) where
    pub news_accepted : news_of a.mark m ≡ news_from (first_new a.mark mark_now) mark_now
    news_accepted = news_now ∙ accepted_after a.mark mark_now K.next K.low K.enough K.late

    read_accepted : (n : News) → n ≡ news_from (first_new a.mark mark_now) mark_now → reading_by n (views m) (gives (recovery_with S.log S.state)) ≡ Some (seen_at a b s h)
    unfolding reading_by
    read_accepted n e =
        rw (e, S.same_log, words_are (views m) S.same_settings, first_new_lem a.mark b s (length (changes_of h.log)) (changes_of h.log)) refl

    pub read_now : read a.mark m ≡ Some (seen_at a b s h)
    unfolding read
    read_now = ap (reading_by (news_of a.mark m) (views m)) S.accepts ∙ read_accepted (news_of a.mark m) news_accepted

    pub news_right : (since before : List (List Entry)) → made ≡ before ++ h.log → new_at a.mark b (changes_of h.log) ≡ changes_of since
        → NewsRight (news_of a.mark m) (changes_of h.log) a since
    news_right since before e new =
        let l = changes_of h.log in
        rw news_accepted
        (record {
          accepted = refl;
          new = first_new_lem a.mark b s (length l) l ∙ new;
          front = front_of a b s (length l) l (changes_of before) (K.once ∙ ap changes_of e ∙ changes_append before h.log);
          count = refl;
        })
