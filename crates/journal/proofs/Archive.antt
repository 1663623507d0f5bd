-- The archive of the code: what it reads by the answers of the calls is what the definitions read, so that its filings along a run are filings along the list
-- of that run.
use mathlib.Core.Path.{◌≡◌, refl, sym, ap, ap₂, subst, ◌∙◌}
use mathlib.Core.Logic.{◌⊎◌}
use mathlib.Core.Bool.{true}
use Rattle.std.proofs.Common.{Option, None, Some}
use mathlib.Core.List.{List, [], ◌∷◌, ◌++◌}
use Prim.Native.Nat.{ℕ, ◌≤◌, ◌<◌}
use native.Mathlib.Omega.{arith}
use lib.ListN.{length, get_or, drop, get_or-append}
use lib.Seq.{ext_get_or}
use Rattle.lists.specs.declared.Cell.{Cell}
use Rattle.lists.specs.Lists.{every}
use Rattle.lists.specs.Needs.{Answer, refused, gives, and_then, under}
use Rattle.lists.specs.Cells.{cell, Entry, Setting, pairs, keys_of, words_of, listed}
use Rattle.lists.proofs.Laws.{by_cases, true_false, tests, length_pairs, get_pairs, length_keys, length_words, key_at_lem, word_at_lem, gave_number}
use Rattle.codec.specs.Codec.{put_at}
use Rattle.page.specs.Pages.{changes_of}
use Rattle.flash.specs.Medium.{views}
use Rattle.nodes.specs.Nodes.{words}
use Rattle.state.specs.State.{Held, meaning}
use Rattle.recovery.specs.Recovery.{Recovery, recovery_with, recover_needs, recover as recover_of}
use Rattle.recover.specs.declared.Recovered.{Recovered}
use Rattle.recover.specs.Recovers.{Recovers}
use Rattle.readings.specs.Readings.{long_enough, put_into, filed_into, numbers_from, filed_log, read_log, filed_settings}
use Rattle.filing.specs.declared.Counted.{Counted}
use Rattle.filing.specs.Filed.{Left, left_by, leaving, ListsSettings}
use Rattle.log_reader.specs.declared.LogPlace.{LogPlace}
use Rattle.log_reader.specs.declared.ReadChange.{ReadChange}
use Rattle.log_reader.specs.Reader.{AskedInTurn, GivesLog, stopped, given, none_left}
use Rattle.log_reader.proofs.FirstToLast.{reads_log}
use Rattle.log_reader.proofs.Form.{answers as asked}
use Rattle.news.specs.declared.News.{News}
use Rattle.news.specs.declared.Mark.{Mark}
use Rattle.news.specs.News.{mark, no_mark, refused_news, news_after, news_of}
use Rattle.valve_log.specs.History.{History, start as no_history, Told, began_commit, tell}
use Rattle.valve_log.specs.Reached.{World, lent_anew, step_due, Event, happen, finishes, Reached, Shows, Point3}
use Rattle.valve_log.specs.Reached as reached
use Rattle.valve_log.specs.Made.{groups_counting, groups_made}
use Rattle.valve_log.proofs.Point3.{point3, words_are}
use Rattle.fading.specs.Fading.{Faded, RefusedWith4To6}
use Rattle.fading.proofs.Same.{recovers, recover_cases}
use Rattle.fading.proofs.Fading.{refused_with_4_to_6}
use Rattle.archive.specs.Archive.{Reading, reading_with, reading_by, read, Archive, nothing_filed, file, Filings, FiledInOrder, FiledOnce, NewsRight, CheckPasses}
use Rattle.archive.specs.Archive as archive
use Rattle.archive.specs.Faded.{FadedFilings, FirstPart, FadedFirstPart, FadedRefusedWith}
use Rattle.archive.specs.Faded as faded
use Rattle.archive.proofs.Once.{filed_once, check_passes}
use Rattle.archive.proofs.Faded.{faded_first_part, faded_refused_with}
use Rattle.journal.specs.Run.{Machine, meant, world_of, Moves, told_by, starting_on, Run, Handed, Point3OfCode}
use Rattle.journal.specs.Fading.{TurnedBack, TurnedBackOrHanded, refuses, hands, FadesOfCode, groups_made_by}
use Rattle.journal.specs.Archive.{changes_given, asked_to_the_end, LogReadBy, in_lists, change_by_change, ReadBy, answers, FilingsRun, start, taken_over, move, reading, filing}
use Rattle.journal.specs.Archive.{FiledOnceOfCode, CheckPassesOfCode, FadedFilingsRun, begun, FadedFilingOfCode}
use Rattle.journal.specs.Archive as code
use Rattle.journal.proofs.Chain.{moves, answers_told, answers_finished, formatting, runs, found_state, point3_of_code}
use Rattle.journal.proofs.Fading.{fades_of_code}

-- ---- what stands in lent lists

-- numbers put into a list from its first place on
put_at_lem : (l bs : List ℕ) (i : ℕ) → i < length bs → get_or (put_at l 0 bs) i 0 ≡ get_or bs i 0
unfolding put_at
put_at_lem l bs i h = get_or-append bs _ 0 i h

-- cells put into two lists are read back
cells_back : (ks ws : List ℕ) (es : List Cell) → pairs (length es) (put_at ks 0 (keys_of es)) (put_at ws 0 (words_of es)) ≡ es
cells_back ks ws es =
    ext_get_or (cell 0 0) _ es (length_pairs (length es) (put_at ks 0 (keys_of es)) (put_at ws 0 (words_of es)))
    (λ i h.
    let l : i < length es = omega (arith, h, length_pairs (length es) (put_at ks 0 (keys_of es)) (put_at ws 0 (words_of es))) in
    get_pairs (length es) (put_at ks 0 (keys_of es)) (put_at ws 0 (words_of es)) i l
    ∙ ap₂ cell (put_at_lem ks (keys_of es) i (omega (arith, l, length_keys es)) ∙ key_at_lem es i) (put_at_lem ws (words_of es) i (omega (arith, l, length_words es)) ∙ word_at_lem es i))

module _ (c : Counted) (ks ws ks' ws' : List ℕ) (rest rest' more : List (List ℕ)) (es : List Cell) where
  -- the lists were long enough
  filed_long : left_by c (ks' ∷ ws' ∷ rest') ≡ leaving (ks ∷ ws ∷ rest) (gives (record { count = length es; lists = put_into (ks ∷ ws ∷ rest) (keys_of es ∷ words_of es ∷ more) }))
      → pairs c.count ks' ws' ≡ es
  unfolding leaving put_into
  filed_long e =
      let n : c.count ≡ length es = ap (λ (x : Left). x.answer.count) e in
      let k : ks' ≡ put_at ks 0 (keys_of es) = ap (λ (x : Left). get_or x.lists 0 []) e in
      let w : ws' ≡ put_at ws 0 (words_of es) = ap (λ (x : Left). get_or x.lists 1 []) e in
      rw (n, k, w) (cells_back ks ws es)

  filed_short : left_by c (ks' ∷ ws' ∷ rest') ≡ leaving (ks ∷ ws ∷ rest) (refused 17) → c.number ≡ 0 → pairs c.count ks' ws' ≡ es
  unfolding leaving
  filed_short e z = let y : c.number ≡ 17 = ap (λ (x : Left). x.answer.number) e in absurd (omega arith)

  filed_back : left_by c (ks' ∷ ws' ∷ rest') ≡ leaving (ks ∷ ws ∷ rest) (filed_into (ks ∷ ws ∷ rest) (length es) (keys_of es ∷ words_of es ∷ more))
      → c.number ≡ 0 → pairs c.count ks' ws' ≡ es
  unfolding filed_into under
  filed_back e z = by_cases (long_enough (ks ∷ ws ∷ rest) (length es)) (λ q. filed_long (rw q at e)) (λ q. filed_short (rw q at e) z)

-- ---- the log reader

none_given : {cs : List ReadChange} → GivesLog [] [] cs → changes_given cs ≡ []
unfolding changes_given
none_given stopped = refl
none_given (none_left n g) = rw n (none_given g)

all_given : {es : List Entry} {ns : List ℕ} {cs : List ReadChange} → GivesLog es ns cs → asked_to_the_end cs ≡ true → changes_given cs ≡ es
unfolding changes_given asked_to_the_end
all_given stopped t = true_false t refl
all_given (given {es = es} f e n g) t = rw f (ap₂ ◌∷◌ e (all_given g (rw f at t)))
all_given (none_left n g) t = rw n (none_given g)

-- ---- a reading

-- of a medium that recovery accepts with this log and state, and that hands the settings of some history
module _ (m : List ℕ) (g : History) (H : Handed m g) (log : List (List Entry)) (s : Held) (accepts : recover_of (length m) (views m) ≡ gives (recovery_with log s)) where
  log_read : (l : List Entry) → LogReadBy m l → l ≡ changes_of log
  unfolding read_log and_then filed_log
  log_read l (in_lists ks ws ns ks' ws' ns' c p f) =
      filed_back c ks ws ks' ws' (ns ∷ []) (ns' ∷ []) (numbers_from 0 log ∷ []) (changes_of log)
      (p ∙ ap (λ (R : Answer Recovery). leaving (ks ∷ ws ∷ ns ∷ []) (and_then R (λ r. filed_log (ks ∷ ws ∷ ns ∷ []) r.log))) accepts) f
  log_read l (change_by_change p cs e a t) = all_given (asked (reads_log m log s accepts) (subst (λ (q : LogPlace). AskedInTurn m q cs) e a)) t

  settings_read : (r : Recovered) → Recovers m r → (valves us valves' us' : List ℕ) (c : Counted) → ListsSettings m r.state valves us c valves' us' → c.number ≡ 0
      → pairs c.count valves' us' ≡ words (views m) s.index
  unfolding filed_settings
  settings_read r p valves us valves' us' c l f =
      filed_back c valves us valves' us' [] [] [] g.settings (H.list r valves us valves' us' c p l) f
      ∙ sym (words_are (views m) (H.settings r p)) ∙ ap (λ (x : Held). words (views m) x.index) (found_state m log s accepts r p)

  read_by_is : (k : Mark) (z : Reading) → ReadBy k m z → read k m ≡ Some z
  unfolding read reading_by
  read_by_is k z (answers n e o l p r q valves us valves' us' c i f) =
      ap (reading_by (news_of k m) (views m)) accepts ∙ rw (← e, o, ← log_read l p, ← settings_read r q valves us valves' us' c i f) refl

-- after a run
module _ (x : Machine) (h : History) (r : Run x h) where
  shows_run : Shows x.medium h
  shows_run = unfold Point3 in point3 (world_of x) h (runs x h r)

  handed_run : Handed x.medium h
  handed_run = unfold Point3OfCode in point3_of_code x h r

  run_read : (k : Mark) (z : Reading) → ReadBy k x.medium z → read k x.medium ≡ Some z
  run_read = read_by_is x.medium h handed_run shows_run.log shows_run.state shows_run.accepts

  run_log : (log : List Entry) → LogReadBy x.medium log → log ≡ changes_of h.log
  run_log log l = log_read x.medium h handed_run shows_run.log shows_run.state shows_run.accepts log l ∙ ap changes_of shows_run.same_log

  -- of a faded medium; one that recovery refuses is not read
  refused_read : {P : Type 0} (k : Mark) (m : List ℕ) (n : ℕ) → Faded x.medium m → recover_of (length m) (views m) ≡ refused n → (z : Reading) → ReadBy k m z → P
  unfolding news_of news_after RefusedWith4To6
  refused_read k m n f e z (answers a q o l p b t valves us valves' us' c i g) =
      let w = refused_with_4_to_6 (world_of x) h (runs x h r) m f n e in
      let d : a ≡ refused_news n = q ∙ ap (news_after k) e in
      let y : n ≡ 0 = sym (ap (λ (u : News). u.number) d) ∙ o in
      absurd (omega (arith, w.0, y))

  accepted_handed : {log : List (List Entry)} {s : Held} {P : Type 0} (k : Mark) (m : List ℕ) → recover_of (length m) (views m) ≡ gives (recovery_with log s) → (n : ℕ) → TurnedBack m n
      → (z : Reading) → ReadBy k m z → P
  unfolding and_then
  accepted_handed {s = s} k m e n T z (answers a q o l p b t valves us valves' us' c i g) =
      let y : b.number ≡ 0 = gave_number b.number (meaning b.state) s (t ∙ ap (λ (R : Answer Recovery). and_then R (λ u. gives u.state)) e) in
      let w = T.number.0 in
      absurd (omega (arith, y, T.recovery b t))

  faded_read : (k : Mark) (m : List ℕ) → Faded x.medium m → (z : Reading) → ReadBy k m z → read k m ≡ Some z
  unfolding FadesOfCode
  faded_read k m f z R = recover_cases (length m) (views m) (λ n e. refused_read k m n f e z R) (λ e. found e (fades_of_code x h r m f))
    where
      found : every (tests (recover_needs (length m) (views m))) ≡ true → TurnedBackOrHanded r m → read k m ≡ Some z
      found e (hands t H) = read_by_is m t.history H.handed _ _ (recovers (length m) (views m) e) k z R
      found e (refuses n T) = accepted_handed k m (recovers (length m) (views m) e) n T z R

-- ---- filings along a run are filings along its list

record OnList (w : World) (h : History) (made : List (List Entry)) (a : Archive) (since : List (List Entry)) (p : Option Reading) (later : List (List Entry)) : Type 0 where
  pub list : Reached w h
  pub made_is : groups_made list ≡ made
  pub filings : Filings w h list a since p later

list_start : (w w' : World) → w' ≡ (happen w Event.step).after → (F : reached.Formatting w) → finishes (step_due w) ≡ true → OnList (lent_anew w') no_history [] nothing_filed [] None []
unfolding groups_made
list_start w w' i F e = rw i (record { list = Reached.start w F e; made_is = refl; filings = archive.start F e })

list_next : {a : Archive} {since : List (List Entry)} {p : Option Reading} {later made : List (List Entry)} (w : World) (h : History) (e : Event w) (w' : World) (t : Told)
    → w' ≡ (happen w e).after → t ≡ (happen w e).told → OnList w h made a since p later → (t ≡ began_commit → since ≡ [])
    → OnList w' (tell h t) (made ++ groups_counting h t) a (since ++ groups_counting h t) p (later ++ groups_counting h t)
unfolding groups_made
list_next w h e w' t i j L rule =
    let rule' : (happen w e).told ≡ began_commit → _ ≡ [] = λ q. rule (j ∙ q) in
    rw (i, j)
    (record { list = Reached.next w h e L.list; made_is = ap (λ (l : List (List Entry)). l ++ groups_counting h (happen w e).told) L.made_is; filings = archive.event e L.filings rule' })

on_list : (x : Machine) (h : History) (r : Run x h) (a : Archive) (since : List (List Entry)) (p : Option Reading) (later : List (List Entry))
    → FilingsRun x h r a since p later → OnList (world_of x) h (groups_made_by r) a since p later
unfolding groups_made_by groups_made
on_list x h r a since p later (start {x = z} {y = y} f v last) =
    list_start (world_of z) (world_of y) (moves z y Event.step v) (formatting z f) (sym (answers_finished z y v) ∙ last)
on_list x h r a since p later (taken_over {w = w} {h = g} b before {z = z} m R) =
    unfold meant in
    record { list = Reached.taken_over b; made_is = refl; filings = archive.taken_over b before m (run_read (starting_on w) g (Run.taken_over b) no_mark z R) }
on_list x h r a since p later (move {x = y} {h = g} {r = q} {since = s} {later = l} {e = e} v C rule) =
    list_next (world_of y) g e (world_of x) (told_by y x e v) (moves y x e v) (answers_told y x e v) (on_list y g q a s p l C) rule
on_list x h r a since p later (reading {later = l} {p = q} {z = z} C R) =
    let L = on_list x h r a since q l C in
    record { list = L.list; made_is = L.made_is; filings = rw (run_read x h r a.mark z R) at (archive.reading L.filings) }
on_list x h r a since p later (filing {a = old} {since = s} {z = z} C) =
    let L = on_list x h r old s (Some z) since C in
    record { list = L.list; made_is = L.made_is; filings = archive.filing L.filings }

pub filed_once_of_code : FiledOnceOfCode
unfolding FiledOnceOfCode FiledOnce
filed_once_of_code x h r a since later p C =
    let L = on_list x h r a since p later C in
    subst (λ (made : List (List Entry)). FiledInOrder made a since) L.made_is (filed_once (world_of x) h L.list a since later p L.filings)

pub check_passes_of_code : CheckPassesOfCode
unfolding CheckPassesOfCode CheckPasses
check_passes_of_code x h r a since later p C n e log l =
    let L = on_list x h r a since p later C in
    rw (e, run_log x h r log l) (check_passes (world_of x) h L.list a since later p L.filings)

-- ---- faded media

record FadedOnList (w : World) (h : History) (made : List (List Entry)) (a : Archive) : Type 0 where
  pub list : Reached w h
  pub made_is : groups_made list ≡ made
  pub filings : FadedFilings list a

faded_on_list : (x : Machine) (h : History) (r : Run x h) (a : Archive) → FadedFilingsRun r a → FadedOnList (world_of x) h (groups_made_by r) a
faded_on_list x h r a (begun {since = since} {later = later} {p = p} C) =
    let L = on_list x h r a since p later C in
    record { list = L.list; made_is = L.made_is; filings = faded.begun L.filings }
faded_on_list x h r a (code.FadedFilingsRun.filing {a = old} {z = z} m F f R) =
    let L = faded_on_list x h r old F in
    record { list = L.list; made_is = L.made_is; filings = faded.filing m L.filings f (faded_read x h r old.mark m f z R) }

pub faded_filing_of_code : FadedFilingOfCode
unfolding FadedFilingOfCode FadedFirstPart FadedRefusedWith
faded_filing_of_code x h r a F =
    let L = faded_on_list x h r a F in
    record {
      first = subst (λ (made : List (List Entry)). FirstPart made a) L.made_is (faded_first_part (world_of x) h L.list a L.filings);
      refusals = λ m f n e. rw e (faded_refused_with (world_of x) h L.list a L.filings m f);
    }
