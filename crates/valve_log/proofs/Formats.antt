-- Where the list starts: formatting, begun on any medium of allowed length and finished by its steps, leaves medium, state and an empty
-- history coupled.
use mathlib.Core.Path.{◌≡◌, refl, sym, ap, subst, ◌∙◌}
use mathlib.Core.Logic.{inl}
use mathlib.Core.Bool.{Bool, true, false, not}
use Rattle.std.proofs.Common.{Option, Some}
use mathlib.Core.List.{List, [], ◌∷◌}
use Prim.Native.Nat.{ℕ, zero, suc, ◌+◌, ◌-◌, ◌*◌, ◌/◌, ◌≤◌, ◌<◌}
use native.Mathlib.Omega.{arith}
use native.Mathlib.Decide.{dec_lt}
use lib.Dec.{ltb}
use lib.ListN.{length, get_or, set, replicate, length-replicate, get_or-replicate}
use borrow.Author.Tests.{ltb-true, ltb-false}
use Rattle.lists.specs.Lists.{all, every, keep, Bytes}
use Rattle.lists.specs.Needs.{Answer, refused, gives, Need, need, under, checked}
use Rattle.lists.proofs.Laws.{by_cases, true_false, every_at, tests, checked_cases}
use Rattle.codec.specs.Codec.{blank}
use Rattle.codec.proofs.Put.{length_blank, get_blank, bytes_blank, bytes_put}
use Rattle.page.specs.Pages.{Page, View, clean, spoilt, whole, page, begins, ends}
use Rattle.page.specs.Rules.{may_carry, least_count, serial_ok, marks_ok, ruled, lawful}
use Rattle.page.specs.Layout.{view_of}
use Rattle.page.proofs.Written.{Narrow}
use Rattle.page.proofs.Berger.{guarded_blank, blank_clean}
use Rattle.flash.specs.Medium.{page_at, views, seen, programmed, erased}
use Rattle.flash.proofs.Laws.{seen_views, length_views}
use Rattle.flash.proofs.Steps.{AllGuarded, page_known, views_same, program_length, program_guarded, program_views, erase_length, erase_outside, erase_inside}
use Rattle.blocks.specs.Blocks.{size_ok}
use Rattle.nodes.specs.Nodes.{sound, words}
use Rattle.index.specs.Index.{rising_from, rising}
use Rattle.state.specs.State.{idle, append, commit, collect, format, Held, held, none_erased, now_erased, is_idle}
use Rattle.recovery.specs.Recovery.{placed, wholes, all_lawful, distinct, insert, sort, goes_on, starts_group, base_of, reaches, from, consecutive, group}
use Rattle.recovery.specs.Recovery.{joined, begun, enter, walk, groups_of, log_of, pages_of, enter_all, enter_page, enter_pages, Recovery, enters_log, log_of_group}
use Rattle.recovery.specs.Recovery
use Rattle.calls.specs.Calls.{zip, append_of, commit_of, collect_of, formatting, format_of, buffer_of, flush_of}
use Rattle.calls.proofs.Laws.{format_state}
use Rattle.step.specs.Step.{Step, formatted, erasing, programming, format_step, due, programs_due, needs_erase, erased_first, step_of, medium_after}
use Rattle.valve_log.specs.History.{start, Told, began_append, began_commit, began_collect, put_in, began_flush}
use Rattle.valve_log.specs.Reached.{World, world, with_state, step_due, Event, still, called, stepped, recovered, happen, accepted, finishes, meanwhile, Formatting, fresh, lent_anew, filled}
use Rattle.valve_log.specs.Reached
use Rattle.valve_log.proofs.Order.{below}
use Rattle.valve_log.proofs.Index.{valves}
use Rattle.valve_log.proofs.Small.{small_nil, narrow}
use Rattle.valve_log.proofs.Sound.{Sound}
use Rattle.valve_log.proofs.Coupling.{at_rest, alive, Coupled}
use Rattle.valve_log.proofs.Lent.{kept, not_flush, lent_none}
use Rattle.valve_log.proofs.Events.{Upheld, sized}

-- ---- formatting under way: the first k blocks are erased

pub record InFormat (m : List ℕ) (s : Option Held) : Type 0 where
  pub size : size_ok (length m) ≡ true
  pub bytes : Bytes m
  pub done : ℕ
  pub few : done ≤ length m / 4096
  pub erased : List Bool
  pub state : s ≡ Some (format_state (length m / 4096) done erased)
  pub blanks : (i : ℕ) → i < 4096 * done → get_or m i 0 ≡ 255

begun_is : (n : ℕ) (s : Held) → format_of n ≡ gives s → (size_ok n ≡ true) × (s ≡ formatting (n / 4096))
unfolding format_of under
begun_is n s e =
    by_cases (size_ok n)
    (λ t. let f : gives (formatting (n / 4096)) ≡ gives s = rw t at e in (t, cc))
    (λ t. let f : refused 1 ≡ gives s = rw t at e in let z : ◌≡◌ {A = ℕ} 0 1 = cc in absurd (omega arith))

not_idle : (k : ℕ) → is_idle (format k) ≡ false
unfolding is_idle
not_idle k = refl

-- a call whose third condition, 8, is not met is refused
busy : (w : World) (t : Told) (a b c : Need) (cs : List Need) (s' : Held) → c.holds ≡ false → called w t (checked (a ∷ b ∷ c ∷ cs) s') ≡ still w
busy w t a b c cs s' e =
    checked_cases (λ (r : Answer Held). called w t r ≡ still w) (a ∷ b ∷ c ∷ cs) (gives s') (λ n. unfold called in refl)
    (λ f. let g : c.holds ≡ true = unfold tests in every_at 2 _ f in true_false g e)

busy_buffer : (w : World) (t : Told) (a b c : Need) (cs : List Need) (bs : List ℕ) → c.holds ≡ false → filled w t (checked (a ∷ b ∷ c ∷ cs) bs) ≡ still w
busy_buffer w t a b c cs bs e =
    checked_cases (λ (r : Answer (List ℕ)). filled w t r ≡ still w) (a ∷ b ∷ c ∷ cs) (gives bs) (λ n. unfold filled in refl)
    (λ f. let g : c.holds ≡ true = unfold tests in every_at 2 _ f in true_false g e)

-- ---- one event more

module _ (m : List ℕ) (bs : List ℕ) (k : ℕ) (e : List Bool) (size : size_ok (length m) ≡ true) (bytes : Bytes m) (few : k ≤ length m / 4096) (blanks : (i : ℕ) → i < 4096 * k → get_or m i 0 ≡ 255) where
  abbrev here : World
  here = world m (Some (format_state (length m / 4096) k e)) bs

  same : InFormat m (Some (format_state (length m / 4096) k e))
  same = record { size = size; bytes = bytes; done = k; few = few; erased = e; state = refl; blanks = blanks }

  -- the step erases the next block, or programs the base and finishes
  unfoldable pub one_more : k < length m / 4096 → InFormat (erased m k) (Some (erasing (format_state (length m / 4096) k e) k (format (suc k))))
  unfolding erased erasing
  one_more h =
      let there : 4096 * k + 4096 ≤ length m = omega arith in
      let l = erase_length m k there in
      record {
        size = rw l size;
        bytes = bytes_put m (4096 * k) (blank 4096) bytes (bytes_blank 4096);
        done = suc k;
        few = omega arith;
        erased = now_erased e k;
        state = rw l;
        blanks = λ i x. go i x there (dec_lt i (4096 * k));
      }
    where
      go : (i : ℕ) → i < 4096 * suc k → 4096 * k + 4096 ≤ length m → Dec (i < 4096 * k) → get_or (erased m k) i 0 ≡ 255
      go i x there (yes y) = erase_outside m k there i (inl y) ∙ blanks i y
      go i x there (no y) = let j : 4096 * k + (i - 4096 * k) ≡ i = omega arith in rw j at (erase_inside m k there (i - 4096 * k) (omega arith))

  Keeps : Answer Step → Type 0
  Keeps st = not (finishes st) ≡ true → InFormat (stepped here st).after.medium (stepped here st).after.state

  refused_keeps : (n : ℕ) → Keeps (refused n)
  unfolding Keeps stepped
  refused_keeps n f = same

  step_keeps : Keeps (step_of (length m) (views m) (format_state (length m / 4096) k e) bs)
  unfolding step_of due format_step formatting programs_due needs_erase every erased_first
  step_keeps =
      checked_cases Keeps _ _ refused_keeps
      (λ c. by_cases (ltb k (length m / 4096))
      (λ h. rw h (unfold Keeps stepped medium_after in (λ f. one_more (ltb-true k (length m / 4096) h))))
      (λ h. rw h (unfold programming in checked_cases Keeps _ _ refused_keeps (λ g. unfold Keeps finishes in (λ f. true_false f refl)))))

  recover_keeps : (r : Answer Recovery) → not (accepted r) ≡ true → InFormat (recovered here r).after.medium (recovered here r).after.state
  unfolding accepted recovered
  recover_keeps (refused n) e = same
  recover_keeps (gives x) e = true_false e refl

  event_keeps : (e : Event here) → meanwhile here e ≡ true → InFormat (happen here e).after.medium (happen here e).after.state
  unfolding happen meanwhile with_state step_due
  event_keeps (Event.append ks ws a b) f = unfold append_of in rw (busy here (began_append (zip ks ws)) _ _ (need 8 (is_idle (format k))) _ _ (not_idle k)) same
  event_keeps Event.commit f = unfold commit_of in rw (busy here began_commit _ _ (need 8 (is_idle (format k))) _ _ (not_idle k)) same
  event_keeps (Event.collect b) f = unfold collect_of in rw (busy here began_collect _ _ (need 8 (is_idle (format k))) _ _ (not_idle k)) same
  event_keeps (Event.buffer ks ws a b) f = unfold buffer_of in rw (busy_buffer here (put_in (zip ks ws)) _ _ (need 8 (is_idle (format k))) _ _ (not_idle k)) same
  event_keeps Event.flush f = unfold flush_of in rw (busy here began_flush _ _ (need 8 (is_idle (format k))) _ _ (not_idle k)) same
  event_keeps Event.step f = unfold Keeps in step_keeps f
  event_keeps Event.recover f = recover_keeps (Recovery.recover (length m) (views m)) f
  event_keeps Event.read f = same
  event_keeps Event.cut f = true_false f refl
  event_keeps (Event.cut_inside left c) f = true_false f refl

abbrev Stays : List ℕ → List ℕ → Option Held → Type 0
Stays m b s = (e : Event (world m s b)) → meanwhile (world m s b) e ≡ true → InFormat (happen (world m s b) e).after.medium (happen (world m s b) e).after.state

keeps : (m : List ℕ) (b : List ℕ) (s : Option Held) → InFormat m s → Stays m b s
keeps m b s I = subst (Stays m b) (sym I.state) (event_keeps m b I.done I.erased I.size I.bytes I.few I.blanks)

pub in_format : (w : World) → Formatting w → InFormat w.medium w.state
in_format w (Formatting.begun m s bs b e) =
    let q = begun_is (length m) s e in
    record { size = q.0; bytes = b; done = 0; few = omega arith; erased = none_erased (length m / 4096); state = rw q.1 (unfold formatting in refl); blanks = λ i h. absurd (omega arith) }
in_format w (Formatting.next v e F k) = keeps v.medium v.buffer v.state (in_format v F) e k

-- ---- formatting finished

abbrev pub base_page : Page
base_page = page 2 3 1 []

wholes_clean : (n k : ℕ) → wholes n (replicate k clean) ≡ []
unfolding wholes
wholes_clean n zero = refl
wholes_clean n (suc k) = wholes_clean (suc n) k

wholes_start : (k : ℕ) → wholes 0 (whole base_page ∷ replicate k clean) ≡ placed 0 base_page ∷ []
unfolding wholes
wholes_start k = rw (wholes_clean 1 k)

start_sound : (k : ℕ) → Sound (whole base_page ∷ replicate k clean) [] [] 1 (placed 0 base_page ∷ []) (group 2 (placed 0 base_page ∷ []) ∷ []) []
start_sound k =
    record {
      lawfuls = rw (wholes_start k) (unfold all_lawful all lawful ruled every least_count may_carry serial_ok marks_ok in refl);
      distincts = rw (wholes_start k) (unfold distinct all in refl);
      bound = rw (wholes_start k) (unfold all below in refl);
      some_page = omega arith;
      chained = rw (wholes_start k) (unfold from keep reaches sort insert in refl);
      rises = unfold consecutive in refl;
      based = unfold base_of starts_group goes_on begins ends every Rattle.lists.specs.Lists.is_some in refl;
      walks = unfold walk enter begun joined begins ends groups_of in refl;
      replays = unfold pages_of enter_pages enter_page enter_all in refl;
      logs = unfold log_of log_of_group enters_log in refl;
      sounds = unfold sound all in refl;
      shows = unfold words in refl;
      tidy = record { rise = unfold rising rising_from in refl; valve = unfold valves all in refl; count = omega arith };
    }

-- the state that formatting leaves
abbrev pub started : ℕ → List Bool → Held
started blocks e = held (record { blocks = blocks; block = 0; next = 1; serial = 2; base = 1 }) [] idle e

pub start_coupled : (blocks k : ℕ) (e : List Bool) → Coupled (whole base_page ∷ replicate k clean) (Some (started blocks e)) start
start_coupled blocks k e =
    record {
      b = 1;
      ch = placed 0 base_page ∷ [];
      gs = group 2 (placed 0 base_page ∷ []) ∷ [];
      idx = [];
      medium = start_sound k;
      memory = alive (record { serials = refl; bases = refl; indices = refl; pends = at_rest });
    }

-- where the list starts
pub record Begins (w : World) : Type 0 where
  pub upheld : Upheld w start
  pub pages : ℕ
  pub sees : views w.medium ≡ whole base_page ∷ replicate pages clean
  pub erased : List Bool
  pub holds : w.state ≡ Some (started (length w.medium / 4096) erased)

-- the step that finishes: all blocks are erased, and the base goes to page 0
module _ (m : List ℕ) (bs : List ℕ) (k : ℕ) (e : List Bool) (size : size_ok (length m) ≡ true) (bytes : Bytes m) (few : k ≤ length m / 4096) (blanks : (i : ℕ) → i < 4096 * k → get_or m i 0 ≡ 255) where
  Ends : Answer Step → Type 0
  Ends st = finishes st ≡ true → Begins (lent_anew (stepped (here m bs k e size bytes few blanks) st).after)

  refused_ends : (n : ℕ) → Ends (refused n)
  unfolding Ends finishes
  refused_ends n f = true_false f refl

  module _ (all_done : length m / 4096 ≤ k) where
    pub blank_page : (p : ℕ) → 256 * p + 256 ≤ length m → page_at m p ≡ blank 256
    blank_page p h =
        let S = sized (length m) size in
        page_known m p (blank 256) h (length_blank 256) (λ i x. blanks (256 * p + i) (omega (arith, S.even)) ∙ sym (get_blank 256 i 0 x))

    guarded : AllGuarded m
    guarded = record { bytes = bytes; pages = λ p h. rw (blank_page p h) guarded_blank }

    pages : ℕ
    pages = length m / 256

    views_clean : views m ≡ replicate (length m / 256) clean
    views_clean =
        let r = length-replicate {A = View} (length m / 256) clean in
        views_same (views m) (replicate (length m / 256) clean) (length_views m ∙ sym r)
        (λ p h. seen_views m p ∙ ap view_of (blank_page p (omega (arith, length_views m))) ∙ blank_clean
        ∙ sym (unfold seen in get_or-replicate {A = View} (length m / 256) p clean spoilt (omega (arith, length_views m))))

    base_lawful : lawful base_page ≡ true
    unfolding lawful ruled all every least_count may_carry serial_ok marks_ok
    base_lawful = refl

    base_narrow : Narrow base_page
    base_narrow = narrow base_page base_lawful (omega arith) small_nil (omega arith)

    pub page_there : 256 * 0 + 256 ≤ length m
    page_there = let S = sized (length m) size in omega (arith, S.low)

    pub length_after : length (programmed m 0 base_page) ≡ length m
    length_after = program_length m 0 base_page page_there (omega arith)

    some_views : (n : ℕ) → 1 ≤ n → set (replicate n clean) 0 (whole base_page) ≡ whole base_page ∷ replicate (n - 1) clean
    some_views zero h = absurd (omega arith)
    some_views (suc n) h = let z : suc n - 1 ≡ n = omega arith in rw z

    views_after : views (programmed m 0 base_page) ≡ whole base_page ∷ replicate (length m / 256 - 1) clean
    views_after =
        let S = sized (length m) size in
        program_views m 0 base_page page_there base_narrow ∙ ap (λ (v : List View). set v 0 (whole base_page)) views_clean ∙ some_views (length m / 256) (omega (arith, S.low))

    finished : Begins (world (programmed m 0 base_page) (Some (started (length m / 4096) e)) fresh)
    finished =
        record {
          upheld =
              record {
                size = rw length_after size;
                guarded = program_guarded m 0 base_page page_there (omega arith) guarded;
                coupled = rw views_after (start_coupled (length m / 4096) (length m / 256 - 1) e);
                lending = kept (lent_none (started (length m / 4096) e) fresh start refl refl (unfold not_flush in refl));
              };
          pages = length m / 256 - 1;
          sees = views_after;
          erased = e;
          holds = rw length_after;
        }

  step_ends : Ends (step_of (length m) (views m) (format_state (length m / 4096) k e) bs)
  unfolding step_of due format_step formatting formatted programs_due needs_erase every erased_first
  step_ends =
      checked_cases Ends _ _ refused_ends
      (λ c. by_cases (ltb k (length m / 4096))
      (λ h. rw h (unfold Ends finishes in (λ f. true_false f refl)))
      (λ h. rw h (unfold programming in checked_cases Ends _ _ refused_ends (λ g. unfold Ends stepped medium_after in (λ f. finished (ltb-false k (length m / 4096) h))))))

abbrev Starts : List ℕ → List ℕ → Option Held → Type 0
Starts m b s = finishes (step_due (world m s b)) ≡ true → Begins (lent_anew (happen (world m s b) Event.step).after)

pub starts : (m : List ℕ) (b : List ℕ) (s : Option Held) → InFormat m s → Starts m b s
starts m b s I = subst (Starts m b) (sym I.state) (unfold happen step_due with_state Ends in step_ends m b I.done I.erased I.size I.bytes I.few I.blanks)
