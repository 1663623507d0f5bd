-- Formatting, begun on any medium of allowed length and stepped, is finished.
use mathlib.Core.Path.{◌≡◌, refl, sym, ap, subst, ◌∙◌}
use mathlib.Core.Bool.{Bool, true, false}
use Rattle.std.proofs.Common.{Some}
use mathlib.Core.List.{List, []}
use Prim.Native.Nat.{ℕ, zero, suc, ◌*◌, ◌/◌, ◌≤◌, ◌<◌}
use native.Mathlib.Omega.{arith}
use native.Mathlib.Decide.{dec_lt}
use lib.ListN.{length, get_or}
use lib.Seq.{ext_get_or}
use Rattle.lists.specs.Lists.{Bytes}
use Rattle.lists.specs.Needs.{Answer, refused, gives, under}
use Rattle.lists.proofs.Laws.{same_given}
use Rattle.page.specs.Pages.{clean}
use Rattle.page.specs.Layout.{view_of}
use Rattle.page.proofs.Buffer.{gathered_blank}
use Rattle.page.proofs.Berger.{blank_clean}
use Rattle.flash.specs.Medium.{views, seen, programmed, erased}
use Rattle.flash.proofs.Laws.{seen_views, length_views}
use Rattle.flash.proofs.Steps.{erase_length}
use Rattle.blocks.specs.Blocks.{size_ok}
use Rattle.state.specs.State.{Held, now_erased}
use Rattle.calls.specs.Calls.{formatting, format_of}
use Rattle.calls.proofs.Laws.{format_state}
use Rattle.step.specs.Step.{Step, formatted, step_of, medium_after, buffer_after}
use Rattle.step.proofs.Formats.{erase_due, base_due}
use Rattle.valve_log.specs.History.{start}
use Rattle.valve_log.specs.Reached.{World, world, fresh, with_state, step_due, Event, stepped, happen, finishes, meanwhile, Formatting, Reached}
use Rattle.valve_log.specs.Finished.{steps_on, Finished, FormattingFinishes, FormattedAlike}
use Rattle.valve_log.proofs.Events.{sized}
use Rattle.valve_log.proofs.Formats.{one_more, base_page, blank_page, page_there, length_after}

-- ---- a step of formatting as an event

module _ (m : List ℕ) (s : Held) (t : Answer Step) (d : step_of (length m) (views m) s fresh ≡ t) where
  due_is : step_due (world m (Some s) fresh) ≡ t
  unfolding step_due with_state
  due_is = d

  after_is : (happen (world m (Some s) fresh) Event.step).after ≡ (stepped (world m (Some s) fresh) t).after
  unfolding happen
  after_is = ap (λ (q : Answer Step). (stepped (world m (Some s) fresh) q).after) due_is

erase_after : (m : List ℕ) (s s' : Held) (k : ℕ) → (stepped (world m (Some s) fresh) (gives (Step.erase k s' false))).after ≡ world (erased m k) (Some s') fresh
unfolding stepped medium_after buffer_after
erase_after m s s' k = refl

program_after : (m : List ℕ) (s s' : Held) → (stepped (world m (Some s) fresh) (gives (Step.program 0 base_page s' true))).after ≡ world (programmed m 0 base_page) (Some s') fresh
unfolding stepped medium_after buffer_after
program_after m s s' = refl

erase_open : (k : ℕ) (s : Held) → finishes (gives (Step.erase k s false)) ≡ false
unfolding finishes
erase_open k s = refl

program_over : (s : Held) → finishes (gives (Step.program 0 base_page s true)) ≡ true
unfolding finishes
program_over s = refl

-- ---- after k steps the first k blocks are erased

-- and recorded as erased
records_after : ℕ → ℕ → List Bool
records_after n zero = (formatting (n / 4096)).erased
records_after n (suc k) = now_erased (records_after n k) k

record Erased (n k : ℕ) (w : World) : Type 0 where
  pub medium : List ℕ
  pub records : List Bool
  pub is : w ≡ world medium (Some (format_state (length medium / 4096) k records)) fresh
  pub long : length medium ≡ n
  pub bytes : Bytes medium
  pub blanks : (i : ℕ) → i < 4096 * k → get_or medium i 0 ≡ 255
  pub recorded : records ≡ records_after n k

module _ (n : ℕ) (size : size_ok n ≡ true) where
  -- the step erases the next block
  module _ (k : ℕ) (h : k < n / 4096) (w : World) (E : Erased n k w) where
    abbrev m : List ℕ
    m = E.medium

    size_here : size_ok (length m) ≡ true
    size_here = rw E.long size

    erases : step_of (length m) (views m) (format_state (length m / 4096) k E.records) fresh ≡ gives (Step.erase k (format_state (length m / 4096) (suc k) (now_erased E.records k)) false)
    erases =
        let S = sized (length m) size_here in
        erase_due (length m) (views m) (length m / 4096) E.records fresh [] size_here (omega (arith, length_views m)) (omega (arith, S.low)) gathered_blank k (omega (arith, E.long))

    not_refused : (j : ℕ) → step_due w ≡ refused j → ⊥
    not_refused j e =
        let f = sym (ap step_due E.is ∙ due_is m _ _ erases) ∙ e in
        let z : ◌≡◌ {A = ℕ} 0 1 = cc in omega arith

    goes_on : finishes (step_due w) ≡ false
    goes_on = ap (λ (x : World). finishes (step_due x)) E.is ∙ ap finishes (due_is m _ _ erases) ∙ erase_open k _

    erased_more : Erased n (suc k) (happen w Event.step).after
    unfolding one_more records_after
    erased_more =
        let l : length (erased m k) ≡ length m = erase_length m k (omega (arith, E.long)) in
        let I = one_more m fresh k E.records size_here E.bytes (omega (arith, E.long)) E.blanks (omega (arith, E.long)) in
        record {
          medium = erased m k;
          records = now_erased E.records k;
          is =
              ap (λ (x : World). (happen x Event.step).after) E.is ∙ after_is m _ _ erases ∙ erase_after m _ _ k
              ∙ ap (λ (j : ℕ). world (erased m k) (Some (format_state (j / 4096) (suc k) (now_erased E.records k))) fresh) (sym l);
          long = l ∙ E.long;
          bytes = I.bytes;
          blanks = I.blanks;
          recorded = ap (λ (o : List Bool). now_erased o k) E.recorded;
        }

  -- with all blocks erased the step writes the base
  module _ (w : World) (E : Erased n (n / 4096) w) where
    abbrev blocks : ℕ
    blocks = length E.medium / 4096

    all_there : blocks ≡ n / 4096
    all_there = ap (λ (j : ℕ). j / 4096) E.long

    size_last : size_ok (length E.medium) ≡ true
    size_last = rw E.long size

    blanks_last : (i : ℕ) → i < 4096 * blocks → get_or E.medium i 0 ≡ 255
    blanks_last i h = E.blanks i (omega (arith, all_there))

    few : blocks ≤ blocks
    few = omega arith

    first_clean_lem : seen (views E.medium) 0 ≡ clean
    first_clean_lem =
        seen_views E.medium 0
        ∙ ap view_of
        (blank_page E.medium fresh blocks E.records size_last E.bytes few blanks_last few 0 (page_there E.medium fresh blocks E.records size_last E.bytes few blanks_last few))
        ∙ blank_clean

    writes : step_of (length E.medium) (views E.medium) (format_state blocks blocks E.records) fresh ≡ gives (Step.program 0 base_page (formatted (format_state blocks blocks E.records)) true)
    writes =
        let S = sized (length E.medium) size_last in
        base_due (length E.medium) (views E.medium) blocks E.records fresh [] size_last (omega (arith, length_views E.medium)) (omega (arith, S.low)) gathered_blank first_clean_lem

    here : w ≡ world E.medium (Some (format_state blocks blocks E.records)) fresh
    here = E.is ∙ ap (λ (j : ℕ). world E.medium (Some (format_state blocks j E.records)) fresh) (sym all_there)

    last_not_refused : (j : ℕ) → step_due w ≡ refused j → ⊥
    last_not_refused j e =
        let f = sym (ap step_due here ∙ due_is E.medium _ _ writes) ∙ e in
        let z : ◌≡◌ {A = ℕ} 0 1 = cc in omega arith

    is_over : finishes (step_due w) ≡ true
    is_over = ap (λ (x : World). finishes (step_due x)) here ∙ ap finishes (due_is E.medium _ _ writes) ∙ program_over (formatted (format_state blocks blocks E.records))

    length_last : length (happen w Event.step).after.medium ≡ n
    length_last =
        ap (λ (x : World). length (happen x Event.step).after.medium) here
        ∙ ap (λ (x : World). length x.medium) (after_is E.medium _ _ writes ∙ program_after E.medium _ (formatted (format_state blocks blocks E.records)))
        ∙ length_after E.medium fresh blocks E.records size_last E.bytes few blanks_last few ∙ E.long

-- ---- from where formatting begins

abbrev first : List ℕ → World
first m = world m (Some (formatting (length m / 4096))) fresh

pub begun_there : (n : ℕ) → size_ok n ≡ true → format_of n ≡ gives (formatting (n / 4096))
unfolding format_of under
begun_there n size = rw size

module _ (m : List ℕ) (b : Bytes m) (size : size_ok (length m) ≡ true) where
  at_first : Erased (length m) 0 (first m)
  unfolding records_after
  at_first = record { medium = m; records = (formatting (length m / 4096)).erased; is = unfold formatting in refl; long = refl; bytes = b; blanks = λ i h. absurd (omega arith); recorded = refl }

  at : (k : ℕ) → k ≤ length m / 4096 → Erased (length m) k (steps_on k (first m))
  unfolding steps_on
  at zero h = at_first
  at (suc k) h = erased_more (length m) size k (omega arith) (steps_on k (first m)) (at k (omega arith))

  not_over : (k : ℕ) → k < length m / 4096 → finishes (step_due (steps_on k (first m))) ≡ false
  not_over k h = goes_on (length m) size k h (steps_on k (first m)) (at k (omega arith))

  all_accepted : (k j : ℕ) → k ≤ length m / 4096 → step_due (steps_on k (first m)) ≡ refused j → ⊥
  all_accepted k j h = go (dec_lt k (length m / 4096))
    where
      go : Dec (k < length m / 4096) → step_due (steps_on k (first m)) ≡ refused j → ⊥
      go (yes q) = not_refused (length m) size k q (steps_on k (first m)) (at k h) j
      go (no q) =
          let e : k ≡ length m / 4096 = omega arith in
          last_not_refused (length m) size (steps_on k (first m)) (subst (λ (i : ℕ). Erased (length m) i (steps_on k (first m))) e (at k h)) j

  pub under_way_lem : (k : ℕ) → k ≤ length m / 4096 → Formatting (steps_on k (first m))
  unfolding steps_on
  under_way_lem zero h = Formatting.begun m (formatting (length m / 4096)) fresh b (begun_there (length m) size)
  under_way_lem (suc k) h = Formatting.next (steps_on k (first m)) Event.step (under_way_lem k (omega arith)) (unfold meanwhile in rw (not_over k (omega arith)))

  -- where a step for each block is done, the next one finishes it
  abbrev pub erased_all : World
  erased_all = steps_on (length m / 4096) (first m)

  pub all_under_way : Formatting erased_all
  all_under_way = under_way_lem (length m / 4096) (omega arith)

  pub over : finishes (step_due erased_all) ≡ true
  over = is_over (length m) size erased_all (at (length m / 4096) (omega arith))

  pub over_length : length (happen erased_all Event.step).after.medium ≡ length m
  over_length = length_last (length m) size erased_all (at (length m / 4096) (omega arith))

  finished : Finished m
  unfolding steps_on
  finished =
      record {
        state = formatting (length m / 4096);
        begun = begun_there (length m) size;
        accepted = all_accepted;
        before = not_over;
        last = over;
        reached = Reached.start erased_all all_under_way over;
        same_length = over_length;
      }

pub formatting_finishes : FormattingFinishes
unfolding FormattingFinishes
formatting_finishes = finished

-- ---- whatever the medium was

-- all blocks erased, it is blank
same_blank : (n : ℕ) {w w' : World} (E : Erased n (n / 4096) w) (E' : Erased n (n / 4096) w') → size_ok n ≡ true → E'.medium ≡ E.medium
same_blank n E E' size =
    ext_get_or 0 E'.medium E.medium (E'.long ∙ sym E.long)
    (λ i h. let S = sized n size in let j : i < 4096 * (n / 4096) = omega (arith, E'.long, S.even) in E'.blanks i j ∙ sym (E.blanks i j))

same_world : (n : ℕ) (w w' : World) → Erased n (n / 4096) w → Erased n (n / 4096) w' → size_ok n ≡ true → w' ≡ w
same_world n w w' E E' size =
    E'.is ∙ rw (same_blank n E E' size, E'.recorded ∙ sym E.recorded) (sym E.is)

pub formatted_alike : FormattedAlike
unfolding FormattedAlike steps_on
formatted_alike m m' b b' size long s f =
    let g : formatting (length m / 4096) ≡ s = same_given (sym (begun_there (length m) size) ∙ f) in
    let k : length m / 4096 ≤ length m / 4096 = omega arith in
    let E = at m b size (length m / 4096) k in
    let there = world m' (Some (formatting (length m / 4096))) fresh in
    let E' : Erased (length m) (length m / 4096) (steps_on (length m / 4096) there) = rw long at (at m' b' (rw long size) (length m / 4096) (omega (arith, long))) in
    let same = same_world (length m) (steps_on (length m / 4096) (first m)) (steps_on (length m / 4096) there) E E' size in
    rw (← g) (ap (λ (w : World). (happen w Event.step).after) same)
