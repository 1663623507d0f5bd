-- A cut by a pattern of zeros leaves a page complete, and the lines of the example with such a cut.
use mathlib.Core.Path.{◌≡◌, refl, ap, ap₂, ◌∙◌}
use mathlib.Core.Logic.{inl, inr}
use mathlib.Core.Bool.{true, false}
use mathlib.Core.List.{List, [], ◌∷◌, ◌++◌}
use Prim.Native.Nat.{ℕ, zero, suc, ◌+◌, ◌-◌, ◌*◌, ◌/◌, ◌^◌, ◌≤◌, ◌<◌}
use native.Mathlib.Nat.{two-pow-succ}
use native.Mathlib.Omega.{arith}
use native.Mathlib.Decide.{dec_lt}
use lib.ListN.{length, get_or, replicate}
use lib.Seq.{ext_get_or}
use borrow.Author.Tests.{eq-eqb}
use Rattle.lists.specs.Lists.{Bytes, every, all_below, table}
use Rattle.lists.proofs.Laws.{below_tail}
use Rattle.codec.specs.Codec.{le, packed, bytes_of, part, put_at}
use Rattle.codec.proofs.Put.{length_put, get_put_in, get_put_outside, get_part, length_part, bytes_part}
use Rattle.page.specs.Pages.{Page}
use Rattle.flash.specs.Medium.{programmed}
use Rattle.flash.proofs.Steps.{AllGuarded, program_length, program_guarded}
use Rattle.step.specs.Step.{group_page}
use Rattle.valve_log.specs.History.{stepped_page, tell, began_append, start as no_history}
use Rattle.valve_log.specs.Reached.{World, Moment, same_bytes, cut_short, Reached}
use Rattle.valve_log.proofs.Point3.{reached_upheld}
use Rattle.trace.specs.Trace.{call_count, code_at, number_at, has_group, without_number, number_ok, pattern_size, data_size, data_below, data_start, formats_once, recovers_next, call_ok, has_lists, well_formed}
use Rattle.trace.specs.Trace.{Recorded, numbers_at, recorded_as, recorded_at, recorded}
use Rattle.cut_patterns.specs.Cuts.{raised, raised_bytes, raised_at, left_by_cut}
use Rattle.player.specs.Run.{name_of, played, played_cut, lines_from}
use Rattle.recorded_runs.specs.Example.{complete_cut_trace, CompleteCutExample}
use Rattle.recorded_runs.proofs.Along.{InForm}
use Rattle.recorded_runs.proofs.Reaches.{call_reached}
use Rattle.recorded_runs.proofs.Formatted.{FormattedWorld, line_next}
use Rattle.recorded_runs.proofs.Example.{appends, expected, group, last_lines, told_lines_lem, appending, told, small, due_there, append_played, append_quiet, begun_reached, lines_after}
use Rattle.recorded_runs.proofs.Refused.{cut_call}

-- ---- a pattern of zeros

raised_zero : (k x : ℕ) → x < 2 ^ k → raised k x 0 ≡ x
unfolding raised
raised_zero zero x h = omega arith
raised_zero (suc k) x h = let q = raised_zero k (x / 2) (omega (arith, two-pow-succ k)) in rw q (omega arith)

raised_zeros : (xs : List ℕ) (n : ℕ) → Bytes xs → raised_bytes xs (replicate n 0) ≡ xs
unfolding raised_bytes
raised_zeros [] n b = refl
raised_zeros (x ∷ xs) zero b = refl
raised_zeros (x ∷ xs) (suc n) b = ap₂ (λ (y : ℕ) (ys : List ℕ). y ∷ ys) (raised_zero 8 x (b.each 0)) (raised_zeros xs n (below_tail b))

module _ (m : List ℕ) (a n : ℕ) (there : a + n ≤ length m) where
  long : length (part a n m) ≡ n
  long = length_part a n m there

  fits : a + length (part a n m) ≤ length m
  fits = omega (arith, long)

  -- a part put where it stands
  put_part : put_at m a (part a n m) ≡ m
  put_part = ext_get_or 0 (put_at m a (part a n m)) m (length_put m a (part a n m) fits) (λ i h. at i (dec_lt i a) (dec_lt i (a + n)))
    where
      at : (i : ℕ) → Dec (i < a) → Dec (i < a + n) → get_or (put_at m a (part a n m)) i 0 ≡ get_or m i 0
      at i (yes h) d = get_put_outside m a (part a n m) fits i 0 (inl h)
      at i (no h) (yes l) =
          let z : a + (i - a) ≡ i = omega arith in
          rw z at (get_put_in m a (part a n m) fits (i - a) 0 (omega (arith, long)) ∙ get_part a n (i - a) 0 m (omega arith))
      at i (no h) (no l) = get_put_outside m a (part a n m) fits i 0 (inr (omega (arith, long)))

zeros_leave : (m : List ℕ) (a : ℕ) → a + 256 ≤ length m → Bytes m → raised_at m a (replicate 256 0) ≡ m
unfolding raised_at
zeros_leave m a there b = ap (put_at m a) (raised_zeros (part a 256 m) 256 (bytes_part a 256 m b)) ∙ put_part m a 256 there

same_itself : (xs : List ℕ) → same_bytes xs xs ≡ true
unfolding same_bytes
same_itself [] = refl
same_itself (x ∷ xs) = rw (eq-eqb x x refl, same_itself xs) refl

-- ---- the example

formed : well_formed complete_cut_trace ≡ true
unfolding well_formed has_lists every call_count code_at number_at has_group without_number number_ok pattern_size data_size data_below data_start formats_once recovers_next
    call_ok all_below le packed bytes_of complete_cut_trace
formed = refl

calls : recorded complete_cut_trace ≡ Recorded.format 4 ∷ replicate 5 Recorded.step ++ (appends ∷ cut_call ∷ Recorded.recover ∷ [])
unfolding recorded table recorded_at recorded_as numbers_at call_count code_at number_at has_group pattern_size data_size data_below data_start le packed bytes_of complete_cut_trace
calls = refl

blocks : number_at complete_cut_trace 0 ≡ 4
unfolding number_at call_count le packed bytes_of complete_cut_trace
blocks = refl

in_form : InForm cut_call
unfolding InForm pattern_size
in_form = refl

module _ (w : World) (F : FormattedWorld 4 w) where
  abbrev page : Page
  page = group_page 1 group 0 2

  few : length page.entries ≡ 2
  unfolding group_page
  few = refl

  there : 256 * 1 + 256 ≤ length w.medium
  there = omega (arith, F.long)

  guarded : AllGuarded w.medium
  guarded = (reached_upheld (appending w F) (tell no_history (began_append group)) (begun_reached w F)).guarded

  left_complete : raised_at (programmed w.medium 1 page) 256 (replicate 256 0) ≡ programmed w.medium 1 page
  left_complete =
      zeros_leave (programmed w.medium 1 page) 256 (omega (arith, there, program_length w.medium 1 page there (omega (arith, few))))
      (program_guarded w.medium 1 page there (omega (arith, few)) guarded).bytes

  cut_told : (played (appending w F) cut_call).moment.told ≡ stepped_page
  unfolding played played_cut name_of cut_short left_by_cut
  cut_told = rw (due_there w F, left_complete, same_itself (programmed w.medium 1 page)) refl

  cut_quiet : (played (appending w F) cut_call).lines ≡ []
  unfolding played played_cut name_of
  cut_quiet = rw (due_there w F) refl

  cut_on : (played (appending w F) cut_call).ends ≡ false
  unfolding played played_cut name_of
  cut_on = rw (due_there w F) refl

  abbrev over : World
  over = (played (appending w F) cut_call).moment.after

  over_reached : Reached over (told w F)
  over_reached = rw cut_told at (call_reached (appending w F) (tell no_history (began_append group)) cut_call (begun_reached w F) (small w F) in_form)

  then : lines_from w (appends ∷ cut_call ∷ Recorded.recover ∷ []) ≡ expected
  then =
      line_next w (appending w F) appends (cut_call ∷ Recorded.recover ∷ []) (append_quiet w F) (unfold played in refl) (ap (λ (k : Moment). k.after) (append_played w F))
      ∙ line_next (appending w F) over cut_call (Recorded.recover ∷ []) cut_quiet cut_on refl
      ∙ last_lines over (told w F) over_reached ∙ told_lines_lem

pub complete_cut_example : CompleteCutExample
complete_cut_example = record { formed = formed; lines = lines_after complete_cut_trace (appends ∷ cut_call ∷ Recorded.recover ∷ []) expected formed blocks calls then }
