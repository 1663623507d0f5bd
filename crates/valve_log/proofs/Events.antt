-- One event more: whatever happens to a medium and state that are coupled with the history, they still are.
use mathlib.Core.Path.{◌≡◌, refl, sym, ap, ◌∙◌}
use mathlib.Core.Logic.{◌⊎◌, inl, inr}
use mathlib.Core.Bool.{Bool, true, false, not, cond}
use Rattle.std.proofs.Common.{Option, None, Some}
use mathlib.Core.List.{List, [], ◌∷◌, ◌++◌, append-nil}
use Prim.Native.Nat.{ℕ, ◌+◌, ◌-◌, ◌*◌, ◌/◌, ◌%◌, ◌^◌, ◌≤◌, ◌<◌, max}
use native.Mathlib.Omega.{arith}
use native.Mathlib.Decide.{dec_lt}
use lib.Dec.{eqb}
use lib.ListN.{length}
use borrow.Author.Tests.{leb-true, eqb-true, eq-eqb}
use Rattle.lists.specs.Lists.{all, every, Below}
use Rattle.lists.specs.Needs.{Answer, refused, gives, Need, checked}
use Rattle.lists.specs.Cells.{Entry}
use Rattle.codec.specs.Codec.{blank}
use Rattle.lists.proofs.Laws.{and_l, and_r, and_both, true_false, every_at, tests, checked_cases}
use Rattle.page.specs.Pages.{Page, View, clean, spoilt, whole, is_whole, pages_for, changes_of}
use Rattle.page.specs.Rules.{entry_ok}
use Rattle.page.specs.Buffer.{holding}
use Rattle.page.proofs.Berger.{blanked}
use Rattle.flash.specs.Medium.{most_blocks, most_pages, views, seen, programmed, erased}
use Rattle.flash.specs.Cuts.{CutProgram, CutErase}
use Rattle.flash.proofs.Laws.{length_views, clean_in}
use Rattle.flash.proofs.Steps.{AllGuarded, program_length, program_guarded, program_views, erase_length, erase_guarded, erase_views, length_cleaned, seen_cleaned, seen_uncleaned}
use Rattle.flash.proofs.Cuts.{CutViews, cut_program_views, cut_program_guarded, cut_program_final, cut_erase_views, cut_erase_guarded}
use Rattle.index.specs.Index.{within}
use Rattle.blocks.specs.Blocks.{size_ok}
use Rattle.state.specs.State.{Pending, append, commit, collect, flush, Held, base_pages, buffered_in, is_idle}
use Rattle.recovery.specs.Recovery.{Placed, Group, Recovery, walk, groups_of}
use Rattle.recovery.specs.Recovery
use Rattle.calls.specs.Calls.{starting, zip, lists_ok, holds_none, places_for, append_needs, append_of, commit_needs, commit_of, collect_needs, collect_of, flush_needs, flush_of, buffer_needs, buffer_of}
use Rattle.calls.proofs.Laws.{some_groups}
use Rattle.step.specs.Step.{Step, step_of, medium_after, buffer_after}
use Rattle.valve_log.specs.History.{UnderWay, nothing, appending, committing, collecting, flushing, History, history, Told, unchanged, began_append}
use Rattle.valve_log.specs.History.{began_commit, began_collect, put_in, began_flush, stepped_page, counted, tell}
use Rattle.valve_log.specs.Reached.{World, world, fresh, with_state, step_due, CutOf, Event, Moment, called, filled, stepped, same_bytes, cut_short, recovered, happen}
use Rattle.valve_log.specs.Reached
use Rattle.nodes.proofs.Alive.{words_length}
use Rattle.valve_log.proofs.Index.{sound_keep, words_keep}
use Rattle.valve_log.proofs.Views.{one_keeps, one_lost}
use Rattle.valve_log.proofs.Present.{nil}
use Rattle.valve_log.proofs.Groups.{lay, unopened}
use Rattle.valve_log.proofs.Small.{small_zip, zip_length, words_small}
use Rattle.valve_log.proofs.Sound.{outcome, accepts, lost_sound}
use Rattle.valve_log.proofs.Coupling.{Pend, at_rest, in_append, in_commit, in_collect, in_flush, alive, alive_of, Coupled, forget, allowed_lawful}
use Rattle.valve_log.proofs.Coupling
use Rattle.valve_log.proofs.Lent.{Beside, Lent, Lending, lost, kept, lent_of, lent_groups, not_flush, lent_none, lent_more}
use Rattle.valve_log.proofs.Due.{Programs, Erases, Good, step_good}

-- ---- the world and the history

-- a medium of allowed length, whose pages each keep their zero bits at most their check, coupled with the state and the history, and the
-- buffer beside them
pub record Upheld (w : World) (h : History) : Type 0 where
  pub size : size_ok (length w.medium) ≡ true
  pub guarded : AllGuarded w.medium
  pub coupled : Coupled (views w.medium) w.state h
  pub lending : Lending w.buffer h w.state

-- after a moment, with what the history was told of it
abbrev pub Follows : History → Moment → Type 0
Follows h t = Upheld t.after (tell h t.told)

pub record Sized (n : ℕ) : Type 0 where
  pub even : n % 4096 ≡ 0
  pub low : 4 ≤ n / 4096
  pub high : n / 4096 ≤ most_blocks

pub sized : (n : ℕ) → size_ok n ≡ true → Sized n
unfolding size_ok
sized n e = record { even = eqb-true (n % 4096) 0 (every_at 0 _ e); low = leb-true 4 (n / 4096) (every_at 1 _ e); high = leb-true (n / 4096) most_blocks (every_at 2 _ e) }

pub few_views : (m : List ℕ) → size_ok (length m) ≡ true → length (views m) ≤ most_pages
few_views m e = let s = sized (length m) e in omega (arith, length_views m, s.high, s.even)

-- ---- what conditions 24 and 10 say of the buffered groups

pub no_groups : (gs : List (List Entry)) → eqb (length gs) 0 ≡ true → gs ≡ []
no_groups [] e = refl
no_groups (g ∷ gs) e = absurd (let z : length (g ∷ gs) ≡ 0 = eqb-true (length (g ∷ gs)) 0 e in omega arith)

-- ---- calls that begin an operation

module _ (m : List ℕ) (s : Held) (b : List ℕ) (h : History) (U : Upheld (world m (Some s) b) h) where
  L : Lent s b h
  L = lent_of U.lending

  begin_good : (pend : Pending) (u : UnderWay) → ((ch : List Placed) (gs : List Group) → Pend (views m) s.head.serial ch gs s.index pend u) → Beside pend u h.buffered
      → Upheld (world m (Some (starting s pend)) b) (history h.settings h.log u h.buffered)
  begin_good pend u p B =
      let c = U.coupled in
      let a = alive_of c.memory in
      record {
        size = U.size;
        guarded = U.guarded;
        coupled =
            record {
              b = c.b;
              ch = c.ch;
              gs = c.gs;
              idx = c.idx;
              medium = c.medium;
              memory = alive {s = starting s pend} (record { serials = a.serials; bases = a.bases; indices = a.indices; pends = rw (← a.indices) (p c.ch c.gs) });
            };
        lending = kept {s = starting s pend} (record { holds = L.holds; fits_in = L.fits_in; count = L.count; beside = B });
      }

  -- a call whose conditions are met begins the operation; otherwise nothing changes
  call_good : (t : Told) (cs : List Need) (s' : Held) → (every (tests cs) ≡ true → Upheld (world m (Some s') b) (tell h t)) → Follows h (called (world m (Some s) b) t (checked cs s'))
  call_good t cs s' U' = checked_cases (λ (r : Answer Held). Follows h (called (world m (Some s) b) t r)) cs (gives s') (λ n. unfold called tell in U) (λ e. unfold called in U' e)

  -- 24: nothing is buffered
  none_buffered : holds_none b ≡ true → h.buffered ≡ []
  none_buffered e = no_groups h.buffered (unfold holds_none in (rw (lent_groups L) at e))

  -- 10: something is
  some_buffered : not (holds_none b) ≡ true → 1 ≤ length h.buffered
  some_buffered e = some_groups h.buffered (unfold holds_none in (rw (lent_groups L) at e))

  -- an append under conditions that 24 is one of
  pub append_good : (ks ws : List ℕ) (cs : List Need) → (every (tests cs) ≡ true → holds_none b ≡ true) → Below (2 ^ 16) ks → Below (2 ^ 64) ws
      → Follows h (called (world m (Some s) b) (began_append (zip ks ws)) (checked cs (starting s (append (zip ks ws) []))))
  append_good ks ws cs fourth x y =
      call_good (began_append (zip ks ws)) cs (starting s (append (zip ks ws) []))
      (λ e. unfold tell in begin_good (append (zip ks ws) []) (appending (zip ks ws) (pages_for (length (zip ks ws))))
      (λ ch gs. in_append {es = zip ks ws} {ps = []} {left = pages_for (length (zip ks ws))} s.head.serial
      (small_zip ks ws x y) (omega arith) (omega arith) (unfold lay in unopened) (unfold lay in nil))
      (unfold Beside in none_buffered (fourth e)))

  append_now : (ks ws : List ℕ) → Below (2 ^ 16) ks → Below (2 ^ 64) ws → Follows h (called (world m (Some s) b) (began_append (zip ks ws)) (append_of (length m) (views m) s b ks ws))
  unfolding append_of
  append_now ks ws = append_good ks ws (append_needs (length m) (views m) s b ks ws) (λ e. unfold tests in every_at 3 _ e)

  commit_good : Follows h (called (world m (Some s) b) began_commit (commit_of (length m) (views m) s b))
  unfolding commit_of
  commit_good =
      call_good began_commit (commit_needs (length m) (views m) s b) (starting s (commit 0))
      (λ e. unfold tell in begin_good (commit 0) (committing (max 1 (pages_for (length h.settings))))
      (λ ch gs. in_commit {k = 0} {left = max 1 (pages_for (length h.settings))} s.head.serial [] ch refl (left_is) (omega arith) (unfold lay in sym (append-nil ch)) (unfold lay in unopened)
      (unfold lay in unopened) (unfold lay walk groups_of in refl))
      (unfold Beside in none_buffered (fourth e)))
    where
      fourth : every (tests (commit_needs (length m) (views m) s b)) ≡ true → holds_none b ≡ true
      fourth e = unfold tests in every_at 3 _ e

      sizes : length h.settings ≡ length s.index
      sizes = sym (ap length U.coupled.medium.shows) ∙ words_length (views m) U.coupled.idx ∙ sym (ap length (alive_of U.coupled.memory).indices)

      left_is : max 1 (pages_for (length h.settings)) + 0 ≡ base_pages (length s.index)
      left_is = unfold base_pages in (rw sizes (omega arith))

  collect_good : (block : ℕ) → Follows h (called (world m (Some s) b) began_collect (collect_of (length m) (views m) s b block))
  unfolding collect_of
  collect_good block =
      call_good began_collect (collect_needs (length m) (views m) s b block) (starting s (collect block))
      (λ e. unfold tell in begin_good (collect block) collecting (λ ch gs. in_collect) (unfold Beside in none_buffered (fourth e)))
    where
      fourth : every (tests (collect_needs (length m) (views m) s b block)) ≡ true → holds_none b ≡ true
      fourth e = unfold tests in every_at 3 _ e

  -- a flush under conditions that 10 is one of
  pub flush_good : (cs : List Need) → (every (tests cs) ≡ true → not (holds_none b) ≡ true) → Follows h (called (world m (Some s) b) began_flush (checked cs (starting s flush)))
  unfolding Beside
  flush_good cs fourth =
      call_good began_flush cs (starting s flush)
      (λ e. unfold tell in begin_good flush (flushing h.buffered 1) (λ ch gs. in_flush {small = h.buffered}) (flushes e))
    where
      flushes : every (tests cs) ≡ true → Beside flush (flushing h.buffered 1) h.buffered
      flushes e = (refl, some_buffered (fourth e))

  flush_now : Follows h (called (world m (Some s) b) began_flush (flush_of (length m) (views m) s b))
  unfolding flush_of
  flush_now = flush_good (flush_needs (length m) (views m) s b) (λ e. unfold tests in every_at 3 _ e)

  -- what the conditions of a group put into the buffer give, with 11 the entries' page rules
  pub record Puts (ks ws : List ℕ) : Type 0 where
    pub rests : is_idle s.pending ≡ true
    pub lists : lists_ok ks ws ≡ true
    pub lawfuls : all (entry_ok 4) (zip ks ws) ≡ true
    pub counts : within s.index (changes_of (buffered_in b) ++ zip ks ws) ≡ true
    pub places : places_for b (length ks) ≡ true

  -- a group into the buffer, under such conditions
  pub buffer_good : (ks ws : List ℕ) (cs : List Need) → (every (tests cs) ≡ true → Puts ks ws) → Below (2 ^ 16) ks → Below (2 ^ 64) ws
      → Follows h (filled (world m (Some s) b) (put_in (zip ks ws)) (checked cs (holding (buffered_in b ++ (zip ks ws ∷ [])))))
  buffer_good ks ws cs puts x y =
      checked_cases (λ (r : Answer (List ℕ)). Follows h (filled (world m (Some s) b) (put_in (zip ks ws)) r)) cs
      (gives (holding (buffered_in b ++ (zip ks ws ∷ []))))
      (λ n. unfold filled tell in U) (λ e. unfold filled tell in after (puts e))
    where
      lends : Puts ks ws → Lent s (holding (buffered_in b ++ (zip ks ws ∷ []))) (history h.settings h.log h.under_way (h.buffered ++ (zip ks ws ∷ [])))
      lends P =
          let z = zip_length ks ws (eqb-true (length ks) (length ws) (unfold lists_ok in every_at 0 _ P.lists)) in
          let low : 1 ≤ length ks = leb-true 1 (length ks) (unfold lists_ok in every_at 1 _ P.lists) in
          let few : length (changes_of (buffered_in b)) + length ks ≤ 16 = leb-true (length (changes_of (buffered_in b)) + length ks) 16 (unfold places_for in P.places) in
          lent_more L (zip ks ws) P.rests (small_zip ks ws x y) (omega arith) (omega arith) P.lawfuls P.counts

      after : Puts ks ws → Upheld (world m (Some s) (holding (buffered_in b ++ (zip ks ws ∷ [])))) (history h.settings h.log h.under_way (h.buffered ++ (zip ks ws ∷ [])))
      after P =
          let c = U.coupled in
          record {
            size = U.size;
            guarded = U.guarded;
            coupled = record { b = c.b; ch = c.ch; gs = c.gs; idx = c.idx; medium = c.medium; memory = c.memory };
            lending = kept {s = s} (lends P);
          }

  buffer_now : (ks ws : List ℕ) → Below (2 ^ 16) ks → Below (2 ^ 64) ws → Follows h (filled (world m (Some s) b) (put_in (zip ks ws)) (buffer_of (length m) (views m) s b ks ws))
  unfolding buffer_of tests
  buffer_now ks ws =
      buffer_good ks ws (buffer_needs (length m) (views m) s b ks ws)
      (λ e. record { rests = every_at 2 _ e; lists = every_at 3 _ e; lawfuls = allowed_lawful 4 refl (zip ks ws) (every_at 4 _ e); counts = every_at 5 _ e; places = every_at 6 _ e })

-- ---- recovery

recover_good : (m : List ℕ) (s : Option Held) (b : List ℕ) (h : History) → Upheld (world m s b) h → Follows h (recovered (world m s b) (Recovery.recover (length m) (views m)))
recover_good m s b h U = rw (accepts U.coupled.medium (length m) U.size) (unfold recovered tell in afterwards)
  where
    c : Coupled (views m) s h
    c = U.coupled

    afterwards : Upheld (world m (Some (outcome c.medium)) fresh) (history h.settings h.log nothing [])
    afterwards =
        record {
          size = U.size;
          guarded = U.guarded;
          coupled =
              record {
                b = c.b;
                ch = c.ch;
                gs = c.gs;
                idx = c.idx;
                medium = c.medium;
                memory = alive {s = outcome c.medium} (unfold outcome in record { serials = refl; bases = refl; indices = refl; pends = at_rest });
              };
          lending = kept (lent_none (outcome c.medium) fresh (history h.settings h.log nothing []) refl refl (unfold outcome not_flush in refl));
        }

-- ---- a cut between two steps

pub cut_good : (m : List ℕ) (s : Option Held) (b b' : List ℕ) (h : History) → Upheld (world m s b) h → Upheld (world m None b') h
cut_good m s b b' h U = record { size = U.size; guarded = U.guarded; coupled = forget h.under_way U.coupled; lending = lost }

-- ---- the bytes of two media

pub same_true : (xs ys : List ℕ) → same_bytes xs ys ≡ true → xs ≡ ys
unfolding same_bytes
same_true [] [] e = refl
same_true [] (y ∷ ys) e = true_false e refl
same_true (x ∷ xs) [] e = true_false e refl
same_true (x ∷ xs) (y ∷ ys) e = let h : x ≡ y = eqb-true x y (and_l (eqb x y) (same_bytes xs ys) e) in let t = same_true xs ys (and_r (eqb x y) (same_bytes xs ys) e) in rw (h, t)

same_refl : (xs : List ℕ) → same_bytes xs xs ≡ true
unfolding same_bytes
same_refl [] = refl
same_refl (x ∷ xs) = and_both (eq-eqb x x refl) (same_refl xs)

-- ---- the step due, and a cut inside it

module _ (m : List ℕ) (s : Held) (bs : List ℕ) (h : History) (U : Upheld (world m (Some s) bs) h) where
  -- a page programmed
  module _ (p : ℕ) (pg : Page) (s' : Held) (P : Programs (views m) s bs h p pg s') where
    pub there : 256 * p + 256 ≤ length m
    there = omega (arith, clean_in (views m) p P.cleans, length_views m)

    few : length pg.entries ≤ 24
    few = P.fits_in.count

    program_upheld : Upheld (world (programmed m p pg) (Some s') (cond (eqb pg.kind 4) (blank 256) bs)) (counted h h.under_way)
    program_upheld =
        record {
          size = rw (program_length m p pg there few) U.size;
          guarded = program_guarded m p pg there few U.guarded;
          coupled = rw (program_views m p pg there P.fits_in) P.after;
          lending = kept P.lends;
        }

    module _ (left : List ℕ) (c : CutProgram m p pg left) where
      pub cut_seen : CutViews (views m) p 1 (views (programmed m p pg)) (views left)
      cut_seen = cut_program_views m p pg left there few U.guarded c

      left_size : length left ≡ length m
      left_size = unfold CutProgram in c.size

      pub others : (q : ℕ) → (q ≡ p → ⊥) → seen (views left) q ≡ seen (views m) q
      others q n = cut_seen.outside q (side (dec_lt q p))
        where
          side : Dec (q < p) → (q < p) ⊎ (p + 1 ≤ q)
          side (yes k) = inl k
          side (no k) = inr (omega arith)

      -- the page is not whole where a bit is not final
      pub not_whole : same_bytes left (programmed m p pg) ≡ false → is_whole (seen (views left) p) ≡ false
      not_whole e = go (seen (views left) p) refl
        where
          go : (x : View) → seen (views left) p ≡ x → is_whole x ≡ false
          go clean k = unfold is_whole in refl
          go spoilt k = unfold is_whole in refl
          go (whole y) k = true_false (rw (cut_program_final m p pg left there few U.guarded c y k) (same_refl (programmed m p pg))) e

      cut_program_upheld : (b : Bool) → same_bytes left (programmed m p pg) ≡ b → Upheld (world left None fresh) (tell h (cond b stepped_page unchanged))
      cut_program_upheld true e =
          rw (same_true left (programmed m p pg) e) (unfold tell in cut_good (programmed m p pg) (Some s') (cond (eqb pg.kind 4) (blank 256) bs) fresh (counted h h.under_way) program_upheld)
      cut_program_upheld false e =
          let C = U.coupled in
          let k = one_keeps (views m) (views left) p P.cleans others in
          unfold tell in
          record {
            size = rw left_size U.size;
            guarded = cut_program_guarded m p pg left there few U.guarded c;
            coupled =
                record {
                  b = C.b;
                  ch = C.ch;
                  gs = C.gs;
                  idx = C.idx;
                  medium =
                      lost_sound C.medium (views left) cut_seen.size (one_lost C.b (views m) (views left) p P.cleans (not_whole e) others)
                      (sound_keep (views m) (views left) C.idx k C.medium.sounds) (words_keep (views m) (views left) C.idx k C.medium.sounds);
                  memory = Coupling.lost;
                };
            lending = lost;
          }

  -- a block erased
  module _ (b : ℕ) (s' : Held) (E : Erases (views m) bs h b s') where
    pub block_there : 4096 * b + 4096 ≤ length m
    block_there = omega (arith, E.inside, length_views m)

    pub erase_cut : CutViews (views m) (16 * b) 16 (views m) (views (erased m b))
    erase_cut = rw (erase_views m b block_there)
        (record {
          size = length_cleaned (views m) (16 * b) 16 E.inside;
          inside = λ q lo hi. rw (seen_cleaned (views m) (16 * b) 16 E.inside q lo hi) (blanked (seen (views m) q));
          outside = λ q o. seen_uncleaned (views m) (16 * b) 16 E.inside q o;
        })

    erase_upheld : Upheld (world (erased m b) (Some s') bs) h
    erase_upheld = record {
      size = rw (erase_length m b block_there) U.size;
      guarded = erase_guarded m b block_there U.guarded;
      coupled = E.after (views (erased m b)) erase_cut;
      lending = kept E.lends;
    }

    cut_erase_upheld : (left : List ℕ) → CutErase m b left → Upheld (world left None fresh) h
    cut_erase_upheld left c =
        let l : length left ≡ length m = unfold CutErase in c.size in
        record {
          size = rw l U.size;
          guarded = cut_erase_guarded m b left block_there U.guarded c;
          coupled = forget h.under_way (E.after (views left) (cut_erase_views m b left block_there U.guarded c));
          lending = lost;
        }

  pub step_goes : (st : Answer Step) → Good (views m) s bs h st → Follows h (stepped (world m (Some s) bs) st)
  unfolding stepped medium_after buffer_after Good tell
  step_goes (refused n) G = U
  step_goes (gives (Step.program p pg s' finished)) G = program_upheld p pg s' G
  step_goes (gives (Step.erase b s' finished)) G = erase_upheld b s' G

  pub cut_goes : (st : Answer Step) → Good (views m) s bs h st → (left : List ℕ) → CutOf m st left → Follows h (cut_short (world m (Some s) bs) left st)
  unfolding cut_short CutOf Good
  cut_goes (refused n) G left c = absurd c
  cut_goes (gives (Step.program p pg s' finished)) G left c = cut_program_upheld p pg s' G left c (same_bytes left (programmed m p pg)) refl
  cut_goes (gives (Step.erase b s' finished)) G left c = unfold tell in cut_erase_upheld b s' G left c

  pub due_good : Good (views m) s bs h (step_of (length m) (views m) s bs)
  due_good = step_good (length m) (views m) s bs h (words_small m U.guarded.bytes) (few_views m U.size) U.coupled (lent_of U.lending)

-- ---- any event

pub happen_good : (m : List ℕ) (s : Option Held) (b : List ℕ) (h : History) (e : Event (world m s b)) → Upheld (world m s b) h → Follows h (happen (world m s b) e)
unfolding happen with_state step_due
happen_good m None b h (Event.append ks ws x y) U = unfold tell in U
happen_good m (Some s) b h (Event.append ks ws x y) U = append_now m s b h U ks ws x y
happen_good m None b h Event.commit U = unfold tell in U
happen_good m (Some s) b h Event.commit U = commit_good m s b h U
happen_good m None b h (Event.collect k) U = unfold tell in U
happen_good m (Some s) b h (Event.collect k) U = collect_good m s b h U k
happen_good m None b h (Event.buffer ks ws x y) U = unfold tell in U
happen_good m (Some s) b h (Event.buffer ks ws x y) U = buffer_now m s b h U ks ws x y
happen_good m None b h Event.flush U = unfold tell in U
happen_good m (Some s) b h Event.flush U = flush_now m s b h U
happen_good m None b h Event.step U = unfold stepped tell in U
happen_good m (Some s) b h Event.step U = step_goes m s b h U (step_of (length m) (views m) s b) (due_good m s b h U)
happen_good m s b h Event.recover U = recover_good m s b h U
happen_good m s b h Event.read U = unfold tell in U
happen_good m s b h Event.cut U = unfold tell in cut_good m s b fresh h U
happen_good m None b h (Event.cut_inside left c) U = absurd (unfold CutOf in c)
happen_good m (Some s) b h (Event.cut_inside left c) U = cut_goes m s b h U (step_of (length m) (views m) s b) (due_good m s b h U) left c
