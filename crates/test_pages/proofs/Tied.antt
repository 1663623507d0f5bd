-- The table's first journal is a world reached, and its calls, steps, cuts and recoveries are those of the valve log's statement.
use mathlib.Core.Path.{◌≡◌, refl, sym, ap, subst, ◌∙◌}
use mathlib.Core.Logic.{◌⊎◌, inl, inr}
use mathlib.Core.Bool.{Bool, true, false}
use Rattle.std.proofs.Common.{None, Some}
use mathlib.Core.List.{List, [], ◌∷◌}
use Prim.Native.Nat.{ℕ, zero, suc, ◌+◌, ◌-◌, ◌*◌, ◌/◌, ◌≤◌, ◌<◌}
use native.Mathlib.Omega.{arith}
use native.Mathlib.Decide.{dec_lt, ℕ_discrete}
use lib.Dec.{eqb}
use lib.ListN.{length, get_or, set, replicate, length-set, length-replicate, get_or-replicate}
use lib.Seq.{get_or-set_same, get_or-set_other}
use borrow.Author.Tests.{eqb-true}
use Rattle.lists.specs.Lists.{Bytes, every, all_below, one_if, all, count_below, value_or, table}
use Rattle.lists.specs.Needs.{Answer, refused, gives, under}
use Rattle.lists.specs.Cells.{keys_of, words_of}
use Rattle.lists.proofs.Laws.{below_at, below_nil, below_cons}
use Rattle.bits.specs.Bits.{bit, zero_bits, zeros}
use Rattle.codec.specs.Codec.{put_at, blank, le, bytes_of, all_ones}
use Rattle.codec.proofs.Put.{bytes_put}
use Rattle.page.specs.Pages.{Page, View, spoilt, page, is_clean}
use Rattle.page.specs.Layout.{encode, view_of, whole_bytes, clean_bytes, zero_count, check}
use Rattle.page.specs.Buffer.{gathered, in_making}
use Rattle.page.specs.Buffer
use Rattle.page.proofs.Written.{length_encode, bytes_encode, Narrow}
use Rattle.flash.specs.Medium.{views, seen, wholly_clean, programmed, erased}
use Rattle.flash.specs.Cuts.{bit_at, CutProgram}
use Rattle.flash.proofs.Laws.{length_views}
use Rattle.flash.proofs.Steps.{views_alike, put_length, put_outside, put_inside, put_views, program_length, program_views, erase_length, erase_views}
use Rattle.blocks.specs.Blocks.{size_ok}
use Rattle.index.specs.Index.{rising, rising_from}
use Rattle.state.specs.State.{Held, none_erased, was_erased, now_erased, head_fit, place_fit, index_fit, group_ok, base_pages, done_fit, format_fit, pending_fit, fit, is_idle}
use Rattle.state.specs.State.{flush_ok, groups_fit, buffer_fit, fit_with, buffered_in}
use Rattle.recovery.specs.Recovery.{Recovery, recover}
use Rattle.calls.specs.Calls.{serials_for, formatting, format_of}
use Rattle.step.specs.Step.{Step, formatted, erasing, programming, format_step, due, programs_due, needs_erase, erased_first, step_of, medium_after, buffer_after}
use Rattle.valve_log.specs.History.{History, Told, began_append, began_commit, put_in, began_flush, tell}
use Rattle.valve_log.specs.Reached.{World, world, with_state, step_due, CutOf, Event, called, filled, stepped, cut_short, recovered, happen, lent_anew, step_due_before, happened, Before, switched_off, Reached, Point3}
use Rattle.valve_log.specs.ValveZero.{step_before}
use Rattle.valve_log.specs.Finished.{steps_on}
use Rattle.valve_log.proofs.Due.{Good}
use Rattle.valve_log.proofs.Events.{Upheld, Sized, sized, there, block_there, due_good}
use Rattle.valve_log.proofs.Finished.{erased_all, all_under_way, over}
use Rattle.valve_log.proofs.ValveZero.{due_before, before_upheld}
use Rattle.valve_log.proofs.Point3.{reached_upheld, point3}
use Rattle.test_pages.specs.Table.{Journal, journal, agree}
use Rattle.test_pages.specs.Table
use Rattle.test_pages.specs.Tied.{Tells, Starts, TornSo, GoesWith, Tied, WentWith, TiedBefore, Shown}

-- a medium of allowed length is as long as its pages
long_as : (m : List ℕ) → size_ok (length m) ≡ true → length m ≡ 256 * length (views m)
long_as m e = let z = sized (length m) e in let k = z.even in let l = length_views m in omega arith

-- and so is one as long, with these pages
long_with : (m m' : List ℕ) (v : List View) → length m ≡ 256 * length (views m) → views m' ≡ v → length m' ≡ length m
    → length m' ≡ 256 * length v
long_with m m' v e p l = let a = ap length p in omega (arith, a, length_views m, length_views m', l, e)

-- ---- a step

-- a step touches a page or block of the medium, and what it programs fits a page
data Within (m : List ℕ) : Answer Step → Type 0 where
  refuses : (n : ℕ) → Within m (refused n)
  programs : (p : ℕ) (pg : Page) (s : Held) (finished : Bool) → 256 * p + 256 ≤ length m → Narrow pg
      → Within m (gives (Step.program p pg s finished))
  erases : (b : ℕ) (s : Held) (finished : Bool) → 4096 * b + 4096 ≤ length m → Within m (gives (Step.erase b s finished))

module _ (m : List ℕ) (s : Held) (b : List ℕ) (as_long : length m ≡ 256 * length (views m)) where
  abbrev w : World
  w = world m (Some s) b

  abbrev j : Journal
  j = journal (views m) s b

  now : Tells w j
  now = record { pages = refl; long = as_long; state = refl; buffer = refl }

  called_so : (t : Told) (a : Answer Held) → Tells (called w t a).after (Table.called j a)
  unfolding called
  called_so t (refused n) = now
  called_so t (gives s') = record { pages = refl; long = as_long; state = refl; buffer = refl }

  filled_so : (t : Told) (a : Answer (List ℕ)) → Tells (filled w t a).after (Table.putting j a)
  unfolding filled
  filled_so t (refused n) = now
  filled_so t (gives b') = record { pages = refl; long = as_long; state = refl; buffer = refl }

  stepped_so : (a : Answer Step) → Within m a → Tells (stepped w a).after (Table.stepped j a)
  unfolding stepped medium_after
  stepped_so a (refuses n) = now
  stepped_so a (programs p pg s' finished inside narrow) =
      let v = program_views m p pg inside narrow in
      record {
        pages = v;
        long = long_with m (programmed m p pg) _ as_long v
            (program_length m p pg inside narrow.count);
        state = refl;
        buffer = refl;
      }
  stepped_so a (erases x s' finished inside) =
      let v = erase_views m x inside in
      record {
        pages = v;
        long = long_with m (erased m x) _ as_long v
            (erase_length m x inside);
        state = refl;
        buffer = unfold buffer_after in refl;
      }

  step_so : Within m (Table.step_due j) → Tells (happen w Event.step).after (Table.stepped j (Table.step_due j))
  unfolding happen with_state step_due
  step_so i = rw (← as_long) (stepped_so (step_of (length m) (views m) s b) (rw (← as_long) at i))

-- the step of a world that the journal tells
step_tells : (w : World) (j : Journal) → Tells w j → Within w.medium (Table.step_due j)
    → Tells (happen w Event.step).after (Table.stepped j (Table.step_due j))
step_tells w j T i =
    let p : w ≡ world w.medium (Some j.state) j.buffer = rw (T.state, T.buffer) in
    let q : j ≡ journal (views w.medium) j.state j.buffer = rw T.pages in
    let l : length w.medium ≡ 256 * length (views w.medium) = T.long ∙ ap (λ (v : List View). 256 * length v) (sym T.pages) in
    rw (p, q) (step_so w.medium j.state j.buffer l (rw q at i))

-- ---- a recovery

-- whatever state was there or was lost
recovered_so : (w : World) (j : Journal) → views w.medium ≡ j.pages → length w.medium ≡ Table.size j → (a : Answer Recovery)
    → ((n : ℕ) → a ≡ refused n → ⊥)
    → Tells (recovered w a).after (Table.with_state j a)
unfolding recovered
recovered_so w j v l (refused n) f = absurd (f n refl)
recovered_so w j v l (gives r) f = record { pages = v; long = l; state = refl; buffer = refl }

given_not_refused : {x : Recovery} (n : ℕ) → gives x ≡ refused n → ⊥
given_not_refused n q = let z : ◌≡◌ {A = ℕ} 0 1 = cc in absurd (omega arith)

accepted_there : (w : World) (h : History) → Reached w h → (n : ℕ) → recover (length w.medium) (views w.medium) ≡ refused n → ⊥
unfolding Point3
accepted_there w h R n e = given_not_refused n (sym (point3 w h R).accepts ∙ e)

recover_so : (w : World) (h : History) (j : Journal) → Reached w h → views w.medium ≡ j.pages → length w.medium ≡ Table.size j
    → Tells (happen w Event.recover).after (Table.resumed j)
unfolding happen
recover_so w h j R v l =
    let q : recover (length w.medium) (views w.medium) ≡ recover (Table.size j) j.pages = rw (l, v) in
    rw q (recovered_so w j v l (recover (Table.size j) j.pages) (λ n e. accepted_there w h R n (q ∙ e)))

-- ---- a cut inside a program

-- the page of which byte 16 is left FFh
module _ (m : List ℕ) (p : ℕ) (pg : Page) (inside : 256 * p + 256 ≤ length m) (narrow : Narrow pg) where
  abbrev torn_page : List ℕ
  torn_page = set (encode pg) 16 255

  abbrev torn_medium : List ℕ
  torn_medium = put_at m (256 * p) torn_page

  whole_long : length (encode pg) ≡ 256
  whole_long = length_encode pg narrow.count

  torn_long : length torn_page ≡ 256
  torn_long = length-set (encode pg) 16 255 ∙ whole_long

  byte_small : (k : ℕ) → Dec (k ≡ 16) → get_or torn_page k 0 < 256
  byte_small k (yes e) = rw e (omega (arith, get_or-set_same (encode pg) 16 255 0 (omega (arith, whole_long))))
  byte_small k (no n) = omega (arith, get_or-set_other (encode pg) 16 k 255 0 n, (bytes_encode pg narrow.count).each k)

  one : (k : ℕ) → k < 8 → bit k 255 ≡ 1
  one k l = eqb-true (bit k 255) 1 (below_at 8 (λ k. eqb (bit k 255) 1) (unfold all_below bit in refl) k l)

  each_bit : (i k : ℕ) → i < 256 → k < 8 → Dec (i ≡ 16)
      → (bit_at torn_medium (256 * p + i) k ≡ 1) ⊎ (bit_at torn_medium (256 * p + i) k ≡ bit_at (programmed m p pg) (256 * p + i) k)
  unfolding bit_at programmed
  each_bit i k l b (yes e) =
      inl (ap (bit k) (put_inside m p torn_page inside torn_long i l ∙ ap (λ (x : ℕ). get_or torn_page x 0) e
      ∙ get_or-set_same (encode pg) 16 255 0 (omega (arith, whole_long))) ∙ one k b)
  each_bit i k l b (no n) =
      inr (ap (bit k) (put_inside m p torn_page inside torn_long i l ∙ get_or-set_other (encode pg) 16 i 255 0 n
      ∙ sym (put_inside m p (encode pg) inside whole_long i l)))

  torn_allowed : Bytes m → CutProgram m p pg torn_medium
  unfolding CutProgram
  torn_allowed bs =
      record {
        size = put_length m p torn_page inside torn_long;
        bytes = bytes_put m (256 * p) torn_page bs (record { each = λ k. byte_small k (ℕ_discrete k 16) });
        inside = λ i k low high b. let z : 256 * p + (i - 256 * p) ≡ i = omega arith in rw z at
            (each_bit (i - 256 * p) k (omega arith) b (ℕ_discrete (i - 256 * p) 16));
        outside = λ i o. put_outside m p torn_page inside torn_long i o;
      }

-- a step that keeps the invariant is one within the medium
good_within : (m : List ℕ) (s : Held) (b : List ℕ) (h : History) → Upheld (world m (Some s) b) h → (a : Answer Step)
    → Good (views m) s b h a → Within m a
unfolding Good
good_within m s b h U (refused n) G = refuses n
good_within m s b h U (gives (Step.program p pg s' finished)) G = programs p pg s' finished (there m s b h U p pg s' G) G.fits_in
good_within m s b h U (gives (Step.erase x s' finished)) G = erases x s' finished (block_there m s b h U x s' G)

-- ---- a world reached

module _ (m : List ℕ) (s : Held) (b : List ℕ) (h : History) (R : Reached (world m (Some s) b) h) where
  upheld : Upheld (world m (Some s) b) h
  upheld = reached_upheld (world m (Some s) b) h R

  as_long : length m ≡ 256 * length (views m)
  as_long = long_as m upheld.size

  due_within : Within m (step_of (length m) (views m) s b)
  due_within = good_within m s b h upheld (step_of (length m) (views m) s b) (due_good m s b h upheld)

  -- as the table asks for the step, by the length of its pages
  step_within : Within m (Table.step_due (journal (views m) s b))
  step_within = subst (λ (n : ℕ). Within m (step_of n (views m) s b)) as_long due_within

  torn_so : (p : ℕ) (pg : Page) (s' : Held) (finished : Bool)
      → Table.step_due (journal (views m) s b) ≡ gives (Step.program p pg s' finished)
      → TornSo (world m (Some s) b) (journal (views m) s b)
  torn_so p pg s' finished e =
      record {
        left = left;
        allowed = allowed;
        goes_on =
            recover_so (happen (world m (Some s) b) cuts).after (tell h (happen (world m (Some s) b) cuts).told)
            (Table.torn (journal (views m) s b)) (Reached.next (world m (Some s) b) h cuts R)
            (ap (λ (x : World). views x.medium) after_is ∙ sees ∙ ap (λ (x : Journal). x.pages) (sym torn_is))
            (ap (λ (x : World). length x.medium) after_is
            ∙ long_with m left _ as_long sees (put_length m p (torn_page m p pg inside narrow) inside (torn_long m p pg inside narrow))
            ∙ ap (λ (x : Journal). Table.size x) (sym torn_is));
      }
    where
      fits : Within m (gives (Step.program p pg s' finished)) → (256 * p + 256 ≤ length m) × Narrow pg
      fits (programs p₁ pg₁ s₁ finished₁ i n) = (i, n)

      inside : 256 * p + 256 ≤ length m
      inside = (fits (rw e at step_within)).0

      narrow : Narrow pg
      narrow = (fits (rw e at step_within)).1

      left : List ℕ
      left = torn_medium m p pg inside narrow

      due_is : step_due (world m (Some s) b) ≡ gives (Step.program p pg s' finished)
      due_is = unfold step_due with_state in (ap (λ (n : ℕ). step_of n (views m) s b) as_long ∙ e)

      allowed : CutOf m (step_due (world m (Some s) b)) left
      allowed = subst (λ (a : Answer Step). CutOf m a left) (sym due_is)
          (unfold CutOf in torn_allowed m p pg inside narrow upheld.guarded.bytes)

      cuts : Event (world m (Some s) b)
      cuts = Event.cut_inside left allowed

      after_is : (happen (world m (Some s) b) cuts).after ≡ world left None (blank 256)
      after_is = unfold happen in (ap (λ (a : Answer Step). (cut_short (world m (Some s) b) left a).after) due_is ∙ (unfold cut_short in refl))

      sees : views left ≡ set (views m) p (view_of (set (encode pg) 16 255))
      sees = put_views m p (torn_page m p pg inside narrow) inside (torn_long m p pg inside narrow)

      torn_is : Table.torn (journal (views m) s b) ≡ journal (set (views m) p (view_of (set (encode pg) 16 255))) s (blank 256)
      torn_is = ap (Table.torn_in (journal (views m) s b)) e

  cut_between : Tells (happen (happen (world m (Some s) b) Event.cut).after Event.recover).after (Table.resumed (journal (views m) s b))
  cut_between =
      recover_so (happen (world m (Some s) b) Event.cut).after (tell h (happen (world m (Some s) b) Event.cut).told)
      (journal (views m) s b) (Reached.next (world m (Some s) b) h Event.cut R)
      (unfold happen in refl) (unfold happen in as_long)

  goes : GoesWith (world m (Some s) b) (journal (views m) s b)
  unfolding happen with_state
  goes =
      record {
        append = λ es narrow small. rw (← as_long) (called_so m s b as_long (began_append _) _);
        commit = rw (← as_long) (called_so m s b as_long began_commit _);
        buffering = λ es narrow small. rw (← as_long) (filled_so m s b as_long (put_in _) _);
        flush = rw (← as_long) (called_so m s b as_long began_flush _);
        step = step_so m s b as_long step_within;
        cut_between = cut_between;
        cut_inside = torn_so;
      }

pub tied : Tied
unfolding Tied
tied w h j R T =
    let p : w ≡ world w.medium (Some j.state) j.buffer = rw (T.state, T.buffer) in
    let q : j ≡ journal (views w.medium) j.state j.buffer = rw T.pages in
    rw (p, q) (goes w.medium j.state j.buffer h (rw p at R))

-- ---- the program as it was before Paper 8

went_with : (m : List ℕ) (s : Held) (b : List ℕ) (h : History) → Before (world m (Some s) b) h
    → WentWith (world m (Some s) b) (journal (views m) s b)
unfolding happened with_state step_due_before
went_with m s b h B =
    record {
      append = λ es narrow small. rw (← long) (called_so m s b long (began_append _) _);
      step = rw (← long) (stepped_so m s b long (step_before (length m) (views m) s b)
          (good_within m s b h U (step_before (length m) (views m) s b) (due_before m s b h U)));
      taken_over_lem = recover_so (switched_off (world m (Some s) b)) h (journal (views m) s b) (Reached.taken_over B) refl long;
    }
  where
    U : Upheld (world m (Some s) b) h
    U = before_upheld (world m (Some s) b) h B

    long : length m ≡ 256 * length (views m)
    long = long_as m U.size

tied_before : TiedBefore
unfolding TiedBefore
tied_before w h j B T =
    let p : w ≡ world w.medium (Some j.state) j.buffer = rw (T.state, T.buffer) in
    let q : j ≡ journal (views w.medium) j.state j.buffer = rw T.pages in
    rw (p, q) (went_with w.medium j.state j.buffer h (rw p at B))

-- ---- where the table starts

-- a medium of spoilt pages, all bytes 0
abbrev pub unformatted : List ℕ
unformatted = replicate 16384 0

pub long : length unformatted ≡ 16384
long = length-replicate {A = ℕ} 16384 0

zero_spoilt : view_of (replicate 256 0) ≡ spoilt
unfolding view_of whole_bytes clean_bytes check zero_count le zeros zero_bits all_ones
zero_spoilt = refl

sees_spoilt : views unformatted ≡ replicate 64 spoilt
sees_spoilt =
    views_alike unformatted (replicate 256 0) (length-replicate {A = ℕ} 256 0)
    (λ p i there l. get_or-replicate {A = ℕ} 16384 (256 * p + i) 0 0 (omega (arith, long)) ∙ sym (get_or-replicate {A = ℕ} 256 i 0 0 l))
    ∙ ap (λ (n : ℕ). replicate (n / 256) (view_of (replicate 256 0))) long ∙ ap (λ (x : View). replicate 64 x) zero_spoilt

pub zero_bytes : (n : ℕ) → Bytes (replicate n 0)
zero_bytes zero = below_nil (omega arith)
zero_bytes (suc n) = below_cons (omega arith) (zero_bytes n)

size_ok_lem : size_ok (length unformatted) ≡ true
size_ok_lem = ap size_ok long ∙ (unfold size_ok every in refl)

-- the world where formatting begins, and the table's journal of it
abbrev pub unerased : World
unerased = world unformatted (Some (formatting 4)) (blank 256)

abbrev begun_format : Journal
begun_format = Table.called (journal (replicate 64 spoilt) (formatting 0) (blank 256)) (format_of 16384)

format_tells : Tells unerased begun_format
unfolding format_of size_ok every under
format_tells = record { pages = sees_spoilt; long = long; state = refl; buffer = refl }

-- a step of formatting on 64 pages: an erase, and the page
erase_tells : (w : World) (j : Journal) (k : ℕ) (s : Held) → Tells w j → Table.size j ≡ 16384 → k < 4
    → Table.step_due j ≡ gives (Step.erase k s false)
    → Tells (happen w Event.step).after (Table.stepped j (Table.step_due j))
erase_tells w j k s T l few e = step_tells w j T (rw e (erases k s false (omega (arith, T.long, l))))

page_tells : (w : World) (j : Journal) (pg : Page) (s : Held) → Tells w j → Table.size j ≡ 16384 → Narrow pg
    → Table.step_due j ≡ gives (Step.program 0 pg s true)
    → Tells (happen w Event.step).after (Table.stepped j (Table.step_due j))
page_tells w j pg s T l narrow e = step_tells w j T (rw e (programs 0 pg s true (omega (arith, T.long, l)) narrow))

narrow_base : Narrow (page 2 3 1 [])
unfolding keys_of words_of
narrow_base =
    record {
      kind = omega arith;
      flags = omega arith;
      count = omega arith;
      serial = omega arith;
      marks = omega arith;
      keys = below_nil
          (omega arith);
      words = below_nil (omega arith);
      tidy = refl;
    }

-- four erases and the page
pub formatted_tells : Tells (lent_anew (steps_on 5 unerased)) Table.fresh
unfolding
    steps_on Table.steps every all all_below one_if value_or under size_ok put_at seen is_clean wholly_clean head_fit place_fit index_fit group_ok
    base_pages done_fit format_fit pending_fit fit is_idle flush_ok groups_fit buffer_fit fit_with buffered_in in_making gathered Buffer.holding
    rising rising_from formatting format_of formatted serials_for programming format_step due step_of none_erased was_erased now_erased erasing
    programs_due needs_erase erased_first buffer_after blank all_ones clean_bytes
formatted_tells =
    let T₁ = erase_tells unerased begun_format 0 _ format_tells refl (omega arith) refl in
    let T₂ = erase_tells _ _ 1 _ T₁ refl (omega arith) refl in
    let T₃ = erase_tells _ _ 2 _ T₂ refl (omega arith) refl in
    let T₄ = erase_tells _ _ 3 _ T₃ refl (omega arith) refl in
    let T = page_tells _ _ (page 2 3 1 []) _ T₄ refl narrow_base refl in
    record { pages = T.pages; long = T.long; state = T.state; buffer = refl }

four_blocks : length unformatted / 4096 ≡ 4
four_blocks = ap (λ (n : ℕ). n / 4096) long

-- all blocks are erased
erased_all_lem : erased_all unformatted (zero_bytes 16384) size_ok_lem ≡ steps_on 4 unerased
erased_all_lem = ap (λ (n : ℕ). steps_on n (world unformatted (Some (formatting n)) (blank 256))) four_blocks

last_tells : Tells (lent_anew (happen (steps_on 4 unerased) Event.step).after) Table.fresh
unfolding steps_on
last_tells = formatted_tells

starts : Starts
starts =
    record {
      before = erased_all unformatted (zero_bytes 16384) size_ok_lem;
      under_way_lem = all_under_way unformatted (zero_bytes 16384) size_ok_lem;
      last = over unformatted (zero_bytes 16384) size_ok_lem;
      tells = subst (λ (w : World). Tells (lent_anew (happen w Event.step).after) Table.fresh) (sym erased_all_lem) last_tells;
    }

pub shown : Shown
shown = record { agrees = agree; starts = starts; goes = tied; went = tied_before }
