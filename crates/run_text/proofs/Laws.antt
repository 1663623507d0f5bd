-- Laws of a run told call by call through a window, in the shapes that the code's proofs ask.
use mathlib.Core.Path.{◌≡◌, refl, sym, ap, ap₂, ◌∙◌}
use mathlib.Core.Bool.{Bool, true, false, not, cond}
use mathlib.Core.List.{List, [], ◌∷◌, ◌++◌, append-nil, append_assoc}
use Prim.Native.Nat.{ℕ, zero, suc, ◌+◌, ◌-◌, ◌*◌, ◌≤◌, ◌<◌, max}
use native.Mathlib.Omega.{arith}
use native.Mathlib.Numerals.{add-one}
use mir.Val.{Fits}
use mir.Syntax.{w64}
use lib.ListN.{length, take, drop, length-append}
use lib.Seq.{drop-cons, length-take-le, take_all, take-suc}
use borrow.Author.Tests.{not-true, not-false, eqb-true}
use Rattle.lists.specs.Cells.{Setting}
use Rattle.lists.proofs.Laws.{length_table, get_table}
use Rattle.std.specs.Prelude.{◌==◌}
use Rattle.text.specs.Filled.{Filled, starting}
use Rattle.text.specs.Text.{PutsBehind}
use Rattle.text.specs.Window.{window}
use Rattle.text.specs.Parts.{most_printed, SeesIn}
use Rattle.text.proofs.Laws.{puts_none, puts_then}
use Rattle.text.proofs.Seen.{puts_window, puts_full, length_window}
use Rattle.text.proofs.Parts.{sees_put}
use Rattle.codec.proofs.Put.{length_blank}
use Rattle.page.specs.Buffer.{buffer_bytes}
use Rattle.listing.specs.Listing.{refusal_line, log_line, set_line, setting_line}
use Rattle.listing.proofs.Whole.{few_refusal, few_log, few_set, few_setting}
use Rattle.trace.specs.Trace.{Recorded, call_count, code_at, number_at, data_size, well_formed, recorded_at, recorded}
use Rattle.trace.specs.Read.{Listed, HasCall}
use Rattle.trace.proofs.Laws.{sum_start, start_next}
use Rattle.trace.proofs.Form.{formed_lists, formed_call, blocks_high}
use Rattle.player.specs.declared.Reply.{Reply}
use Rattle.player.specs.declared.Told.{Told}
use Rattle.player.specs.declared.Told.TheVariants.{Nothing, Refused, Recovered}
use Rattle.player.specs.Lines.{Line, setting_lines}
use Rattle.player.specs.Run.{played, start_world, lines_from, lines_of}
use Rattle.player.specs.Played.{LastState, held_by, world_by, settings_in, lines_told, lines_by, FewSet, Starts, Playable, PlaysAt}
use Rattle.reply_lines.specs.declared.PrintedLine.{PrintedLine}
use Rattle.reply_lines.specs.declared.PrintedLine.TheVariants as printed
use Rattle.reply_lines.proofs.Laws.{many_are, few_many}
use Rattle.reply_lines.specs.Printed.{line_of, CountsLines, GivesLine}
use Rattle.run_text.specs.declared.Run.{Run}
use Rattle.run_text.specs.RunText.{line_text, lines_text, run_text}
use Rattle.run_text.specs.Running.{most_of_call, left_in, Stands, Standing, StartsRun, Ready, Turns}

-- ---- one line

module _ {t u : Filled} (l : PrintedLine) where
  pub line_refusal : (n : ℕ) → l ≡ printed.Refusal n → PutsBehind t (refusal_line n) u → PutsBehind t (line_text (line_of l)) u
  unfolding line_text
  line_refusal n e p = rw e p

  pub line_log : (n : ℕ) → l ≡ printed.LogLength n → PutsBehind t (log_line n) u → PutsBehind t (line_text (line_of l)) u
  unfolding line_text
  line_log n e p = rw e p

  pub line_set : (n : ℕ) → l ≡ printed.ValvesSet n → PutsBehind t (set_line n) u → PutsBehind t (line_text (line_of l)) u
  unfolding line_text
  line_set n e p = rw e p

  pub line_setting : (k w x : ℕ) → l ≡ printed.Setting k w → x ≡ k → PutsBehind t (setting_line x w) u → PutsBehind t (line_text (line_of l)) u
  unfolding line_text
  line_setting k w x e q p = rw e (rw q at p)

-- ---- the lines of a reply

lines_append : (a b : List Line) → lines_text (a ++ b) ≡ lines_text a ++ lines_text b
unfolding lines_text
lines_append [] b = refl
lines_append (l ∷ a) b =
    ap (λ (t : List ℕ). line_text l ++ t) (lines_append a b)
    ∙ sym (append_assoc (line_text l) (lines_text a) (lines_text b))

lines_one : (l : Line) → lines_text (l ∷ []) ≡ line_text l
unfolding lines_text
lines_one l = append-nil (line_text l)

few_lines : (l : List Setting) → length (lines_text (setting_lines l)) ≤ 42 * length l
unfolding lines_text line_text setting_lines
few_lines [] = omega arith
few_lines (x ∷ l) =
    omega (arith, few_lines l, few_setting x.key x.val, length-append (setting_line x.key x.val) (lines_text (setting_lines l)))

few_told : (t : Told) (S : List Setting) → ((log : ℕ) → t ≡ Recovered log → length S ≤ 192) → length (lines_text (lines_told t S)) ≤ most_of_call
unfolding lines_text line_text lines_told
few_told Nothing S h = omega arith
few_told (Refused n) S h = omega (arith, length-append (refusal_line n) [], few_refusal n)
few_told (Recovered log) S h =
    let i = h log refl in
    let z = length-append (set_line (length S)) (lines_text (setting_lines S)) in
    let y = length-append (log_line log) (set_line (length S) ++ lines_text (setting_lines S)) in
    omega (arith, i, z, y, few_log log, few_set (length S), few_lines S)

few_reply : (m : List ℕ) (r : Reply) → FewSet r → length (lines_text (lines_by m r)) ≤ most_of_call
few_reply m r f = few_told r.told (settings_in m r.last) (λ log e. let a = many_are m r.last in let b = few_many r log e f in omega arith)

-- k lines were put behind what was there
abbrev pub Replying : List ℕ → Reply → Filled → Filled → ℕ → Type 0
Replying m r t u k = PutsBehind t (lines_text (take k (lines_by m r))) u

pub replying_start : (m : List ℕ) (r : Reply) (t : Filled) → Replying m r t t 0
unfolding lines_text
replying_start m r t = puts_none

module _ (m : List ℕ) (r : Reply) (n : ℕ) (c : CountsLines n r) (t u : Filled) (k : ℕ) (s : Replying m r t u k) where
  pub replying_next : k < n → (l : PrintedLine) → GivesLine m r k l → (v : Filled) → PutsBehind u (line_text (line_of l)) v → Replying m r t v (k + 1)
  replying_next h l g v p =
      let z : k + 1 ≡ suc k = add-one k in
      let e : take (k + 1) (lines_by m r) ≡ take k (lines_by m r) ++ (line_of l ∷ []) =
      ap (λ (j : ℕ). take j (lines_by m r)) z
      ∙ take-suc (lines_by m r) k (Line.refusal 0) (omega (arith, c.is m))
      ∙ ap (λ (x : Line). take k (lines_by m r) ++ (x ∷ [])) (sym g.is) in
      let f : lines_text (take (k + 1) (lines_by m r)) ≡ lines_text (take k (lines_by m r)) ++ line_text (line_of l) =
      ap lines_text e
      ∙ lines_append (take k (lines_by m r)) (line_of l ∷ [])
      ∙ ap (λ (x : List ℕ). lines_text (take k (lines_by m r)) ++ x) (lines_one (line_of l)) in
      rw f (puts_then s p)

  pub replying_end : n ≤ k → PutsBehind t (lines_text (lines_by m r)) u
  replying_end h =
      let z : length (lines_by m r) ≤ k = omega (arith, c.is m) in
      rw (take_all k (lines_by m r) z) at s

-- ---- one call

-- of k calls from call i on, the first is call i
calls_cons : (t : List ℕ) (i k : ℕ) → i < call_count t → 0 < k → take k (drop i (recorded t)) ≡ recorded_at t i ∷ take (k - 1) (drop (i + 1) (recorded t))
unfolding recorded
calls_cons t i zero h o = absurd (omega arith)
calls_cons t i (suc k) h o =
    let z : suc k - 1 ≡ k = omega arith in
    let d : Recorded = Recorded.commit in
    let e : drop i (recorded t) ≡ recorded_at t i ∷ drop (i + 1) (recorded t) =
    drop-cons (recorded t) i d (omega (arith, length_table (recorded_at t) d (call_count t)))
    ∙ ap₂ (λ (x : Recorded) (j : ℕ). x ∷ drop j (recorded t)) (get_table (recorded_at t) d (call_count t) i h) (sym (add-one i)) in
    ap (take (suc k)) e ∙ ap (λ (j : ℕ). recorded_at t i ∷ take j (drop (i + 1) (recorded t))) (sym z)

module _ (t : List ℕ) (i k : ℕ) (l : LastState) (m b : List ℕ) (h : i < call_count t) (o : 0 < k) (r : Reply) (m' b' : List ℕ) (p : PlaysAt t i m l b r m' b') where
  left_on : left_in t i k l m b ≡ lines_text (lines_by m' r) ++ left_in t (i + 1) (cond r.ends 0 (k - 1)) r.last m' b'
  unfolding left_in lines_from
  left_on =
      ap (λ (x : List Recorded). lines_text (lines_from (world_by m l b) x)) (calls_cons t i k h o)
      ∙ lines_append (played (world_by m l b) (recorded_at t i)).lines _
      ∙ ap₂ (λ (x y : List ℕ). x ++ y) (ap lines_text (sym p.lines)) (rest r.ends refl)
    where
      rest : (e : Bool) → r.ends ≡ e
          → lines_text (cond (played (world_by m l b) (recorded_at t i)).ends [] (lines_from (played (world_by m l b) (recorded_at t i)).moment.after (take (k - 1) (drop (i + 1) (recorded t)))))
          ≡ lines_text (lines_from (world_by m' r.last b') (take (cond r.ends 0 (k - 1)) (drop (i + 1) (recorded t))))
      rest true e = rw (← p.ends, e)
      rest false e = rw (← p.ends, e, ← p.after)

module _ (t : List ℕ) (x : Run) (m b : List ℕ) (y : Ready t x m b) where
  turn_stands : Stands t x.call x.left x.at
  turn_stands = y.stands.on y.on

  turn_call : x.call < call_count t
  turn_call = let s = turn_stands.calls in let o = y.on in omega arith

  pub turn_has : HasCall t x.call
  turn_has = formed_call t turn_stands.formed x.call turn_call

  pub turn_plays : Playable t x.call x.at m b
  turn_plays = record { has = turn_has; start = turn_stands.start; small = y.small; lent = y.lent }

  pub turn_more : Fits w64 (x.call + 1)
  turn_more = let l = formed_lists t turn_stands.formed in omega (arith, l.long, l.room, turn_call)

  module _ (n : ℕ) (e : n ≡ data_size (code_at t x.call) (number_at t x.call)) where
    pub turn_place : Fits w64 (x.at + n)
    turn_place = let l = formed_lists t turn_stands.formed in omega (arith, l.long, turn_stands.start, turn_has.bytes)

    pub turn_is : (out : Filled) (r : Reply) (m' b' : List ℕ) (out' : Filled) (x' : Run) → PlaysAt t x.call m x.last b r m' b'
        → PutsBehind out (lines_text (lines_by m' r)) out'
        → x' ≡ record { left = cond r.ends 0 (x.left - 1); call = x.call + 1; at = x.at + n; last = r.last }
        → Turns t x m b out x' m' b' out'
    turn_is out r m' b' out' x' p h q =
        rw q
        (record {
          fewer = few r.ends;
          next = refl;
          stands = record { on = on r.ends };
          piece = lines_text (lines_by m' r);
          short = few_reply m' r p.few;
          so = left_on t x.call x.left x.last m b turn_call y.on r m' b' p;
          puts = h;
        })
      where
        few : (c : Bool) → cond c 0 (x.left - 1) < x.left
        few true = y.on
        few false = let o = y.on in omega arith

        on : (c : Bool) → 0 < cond c 0 (x.left - 1) → Stands t (x.call + 1) (cond c 0 (x.left - 1)) (x.at + n)
        on true o = absurd (omega arith)
        on false o =
            let d = start_next t x.call in
            let s = turn_stands.start in
            let c = turn_stands.calls in
            record { formed = turn_stands.formed; calls = omega arith; start = omega arith }

-- the run after a call
module _ (r : Reply) (k i at : ℕ) where
  abbrev after : ℕ → Run
  after left = record { left = left; call = i; at = at; last = r.last }

  pub moved_ends : r.ends ≡ true → after 0 ≡ after (cond r.ends 0 k)
  moved_ends e = ap after (rw e)

  pub moved_on : r.ends ≡ false → after k ≡ after (cond r.ends 0 k)
  moved_on e = ap after (rw e)

-- ---- the start

module _ (t m b : List ℕ) (w : well_formed t ≡ true) where
  pub first_listed : Listed t
  first_listed = formed_lists t w

  module _ (n : ℕ) (q : n ≡ call_count t) where
    pub first_times : Fits w64 (16 * n)
    first_times = let l = first_listed in omega (arith, l.long, l.room)

    pub first_place_lem : Fits w64 (8 + 16 * n)
    first_place_lem = let l = first_listed in omega (arith, l.long, l.room)

    pub first_is : length m ≡ 4096 * number_at t 0 → (l : LastState) (m' b' : List ℕ) → Starts m l m' b'
        → StartsRun t (record { left = n; call = 0; at = 8 + 16 * n; last = l }) m' b'
    unfolding run_text lines_of left_in world_by held_by start_world recorded
    first_is z l m' b' s =
        let c : take n (recorded t) ≡ recorded t = take_all n (recorded t) (omega (arith, length_table (recorded_at t) Recorded.commit (call_count t))) in
        let d = sum_start t n q first_listed in
        record {
          stands = record { on = λ o. record { formed = w; calls = omega arith; start = d.so } };
          first = refl;
          small = let k = blocks_high t w in omega (arith, ap length s.medium, length_blank (length m));
          lent = ap length s.buffer ∙ length_blank 256;
          so = rw (w, c, s.medium, z, s.stateless, s.buffer);
        }

-- ---- the loop over the calls: what was told, and what is left

pub record Running (t : List ℕ) (from : ℕ) (m₀ b₀ : List ℕ) (old : Filled) (x : Run) (m b : List ℕ) (u : Filled) : Type 0 where
  pub stands : Standing t x
  pub medium : length m ≡ length m₀
  pub buffer : length b ≡ length b₀
  pub small : length m ≤ 65536
  pub lent : length b ≡ buffer_bytes
  pub far : x.call ≤ call_count t
  pub told : List ℕ
  pub short : length told ≤ most_of_call * x.call
  pub so : run_text t ≡ told ++ left_in t x.call x.left x.last m b
  pub puts : PutsBehind (starting old.list old.room from) told u

pub running_start : (t : List ℕ) (from : ℕ) (old u : Filled) (x : Run) (m b : List ℕ) → u ≡ starting old.list old.room from → StartsRun t x m b
    → Running t from m b old x m b u
running_start t from old u x m b e s =
    record {
      stands = s.stands;
      medium = refl;
      buffer = refl;
      small = s.small;
      lent = s.lent;
      far = let f = s.first in omega arith;
      told = [];
      short = omega arith;
      so = s.so;
      puts = rw e puts_none;
    }

module _ (t : List ℕ) (from : ℕ) (m₀ b₀ : List ℕ) (old : Filled) (x : Run) (m b : List ℕ) (u : Filled) (R : Running t from m₀ b₀ old x m b u) where
  pub running_medium : length m ≡ length m₀
  running_medium = R.medium

  pub running_buffer : length b ≡ length b₀
  running_buffer = R.buffer

  pub running_next : (o : x.left ≡ 0 → ⊥) (x' : Run) (m' b' : List ℕ) (v : Filled) → length m' ≡ length m → length b' ≡ length b
      → Turns t x m b u x' m' b' v → Running t from m₀ b₀ old x' m' b' v
  running_next o x' m' b' v lm lb w =
      let h : 0 < x.left = omega arith in
      let s = (R.stands.on h).calls in
      let n = w.next in
      let i = R.short in
      let j = w.short in
      record {
        stands = w.stands;
        medium = lm ∙ R.medium;
        buffer = lb ∙ R.buffer;
        small = let k = R.small in omega arith;
        lent = lb ∙ R.lent;
        far = omega arith;
        told = R.told ++ w.piece;
        short = omega (arith, length-append R.told w.piece);
        so =
            R.so
            ∙ ap (λ (l : List ℕ). R.told ++ l) w.so
            ∙ sym (append_assoc R.told w.piece (left_in t x'.call x'.left x'.last m' b'));
        puts = puts_then R.puts w.puts;
      }

  pub running_ready : (x.left ≡ 0 → ⊥) → Ready t x m b
  running_ready o = record { on = omega arith; stands = R.stands; small = R.small; lent = R.lent }

  module _ (w : well_formed t ≡ true) where
    -- no part reaches past what was told
    told_low : from + length u.text ≤ max from most_printed
    told_low =
        let l = formed_lists t w in
        let f = R.far in
        let s = R.short in
        omega (arith, l.long, l.room, ap length (puts_window R.puts), length_window from old.room R.told)

    seen : u.text ≡ window from old.room (run_text t) → SeesIn (run_text t) from old u
    seen h = record { list = R.puts.list; room = R.puts.room; is = h ∙ ap (λ (k : ℕ). window from k (run_text t)) (sym R.puts.room); low = told_low }

    pub running_end : x.left ≡ 0 → SeesIn (run_text t) from old u
    unfolding left_in lines_from lines_text
    running_end e =
        let z : left_in t x.call x.left x.last m b ≡ [] = rw e in
        let y : run_text t ≡ R.told = R.so ∙ ap (λ (l : List ℕ). R.told ++ l) z ∙ append-nil R.told in
        seen (puts_window R.puts ∙ ap (window from old.room) (sym y))

    pub running_full : (full : Bool) → full ≡ (length u.text == u.room) → full ≡ true → SeesIn (run_text t) from old u
    running_full full e f =
        let i = eqb-true (length u.text) u.room (sym e ∙ f) in
        let k : old.room ≤ length u.text = omega (arith, R.puts.room) in
        seen (puts_full R.puts k (left_in t x.call x.left x.last m b) ∙ ap (window from old.room) (sym R.so))

-- ---- the medium at the front of a lent list

module _ (t : List ℕ) (w : well_formed t ≡ true) where
  pub size_listed : Listed t
  size_listed = formed_lists t w

  pub size_some : 0 < call_count t
  size_some = size_listed.some

  module _ (n : ℕ) (q : n ≡ number_at t 0) where
    pub size_fits : Fits w64 (4096 * n)
    size_fits = let k = blocks_high t w in omega arith

    pub size_is : 4096 * n ≡ 4096 * number_at t 0
    size_is = omega arith

    pub size_low : 4096 * n ≤ 65536
    size_low = let k = blocks_high t w in omega arith

-- ---- the whole

pub broken_is : (n from : ℕ) (old t u : Filled) → n ≡ 26 → t ≡ starting old.list old.room from → PutsBehind t (refusal_line n) u → SeesIn (refusal_line 26) from old u
broken_is n from old t u e o p =
    let f : length (refusal_line 26) ≤ most_printed = omega (arith, few_refusal 26) in
    sees_put refl refl f (rw (e, o) at p)

module _ (t : List ℕ) (r : Bool) (e : r ≡ well_formed t) where
  pub window_broken : not r ≡ true → (from : ℕ) (old u : Filled) → SeesIn (refusal_line 26) from old u → SeesIn (run_text t) from old u
  unfolding run_text lines_of lines_text line_text
  window_broken h from old u s =
      let z : well_formed t ≡ false = sym e ∙ not-true r h in
      let y : run_text t ≡ refusal_line 26 = rw z (append-nil (refusal_line 26)) in
      rw y s

  pub window_formed : not r ≡ false → well_formed t ≡ true
  window_formed h = sym e ∙ not-false r h

  module _ (n : ℕ) (l : n ≤ 65536) (m : List ℕ) (z : length m ≡ 65536) where
    pub window_room : n ≤ length m
    window_room = omega arith

    pub window_part : n ≡ length (take n m)
    window_part = sym (length-take-le n m window_room)

    pub window_medium : n ≡ 4096 * number_at t 0 → length (take n m) ≡ 4096 * number_at t 0
    window_medium q = sym window_part ∙ q
