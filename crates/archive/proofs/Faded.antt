-- What the archive files of faded media is the first part of what was made: each of them shows a moment of the list, and what is read at a moment whose next
-- serial is not smaller than that of the mark goes on where the archive is.
use mathlib.Core.Path.{◌≡◌, refl, sym, ap, ◌∙◌}
use mathlib.Core.Logic.{◌⊎◌, inl, inr}
use Rattle.std.proofs.Common.{Option, None, Some}
use mathlib.Core.List.{List, ◌++◌}
use Prim.Native.Nat.{ℕ, ◌≤◌, ◌<◌}
use native.Mathlib.Omega.{arith}
use native.Mathlib.Decide.{dec_lt}
use lib.ListN.{length}
use Rattle.lists.specs.Needs.{refused, gives}
use Rattle.lists.specs.Cells.{Entry}
use Rattle.lists.proofs.Laws.{some_same, none_some}
use Rattle.page.specs.Pages.{View, changes_of}
use Rattle.page.proofs.More.{changes_append}
use Rattle.flash.specs.Medium.{views}
use Rattle.recovery.specs.Recovery.{Recovery, recovery_with, recover as recover_of}
use Rattle.news.specs.declared.News.{News}
use Rattle.news.specs.declared.Mark.{Mark}
use Rattle.news.specs.News.{mark, refused_news, news_after, news_of}
use Rattle.valve_log.specs.History.{History}
use Rattle.valve_log.specs.Reached.{World, Reached, Shows}
use Rattle.valve_log.specs.Made.{groups_made}
use Rattle.fading.specs.Fading.{Faded, AtOrBefore, AsThen, RefusedOrAsThen, refuses, shown, Fades, RefusedWith4To6}
use Rattle.fading.proofs.Same.{base_found, serial_found}
use Rattle.fading.proofs.Made.{made_since}
use Rattle.fading.proofs.Fading.{fades, refused_with_4_to_6}
use Rattle.archive.specs.Archive.{Reading, reading_by, read, Archive, file, FiledOnce}
use Rattle.archive.specs.Faded.{FadedFilings, begun, filing, FirstPart, FadedFirstPart, FadedRefusedWith}
use Rattle.archive.proofs.Kept.{Kept, seen_at, refused_earlier, news_now, news_accepted, read_now}
use Rattle.archive.proofs.Moments.{base_in, serial_in, KeptIn, KeptSince, kept_at, file_since}
use Rattle.archive.proofs.Once.{tallied, sets_filed, along_filings, filed_once}

-- ---- what is read of a faded medium

-- where recovery refuses, so does the call, and nothing is read
news_refused : (k : Mark) (m : List ℕ) (n : ℕ) → recover_of (length m) (views m) ≡ refused n → news_of k m ≡ refused_news n
unfolding news_of news_after
news_refused k m n e = rw e

none_read : (k : Mark) (m : List ℕ) (n : ℕ) → recover_of (length m) (views m) ≡ refused n → read k m ≡ None
unfolding read reading_by
none_read k m n e = ap (reading_by (news_of k m) (views m)) e

-- and so where the call refuses
none_by : (n : News) (v : List View) (R : Recovery) → n ≡ refused_news 28 → reading_by n v (gives R) ≡ None
unfolding reading_by
none_by n v R e = rw e

-- the moment that it shows
module _ (m : List ℕ) (v : World) (g : History) (q : Reached v g) (A : AsThen m v.medium g) (a : Archive) where
  S : Shows m g
  S = A.shows

  there : recover_of (length v.medium) (views v.medium) ≡ gives (recovery_with S.log S.state)
  there = sym A.same ∙ S.accepts

  base_then : S.state.head.base ≡ base_in v
  base_then = base_found (length v.medium) (views v.medium) S.log S.state there

  serial_then : S.state.head.serial ≡ serial_in v
  serial_then = serial_found (length v.medium) (views v.medium) S.log S.state there

  pub earlier_then : serial_in v < a.mark.serial → news_of a.mark m ≡ refused_news 28
  earlier_then l = news_now m g S (base_in v) (serial_in v) base_then serial_then a ∙ refused_earlier a.mark (mark (base_in v) (serial_in v) (length (changes_of g.log))) l

  none_then : serial_in v < a.mark.serial → read a.mark m ≡ None
  unfolding read
  none_then l = ap (reading_by (news_of a.mark m) (views m)) S.accepts ∙ none_by (news_of a.mark m) (views m) (recovery_with S.log S.state) (earlier_then l)

  read_then_lem : KeptIn a v g q → read a.mark m ≡ Some (seen_at a (base_in v) (serial_in v) g)
  read_then_lem K = read_now m g S (base_in v) (serial_in v) base_then serial_then a K

  accepted_then : KeptIn a v g q → (news_of a.mark m).number ≡ 0
  accepted_then K = ap (λ (n : News). n.number) (news_accepted m g S (base_in v) (serial_in v) base_then serial_then a K)

-- ---- along the filings

record Going (w : World) (h : History) (r : Reached w h) (a : Archive) : Type 0 where
  pub all : KeptSince a w h r
  pub first : FirstPart (groups_made r) a

going_file : {w : World} {h : History} {r : Reached w h} {a : Archive} {x : Reading} (v : World) (g : History) (q : Reached v g) → Going w h r a → AtOrBefore q w h r
    → a.mark.serial ≤ serial_in v → Some x ≡ Some (seen_at a (base_in v) (serial_in v) g) → Going w h r (file a x)
unfolding file
going_file {w} {h} {r} {a} {x} v g q G p l e =
    let K = kept_at q w h r G.all p l in
    let M = made_since q w h r p in
    rw (some_same e)
    (record {
      all = file_since a q l w h r p G.all;
      first =
          record {
            rest = changes_of M.after;
            is = ap changes_of M.is ∙ changes_append (groups_made q) M.after ∙ ap (λ (l : List Entry). l ++ changes_of M.after) (sym K.once);
            settings = sets_filed g K (tallied v g q);
          };
    })

going : (w : World) (h : History) (r : Reached w h) (a : Archive) → FadedFilings r a → Going w h r a
unfolding Fades FiledOnce
going w h r a (begun {since = since} {later = later} {p = p} F) =
    let O = filed_once w h r a since later p F in
    record { all = (along_filings w h r a since p later F).good.all; first = record { rest = changes_of since; is = sym O.all; settings = O.settings } }
going w h r a (filing {a = old} {x = x} m F f e) = on (fades w h r m f) (going w h r old F)
  where
    on : RefusedOrAsThen r m → Going w h r old → Going w h r (file old x)
    on (refuses n k) G = none_some (sym (none_read old.mark m n k) ∙ e)
    on (shown t A) G = at (dec_lt (serial_in t.world) old.mark.serial)
      where
        at : Dec (serial_in t.world < old.mark.serial) → Going w h r (file old x)
        at (yes l) = none_some (sym (none_then m t.world t.history t.reached A old l) ∙ e)
        at (no l) =
            let n : old.mark.serial ≤ serial_in t.world = omega arith in
            going_file t.world t.history t.reached G t.passed n
            (sym e ∙ read_then_lem m t.world t.history t.reached A old (kept_at t.reached w h r G.all t.passed n))

-- ---- the claims

pub faded_first_part : FadedFirstPart
unfolding FadedFirstPart
faded_first_part w h r a F = (going w h r a F).first

pub faded_refused_with : FadedRefusedWith
unfolding FadedRefusedWith Fades RefusedWith4To6
faded_refused_with w h r a F m f = on (fades w h r m f) (going w h r a F).all
  where
    on : RefusedOrAsThen r m → KeptSince a w h r
        → ((news_of a.mark m).number ≡ 0) ⊎ (((4 ≤ (news_of a.mark m).number) × ((news_of a.mark m).number ≤ 6)) ⊎ ((news_of a.mark m).number ≡ 28))
    on (refuses n k) K = let e : (news_of a.mark m).number ≡ n = ap (λ (x : News). x.number) (news_refused a.mark m n k) in inr (inl (rw e (refused_with_4_to_6 w h r m f n k)))
    on (shown t A) K = at (dec_lt (serial_in t.world) a.mark.serial)
      where
        at : Dec (serial_in t.world < a.mark.serial)
            → ((news_of a.mark m).number ≡ 0) ⊎ (((4 ≤ (news_of a.mark m).number) × ((news_of a.mark m).number ≤ 6)) ⊎ ((news_of a.mark m).number ≡ 28))
        at (yes l) = inr (inr (ap (λ (x : News). x.number) (earlier_then m t.world t.history t.reached A a l)))
        at (no l) = inl (accepted_then m t.world t.history t.reached A a (kept_at t.reached w h r K t.passed (omega arith)))
