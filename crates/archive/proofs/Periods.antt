-- The archive over several formattings: period after period.
use mathlib.Core.Path.{◌≡◌, refl, sym, ap, ap₂, ◌∙◌}
use Rattle.std.proofs.Common.{Option}
use mathlib.Core.List.{List, [], ◌++◌, append-nil, append_assoc}
use Rattle.lists.specs.Cells.{Entry}
use Rattle.page.specs.Pages.{changes_of}
use Rattle.valve_log.specs.Made.{groups_made}
use Rattle.archive.specs.Archive.{Archive, FiledOnce}
use Rattle.archive.specs.Periods.{Periods, none, period, FiledOverPeriods}
use Rattle.archive.proofs.Kept.{no_changes}
use Rattle.archive.proofs.Once.{filed_once}

filed_before : (made filed : List Entry) → Periods made filed → filed ≡ made
unfolding FiledOnce
filed_before made filed none = refl
filed_before made filed (period {made = m} {filed = f} {w = w} {h = h} {r = r} {a = a} {later = later} {p = p} P F) =
    let e : a.filed ≡ changes_of (groups_made r) = sym (append-nil a.filed) ∙ ap (◌++◌ a.filed) (sym no_changes) ∙ (filed_once w h r a [] later p F).all in
    ap₂ ◌++◌ (filed_before m f P) e

pub filed_over_periods : FiledOverPeriods
unfolding FiledOverPeriods FiledOnce
filed_over_periods made filed P w h r a since later p F =
    append_assoc filed a.filed (changes_of since) ∙ ap₂ ◌++◌ (filed_before made filed P) (filed_once w h r a since later p F).all
