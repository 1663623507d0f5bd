-- What has been found so far, with the records that are left, comes to what is found of all.
use Rattle.std.proofs.Common.{◌≡◌, drop}
use Rattle.lists.specs.Cells.{listed}
use Rattle.records.specs.Records.{wanted_settings}
use Rattle.wanted_group.specs.Compare.{not_compared, compared_all, so_far, Comparing}
use Rattle.wanted.proofs.compare_all.Given as goal

abbrev pub invariant-loop-r : goal.invariant-loop-r
invariant-loop-r l = record {
  still : Comparing l.c;
  so : compared_all (listed l.present) (so_far l.c) (wanted_settings (drop l.r-index l.list)) ≡ compared_all (listed l.present) not_compared (wanted_settings l.list);
}
