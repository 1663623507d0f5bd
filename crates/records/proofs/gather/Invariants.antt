-- What is noted of the records so far, with those that are left, comes to what is noted of the whole list.
use Rattle.std.proofs.Common.{◌≡◌, drop}
use Rattle.records.specs.Records.{unnoted, noted_all}
use Rattle.records.proofs.gather.Given as goal

abbrev pub invariant-loop-r : goal.invariant-loop-r
invariant-loop-r l = noted_all l.n (drop l.r-index l.list) ≡ noted_all unnoted l.list
