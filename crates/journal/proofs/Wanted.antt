-- The group for wanted openings leads from the history's settings.
use mathlib.Core.Path.{ap, ◌∙◌}
use Rattle.lists.specs.Needs.{under}
use Rattle.wanted.specs.Wanted.{wanted_of, reply}
use Rattle.valve_log.specs.Settings.{StandsReached}
use Rattle.valve_log.proofs.Settings.{stands}
use Rattle.records.specs.Records.{wanted_settings}
use Rattle.journal.specs.Run.{world_of, meant}
use Rattle.journal.specs.Wanted.{WantedTold, WantedToldOfCode}
use Rattle.journal.proofs.Chain.{runs}

pub wanted_told : WantedTold
unfolding WantedTold StandsReached wanted_of under
wanted_told x h s w R e = let S = stands x h s R e in rw (S.size, S.fits, S.sounds, S.settings)

pub wanted_told_of_code : WantedToldOfCode
unfolding WantedToldOfCode WantedTold meant
wanted_told_of_code x h s records r R e p = p ∙ ap reply (wanted_told (world_of x) h _ (wanted_settings records) (runs x h R) (rw e))
