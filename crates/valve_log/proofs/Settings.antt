-- What a reading of the settings meets on a medium reached.
use mathlib.Core.Path.{◌≡◌}
use Rattle.std.proofs.Common.{Option, None, Some}
use mathlib.Core.List.{List}
use Prim.Native.Nat.{ℕ}
use native.Mathlib.Omega.{arith}
use Rattle.flash.specs.Medium.{views}
use Rattle.state.specs.State.{Held}
use Rattle.readings.specs.Readings.{read_settings}
use Rattle.lists.specs.Needs.{under}
use Rattle.valve_log.specs.Reached.{world}
use Rattle.valve_log.specs.Settings.{Stands, StandsReached, SettingsTold}
use Rattle.valve_log.proofs.Events.{Upheld}
use Rattle.valve_log.proofs.Point3.{reached_upheld}
use Rattle.valve_log.proofs.Allowed.{StateAllowed, reached_allowed}
use Rattle.valve_log.proofs.Ready.{Ready}
use Rattle.valve_log.proofs.Steady.{StateReady, reached_ready, standing}

pub stands : StandsReached
unfolding StandsReached
stands w h s R e = told w.medium w.buffer w.state (reached_upheld w h R) (reached_ready w h R) (reached_allowed w h R) e
  where
    told : (m bs : List ℕ) (o : Option Held) → Upheld (world m o bs) h → StateReady (views m) o → StateAllowed o h → o ≡ Some s → Stands m s h
    told m bs None U r A e = let z : ◌≡◌ {A = ℕ} 0 1 = cc in absurd (omega arith)
    told m bs (Some t) U r A e =
        let q : t ≡ s = cc in
        let r' : Ready (views m) t = unfold StateReady in r in
        rw (← q) (standing m t bs h U r' (unfold StateAllowed in A))

pub settings_told : SettingsTold
unfolding SettingsTold StandsReached read_settings under
settings_told w h s lists R e = let S = stands w h s R e in rw (S.size, S.fits, S.sounds, S.settings)
