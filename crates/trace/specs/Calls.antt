-- The form of a trace, said of the calls that it records: "The first code is 1, used only once; after 6 comes 7", and 4 to 16 blocks.
use Rattle.std.specs.Prelude.{◌≡◌, Bool, true, false, List, ℕ, ◌+◌, ◌≤◌, ◌<◌}
use Rattle.trace.specs.Trace.{Recorded, call_count, number_at, well_formed, recorded_at}

-- whether a call is a format
unfoldable pub is_format : Recorded → Bool
is_format (Recorded.format n) = true
is_format (Recorded.append ks ws) = false
is_format Recorded.commit = false
is_format (Recorded.collect b) = false
is_format Recorded.step = false
is_format (Recorded.cut name pattern) = false
is_format Recorded.recover = false
is_format (Recorded.buffer ks ws) = false
is_format Recorded.flush = false

-- whether it is a cut
unfoldable pub is_cut : Recorded → Bool
is_cut (Recorded.format n) = false
is_cut (Recorded.append ks ws) = false
is_cut Recorded.commit = false
is_cut (Recorded.collect b) = false
is_cut Recorded.step = false
is_cut (Recorded.cut name pattern) = true
is_cut Recorded.recover = false
is_cut (Recorded.buffer ks ws) = false
is_cut Recorded.flush = false

-- the calls of a trace are in the order that the form asks
pub record InOrder (t : List ℕ) : Type 0 where
  pub some : 0 < call_count t
  pub first : recorded_at t 0 ≡ Recorded.format (number_at t 0)
  pub fewest : 4 ≤ number_at t 0
  pub most : number_at t 0 ≤ 16
  pub once : (i : ℕ) → 0 < i → i < call_count t → is_format (recorded_at t i) ≡ false
  pub cut_not_last : (i : ℕ) → i < call_count t → is_cut (recorded_at t i) ≡ true → i + 1 < call_count t
  pub after_cut : (i : ℕ) → i < call_count t → is_cut (recorded_at t i) ≡ true → recorded_at t (i + 1) ≡ Recorded.recover

unfoldable pub FormOrders : Type 0
FormOrders = (t : List ℕ) → well_formed t ≡ true → InOrder t
