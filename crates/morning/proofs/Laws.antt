-- A law of the lists that the program lends.
use Rattle.std.proofs.Common.{◌≡◌, sym, ℕ, length}
use lib.ListN.{replicate, length-replicate}

-- a list of n zeros, of any n: that of the longest listing is too long to be counted
pub zeros_long : (n : ℕ) → n ≡ length (replicate {A = ℕ} n 0)
zeros_long n = sym (length-replicate n 0)
