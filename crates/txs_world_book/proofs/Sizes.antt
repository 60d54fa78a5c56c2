-- Numbers of events as places.
use Rattle.std.proofs.Common.{◌≤◌, ◌+◌, ℕ, arith, Fits, w32}
use Rattle.txs_value_data.specs.Limits.{most_events}

-- one more than the number of events fits a place
pub fits_next : (n : ℕ) → n ≤ most_events → Fits w32 (n + 1)
unfolding most_events
fits_next n le = omega arith

-- the number of events fits a place
pub fits_place : (n : ℕ) → n ≤ most_events → Fits w32 n
unfolding most_events
fits_place n le = omega arith
