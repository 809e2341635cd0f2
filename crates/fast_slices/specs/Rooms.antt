-- The room that C lends a call.
use Rattle.std.specs.Prelude.{◌≡◌, ◌≤◌, ℕ, List, length, ◌++◌, drop}

-- the bytes were put into the room's front, and what is behind them stays
pub record Puts (bytes old new : List ℕ) : Type 0 where
  pub fits : length bytes ≤ length old
  pub put : new ≡ bytes ++ drop (length bytes) old
