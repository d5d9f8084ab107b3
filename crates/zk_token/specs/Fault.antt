-- Why a text is refused, and at which byte.
use Rattle.std.specs.Prelude.{ℕ}

pub data Fault : Type 0 where
  -- the byte begins no token, or it is the backslash of an escape that isn't one
  BadByte : (place : ℕ) → Fault
  -- the quote opens a string that isn't closed on its line
  OpenString : (place : ℕ) → Fault
  -- the digit begins a number past 2^64 - 1
  BigNumber : (place : ℕ) → Fault
