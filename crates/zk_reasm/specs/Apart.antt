-- Bytes that lie apart from a run, in a box of their own where there were any.
use Rattle.std.specs.Prelude.{ℕ, Option, None, Some}
use Rattle.std.specs.Option.{option_map}
use Rattle.zk_reasm.specs.declared.apart.Apart.{Apart}
use Rattle.zk_reasm.specs.declared.scattered.Scattered.{Scattered}
use Rattle.zk_reasm.specs.Scattered.{byte_scattered}

abbrev pub scattered_in : Apart → Option Scattered
scattered_in apart = option_map (λ boxed. boxed.value) apart.scattered

abbrev pub byte_by : Option Scattered → ℕ → Option ℕ
byte_by None at = None
byte_by (Some scattered) at = byte_scattered scattered at

-- the byte at a place
unfoldable pub byte_apart : Apart → ℕ → Option ℕ
byte_apart apart at = byte_by (scattered_in apart) at
