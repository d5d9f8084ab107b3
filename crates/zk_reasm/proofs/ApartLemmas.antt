-- Bytes that lie apart from a run: none where their table was never made.
use Rattle.std.proofs.Common.{◌≡◌, ℕ, None, ap}
use Rattle.zk_reasm.specs.declared.apart.Apart.{Apart}
use Rattle.zk_reasm.specs.Apart.{byte_apart, byte_by, scattered_in}
use Rattle.zk_reasm.specs.Between.{held_between}
use Rattle.zk_reasm.proofs.RangeLemmas.{held_between-empty}

pub none_apart : (apart : Apart) (at : ℕ) → scattered_in apart ≡ None → byte_apart apart at ≡ None
unfolding byte_apart
none_apart apart at none = ap (λ s. byte_by s at) none

pub none_held : (apart : Apart) (from to : ℕ) → scattered_in apart ≡ None → held_between (byte_apart apart) from to ≡ 0
none_held apart from to none = held_between-empty (byte_apart apart) from to (λ at low high. none_apart apart at none)
