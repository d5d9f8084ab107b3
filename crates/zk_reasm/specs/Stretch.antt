-- Bytes that stand one behind another.
use Rattle.std.specs.Prelude.{◌≡◌, ◌⊎◌, ℕ, ◌+◌, Option}
use Rattle.std.specs.VecDeque.{deque_len}
use Rattle.zk_reasm.specs.declared.stretch.Stretch.{Stretch}
use Rattle.zk_reasm.specs.Piece.{byte_in}

-- the byte at a place
abbrev pub byte_in_stretch : Stretch → ℕ → Option ℕ
byte_in_stretch stretch at = byte_in stretch.at stretch.bytes.items at

-- it is empty, or so many bytes from a place on stand right behind it or right before it
abbrev pub MayExtend : Stretch → ℕ → ℕ → Type 0
MayExtend stretch at n = (deque_len stretch.bytes ≡ 0) ⊎ ((at ≡ stretch.at + deque_len stretch.bytes) ⊎ (at + n ≡ stretch.at))
