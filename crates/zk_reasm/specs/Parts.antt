-- What a run and the bytes apart from it hold together.
use Rattle.std.specs.Prelude.{◌≡◌, ℕ, ◌-◌, ◌<◌, ◌≤◌, nat_lt, length, Option, None, IsSome, if◌then◌else◌}
use Rattle.zk_reasm.specs.declared.apart.Apart.{Apart}
use Rattle.zk_base.specs.declared.byte_queue.ByteQueue.{ByteQueue}
use Rattle.zk_reasm.specs.Apart.{byte_apart}
use Rattle.zk_reasm.specs.Piece.{byte_in}
use Rattle.zk_base.specs.ByteQueue.{bytes_of}

-- the place of the first byte that isn't taken, of a run that ends at a place
abbrev pub start_of : ByteQueue → ℕ → ℕ
start_of run run_end = run_end - length (bytes_of run)

-- the byte at a place: of the run up to its end, and of the bytes apart from there on
unfoldable pub byte_held : ByteQueue → ℕ → Apart → ℕ → Option ℕ
byte_held run run_end apart at =
    if nat_lt at run_end then byte_in (start_of run run_end) (bytes_of run) at else byte_apart apart at

-- the first place from one on without a byte
pub record IsFirstFree (bytes : ℕ → Option ℕ) (from free : ℕ) : Type 0 where
  pub least : from ≤ free
  pub before : (at : ℕ) → from ≤ at → at < free → IsSome (bytes at)
  pub none : bytes free ≡ None
