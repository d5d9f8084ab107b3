-- What a stream holds, and how a call changes it.
use Rattle.std.specs.Prelude.{◌≡◌, ℕ, ◌≤◌, ◌<◌, List, Option, None}
use Rattle.zk_reasm.specs.declared.held.Held.{Held}
use Rattle.zk_reasm.specs.Parts.{start_of, byte_held}
use Rattle.zk_base.specs.ByteQueue.{bytes_of}

-- the bytes that can be taken
unfoldable pub lent_of : Held → List ℕ
lent_of held = bytes_of held.run

-- the place up to which all was taken
unfoldable pub taken_of : Held → ℕ
taken_of held = start_of held.run held.run_end

-- the byte at a place
unfoldable pub byte_kept : Held → ℕ → Option ℕ
byte_kept held = byte_held held.run held.run_end held.apart

-- the same bytes from the taken places on, and the same front
pub record Stays (old new : Held) : Type 0 where
  pub taken : taken_of new ≡ taken_of old
  pub run_end : new.run_end ≡ old.run_end
  pub front : new.front ≡ old.front
  pub kept : new.kept ≡ old.kept
  pub above : new.above ≡ old.above
  pub bytes : (at : ℕ) → byte_kept new at ≡ byte_kept old at

-- the run ends at the front or at a gap
pub record IsSettled (held : Held) : Type 0 where
  pub order : held.run_end ≤ held.front
  pub gap : held.run_end < held.front → byte_kept held held.run_end ≡ None
