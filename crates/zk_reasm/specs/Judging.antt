-- What a stream is after it was seen whether it is over.
use Rattle.std.specs.Prelude.{◌≡◌, ℕ, ◌≤◌, ◌<◌, Bool, true, None}
use Rattle.zk_reasm.specs.declared.stream.Stream.{Stream}
use Rattle.zk_reasm.specs.Held.{byte_kept, taken_of}

-- nothing but what lies at or past the front is lost, where the stream is now over
pub record Finishes (old new : Stream) (over : Bool) : Type 0 where
  pub base : new.base ≡ old.base
  pub limit : new.limit ≡ old.limit
  pub fin : new.fin ≡ old.fin
  pub acked : new.acked ≡ old.acked
  pub payload_end : new.payload_end ≡ old.payload_end
  pub front : new.held.front ≡ old.held.front
  pub taken : taken_of new.held ≡ taken_of old.held
  pub below : (at : ℕ) → at < old.held.front → byte_kept new.held at ≡ byte_kept old.held at
  pub above : over ≡ true → (at : ℕ) → old.held.front ≤ at → byte_kept new.held at ≡ None
  pub kept : (over ≡ true → ⊥) → (at : ℕ) → byte_kept new.held at ≡ byte_kept old.held at
