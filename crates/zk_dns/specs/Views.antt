-- What a message that was read stands on.
use Rattle.std.specs.Prelude.{ℕ, List}
use Rattle.std.specs.Borrow.{Bor}
use Rattle.zk_dns.specs.declared.message.Message.{Message}

-- the bytes of the message, in their place in memory
abbrev pub message_bytes : Message → Bor (List ℕ)
message_bytes message = message.bytes
