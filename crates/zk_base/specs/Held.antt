-- What is held of a capture whose bytes come in pieces.
use Rattle.std.specs.Prelude.{ℕ, List, take, drop}
use Rattle.zk_base.specs.declared.held.Held.{Held}

-- the bytes that are left: those behind what was taken, up to the end
unfoldable pub bytes_of : Held → List ℕ
bytes_of held = drop held.taken (take held.end held.bytes.items)
