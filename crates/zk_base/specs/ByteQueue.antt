-- What a queue of bytes has, and for how many bytes more it has room.
use Rattle.std.specs.Prelude.{ℕ, ◌-◌, List, drop, vec_len}
use Rattle.std.specs.Vec.{vec_capacity}
use Rattle.zk_base.specs.declared.byte_queue.ByteQueue.{ByteQueue}

-- the bytes that are left
unfoldable pub bytes_of : ByteQueue → List ℕ
bytes_of queue = drop queue.taken queue.bytes.items

unfoldable pub room_of : ByteQueue → ℕ
room_of queue = vec_capacity queue.bytes - vec_len queue.bytes
