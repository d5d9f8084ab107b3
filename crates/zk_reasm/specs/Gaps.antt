-- How many gap places stand directly behind the run of a stream.
use Rattle.std.specs.Prelude.{ℕ, is_none}
use Rattle.std.specs.List.{prefix_len}
use Rattle.zk_reasm.specs.declared.stream.Stream.{Stream}
use Rattle.zk_reasm.specs.Between.{places_between}
use Rattle.zk_reasm.specs.Held.{byte_kept}

unfoldable pub gap_behind : Stream → ℕ
gap_behind stream = prefix_len is_none (places_between (byte_kept stream.held) stream.held.run_end stream.held.front)
