-- Bytes by their places, with holes between them.
use Rattle.std.specs.Prelude.{ℕ, Option}
use Rattle.std.specs.Option.{option_or}
use Rattle.zk_reasm.specs.declared.scattered.Scattered.{Scattered}
use Rattle.zk_reasm.specs.Pages.{byte_paged}
use Rattle.zk_reasm.specs.Stretch.{byte_in_stretch}

-- the byte at a place: of the pages, or of the stretch that came last
unfoldable pub byte_scattered : Scattered → ℕ → Option ℕ
byte_scattered scattered at = option_or (byte_paged scattered.pages at) (byte_in_stretch scattered.last at)
