-- A page: neighbouring places, each with its byte or none.
use Rattle.std.specs.Prelude.{ℕ, nat_lt, ◌==◌, ◌&&◌, slice_index, Option, None, Some, if◌then◌else◌}
use Rattle.std.specs.Int.{bit_at}
use Rattle.zk_reasm.specs.declared.page.Page.{Page}
use Rattle.zk_reasm.specs.declared.page.TheConstants.{PAGE_LEN}

-- the byte at a place of a page
unfoldable pub byte_on : Page → ℕ → Option ℕ
byte_on page at = if nat_lt at PAGE_LEN && (bit_at page.has at == 1) then Some (slice_index page.bytes at) else None
