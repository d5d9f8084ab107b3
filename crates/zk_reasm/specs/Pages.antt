-- Bytes by their places, in pages of neighbouring places.
use Rattle.std.specs.Prelude.{ℕ, ◌/◌, ◌%◌, Option, None, Some}
use Rattle.std.specs.Ordering.{nat_cmp}
use Rattle.std.specs.BTreeMap as tree
use Rattle.zk_reasm.specs.declared.pages.Pages.{Pages}
use Rattle.zk_reasm.specs.declared.page.Page.{Page}
use Rattle.zk_reasm.specs.declared.page.TheConstants.{PAGE_LEN}
use Rattle.zk_reasm.specs.Page.{byte_on}

-- the byte at a place of a page that may be there
abbrev pub byte_on_any : Option Page → ℕ → Option ℕ
byte_on_any None at = None
byte_on_any (Some page) at = byte_on page at

-- the page of this number
abbrev pub page_at : Pages → ℕ → Option Page
page_at table key = tree.get nat_cmp table.pages key

-- the page with a place
unfoldable pub page_of : Pages → ℕ → Option Page
page_of table at = page_at table (at / PAGE_LEN)

-- the byte at a place
unfoldable pub byte_paged : Pages → ℕ → Option ℕ
byte_paged table at = byte_on_any (page_of table at) (at % PAGE_LEN)
