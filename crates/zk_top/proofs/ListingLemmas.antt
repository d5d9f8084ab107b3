-- How a listing goes on.
use Rattle.std.proofs.Common.{◌≡◌, ℕ, true, false, List, [], ◌∷◌, ◌++◌, ap, ◌∙◌, append-nil}
use Rattle.std.proofs.lemmas.List.Concat.{flat_map-append}
use Rattle.zk_base.specs.Shelf.{Outside}
use Rattle.zk_base.specs.Captured.{Captured}
use Rattle.zk_outcome.specs.Parts.{DoesAll}
use Rattle.zk_outcome.specs.Prefix.{IsPrefix}
use Rattle.zk_top.specs.declared.listing.Listing.{Listing}
use Rattle.zk_top.specs.Line.{line_of, lines_of, list_options, capture_lines}
use Rattle.zk_top.specs.Listing.{HasListedAll, ItemsStay}
use Rattle.zk_top.proofs.ItemLemmas.{items_begin}
use Rattle.zk_io.proofs.Said.{said_on}
use Rattle.zk_traffic.specs.declared.item.Item.{Item}
use Rattle.zk_traffic.specs.Items.{items_of}

-- ---- items and their lines

pub lines_prefix : (given all : List Item) → IsPrefix given all → IsPrefix (lines_of given) (lines_of all)
lines_prefix given all prefix = record { rest = lines_of prefix.rest; joined = ap lines_of prefix.joined ∙ flat_map-append line_of given prefix.rest }

-- the line of one more item
pub next_line : (given : List Item) (item : Item) → lines_of (given ++ item ∷ []) ≡ lines_of given ++ line_of item
next_line given item = flat_map-append line_of given (item ∷ []) ∙ ap (λ text. lines_of given ++ text) (append-nil (line_of item))

pub lines_begin : ItemsStay → (packets others : List Captured) → IsPrefix (lines_of (items_of list_options packets false)) (capture_lines (packets ++ others))
lines_begin stay packets others = lines_prefix (items_of list_options packets false) (items_of list_options (packets ++ others) true) (items_begin stay list_options packets others true)

-- ---- a listing

pub listed_on : (first : Outside) (packets : List Captured) (listing : Listing) (old new : Outside) → HasListedAll first packets listing old → DoesAll [] [] [] old new
    → HasListedAll first packets listing new
listed_on first packets listing old new listed does = record {
  link = listed.link;
  stands = listed.stands;
  begins = listed.begins;
  says = said_on first (lines_of (items_of list_options packets false)) listing.piece.items old new listed.says does;
}
