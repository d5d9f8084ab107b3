-- How far a listing of a capture has come.
use Rattle.std.specs.Prelude.{◌≡◌, ℕ, Bool, false, List, [], ◌++◌}
use Rattle.zk_base.specs.Shelf.{Outside}
use Rattle.zk_base.specs.Captured.{Captured}
use Rattle.zk_top.specs.declared.listing.Listing.{Listing}
use Rattle.zk_top.specs.Line.{lines_of, list_options}
use Rattle.zk_io.specs.Said.{HasSaid}
use Rattle.zk_outcome.specs.Prefix.{IsPrefix}
use Rattle.zk_traffic.specs.declared.item.Item.{Item}
use Rattle.zk_traffic.specs.declared.options.Options.{Options}
use Rattle.zk_traffic.specs.Items.{items_of}
use Rattle.zk_traffic.specs.Standing.{StandsFor}

-- the items of the packets so far are the first ones, whatever else comes
abbrev pub ItemsStay : Type 0
ItemsStay =
    (options : Options) (packets others : List Captured) (ended : Bool)
    → (rest : List Item) × (items_of options (packets ++ others) ended ≡ items_of options packets false ++ rest)

-- These items of the packets so far, and of the end or not, were given, and their lines are said or wait.
pub record HasListed (first : Outside) (packets : List Captured) (given : List Item) (ended : Bool) (listing : Listing) (now : Outside) : Type 0 where
  -- the link type that was told last
  pub link : ℕ
  pub stands : StandsFor listing.traffic (record { options = list_options; link = link; records = packets; given = given; ended = ended })
  pub begins : IsPrefix given (items_of list_options packets ended)
  pub says : HasSaid first (lines_of given) listing.piece.items now

-- the packets so far are listed
abbrev pub HasListedAll : Outside → List Captured → Listing → Outside → Type 0
HasListedAll first packets listing now = HasListed first packets (items_of list_options packets false) false listing now
