-- The places of a side that its reader has not used yet.
use Rattle.std.specs.Prelude.{ℕ, ◌==◌, if◌then◌else◌, List, [], ◌∷◌}
use Rattle.zk_base.specs.ByteQueue.{bytes_of}
use Rattle.zk_base.specs.Places.{Place, bytes_before_gap}
use Rattle.zk_units.specs.declared.unread.Cut.{Cut}
use Rattle.zk_units.specs.declared.unread.Unread.{Unread}
use Rattle.zk_units.specs.Cuts.{places_cut}

abbrev pub cuts_of : Unread → List Cut
cuts_of unread = if unread.gap == 0 then [] else record { run = unread.run; gap = unread.gap } ∷ unread.cuts.items

unfoldable pub places_of : Unread → List Place
places_of unread = places_cut (bytes_of unread.bytes) (cuts_of unread)

-- the bytes up to the first gap
abbrev pub run_of : Unread → List ℕ
run_of unread = bytes_before_gap (places_of unread)
