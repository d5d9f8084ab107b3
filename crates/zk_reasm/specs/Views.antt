-- What can be seen of a stream by what it was told.
use Rattle.std.specs.Prelude.{◌≡◌, ℕ, ◌<◌, Bool, true, false, List, fold}
use Rattle.zk_reasm.specs.Histories.{front_of, over_of, byte_of_stream}
use Rattle.zk_reasm.specs.Told.{Told, Segment, Fin, Ack, Stop}

abbrev pub is_fin : Told → Bool
is_fin (Segment seq bytes) = false
is_fin (Fin seq) = true
is_fin (Ack number) = false
is_fin Stop = false

-- the last that was told is a FIN, whose own segment is still to come
abbrev pub ends_in_fin : List Told → Bool
ends_in_fin told = fold (λ last entry. is_fin entry) false told

-- the same front and the same bytes below it, and so the same gaps; over or not alike; and while it isn't, the same bytes above
pub record SameView (base limit : ℕ) (told others : List Told) : Type 0 where
  pub front : front_of base limit told ≡ front_of base limit others
  pub below : (at : ℕ) → at < front_of base limit told → byte_of_stream base limit told at ≡ byte_of_stream base limit others at
  pub over : over_of base limit told ≡ over_of base limit others
  pub above : over_of base limit told ≡ false → (at : ℕ) → byte_of_stream base limit told at ≡ byte_of_stream base limit others at
