-- What an instance is, and how what was told of one key is cut into instances, in the subject's own words.
use Rattle.std.specs.Prelude.{◌≡◌, ℕ, ◌<◌, true, false, List, [], ◌∷◌, ◌++◌, length, take, slice_get, Some}
use Rattle.std.specs.List.{flat_map}
use Rattle.zk_base.specs.declared.time.Moment.{Moment}
use Rattle.zk_conn.specs.declared.view.L4View.{L4View}
use Rattle.zk_conn.specs.Histories.{comes_late}
use Rattle.zk_conn.specs.Told.{Told, Packet, Front, Reached, Removal, Ending}

-- No packet of the instance comes at or after the removal moment of what stands before it.
abbrev pub IsTimely : List Told → Type 0
IsTimely events = (n : ℕ) (moment : Moment) (p : L4View) → 0 < n → slice_get events n ≡ Some (Packet moment p)
    → comes_late (take n events) moment ≡ false

-- the next event is a packet that comes at or after the instance's removal moment
abbrev pub StartsLate : List Told → List Told → Type 0
StartsLate instance [] = ⊥
StartsLate instance (Packet moment p ∷ others) = comes_late instance moment ≡ true
StartsLate instance (Front key side front ∷ others) = ⊥
StartsLate instance (Reached key side ∷ others) = ⊥
StartsLate instance (Removal key at ∷ others) = ⊥
StartsLate instance (Ending key last ∷ others) = ⊥

-- an instance that ends before the rest, since a packet comes too late for it
pub record IsClosed (instance rest : List Told) : Type 0 where
  pub some : 0 < length instance
  pub timely : IsTimely instance
  pub ended : StartsLate instance rest

-- the events of the instances, one instance behind another
abbrev pub flatten : List (List Told) → List Told
flatten instances = flat_map (λ instance. instance) instances

-- each of the instances is closed in its place, and no packet comes too late for the latest one behind them
abbrev pub AreInstances : List (List Told) → List Told → Type 0
AreInstances [] latest = IsTimely latest
AreInstances (instance ∷ instances) latest = IsClosed instance (flatten instances ++ latest) × AreInstances instances latest

-- the events are those of the closed instances, and behind them those of the latest one
pub record AreCutInto (events : List Told) (instances : List (List Told)) (latest : List Told) : Type 0 where
  pub whole : events ≡ flatten instances ++ latest
  pub instances_are : AreInstances instances latest
