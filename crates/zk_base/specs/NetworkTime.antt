-- Network time: the greatest moment of the packets so far.
use Rattle.std.specs.Prelude.{◌≡◌, ℕ, pos, int_lt, if◌then◌else◌, List, [], ◌∷◌, ◌++◌, take, fold, All, Any, ◌≤ℤ◌, ◌⊎◌}
use Rattle.std.proofs.lemmas.List.Sums.{fold-append}
use Rattle.zk_base.specs.declared.time.Moment.{Moment}
use Rattle.zk_base.specs.Captured.{Captured}

abbrev pub later : Moment → Moment → Moment
later a b = if int_lt a.0 b.0 then b else a

-- The network time after these packets, and 0 before the first. After all packets of a file it is the
-- moment at which the file ends.
abbrev pub now : List Captured → Moment
now packets = fold (λ time packet. later time packet.moment) (record { 0 = pos 0 }) packets

-- one more packet makes network time the later of both
pub now-append : (packets : List Captured) (packet : Captured) → now (packets ++ packet ∷ []) ≡ later (now packets) packet.moment
now-append packets packet =
    fold-append (λ (time : Moment) (p : Captured). later time p.moment) (record { 0 = pos 0 }) packets (packet ∷ [])

-- the greatest moment of these packets, or 0 where there are none
pub record IsGreatest (time : Moment) (packets : List Captured) : Type 0 where
  pub above : All (λ packet. packet.moment.0 ≤ℤ time.0) packets
  pub among : ((packets ≡ []) × (time ≡ record { 0 = pos 0 })) ⊎ Any (λ packet. packet.moment ≡ time) packets

-- at each record network time is the greatest moment so far
abbrev pub HasNetworkTime : List Captured → Type 0
HasNetworkTime packets = (n : ℕ) → IsGreatest (now (take n packets)) (take n packets)
