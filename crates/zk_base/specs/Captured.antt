-- A packet as it was captured, wherever it stands in its file.
use Rattle.std.specs.Prelude.{◌≡◌, ℕ, ◌<◌, ◌≤◌, ◌^◌, List, length, pos}
use Rattle.zk_base.specs.declared.capture.PacketView.{PacketView}
use Rattle.zk_base.specs.declared.time.Moment.{Moment}

pub record Captured : Type 0 where
  -- when it was captured
  pub moment : Moment
  -- how many bytes it had on the wire
  pub orig_len : ℕ
  -- its captured bytes
  pub bytes : List ℕ
  -- the link type of its frame, by the list of link types of the capture formats
  pub link : ℕ

-- what was captured of a packet whose frame has this link type
abbrev pub captured : ℕ → PacketView → Captured
captured link view = record { moment = view.moment; orig_len = view.orig_len; bytes = view.bytes.now; link = link }

-- what holds of each packet that is read from a capture
pub record IsBounded (packet : Captured) : Type 0 where
  pub moment : (micros : ℕ) × (micros < 2 ^ 62) × (packet.moment ≡ record { 0 = pos micros })
  pub captured : length packet.bytes ≤ 262144
