pub mod NewsLemmas
pub mod PlaceLemmas
pub mod ReadLemmas
pub mod ReadingLemmas
pub mod StreamLemmas
pub mod TakeLemmas
pub mod StreamTableLemmas
pub mod InstanceLemmas
pub mod LeftLemmas
pub mod SegmentLemmas
pub mod ToldLemmas
pub mod HoldsLemmas
pub mod RemoveLemmas
pub mod SumLemmas
pub mod PacketLemmas
pub mod EndLemmas
pub mod StepLemmas
pub mod TakenLemmas
pub mod NewLemmas
pub mod DueLemmas
mod GivenLemmas
pub mod RecordLemmas
mod OpenLemmas
mod BoundLemmas
mod Rows
mod OwnLemmas
pub mod DatagramLemmas
