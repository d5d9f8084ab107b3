pub mod FilterLemmas
pub mod FirstLemmas
pub mod PlaceLemmas
pub mod StreamLemmas
