pub mod GrowthLemmas
pub mod RescueLemmas
