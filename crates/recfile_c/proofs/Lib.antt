pub mod HandleLemmas
pub mod Journals
pub mod StepLaws
pub mod TryExamples
pub mod TryLemmas
pub mod Values
