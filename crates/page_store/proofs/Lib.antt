pub mod BlankLemmas
pub mod CallCountLemmas
pub mod Candidates
pub mod FreeNumberLemmas
pub mod FrontLemmas
pub mod GuardLemmas
pub mod JournalLemmas
pub mod KeptPageLemmas
pub mod InMemoryLemmas
mod InPlaceLemmas
pub mod Overlays
pub mod NewestPageLemmas
mod RealFiles
pub mod NumberSetLemmas
pub mod SlotLemmas
pub mod Staging
pub mod Totals
pub mod TryExamples
pub mod TryLemmas
pub mod WriteBackLemmas
pub mod WrittenOverLemmas
