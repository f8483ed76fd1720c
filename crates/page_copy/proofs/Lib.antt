pub mod CopyingLemmas
