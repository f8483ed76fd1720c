mod BelongLemmas
mod ByteLemmas
pub mod CallDiskLemmas
mod CallsOutLemmas
pub mod CarryingLemmas
mod CommitFateLemmas
mod ExampleLemmas
mod FateLemmas
mod FileDiskLemmas
mod FileExampleLemmas
mod KeptStoreLemmas
mod LogExampleLemmas
mod LogLemmas
mod LoggedLemmas
mod LoggingLemmas
mod MemDiskLemmas
mod MomentLemmas
mod PuttingLemmas
mod RefusalLemmas
mod RestoreLemmas
mod RunLemmas
mod SealedLemmas
mod SideLemmas
mod SideReadingLemmas
mod StayingLemmas
