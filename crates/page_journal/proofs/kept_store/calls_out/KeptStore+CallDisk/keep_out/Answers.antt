use Rattle.std.proofs.Common.{◌++◌, length, refl, sym, subst}
use Rattle.page_journal.specs.History.{all_done}
use Rattle.page_journal.specs.KeptStores.{KeptStored}
use Rattle.page_journal.specs.LoggedStores.{FindsNow, commits_in}
use Rattle.page_journal.specs.CallDisks.{EachFrontLeaves, Recorded}
use Rattle.page_journal.proofs.CallDiskLemmas.{each_front}
use Rattle.page_journal.proofs.kept_store.calls_out.KeptStore+CallDisk.keep_out.Goals as goal

pub returns-clause-fronts : goal.returns-clause-fronts
returns-clause-fronts c = λ unsealed.
    let old = c.args.self.now.disk in
    let mid = c.keep_commit-kept.new.self.disk in
    let moment = length (old.calls ++ old.past) in
    let P = FindsNow c.args.self.now.log old.first (commits_in c.args.self.now.log (all_done old.first (old.calls ++ old.past))) c.args.text.items in
    subst (λ (s : KeptStored Recorded). EachFrontLeaves s.disk.first s.disk.past moment P) (sym c.hand_out-calls.ensures.told)
    (each_front mid.first (mid.calls ++ mid.past) moment P (c.keep_commit-kept.ensures.any_moment (c.keep_commit-kept.ensures.alone refl) unsealed).each)
