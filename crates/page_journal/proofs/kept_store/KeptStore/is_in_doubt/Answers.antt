use Rattle.std.proofs.Common.{subst, sym}
use Rattle.page_journal.specs.LoggedStores.{BeganAlone, FindsNow, commits_in}
use Rattle.page_journal.specs.KeptStores.{KeptStored}
use Rattle.page_journal.proofs.LoggedLemmas.{all_now}
use Rattle.page_journal.proofs.kept_store.KeptStore.is_in_doubt.Goals as goal

pub returns-clause-now : goal.returns-clause-now
returns-clause-now g c = λ alone f left.
    let d = g.D.DiskState in
    let was = c.self.view_is in
    subst (λ (s : KeptStored _). FindsNow s.log (d.began s.disk) (commits_in s.log (d.seen s.disk)) s.doubt f) was
    (all_now d (g.met.D.Disk.counts_now) c.self.inside.log c.self.inside.doubt.items c.self.inside.disk (c.self.invariant.1 (subst (λ (s : KeptStored _). BeganAlone d s.log s.disk) (sym was) alone)) f (subst (λ (s : KeptStored _). d.may_leave s.disk f) (sym was) left))
