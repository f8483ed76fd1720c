use Rattle.std.proofs.Common.{◌∙◌, ap}
use Rattle.page_journal.specs.Files.{Files}
use Rattle.page_journal.proofs.LoggedLemmas.{opened_time}
use Rattle.page_journal.proofs.kept_store.KeptStore.open.Goals as goal

pub new-requires-clause-log_time : goal.new-requires-clause-log_time
new-requires-clause-log_time g c =
    opened_time g.D.DiskState (g.met.D.Disk.counts_now) c.args.disk c.recover.new.disk c.requires.moment (g.met.D.Disk.only_now c.args.disk) (λ f left. (c.requires.rest f left).2) c.requires.began c.recover.ensures.leaves.began c.recover.ensures.logs

pub returns-in-Err-clause-log : goal.returns-in-Err-clause-log
returns-in-Err-clause-log g c = λ f left.
    opened_time g.D.DiskState (g.met.D.Disk.counts_now) c.args.disk c.recover.new.disk c.requires.moment (g.met.D.Disk.only_now c.args.disk) (λ d may. (c.requires.rest d may).2) c.requires.began c.recover.ensures.leaves.began c.recover.ensures.logs f left
    ∙ ap (λ (d : Files). d.commits.log) c.recover.ensures.leaves.began
