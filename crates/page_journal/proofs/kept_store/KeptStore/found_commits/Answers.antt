use Rattle.std.proofs.Common.{◌∙◌, sym}
use Rattle.page_journal.specs.KeptStores.{old_file_of}
use Rattle.page_journal.proofs.KeptStoreLemmas.{guarded_stays, same_guard}
use Rattle.page_journal.proofs.LogLemmas.{logs_begin, logs_stays}
use Rattle.page_journal.proofs.LoggedLemmas.{alone_same, logged_leaves}
use Rattle.page_journal.proofs.kept_store.KeptStore.found_commits.Goals as goal

pub invariant_of-self : goal.invariant_of-self
invariant_of-self g c =
    let d = g.D.DiskState in (
      c.self.invariant.0,
      logged_leaves d (g.met.D.Disk.counts_now) c.self.inside.log c.self.inside.doubt.items c.self.inside.disk c.read_back.new.disk (logs_stays d c.self.inside.disk c.self.inside.disk c.read_back.new.disk (logs_begin d c.self.inside.disk (g.met.D.Disk.only_now c.self.inside.disk)) c.read_back.ensures.stays) c.read_back.ensures.stays.began c.self.invariant.1,
      c.self.invariant.2,
      λ st.
          let i = c.self.invariant.3 (sym c.read_back.ensures.stays.steady ∙ st) in (
            same_guard d c.self.inside.state c.self.inside.kept.items c.self.inside.disk c.read_back.new.disk c.read_back.new.disk c.read_back.ensures.stays.began (guarded_stays d (old_file_of d c.self.inside.disk) (g.met.D.Disk.counts_now) c.self.inside.state c.self.inside.kept.items c.self.inside.disk c.read_back.new.disk i.0 c.read_back.ensures.stays),
            alone_same d c.self.inside.log c.self.inside.disk c.read_back.new.disk c.read_back.ensures.stays.began i.1,
          ),
    )
