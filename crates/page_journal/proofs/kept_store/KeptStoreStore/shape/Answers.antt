use Rattle.std.proofs.Common.{◌∙◌, sym, ap, rules}
use Rattle.page_journal.specs.Files.{Files}
use Rattle.page_journal.specs.KeptStores.{KeptStored, old_file_of}
use Rattle.page_journal.proofs.RefusalLemmas.{passed_on}
use Rattle.page_journal.proofs.KeptStoreLemmas.{guarded_stays, same_guard}
use Rattle.page_journal.proofs.LogLemmas.{logs_begin, logs_stays}
use Rattle.page_journal.proofs.LoggedLemmas.{alone_same, logged_leaves, opening_of, opening_same}
use Rattle.page_journal.proofs.kept_store.KeptStoreStore.shape.Goals as goal

pub invariant_of-self : goal.invariant_of-self
invariant_of-self g c =
    let d = g.D.DiskState in (
      c.self.invariant.0,
      logged_leaves d (g.met.D.Disk.counts_now) c.self.inside.log c.self.inside.doubt.items c.self.inside.disk c.shape.new.self (logs_stays d c.self.inside.disk c.self.inside.disk c.shape.new.self (logs_begin d c.self.inside.disk (g.met.D.Disk.only_now c.self.inside.disk)) c.shape.ensures.does.0) c.shape.ensures.does.0.began c.self.invariant.1,
      c.self.invariant.2,
      λ st.
          let i = c.self.invariant.3 (sym c.shape.ensures.does.0.steady ∙ st) in (
            same_guard d c.self.inside.state c.self.inside.kept.items c.self.inside.disk c.shape.new.self c.shape.new.self c.shape.ensures.does.0.began (guarded_stays d (old_file_of d c.self.inside.disk) (g.met.D.Disk.counts_now) c.self.inside.state c.self.inside.kept.items c.self.inside.disk c.shape.new.self i.0 c.shape.ensures.does.0),
            alone_same d c.self.inside.log c.self.inside.disk c.shape.new.self c.shape.ensures.does.0.began i.1,
          ),
    )

pub returns-clause-leaves : goal.returns-clause-leaves
returns-clause-leaves g c = record {
  stays = record { pages = search rules; tail = search rules; steady = search rules; opening = opening_same g.D.DiskState c.self.inside.log c.self.inside.doubt.items c.self.inside.disk c.shape.new.self c.shape.ensures.does.0.began (ap (λ (f : Files). f.commits) c.shape.ensures.does.0.seen) ∙ ap (opening_of g.D.DiskState) c.self.view_is; writes = search rules; journal = search rules; guard = search rules };
  reads = search rules;
  shapes = search rules;
  failures = passed_on _ _ c.self.inside.refusals _ _ _ c.shape.ensures.does.1.failures (ap (λ (s : KeptStored _). g.D.DiskState.failures s.disk) c.self.view_is) (ap (λ (s : KeptStored _). s.refusals) c.self.view_is);
  no_memory = search rules;
}
