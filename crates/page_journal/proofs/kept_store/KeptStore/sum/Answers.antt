use Rattle.std.proofs.Common.{◌∙◌, ap}
use Rattle.std.proofs.lemmas.Result.{err_from_is_err_and}
use Rattle.page_journal.specs.KeptStores.{KeptStored}
use Rattle.page_journal.proofs.MomentLemmas.{stays_then}
use Rattle.page_journal.proofs.RefusalLemmas.{passed_on, refused_on}
use Rattle.page_journal.proofs.StayingLemmas.{guards_stay, logged_stays}
use Rattle.page_journal.proofs.kept_store.KeptStore.sum.Goals as goal

pub invariant_of-self : goal.invariant_of-self
invariant_of-self g c = (
  c.self.invariant.0,
  logged_stays g.D.DiskState (g.met.D.Disk.counts_now) c.self.inside.log c.self.inside.doubt.items c.self.inside.disk c.shape.new.self (g.met.D.Disk.only_now c.self.inside.disk) c.self.invariant.1 c.shape.ensures.does.0,
  c.self.invariant.2,
  guards_stay g.D.DiskState (g.met.D.Disk.counts_now) c.self.inside.state c.self.inside.kept.items c.self.inside.log c.self.inside.disk c.shape.new.self c.self.invariant.3 c.shape.ensures.does.0,
)

pub returns-in_err-pages-clause-failures : goal.returns-in_err-pages-clause-failures
returns-in_err-pages-clause-failures g c =
    let told = err_from_is_err_and c.from_residual.result c.from_residual.ensures.1 in
    rw (told.1, told.2) (passed_on _ _ c.self.inside.refusals _ _ _ c.in_err-pages.ensures.does.1.failures (ap (λ (s : KeptStored _). g.D.DiskState.failures s.disk) c.self.view_is) (ap (λ (s : KeptStored _). s.refusals) c.self.view_is))

pub invariant_of-self-then-pages-gt-MOST_PAGES : goal.invariant_of-self-then-pages-gt-MOST_PAGES
invariant_of-self-then-pages-gt-MOST_PAGES g c = (
  c.self.invariant.0,
  logged_stays g.D.DiskState (g.met.D.Disk.counts_now) c.self.inside.log c.self.inside.doubt.items c.self.inside.disk c.shape.new.self (g.met.D.Disk.only_now c.self.inside.disk) c.self.invariant.1 c.shape.ensures.does.0,
  c.self.invariant.2,
  guards_stay g.D.DiskState (g.met.D.Disk.counts_now) c.self.inside.state c.self.inside.kept.items c.self.inside.log c.self.inside.disk c.shape.new.self c.self.invariant.3 c.shape.ensures.does.0,
)

pub returns-then-pages-gt-MOST_PAGES-clause-failures : goal.returns-then-pages-gt-MOST_PAGES-clause-failures
returns-then-pages-gt-MOST_PAGES-clause-failures g c = refused_on (g.D.DiskState.failures c.shape.new.self) c.self.inside.refusals _ _ _ c.count_up.ensures (c.in_ok-pages.ensures.does.1.failures ∙ ap (λ (s : KeptStored _). g.D.DiskState.failures s.disk) c.self.view_is) (ap (λ (s : KeptStored _). s.refusals) c.self.view_is)

pub invariant_of-self-2 : goal.invariant_of-self-2
invariant_of-self-2 g c = (
  c.self.invariant.0,
  logged_stays g.D.DiskState (g.met.D.Disk.counts_now) c.self.inside.log c.self.inside.doubt.items c.self.inside.disk c.sum_pages.new.disk (g.met.D.Disk.only_now c.self.inside.disk) c.self.invariant.1 (stays_then g.D.DiskState (g.met.D.Disk.counts_now) c.self.inside.disk c.shape.new.self c.sum_pages.new.disk c.shape.ensures.does.0 c.sum_pages.ensures.stays),
  c.self.invariant.2,
  guards_stay g.D.DiskState (g.met.D.Disk.counts_now) c.self.inside.state c.self.inside.kept.items c.self.inside.log c.self.inside.disk c.sum_pages.new.disk c.self.invariant.3 (stays_then g.D.DiskState (g.met.D.Disk.counts_now) c.self.inside.disk c.shape.new.self c.sum_pages.new.disk c.shape.ensures.does.0 c.sum_pages.ensures.stays),
)

pub returns-clause-failures : goal.returns-clause-failures
returns-clause-failures g c = passed_on _ _ c.self.inside.refusals _ _ _ c.sum_pages.ensures.fault.failures (c.in_ok-pages.ensures.does.1.failures ∙ ap (λ (s : KeptStored _). g.D.DiskState.failures s.disk) c.self.view_is) (ap (λ (s : KeptStored _). s.refusals) c.self.view_is)
