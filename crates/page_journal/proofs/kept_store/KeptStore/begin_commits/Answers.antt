use Rattle.std.proofs.Common.{rules, [], ◌∷◌, ap, sym, ◌∙◌, subst}
use Rattle.page_journal.specs.KeptStores.{KeptStored, old_file_of}
use Rattle.page_journal.specs.Crash.{FilesStandFor}
use Rattle.page_journal.specs.Files.{Files}
use Rattle.page_journal.specs.LoggedStores.{BeganAlone}
use Rattle.page_journal.proofs.LoggedLemmas.{begin_all, begin_says, begin_stops, kept_guard, none_logged, ready_stands, stood}
use Rattle.page_journal.proofs.kept_store.KeptStore.begin_commits.Goals as goal

pub invariant_of-result : goal.invariant_of-result
invariant_of-result g c =
    let d = g.D.DiskState in
    let head = c.requires.head in
    let was = c.self.view_is in (
      c.in-Ok.ensures.fits,
      begin_all d (g.met.D.Disk.counts_now) c.self.inside.log c.self.inside.doubt.items c.in-Ok.place c.self.inside.disk c.begin_log.new.disk head.0
          (ap (λ (s : KeptStored _). s.log) was ∙ c.requires.unused.0)
          c.begin_log.ensures.began
          (λ clear. c.begin_log.ensures.any_moment clear head.0 head.1 head.2)
          (λ clear. c.in-Ok.ensures.ready clear head.0 head.1 head.2)
          c.self.invariant.1,
      c.self.invariant.2,
      λ st.
          let steady = sym c.begin_log.ensures.steady ∙ st in (
            kept_guard d (g.met.D.Disk.counts_now) c.self.inside.state c.self.inside.kept.items c.self.inside.disk c.begin_log.new.disk (ap (λ (s : KeptStored _). s.state) was ∙ c.requires.unused.1) c.begin_log.ensures.began c.begin_log.ensures.pages (c.self.invariant.3 steady).0,
            ap (λ (f : Files). f.commits.log) c.begin_log.ensures.began ∙ ap (λ (s : KeptStored _). (d.began s.disk).commits.log) was ∙ c.requires.none (ap (λ (s : KeptStored _). d.steady s.disk) (sym was) ∙ steady),
          ),
    )

pub returns-in-Ok-clause-says : goal.returns-in-Ok-clause-says
returns-in-Ok-clause-says g c = λ alone unit is spelt.
    let d = g.D.DiskState in
    let was = c.self.view_is in
    let none = ap (λ (s : KeptStored _). (d.began s.disk).commits.log) was ∙ alone in
    let clear = none_logged d (g.met.D.Disk.counts_now) c.self.inside.log c.self.inside.doubt.items c.self.inside.disk (ap (λ (s : KeptStored _). s.log) was ∙ c.requires.unused.0) none (c.self.invariant.1 (subst (λ l. BeganAlone d l c.self.inside.disk) (sym (ap (λ (s : KeptStored _). s.log) was ∙ c.requires.unused.0)) tt)) in
    let ready = c.in-Ok.ensures.ready clear unit is spelt in
    stood (unit ∷ []) c.in-Ok.place (d.seen c.begin_log.new.disk) ready.whole (ready_stands d (unit ∷ []) c.in-Ok.place c.begin_log.new.disk ready)

pub returns-in-Err-clause-stopped : goal.returns-in-Err-clause-stopped
returns-in-Err-clause-stopped g c = λ st f left.
    let d = g.D.DiskState in
    let was = c.self.view_is in
    let steady = ap (λ (s : KeptStored _). d.steady s.disk) was ∙ st in
    subst (λ (s : KeptStored _). FilesStandFor (old_file_of d s.disk) f) was
    (begin_stops d (g.met.D.Disk.counts_now) c.self.inside.state c.self.inside.kept.items c.self.inside.disk c.begin_log.new.disk
    (ap (λ (s : KeptStored _). s.state) was ∙ c.requires.unused.1) c.begin_log.ensures.pages (c.self.invariant.3 steady).0 f left)

pub returns-in-Err-clause-unbegun : goal.returns-in-Err-clause-unbegun
returns-in-Err-clause-unbegun g c = λ alone unit is spelt f left.
    let d = g.D.DiskState in
    let was = c.self.view_is in
    begin_says d (g.met.D.Disk.counts_now) c.self.inside.log c.self.inside.doubt.items c.self.inside.disk c.begin_log.new.disk unit
    (ap (λ (s : KeptStored _). s.log) was ∙ c.requires.unused.0)
    (ap (λ (s : KeptStored _). (d.began s.disk).commits.log) was ∙ alone)
    (λ clear. c.begin_log.ensures.any_moment clear unit is spelt)
    c.self.invariant.1 f left

pub returns-in-Ok-clause-keeps : goal.returns-in-Ok-clause-keeps
returns-in-Ok-clause-keeps g c = record {
  same = search rules;
  steady = search rules;
  began = search rules;
}
