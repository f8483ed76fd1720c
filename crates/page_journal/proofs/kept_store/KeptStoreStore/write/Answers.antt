use Rattle.std.proofs.Common.{[], get_or, ap, sym, ◌∙◌, rules}
use Rattle.std.proofs.lemmas.List.{set-get_or}
use Rattle.page_journal.specs.KeptStores.{KeptStored, guard_of, old_file_of}
use Rattle.page_journal.proofs.RefusalLemmas.{passed_on, refused_on, may_by_guard}
use Rattle.page_store.specs.Guards.{may_write}
use Rattle.std.proofs.lemmas.Bool.{false≢true}
use Rattle.page_journal.proofs.KeptStoreLemmas.{guarded_write, same_guard}
use Rattle.page_journal.proofs.LogLemmas.{logs_begin, logs_write}
use Rattle.page_journal.proofs.LoggedLemmas.{alone_same, logged_leaves, opening_of, opening_same}
use Rattle.page_journal.proofs.kept_store.KeptStoreStore.write.Goals as goal

pub returns-then-not-may_write-clause-other_pages :
    goal.returns-then-not-may_write-clause-other_pages
returns-then-not-may_write-clause-other_pages g c =
    let pages = (g.D.DiskState.seen c.args.self.now.disk).main.pages in
    (get_or pages c.args.n [], ap (λ (s : KeptStored _). (g.D.DiskState.seen s.disk).main.pages) c.self.view_is ∙ sym (set-get_or pages c.args.n []))

pub invariant_of-self-2 : goal.invariant_of-self-2
invariant_of-self-2 g c =
    let d = g.D.DiskState in (
      c.self.invariant.0,
      logged_leaves d (g.met.D.Disk.counts_now) c.self.inside.log c.self.inside.doubt.items c.self.inside.disk c.write.new.self (logs_write d c.args.n c.self.inside.disk c.self.inside.disk c.write.new.self (logs_begin d c.self.inside.disk (g.met.D.Disk.only_now c.self.inside.disk)) c.write.ensures.does.0) c.write.ensures.does.0.began c.self.invariant.1,
      c.self.invariant.2,
      λ st.
          let i = c.self.invariant.3 (sym c.write.ensures.does.0.steady ∙ st) in (
            same_guard d c.self.inside.state c.self.inside.kept.items c.self.inside.disk c.write.new.self c.write.new.self c.write.ensures.does.0.began (guarded_write d (old_file_of d c.self.inside.disk) c.self.inside.state c.self.inside.kept.items c.args.n c.self.inside.disk c.write.new.self i.0 (sym c.may_write.ensures ∙ c.if-not-may_write.false) c.write.ensures.does.0),
            alone_same d c.self.inside.log c.self.inside.disk c.write.new.self c.write.ensures.does.0.began i.1,
          ),
    )

pub returns-clause-changes : goal.returns-clause-changes
returns-clause-changes g c = record {
  steady = search rules;
  opening = opening_same g.D.DiskState c.self.inside.log c.self.inside.doubt.items c.self.inside.disk c.write.new.self c.write.ensures.does.0.began (c.write.ensures.does.0.seen.commits) ∙ ap (opening_of g.D.DiskState) c.self.view_is;
  reads = search rules;
  shapes = search rules;
  writes = search rules;
  failures = passed_on _ _ c.self.inside.refusals _ _ _ c.write.ensures.does.1.failures (ap (λ (s : KeptStored _). g.D.DiskState.failures s.disk) c.self.view_is) (ap (λ (s : KeptStored _). s.refusals) c.self.view_is);
  memory = search rules;
  journal = search rules;
  same_journal = search rules;
  guard = search rules;
}

pub returns-then-not-may_write-clause-changes : goal.returns-then-not-may_write-clause-changes
returns-then-not-may_write-clause-changes g c = record {
  steady = search rules;
  opening = ap (opening_of g.D.DiskState) c.self.view_is;
  reads = search rules;
  shapes = search rules;
  writes = search rules;
  failures = refused_on (g.D.DiskState.failures c.self.inside.disk) c.self.inside.refusals _ _ _ c.count_up.ensures (ap (λ (s : KeptStored _). g.D.DiskState.failures s.disk) c.self.view_is) (ap (λ (s : KeptStored _). s.refusals) c.self.view_is);
  memory = search rules;
  journal = search rules;
  same_journal = search rules;
  guard = λ allowed. absurd (false≢true (sym (sym c.may_write.ensures ∙ c.if-not-may_write.true) ∙ sym (may_by_guard c.self.inside.state c.self.inside.kept.items c.self.inside.refusals c.args.n) ∙ ap (λ (s : KeptStored _). may_write (guard_of s.state s.kept s.refusals) c.args.n) c.self.view_is ∙ allowed));
}
