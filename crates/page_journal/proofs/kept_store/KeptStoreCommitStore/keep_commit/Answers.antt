use Rattle.std.proofs.Common.{◌∙◌, ◌++◌, ◌∷◌, [], Some, Err, inl, ap, sym, subst, rules}
use Rattle.page_store.specs.declared.append_fault.AppendFault.{AppendFault}
use Rattle.page_journal.specs.KeptStores.{KeptStored}
use Rattle.page_journal.specs.Crash.{LeavesOnly}
use Rattle.page_journal.specs.LoggedStores.{BeganAlone, FindsNow, IsLogged, KnowsCommits, commits_in}
use Rattle.page_journal.proofs.LoggedLemmas.{alone_same, doubt_all, doubt_guard, keep_all, keep_moment, keep_told, kept_guard, opening_grown, opening_of, room_all}
use Rattle.page_journal.proofs.kept_store.KeptStoreCommitStore.keep_commit.Goals as goal

pub invariant_of-self : goal.invariant_of-self
invariant_of-self g c =
    let d = g.D.DiskState in
    let told = c.deref.ensures.value in
    let unit = c.requires in
    let knows = subst (λ l. KnowsCommits d l c.self.inside.doubt.items c.self.inside.disk) c.in-Some.is c.self.invariant.1 in (
      c.append.ensures.fits,
      λ alone.
          let logged = knows (alone_same d (Some c.in-Some.place) c.append.new.disk c.self.inside.disk (sym c.append.ensures.disk.1) alone) in
          keep_all d (g.met.D.Disk.counts_now) c.self.inside.state c.self.inside.doubt.items c.in-Some.place c.append.new.place c.self.inside.disk c.append.new.disk c.in-Unsealed.is logged c.self.invariant.2 unit.0 (λ units ready. c.in-Ok.ensures.done units unit.0 ready unit.1 (told ∙ unit.2)) (λ units ready. c.append.ensures.any_moment units unit.0 ready unit.1 (told ∙ unit.2)),
      c.self.invariant.2,
      λ st.
          let was = c.self.invariant.3 (sym c.append.ensures.disk.0 ∙ st) in (
            kept_guard d (g.met.D.Disk.counts_now) c.self.inside.state c.self.inside.kept.items c.self.inside.disk c.append.new.disk c.in-Unsealed.is c.append.ensures.disk.1 c.append.ensures.pages was.0,
            alone_same d (Some c.in-Some.place) c.self.inside.disk c.append.new.disk c.append.ensures.disk.1 (subst (λ l. BeganAlone d l c.self.inside.disk) c.in-Some.is was.1),
          ),
    )

pub invariant_of-self-in-Room-1 : goal.invariant_of-self-in-Room-1
invariant_of-self-in-Room-1 g c =
    let d = g.D.DiskState in
    let knows = subst (λ l. KnowsCommits d l c.self.inside.doubt.items c.self.inside.disk) c.in-Some.is c.self.invariant.1 in (
      c.append.ensures.fits,
      λ alone.
          let logged = knows (alone_same d (Some c.in-Some.place) c.append.new.disk c.self.inside.disk (sym c.append.ensures.disk.1) alone) in
          room_all d (g.met.D.Disk.counts_now) c.self.inside.state c.self.inside.doubt.items c.in-Some.place c.append.new.place c.self.inside.disk c.append.new.disk c.in-Unsealed.is logged c.self.invariant.2 (λ units ready. c.in-Err-Room.ensures.no_room units ready (ap (λ (e : AppendFault). Err e) c.in-Err-Room.field-0-is)),
      c.self.invariant.2,
      λ st.
          let was = c.self.invariant.3 (sym c.append.ensures.disk.0 ∙ st) in (
            kept_guard d (g.met.D.Disk.counts_now) c.self.inside.state c.self.inside.kept.items c.self.inside.disk c.append.new.disk c.in-Unsealed.is c.append.ensures.disk.1 c.append.ensures.pages was.0,
            alone_same d (Some c.in-Some.place) c.self.inside.disk c.append.new.disk c.append.ensures.disk.1 (subst (λ l. BeganAlone d l c.self.inside.disk) c.in-Some.is was.1),
          ),
    )

pub invariant_of-self-in-Err-Doubt : goal.invariant_of-self-in-Err-Doubt
invariant_of-self-in-Err-Doubt g c =
    let d = g.D.DiskState in
    let told = c.deref.ensures.value in
    let unit = c.requires in
    let knows = subst (λ l. KnowsCommits d l c.self.inside.doubt.items c.self.inside.disk) c.in-Some.is c.self.invariant.1 in (
      c.append.ensures.fits,
      λ alone.
          let logged = knows (alone_same d (Some c.in-Some.place) c.append.new.disk c.self.inside.disk (sym c.append.ensures.disk.1) alone) in
          doubt_all d (g.met.D.Disk.counts_now) c.self.inside.state c.self.inside.doubt.items c.in-Some.place c.append.new.place c.self.inside.disk c.append.new.disk c.in-Unsealed.is logged c.self.invariant.2 unit.0 c.args.text.items unit.1 unit.2 (λ units ready. c.in-Err-Doubt.ensures.doubt units ready (ap (λ (e : AppendFault). Err e) c.in-Err-Doubt.field-0-is)) (λ units ready. c.append.ensures.any_moment units unit.0 ready unit.1 (told ∙ unit.2)),
      tt,
      λ st.
          let was = c.self.invariant.3 (sym c.append.ensures.disk.0 ∙ st) in (
            doubt_guard d (g.met.D.Disk.counts_now) c.self.inside.state c.self.inside.kept.items c.self.inside.disk c.append.new.disk c.in-Unsealed.is c.append.ensures.disk.1 c.append.ensures.pages was.0,
            alone_same d (Some c.in-Some.place) c.self.inside.disk c.append.new.disk c.append.ensures.disk.1 (subst (λ l. BeganAlone d l c.self.inside.disk) c.in-Some.is was.1),
          ),
    )

pub returns-in-Ok-clause-commits : goal.returns-in-Ok-clause-commits
returns-in-Ok-clause-commits g c = record {
  pages = search rules;
  tail = search rules;
  steady = search rules;
  reads = search rules;
  shapes = search rules;
  writes = search rules;
  failures = search rules;
  journal = search rules;
  commits = record {
    opened = opening_grown g.D.DiskState c.self.inside.disk c.append.new.disk c.append.ensures.disk.1 c.self.inside.log c.in-Some.place c.append.new.place c.in-Some.is (commits_in (Some c.append.new.place) (g.D.DiskState.seen c.append.new.disk)) (commits_in c.self.inside.log (g.D.DiskState.seen c.self.inside.disk)) c.self.inside.doubt.items c.self.inside.doubt.items ∙ ap (λ (s : KeptStored _). record (opening_of g.D.DiskState s) { commits = commits_in (Some c.append.new.place) (g.D.DiskState.seen c.append.new.disk); doubt = c.self.inside.doubt.items }) c.self.view_is;
    doubted = inl (ap (λ (s : KeptStored _). s.doubt) c.self.view_is);
    kept = λ st unit is spelt.
        let d = g.D.DiskState in
        let told = c.deref.ensures.value in
        let steady = ap (λ (s : KeptStored _). d.steady s.disk) c.self.view_is ∙ st in
        let logged = subst (λ l. IsLogged d l c.self.inside.doubt.items c.self.inside.disk) c.in-Some.is (c.self.invariant.1 (c.self.invariant.3 steady).1) in
        keep_told d (g.met.D.Disk.counts_now) c.self.inside.state c.self.inside.doubt.items c.in-Some.place c.append.new.place c.self.inside.disk c.append.new.disk c.in-Unsealed.is logged c.self.invariant.2 unit (λ units ready. c.in-Ok.ensures.done units unit ready is (told ∙ spelt))
        ∙ ap (λ l. commits_in l (d.seen c.self.inside.disk) ++ unit ∷ []) (sym c.in-Some.is)
        ∙ ap (λ (s : KeptStored _). commits_in s.log (d.seen s.disk) ++ unit ∷ []) c.self.view_is;
    unkept = search rules;
    guarded_still = search rules;
  };
}

pub returns-in-Ok-clause-any_moment : goal.returns-in-Ok-clause-any_moment
returns-in-Ok-clause-any_moment g c = λ alone unsealed.
    let d = g.D.DiskState in
    let told = c.deref.ensures.value in
    let logged = subst (λ l. IsLogged d l c.self.inside.doubt.items c.self.inside.disk) c.in-Some.is (c.self.invariant.1 (subst (λ (s : KeptStored _). BeganAlone d s.log s.disk) (sym c.self.view_is) alone)) in
    let unit = c.requires in
    let moment = keep_moment d (g.met.D.Disk.counts_now) c.self.inside.state c.self.inside.doubt.items c.in-Some.place c.append.new.place c.self.inside.disk c.append.new.disk c.in-Unsealed.is logged c.self.invariant.2 unit.0 c.args.text.items unit.1 unit.2 (λ units ready. c.append.ensures.any_moment units unit.0 ready unit.1 (told ∙ unit.2)) in
    subst (λ (s : KeptStored _). LeavesOnly d (FindsNow s.log (d.began s.disk) (commits_in s.log (d.seen s.disk)) c.args.text.items) s.disk c.append.new.disk) c.self.view_is
    (subst (λ l. LeavesOnly d (FindsNow l (d.began c.self.inside.disk) (commits_in l (d.seen c.self.inside.disk)) c.args.text.items) c.self.inside.disk c.append.new.disk) (sym c.in-Some.is) moment)

pub returns-in-Err-Room-clause-any_moment : goal.returns-in-Err-Room-clause-any_moment
returns-in-Err-Room-clause-any_moment g c = λ alone unsealed.
    let d = g.D.DiskState in
    let told = c.deref.ensures.value in
    let logged = subst (λ l. IsLogged d l c.self.inside.doubt.items c.self.inside.disk) c.in-Some.is (c.self.invariant.1 (subst (λ (s : KeptStored _). BeganAlone d s.log s.disk) (sym c.self.view_is) alone)) in
    let unit = c.requires in
    let moment = keep_moment d (g.met.D.Disk.counts_now) c.self.inside.state c.self.inside.doubt.items c.in-Some.place c.append.new.place c.self.inside.disk c.append.new.disk c.in-Unsealed.is logged c.self.invariant.2 unit.0 c.args.text.items unit.1 unit.2 (λ units ready. c.append.ensures.any_moment units unit.0 ready unit.1 (told ∙ unit.2)) in
    subst (λ (s : KeptStored _). LeavesOnly d (FindsNow s.log (d.began s.disk) (commits_in s.log (d.seen s.disk)) c.args.text.items) s.disk c.append.new.disk) c.self.view_is
    (subst (λ l. LeavesOnly d (FindsNow l (d.began c.self.inside.disk) (commits_in l (d.seen c.self.inside.disk)) c.args.text.items) c.self.inside.disk c.append.new.disk) (sym c.in-Some.is) moment)

pub returns-in-Err-Doubt-clause-any_moment : goal.returns-in-Err-Doubt-clause-any_moment
returns-in-Err-Doubt-clause-any_moment g c = λ alone unsealed.
    let d = g.D.DiskState in
    let told = c.deref.ensures.value in
    let logged = subst (λ l. IsLogged d l c.self.inside.doubt.items c.self.inside.disk) c.in-Some.is (c.self.invariant.1 (subst (λ (s : KeptStored _). BeganAlone d s.log s.disk) (sym c.self.view_is) alone)) in
    let unit = c.requires in
    let moment = keep_moment d (g.met.D.Disk.counts_now) c.self.inside.state c.self.inside.doubt.items c.in-Some.place c.append.new.place c.self.inside.disk c.append.new.disk c.in-Unsealed.is logged c.self.invariant.2 unit.0 c.args.text.items unit.1 unit.2 (λ units ready. c.append.ensures.any_moment units unit.0 ready unit.1 (told ∙ unit.2)) in
    subst (λ (s : KeptStored _). LeavesOnly d (FindsNow s.log (d.began s.disk) (commits_in s.log (d.seen s.disk)) c.args.text.items) s.disk c.append.new.disk) c.self.view_is
    (subst (λ l. LeavesOnly d (FindsNow l (d.began c.self.inside.disk) (commits_in l (d.seen c.self.inside.disk)) c.args.text.items) c.self.inside.disk c.append.new.disk) (sym c.in-Some.is) moment)
