use Rattle.std.proofs.Common.{◌<◌, ◌∙◌, ap, subst, get_or, length, arith}
use Rattle.page_journal.specs.History.{done}
use Rattle.page_journal.specs.Fates.{fated, NamesAgree}
use Rattle.page_journal.specs.declared.disk_call.DiskCall.{DiskCall}
use Rattle.page_journal.specs.declared.fate.Fate.{Fate}
use Rattle.page_journal.specs.declared.fate.Fate.TheVariants.{Done}
use Rattle.page_journal.proofs.FateLemmas.{fated_next, seen_next, all_fated}
use Rattle.page_journal.proofs.mem_disk.suffer_all.Goals as goal

pub loop-i-preserved : goal.loop-i-preserved
loop-i-preserved c =
    let first = c.args.seen.now in
    let items = c.args.calls.now in
    let k = c.loop-i.i in
    let call : DiskCall = c.index-calls-i.result in
    let is = c.index-calls-i.is in
    let seen = c.loop-i.seen in
    let next = c.carry_out.new.self in
    let left = c.loop-i.left in
    let fate : Fate = get_or c.args.fates.now k Done in
    let below : k < length items = omega (arith, c.requires.fits, c.loop-i-test.true) in
    let does = c.in_ok-carry_out.ensures.ok ∙ ap (λ (x : DiskCall). done x seen) is in
    record {
      may = fated_next first items k call fate left seen next c.suffer.new.self below c.loop-i.invariant.may c.loop-i.invariant.seen does
          (subst (λ (x : DiskCall). NamesAgree x next left) is (c.names_agree.ensures.agree c.if-not-names_agree.false))
          (c.in_ok-suffer.ensures ∙ ap (λ (x : DiskCall). fated x fate next left) is);
      seen = seen_next first items k call seen next below c.loop-i.invariant.seen does;
      whole = λ all. all_fated call fate left seen next c.suffer.new.self (all k Done c.loop-i-test.true) (c.loop-i.invariant.whole all) c.in_ok-carry_out.ensures.ok c.in_ok-suffer.ensures;
    }
