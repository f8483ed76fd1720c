use Rattle.std.proofs.Common.{◌≡◌, ◌∙◌, ◌≤◌, ap, subst, arith, length, List, reverse, take}
use Rattle.std.proofs.lemmas.List.{length-reverse}
use Rattle.page_journal.specs.History.{History, MayLeave, all_done}
use Rattle.page_journal.specs.declared.disk_call.DiskCall.{DiskCall}
use Rattle.page_journal.proofs.FateLemmas.{crash_left, crash_whole}
use Rattle.page_journal.proofs.mem_disk.MemDisk.crash.Goals as goal
use Rattle.page_journal.proofs.mem_disk.MemDisk.crash.Goals.{After-restarted}

module _ (c : After-restarted) where
  view : reverse c.self.inside.calls.items ≡ c.args.self.now.calls
  view = ap (λ (h : History). h.calls) c.self.view_is

  fits : length c.args.fates.now ≤ length c.self.inside.calls.items
  fits = omega (arith, c.requires, ap (λ (l : List DiskCall). length l) view, length-reverse c.self.inside.calls.items)

  first : c.in_ok-seen.seen ≡ c.args.self.now.first
  first = c.in_ok-seen.ensures ∙ ap (λ (h : History). h.first) c.self.view_is

pub returns-clause-left : goal.returns-clause-left
returns-clause-left c =
    let p = (goal.at.returns-clause-left c).After-restarted in
    let may : MayLeave c.in_ok-seen.seen (reverse (take (length c.args.fates.now) c.self.inside.calls.items)) c.suffer_all.new.left =
    subst (λ (l : List DiskCall). MayLeave c.in_ok-seen.seen (reverse (take (length c.args.fates.now) l)) c.suffer_all.new.left) c.deref.ensures.value (c.in_ok-suffer_all.ensures.left c.if-not-branch.false) in
    crash_left c.args.self.now.first c.args.self.now.calls c.self.inside.calls.items (length c.args.fates.now) c.restarted.result c.in_ok-seen.seen c.suffer_all.new.left c.restarted.ensures (view p) (fits p) (first p) may

pub returns-clause-whole : goal.returns-clause-whole
returns-clause-whole c = λ all.
    let p = (goal.at.returns-clause-whole c).After-restarted in
    let whole : c.suffer_all.new.left ≡ all_done c.in_ok-seen.seen (reverse (take (length c.args.fates.now) c.self.inside.calls.items)) =
    (c.in_ok-suffer_all.ensures.whole all).1 ∙ ap (λ (l : List DiskCall). all_done c.in_ok-seen.seen (reverse (take (length c.args.fates.now) l))) c.deref.ensures.value in
    crash_whole c.args.self.now.first c.args.self.now.calls c.self.inside.calls.items (length c.args.fates.now) c.restarted.result c.in_ok-seen.seen c.suffer_all.new.left c.restarted.ensures (view p) (fits p) (first p) whole
