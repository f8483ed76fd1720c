use Rattle.std.proofs.Common.{rules, ◌/◌, ◌%◌}
use Rattle.page_journal.proofs.FileDiskLemmas.{opened_long}
use Rattle.page_journal.proofs.file_disk.FileDisk.looked_at.Goals as goal

pub invariant_of-result : goal.invariant_of-result
invariant_of-result g c =
    let long = opened_long c.just_opened.result.events (c.args.opened.now.len / 4096) (c.args.opened.now.len % 4096) c.just_opened.ensures in
    (search rules, long.0, long.1)
