use Rattle.std.proofs.Common.{rules, ◌/◌, ◌%◌}
use Rattle.page_journal.proofs.FileDiskLemmas.{opened_long}
use Rattle.page_journal.proofs.file_disk.FileDisk.open.Goals as goal

pub invariant_of-disk : goal.invariant_of-disk
invariant_of-disk g c =
    let long = opened_long c.just_opened.result.events (c.in_ok-opened.opened.len / 4096) (c.in_ok-opened.opened.len % 4096) c.just_opened.ensures in
    (search rules, long.0, long.1)

pub invariant_of-disk-else-is_some : goal.invariant_of-disk-else-is_some
invariant_of-disk-else-is_some g c =
    let long = opened_long c.just_opened.result.events (c.in_ok-opened.opened.len / 4096) (c.in_ok-opened.opened.len % 4096) c.just_opened.ensures in
    (search rules, long.0, long.1)
