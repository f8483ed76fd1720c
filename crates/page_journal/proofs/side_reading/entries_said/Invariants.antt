use Rattle.std.proofs.Common.{◌≡◌, drop}
use Rattle.page_journal.specs.SideBytes.{header_width, read_entries}
use Rattle.page_journal.proofs.side_reading.entries_said.Given as goal

abbrev pub invariant-loop-i : goal.invariant-loop-i
invariant-loop-i l = l.pages.items ≡ read_entries l.i (drop (header_width l.rest) l.bytes)
