-- How a list of calls is stored.
use Rattle.std.specs.Prelude.{List}
use Rattle.std.specs.Coded.{Coded, coded_list}
use Rattle.page_journal.specs.contracts.disk_call.DiskCall as call
use Rattle.page_journal.specs.declared.disk_call.DiskCall.{DiskCall}

abbrev pub coded_disk_calls : Coded (List DiskCall)
coded_disk_calls = coded_list call.the_row.coded
