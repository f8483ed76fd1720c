-- The calls that were handed out.
use Rattle.std.specs.Prelude.{List, [], Option, Some, None}
use Rattle.page_journal.specs.declared.disk_call.DiskCall.{DiskCall}
use Rattle.page_journal.specs.declared.past.Past.{Past}

abbrev pub past_of : Option Past → List DiskCall
past_of None = []
past_of (Some past) = past.calls
