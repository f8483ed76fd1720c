use Rattle.page_journal.proofs.ByteLemmas.{page_written, page_kept, side_begun, side_made, side_named}
use Rattle.page_journal.proofs.laws.calls_in_bytes.Goals as goal

pub returns : goal.returns
returns c = record { page = page_written; begun = side_begun; kept = page_kept; made = side_made; named = side_named }
