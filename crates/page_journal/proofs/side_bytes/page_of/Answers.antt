use Rattle.std.proofs.Common.{drop, ◌∙◌, arith}
use Rattle.std.proofs.lemmas.List.{length-drop, take_all}
use Rattle.page_journal.proofs.side_bytes.page_of.Goals as goal

pub returns : goal.returns
returns c = c.copy_from_slice.ensures.after ∙ take_all 4096 (drop 4 c.args.entry.now) (omega (arith, length-drop 4 c.args.entry.now, c.told-entry))
