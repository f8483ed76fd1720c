use Rattle.std.proofs.Common.{ap, ◌∙◌, take, Some}
use Rattle.page_journal.specs.Sums.{sum_on}
use Rattle.page_journal.specs.SideBytes.{side_header}
use Rattle.page_journal.proofs.side_bytes.header_of.Goals as goal

pub returns : goal.returns
returns c =
    c.spell_header.ensures
    ∙ ap (side_header c.args.long c.args.kept (Some c.args.rest)) (c.sum_on.ensures ∙ ap (λ h. sum_on c.args.sum (take 32 h)) c.spell_header-unsummed.ensures)
