use Rattle.std.proofs.Common.{ap, ◌∙◌, take, None}
use Rattle.page_journal.specs.Sums.{sum_on}
use Rattle.page_journal.specs.SideBytes.{side_header}
use Rattle.page_journal.proofs.side_bytes.old_header_of.Goals as goal

pub returns : goal.returns
returns c =
    c.spell_old_header.ensures
    ∙ ap (side_header c.args.long c.args.kept None) (c.sum_on.ensures ∙ ap (λ h. sum_on c.args.sum (take 24 h)) c.spell_old_header-unsummed.ensures)
