use Rattle.std.proofs.Common.{ℕ, List, ap, ◌∙◌}
use Rattle.std.proofs.KnownBytes.{prepend_known-nil}
use Rattle.std.specs.Io.KnownBytes.{prepend_known}
use Rattle.line_prompt.proofs.by_line.ByLine.new.Goals as goal

pub returns-clause-bytes : goal.returns-clause-bytes
returns-clause-bytes g c =
    let left = g.R.Read.remaining c.args.lines in
    ap (λ (kept : List ℕ). prepend_known kept left) c.new.ensures ∙ prepend_known-nil left
