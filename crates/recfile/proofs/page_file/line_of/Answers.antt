use Rattle.std.proofs.Common.{ℕ, List, ◌++◌, ap, ◌∙◌}
use Rattle.recfile.specs.TreeLine.{counts_line}
use Rattle.recfile.proofs.page_file.line_of.Goals as goal

pub returns : goal.returns
returns c = c.in_ok-write.ensures.bytes ∙ ap (λ (old : List ℕ). old ++ counts_line c.args.counts.now) c.new-line.ensures.bytes
