use Rattle.std.proofs.Common.{ℕ, ◌≤◌, List, length, subst, ap, arith}
use Rattle.line_prompt.specs.ByLine.{HasFirstLine}
use Rattle.line_prompt.proofs.LineLemmas.{HasFirstLine-full, HasFirstLine-searched}
use Rattle.line_prompt.proofs.by_line.Kept.wants_more.Goals as goal

pub returns-then-kept-lt-CHUNK-clause-line : goal.returns-then-kept-lt-CHUNK-clause-line
returns-then-kept-lt-CHUNK-clause-line c line is =
    let kept = c.bytes-kept.result.now in
    let bound : length kept ≤ 4096 = omega (arith, ap (λ (l : List ℕ). length l) c.bytes-kept.ensures.0) in
    subst HasFirstLine c.bytes-kept.ensures.0 (HasFirstLine-searched kept c.memchr.result c.is_none.result bound c.memchr.ensures c.is_none.ensures is)

pub returns-else-kept-lt-CHUNK-clause-line : goal.returns-else-kept-lt-CHUNK-clause-line
returns-else-kept-lt-CHUNK-clause-line c line is =
    HasFirstLine-full c.args.self.now (omega (arith, ap (λ (l : List ℕ). length l) c.bytes-kept.ensures.0))
