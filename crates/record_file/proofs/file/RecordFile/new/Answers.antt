use Rattle.std.proofs.Common.{rules, arith}
use Rattle.record_file.proofs.InvariantLemmas.{file_new}
use Rattle.record_file.proofs.file.RecordFile.new.Goals as goal

pub invariant_of-result : goal.invariant_of-result
invariant_of-result g c = file_new _ _ _ c.args.limits c.new.result c.new.ensures c.requires (λ sound. omega (arith, c.count-count.ensures.most sound, c.count-count.ensures.value sound))

pub returns : goal.returns
returns g c = search rules
