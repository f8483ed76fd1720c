use Rattle.std.proofs.Common.{refl, subst}
use Rattle.recfile.specs.Spelled.{PartWritten}
use Rattle.recfile.proofs.SpelledLemmas.{part_of_front}
use Rattle.recfile.proofs.dump_text.DumpText.send.Goals as goal

pub returns-in-Err-clause-stops : goal.returns-in-Err-clause-stops
returns-in-Err-clause-stops g c =
    let held = g.W.Write.contents c.args.out.now in
    let holds = g.W.Write.contents c.write_text.new.writer in
    (refl, subst (PartWritten held holds) c.deref.ensures.value (part_of_front held holds c.deref.result.now (c.in-Err.field-0, c.in-Err.ensures.err.0, c.in-Err.ensures.err.1)))
