use Rattle.std.proofs.Common.{◌≡◌, ℕ, ◌+◌, ◌-◌, List, ◌++◌, length, take, drop, sym, ap, subst, ◌∙◌, arith}
use Rattle.std.proofs.lemmas.Grind.{common_steps}
use Rattle.std.proofs.lemmas.List.{take_rest}
use Rattle.std.proofs.Math.Seq.{take-add}
use Rattle.std.specs.Io.KnownBytes.{Appends}
use Rattle.std.proofs.KnownBytes.{Appends-trans}
use Rattle.recfile.proofs.script.send_text.Goals as goal

-- what was written, and the front of the rest
more : (sent n : ℕ) (text : List ℕ) → take sent text ++ take n (take (length text - sent) (drop sent text)) ≡ take (sent + n) text
more sent n text = ap (λ bs. take sent text ++ take n bs) (take_rest text sent) ∙ sym (take-add sent n text)

rest : (sent : ℕ) (text : List ℕ) → length (take (length text - sent) (drop sent text)) ≡ length text - sent
rest sent text = grind (arith, common_steps)

pub loop-sent-preserved : goal.loop-sent-preserved
loop-sent-preserved g c = record {
  within = omega (arith, c.loop-sent-test.true, c.in-Ok.ensures.bound.1, rest c.loop-sent.sent c.args.text.now);
  written = subst (λ bs. Appends (g.W.CountedWrite.held c.args.writer.now) (g.W.CountedWrite.held c.write_on.new.self) bs) (more c.loop-sent.sent c.in-Ok.n c.args.text.now)
      (Appends-trans (g.W.CountedWrite.held c.args.writer.now) (g.W.CountedWrite.held c.loop-sent.writer) (g.W.CountedWrite.held c.write_on.new.self) (take c.loop-sent.sent c.args.text.now) _ c.loop-sent.invariant.written c.in-Ok.ensures.bytes);
  calls = c.in-Ok.ensures.count ∙ c.loop-sent.invariant.calls;
}
