use Rattle.std.proofs.Common.{rules, ◌≡◌, ℕ, ◌<◌, ◌≤◌, List, [], ◌++◌, length, take, Err, inl, ap, refl, ◌∙◌, arith}
use Rattle.std.proofs.lemmas.Grind.{common_steps}
use Rattle.std.proofs.lemmas.Result.{err_from_is_err_and}
use Rattle.std.proofs.KnownBytes.{Consumes-nil, Consumes-kept, Consumes-trans}
use Rattle.record_file.specs.Runs.{seen_as}
use Rattle.recfile.specs.Streams.{CallsMade}
use Rattle.recfile.proofs.StreamLemmas.{tells_last}
use Rattle.recfile.proofs.ShellLemmas.{come_ended, is_answered, none_so_far, ran_last, ran_to, ran_to_flush, turns_on}
use Rattle.recfile.proofs.shell.run_answered.Goals as goal

taken_length : (n : ℕ) (bytes : List ℕ) → n ≤ length bytes → length (take n bytes) ≡ n
taken_length n bytes fits = grind (arith, common_steps)

none_taken : (n : ℕ) (bytes : List ℕ) → n ≡ 0 → take n bytes ≡ []
none_taken n bytes none = ap (λ (k : ℕ). take k bytes) none

reads_spent : (turn n most : ℕ) → most ≤ turn → turn ≤ n → most ≤ n
reads_spent turn n most all fits = omega (arith, all, fits)

pub read_answered-requires : goal.read_answered-requires
read_answered-requires g c = λ κs lives. (
  lives.0,
  (lives.1.0, (lives.1.1, is_answered g.start c.args.strict (g.R.CountedRead.left c.args.reader.now) (g.R.CountedRead.left c.loop-turn.reader) (g.W.CountedWrite.held c.args.writer.now) (g.W.CountedWrite.held c.loop-turn.writer) (seen_as g.K.Keeper.keeps g.T.TableState c.args.file.now) (seen_as g.K.Keeper.keeps g.T.TableState c.loop-turn.file) c.loop-turn.invariant.0 c.loop-turn.part c.loop-turn.counts c.requires.1.1.1.1.1 c.loop-turn.invariant.1 c.loop-turn.invariant.2)),
)

pub returns-in-Err-clause-ran : goal.returns-in-Err-clause-ran
returns-in-Err-clause-ran g c =
    let known = c.loop-turn.invariant in
    inl (
      known.2.passed,
      come_ended c.args.strict (g.R.CountedRead.left c.args.reader.now) (g.R.CountedRead.left c.read_answered.new.reader) (g.W.CountedWrite.held c.args.writer.now) (g.W.CountedWrite.held c.loop-turn.writer) _ _ known.0 c.loop-turn.part c.loop-turn.counts (Consumes-kept (g.R.CountedRead.left c.args.reader.now) (g.R.CountedRead.left c.loop-turn.reader) (g.R.CountedRead.left c.read_answered.new.reader) known.0 known.1 c.in-Err.ensures.bytes) known.2,
      known.2.answered,
    )

pub returns-in-Ok-eq0-clause-ran : goal.returns-in-Ok-eq0-clause-ran
returns-in-Ok-eq0-clause-ran g c =
    let known = c.loop-turn.invariant in
    let none : c.in-Ok-eq0.field-0 ≡ 0 = c.in-Ok-eq0.field-0-test in
    let room : 0 < length c.read_answered.new.to = omega arith in
    ran_last c.args.strict (g.R.CountedRead.left c.args.reader.now) (g.R.CountedRead.left c.loop-turn.reader) (g.R.CountedRead.left c.read_answered.new.reader) (g.W.CountedWrite.held c.args.writer.now) (g.W.CountedWrite.held c.answer_last.new.writer) _ _ known.0 (take c.in-Ok-eq0.field-0 c.read_answered.new.to) c.answer_last.result known.1 c.in-Ok-eq0.ensures.bytes.0 (none_taken c.in-Ok-eq0.field-0 c.read_answered.new.to none) (c.in-Ok-eq0.ensures.bytes.1 none room)
    (c.answer_last.ensures.answered (g.W.CountedWrite.held c.args.writer.now) (seen_as g.K.Keeper.keeps g.T.TableState c.args.file.now) known.0 known.2)

pub returns-in_err-answer_lines-in-Ok-clause-ran : goal.returns-in_err-answer_lines-in-Ok-clause-ran
returns-in_err-answer_lines-in-Ok-clause-ran g c =
    let known = c.loop-turn.invariant in
    let told = err_from_is_err_and c.from_residual-in_err-answer_lines-in-Ok.result c.from_residual-in_err-answer_lines-in-Ok.ensures.1 in
    ran_to c.args.strict (g.R.CountedRead.left c.args.reader.now) (g.R.CountedRead.left c.loop-turn.reader) (g.R.CountedRead.left c.read_answered.new.reader) (g.W.CountedWrite.held c.args.writer.now) (g.W.CountedWrite.held c.answer_lines.new.writer) _ _ known.0 (take c.in-Ok.n c.read_answered.new.to) c.from_residual-in_err-answer_lines-in-Ok.result c.in_err-answer_lines-in-Ok.field-0.0 (told.1 ∙ ap Err told.2) known.1 c.in-Ok.ensures.bytes.0
    (c.in_err-answer_lines-in-Ok.ensures.answered (g.W.CountedWrite.held c.args.writer.now) (seen_as g.K.Keeper.keeps g.T.TableState c.args.file.now) known.0 known.2)

pub returns-then-asks_flush-clause-ran : goal.returns-then-asks_flush-clause-ran
returns-then-asks_flush-clause-ran g c =
    let known = c.loop-turn.invariant in
    ran_to_flush c.args.strict (g.R.CountedRead.left c.args.reader.now) (g.R.CountedRead.left c.loop-turn.reader) (g.R.CountedRead.left c.read_answered.new.reader) (g.W.CountedWrite.held c.args.writer.now) (g.W.CountedWrite.held c.loop-turn.writer) _ _ known.0 (take c.in-Ok.n c.read_answered.new.to) c.loop-turn.part c.loop-turn.counts _ _ known.1 c.in-Ok.ensures.bytes.0 known.2 (c.asks_flush.ensures.asks c.if-asks_flush.true) refl refl

pub returns-then-asks_flush-clause-failed : goal.returns-then-asks_flush-clause-failed
returns-then-asks_flush-clause-failed g c = record { read = c.in-Ok.ensures.failed.read ∙ c.loop-turn.invariant.5; written = c.in-Ok.ensures.failed.written ∙ c.loop-turn.invariant.6 }

pub returns-clause-ran : goal.returns-clause-ran
returns-clause-ran g c =
    let known = c.loop-turn.invariant in
    inl (
      known.2.passed,
      come_ended c.args.strict (g.R.CountedRead.left c.args.reader.now) (g.R.CountedRead.left c.loop-turn.reader) (g.W.CountedWrite.held c.args.writer.now) (g.W.CountedWrite.held c.loop-turn.writer) _ _ known.0 c.loop-turn.part c.loop-turn.counts known.1 known.2,
      known.2.answered,
      reads_spent c.loop-turn.turn (length known.0) 18446744073709551615 c.loop-turn-test.false known.3,
    )

pub loop-turn-init : goal.loop-turn-init
loop-turn-init g c = (
  [],
  Consumes-nil (g.R.CountedRead.left c.args.reader.now),
  none_so_far c.args.strict (g.W.CountedWrite.held c.args.writer.now) _ c.in_ok-part.part _ (search rules) refl,
  omega arith,
  g.met.K.Keeper.moves_none _ _ refl,
  refl,
  refl,
)

pub loop-turn-preserved : goal.loop-turn-preserved
loop-turn-preserved g c =
    let known = c.loop-turn.invariant in
    let bytes : List ℕ = take c.in-Ok.n c.read_answered.new.to in (
      known.0 ++ bytes,
      Consumes-trans (g.R.CountedRead.left c.args.reader.now) (g.R.CountedRead.left c.loop-turn.reader) (g.R.CountedRead.left c.read_answered.new.reader) known.0 bytes known.1 c.in-Ok.ensures.bytes.0,
      c.in_ok-answer_lines-in-Ok.ensures.answered (g.W.CountedWrite.held c.args.writer.now) (seen_as g.K.Keeper.keeps g.T.TableState c.args.file.now) known.0 known.2,
      turns_on c.loop-turn.turn c.in-Ok.n known.0 bytes known.3 (taken_length c.in-Ok.n c.read_answered.new.to (omega (arith, c.in-Ok.ensures.bound))) (omega (arith, c.in-Ok.n-test.1)),
      g.met.K.Keeper.moves_on _ _ _ known.4 c.answer_lines.ensures.moves,
      ap (λ (k : CallsMade). k.read_failed) c.in_ok-answer_lines-in-Ok.ensures.failed ∙ c.in-Ok.ensures.failed.read ∙ known.5,
      ap (λ (k : CallsMade). k.write_failed) c.in_ok-answer_lines-in-Ok.ensures.failed ∙ c.in-Ok.ensures.failed.written ∙ known.6,
    )

pub returns-in-Err-clause-failed : goal.returns-in-Err-clause-failed
returns-in-Err-clause-failed g c = record { read = c.in-Err.ensures.failed.read; written = c.in-Err.ensures.failed.written ∙ c.loop-turn.invariant.6 }

pub returns-in-Ok-eq0-clause-failed : goal.returns-in-Ok-eq0-clause-failed
returns-in-Ok-eq0-clause-failed g c =
    tells_last c.args.calls.now c.read_answered.new.calls c.answer_last.new.calls _ _ (c.in-Ok-eq0.ensures.failed.read ∙ c.loop-turn.invariant.5) (c.in-Ok-eq0.ensures.failed.written ∙ c.loop-turn.invariant.6) c.answer_last.ensures.failed c.answer_last.ensures.faults

pub returns-in_err-answer_lines-in-Ok-clause-failed : goal.returns-in_err-answer_lines-in-Ok-clause-failed
returns-in_err-answer_lines-in-Ok-clause-failed g c =
    let told = err_from_is_err_and c.from_residual-in_err-answer_lines-in-Ok.result c.from_residual-in_err-answer_lines-in-Ok.ensures.1 in
    rw (told.1, told.2) (tells_last c.args.calls.now c.read_answered.new.calls c.answer_lines.new.calls _ _ (c.in-Ok.ensures.failed.read ∙ c.loop-turn.invariant.5) (c.in-Ok.ensures.failed.written ∙ c.loop-turn.invariant.6) c.in_err-answer_lines-in-Ok.ensures.failed c.in_err-answer_lines-in-Ok.ensures.faults)

pub returns-clause-failed : goal.returns-clause-failed
returns-clause-failed g c = record { read = c.loop-turn.invariant.5; written = c.loop-turn.invariant.6 }
