use Rattle.std.proofs.Common.{◌≡◌, ℕ, Bool, true, false, List, sym, ap, ◌∙◌, arith}
use Rattle.std.proofs.lemmas.List.{append_cancel_left}
use Rattle.rec_types.specs.Table.{counted}
use Rattle.rec_types.specs.declared.table_calls.TableCalls.{TableCalls}
use Rattle.tx_log.specs.declared.log_record.LogRecord.{LogRecord}
use Rattle.record_file.specs.Asked.{looked_unless, sets_told}
use Rattle.record_file.specs.Runs.{Seen}
use Rattle.record_file.proofs.laws.tables_are_asked.Goals as goal

-- one more than none isn't two, and isn't none
one_more : (b : Bool) (old new : ℕ) → new ≡ counted old b → old ≡ 0 → new ≡ 2 → ⊥
one_more true old new is none two = absurd (let one : new ≡ 1 = is ∙ ap (λ n. counted n true) none in omega (arith, one, two))
one_more false old new is none two = absurd (omega (arith, is, none, two))

counted_none : (b : Bool) (old new : ℕ) → b ≡ true → new ≡ counted old b → old ≡ 0 → new ≡ 0 → ⊥
counted_none true old new always is none still = absurd (let one : new ≡ 1 = is ∙ ap (λ n. counted n true) none in omega (arith, one, still))
counted_none false old new never is none still = absurd (cc never)

looked_twice : (refused : Bool) (old new : TableCalls) → new ≡ looked_unless refused old → old.gets ≡ 0 → new.gets ≡ 2 → ⊥
looked_twice true old new is = one_more false old.gets new.gets (ap (λ (c : TableCalls). c.gets) is)
looked_twice false old new is = one_more true old.gets new.gets (ap (λ (c : TableCalls). c.gets) is)

pub returns-clause-twice : goal.returns-clause-twice
returns-clause-twice c = λ old new failed refused t key found run none two.
    looked_twice _ old.calls run.0.calls run.1.happens.answer.1.asks none (ap (λ (s : Seen). s.calls.gets) (sym run.2) ∙ two)

pub returns-clause-unset : goal.returns-clause-unset
returns-clause-unset c = λ old new failed refused t key value before run none still.
    let asks = run.1.happens.answer.1.asks in
    counted_none asks.asked.sets old.calls.sets run.0.calls.sets asks.allowed.accepted (ap (λ (k : TableCalls). k.sets) asks.calls) none (ap (λ (s : Seen). s.calls.sets) (sym run.2) ∙ still)

pub returns-clause-taken_twice : goal.returns-clause-taken_twice
returns-clause-taken_twice c = λ old new failed refused t n undone lsn prev next key before run is none two.
    let asks = run.1.happens.answer.1.asks in
    let same = append_cancel_left old.log _ _ (sym asks.grown ∙ ap (λ (s : Seen). s.log) (sym run.2) ∙ is) in
    one_more true old.calls.sets run.0.calls.sets (asks.sets ∙ ap (λ (rs : List LogRecord). sets_told old.calls.sets rs) same) none (ap (λ (s : Seen). s.calls.sets) (sym run.2) ∙ two)

pub returns-clause-listed_twice : goal.returns-clause-listed_twice
returns-clause-listed_twice c = λ old new failed refused answer run none two.
    one_more true old.calls.lists run.0.calls.lists (ap (λ (k : TableCalls). k.lists) run.1.happens.answer.1.asks) none (ap (λ (s : Seen). s.calls.lists) (sym run.2) ∙ two)

pub returns-clause-looking : goal.returns-clause-looking
returns-clause-looking c = λ old new failed refused t run none one.
    absurd (omega (arith, ap (λ (s : Seen). s.calls.gets) run.1.happens.answer.0.2, ap (λ (s : Seen). s.calls.gets) run.2, none, one))
