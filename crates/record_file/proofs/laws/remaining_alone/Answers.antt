use Rattle.std.proofs.Common.{Some, refl, ap, ◌∙◌}
use Rattle.std.specs.FinMap.{get, get-empty}
use Rattle.std.specs.Cmp.Lexicographic.{slice_cmp}
use Rattle.std.specs.Ordering.{nat_cmp}
use Rattle.rec_types.specs.Contents.{Contents}
use Rattle.record_file.specs.Abstract.{records_of}
use Rattle.record_file.proofs.AcceptedLemmas.{accepted_stood}
use Rattle.record_file.proofs.RemainingRunLemmas.{alone_of_run}
use Rattle.record_file.proofs.laws.remaining_alone.Goals as goal

pub returns-clause-alone : goal.returns-clause-alone
returns-clause-alone c = alone_of_run

pub returns-clause-example : goal.returns-clause-example
returns-clause-example c = λ t. refl

pub returns-clause-differs : goal.returns-clause-differs
returns-clause-differs c = λ old new t key value other start empty ran.
    let first = ran.1 in
    let put = ran.2.1 in
    let sound = first.happens.sound ∙ start.sound in
    let stood = accepted_stood ran.0 ran.2.0 t key (Some other) (Some (Some value)) sound (put.happens.sound ∙ sound) put.kept put.keeps (put.happens.answer.1.opening sound) put.happens.answer.1.accepted in
    absurd (cc (stood ∙ ap (λ (n : Contents). get n key) (ap records_of first.happens.answer.1.2 ∙ ap records_of start.file ∙ empty) ∙ get-empty (slice_cmp nat_cmp) key))
