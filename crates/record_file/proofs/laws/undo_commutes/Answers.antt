use Rattle.std.proofs.Common.{Some, None, refl, sym, ap, ◌∙◌, [], ◌∷◌}
use Rattle.std.specs.FinMap.{get}
use Rattle.rec_types.specs.Contents.{Contents, set_to}
use Rattle.rec_types.specs.History.{replay}
use Rattle.rec_types.proofs.ContentsLemmas.{get-set_to-here, set_to-twice}
use Rattle.record_file.proofs.RunLemmas.{kept_of_run, run_sound}
use Rattle.record_file.proofs.HistoryLeadLemmas.{run_leads, ended_stays}
use Rattle.record_file.proofs.UndoLemmas.{kept_answered, kept_put_back, kept_claimed}
use Rattle.record_file.specs.Abstract.{open_of}
use Rattle.record_file.specs.Undo.{old_records, wrote}
use Rattle.record_file.proofs.laws.undo_commutes.Goals as goal

pub returns-clause-answered : goal.returns-clause-answered
returns-clause-answered c = λ old new events start ran.
    kept_answered old.records (old_records events) new.file (kept_of_run old new events start ran)

pub returns-clause-put_back : goal.returns-clause-put_back
returns-clause-put_back c = λ old new events start ran.
    kept_put_back old.records (old_records events) new.file (kept_of_run old new events start ran)

pub returns-clause-claimed : goal.returns-clause-claimed
returns-clause-claimed c = λ old new events start ran.
    kept_claimed old.records (old_records events) new.file (kept_of_run old new events start ran)

pub returns-clause-example : goal.returns-clause-example
returns-clause-example c = λ t. refl

pub returns-clause-of_two : goal.returns-clause-of_two
returns-clause-of_two c = λ opening. sym (set_to-twice (set_to opening (97 ∷ []) (Some (120 ∷ []))) (97 ∷ []) (Some (121 ∷ [])) (Some (120 ∷ [])) ∙ set_to-twice opening (97 ∷ []) (Some (120 ∷ [])) (Some (120 ∷ [])))

pub returns-clause-ended : goal.returns-clause-ended
returns-clause-ended c = λ opening is.
    absurd (cc (sym (get-set_to-here opening (97 ∷ []) (Some (121 ∷ []))) ∙ ap (λ (m : Contents). get m (97 ∷ [])) is ∙ get-set_to-here (replay opening (wrote 1 97 120 ∷ wrote 2 97 121 ∷ [])) (97 ∷ []) None))

pub returns-clause-never_ended : goal.returns-clause-never_ended
returns-clause-never_ended c = λ old mid new events more start ran on n past now is live ended final dead.
    ended_stays (open_of mid.file) mid.file.history new.file.history n past now
    (run_leads old.records (old_records events) mid new more (run_sound old mid events start.sound ran) (kept_of_run old mid events start ran) on)
    is live ended final dead
