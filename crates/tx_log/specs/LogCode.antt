-- Log records as values.
use Rattle.std.specs.Prelude.{◌≡◌, ℕ, Bool, true, false, List, Option, None, refl}
use Rattle.std.specs.Coded.{Coded, code_by, coded×, coded_ℕ, coded_bool, coded_list, coded_option}
use Rattle.tx_log.specs.declared.log_record.LogRecord.{LogRecord}
use Rattle.tx_log.specs.declared.log_record.LogRecord.TheVariants.{Update, Compensation, Claim, Unclaim}

-- the fields that both kinds of records have, the two records, and where the undo goes on
abbrev pub RecordFields : Type 0
RecordFields = (ℕ × (ℕ × (ℕ × List ℕ))) × (Option (List ℕ) × (Option (List ℕ) × ℕ))

abbrev pub told_by : LogRecord → (Bool × Bool) × RecordFields
told_by (Update lsn prev tx key before after) = ((true, true), ((lsn, (prev, (tx.0, key))), (before, (after, 0))))
told_by (Compensation lsn prev tx key restored undo_next) = ((true, false), ((lsn, (prev, (tx.0, key))), (restored, (None, undo_next))))
told_by (Claim lsn prev tx key seen) = ((false, true), ((lsn, (prev, (tx.0, key))), (seen, (None, 0))))
told_by (Unclaim lsn prev tx key undo_next) = ((false, false), ((lsn, (prev, (tx.0, key))), (None, (None, undo_next))))

abbrev pub record_of_fields : Bool → Bool → RecordFields → LogRecord
record_of_fields true true t = Update t.0.0 t.0.1.0 (record { 0 = t.0.1.1.0 }) t.0.1.1.1 t.1.0 t.1.1.0
record_of_fields true false t = Compensation t.0.0 t.0.1.0 (record { 0 = t.0.1.1.0 }) t.0.1.1.1 t.1.0 t.1.1.1
record_of_fields false true t = Claim t.0.0 t.0.1.0 (record { 0 = t.0.1.1.0 }) t.0.1.1.1 t.1.0
record_of_fields false false t = Unclaim t.0.0 t.0.1.0 (record { 0 = t.0.1.1.0 }) t.0.1.1.1 t.1.1.1

pub told_back : (r : LogRecord) → record_of_fields (told_by r).0.0 (told_by r).0.1 (told_by r).1 ≡ r
told_back (Update lsn prev tx key before after) = refl
told_back (Compensation lsn prev tx key restored undo_next) = refl
told_back (Claim lsn prev tx key seen) = refl
told_back (Unclaim lsn prev tx key undo_next) = refl

abbrev pub coded_log_record : Coded LogRecord
coded_log_record = code_by ((Bool × Bool) × RecordFields)
    (coded× (coded× coded_bool coded_bool) (coded× (coded× coded_ℕ (coded× coded_ℕ (coded× coded_ℕ (coded_list coded_ℕ)))) (coded× (coded_option (coded_list coded_ℕ)) (coded× (coded_option (coded_list coded_ℕ)) coded_ℕ))))
    told_by (λ p. record_of_fields p.0.0 p.0.1 p.1) told_back
