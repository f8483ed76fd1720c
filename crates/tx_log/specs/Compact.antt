-- The records of a log in little memory: numbers, keys, and spans of one list of bytes.
use Rattle.std.specs.Prelude.{◌≡◌, Bool, true, false, ℕ, ◌+◌, ◌-◌, ◌*◌, ◌≤◌, nat_le, if◌then◌else◌, List, take, drop, map, Option, Some, None, slice_get, vec_len}
use Rattle.std.specs.Vec.{vec_capacity}
use Rattle.rec_types.specs.Widths.{widest_record}
use Rattle.rec_types.specs.declared.transaction.TxId.{TxId}
use Rattle.tx_log.specs.declared.log_record.LogRecord.{LogRecord}
use Rattle.tx_log.specs.declared.log_record.LogRecord.TheVariants as logged
use Rattle.tx_log.specs.declared.mark.Mark.{Mark}
use Rattle.tx_log.specs.declared.records.Span.{Span}
use Rattle.tx_log.specs.declared.records.Kind.{Kind}
use Rattle.tx_log.specs.declared.records.Kind.TheVariants.{Update, Compensation, Claim, Unclaim}
use Rattle.tx_log.specs.declared.records.Entry.{Entry}
use Rattle.tx_log.specs.declared.records.Records.TheInside.{Inside}

-- the records, their marks, for how many there is room, and how many bytes of theirs have room
pub record RecordsView : Type 0 where
  pub items : List LogRecord
  pub marks : List Mark
  pub room : ℕ
  pub free : ℕ

-- the record whose bytes stand there: none where no record has the length
abbrev pub read : List ℕ → Span → Option (List ℕ)
read bytes s = if nat_le s.len widest_record then Some (take s.len (drop s.at bytes)) else None

-- the span of a record lies in so many bytes
pub record LiesIn (many : ℕ) (s : Span) : Type 0 where
  pub fits : s.len ≤ widest_record → s.at + s.len ≤ many

-- where the bytes stand of what was before an entry, and of what an update wrote, and the entry's mark
abbrev pub before_in : Entry → Span
before_in e = record { at = e.before_at; len = e.before_len }

abbrev pub after_in : Entry → Span
after_in e = record { at = e.rest; len = e.after_len }

abbrev pub mark_in : Entry → Mark
mark_in e = record { newest = e.newest; absent = e.absent }

abbrev pub told_as : Kind → ℕ → ℕ → TxId → List ℕ → Option (List ℕ) → Option (List ℕ) → ℕ → LogRecord
told_as Update lsn prev tx key before after undo_next = logged.Update lsn prev tx key before after
told_as Compensation lsn prev tx key before after undo_next = logged.Compensation lsn prev tx key before undo_next
told_as Claim lsn prev tx key before after undo_next = logged.Claim lsn prev tx key before
told_as Unclaim lsn prev tx key before after undo_next = logged.Unclaim lsn prev tx key undo_next

-- the kind of the record by which a change of a kind is taken back
abbrev pub back_kind : Kind → Kind
back_kind Update = Compensation
back_kind Compensation = Compensation
back_kind Claim = Unclaim
back_kind Unclaim = Unclaim

-- whether a kind of record tells of a claim, or of taking one back
abbrev pub is_claim_kind : Kind → Bool
is_claim_kind Update = false
is_claim_kind Compensation = false
is_claim_kind Claim = true
is_claim_kind Unclaim = true

-- the record that an entry stands for
abbrev pub record_of_entry : List ℕ → Entry → LogRecord
record_of_entry bytes e = told_as e.kind e.lsn e.prev e.tx e.key (read bytes (before_in e)) (read bytes (after_in e)) e.rest

abbrev pub view_of : Inside → RecordsView
view_of l = record {
  items = map (record_of_entry l.bytes.items) l.entries.items;
  marks = map mark_in l.entries.items;
  room = vec_capacity l.entries;
  free = vec_capacity l.bytes - vec_len l.bytes;
}

-- the spans of each entry lie in the bytes, of which there are no more than two records have for each entry
pub record IsCompactLog (l : Inside) : Type 0 where
  pub before : (i : ℕ) (e : Entry) → slice_get l.entries.items i ≡ Some e → LiesIn (vec_len l.bytes) (before_in e)
  pub after : (i : ℕ) (e : Entry) → slice_get l.entries.items i ≡ Some e → LiesIn (vec_len l.bytes) (after_in e)
  pub few : vec_len l.bytes ≤ 2 * widest_record * vec_len l.entries
