use Rattle.std.proofs.Common.{◌≡◌, ℕ, ◌+◌, ◌≤◌, List, [], ◌∷◌, ◌++◌, cond, length, map, option_map, Some, slice_get, vec_len, Bool, sym, ap, subst, ◌∙◌, arith}
use Rattle.std.proofs.lemmas.List.{map-append, length-map, length-append, append_assoc}
use Rattle.tx_log.specs.Compact.{RecordsView, read, LiesIn, before_in, after_in, mark_in, told_as, record_of_entry}
use Rattle.tx_log.specs.Log.{change_record}
use Rattle.tx_log.specs.declared.records.Span.{Span}
use Rattle.tx_log.specs.declared.records.Entry.{Entry}
use Rattle.tx_log.proofs.CompactLemmas.{read-more, records-more, within-more, within-push}
use Rattle.tx_log.proofs.records.Records.push_change.Goals as goal

-- the entry that was pushed, and the bytes before and after
module _ (c : goal.After-push) where
  abbrev first : List ℕ
  first = c.self.inside.bytes.items

  abbrev more : List ℕ
  more = c.note-before.ensures.grown.0

  abbrev second : List ℕ
  second = c.note_written-kind.ensures.grown.0

  mid_is : c.note-before.new.bytes.items ≡ first ++ more
  mid_is = c.note-before.ensures.grown.1

  last_is : c.note_written-kind.new.bytes.items ≡ c.note-before.new.bytes.items ++ second
  last_is = c.note_written-kind.ensures.grown.1

  abbrev pushed : Entry
  pushed = record { kind = c.note_written-kind.result.0; absent = c.args.absent; before_len = c.note-before.result.len; after_len = c.note_written-kind.result.1.len; before_at = c.note-before.result.at; rest = c.note_written-kind.result.1.at; lsn = c.len.result + 1; prev = c.args.prev; tx = c.args.tx; newest = c.len.result + 1; key = c.args.key.now }

  many : length c.args.self.now.items ≡ vec_len c.self.inside.entries
  many = omega (arith, ap (λ (v : RecordsView). length v.items) c.self.view_is, length-map c.self.inside.entries.items (record_of_entry first), c.self.inside.entries.ok.0)

  length_is : c.len.result ≡ length c.args.self.now.items
  length_is = c.len.ensures ∙ sym many

  entries_are : c.push.new.self.items ≡ c.self.inside.entries.items ++ pushed ∷ []
  entries_are =
      let es = c.self.inside.entries.items in
      let room = ap (λ (v : RecordsView). v.room) c.self.view_is in
      let ok = c.push.ensures.succeeds (omega (arith, many, c.requires.room, room)) in
      c.push.ensures.items ∙ ap (λ (b : Bool). cond b (es ++ pushed ∷ []) es) ok

  longer : length c.note_written-kind.new.bytes.items ≡ length first + length more + length second
  longer = ap length (last_is ∙ ap (λ xs. xs ++ second) mid_is) ∙ length-append (first ++ more) second ∙ ap (λ n. n + length second) (length-append first more)

  within : (span : Entry → Span) → ((i : ℕ) (e : Entry) → slice_get c.self.inside.entries.items i ≡ Some e → LiesIn (vec_len c.self.inside.bytes) (span e)) → LiesIn (vec_len c.note_written-kind.new.bytes) (span pushed)
      → (i : ℕ) (e : Entry) → slice_get c.push.new.self.items i ≡ Some e → LiesIn (vec_len c.note_written-kind.new.bytes) (span e)
  within span each last =
      let grown : vec_len c.self.inside.bytes ≤ vec_len c.note_written-kind.new.bytes = omega (arith, longer, c.self.inside.bytes.ok.0, c.note_written-kind.new.bytes.ok.0) in
      subst (λ (es : List Entry). (i : ℕ) (e : Entry) → slice_get es i ≡ Some e → LiesIn (vec_len c.note_written-kind.new.bytes) (span e)) (sym entries_are)
      (within-push (vec_len c.note_written-kind.new.bytes) span c.self.inside.entries.items pushed (λ i e is. within-more (vec_len c.self.inside.bytes) (vec_len c.note_written-kind.new.bytes) (span e) grown (each i e is)) last)

pub invariant_of-self : goal.invariant_of-self
invariant_of-self c =
    let last = length c.note_written-kind.new.bytes.items in
    let whole : length c.note_written-kind.new.bytes.items ≡ vec_len c.note_written-kind.new.bytes = omega (arith, c.note_written-kind.new.bytes.ok.0) in
    let first_within = within-more (length c.note-before.new.bytes.items) (vec_len c.note_written-kind.new.bytes) c.note-before.result (omega (arith, ap length (last_is c), length-append c.note-before.new.bytes.items (second c), c.note_written-kind.new.bytes.ok.0)) c.note-before.ensures.within in
    let last_within = within-more last (vec_len c.note_written-kind.new.bytes) c.note_written-kind.result.1 (omega (arith, whole)) c.note_written-kind.ensures.within in
    record {
      before = within c before_in c.self.invariant.before first_within;
      after = within c after_in c.self.invariant.after last_within;
      few = omega (arith, c.self.invariant.few, longer c, whole, c.self.inside.bytes.ok.0, c.note-before.ensures.grown.2, c.note_written-kind.ensures.grown.2, ap length (entries_are c), length-append c.self.inside.entries.items (pushed c ∷ []), c.self.inside.entries.ok.0, c.push.new.self.ok.0);
    }

pub returns-clause-items : goal.returns-clause-items
returns-clause-items c =
    let l = c.self.inside in
    let xs = first c in
    let all = c.note_written-kind.new.bytes.items in
    let rest = more c ++ second c in
    let all_is : all ≡ xs ++ rest = last_is c ∙ ap (λ ys. ys ++ second c) (mid_is c) ∙ append_assoc xs (more c) (second c) in
    let few : length xs ≡ vec_len l.bytes = omega (arith, l.bytes.ok.0) in
    let stay = ap (λ ys. map (record_of_entry ys) l.entries.items) all_is ∙ records-more xs rest l.entries.items (subst (λ n. (i : ℕ) (e : Entry) → slice_get l.entries.items i ≡ Some e → LiesIn n (before_in e)) (sym few) c.self.invariant.before) (subst (λ n. (i : ℕ) (e : Entry) → slice_get l.entries.items i ≡ Some e → LiesIn n (after_in e)) (sym few) c.self.invariant.after) ∙ ap (λ (v : RecordsView). v.items) c.self.view_is in
    let before_read = ap (λ ys. read ys c.note-before.result) (last_is c) ∙ read-more c.note-before.new.bytes.items (second c) c.note-before.result c.note-before.ensures.within ∙ c.note-before.ensures.read in
    let lsn = c.len.result + 1 in
    let told = ap (λ o. told_as c.note_written-kind.result.0 lsn c.args.prev c.args.tx c.args.key.now o (read all c.note_written-kind.result.1) c.note_written-kind.result.1.at) before_read ∙ c.note_written-kind.ensures.told lsn c.args.prev c.note_written-kind.result.1.at c.args.tx c.args.key.now c.args.before.now
    ∙ ap (λ n. change_record (n + 1) c.args.prev c.args.tx c.args.key.now c.args.before.now (option_map (λ w. w.now) c.args.after)) (length_is c) in
    ap (map (record_of_entry all)) (entries_are c) ∙ map-append (record_of_entry all) l.entries.items (pushed c ∷ []) ∙ (λ i. stay i ++ told i ∷ [])

pub returns-clause-marks : goal.returns-clause-marks
returns-clause-marks c =
    let marks = ap (λ (v : RecordsView). v.marks) c.self.view_is in
    ap (map mark_in) (entries_are c) ∙ map-append mark_in c.self.inside.entries.items (pushed c ∷ [])
    ∙ (λ i. marks i ++ record { newest = length_is c i + 1; absent = c.args.absent } ∷ [])
