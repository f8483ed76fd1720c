use Rattle.std.proofs.Common.{◌≡◌, ℕ, ◌+◌, List, [], ◌∷◌, ◌++◌, cond, length, map, Some, None, option_map, unwrap_or, slice_get, vec_len, Bool, refl, sym, ap, subst, ◌∙◌, arith}
use Rattle.std.proofs.lemmas.List.{map-append, length-map}
use Rattle.std.proofs.lemmas.Option.{slice_get-map, slice_get_read}
use Rattle.tx_log.specs.Compact.{RecordsView, read, LiesIn, before_in, after_in, mark_in, told_as, record_of_entry}
use Rattle.tx_log.specs.Log.{back_record, back_in, key_of_record, prev_of}
use Rattle.tx_log.specs.declared.log_record.LogRecord.{LogRecord}
use Rattle.tx_log.specs.declared.records.Kind.{Kind}
use Rattle.tx_log.specs.declared.records.Entry.{Entry}
use Rattle.tx_log.proofs.CompactLemmas.{within-push, back-told}
use Rattle.tx_log.proofs.records.Records.push_back.Goals as goal

-- the entry that is taken back, and the one that was pushed
module _ (c : goal.After-push) where
  abbrev taken : Entry
  taken = c.index-taken.result.now

  abbrev told : Entry → LogRecord
  told = record_of_entry c.self.inside.bytes.items

  abbrev pushed : Entry
  pushed = record { kind = c.back.result; absent = c.args.mark.absent; before_len = taken.before_len; after_len = 255; before_at = taken.before_at; rest = taken.prev; lsn = c.len.result + 1; prev = c.args.prev; tx = c.args.tx; newest = c.args.mark.newest; key = taken.key }

  many : length c.args.self.now.items ≡ vec_len c.self.inside.entries
  many = omega (arith, ap (λ (v : RecordsView). length v.items) c.self.view_is, length-map c.self.inside.entries.items told, c.self.inside.entries.ok.0)

  length_is : c.len.result ≡ length c.args.self.now.items
  length_is = c.len.ensures ∙ sym many

  there : slice_get c.self.inside.entries.items c.args.of ≡ Some taken
  there = slice_get_read c.self.inside.entries.items (length c.self.inside.entries.items) c.args.of taken refl (omega (arith, c.requires.there, many, c.self.inside.entries.ok.0)) c.index-taken.ensures

  entries_are : c.push.new.self.items ≡ c.self.inside.entries.items ++ pushed ∷ []
  entries_are =
      let es = c.self.inside.entries.items in
      let room = ap (λ (v : RecordsView). v.room) c.self.view_is in
      let ok = c.push.ensures.succeeds (omega (arith, many, c.requires.room, room)) in
      c.push.ensures.items ∙ ap (λ (b : Bool). cond b (es ++ pushed ∷ []) es) ok

pub invariant_of-self : goal.invariant_of-self
invariant_of-self c =
    let l = c.self.inside in
    record {
      before = subst (λ (es : List Entry). (i : ℕ) (e : Entry) → slice_get es i ≡ Some e → LiesIn (vec_len l.bytes) (before_in e)) (sym (entries_are c))
          (within-push (vec_len l.bytes) before_in l.entries.items (pushed c) c.self.invariant.before (c.self.invariant.before c.args.of (taken c) (there c)));
      after = subst (λ (es : List Entry). (i : ℕ) (e : Entry) → slice_get es i ≡ Some e → LiesIn (vec_len l.bytes) (after_in e)) (sym (entries_are c))
          (within-push (vec_len l.bytes) after_in l.entries.items (pushed c) c.self.invariant.after (record { fits = λ short. absurd (omega arith) }));
      few = omega (arith, c.self.invariant.few, c.push.ensures.lower_bound);
    }

pub returns-clause-items : goal.returns-clause-items
returns-clause-items c = λ u found.
    let l = c.self.inside in
    let items : map (told c) l.entries.items ≡ c.args.self.now.items = ap (λ (v : RecordsView). v.items) c.self.view_is in
    let is : told c (taken c) ≡ u = ap (λ o. unwrap_or o u) (sym (ap (option_map (told c)) (there c)) ∙ sym (slice_get-map (told c) l.entries.items c.args.of) ∙ ap (λ (rs : List LogRecord). slice_get rs c.args.of) items ∙ found) in
    let t = taken c in
    let lsn = c.len.result + 1 in
    let back = ap (λ (k : Kind). told_as k lsn c.args.prev c.args.tx t.key (read l.bytes.items (before_in t)) None t.prev) c.back.ensures
    ∙ back-told t.kind lsn c.args.prev c.args.tx t.lsn t.prev t.tx t.key (read l.bytes.items (before_in t)) (read l.bytes.items (after_in t)) None t.rest
    ∙ (let u = told c t in ap (λ n. back_record (n + 1) c.args.prev c.args.tx (key_of_record u) (back_in u) (prev_of u)) (length_is c)) in
    subst (λ (v : LogRecord). map (told c) c.push.new.self.items ≡ c.args.self.now.items ++ back_record (length c.args.self.now.items + 1) c.args.prev c.args.tx (key_of_record v) (back_in v) (prev_of v) ∷ []) is
    (ap (map (told c)) (entries_are c) ∙ map-append (told c) l.entries.items (pushed c ∷ []) ∙ (λ i. items i ++ back i ∷ []))

pub returns-clause-marks : goal.returns-clause-marks
returns-clause-marks c =
    let marks = ap (λ (v : RecordsView). v.marks) c.self.view_is in
    ap (map mark_in) (entries_are c) ∙ map-append mark_in c.self.inside.entries.items (pushed c ∷ []) ∙ ap (λ ms. ms ++ c.args.mark ∷ []) marks
