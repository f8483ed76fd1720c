use Rattle.std.proofs.Common.{◌≡◌, ◌∷◌, [], ◌++◌, cond, eqb, ◌||◌, Option, option_map, IfSome, refl, ℕ, ◌+◌, ◌*◌, ◌<◌, ◌≤◌, Bool, true, List, Some, None, length, reverse, is_some, sym, ap, subst, ◌∙◌, arith}
use Rattle.std.proofs.lemmas.List.{length-reverse, length-append}
use Rattle.std.specs.Borrow.{Bor}
use Rattle.std.specs.List.{list_any}
use Rattle.rec_types.specs.History.{log_len}
use Rattle.rec_types.specs.declared.transaction.TxId.{TxId}
use Rattle.rec_types.specs.LimitBounds.{most_log_records}
use Rattle.tx_log.proofs.LogIndex.{reverse-push}
use Rattle.tx_log.proofs.MarkLemmas.{marked_more}
use Rattle.tx_log.proofs.HoldCalls.{IsRoom, room_placed, room_held, IsFree, free_key, accepted_keys, will_be, will_be_told}
use Rattle.tx_log.specs.Holdings.{holdings_in, IsHeld}
use Rattle.tx_log.specs.OpenTxs.{opens}
use Rattle.tx_log.specs.declared.holding.Holding.{Holding}
use Rattle.tx_log.proofs.KeptLogLemmas.{IsSized, active_open, active_calm, sized, counted_key, held_of_free, some_of, state_use, recounted}
use Rattle.tx_log.proofs.PlaceOf.{read_at, write_at}
use Rattle.tx_log.proofs.KeyPlaces.{key_read}
use Rattle.std.proofs.lemmas.Option.{slice_get_within}
use Rattle.indexmap.specs.IndexMap.{with_value_at}
use Rattle.tx_log.proofs.OpenTxLemmas.{found_fits, txs_stay}
use Rattle.tx_log.proofs.LogStepLemmas.{accepted, IsAccepted, IsChangeOf, change_told_of}
use Rattle.tx_log.proofs.LogStateLemmas.{accept_state, kept_turned}
use Rattle.tx_log.specs.Finds.{finding, PutsAt}
use Rattle.tx_log.specs.Log.{change_record, leads_to, led, kept_of, chain}
use Rattle.rec_types.specs.Widths.{widest_record}
use Rattle.tx_log.specs.LogFields.{room_in, IsTxLog}
use Rattle.tx_log.specs.LogState.{LogState, history_in, open_in, use_in, update_in}
use Rattle.tx_log.specs.Owners.{holder_of}
use Rattle.tx_log.specs.Walks.{is_at, absent_at}
use Rattle.tx_log.specs.Marks.{first_lsn, IsMarked}
use Rattle.tx_log.specs.declared.log.TxLog.TheInside.{Inside}
use Rattle.tx_log.specs.declared.log_record.LogRecord.{LogRecord}
use Rattle.tx_log.specs.declared.open_tx.OpenTx.{OpenTx}
use Rattle.tx_log.proofs.log.TxLog.add.Goals as goal
use Rattle.tx_log.proofs.log.TxLog.add.Goals.{After-index, After-raise-out, After-index_mut-open_tx}
use Rattle.tx_log.proofs.Counts.{log_len_is}

-- what a change wrote
abbrev wrote : Option (Bor (Option (List ℕ))) → Option (Option (List ℕ))
wrote after = option_map (λ w. w.now) after

some_wrote : (after : Option (Bor (Option (List ℕ)))) → is_some after ≡ is_some (wrote after)
some_wrote None = refl
some_wrote (Some w) = refl

-- what is known of the transaction and of the key
record IsMet (l : Inside) (t : ℕ) (key : List ℕ) (e : OpenTx) (place : ℕ) : Type 0 where
  pub found : finding l.txs.entries t ≡ Some e
  pub size : IsSized (reverse l.records.items) l.pending l.gone e
  pub room : IsRoom l key place
  pub free : IsFree l t key e room.stands.hold

module _ (c : After-index) where
  met : IsMet c.self.inside c.args.tx.0 c.args.key.now c.index.result.now c.unwrap-place.result
  met =
      let l = c.self.inside in
      let e = c.index.result.now in
      let room = room_held l c.self.invariant c.args.self.now c.self.view_is c.args.key.now c.unwrap-place.result c.unwrap-place.ensures c.requires.room in
      let found = read_at l.txs c.args.tx.0 c.place_of-at.result e c.place_of-at.ensures.stands c.index.ensures in
      record {
        found = found;
        size = sized (reverse l.records.items) l.txs.entries l.begun l.pending l.gone c.args.tx.0 e c.self.invariant.log_kept found;
        room = room;
        free = free_key l c.self.invariant c.args.self.now c.self.view_is c.args.tx.0 c.args.key.now e c.unwrap-place.result room c.requires.free found;
      }

-- whether the key's record was taken out before
module _ (c : After-raise-out) (now : IsMet c.self.inside c.args.tx.0 c.args.key.now c.index.result.now c.unwrap-place.result) where
  abbrev was_out : Bool
  was_out = absent_at c.args.key.now (chain (reverse c.self.inside.records.items) c.index.result.now.last)

  was_is : c.raise-out.result.0 ≡ was_out
  was_is = (c.raise-out.ensures c.args.key.now now.room.stands).0 ∙ now.free.lacks

  was_counted : c.raise-out.result.0 ≡ true → 0 < c.index.result.now.absent
  was_counted was =
      let l = c.self.inside in
      let e = c.index.result.now in
      counted_key (reverse l.records.items) l.txs.entries l.begun l.pending l.gone c.args.tx.0 e.last c.args.key.now e c.self.invariant.log_kept now.found refl (sym was_is ∙ was)

-- the transaction's entry is still the one that was read
module _ (c : After-index_mut-open_tx) where
  same_entry : finding c.self.inside.txs.entries c.args.tx.0 ≡ Some c.index.result.now → c.index_mut-open_tx.result.now ≡ c.index.result.now
  same_entry found = some_of c.index_mut-open_tx.result.now c.index.result.now (sym (read_at c.self.inside.txs c.args.tx.0 c.place_of-at.result c.index_mut-open_tx.result.now c.place_of-at.ensures.stands c.index_mut-open_tx.ensures.value) ∙ found)

pub place_of-at-requires : goal.place_of-at-requires
place_of-at-requires c = active_open c.self.inside _ c.args.tx.0 c.self.view_is c.requires.active

pub unwrap-place-requires : goal.unwrap-place-requires
unwrap-place-requires c =
    room_placed c.self.inside.room_at c.self.inside.over c.args.key.now (ap (λ (s : LogState). s.room) c.self.view_is ∙ c.requires.room)

pub raise-out-requires-clause-within : goal.raise-out-requires-clause-within
raise-out-requires-clause-within c =
    let stands = (met (goal.at.raise-out-requires-clause-within c).After-index).room.stands in
    slice_get_within c.self.inside.holdings.entries c.unwrap-place.result _ stands.entry

pub raise-out-requires-clause-most : goal.raise-out-requires-clause-most
raise-out-requires-clause-most c = λ h value.
    let l = c.self.inside in
    let now = met (goal.at.raise-out-requires-clause-most c).After-index in
    let hold = now.room.stands.hold in
    let few : hold.live < 4294967295 = omega (arith, now.free.few, c.self.invariant.bounded.fits, c.self.invariant.bounded.most_records) in
    let read = key_read l.holdings c.args.key.now c.unwrap-place.result h now.room.stands value in
    subst (λ (x : Holding). x.live < 4294967295) (some_of hold h (sym now.room.stands.there ∙ read)) few

pub recount-self-inside-requires-clause-some : goal.recount-self-inside-requires-clause-some
recount-self-inside-requires-clause-some c = λ was.
    let now = met (goal.at.recount-self-inside-requires-clause-some c).After-index in
    let some = was_counted (goal.at.recount-self-inside-requires-clause-some c).After-raise-out now was in
    omega (arith, some, now.size.absent_part)

pub recount-self-inside-requires-clause-most : goal.recount-self-inside-requires-clause-most
recount-self-inside-requires-clause-most c =
    let size = (met (goal.at.recount-self-inside-requires-clause-most c).After-index).size in
    omega (arith, size.gone_keys, c.self.invariant.bounded.fits, c.self.invariant.bounded.most_records)

pub overflow_add-open_tx : goal.overflow_add-open_tx
overflow_add-open_tx c =
    let l = c.self.inside in
    let now = met (goal.at.overflow_add-open_tx c).After-index in
    let live_is = ap (λ (x : OpenTx). x.live) (same_entry (goal.at.overflow_add-open_tx c).After-index_mut-open_tx now.found) in
    let low : c.index.result.now.live ≤ most_log_records = omega (arith, now.size.live, length-reverse l.records.items, c.self.invariant.bounded.fits, c.self.invariant.bounded.most_records) in
    omega (arith, low, live_is)

pub recount-open_tx-requires-clause-some : goal.recount-open_tx-requires-clause-some
recount-open_tx-requires-clause-some c = λ was.
    let now = met (goal.at.recount-open_tx-requires-clause-some c).After-index in
    subst (λ (x : OpenTx). 0 < x.absent) (sym (same_entry (goal.at.recount-open_tx-requires-clause-some c).After-index_mut-open_tx now.found)) (was_counted (goal.at.recount-open_tx-requires-clause-some c).After-raise-out now was)

pub recount-open_tx-requires-clause-most : goal.recount-open_tx-requires-clause-most
recount-open_tx-requires-clause-most c =
    let now = met (goal.at.recount-open_tx-requires-clause-most c).After-index in
    let absent_is = ap (λ (x : OpenTx). x.absent) (same_entry (goal.at.recount-open_tx-requires-clause-most c).After-index_mut-open_tx now.found) in
    omega (arith, absent_is, now.size.absent_part, now.size.gone_keys, c.self.invariant.bounded.fits, c.self.invariant.bounded.most_records)

-- the record that was pushed, its mark, and the transaction's new entry, with the table
module _ (c : goal.After-self-5-1) where
  abbrev record_pushed : LogRecord
  record_pushed = change_record (c.len.result + 1) c.index.result.now.last c.args.tx c.args.key.now c.args.before.now (wrote c.args.after)

  told : IsChangeOf record_pushed (c.len.result + 1) c.index.result.now.last c.args.tx c.args.key.now c.args.before.now (wrote c.args.after)
  told = change_told_of (c.len.result + 1) c.index.result.now.last c.args.tx c.args.key.now c.args.before.now (wrote c.args.after)

  abbrev entry_made : OpenTx
  entry_made = let n = c.index_mut-open_tx.result.now in record { rollback = n.rollback; last = c.len.result + 1; live = n.live + 1; left = n.left; absent = c.recount-open_tx.result; saves = n.saves }

  abbrev table_made : List (TxId × OpenTx)
  table_made = (with_value_at c.self.inside.txs c.place_of-at.result entry_made).entries

  puts_entry : PutsAt (finding c.self.inside.txs.entries) (finding table_made) c.args.tx.0 (Some entry_made)
  puts_entry = write_at c.self.inside.txs c.args.tx.0 c.place_of-at.result entry_made c.place_of-at.ensures.stands

  spare : length c.self.inside.records.items + c.self.inside.pending + 2 ≤ c.self.inside.records.room
  spare = let l = c.self.inside in subst (λ (o : Option ℕ). IfSome o (λ _. length l.records.items + l.pending + 2 ≤ l.records.room)) c.unwrap-place.ensures c.self.invariant.records_room.spare

  pushed : c.push_change.new.self.items ≡ c.self.inside.records.items ++ record_pushed ∷ []
  pushed = c.push_change.ensures.items ∙ ap (λ n. c.self.inside.records.items ++ change_record (n + 1) c.index.result.now.last c.args.tx c.args.key.now c.args.before.now (wrote c.args.after) ∷ []) (sym c.len.ensures)

  mark_pushed : c.push_change.new.self.marks ≡ c.self.inside.records.marks ++ record { newest = c.len.result + 1; absent = c.raise-out.result.0 } ∷ []
  mark_pushed = c.push_change.ensures.marks ∙ ap (λ n. c.self.inside.records.marks ++ record { newest = n + 1; absent = c.raise-out.result.0 } ∷ []) (sym c.len.ensures)

  abbrev below : List LogRecord
  below = chain (reverse c.self.inside.records.items) c.index.result.now.last

  will_is : IsMet c.self.inside c.args.tx.0 c.args.key.now c.index.result.now c.unwrap-place.result → c.raise-out.result.1 ≡ absent_at c.args.key.now (record_pushed ∷ below)
  will_is now =
      let h = now.room.stands.hold in
      (c.raise-out.ensures c.args.key.now now.room.stands).1
      ∙ (λ i. cond ((c.is_some-writes.ensures ∙ some_wrote c.args.after) i || eqb h.live 0) (c.is_lacking-lacks.ensures i) (now.free.lacks i))
      ∙ will_be (wrote c.args.after) c.args.before.now h.live (list_any (is_at c.args.key.now) below) (absent_at c.args.key.now below) now.free.some
      ∙ will_be_told record_pushed (c.len.result + 1) c.index.result.now.last c.args.tx c.args.key.now c.args.before.now (wrote c.args.after) below told

  step_of : (now : IsMet c.self.inside c.args.tx.0 c.args.key.now c.index.result.now c.unwrap-place.result) → c.index_mut-open_tx.result.now ≡ c.index.result.now
      → IsAccepted record_pushed (c.len.result + 1) c.index.result.now.last c.args.tx c.args.key.now (reverse c.self.inside.records.items) (finding c.self.inside.txs.entries) c.self.inside.pending c.self.inside.gone (c.self.inside.pending + 1) c.recount-self-inside.result c.index.result.now entry_made
  step_of now same =
      let l = c.self.inside in
      let rs = reverse l.records.items in
      let e = c.index.result.now in
      let n = c.index_mut-open_tx.result.now in
      let was = (c.raise-out.ensures c.args.key.now now.room.stands).0 ∙ now.free.lacks in
      record {
        lsn_is = ap (λ k. k + 1) (c.len.ensures ∙ sym (length-reverse l.records.items));
        prev_is = refl;
        held = held_of_free (kept_of rs) l.txs.entries c.args.tx.0 c.args.key.now c.self.invariant.log_kept.owned (ap (λ (s : LogState). holder_of (open_in s) (history_in s) c.args.tx.0 c.args.key.now) c.self.view_is ∙ c.requires.free);
        rollback_same = ap (λ (x : OpenTx). x.rollback) same;
        saves_same = ap (λ (x : OpenTx). x.saves.items) same;
        last_new = refl;
        live_new = ap (λ (x : OpenTx). x.live + 1) same;
        calm = active_calm l _ c.args.tx.0 e c.self.view_is c.requires.active now.found;
        left_same = ap (λ (x : OpenTx). x.left) same;
        absent_new = recounted c.recount-open_tx.result n.absent e.absent c.raise-out.result.0 _ c.raise-out.result.1 _ was (will_is now) (ap (λ (x : OpenTx). x.absent) same) c.recount-open_tx.ensures;
        pending_one = refl;
        gone_one = recounted c.recount-self-inside.result l.gone l.gone c.raise-out.result.0 _ c.raise-out.result.1 _ was (will_is now) refl c.recount-self-inside.ensures;
      }

-- its mark
new_marked : (c : goal.After-self-5-1) → IsMet c.self.inside c.args.tx.0 c.args.key.now c.index.result.now c.unwrap-place.result → c.raise-out.result.0 ≡ absent_at c.args.key.now (below c) → IsMarked (record_pushed c) (reverse c.self.inside.records.items) (record { newest = c.len.result + 1; absent = c.raise-out.result.0 })
new_marked c now was =
    let rs = reverse c.self.inside.records.items in
    let is = told c in
    let leads : chain rs (leads_to (record_pushed c)) ≡ below c = ap (chain rs) is.leads in
    record {
      newest = sym is.lsn_is ∙ ap (λ k. first_lsn (led k (record_pushed c) (chain rs (leads_to (record_pushed c))))) (sym is.up);
      absent = was ∙ (λ i. absent_at (sym is.key_is i) (sym leads i));
    }

-- the two requirements that a change's room gives
room_of : (l : Inside) (place : ℕ) → IsTxLog l → l.room_at ≡ Some place → (length l.records.items + l.pending + 2 ≤ l.records.room) × (2 * widest_record ≤ l.records.free)
room_of l place is at = (
  subst (λ (o : Option ℕ). IfSome o (λ _. length l.records.items + l.pending + 2 ≤ l.records.room)) at is.records_room.spare,
  subst (λ (o : Option ℕ). IfSome o (λ _. 2 * widest_record ≤ l.records.free)) at is.bytes_room,
)

pub push_change-requires-clause-few : goal.push_change-requires-clause-few
push_change-requires-clause-few c =
    let l = c.self.inside in
    let used : use_in c.args.self.now ≡ length (reverse l.records.items) + l.pending = ap use_in (sym c.self.view_is) ∙ state_use (reverse l.records.items) l.txs.entries l.begun l.pending l.gone c.self.invariant.log_kept in
    omega (arith, used, length-reverse l.records.items, c.requires.fits, ap (λ (s : LogState). s.limits.log_records) c.self.view_is, c.self.invariant.bounded.most_records)

pub push_change-requires-clause-room : goal.push_change-requires-clause-room
push_change-requires-clause-room c =
    omega (arith, (room_of c.self.inside c.unwrap-place.result c.self.invariant c.unwrap-place.ensures).0)

pub push_change-requires-clause-free : goal.push_change-requires-clause-free
push_change-requires-clause-free c =
    (room_of c.self.inside c.unwrap-place.result c.self.invariant c.unwrap-place.ensures).1

pub invariant_of-self : goal.invariant_of-self
invariant_of-self c =
    let l = c.self.inside in
    let rs = reverse l.records.items in
    let e = c.index.result.now in
    let places = goal.at.invariant_of-self c in
    let now = met places.After-index in
    let used : use_in c.args.self.now ≡ length rs + l.pending = ap use_in (sym c.self.view_is) ∙ state_use rs l.txs.entries l.begun l.pending l.gone c.self.invariant.log_kept in
    let limit : l.limits.log_records ≡ c.args.self.now.limits.log_records = ap (λ (s : LogState). s.limits.log_records) c.self.view_is in
    let turned : reverse c.push_change.new.self.items ≡ record_pushed c ∷ rs = ap reverse (pushed c) ∙ reverse-push l.records.items _ in
    let kept = accepted (record_pushed c) (c.len.result + 1) e.last c.args.tx c.args.key.now c.args.before.now (wrote c.args.after) rs (finding l.txs.entries) (finding (table_made c)) l.begun l.pending l.gone (l.pending + 1) c.recount-self-inside.result e (entry_made c) (told c) c.self.invariant.log_kept now.found (puts_entry c) (step_of c now (same_entry places.After-index_mut-open_tx now.found)) in
    let bounded = c.self.invariant.bounded in
    let spare_records = spare c in
    let longer : length c.push_change.new.self.items ≡ length l.records.items + 1 = ap length (pushed c) ∙ length-append l.records.items (record_pushed c ∷ []) in
    let wider : l.records.room ≤ c.push_change.new.self.room = c.push_change.ensures.room in
    let wanted = c.requires.fits in
    let keys = accepted_keys (record_pushed c) l c.self.invariant c.args.tx c.args.key.now e (entry_made c) c.unwrap-place.result now.room now.free (finding (table_made c)) (holdings_in c.raise-out.new.holdings) (c.len.result + 1) e.last c.args.before.now (wrote c.args.after) c.raise-out.result.1 (told c) now.found (puts_entry c) (will_is c now) (c.raise-out.ensures c.args.key.now now.room.stands).2 in
    record {
      log_kept = kept_turned _ _ _ _ _ _ turned kept;
      marked = marked_more l.records.items c.push_change.new.self.items l.records.marks c.push_change.new.self.marks _ _ turned (mark_pushed c) (new_marked c now (was_is places.After-raise-out now)) c.self.invariant.marked;
      holding = subst (λ (xs : List LogRecord). IsHeld xs (opens (finding (table_made c))) (holdings_in c.raise-out.new.holdings)) (sym turned) keys.holding;
      busy_keys = keys.busy_keys;
      reserved = tt;
      bounded = record {
        fits = omega (arith, length-reverse l.records.items);
        most_records = bounded.most_records;
        within = bounded.within;
        most_begins = bounded.most_begins;
      };
      records_room = record { held = omega arith; spare = tt };
      bytes_room = tt;
    }

pub returns-clause-lsn : goal.returns-clause-lsn
returns-clause-lsn c =
    let l = c.self.inside in
    ap (λ k. k + 1) (c.len.ensures ∙ sym (length-reverse l.records.items) ∙ sym (log_len_is (reverse l.records.items) c.self.invariant.log_kept.written) ∙ ap (λ (s : LogState). log_len (history_in s)) c.self.view_is)

pub returns-clause-after : goal.returns-clause-after
returns-clause-after c =
    let l = c.self.inside in
    let rs = reverse l.records.items in
    let t = c.args.tx.0 in
    let e = c.index.result.now in
    let kept = c.self.invariant.log_kept in
    let places = goal.at.returns-clause-after c in
    let now = met places.After-index in
    let fits = found_fits rs l.begun t (finding l.txs.entries) e kept.fit now.found in
    let step = step_of c now (same_entry places.After-index_mut-open_tx now.found) in
    let stay = txs_stay (record_pushed c) rs l.begun t l.txs.entries (table_made c) (entry_made c) e ((told c).lsn_is ∙ step.lsn_is) kept.fit (puts_entry c) now.found step.rollback_same step.saves_same in
    accept_state (record_pushed c) l.records.items c.push_change.new.self.items l.txs.entries (table_made c) l.begun l.limits (room_in l.room_at l.over) (c.len.result + 1) e.last c.args.tx c.args.key.now c.args.before.now (wrote c.args.after) refl (told c) kept.written (pushed c) (step.lsn_is ∙ ap (λ k. k + 1) (length-reverse l.records.items)) (fits.last) stay
    ∙ ap (λ (s : LogState). record s { records = s.records ++ update_in s c.args.tx c.args.key.now c.args.before.now (wrote c.args.after) ∷ []; changes = s.changes ++ record { lsn = log_len (history_in s) + 1; tx = t; key = c.args.key.now; before = c.args.before.now; after = (wrote c.args.after); live = true } ∷ []; room = None }) c.self.view_is
