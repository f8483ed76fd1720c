use Rattle.std.proofs.Common.{rules, ◌≡◌, ◌∷◌, [], ◌++◌, refl, ℕ, zero, suc, slice_get, ◌+◌, ◌-◌, ◌<◌, ◌≤◌, true, List, Some, None, option_map, length, reverse, is_some, sym, ap, subst, ◌∙◌, arith}
use Rattle.std.proofs.lemmas.List.{length-reverse, length-append}
use Rattle.rec_types.specs.History.{log_len}
use Rattle.rec_types.specs.Kept.{undone}
use Rattle.rec_types.specs.declared.transaction.TxId.{TxId}
use Rattle.tx_log.proofs.HoldCalls.{IsKeyOf, key_of_change, compensated_keys}
use Rattle.tx_log.specs.Holdings.{holdings_in, IsHeld}
use Rattle.tx_log.specs.Marks.{first_lsn, IsMarked}
use Rattle.tx_log.specs.OpenTxs.{opens}
use Rattle.tx_log.specs.declared.holding.Holding.{Holding}
use Rattle.tx_log.proofs.KeptLogLemmas.{IsSized, IsCounted, sized, some_of, recounted, counted_key, counted_change, kept_now}
use Rattle.tx_log.proofs.LogIndex.{reverse-push, record_of_chain}
use Rattle.tx_log.proofs.MarkLemmas.{as_many, marked_more}
use Rattle.tx_log.proofs.PlaceOf.{read_at, write_at}
use Rattle.indexmap.specs.IndexMap.{with_value_at}
use Rattle.tx_log.proofs.OpenTxLemmas.{found_fits, txs_stay}
use Rattle.tx_log.proofs.OpenTxReadLemmas.{open_of_undo, undo_head, undo_told, left_some, undo_above}
use Rattle.tx_log.proofs.LogStepLemmas.{compensated, IsCompensated, IsBackOf, back_told_of}
use Rattle.tx_log.proofs.LogStateLemmas.{state, compensate_state, told_compensation, kept_turned}
use Rattle.tx_log.proofs.WalkSteps.{IsStep, walk_step}
use Rattle.tx_log.specs.Finds.{finding, PutsAt}
use Rattle.tx_log.specs.Log.{back_record, record_at, lsn_of, key_of_record, leads_to, led, kept_of, chain}
use Rattle.tx_log.specs.LogFields.{room_in}
use Rattle.tx_log.specs.LogState.{LogState, history_in, undo_in, compensations_in}
use Rattle.tx_log.specs.Walks.{absent_at}
use Rattle.tx_log.specs.declared.log.TxLog.TheInside.{Inside}
use Rattle.tx_log.specs.declared.log_record.LogRecord.{LogRecord}
use Rattle.tx_log.specs.declared.open_tx.OpenTx.{OpenTx}
use Rattle.tx_log.specs.declared.undo_chain.LiveChange.{LiveChange}
use Rattle.tx_log.proofs.log.TxLog.compensate.Goals as goal
use Rattle.tx_log.proofs.log.TxLog.compensate.Goals.{After-index, After-unwrap-change, After-lower-was, After-index_mut-open_tx}
use Rattle.tx_log.proofs.Counts.{log_len_is}

-- a record stands one place below its number
place_below : (rs : List LogRecord) (n m : ℕ) (u : LogRecord) → n ≡ m → record_at rs n ≡ Some u → slice_get rs (m - 1) ≡ Some u
place_below rs zero m u is there = absurd (cc there)
place_below rs (suc n) m u is there =
    let less : suc n - 1 ≡ n = omega arith in
    subst (λ k. slice_get rs (k - 1) ≡ Some u) is (ap (λ k. slice_get rs k) less ∙ there)

-- the transaction of the change that is taken back
module _ (c : After-index) where
  met : finding c.self.inside.txs.entries c.args.tx.0 ≡ Some c.index.result.now
  met = read_at c.self.inside.txs c.args.tx.0 c.place_of-at.result c.index.result.now c.place_of-at.ensures.stands c.index.ensures

  met_sizes : IsSized (reverse c.self.inside.records.items) c.self.inside.pending c.self.inside.gone c.index.result.now
  met_sizes = sized (reverse c.self.inside.records.items) c.self.inside.txs.entries c.self.inside.begun c.self.inside.pending c.self.inside.gone c.args.tx.0 c.index.result.now c.self.invariant.log_kept met

-- what is known of the change that is taken back
record IsNext (l : Inside) (t : ℕ) (e : OpenTx) (change : LiveChange) : Type 0 where
  pub found : finding l.txs.entries t ≡ Some e
  pub step : IsStep (reverse l.records.items) e.last change
  pub counted : IsCounted l.pending change e
  pub at : IsKeyOf l t change step.update step.rest

module _ (c : After-unwrap-change) where
  next : IsNext c.self.inside c.args.tx.0 c.index.result.now c.unwrap-change.result
  next =
      let l = c.self.inside in
      let rs = reverse l.records.items in
      let e = c.index.result.now in
      let change = c.unwrap-change.result in
      let found = read_at l.txs c.args.tx.0 c.place_of-at.result e c.place_of-at.ensures.stands c.index.ensures in
      let step = walk_step rs e.last change c.self.invariant.log_kept.numbered (sym c.newest_change-newest.ensures ∙ c.unwrap-change.ensures) in
      record {
        found = found;
        step = step;
        counted = counted_change rs l.txs.entries l.begun l.pending l.gone c.args.tx.0 e change c.self.invariant.log_kept found step;
        at = key_of_change l c.self.invariant c.args.tx.0 e change found step;
      }

-- whether its key was out
module _ (c : After-lower-was) (now : IsNext c.self.inside c.args.tx.0 c.index.result.now c.unwrap-change.result) where
  was_is : c.lower-was.result ≡ absent_at c.unwrap-change.result.key (chain (reverse c.self.inside.records.items) c.index.result.now.last)
  was_is = (c.lower-was.ensures now.at.hold.hold now.at.there).0 ∙ now.at.lacks ∙ ap (absent_at c.unwrap-change.result.key) (sym now.step.is)

  was_counted : c.lower-was.result ≡ true → 0 < c.index.result.now.absent
  was_counted was =
      let l = c.self.inside in
      let e = c.index.result.now in
      counted_key (reverse l.records.items) l.txs.entries l.begun l.pending l.gone c.args.tx.0 e.last c.unwrap-change.result.key e c.self.invariant.log_kept now.found refl (sym was_is ∙ was)

-- the transaction's entry is still the one that was read
module _ (c : After-index_mut-open_tx) where
  same_entry : finding c.self.inside.txs.entries c.args.tx.0 ≡ Some c.index.result.now → c.index_mut-open_tx.result.now ≡ c.index.result.now
  same_entry found = some_of c.index_mut-open_tx.result.now c.index.result.now (sym (read_at c.self.inside.txs c.args.tx.0 c.place_of-at.result c.index_mut-open_tx.result.now c.place_of-at.ensures.stands c.index_mut-open_tx.ensures.value) ∙ found)

pub place_of-at-requires : goal.place_of-at-requires
place_of-at-requires c =
    let l = c.self.inside in
    let t = c.args.tx.0 in
    let some = open_of_undo (kept_of (reverse l.records.items)) l.txs.entries t (ap (λ (s : LogState). is_some (undo_in s t)) c.self.view_is ∙ c.requires) in
    some

pub newest_change-newest-requires : goal.newest_change-newest-requires
newest_change-newest-requires c =
    let size = met_sizes (goal.at.newest_change-newest-requires c).After-index in record {
      numbered = search rules;
      marked = search rules;
      within = subst (λ (k : ℕ). c.index.result.now.last ≤ k) (length-reverse c.self.inside.records.items) size.last;
    }

pub unwrap-change-requires : goal.unwrap-change-requires
unwrap-change-requires c =
    let l = c.self.inside in
    let e = c.index.result.now in
    let head = undo_head (reverse l.records.items) l.txs.entries l.begun l.pending l.gone c.args.tx.0 e c.self.invariant.log_kept (met (goal.at.unwrap-change-requires c).After-index) (ap (λ (s : LogState). is_some (undo_in s c.args.tx.0)) c.self.view_is ∙ c.requires) in
    ap is_some c.newest_change-newest.ensures ∙ head

pub overflow_sub-change : goal.overflow_sub-change
overflow_sub-change c =
    omega (arith, (next (goal.at.overflow_sub-change c).After-unwrap-change).step.falls)

pub push_back-requires-clause-there : goal.push_back-requires-clause-there
push_back-requires-clause-there c =
    let step = (next (goal.at.push_back-requires-clause-there c).After-unwrap-change).step in
    omega (arith, step.falls, step.within, length-reverse c.self.inside.records.items)

pub push_back-requires-clause-few : goal.push_back-requires-clause-few
push_back-requires-clause-few c =
    let bounded = c.self.invariant.bounded in
    omega (arith, (next (goal.at.push_back-requires-clause-few c).After-unwrap-change).counted.waits, bounded.fits, bounded.most_records)

pub push_back-requires-clause-room : goal.push_back-requires-clause-room
push_back-requires-clause-room c =
    omega (arith, (next (goal.at.push_back-requires-clause-room c).After-unwrap-change).counted.waits, c.self.invariant.records_room.held)

pub is_absent_below-will-requires-clause-some : goal.is_absent_below-will-requires-clause-some
is_absent_below-will-requires-clause-some c =
    omega (arith, (next (goal.at.is_absent_below-will-requires-clause-some c).After-unwrap-change).step.falls)

pub is_absent_below-will-requires-clause-within : goal.is_absent_below-will-requires-clause-within
is_absent_below-will-requires-clause-within c =
    let l = c.self.inside in
    omega (arith, (next (goal.at.is_absent_below-will-requires-clause-within c).After-unwrap-change).step.within, length-reverse l.records.items, as_many l.records.items l.records.marks c.self.invariant.marked)

pub newest_number-below-requires : goal.newest_number-below-requires
newest_number-below-requires c =
    let l = c.self.inside in
    let step = (next (goal.at.newest_number-below-requires c).After-unwrap-change).step in
    omega (arith, step.falls, step.within, length-reverse l.records.items, as_many l.records.items l.records.marks c.self.invariant.marked)

pub lower-was-requires-clause-there : goal.lower-was-requires-clause-there
lower-was-requires-clause-there c =
    ap is_some (next (goal.at.lower-was-requires-clause-there c).After-unwrap-change).at.there

pub lower-was-requires-clause-some : goal.lower-was-requires-clause-some
lower-was-requires-clause-some c = λ h there.
    let at = (next (goal.at.lower-was-requires-clause-some c).After-unwrap-change).at in
    let live_is : h.live ≡ at.hold.hold.live = ap (λ (x : Holding). x.live) (some_of h at.hold.hold (sym there ∙ at.there)) in
    omega (arith, live_is, at.hold.live)

pub overflow_sub-self : goal.overflow_sub-self
overflow_sub-self c =
    omega (arith, (next (goal.at.overflow_sub-self c).After-unwrap-change).counted.waits)

pub recount-self-inside-requires-clause-some : goal.recount-self-inside-requires-clause-some
recount-self-inside-requires-clause-some c = λ was.
    let size = met_sizes (goal.at.recount-self-inside-requires-clause-some c).After-index in
    let some = was_counted (goal.at.recount-self-inside-requires-clause-some c).After-lower-was (next (goal.at.recount-self-inside-requires-clause-some c).After-unwrap-change) was in
    omega (arith, some, size.absent_part)

pub recount-self-inside-requires-clause-most : goal.recount-self-inside-requires-clause-most
recount-self-inside-requires-clause-most c =
    let size = met_sizes (goal.at.recount-self-inside-requires-clause-most c).After-index in
    omega (arith, size.gone_keys, c.self.invariant.bounded.fits, c.self.invariant.bounded.most_records)

pub overflow_sub-open_tx-2 : goal.overflow_sub-open_tx-2
overflow_sub-open_tx-2 c =
    let l = c.self.inside in
    let found = met (goal.at.overflow_sub-open_tx-2 c).After-index in
    let asked = ap (λ (s : LogState). is_some (undo_in s c.args.tx.0)) c.self.view_is ∙ c.requires in
    subst (λ (x : OpenTx). 0 < x.left) (sym (same_entry (goal.at.overflow_sub-open_tx-2 c).After-index_mut-open_tx found)) (left_some (reverse l.records.items) l.txs.entries l.begun l.pending l.gone c.args.tx.0 c.index.result.now c.self.invariant.log_kept found asked)

pub overflow_sub-open_tx : goal.overflow_sub-open_tx
overflow_sub-open_tx c =
    let now = next (goal.at.overflow_sub-open_tx c).After-unwrap-change in
    subst (λ (x : OpenTx). 0 < x.live) (sym (same_entry (goal.at.overflow_sub-open_tx c).After-index_mut-open_tx now.found)) now.counted.live

pub recount-open_tx-requires-clause-some : goal.recount-open_tx-requires-clause-some
recount-open_tx-requires-clause-some c = λ was.
    let now = next (goal.at.recount-open_tx-requires-clause-some c).After-unwrap-change in
    subst (λ (x : OpenTx). 0 < x.absent) (sym (same_entry (goal.at.recount-open_tx-requires-clause-some c).After-index_mut-open_tx now.found)) (was_counted (goal.at.recount-open_tx-requires-clause-some c).After-lower-was now was)

pub recount-open_tx-requires-clause-most : goal.recount-open_tx-requires-clause-most
recount-open_tx-requires-clause-most c =
    let size = met_sizes (goal.at.recount-open_tx-requires-clause-most c).After-index in
    subst (λ (x : OpenTx). x.absent < 4294967295) (sym (same_entry (goal.at.recount-open_tx-requires-clause-most c).After-index_mut-open_tx (met (goal.at.recount-open_tx-requires-clause-most c).After-index))) (omega (arith, size.absent_part, size.gone_keys, c.self.invariant.bounded.fits, c.self.invariant.bounded.most_records))

-- the record that was pushed, its mark, and the transaction's new entry, with the table
module _ (c : goal.After-self-4-1) where
  abbrev record_pushed : LogRecord
  record_pushed = let change = c.unwrap-change.result in back_record (c.len.result + 1) c.index.result.now.last c.args.tx change.key (option_map (λ _. change.before) change.after) change.prev

  told_back : let change = c.unwrap-change.result in IsBackOf record_pushed (c.len.result + 1) c.index.result.now.last c.args.tx change.key (option_map (λ _. change.before) change.after) change.prev
  told_back =
      let change = c.unwrap-change.result in
      back_told_of (c.len.result + 1) c.index.result.now.last c.args.tx change.key (option_map (λ _. change.before) change.after) change.prev

  abbrev entry_left : OpenTx
  entry_left = let n = c.index_mut-open_tx.result.now in record { rollback = n.rollback; last = c.len.result + 1; live = n.live - 1; left = n.left - 1; absent = c.recount-open_tx.result; saves = n.saves }

  abbrev table_left : List (TxId × OpenTx)
  table_left = (with_value_at c.self.inside.txs c.place_of-at.result entry_left).entries

  puts_entry : PutsAt (finding c.self.inside.txs.entries) (finding table_left) c.args.tx.0 (Some entry_left)
  puts_entry = write_at c.self.inside.txs c.args.tx.0 c.place_of-at.result entry_left c.place_of-at.ensures.stands

  pushed : IsNext c.self.inside c.args.tx.0 c.index.result.now c.unwrap-change.result → c.push_back.new.self.items ≡ c.self.inside.records.items ++ record_pushed ∷ []
  pushed now =
      let l = c.self.inside in
      let u = now.step.update in
      let lsn_is : lsn_of u ≡ c.unwrap-change.result.lsn = ap (λ (x : LiveChange). x.lsn) now.step.told in
      let there = record_of_chain l.records.items c.index.result.now.last u now.step.rest c.self.invariant.log_kept.numbered now.step.is in
      c.push_back.ensures.items u (place_below l.records.items (lsn_of u) c.unwrap-change.result.lsn u lsn_is there)
      ∙ ap (λ (x : LiveChange). l.records.items ++ back_record (length l.records.items + 1) c.index.result.now.last c.args.tx x.key (option_map (λ _. x.before) x.after) x.prev ∷ []) now.step.told
      ∙ ap (λ n. let x = c.unwrap-change.result in l.records.items ++ back_record (n + 1) c.index.result.now.last c.args.tx x.key (option_map (λ _. x.before) x.after) x.prev ∷ []) (sym c.len.ensures)

  -- whether the changes that are left take its key out
  will_is : (step : IsStep (reverse c.self.inside.records.items) c.index.result.now.last c.unwrap-change.result) → c.is_absent_below-will.result ≡ absent_at c.unwrap-change.result.key step.rest
  will_is step =
      let l = c.self.inside in
      let rs = reverse l.records.items in
      let lsn_is : lsn_of step.update ≡ c.unwrap-change.result.lsn = ap (λ (x : LiveChange). x.lsn) step.told in
      let key_is : key_of_record step.update ≡ c.unwrap-change.result.key = ap (λ (x : LiveChange). x.key) step.told in
      c.is_absent_below-will.ensures rs step.rest c.index.result.now.last step.update c.self.invariant.log_kept.numbered c.self.invariant.marked step.is lsn_is
      ∙ ap (λ k. absent_at k step.rest) key_is

  taken_back : IsNext c.self.inside c.args.tx.0 c.index.result.now c.unwrap-change.result → c.lower-was.result ≡ absent_at c.unwrap-change.result.key (chain (reverse c.self.inside.records.items) c.index.result.now.last) → c.index_mut-open_tx.result.now ≡ c.index.result.now
      → IsCompensated (c.len.result + 1) c.index.result.now.last c.args.tx c.unwrap-change.result (reverse c.self.inside.records.items) (finding c.self.inside.txs.entries) c.self.inside.pending c.self.inside.gone (c.self.inside.pending - 1) c.recount-self-inside.result c.index.result.now entry_left
  taken_back now was_is same =
      let l = c.self.inside in
      let rs = reverse l.records.items in
      let e = c.index.result.now in
      let change = c.unwrap-change.result in
      let n = c.index_mut-open_tx.result.now in
      let will : c.is_absent_below-will.result ≡ absent_at change.key (chain rs change.prev) = will_is now.step ∙ ap (absent_at change.key) (sym now.step.tail) in
      let live_is : n.live ≡ e.live = ap (λ (x : OpenTx). x.live) same in
      let asked = ap (λ (s : LogState). is_some (undo_in s c.args.tx.0)) c.self.view_is ∙ c.requires in
      record {
        lsn_is = ap (λ k. k + 1) (c.len.ensures ∙ sym (length-reverse l.records.items));
        prev_is = refl;
        step = now.step;
        rollback_same = ap (λ (x : OpenTx). x.rollback) same;
        saves_same = ap (λ (x : OpenTx). x.saves.items) same;
        last_new = refl;
        live_new = omega (arith, now.counted.live);
        left_new = (let more = left_some rs l.txs.entries l.begun l.pending l.gone c.args.tx.0 e c.self.invariant.log_kept now.found asked in let left_is : n.left ≡ e.left = ap (λ (x : OpenTx). x.left) same in omega arith);
        above = undo_above rs l.txs.entries l.begun l.pending l.gone c.args.tx.0 e change c.self.invariant.log_kept now.found asked now.step;
        absent_new = recounted c.recount-open_tx.result n.absent e.absent c.lower-was.result _ c.is_absent_below-will.result _ was_is will (ap (λ (x : OpenTx). x.absent) same) c.recount-open_tx.ensures;
        pending_one = omega (arith, now.counted.waits);
        gone_one = recounted c.recount-self-inside.result l.gone l.gone c.lower-was.result _ c.is_absent_below-will.result _ was_is will refl c.recount-self-inside.ensures;
      }

-- its mark
back_marked : (c : goal.After-self-4-1) → (step : IsStep (reverse c.self.inside.records.items) c.index.result.now.last c.unwrap-change.result) → c.newest_number-below.result ≡ first_lsn (chain (reverse c.self.inside.records.items) c.unwrap-change.result.prev) → c.is_absent_below-will.result ≡ absent_at c.unwrap-change.result.key step.rest → IsMarked (record_pushed c) (reverse c.self.inside.records.items) (record { newest = c.newest_number-below.result; absent = c.is_absent_below-will.result })
back_marked c step below will =
    let rs = reverse c.self.inside.records.items in
    let change = c.unwrap-change.result in
    let told = told_back c in
    let leads : chain rs (leads_to (record_pushed c)) ≡ chain rs change.prev = ap (chain rs) told.leads in
    record {
      newest = below ∙ (λ i. first_lsn (led (sym told.down i) (record_pushed c) (sym leads i)));
      absent = will ∙ ap (absent_at change.key) (sym step.tail) ∙ (λ i. absent_at (sym told.key_is i) (sym leads i));
    }

pub invariant_of-self : goal.invariant_of-self
invariant_of-self c =
    let l = c.self.inside in
    let rs = reverse l.records.items in
    let e = c.index.result.now in
    let places = goal.at.invariant_of-self c in
    let now = next places.After-unwrap-change in
    let change = c.unwrap-change.result in
    let turned : reverse c.push_back.new.self.items ≡ record_pushed c ∷ rs = ap reverse (pushed c now) ∙ reverse-push l.records.items _ in
    let back = taken_back c now (was_is places.After-lower-was now) (same_entry places.After-index_mut-open_tx now.found) in
    let kept = compensated (record_pushed c) (c.len.result + 1) e.last c.args.tx change rs (finding l.txs.entries) (finding (table_left c)) l.begun l.pending l.gone (l.pending - 1) c.recount-self-inside.result e (entry_left c) (told_back c) c.self.invariant.log_kept now.found (puts_entry c) back in
    let bounded = c.self.invariant.bounded in
    let longer : length c.push_back.new.self.items ≡ length l.records.items + 1 = ap length (pushed c now) ∙ length-append l.records.items (record_pushed c ∷ []) in
    let wider : l.records.room ≤ c.push_back.new.self.room = c.push_back.ensures.room in
    let one = back.pending_one in
    let will = will_is c now.step in
    let below : c.newest_number-below.result ≡ first_lsn (chain rs change.prev) = c.newest_number-below.ensures rs c.self.invariant.log_kept.numbered c.self.invariant.marked in
    let keys = compensated_keys (record_pushed c) l c.self.invariant c.args.tx e (entry_left c) change now.step.update now.step.rest now.at (finding (table_left c)) (holdings_in c.lower-was.new.holdings) c.is_absent_below-will.result (told_back c).down (told_back c).tx_is now.found (puts_entry c) will (c.lower-was.ensures now.at.hold.hold now.at.there).1 in
    record {
      log_kept = kept_turned _ _ _ _ _ _ turned kept;
      marked = marked_more l.records.items c.push_back.new.self.items l.records.marks c.push_back.new.self.marks _ _ turned c.push_back.ensures.marks (back_marked c now.step below will) c.self.invariant.marked;
      holding = subst (λ (xs : List LogRecord). IsHeld xs (opens (finding (table_left c))) (holdings_in c.lower-was.new.holdings)) (sym turned) keys.holding;
      busy_keys = keys.busy_keys;
      reserved = tt;
      bounded = record {
        fits = omega (arith, bounded.fits);
        most_records = bounded.most_records;
        within = bounded.within;
        most_begins = bounded.most_begins;
      };
      records_room = record { held = omega (arith, c.self.invariant.records_room.held); spare = tt };
      bytes_room = tt;
    }

pub returns-clause-lsn : goal.returns-clause-lsn
returns-clause-lsn c =
    let l = c.self.inside in
    ap (λ k. k + 1) (c.len.ensures ∙ sym (length-reverse l.records.items) ∙ sym (log_len_is (reverse l.records.items) c.self.invariant.log_kept.written) ∙ ap (λ (s : LogState). log_len (history_in s)) c.self.view_is)

pub returns-clause-after : goal.returns-clause-after
returns-clause-after c =
    let l = c.self.inside in
    let rs = reverse l.records.items in
    let e = c.index.result.now in
    let places = goal.at.returns-clause-after c in
    let now = next places.After-unwrap-change in
    let change = c.unwrap-change.result in
    let t = c.args.tx.0 in
    let kept = c.self.invariant.log_kept in
    let fits = found_fits rs l.begun t (finding l.txs.entries) e kept.fit now.found in
    let step = now.step in
    let back = taken_back c now (was_is places.After-lower-was now) (same_entry places.After-index_mut-open_tx now.found) in
    let stay = txs_stay (record_pushed c) rs l.begun t l.txs.entries (table_left c) (entry_left c) e ((told_back c).lsn_is ∙ back.lsn_is) kept.fit (puts_entry c) now.found back.rollback_same back.saves_same in
    let undo = undo_told rs l.txs.entries l.begun l.pending l.gone t e change kept now.found (ap (λ (s : LogState). is_some (undo_in s t)) c.self.view_is ∙ c.requires) step in
    let told = told_compensation (state l.records.items l.txs.entries l.begun l.limits (room_in l.room_at l.over)) c.args.tx (c.len.result + 1) e.last change step.update (back.lsn_is ∙ ap (λ k. k + 1) (length-reverse l.records.items)) (fits.last) undo step.told (record_of_chain l.records.items e.last step.update step.rest kept.numbered step.is) in
    compensate_state (record_pushed c) l.records.items c.push_back.new.self.items l.txs.entries (table_left c) l.begun l.limits (room_in l.room_at l.over) (c.len.result + 1) e.last c.args.tx change.key _ change.prev (told_back c) (pushed c now) told stay
    ∙ ap (λ (s : LogState). record s { records = s.records ++ compensations_in s c.args.tx; changes = undone t s.changes; room = None }) c.self.view_is

pub returns-clause-kept : goal.returns-clause-kept
returns-clause-kept c = kept_now c.self.inside c.self.invariant _ c.self.view_is
