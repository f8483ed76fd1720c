use Rattle.std.proofs.Common.{rules, ◌≡◌, ℕ, ◌≤◌, true, false, List, [], ◌∷◌, length, cond, None, reverse, refl, ap, subst, ◌∙◌, arith}
use Rattle.std.specs.FinMap as maps
use Rattle.tx_log.proofs.EndLemmas.{closed, closed_state, live_part}
use Rattle.std.specs.List.{list_any}
use Rattle.std.proofs.lemmas.List.{length-reverse}
use Rattle.tx_log.proofs.HoldingLemmas.{Freed}
use Rattle.tx_log.proofs.HoldSteps.{held_after, busy_after}
use Rattle.tx_log.proofs.OpenTxReadLemmas.{entry_chain}
use Rattle.tx_log.specs.Holdings.{holdings_in}
use Rattle.tx_log.specs.Walks.{is_at}
use Rattle.tx_log.specs.declared.log_record.LogRecord.{LogRecord}
use Rattle.tx_log.proofs.KeptLogLemmas.{open_of_tx, sized, kept_now}
use Rattle.tx_log.specs.Finds.{finding}
use Rattle.tx_log.specs.Log.{kept_of, stack}
use Rattle.tx_log.specs.LogState.{LogState, with_txs, open_in}
use Rattle.tx_log.specs.OpenTxs.{opens}
use Rattle.tx_log.specs.declared.open_tx.OpenTx.{OpenTx}
use Rattle.rec_types.specs.declared.transaction.TxId.{TxId}
use Rattle.tx_log.proofs.log.TxLog.close.Goals as goal

no_entries : (es : List (TxId × OpenTx)) → length es ≡ 0 → es ≡ []
no_entries [] none = refl
no_entries (e ∷ es) none = absurd (omega (arith, none))

pub place_of-at-requires : goal.place_of-at-requires
place_of-at-requires c =
    let l = c.self.inside in
    let t = c.args.tx.0 in
    open_of_tx (kept_of (reverse l.records.items)) l.txs.entries t (ap (λ (s : LogState). open_in s t) c.self.view_is ∙ c.requires)

pub overflow_sub-self : goal.overflow_sub-self
overflow_sub-self c =
    let l = c.self.inside in
    let t = c.args.tx.0 in
    live_part (reverse l.records.items) l.txs.entries l.begun l.pending l.gone t c.take_out-closed.result c.self.invariant.log_kept (c.take_out-closed.ensures t c.place_of-at.ensures.stands).0

pub overflow_sub-self-2 : goal.overflow_sub-self-2
overflow_sub-self-2 c =
    let l = c.self.inside in
    let t = c.args.tx.0 in
    (sized (reverse l.records.items) l.txs.entries l.begun l.pending l.gone t c.take_out-closed.result c.self.invariant.log_kept (c.take_out-closed.ensures t c.place_of-at.ensures.stands).0).absent_part

-- what is left of the keys: none where no other transaction is open, and else those of the others
module _ (c : goal.After-self-3-1) where
  none : c.is_empty-is_last.result ≡ true → (q : List ℕ) → holdings_in c.free_held.new.holdings q ≡ None
  none = c.free_held.ensures.last

  freed : c.is_empty-is_last.result ≡ false → Freed (holdings_in c.self.inside.holdings) (holdings_in c.free_held.new.holdings) (stack c.args.tx.0 (reverse c.self.inside.records.items))
  freed others =
      let l = c.self.inside in
      let t = c.args.tx.0 in
      let out = c.take_out-closed.ensures t c.place_of-at.ensures.stands in
      λ q. c.free_held.ensures.others others q
      ∙ ap (λ (us : List LogRecord). cond (list_any (is_at q) us) None (holdings_in l.holdings q)) (entry_chain (reverse l.records.items) l.txs.entries l.begun l.pending l.gone t c.take_out-closed.result c.self.invariant.log_kept out.0)

  closed_all : c.is_empty-is_last.result ≡ true → (u : ℕ) → opens (finding c.take_out-closed.new.txs.entries) u ≡ false
  closed_all last u = ap (λ es. opens (finding es) u) (no_entries c.take_out-closed.new.txs.entries (c.is_empty-is_last.ensures.0 last))

pub free_held-requires : goal.free_held-requires
free_held-requires c =
    let l = c.self.inside in
    let t = c.args.tx.0 in
    let e = c.take_out-closed.result in
    let out = c.take_out-closed.ensures t c.place_of-at.ensures.stands in
    let size = sized (reverse l.records.items) l.txs.entries l.begun l.pending l.gone t e c.self.invariant.log_kept out.0 in record {
      numbered = search rules;
      marked = search rules;
      within = subst (λ (n : ℕ). e.last ≤ n) (length-reverse l.records.items) size.last;
    }

pub invariant_of-self : goal.invariant_of-self
invariant_of-self c =
    let l = c.self.inside in
    let t = c.args.tx.0 in
    let rs = reverse l.records.items in
    let e = c.take_out-closed.result in
    let out = c.take_out-closed.ensures t c.place_of-at.ensures.stands in
    let bounded = c.self.invariant.bounded in
    record {
      log_kept = closed (reverse l.records.items) (finding l.txs.entries) (finding c.take_out-closed.new.txs.entries) l.begun l.pending l.gone t e c.self.invariant.log_kept out.0 out.1;
      marked = c.self.invariant.marked;
      holding = held_after c.is_empty-is_last.result rs (finding l.txs.entries) (finding c.take_out-closed.new.txs.entries) (holdings_in l.holdings) (holdings_in c.free_held.new.holdings) t e out.1 out.0 (closed_all c) (none c) (freed c) c.self.invariant.holding;
      busy_keys = busy_after c.is_empty-is_last.result (holdings_in l.holdings) (holdings_in c.free_held.new.holdings) (stack t rs) l.over (none c) (freed c) c.self.invariant.busy_keys;
      reserved = tt;
      bounded = record {
        fits = omega (arith, bounded.fits);
        most_records = bounded.most_records;
        within = bounded.within;
        most_begins = bounded.most_begins;
      };
      records_room = record { held = omega (arith, c.self.invariant.records_room.held); spare = tt };
      bytes_room = tt;
    }

pub returns-clause-after : goal.returns-clause-after
returns-clause-after c =
    let l = c.self.inside in
    let t = c.args.tx.0 in
    closed_state l c.take_out-closed.new.txs.entries t (c.take_out-closed.ensures t c.place_of-at.ensures.stands).1
    ∙ ap (λ (s : LogState). with_txs s (maps.remove s.txs t)) c.self.view_is

pub returns-clause-kept : goal.returns-clause-kept
returns-clause-kept c = kept_now c.self.inside c.self.invariant _ c.self.view_is
