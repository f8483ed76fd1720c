use Rattle.std.proofs.Common.{◌+◌, None, Some, cond, eqb, reverse, ap, ◌∙◌, arith}
use Rattle.std.proofs.lemmas.Grind.{common_steps}
use Rattle.std.specs.FinMap as maps
use Rattle.tx_log.proofs.EndLemmas.{fresh_entry, known_last, begun_kept, begun_state}
use Rattle.tx_log.proofs.HoldSteps.{held_more}
use Rattle.tx_log.specs.Holdings.{holdings_in}
use Rattle.tx_log.proofs.KeptLogLemmas.{kept_now}
use Rattle.tx_log.specs.Finds.{finding, PutsAt}
use Rattle.tx_log.specs.LogFields.{room_in}
use Rattle.tx_log.specs.LogState.{LogState}
use Rattle.tx_log.specs.Transactions.{fresh}
use Rattle.tx_log.specs.declared.open_tx.OpenTx.{OpenTx}
use Rattle.tx_log.proofs.log.TxLog.begin.Goals.{In_ok-insert}
use Rattle.tx_log.proofs.log.TxLog.begin.Goals as goal

-- the new transaction is put in
puts_of : (c : In_ok-insert) → PutsAt (finding c.self.inside.txs.entries) (finding c.insert.new.self.entries) (c.self.inside.begun + 1) (Some fresh_entry)
puts_of c = λ q. c.in_ok-insert.ensures.updates.0 (record { 0 = q }) ∙ ap (λ (e : OpenTx). cond (eqb (c.self.inside.begun + 1) q) (Some e) (finding c.self.inside.txs.entries q)) c.new.ensures

pub invariant_of-self-2 : goal.invariant_of-self-2
invariant_of-self-2 c =
    let l = c.self.inside in
    let bounded = c.self.invariant.bounded in
    record {
      log_kept = begun_kept (reverse l.records.items) (finding l.txs.entries) (finding c.insert.new.self.entries) l.begun l.pending l.gone c.self.invariant.log_kept (puts_of (goal.at.invariant_of-self-2 c).In_ok-insert);
      marked = c.self.invariant.marked;
      holding = held_more (reverse l.records.items) (finding l.txs.entries) (finding c.insert.new.self.entries) (holdings_in l.holdings) l.begun fresh_entry c.self.invariant.log_kept.fit (puts_of (goal.at.invariant_of-self-2 c).In_ok-insert) (known_last (reverse l.records.items) l.begun (l.begun + 1) (omega arith) c.self.invariant.log_kept.known).1 c.self.invariant.holding;
      busy_keys = c.self.invariant.busy_keys;
      reserved = tt;
      bounded = record {
        fits = bounded.fits;
        most_records = bounded.most_records;
        within = (let below = c.if-self-most.false in omega (arith, c.begins-most.ensures.value));
        most_begins = bounded.most_begins;
      };
      records_room = record { held = c.self.invariant.records_room.held; spare = tt };
      bytes_room = tt;
    }

pub returns-clause-ok : goal.returns-clause-ok
returns-clause-ok c =
    let l = c.self.inside in
    begun_state l.records.items l.txs.entries c.insert.new.self.entries l.begun l.limits (room_in l.room_at l.over) (puts_of (goal.at.returns-clause-ok c).In_ok-insert)
    ∙ ap (λ (s : LogState). record s { begun = s.begun + 1; txs = maps.insert s.txs (s.begun + 1) fresh; room = None }) c.self.view_is

pub returns-then-self-most-clause-kept : goal.returns-then-self-most-clause-kept
returns-then-self-most-clause-kept c = kept_now c.self.inside c.self.invariant _ c.self.view_is

pub returns-clause-kept : goal.returns-clause-kept
returns-clause-kept c = kept_now c.self.inside c.self.invariant _ c.self.view_is

pub returns-in_err-insert-clause-kept : goal.returns-in_err-insert-clause-kept
returns-in_err-insert-clause-kept c = kept_now c.self.inside c.self.invariant _ c.self.view_is

pub returns-in_err-insert-clause-err : goal.returns-in_err-insert-clause-err
returns-in_err-insert-clause-err c = grind (arith, common_steps)

pub invariant_of-self-in_err-insert : goal.invariant_of-self-in_err-insert
invariant_of-self-in_err-insert c = grind (arith, common_steps)
