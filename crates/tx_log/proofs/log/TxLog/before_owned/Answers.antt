use Rattle.std.proofs.Common.{rules, ◌≡◌, ℕ, ◌≤◌, Bool, List, Some, None, option_map, reverse, sym, ap, subst, ◌∙◌}
use Rattle.std.proofs.lemmas.List.{length-reverse}
use Rattle.rec_types.specs.Kept.{history_of}
use Rattle.rec_types.specs.declared.transaction.TxId.{TxId}
use Rattle.tx_log.specs.Finds.{found, finding}
use Rattle.tx_log.specs.Holdings.{holdings_in}
use Rattle.tx_log.specs.Log.{kept_of}
use Rattle.tx_log.specs.LogState.{LogState, open_in}
use Rattle.tx_log.specs.OpenTxs.{opens}
use Rattle.tx_log.specs.Owners.{owner_of, before_owned}
use Rattle.tx_log.specs.Walks.{oldest_at}
use Rattle.tx_log.specs.declared.log_record.LogRecord.{LogRecord}
use Rattle.tx_log.proofs.HoldingLemmas.{holder_is}
use Rattle.tx_log.proofs.KeptLogLemmas.{sized, kept_now}
use Rattle.tx_log.proofs.LogStepLemmas.{chain_of}
use Rattle.tx_log.proofs.OldestLemmas.{oldest_owned, none_owned, owner_open}
use Rattle.tx_log.proofs.OpenTxLemmas.{opens_is, found_fits}
use Rattle.tx_log.proofs.log.TxLog.before_owned.Goals as goal

pub returns-in_err-owner-clause-value : goal.returns-in_err-owner-clause-value
returns-in_err-owner-clause-value c =
    let l = c.self.inside in
    let rs = reverse l.records.items in
    let x = c.args.key.now in
    let none : owner_of (opens (found l.txs)) (history_of (kept_of rs)) x ≡ None =
    sym (holder_is rs (opens (found l.txs)) (holdings_in l.holdings) x c.self.invariant.log_kept.owned c.self.invariant.holding) ∙ ap (option_map (λ (t : TxId). t.0)) (sym c.in_err-owner.ensures) in
    c.from_residual.ensures
    ∙ sym (none_owned (opens (found l.txs)) x (kept_of rs) none)
    ∙ ap (λ (o : ℕ → Bool). before_owned o (kept_of rs) x) (sym (opens_is (kept_of rs) l.txs.entries))
    ∙ ap (λ (s : LogState). before_owned (open_in s) s.changes x) c.self.view_is

pub returns-in_err-owner-clause-kept : goal.returns-in_err-owner-clause-kept
returns-in_err-owner-clause-kept c = kept_now c.self.inside c.self.invariant _ c.self.view_is

pub oldest_before-requires : goal.oldest_before-requires
oldest_before-requires c =
    let l = c.self.inside in
    let e = c.in_ok-open_tx.open_tx.now in
    let size = sized (reverse l.records.items) l.txs.entries l.begun l.pending l.gone c.in_ok-owner.owner.0 e c.self.invariant.log_kept (sym c.in_ok-open_tx.ensures) in record {
      numbered = search rules;
      marked = search rules;
      within = subst (λ (n : ℕ). e.last ≤ n) (length-reverse l.records.items) size.last;
    }

pub returns-clause-value : goal.returns-clause-value
returns-clause-value c =
    let l = c.self.inside in
    let rs = reverse l.records.items in
    let x = c.args.key.now in
    let t = c.in_ok-owner.owner.0 in
    let e = c.in_ok-open_tx.open_tx.now in
    let kept = c.self.invariant.log_kept in
    let is_open = opens (found l.txs) in
    let fits = found_fits rs l.begun t (finding l.txs.entries) e kept.fit (sym c.in_ok-open_tx.ensures) in
    let owner : owner_of is_open (history_of (kept_of rs)) x ≡ Some t =
    sym (holder_is rs is_open (holdings_in l.holdings) x kept.owned c.self.invariant.holding) ∙ ap (option_map (λ (u : TxId). u.0)) (sym c.in_ok-owner.ensures) in
    c.oldest_before.ensures
    ∙ ap (λ (us : List LogRecord). oldest_at x us None) (chain_of rs t e.last kept.numbered kept.written fits.last)
    ∙ oldest_owned is_open t x rs (owner_open is_open t x (kept_of rs) owner) owner
    ∙ ap (λ (o : ℕ → Bool). before_owned o (kept_of rs) x) (sym (opens_is (kept_of rs) l.txs.entries))
    ∙ ap (λ (s : LogState). before_owned (open_in s) s.changes x) c.self.view_is

pub returns-clause-kept : goal.returns-clause-kept
returns-clause-kept c = kept_now c.self.inside c.self.invariant _ c.self.view_is
