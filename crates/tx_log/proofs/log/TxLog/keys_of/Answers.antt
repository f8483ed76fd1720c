use Rattle.std.proofs.Common.{rules, ℕ, ◌≤◌, List, length, is_some, map, reverse, sym, ap, subst, ◌∙◌, arith}
use Rattle.std.specs.List.Sorted.{IsPermutation}
use Rattle.std.proofs.lemmas.List.{length-reverse}
use Rattle.std.proofs.lemmas.List.Filters.{dedup_is}
use Rattle.tx_log.proofs.KeptLogLemmas.{sized}
use Rattle.tx_log.proofs.KeyListLemmas.{changed_are_held}
use Rattle.tx_log.proofs.LogStepLemmas.{chain_of}
use Rattle.tx_log.proofs.OpenTxLemmas.{found_fits}
use Rattle.tx_log.proofs.OwnedKeys.{owned_keys, unowned_keys}
use Rattle.tx_log.specs.Finds.{finding}
use Rattle.tx_log.specs.Holdings.{holdings_in, AreHeld}
use Rattle.tx_log.specs.Log.{kept_of, key_of_record}
use Rattle.tx_log.specs.OpenTxs.{opens}
use Rattle.tx_log.specs.LogState.{LogState, open_in, history_in}
use Rattle.tx_log.specs.Owners.{keys_owned}
use Rattle.tx_log.specs.declared.log_record.LogRecord.{LogRecord}
use Rattle.tx_log.proofs.log.TxLog.keys_of.Goals as goal

pub returns-in_default : goal.returns-in_default
returns-in_default c =
    let l = c.self.inside in
    let t = c.args.tx.0 in
    let none = sym c.in_default.ensures in
    c.new.ensures.items ∙ unowned_keys (kept_of (reverse l.records.items)) l.txs.entries t none ∙ ap (λ (s : LogState). keys_owned (open_in s) (history_in s) t) c.self.view_is

pub held_keys-requires-clause-walk : goal.held_keys-requires-clause-walk
held_keys-requires-clause-walk c =
    let l = c.self.inside in
    let t = c.args.tx.0 in
    let e = c.in-Some.open_tx.now in
    let found = sym c.in-Some.ensures in
    let size = sized (reverse l.records.items) l.txs.entries l.begun l.pending l.gone t e c.self.invariant.log_kept found in record {
      numbered = search rules;
      marked = search rules;
      within = subst (λ (n : ℕ). e.last ≤ n) (length-reverse l.records.items) size.last;
    }

pub held_keys-requires-clause-told : goal.held_keys-requires-clause-told
held_keys-requires-clause-told c =
    let l = c.self.inside in
    let rs = reverse l.records.items in
    let t = c.args.tx.0 in
    let e = c.in-Some.open_tx.now in
    let kept = c.self.invariant.log_kept in
    let found = sym c.in-Some.ensures in
    let there = chain_of rs t e.last kept.numbered kept.written ((found_fits rs l.begun t (finding l.txs.entries) e kept.fit found).last) in
    subst (λ us. AreHeld (holdings_in l.holdings) t (map key_of_record us)) (sym there) (changed_are_held rs (opens (finding l.txs.entries)) (holdings_in l.holdings) t c.self.invariant.holding (ap is_some found))

pub held_keys-requires-clause-live : goal.held_keys-requires-clause-live
held_keys-requires-clause-live c =
    let l = c.self.inside in
    let rs = reverse l.records.items in
    let t = c.args.tx.0 in
    let e = c.in-Some.open_tx.now in
    let kept = c.self.invariant.log_kept in
    let fits = found_fits rs l.begun t (finding l.txs.entries) e kept.fit (sym c.in-Some.ensures) in
    omega (arith, ap (λ (us : List LogRecord). length us) (chain_of rs t e.last kept.numbered kept.written fits.last), fits.live)

pub in_order-requires : goal.in_order-requires
in_order-requires c =
    let few = c.in_ok-held.ensures.few in
    omega (arith, few, c.deref.ensures.len)

pub returns : goal.returns
returns c =
    let l = c.self.inside in
    let t = c.args.tx.0 in
    let e = c.in-Some.open_tx.now in
    owned_keys (reverse l.records.items) l.txs.entries (holdings_in l.holdings) t e c.in_ok-held.held.items c.in_ok-keys.keys.items c.dedup.new.self.items c.self.invariant.holding (sym c.in-Some.ensures) c.in_ok-held.ensures.held (subst (λ ks. IsPermutation ks c.in_ok-keys.keys.items) c.deref.ensures.value c.in_ok-keys.ensures.permutation) c.in_ok-keys.ensures.sorted (dedup_is _ _ _ c.dedup.ensures.filtered)
    ∙ ap (λ (s : LogState). keys_owned (open_in s) (history_in s) t) c.self.view_is
