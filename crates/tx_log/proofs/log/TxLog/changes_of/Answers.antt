use Rattle.std.proofs.Common.{rules, ◌≡◌, ℕ, ◌≤◌, Bool, true, false, List, Option, is_some, reverse, sym, ap, subst, ◌∙◌}
use Rattle.std.proofs.lemmas.List.{length-reverse}
use Rattle.tx_log.specs.Finds.{finding}
use Rattle.tx_log.specs.Log.{kept_of}
use Rattle.tx_log.proofs.KeptLogLemmas.{sized, open_of_tx}
use Rattle.tx_log.proofs.LogStepLemmas.{chain_of}
use Rattle.tx_log.proofs.OpenTxLemmas.{found_fits, found_open}
use Rattle.tx_log.proofs.WrittenLemmas.{stack_writes}
use Rattle.tx_log.specs.LogState.{LogState, history_in, open_in}
use Rattle.tx_log.specs.Written.{writes, own, written_by}
use Rattle.tx_log.proofs.log.TxLog.changes_of.Goals as goal

pub changed_records-requires : goal.changed_records-requires
changed_records-requires c =
    let l = c.self.inside in
    let t = c.args.tx.0 in
    let e = c.in-Some.open_tx.now in
    let found = sym c.in-Some.ensures in
    let size = sized (reverse l.records.items) l.txs.entries l.begun l.pending l.gone t e c.self.invariant.log_kept found in record {
      numbered = search rules;
      marked = search rules;
      within = subst (λ (n : ℕ). e.last ≤ n) (length-reverse l.records.items) size.last;
    }

pub returns-in_default-clause-open : goal.returns-in_default-clause-open
returns-in_default-clause-open c = λ opened.
    let l = c.self.inside in
    let t = c.args.tx.0 in
    let there = open_of_tx (kept_of (reverse l.records.items)) l.txs.entries t (ap (λ (s : LogState). open_in s t) c.self.view_is ∙ opened) in
    absurd (cc (ap is_some c.in_default.ensures ∙ there))

pub returns-clause-open : goal.returns-clause-open
returns-clause-open c = λ opened.
    let l = c.self.inside in
    let rs = reverse l.records.items in
    let t = c.args.tx.0 in
    let e = c.in-Some.open_tx.now in
    let kept = c.self.invariant.log_kept in
    let fits = found_fits rs l.begun t (finding l.txs.entries) e kept.fit (sym c.in-Some.ensures) in
    c.reverse.ensures.items
    ∙ ap (λ (k : List (List ℕ × Option (List ℕ))). reverse k) (c.in_ok-written.ensures ∙ ap written_by (chain_of rs t e.last kept.numbered kept.written fits.last))
    ∙ stack_writes t rs
    ∙ ap (λ (s : LogState). writes (own t (history_in s))) c.self.view_is

-- what is found is open, whatever the answer then is
open_found : (b : Bool) → b ≡ true → b ≡ false → ⊥
open_found b opened closed = absurd (cc)

pub returns-in_err-written-clause-absent : goal.returns-in_err-written-clause-absent
returns-in_err-written-clause-absent c = λ closed.
    let l = c.self.inside in
    let t = c.args.tx.0 in
    let opened = found_open (kept_of (reverse l.records.items)) l.txs.entries t c.in-Some.open_tx.now (sym c.in-Some.ensures) in
    absurd (open_found _ opened (ap (λ (s : LogState). open_in s t) c.self.view_is ∙ closed))

pub returns-clause-absent : goal.returns-clause-absent
returns-clause-absent c = λ closed.
    let l = c.self.inside in
    let t = c.args.tx.0 in
    let opened = found_open (kept_of (reverse l.records.items)) l.txs.entries t c.in-Some.open_tx.now (sym c.in-Some.ensures) in
    absurd (open_found _ opened (ap (λ (s : LogState). open_in s t) c.self.view_is ∙ closed))
