-- What the live changes of a transaction write, as its chain tells it.
use Rattle.std.proofs.Common.{◌≡◌, ℕ, Bool, true, false, cond, ◌&&◌, eqb, List, [], ◌∷◌, ◌++◌, map, reverse, Option, Some, None, refl, sym, ap, ◌∙◌}
use Rattle.std.proofs.lemmas.List.{reverse-append}
use Rattle.rec_types.specs.Kept.{Kept, change_of, history_of, is_own}
use Rattle.tx_log.specs.Log.{noted, kept_of, stack, chain, key_of_record, new_of}
use Rattle.tx_log.specs.Written.{writes_if, writes, own, written_by}
use Rattle.tx_log.specs.declared.log_record.LogRecord.{LogRecord}
use Rattle.tx_log.specs.declared.undo_chain.LiveChange.{LiveChange}
use Rattle.tx_log.proofs.Lives.{single, lives, stack_is_lives}
use Rattle.tx_log.proofs.WalkSteps.{IsStep}

abbrev Writes : Type 0
Writes = List (List ℕ × Option (List ℕ))

-- what changes write, each of which is live
abbrev written_kept : List Kept → Writes
written_kept [] = []
written_kept (c ∷ cs) = writes_if true c.key c.after (written_kept cs)

noted_writes : (us : List LogRecord) → written_by us ≡ written_kept (map noted us)
noted_writes [] = refl
noted_writes (u ∷ us) = ap (writes_if true (key_of_record u) (new_of u)) (noted_writes us)

joined : (cs ds : List Kept) → written_kept (cs ++ ds) ≡ written_kept cs ++ written_kept ds
joined [] ds = refl
joined (c ∷ cs) ds = ap (writes_if true c.key c.after) (joined cs ds) ∙ at c.after
  where
    at : (after : Option (Option (List ℕ))) → writes_if true c.key after (written_kept cs ++ written_kept ds) ≡ writes_if true c.key after (written_kept cs) ++ written_kept ds
    at (Some w) = refl
    at None = refl

lives_write : (t : ℕ) (cs : List Kept) → reverse (written_kept (lives t cs)) ≡ writes (own t (history_of cs))
lives_write t [] = refl
lives_write t (c ∷ cs) =
    ap (λ (k : Writes). reverse k) (joined (lives t cs) (single (is_own t c) c))
    ∙ reverse-append (written_kept (lives t cs)) (written_kept (single (is_own t c) c))
    ∙ ap (λ (k : Writes). reverse (written_kept (single (is_own t c) c)) ++ k) (lives_write t cs)
    ∙ at (eqb c.tx t) c.live c.after refl
  where
    at : (mine live : Bool) (after : Option (Option (List ℕ))) → c.live ≡ live → reverse (written_kept (single (mine && live) (record c { after = after }))) ++ writes (own t (history_of cs)) ≡ writes (cond (mine && live) (record (change_of c) { after = after } ∷ own t (history_of cs)) (own t (history_of cs)))
    at true true (Some w) live = ap (λ b. writes_if b c.key (Some w) (writes (own t (history_of cs)))) (sym live)
    at true true None live = ap (λ b. writes_if b c.key None (writes (own t (history_of cs)))) (sym live)
    at true false after live = refl
    at false live after is = refl

-- the updates of a transaction that aren't taken back, newest first, write what its live changes do
pub stack_writes : (t : ℕ) (rs : List LogRecord) → reverse (written_by (stack t rs)) ≡ writes (own t (history_of (kept_of rs)))
stack_writes t rs = ap (λ (k : Writes). reverse k) (noted_writes (stack t rs) ∙ ap written_kept (stack_is_lives t rs)) ∙ lives_write t (kept_of rs)

-- one step of the walk
pub step_writes : (rs : List LogRecord) (at : ℕ) (change : LiveChange) (step : IsStep rs at change) → written_by (chain rs at) ≡ writes_if true change.key change.after (written_by (chain rs change.prev))
step_writes rs at change step =
    ap written_by step.is
    ∙ ap (λ (c : LiveChange). writes_if true c.key c.after (written_by step.rest)) step.told
    ∙ ap (λ (us : List LogRecord). writes_if true change.key change.after (written_by us)) (sym step.tail)
