use Rattle.std.proofs.Common.{◌≡◌, ℕ, List, [], ◌∷◌, Option, Some, None, option_map, ap, sym}
use Rattle.rec_types.specs.declared.transaction.Entry.{Entry}
use Rattle.rec_types.specs.declared.transaction.TxId.{TxId}
use Rattle.record_file.proofs.laws.entries_tell_owners.Goals as goal

abbrev first_owner : List Entry → Option TxId
first_owner [] = None
first_owner (e ∷ es) = e.owner

abbrev tx : ℕ → TxId
tx t = record { 0 = t }

no_owner : (o : Option ℕ) (t : ℕ) → o ≡ Some t → None ≡ option_map tx o → ⊥
no_owner None t is none = absurd (cc)
no_owner (Some u) t is none = absurd (cc)

pub returns-clause-held : goal.returns-clause-held
returns-clause-held c = λ f t x r is. ap (λ (o : Option ℕ). let e : Entry = record { key = x; value = r; owner = option_map tx o } in e ∷ []) (sym is)

pub returns-clause-free : goal.returns-clause-free
returns-clause-free c = λ f t x r is told. no_owner _ t is (ap first_owner told)
