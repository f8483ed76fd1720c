-- Values by example.
use Rattle.std.specs.Prelude.{ℕ, [], ◌∷◌, Some, None, codes}
use Rattle.rec_types.specs.declared.transaction.TxId.{TxId}
use Rattle.rec_types.specs.declared.transaction.Entry.{Entry}

abbrev pub tx : ℕ → TxId
tx n = record { 0 = n }

-- the record x at the key a, which transaction 7 owns, and the empty record at the key of one zero byte
abbrev pub x_owned_by_7 : Entry
x_owned_by_7 = record { key = codes "a"; value = codes "x"; owner = Some (tx 7) }

abbrev pub free : Entry
free = record { key = 0 ∷ []; value = []; owner = None }
