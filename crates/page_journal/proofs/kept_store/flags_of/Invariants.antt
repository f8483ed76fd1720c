use Rattle.std.proofs.Common.{◌≡◌, ◌<◌, ℕ, length, take, get_or, true, eqb}
use Rattle.std.specs.List.{list_any}
use Rattle.page_journal.proofs.kept_store.flags_of.Given as goal

abbrev pub invariant-loop-n : goal.invariant-loop-n
invariant-loop-n l = record {
  long : length l.flags.items ≡ l.long;
  flags : (k : ℕ) → k < l.long → get_or l.flags.items k true ≡ list_any (λ m. eqb k m) (take l.n-index l.numbers);
}
