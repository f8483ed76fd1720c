use Rattle.std.proofs.Common.{◌≡◌, ◌||◌, ◌&&◌, ℕ, eqb, ltb, is_some}
use Rattle.std.specs.List.{list_any}
use Rattle.page_store.specs.Overlaid.{slots_of}
use Rattle.page_store.specs.WritingBack.{to_write}
use Rattle.page_store.proofs.GuardLemmas.{AscendTo}
use Rattle.page_store.proofs.pages.sealing.numbers_written.Given as goal

abbrev pub invariant-loop-n : goal.invariant-loop-n
invariant-loop-n l = record {
  which : (k : ℕ) → list_any (λ m. eqb k m) l.numbers.items ≡ (eqb k 0 || (ltb k l.n && is_some (to_write (slots_of l.changed) l.free.keys l.count k)));
  ascend : AscendTo 0 l.n l.numbers.items;
}
