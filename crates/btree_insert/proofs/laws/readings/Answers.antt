use Rattle.std.proofs.Common.{◌≡◌, ℕ, ◌+◌, true, false, refl, ap, sym, ◌∙◌, arith}
use Rattle.rec_types.specs.Table.{counted}
use Rattle.page_store.specs.PagesView.{PagesView}
use Rattle.btree_insert.proofs.ReadingLemmas.{reads_then}
use Rattle.btree_insert.proofs.laws.readings.Goals as goal

pub returns : goal.returns
returns c = record {
  both = λ m n old mid new x answer first second. reads_then m n (m + n) old mid new x answer (omega arith) first second;
  example = λ v none. record {
    unchanged = refl;
    device = ap (λ (f : ℕ). counted f true) (sym none);
    reads = omega arith;
  };
  uncounted = λ v none reads. absurd (omega (arith, none, reads.device ∙ ap (λ (f : ℕ). counted f true) none));
  changed = λ v idle reads. absurd (let same : true ≡ false = ap (λ (w : PagesView). w.changed) reads.unchanged ∙ idle in cc);
}
