use Rattle.std.proofs.Common.{Ok, ap, sym, ◌∙◌}
use Rattle.std.proofs.lemmas.Bool.{false≢true}
use Rattle.std.proofs.lemmas.Bool.Decides.{Decides-eqb}
use Rattle.std.proofs.lemmas.Slice.Eq.{slice_eq-Decides}
use Rattle.btree_node.specs.HeaderSpelling.{header_spelling, clean_state}
use Rattle.btree_node.proofs.HeaderLemmas.{header_spelled, read_fits, no_header_fault, same_header}
use Rattle.btree_node.proofs.header_page.read_header.Goals as goal

pub returns-in_err-header-clause-only : goal.returns-in_err-header-clause-only
returns-in_err-header-clause-only c = λ h fits is. absurd (no_header_fault c.args.page.now h _ fits is c.in_err-header.ensures.fault)

pub returns-then-eq-clause-found : goal.returns-then-eq-clause-found
returns-then-eq-clause-found c = (
  read_fits c.args.page.now _ c.fits-page c.in_ok-header.ensures.passes c.in_ok-header.ensures.value,
  sym ((slice_eq-Decides Decides-eqb _ _ _ c.eq.ensures).0 c.if-eq.true) ∙ c.spell_header.ensures,
)

pub returns-then-eq-clause-only : goal.returns-then-eq-clause-only
returns-then-eq-clause-only c = λ h fits is. ap Ok (same_header c.args.page.now h _ fits is c.in_ok-header.ensures.value)

pub returns-else-eq-clause-only : goal.returns-else-eq-clause-only
returns-else-eq-clause-only c = λ h fits is.
    let same = same_header c.args.page.now h c.in_ok-header.header fits is c.in_ok-header.ensures.value in
    absurd (false≢true (sym c.if-eq.false ∙ (slice_eq-Decides Decides-eqb _ _ _ c.eq.ensures).1 (c.spell_header.ensures ∙ ap (λ g. header_spelling g clean_state) same ∙ sym is)))

pub returns-else-eq-clause-fault : goal.returns-else-eq-clause-fault
returns-else-eq-clause-fault c = record {
  before = c.in_ok-header.ensures.passes;
  fails = λ last.
      let same = header_spelled c.args.page.now c.told-page c.fits-page c.in_ok-header.ensures.passes last in
      absurd (false≢true (sym c.if-eq.false ∙ (slice_eq-Decides Decides-eqb _ _ _ c.eq.ensures).1 (c.spell_header.ensures ∙ ap (λ g. header_spelling g clean_state) c.in_ok-header.ensures.value ∙ sym same)));
}
