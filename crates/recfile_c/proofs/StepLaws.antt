-- Which steps a close may leave.
use Rattle.std.proofs.Common.{◌≡◌, ◌≢◌, ℕ, List, [], Option, Some, None, unwrap_or, slice_get, get_or, sym, ap, ◌∙◌, arith}
use Rattle.page_store.specs.Blank.{blank}
use Rattle.page_store.specs.declared.step.Step.{Step}
use Rattle.page_store.specs.Journal.{Journal, carried}
use Rattle.page_store.specs.Fronts.{two_pages, page_1_written}
use Rattle.btree_delete.specs.TableView.{TableView}
use Rattle.recfile_c.specs.Paged.{Settles}
use Rattle.recfile_c.specs.Steps.{JournalView, journal_of, page_1_left_out, written_before_longer, longer_before_written}

abbrev pub steps_in : Option Journal → List Step
steps_in None = []
steps_in (Some j) = j.steps

abbrev pub opened_in : Option Journal → List (List ℕ)
opened_in None = []
opened_in (Some j) = j.opened

-- a close may leave one list of steps alone
pub one_list : (t : TableView) (one two : JournalView) → Settles t one → Settles t two → (one.opened ≡ two.opened) × (one.steps ≡ two.steps)
one_list t one two first second =
    let same : journal_of one ≡ journal_of two = first.steps ∙ sym second.steps in
    (ap opened_in same, ap steps_in same)

abbrev byte_of : List (List ℕ) → ℕ → ℕ
byte_of pages n = get_or (unwrap_or (slice_get pages n) []) 0 0

-- a step that is left out leads to other pages
pub left_out : carried two_pages page_1_left_out ≢ carried two_pages page_1_written
left_out same = let e : ◌≡◌ {A = ℕ} 2 3 = ap (λ ps. byte_of ps 1) same in absurd (omega (arith, e))

-- so do two steps the other way round
pub another_order : carried two_pages written_before_longer ≢ carried two_pages longer_before_written
unfolding blank
another_order same = let e : ◌≡◌ {A = ℕ} 0 3 = ap (λ ps. byte_of ps 2) same in absurd (omega (arith, e))
