-- A copy of a page file.
use Rattle.std.proofs.Common.{ℕ, inl, inr, List, Result, Ok, Err, OnOk, IfErr, IsTrue, refl, sym, subst, ◌∙◌, arith}
use Rattle.page_store.specs.StoreCalls.{StaysStore}
use Rattle.page_store.specs.declared.store_state.StoreState.{Ghosts}
use Rattle.page_copy.specs.Copying.{IsCopyFault, IsUncopied}
use Rattle.page_copy.specs.declared.copying.CopyFault.{CopyFault}
use Rattle.page_copy.specs.declared.copying.CopyFault.TheVariants.{Source, Length, Copy}
use Rattle.btree_delete.specs.CleanFile.{HasLength}
use Rattle.file_session.specs.Opened.{CanBeOpened}
use Rattle.recfile.specs.FileFaults.{fault_of_copying}
use Rattle.recfile.specs.FilesAt.{IsCopyOf, IsCopyingFault, IsOfCopy, IsOfCopying}
use Rattle.recfile.specs.declared.copying.CopyingFault.{CopyingFault}
use Rattle.recfile.specs.declared.copying.CopyingFault.TheVariants.{OfFile, OfCopy}

pub ok_so : {A E : Type 0} (r : Result A E) (P : Type 0) → P → OnOk r P
ok_so (Ok x) P p = p
ok_so (Err e) P p = tt

-- a store that was at most read, and what is said of it before that
module _ {S : Type 0} (g : Ghosts S) (old mid : S) (stays : StaysStore g old mid) where
  pub stays_on : (new : S) → StaysStore g mid new → StaysStore g old new
  stays_on new more = record {
    pages = more.pages ∙ stays.pages;
    tail = more.tail ∙ stays.tail;
    steady = more.steady ∙ stays.steady;
    opening = more.opening ∙ stays.opening;
    writes = more.writes ∙ stays.writes;
    journal = more.journal ∙ stays.journal;
    guard = more.guard ∙ stays.guard;
  }

  pub still_opened : (limit : ℕ) → CanBeOpened (g.pages old) (g.tail old) limit → CanBeOpened (g.pages mid) (g.tail mid) limit
  still_opened limit can = subst (λ (n : ℕ). CanBeOpened (g.pages mid) n limit) (sym stays.tail) (subst (λ (ps : List (List ℕ)). CanBeOpened ps (g.tail old) limit) (sym stays.pages) can)

  pub copy_of_old : (done : Result (Unit {0}) CopyingFault) → OnOk done ((c : S) × (IsTrue (g.steady mid) → IsTrue (g.steady c) → IsCopyOf g mid c)) → OnOk done ((c : S) × (IsTrue (g.steady old) → IsTrue (g.steady c) → IsCopyOf g old c))
  copy_of_old (Ok done) p = (p.0, λ one other. let same = p.1 (stays.steady ∙ one) other in (same.0 ∙ stays.pages, same.1 ∙ stays.tail))
  copy_of_old (Err fault) p = tt

  pub fault_of_old : (limit : ℕ) (done : Result (Unit {0}) CopyingFault) → IfErr done (IsCopyingFault (g.pages mid) (g.tail mid) limit) → IfErr done (IsCopyingFault (g.pages old) (g.tail old) limit)
  fault_of_old limit (Ok done) is = tt
  fault_of_old limit (Err fault) is = subst (λ (n : ℕ). IsCopyingFault (g.pages old) n limit fault) stays.tail (subst (λ (ps : List (List ℕ)). IsCopyingFault ps (g.tail mid) limit fault) stays.pages is)

module _ (pages : List (List ℕ)) (tail limit : ℕ) (can : CanBeOpened pages tail limit) where
  abbrev long : HasLength pages tail
  long = can.3.clean.begins.long

  never : IsUncopied pages tail → ⊥
  never (inl none) = let some = long.some in omega (arith, none)
  never (inr (inl many)) = let most = long.most in omega (arith, many)
  never (inr (inr some)) = some long.no_tail

  of_copy : (fault : CopyingFault) → IsOfCopy fault → IsCopyingFault pages tail limit fault
  of_copy (OfFile fault) of = absurd (of)
  of_copy (OfCopy fault) of = can

  by_pages : (why : CopyFault) → IsCopyFault pages tail why → IsCopyingFault pages tail limit (fault_of_copying why)
  by_pages Source told = inl (inl refl)
  by_pages Length told = absurd (never told)
  by_pages (Copy fault) told = can

  -- why no copy of a file that is whole was made
  pub why_none : (copied : Result (Unit {0}) CopyFault) (fault : CopyingFault) → IfErr copied (IsCopyFault pages tail) → IsOfCopying copied fault → IsCopyingFault pages tail limit fault
  why_none copied fault told (inl of) = of_copy fault of
  why_none copied fault told (inr p) =
      subst (IsCopyingFault pages tail limit) (sym p.2) (by_pages p.0 (subst (λ (r : Result (Unit {0}) CopyFault). IfErr r (IsCopyFault pages tail)) p.1 told))

  pub whys_none : (copied : Result (Unit {0}) CopyFault) (done : Result (Unit {0}) CopyingFault) → IfErr copied (IsCopyFault pages tail)
      → IfErr done (IsOfCopying copied) → IfErr done (IsCopyingFault pages tail limit)
  whys_none copied (Ok done) told fault = tt
  whys_none copied (Err why) told fault = why_none copied why told fault
