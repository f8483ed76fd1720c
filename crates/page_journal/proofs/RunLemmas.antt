-- Runs of calls over a settled file, and over a sealed one.
use Rattle.std.proofs.Common.{◌≡◌, inl, ⊎_elim, ℕ, ◌≤◌, List, Some, None, is_some, sym, ◌∙◌, ap, subst}
use Rattle.page_journal.specs.Files.{PageFile, SideFile, Files, IsOf, restored}
use Rattle.page_journal.specs.Steps.{Does, Stays, TornAt, CutsTo, Fresh, Names, RemovesSide}
use Rattle.page_journal.specs.Crash.{LeavesOnly, IsSettled, IsSealed, FilesStandFor, StandsForEither, MayWrite, Gathered}
use Rattle.page_journal.specs.declared.disk_state.DiskState.{Ghosts}
use Rattle.page_journal.proofs.MomentLemmas.{started, goes_on, then_runs, weaker}
use Rattle.page_journal.proofs.SealedLemmas.{settled_stays, settled_fresh, settled_stands, sealed_stays, sealed_write, sealed_cut, sealed_stands, still, naming, named_stands, named_sealed, removed, removed_stands, removed_settled}

module _ {D : Type 0} (g : Ghosts D) where
  -- the file stayed as it was, with no side file, and each crash left it
  pub record Quiet (main : PageFile) (old new : D) : Type 0 where
    pub settled : IsSettled g main new
    pub time : LeavesOnly g (FilesStandFor main) old new

  pub quiet_begin : (main : PageFile) (old : D) → ((c : Files) → g.left_since old (g.moment old) c → g.may_leave old c) → IsSettled g main old → Quiet main old old
  quiet_begin main old only settled = record { settled = settled; time = started g (FilesStandFor main) old only (settled_stands g main old settled) }

  pub quiet_stays : (main : PageFile) (old mid new : D) → Quiet main old mid → Stays g mid new → Quiet main old new
  quiet_stays main old mid new quiet does =
      let settled = settled_stays g main mid new quiet.settled does in
      record { settled = settled; time = goes_on g (FilesStandFor main) _ old mid new quiet.time does (settled_stands g main new settled) }

  pub quiet_fresh : (main : PageFile) (old mid new : D) → Quiet main old mid → Does g Fresh mid new → Quiet main old new
  quiet_fresh main old mid new quiet does =
      let settled = settled_fresh g main mid new quiet.settled does in
      record { settled = settled; time = goes_on g (FilesStandFor main) _ old mid new quiet.time does (settled_stands g main new settled) }

  -- a run of calls more, told of the file that is seen
  pub quiet_then : (main : PageFile) (old mid new : D) → Quiet main old mid → IsSettled g (g.seen mid).main new → LeavesOnly g (FilesStandFor (g.seen mid).main) mid new → Quiet main old new
  quiet_then main old mid new quiet settled time = record {
    settled = subst (λ (m : PageFile). IsSettled g m new) quiet.settled.seen settled;
    time = then_runs g (FilesStandFor main) old mid new quiet.time (subst (λ (m : PageFile). LeavesOnly g (FilesStandFor m) mid new) quiet.settled.seen time);
  }

  -- and the device keeps a side file with pages as they are in the file
  pub record Ready (main : PageFile) (old new : D) : Type 0 where
    pub quiet : Quiet main old new
    pub durable : (c : Files) → g.may_leave new c → c.fresh ≡ (g.seen new).fresh
    pub gathered : Gathered main.pages (g.seen new).fresh
    pub own : IsOf (g.seen new).fresh main.pages

  pub ready : (main : PageFile) (old mid new : D) (seen : PageFile) → Quiet main old mid → seen ≡ main → Gathered seen.pages (g.seen mid).fresh → IsOf (g.seen mid).fresh main.pages → Stays g mid new → ((c : Files) → g.may_leave new c → c.fresh ≡ (g.seen mid).fresh) → Ready main old new
  ready main old mid new seen quiet is gathered own does durable =
      let same : (g.seen new).fresh ≡ (g.seen mid).fresh = ap (λ (f : Files). f.fresh) does.seen in
      record {
        quiet = quiet_stays main old mid new quiet does;
        durable = λ c left. durable c left ∙ sym same;
        gathered = subst (λ (k : SideFile). Gathered main.pages k) (sym same) (subst (λ (m : PageFile). Gathered m.pages (g.seen mid).fresh) is gathered);
        own = subst (λ (k : SideFile). IsOf k main.pages) (sym same) own;
      }

  -- it gets the name
  pub name_time : (main : PageFile) (old mid new : D) → main.tail ≡ 0 → Ready main old mid → Does g Names mid new → LeavesOnly g (FilesStandFor main) old new
  name_time main old mid new no_tail at does = goes_on g (FilesStandFor main) _ old mid new at.quiet.time does (λ c left. named_stands g main (g.seen mid).fresh no_tail at.gathered at.own c (naming g main mid new at.quiet.settled at.durable does c left))

  pub names_time : (main : PageFile) (old mid new last : D) → main.tail ≡ 0 → Ready main old mid → Does g Names mid new → Stays g new last → LeavesOnly g (FilesStandFor main) old last
  names_time main old mid new last no_tail at does stays =
      let stands : (c : Files) → g.may_leave new c → FilesStandFor main c = λ c left. named_stands g main (g.seen mid).fresh no_tail at.gathered at.own c (naming g main mid new at.quiet.settled at.durable does c left) in
      goes_on g (FilesStandFor main) _ old new last (name_time main old mid new no_tail at does) stays (still g (FilesStandFor main) new last stands stays)

  pub now_sealed : (main : PageFile) (old mid new last : D) → Ready main old mid → Does g Names mid new → (g.seen new).side ≡ Some (g.seen mid).fresh → Stays g new last → ((c : Files) → g.may_leave last c → is_some c.side ≡ is_some (g.seen new).side) → IsSealed g (g.seen mid).fresh main.pages last
  now_sealed main old mid new last at does named stays durable = named_sealed g main (g.seen mid).fresh new last (naming g main mid new at.quiet.settled at.durable does) (does.seen.main ∙ at.quiet.settled.seen) named at.own durable stays

  -- the file stayed sealed, and each crash left the old one
  pub record Holds (kept : SideFile) (base : List (List ℕ)) (old new : D) : Type 0 where
    pub sealed : IsSealed g kept base new
    pub time : LeavesOnly g (FilesStandFor (restored kept base)) old new

  pub holds_begin : (kept : SideFile) (base : List (List ℕ)) (old : D) → ((c : Files) → g.left_since old (g.moment old) c → g.may_leave old c) → IsSealed g kept base old → Holds kept base old old
  holds_begin kept base old only sealed = record { sealed = sealed; time = started g (FilesStandFor (restored kept base)) old only (sealed_stands g kept base old sealed) }

  pub holds_more : (step : Files → Files → Type 0) (kept : SideFile) (base : List (List ℕ)) (old mid new : D) → Holds kept base old mid → Does g step mid new → IsSealed g kept base new → Holds kept base old new
  holds_more step kept base old mid new holds does sealed = record { sealed = sealed; time = goes_on g (FilesStandFor (restored kept base)) step old mid new holds.time does (sealed_stands g kept base new sealed) }

  pub holds_stays : (kept : SideFile) (base : List (List ℕ)) (old mid new : D) → Holds kept base old mid → Stays g mid new → Holds kept base old new
  holds_stays kept base old mid new holds does = holds_more _ kept base old mid new holds does (sealed_stays g kept base mid new holds.sealed does)

  pub holds_write : (kept : SideFile) (base : List (List ℕ)) (n : ℕ) (old mid new : D) → Holds kept base old mid → MayWrite kept n → Does g (TornAt n) mid new → Holds kept base old new
  holds_write kept base n old mid new holds may does = holds_more _ kept base old mid new holds does (sealed_write g kept base n mid new holds.sealed may does)

  pub holds_cut : (kept : SideFile) (base : List (List ℕ)) (n : ℕ) (old mid new : D) → Holds kept base old mid → kept.long ≤ n → Does g (CutsTo n) mid new → Holds kept base old new
  holds_cut kept base n old mid new holds fits does = holds_more _ kept base old mid new holds does (sealed_cut g kept base n mid new holds.sealed fits does)

  pub holds_then : (kept : SideFile) (base : List (List ℕ)) (old mid new : D) → Holds kept base old mid → IsSealed g kept base new → LeavesOnly g (FilesStandFor (restored kept base)) mid new → Holds kept base old new
  holds_then kept base old mid new holds sealed time = record { sealed = sealed; time = then_runs g (FilesStandFor (restored kept base)) old mid new holds.time time }

  -- until the old pages are given up, a crash leaves the old file, which is one of two
  pub either_old : (kept : SideFile) (base : List (List ℕ)) (main : PageFile) (old new : D) → Holds kept base old new → LeavesOnly g (StandsForEither (restored kept base) main) old new
  either_old kept base main old new holds = weaker g (FilesStandFor (restored kept base)) (StandsForEither (restored kept base) main) old new (λ c stands. inl stands) holds.time

  pub remove_time : (kept : SideFile) (base : List (List ℕ)) (main : PageFile) (old mid new : D) → Holds kept base old mid → ((c : Files) → g.may_leave mid c → c.main ≡ main) → Does g RemovesSide mid new → LeavesOnly g (StandsForEither (restored kept base) main) old new
  remove_time kept base main old mid new holds durable does = goes_on g (StandsForEither (restored kept base) main) _ old mid new (either_old kept base main old mid holds) does (λ c left. removed_stands g kept base main holds.sealed.own c (removed g kept base main mid new holds.sealed durable does c left))

  pub removes_time : (kept : SideFile) (base : List (List ℕ)) (main : PageFile) (old mid new last : D) → Holds kept base old mid → ((c : Files) → g.may_leave mid c → c.main ≡ main) → Does g RemovesSide mid new → Stays g new last → LeavesOnly g (StandsForEither (restored kept base) main) old last
  removes_time kept base main old mid new last holds durable does stays =
      let P = StandsForEither (restored kept base) main in
      let stands : (c : Files) → g.may_leave new c → P c = λ c left. removed_stands g kept base main holds.sealed.own c (removed g kept base main mid new holds.sealed durable does c left) in
      goes_on g P _ old new last (remove_time kept base main old mid new holds durable does) stays (still g P new last stands stays)

  pub now_settled : (kept : SideFile) (base : List (List ℕ)) (main : PageFile) (old mid new last : D) → Holds kept base old mid → ((c : Files) → g.may_leave mid c → c.main ≡ main) → (g.seen mid).main ≡ main → Does g RemovesSide mid new → (g.seen new).side ≡ None → Stays g new last → ((c : Files) → g.may_leave last c → is_some c.side ≡ is_some (g.seen new).side) → IsSettled g main last
  now_settled kept base main old mid new last holds durable seen does gone stays kept_gone = removed_settled g main new last (λ c left. (removed g kept base main mid new holds.sealed durable does c left).0) (does.seen.main ∙ seen) gone kept_gone stays

  -- a commitment behind a run that put the old file back: it is the old one either way
  pub back_time : (kept : SideFile) (base : List (List ℕ)) (seen : PageFile) (old mid new : D) → seen ≡ restored kept base → LeavesOnly g (FilesStandFor (restored kept base)) old mid → LeavesOnly g (StandsForEither (restored kept base) seen) mid new → LeavesOnly g (FilesStandFor (restored kept base)) old new
  back_time kept base seen old mid new same before after = then_runs g (FilesStandFor (restored kept base)) old mid new before (weaker g (StandsForEither (restored kept base) seen) (FilesStandFor (restored kept base)) mid new (λ c either. ⊎_elim (λ is. is) (λ is. (is.0, is.1 ∙ same)) either) after)
