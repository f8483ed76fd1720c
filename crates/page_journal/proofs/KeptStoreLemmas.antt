-- Which calls leave a store that stands for the old file so.
use Rattle.std.proofs.Common.{◌≡◌, ⊎_elim, inl, inr, ℕ, ◌<◌, ◌≤◌, Bool, true, false, List, length, Option, unwrap_or, Result, Ok, Err, OnOk, refl, sym, ◌∙◌, ap, subst, arith}
use Rattle.std.proofs.lemmas.Bool.{cases_lt, false≢true}
use Rattle.std.proofs.lemmas.Option.{slice_get-get_or}
use Rattle.page_journal.specs.Files.{PageFile, SideFile, Files, BelongsTo, restored, recovered}
use Rattle.page_journal.specs.Recovery.{IsForeign}
use Rattle.page_journal.specs.Steps.{Does, Stays, TornAt, GrowsUpTo}
use Rattle.page_journal.specs.Crash.{LeavesOnly, IsSettled, IsSealed, FilesStandFor, StandsForEither, MayWrite, KeepsMarked}
use Rattle.page_journal.specs.KeptStores.{is_writable, may_write_in, HoldsOld, IsGuarded, old_file_of}
use Rattle.page_journal.specs.declared.disk_state.DiskState.{Ghosts}
use Rattle.page_journal.specs.declared.seal_state.SealState.{SealState}
use Rattle.page_journal.specs.declared.seal_state.SealState.TheVariants.{Unsealed, Sealed, Stopped}
use Rattle.page_journal.proofs.RestoreLemmas.{of_agree}
use Rattle.page_journal.proofs.SealedLemmas.{settled_stays, settled_stands, sealed_stays, sealed_stands, sealed_write, sealed_grow}

-- what stands for a file stands for one that is the same
stands_so : (main other : PageFile) (c : Files) → main ≡ other → FilesStandFor main c → FilesStandFor other c
stands_so main other c is stands = (stands.0, stands.1 ∙ is)

module _ {D : Type 0} (g : Ghosts D) (was : PageFile) where
  -- one call more, after which a crash leaves the old file
  time_more : (step : Files → Files → Type 0) (old new : D) → ((c : Files) → g.left_since old 0 c → FilesStandFor was c) → Does g step old new → ((c : Files) → g.may_leave new c → FilesStandFor was c) → (c : Files) → g.left_since new 0 c → FilesStandFor was c
  time_more step old new time does now c left = ⊎_elim (time c) (now c) (does.nothing_else 0 c (omega arith) left)

  held_stands : (flags : List Bool) (disk : D) → HoldsOld g was flags disk → (c : Files) → g.may_leave disk c → FilesStandFor was c
  held_stands flags disk held c left = stands_so (restored held.kept held.base) was c held.began (sealed_stands g held.kept held.base disk held.sealed c left)

  held_more : (flags : List Bool) (old new : D) → (held : HoldsOld g was flags old) → IsSealed g held.kept held.base new → HoldsOld g was flags new
  held_more flags old new held sealed = record { kept = held.kept; base = held.base; sealed = sealed; flags_kept = held.flags_kept; began = held.began }

  pub guarded_stays : ((disk : D) (t : ℕ) (c : Files) → t ≤ g.moment disk → g.may_leave disk c → g.left_since disk t c) → (state : SealState) (flags : List Bool) (old new : D) → IsGuarded g was state flags old → Stays g old new → IsGuarded g was state flags new
  guarded_stays counts Unsealed flags old new guarded does =
      let settled = settled_stays g was old new guarded.so does in
      record { so = settled; time = time_more _ old new guarded.time does (settled_stands g was new settled) }
  guarded_stays counts Sealed flags old new guarded does =
      let held = held_more flags old new guarded.so (sealed_stays g guarded.so.kept guarded.so.base old new guarded.so.sealed does) in
      record { so = held; time = time_more _ old new guarded.time does (held_stands flags new held) }
  guarded_stays counts Stopped flags old new guarded does =
      record {
        so = ap (λ (f : Files). f.main) does.seen ∙ guarded.so;
        time = time_more _ old new guarded.time does (λ c left.
            let from = does.crash c left in
            subst (FilesStandFor was) (sym from.2) (guarded.time from.0 (counts old 0 from.0 (omega arith) from.1)));
      }

  pub guarded_write : (state : SealState) (flags : List Bool) (n : ℕ) (old new : D) → IsGuarded g was state flags old → may_write_in state flags n ≡ true → Does g (TornAt n) old new → IsGuarded g was state flags new
  guarded_write Unsealed flags n old new guarded may does = absurd (false≢true may)
  guarded_write Sealed flags n old new guarded may does =
      let held = held_more flags old new guarded.so (sealed_write g guarded.so.kept guarded.so.base n old new guarded.so.sealed (guarded.so.flags_kept n may) does) in
      record { so = held; time = time_more _ old new guarded.time does (held_stands flags new held) }
  guarded_write Stopped flags n old new guarded may does = absurd (false≢true may)

  pub guarded_grow : (state : SealState) (flags : List Bool) (n : ℕ) (old new : D) → IsGuarded g was state flags old → state ≡ Sealed → Does g (GrowsUpTo n) old new → IsGuarded g was state flags new
  guarded_grow state flags n old new guarded is does =
      let now : IsGuarded g was Sealed flags old = subst (λ s. IsGuarded g was s flags old) is guarded in
      let held = held_more flags old new now.so (sealed_grow g now.so.kept now.so.base n old new now.so.sealed does) in
      subst (λ s. IsGuarded g was s flags new) (sym is) (record { so = held; time = time_more _ old new guarded.time does (held_stands flags new held) })

  -- where nothing was written over, the file is what there was
  pub unsealed_main : (state : SealState) (flags : List Bool) (disk : D) → IsGuarded g was state flags disk → (state ≡ Sealed → ⊥) → (g.seen disk).main ≡ was
  unsealed_main Unsealed flags disk guarded other = guarded.so.seen
  unsealed_main Sealed flags disk guarded other = absurd (other refl)
  unsealed_main Stopped flags disk guarded other = guarded.so

  -- what a recovery of a sealed one leaves
  pub taken_old : {E : Type 0} (state : SealState) (flags : List Bool) (old new : D) (result : Result (Unit {0}) E) → IsGuarded g was state flags old → state ≡ Sealed → ((kept : SideFile) (base : List (List ℕ)) → IsSealed g kept base old → OnOk result (IsSettled g (restored kept base) new)) → OnOk result ((g.seen new).main ≡ was)
  taken_old state flags old new (Err fault) guarded is taken = tt
  taken_old state flags old new (Ok _) guarded is taken =
      let held : HoldsOld g was flags old = (subst (λ s. IsGuarded g was s flags old) is guarded).so in
      (taken held.kept held.base held.sealed).seen ∙ held.began

  pub taken_time : (state : SealState) (flags : List Bool) (old new : D) → IsGuarded g was state flags old → state ≡ Sealed → ((kept : SideFile) (base : List (List ℕ)) → IsSealed g kept base old → LeavesOnly g (FilesStandFor (restored kept base)) old new) → (c : Files) → g.left_since new 0 c → FilesStandFor was c
  taken_time state flags old new guarded is taken c left =
      let held : HoldsOld g was flags old = (subst (λ s. IsGuarded g was s flags old) is guarded).so in
      ⊎_elim (guarded.time c) (stands_so (restored held.kept held.base) was c held.began) ((taken held.kept held.base held.sealed).before 0 c (omega arith) left)

  -- what a giving up of the old pages of a sealed one leaves
  pub finish_time : (state : SealState) (flags : List Bool) (old new : D) → IsGuarded g was state flags old → state ≡ Sealed → ((kept : SideFile) (base : List (List ℕ)) → IsSealed g kept base old → LeavesOnly g (StandsForEither (restored kept base) (g.seen old).main) old new) → (c : Files) → g.left_since new 0 c → StandsForEither was (g.seen old).main c
  finish_time state flags old new guarded is ends c left =
      let held : HoldsOld g was flags old = (subst (λ s. IsGuarded g was s flags old) is guarded).so in
      ⊎_elim (λ before. inl (guarded.time c before))
      (λ either. ⊎_elim (λ stands. inl (stands_so (restored held.kept held.base) was c held.began stands)) (λ stands. inr stands) either)
      ((ends held.kept held.base held.sealed).before 0 c (omega arith) left)

  -- its side file is one of the file
  pub never_foreign : (state : SealState) (flags : List Bool) (disk : D) → IsGuarded g was state flags disk → state ≡ Sealed → IsForeign (g.seen disk) → ⊥
  never_foreign state flags disk guarded is foreign =
      let held : HoldsOld g was flags disk = (subst (λ s. IsGuarded g was s flags disk) is guarded).so in
      foreign (subst (λ (s : Option SideFile). BelongsTo s (g.seen disk).main.pages) (sym held.sealed.side) (of_agree held.kept held.base (g.seen disk).main.pages held.sealed.main held.sealed.own))

  -- a run of calls over a file that stands for what there was
  pub run_time : (main : PageFile) (old new : D) → ((c : Files) → g.left_since old 0 c → FilesStandFor was c) → main ≡ was → LeavesOnly g (FilesStandFor main) old new → (c : Files) → g.left_since new 0 c → FilesStandFor was c
  run_time main old new time is run c left = ⊎_elim (time c) (stands_so main was c is) (run.before 0 c (omega arith) left)

-- a guard stays where the disk was opened over the same files
pub same_guard : {D : Type 0} (g : Ghosts D) (state : SealState) (flags : List Bool) (old new disk : D) → g.began new ≡ g.began old → IsGuarded g (old_file_of g old) state flags disk → IsGuarded g (old_file_of g new) state flags disk
same_guard g state flags old new disk is guarded = subst (λ (f : Files). IsGuarded g (recovered f) state flags disk) (sym is) guarded

-- marks of pages that were kept
pub flags_may : (kept : SideFile) (flags : List Bool) → KeepsMarked flags kept → kept.long ≡ length flags → (n : ℕ) → is_writable flags n ≡ true → MayWrite kept n
flags_may kept flags keeps long n here =
    ⊎_elim (λ (inside : n < length flags). inl (keeps n inside ∙ ap (λ (o : Option Bool). unwrap_or o false) (sym (slice_get-get_or flags n false inside) ∙ slice_get-get_or flags n true inside) ∙ here))
    (λ (past : length flags ≤ n). inr (omega (arith, past, long)))
    (cases_lt n (length flags))
