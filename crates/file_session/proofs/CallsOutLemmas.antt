-- What a disk that records its calls has handed out, by what holds of it over any disk.
use Rattle.std.proofs.Common.{◌≡◌, ◌++◌, ℕ, None, Result, Ok, Err, OnOk, sym, subst}
use Rattle.rec_types.specs.Contents.{Contents}
use Rattle.page_journal.specs.Files.{Files, PageFile}
use Rattle.page_journal.specs.History.{LeftSince, MayLeave}
use Rattle.page_journal.specs.CallDisks.{Recorded, handed_out, EachFrontLeaves}
use Rattle.page_journal.proofs.CallDiskLemmas.{call_ghosts, each_front}
use Rattle.file_session.specs.Beside.{IsSettledWith}
use Rattle.file_session.specs.CallsOut.{LastsAlone}
use Rattle.file_session.specs.LogOver.{HoldsRecords}

module _ (old new : Recorded) (told : new ≡ handed_out old) where
  -- what holds of all that a crash leaves holds after each front of the calls
  pub fronts_out : (P : Files → Type 0) → ((c : Files) → LeftSince old.first (old.calls ++ old.past) 0 c → P c) → EachFrontLeaves new.first new.past 0 P
  fronts_out P each =
      subst (λ (r : Recorded). EachFrontLeaves r.first r.past 0 P) (sym told) (each_front old.first (old.calls ++ old.past) 0 P each)

  -- and what holds of what it leaves now holds once all are carried out
  pub now_out : (P : Files → Type 0) → ((c : Files) → MayLeave old.first (old.calls ++ old.past) c → P c) → (c : Files) → MayLeave new.first new.past c → P c
  now_out P each = subst (λ (r : Recorded). (c : Files) → MayLeave r.first r.past c → P c) (sym told) each

  -- so does what the device keeps
  pub alone_out : {E : Type 0} (order : ℕ) (records : Contents) (answer : Result (Unit {0}) E) → OnOk answer (IsSettledWith call_ghosts order records old) → OnOk answer (LastsAlone order records new)
  alone_out order records (Ok x) kept = now_out (λ c. HoldsRecords order records c.main × (c.side ≡ None) × (c.commits.log ≡ None)) (λ c left.
      let at = kept.settled.crash c left in
      (subst (λ (f : PageFile). HoldsRecords order records f) (sym at.0) kept.has, at.1, kept.no_log.crash c left))
  alone_out order records (Err e) kept = tt
