-- What puts no page file right, by disks in memory.
use Rattle.std.proofs.Common.{◌≡◌, ◌≢◌, ⊎_elim, ℕ, ◌<◌, true, None, Result, Ok, Err, refl, ap, ◌∙◌, arith}
use Rattle.rec_types.specs.Contents.{Contents}
use Rattle.rec_types.specs.Table.{counted, greatest_count}
use Rattle.page_journal.specs.Files.{Files, Belongs, recovered}
use Rattle.page_journal.specs.History.{History, LeftSince}
use Rattle.page_journal.specs.contracts.mem_disk.MemDiskDiskState.TheImpl.{ghosts}
use Rattle.btree_delete.specs.declared.opening.open_fault.OpenFault.{OpenFault}
use Rattle.btree_delete.specs.declared.opening.open_fault.OpenFault.TheVariants as opening
use Rattle.file_session.specs.FileFaults.{fault_of_opening}
use Rattle.file_session.specs.LogOver.{Finds, HoldsRecords}
use Rattle.file_session.specs.Settling.{FindsAny, PutsRight}
use Rattle.file_session.specs.declared.file_fault.FileFault.{FileFault}
use Rattle.file_session.specs.declared.file_fault.FileFault.TheVariants.{BadCommits, BadJournal, Device}
use Rattle.file_session.proofs.ClosingCountLemmas.{no_less, one_more}
use Rattle.file_session.proofs.FindsOnceLemmas.{finds_once, held_once}
use Rattle.file_session.proofs.SettlingLemmas.{not_outside, not_settling}

pub settled_with_others : (old new : History) (order later : ℕ) (records others : Contents) → Finds order records old.first → records ≢ others → PutsRight ghosts old (Ok tt) new → HoldsRecords later others (ghosts.seen new).main → ⊥
settled_with_others old new order later records others finds differ right held =
    differ (held_once order later records others (ghosts.seen new).main (right.settled refl order records finds).has held)

pub settled_with_log : (old new : History) → PutsRight ghosts old (Ok tt) new → (ghosts.seen new).commits.log ≢ None → ⊥
settled_with_log old new right there = there (right.bare refl).1.seen

pub lost_by_settling : (old new : History) (answer : Result (Unit {0}) FileFault) (order later : ℕ) (records others : Contents) (left : Files) → Finds order records old.first → PutsRight ghosts old answer new → LeftSince new.first new.calls 0 left → records ≢ others → Finds later others left → ⊥
lost_by_settling old new answer order later records others left finds right crashed differ found =
    differ (finds_once order later records others left (right.kept refl order records finds left crashed) found)

pub unfound_stays : (old new : History) (answer : Result (Unit {0}) FileFault) (left : Files) → (FindsAny old.first → ⊥) → PutsRight ghosts old answer new → LeftSince new.first new.calls 0 left → recovered left ≢ recovered old.first → ⊥
unfound_stays old new answer left none right crashed differ = differ (right.unfound refl none left crashed).0.1

not_opening : (fault : OpenFault) → BadJournal ≡ fault_of_opening fault → ⊥
not_opening opening.Device is = absurd (cc is)
not_opening opening.BadLength is = absurd (cc is)
not_opening opening.BadMagic is = absurd (cc is)
not_opening (opening.BadVersion version) is = absurd (cc is)
not_opening opening.BadOrder is = absurd (cc is)
not_opening opening.NotClean is = absurd (cc is)
not_opening opening.BadHeader is = absurd (cc is)
not_opening (opening.Damaged page) is = absurd (cc is)
not_opening opening.WrongCount is = absurd (cc is)
not_opening opening.TooManyRecords is = absurd (cc is)
not_opening opening.Memory is = absurd (cc is)

pub journal_of_own : (old new : History) → Belongs old.first → PutsRight ghosts old (Err BadJournal) new → ⊥
journal_of_own old new own right = ⊎_elim
    (λ disk.
    ⊎_elim (λ outside. (not_outside BadJournal outside).0 refl) (λ foreign. foreign.1 own) disk)
    (λ beside.
    ⊎_elim
    (λ first.
    ⊎_elim (λ outside. (not_outside BadJournal outside).0 refl) (λ check. not_opening check.0 check.2) first)
    (λ closed.
    ⊎_elim (λ settling. (not_settling BadJournal settling).0 refl) (λ log. absurd (cc log.0)) closed.1)
    beside.2)
    (right.fault refl)

pub commits_of_own : (old new : History) (order : ℕ) (records : Contents) → Finds order records old.first → PutsRight ghosts old (Err BadCommits) new → ⊥
commits_of_own old new order records finds right = (not_settling BadCommits (right.found refl order records finds)).1 refl

-- what the disk failed in
pub unfailed_device : (old new : History) → old.failures < greatest_count → PutsRight ghosts old (Err Device) new → new.failures ≡ old.failures → ⊥
unfailed_device old new low right same =
    let more = one_more old.failures low in
    absurd (omega (arith, right.failures.failures, more, no_less (counted old.failures true) right.failures.again, same))

pub failed_unsaid : (old new : History) → PutsRight ghosts old (Ok tt) new → new.failures ≢ old.failures → ⊥
failed_unsaid old new right differ = differ (right.failures.failures ∙ ap (counted old.failures) (right.failures.once refl))
