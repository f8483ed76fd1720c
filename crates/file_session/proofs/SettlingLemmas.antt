-- What a stop of a closing beside a log of commits leaves, and what an opening finds in it.
use Rattle.std.proofs.Common.{◌≡◌, ⊎_elim, inl, inr, ℕ, ◌≤◌, Bool, true, false, List, Option, Some, None, Result, Ok, Err, refl, sym, ap, subst, ◌∙◌, arith}
use Rattle.rec_types.specs.Contents.{Contents}
use Rattle.page_store.specs.Opening.{Opening}
use Rattle.page_journal.specs.Files.{PageFile, SideFile, Files, BelongsTo, Belongs, recovered, recovered_by}
use Rattle.page_journal.specs.Crash.{IsSettled, LeavesOnly, LeavesPages, StandsAs, FilesStandFor, pages_of}
use Rattle.page_journal.specs.Logging.{HasLogOf, HasNoLog}
use Rattle.page_journal.specs.LoggedStores.{FindsAll, FindsNow, MayFind}
use Rattle.page_journal.specs.declared.disk_state.DiskState.{Ghosts}
use Rattle.page_journal.specs.declared.log_place.LogPlace.{LogPlace}
use Rattle.commit_paper.specs.Text.{units_of}
use Rattle.file_session.specs.Beside.{FindsEach, FindsSome, FindsWhole, IsHeadFault, IsSettledWith, IsSettlingFault, LeavesEitherBeside, LeavesEnded, LeavesFiles, LeavesOpening, LosesNone}
use Rattle.page_store.specs.Guards.{Unsealed}
use Rattle.page_journal.specs.KeptStores.{guard_of, opened_over}
use Rattle.page_journal.specs.Recovery.{IsForeign}
use Rattle.page_journal.specs.declared.recovery_fault.RecoveryFault.{RecoveryFault}
use Rattle.page_journal.specs.declared.recovery_fault.RecoveryFault.TheVariants as recovering
use Rattle.page_store.specs.declared.store_fault.StoreFault.{StoreFault}
use Rattle.page_store.specs.declared.store_fault.StoreFault.TheVariants as stores
use Rattle.btree_delete.specs.CleanFile.{IsOutside}
use Rattle.btree_delete.specs.declared.opening.open_fault.OpenFault.{OpenFault}
use Rattle.btree_delete.specs.declared.opening.open_fault.OpenFault.TheVariants as checks
use Rattle.file_session.specs.Opened.{IsFirstOrOutside, IsOutsideFile}
use Rattle.file_session.specs.FileFaults.{fault_of_opening, fault_of_recovery, fault_of_store}
use Rattle.file_session.specs.declared.file_fault.FileFault.{FileFault}
use Rattle.file_session.specs.declared.file_fault.FileFault.TheVariants as faults
use Rattle.page_journal.specs.declared.seal_state.SealState.{SealState}
use Rattle.page_journal.specs.declared.seal_state.SealState.TheVariants as states
use Rattle.file_session.specs.Beginning.{LeavesUnread}
use Rattle.file_session.specs.Settling.{FindsAny, IsUnsettledOver}
use Rattle.file_session.specs.Closing.{opening_file, is_sealed, refused_calls}
use Rattle.file_session.proofs.ClosingCountLemmas.{is_stopped}
use Rattle.file_session.specs.LogOver.{Finds, FindsLog, HoldsRecords, IsLogOver, head_line}
use Rattle.file_session.proofs.LogOverLemmas.{over_again}
use Rattle.std.specs.Prelude.{is_some}

abbrev pub Units : Type 0
Units = List (List (List ℕ))

-- what a store tells of the commits, whether it has a place in a log or not
pub some_found : (log : Option LogPlace) (began : Files) (units : Units) (doubt : List ℕ) (c : Files) → MayFind log began units doubt c → FindsSome (is_some log) began.commits.log units doubt c
some_found None began units doubt c finds = finds
some_found (Some place) began units doubt c finds = finds

pub whole_found : (log : Option LogPlace) (began : Files) (units : Units) (c : Files) → FindsAll log began units c → FindsWhole (is_some log) began.commits.log units c
whole_found None began units c finds = finds
whole_found (Some place) began units c finds = finds

pub each_found : (log : Option LogPlace) (began : Files) (units : Units) (doubt : List ℕ) (c : Files) → FindsNow log began units doubt c → FindsEach (is_some log) began.commits.log units doubt c
each_found None began units doubt c finds = finds
each_found (Some place) began units doubt c finds = finds

each_same : (logged : Bool) (log : Option (List ℕ)) (units : Units) (doubt : List ℕ) (c d : Files) → c.commits.log ≡ d.commits.log → FindsEach logged log units doubt d → FindsEach logged log units doubt c
each_same false log units doubt c d is finds = is ∙ finds
each_same true log units doubt c d is finds = ⊎_elim (λ all. inl (all.0, is ∙ all.1, all.2)) (λ more. inr (more.0, more.1, more.2, (more.3.0, is ∙ more.3.1, more.3.2))) finds

whole_same : (logged : Bool) (log : Option (List ℕ)) (units : Units) (c d : Files) → c.commits.log ≡ d.commits.log → FindsWhole logged log units d → FindsWhole logged log units c
whole_same false log units c d is finds = is ∙ finds
whole_same true log units c d is finds = (finds.0, is ∙ finds.1, finds.2)

stands_same : (main : PageFile) (c d : Files) → pages_of c ≡ pages_of d → FilesStandFor main d → FilesStandFor main c
stands_same main c d same stands =
    subst (λ (k : PageFile × (SideFile × Option SideFile)). BelongsTo k.1.1 k.0.pages × (recovered_by k.1.1 k.0 ≡ main)) (sym same) stands

some_same : (logged : Bool) (log : Option (List ℕ)) (units : Units) (doubt : List ℕ) (c d : Files) → c.commits.log ≡ d.commits.log → FindsSome logged log units doubt d → FindsSome logged log units doubt c
some_same false log units doubt c d is finds = is ∙ finds
some_same true log units doubt c d is finds = ⊎_elim
    (λ firsts. inl (⊎_elim (λ none. inl (is ∙ none)) (λ some. inr (some.0, some.1, some.2, (some.3.0, is ∙ some.3.1, some.3.2))) firsts))
    (λ more. inr (more.0, more.1, more.2, (more.3.0, is ∙ more.3.1, more.3.2)))
    finds

-- the files of an outcome whose pages are those of a settled file
alone_is : (main : PageFile) (c d : Files) → pages_of c ≡ pages_of d → d.main ≡ main → d.side ≡ None → Belongs c × (recovered c ≡ main)
alone_is main c d same is none =
    subst (λ (k : PageFile × (SideFile × Option SideFile)). BelongsTo k.1.1 k.0.pages × (recovered_by k.1.1 k.0 ≡ main)) (sym same)
    (subst (λ (s : Option SideFile). BelongsTo s d.main.pages × (recovered_by s d.main ≡ main)) (sym none) (tt, is))

module _ {D : Type 0} (g : Ghosts D) (counts : (disk : D) (t : ℕ) (c : Files) → t ≤ g.moment disk → g.may_leave disk c → g.left_since disk t c) where
  -- the log of a closed file is taken away
  pub ended_leaves : (opening : Opening) (order : ℕ) (records : Contents) (old new : D) → IsSettled g (g.seen old).main old → HoldsRecords order records (g.seen old).main
      → ((c : Files) → g.may_leave old c → FindsWhole opening.logged opening.log opening.commits c)
      → ((c : Files) → g.left_since old 0 c → LeavesEitherBeside opening order records c)
      → LeavesPages g old new → LeavesOnly g (HasLogOf g old) old new
      → (c : Files) → g.left_since new 0 c → LeavesEnded opening order records c
  ended_leaves opening order records old new settled holds whole either pages logs c left = ⊎_elim
      (λ was. inl (either c was))
      (λ part.
      ⊎_elim
      (λ was. inl (either c was))
      (λ log.
      let at = settled.crash part.0 part.1 in
      let is = alone_is (g.seen old).main c part.0 part.2 at.0 at.1 in
      let has = subst (HoldsRecords order records) (sym is.1) holds in
      ⊎_elim
      (λ none. inr (is.0, has, none))
      (λ other. inl (inr (is.0, has, whole_same opening.logged opening.log opening.commits c other.0 other.2 (whole other.0 other.1))))
      log)
      (logs.before 0 c (omega arith) left))
      (pages.time.before 0 c (omega arith) left)

  -- and no commit is lost
  pub ended_loses : (opening : Opening) (order : ℕ) (records : Contents) (old new : D) → IsSettled g (g.seen old).main old → HoldsRecords order records (g.seen old).main
      → ((c : Files) → g.may_leave old c → FindsEach opening.logged opening.log opening.commits opening.doubt c)
      → LeavesPages g old new → LeavesOnly g (HasLogOf g old) old new
      → (c : Files) → g.may_leave new c → LosesNone opening order records c
  ended_loses opening order records old new settled holds each pages logs c left =
      let part = pages.now c left in
      let at = settled.crash part.0 part.1 in
      let is = alone_is (g.seen old).main c part.0 part.2 at.0 at.1 in
      ⊎_elim
      (λ none. inr (is.0, subst (HoldsRecords order records) (sym is.1) holds, none))
      (λ other. inl (each_same opening.logged opening.log opening.commits opening.doubt c other.0 other.2 (each other.0 other.1)))
      (logs.each c (counts new (g.moment old) c logs.later left))

  -- a log is taken away whose file isn't changed
  pub unread_leaves : (opening : Opening) (old new : D) → ((c : Files) → g.left_since old 0 c → LeavesOpening opening c) → LeavesPages g old new → LeavesOnly g (HasLogOf g old) old new → (c : Files) → g.left_since new 0 c → LeavesUnread opening c
  unread_leaves opening old new before pages logs c left = ⊎_elim
      (λ was. inl (before c was))
      (λ part.
      let stands = stands_same (opening_file opening) c part.0 part.2 (before part.0 (counts old 0 part.0 (omega arith) part.1)).0 in
      ⊎_elim
      (λ was. inl (before c was))
      (λ log.
      ⊎_elim
      (λ none. inr (stands, none))
      (λ other. inl (stands, some_same opening.logged opening.log opening.commits opening.doubt c other.0 other.2 (before other.0 (counts old 0 other.0 (omega arith) other.1)).1))
      log)
      (logs.before 0 c (omega arith) left))
      (pages.time.before 0 c (omega arith) left)

  pub settled_after : (main : PageFile) (old new : D) → LeavesPages g old new → IsSettled g main old → IsSettled g main new
  settled_after main old new leaves settled = record {
    seen = ap (λ (k : PageFile × (SideFile × Option SideFile)). k.0) leaves.seen ∙ settled.seen;
    no_side = ap (λ (k : PageFile × (SideFile × Option SideFile)). k.1.1) leaves.seen ∙ settled.no_side;
    crash = λ c left.
        let has = leaves.now c left in
        let was = settled.crash has.0 has.1 in
        (ap (λ (k : PageFile × (SideFile × Option SideFile)). k.0) has.2 ∙ was.0, ap (λ (k : PageFile × (SideFile × Option SideFile)). k.1.1) has.2 ∙ was.1);
  }

  pub settled_with : (order : ℕ) (records : Contents) (old new : D) → IsSettled g (g.seen old).main old → HoldsRecords order records (g.seen old).main → LeavesPages g old new → HasNoLog g new → IsSettledWith g order records new
  settled_with order records old new settled holds leaves gone =
      let after = settled_after (g.seen old).main old new leaves settled in
      record {
        has = subst (HoldsRecords order records) (sym after.seen) holds;
        settled = subst (λ (m : PageFile). IsSettled g m new) (sym after.seen) after;
        no_log = gone;
      }

-- An opening finds the same records in files that stand for what these stood for.
pub files_find : (order : ℕ) (records : Contents) (old c : Files) → Finds order records old → LeavesFiles old c → Finds order records c
files_find order records old c finds leaves = record {
  belongs = leaves.0.0;
  under = finds.under;
  holds = subst (HoldsRecords order finds.under) (sym leaves.0.1) finds.holds;
  log = subst (λ (l : Option (List ℕ)). FindsLog (head_line (recovered c)) finds.under records l) (sym leaves.1)
      (subst (λ (f : PageFile). FindsLog (head_line f) finds.under records old.commits.log) (sym leaves.0.1) finds.log);
}

-- and in what a stop of settling leaves
pub ended_finds : (order : ℕ) (records : Contents) (old c : Files) (opening : Opening) (bytes : List ℕ) → opening_file opening ≡ recovered old → opening.log ≡ old.commits.log → opening.logged ≡ false → old.commits.log ≡ Some bytes → Finds order records old → LeavesEnded opening order records c → Finds order records c
ended_finds order records old c opening bytes file log unlogged is finds left = ⊎_elim
    (λ either.
    ⊎_elim
    (λ opened.
    files_find order records old c finds (
      subst (λ (f : PageFile). FilesStandFor f c) file opened.0,
      subst (λ (b : Bool). FindsSome b opening.log opening.commits opening.doubt c) unlogged opened.1 ∙ log,
    ))
    (λ closed. record {
      belongs = closed.0;
      under = records;
      holds = closed.1;
      log = subst (λ (l : Option (List ℕ)). FindsLog (head_line (recovered c)) records records l) (sym (subst (λ (b : Bool). FindsWhole b opening.log opening.commits c) unlogged closed.2 ∙ log ∙ is))
          (over_again (head_line (recovered old)) (head_line (recovered c)) finds.under records (units_of bytes) (subst (λ (l : Option (List ℕ)). FindsLog (head_line (recovered old)) finds.under records l) is finds.log));
    })
    either)
    (λ gone. record {
      belongs = gone.0;
      under = records;
      holds = gone.1;
      log = subst (λ (l : Option (List ℕ)). FindsLog (head_line (recovered c)) records records l) (sym gone.2) refl;
    })
    left

-- the log that an opening finds commits in
pub found_over : (head : List ℕ) (under records : Contents) (log : Option (List ℕ)) (bytes : List ℕ) → log ≡ Some bytes → FindsLog head under records log → IsLogOver head under records (units_of bytes)
found_over head under records log bytes is finds = subst (λ (l : Option (List ℕ)). FindsLog head under records l) is finds

pub over_found : (head : List ℕ) (under records : Contents) (log : Option (List ℕ)) (bytes : List ℕ) → log ≡ Some bytes → IsLogOver head under records (units_of bytes) → FindsLog head under records log
over_found head under records log bytes is over = subst (λ (l : Option (List ℕ)). FindsLog head under records l) (sym is) over

-- what a store leaves over which no log was begun
pub unlogged_leaves : (old c : Files) (opening : Opening) → opening_file opening ≡ recovered old → opening.log ≡ old.commits.log → opening.logged ≡ false → LeavesOpening opening c → LeavesFiles old c
unlogged_leaves old c opening file log unlogged left = (
  subst (λ (f : PageFile). FilesStandFor f c) file left.0,
  subst (λ (b : Bool). FindsSome b opening.log opening.commits opening.doubt c) unlogged left.1 ∙ log,
)

-- a store with no place in a log, in which nothing is kept aside
pub unlogged : (log : Option LogPlace) → is_some log ≡ false → log ≡ None
unlogged None is = refl
unlogged (Some place) is = absurd (cc is)

pub unused : (state : SealState) (kept : List Bool) (refusals : ℕ) → guard_of state kept refusals ≡ Unsealed 0 → (state ≡ states.Unsealed) × (refusals ≡ 0)
unused states.Unsealed kept refusals is = (refl, ap refused_calls is)
unused states.Sealed kept refusals is = absurd (cc (ap is_sealed is))
unused states.Stopped kept refusals is = absurd (cc (ap is_stopped is))

-- of a store that was at most read since
pub still_unlogged : {opening : Opening} (old : Files) (log : Option LogPlace) (commits : Units) (doubt : List ℕ) → opening ≡ opened_over old log commits doubt → log ≡ None → (opening_file opening ≡ recovered old) × (opening.log ≡ old.commits.log) × (opening.logged ≡ false)
still_unlogged old log commits doubt same none = (ap (λ (o : Opening). opening_file o) same, ap (λ (o : Opening). o.log) same, ap (λ (o : Opening). o.logged) same ∙ ap (λ (l : Option LogPlace). is_some l) none)

-- a closed file has the length of one
pub head_settles : (fault : FileFault) (order : ℕ) (records : Contents) (file : PageFile) → HoldsRecords order records file → IsHeadFault file.pages file.tail fault → IsSettlingFault fault
head_settles fault order records file holds why = ⊎_elim (λ outside. inl outside) (λ length. absurd (length.1 holds.3.clean.begins.long)) why

-- a file that is none by its length has that as its first fault
pub head_first : (pages : List (List ℕ)) (tail limit : ℕ) (fault : FileFault) → IsHeadFault pages tail fault → IsFirstOrOutside pages tail limit fault
head_first pages tail limit fault why = ⊎_elim (λ outside. inl outside) (λ length. inr (checks.BadLength, length.1, length.0)) why

-- one that is closed isn't opened by a fault from outside alone
pub opening_settles : (fault : OpenFault) (named : FileFault) → named ≡ fault_of_opening fault → IsOutside fault → IsSettlingFault named
opening_settles fault named is outside = inl (⊎_elim
    (λ device. inl (is ∙ ap fault_of_opening device))
    (λ memory. inr (is ∙ ap fault_of_opening memory))
    outside)

-- why a disk isn't opened whose files belong together
pub recovery_settles : (files : Files) (fault : RecoveryFault) (named : FileFault) → named ≡ fault_of_recovery fault → Belongs files → (fault ≡ recovering.BadJournal → IsForeign files) → IsSettlingFault named
recovery_settles files recovering.Device named is belongs foreign = inl (inl is)
recovery_settles files recovering.BadJournal named is belongs foreign = absurd (foreign refl belongs)

pub recovery_commits : (fault : RecoveryFault) (named : FileFault) → named ≡ fault_of_recovery fault → named ≡ faults.BadCommits → ⊥
recovery_commits recovering.Device named is bad = absurd (cc (sym is ∙ bad))
recovery_commits recovering.BadJournal named is bad = absurd (cc (sym is ∙ bad))

-- the faults of a store are from outside
pub store_outside : (fault : StoreFault) (named : FileFault) → named ≡ fault_of_store fault → IsOutsideFile named
store_outside stores.Failed named is = inl is
store_outside stores.Memory named is = inr is

pub store_commits : (fault : StoreFault) (named : FileFault) → named ≡ fault_of_store fault → named ≡ faults.BadCommits → ⊥
store_commits stores.Failed named is bad = absurd (cc (sym is ∙ bad))
store_commits stores.Memory named is bad = absurd (cc (sym is ∙ bad))

-- which faults are none of settling
pub not_outside : (fault : FileFault) → IsOutsideFile fault → (fault ≡ faults.BadJournal → ⊥) × (fault ≡ faults.BadCommits → ⊥)
not_outside fault outside = ⊎_elim
    (λ device. (λ bad. absurd (cc (sym device ∙ bad)), λ bad. absurd (cc (sym device ∙ bad))))
    (λ memory. (λ bad. absurd (cc (sym memory ∙ bad)), λ bad. absurd (cc (sym memory ∙ bad))))
    outside

pub not_settling : (fault : FileFault) → IsSettlingFault fault → (fault ≡ faults.BadJournal → ⊥) × (fault ≡ faults.BadCommits → ⊥)
not_settling fault why = ⊎_elim (not_outside fault)
    (λ many. (λ bad. absurd (cc (sym many ∙ bad)), λ bad. absurd (cc (sym many ∙ bad))))
    why

-- files that stand for what these stood for
pub files_stand : (old c : Files) → LeavesFiles old c → StandsAs old c × (c.commits.log ≡ old.commits.log)
files_stand old c left = ((λ own. left.0.0, left.0.1), left.1)

-- why a file with a log beside it isn't put right, and where records are found
abbrev pub IsStop : Files → FileFault → Type 0
IsStop files fault = IsUnsettledOver files fault × (FindsAny files → IsSettlingFault fault)

pub only_err : {A E : Type 0} {a b : E} → ◌≡◌ {A = Result A E} (Err a) (Err b) → a ≡ b
only_err {A} {E} {a} {b} is = ap fault_in is
  where
    fault_in : Result A E → E
    fault_in (Ok x) = a
    fault_in (Err fault) = fault
