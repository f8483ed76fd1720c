-- How what is known of the commits goes on with each call.
use Rattle.std.proofs.Common.{◌≡◌, ◌≢◌, ◌⊎◌, ⊎_elim, inl, inr, ℕ, ◌≤◌, List, [], ◌∷◌, ◌++◌, length, Option, Some, None, is_some, Result, Ok, Err, OnOk, refl, sym, ◌∙◌, ap, subst, arith, append_assoc, length-append, Bool}
use Rattle.std.proofs.lemmas.List.{append-nil}
use Rattle.commit_paper.specs.Text.{units_of, unit_text, log_text, IsUnit, AreUnits}
use Rattle.commit_paper.proofs.Scans.{log_passes}
use Rattle.commit_paper.proofs.Shown.{shown_units, before}
use Rattle.page_journal.specs.Files.{PageFile, SideFile, CommitFiles, Files, BelongsTo, recovered_by}
use Rattle.page_journal.specs.Crash.{LeavesOnly, LeavesLogs, LeavesPages, IsSettled, FilesStandFor, StandsForEither, pages_of}
use Rattle.page_journal.specs.KeptStores.{IsGuarded, KeptStored, old_file_of, opened_over}
use Rattle.page_store.specs.Opening.{Opening}
use Rattle.page_journal.specs.Logging.{HasLog, HasNoLog, Says, SaysEither, SaysNoneOr, StandsInLog, IsReady}
use Rattle.page_journal.specs.LoggedStores.{BeganAlone, KnowsCommits, AreFirst, SaysFirst, SaysDoubt, SaysAll, MayFind, FindsAll, FindsNow, HoldsCommits, IsLogged, DoubtStops, LeavesWithCommits, units_before, commits_in}
use Rattle.page_journal.proofs.KeptStoreLemmas.{same_guard}
use Rattle.page_journal.proofs.MomentLemmas.{started, weaker}
use Rattle.page_journal.specs.declared.disk_state.DiskState.{Ghosts}
use Rattle.page_journal.specs.declared.log_place.LogPlace.{LogPlace}
use Rattle.page_journal.specs.declared.seal_state.SealState.{SealState}
use Rattle.page_journal.specs.declared.seal_state.SealState.TheVariants.{Unsealed, Sealed, Stopped}

abbrev pub Units : Type 0
Units = List (List (List ℕ))

-- what is said of a log depends on its bytes alone
same_has : (P : List ℕ → Type 0) (c d : Files) → c.commits.log ≡ d.commits.log → HasLog P d → HasLog P c
same_has P c d is has = (has.0, is ∙ has.1, has.2)

may_find_same : (log : Option LogPlace) (began : Files) (units : Units) (doubt : List ℕ) (c d : Files) → c.commits.log ≡ d.commits.log → MayFind log began units doubt d → MayFind log began units doubt c
may_find_same None began units doubt c d is finds = is ∙ finds
may_find_same (Some place) began units doubt c d is finds = ⊎_elim
    (λ firsts. inl (⊎_elim (λ none. inl (is ∙ none)) (λ some. inr (some.0, some.1, some.2, same_has _ c d is some.3)) firsts))
    (λ more. inr (more.0, more.1, more.2, same_has _ c d is more.3))
    finds

finds_all_same : (log : Option LogPlace) (began : Files) (units : Units) (c d : Files) → c.commits.log ≡ d.commits.log → FindsAll log began units d → FindsAll log began units c
finds_all_same None began units c d is finds = is ∙ finds
finds_all_same (Some place) began units c d is finds = same_has _ c d is finds

says_all_same : (units : Units) (doubt : List ℕ) (c d : Files) → c.commits.log ≡ d.commits.log → SaysAll units doubt d → SaysAll units doubt c
says_all_same units doubt c d is says = ⊎_elim (λ same. inl (same_has _ c d is same)) (λ more. inr (more.0, more.1, more.2, same_has _ c d is more.3)) says

finds_now_same : (log : Option LogPlace) (began : Files) (units : Units) (doubt : List ℕ) (c d : Files) → c.commits.log ≡ d.commits.log → FindsNow log began units doubt d → FindsNow log began units doubt c
finds_now_same None began units doubt c d is finds = is ∙ finds
finds_now_same (Some place) began units doubt c d is finds = says_all_same units doubt c d is finds

pub commits_same : (log : Option LogPlace) (a b : Files) → a.commits ≡ b.commits → commits_in log a ≡ commits_in log b
commits_same None a b is = refl
commits_same (Some place) a b is = ap (λ (k : CommitFiles). units_before place.end k.log) is

-- what a store was opened over, with the commits that it has kept
abbrev pub opening_of : {D : Type 0} → Ghosts D → KeptStored D → Opening
opening_of g s = opened_over (g.began s.disk) s.log (commits_in s.log (g.seen s.disk)) s.doubt

pub opening_same : {D : Type 0} (g : Ghosts D) (log : Option LogPlace) (doubt : List ℕ) (old new : D) → g.began new ≡ g.began old → (g.seen new).commits ≡ (g.seen old).commits → opened_over (g.began new) log (commits_in log (g.seen new)) doubt ≡ opened_over (g.began old) log (commits_in log (g.seen old)) doubt
opening_same g log doubt old new began is = λ i. opened_over (began i) log (commits_same log (g.seen new) (g.seen old) is i) doubt

pub opening_grown : {D : Type 0} (g : Ghosts D) (old new : D) → g.began new ≡ g.began old → (log : Option LogPlace) (place next : LogPlace) → log ≡ Some place → (more commits : Units) (doubt now : List ℕ) → opened_over (g.began new) (Some next) more now ≡ record (opened_over (g.began old) log commits doubt) { commits = more; doubt = now }
opening_grown g old new began log place next is more commits doubt now = λ i. record (opened_over (began i) (sym is i) more now) { logged = is_some (sym is i) }

-- units that stand before a place are read there
pub stood : (units : Units) (place : LogPlace) (f : Files) → AreUnits units → StandsInLog units place f → commits_in (Some place) f ≡ units
stood units place f whole stand =
    ap (λ (o : Option (List ℕ)). units_before place.end o) stand.1
    ∙ ap (λ (k : List ℕ). units_of k) (stand.2 ∙ sym (append-nil (log_text units)))
    ∙ log_passes units [] whole
    ∙ append-nil units

-- the first of some units
pub whole_first : (units : Units) → AreFirst units units
whole_first units = ([], sym (append-nil units))

first_more : (first units : Units) (unit : List (List ℕ)) → AreFirst first units → AreFirst first (units ++ unit ∷ [])
first_more first units unit is = (is.0 ++ unit ∷ [], ap (λ (k : Units). k ++ unit ∷ []) is.1 ∙ append_assoc first is.0 (unit ∷ []))

says_more : (units : Units) (unit : List (List ℕ)) (c : Files) → SaysFirst units c → SaysFirst (units ++ unit ∷ []) c
says_more units unit c says = ⊎_elim (λ none. inl none) (λ some. inr (some.0, first_more some.0 units unit some.1, some.2, some.3)) says

-- units with one behind them are some
more_some : (units : Units) (unit : List (List ℕ)) → units ++ unit ∷ [] ≢ []
more_some [] unit none = absurd (cc none)
more_some (u ∷ us) unit none = absurd (cc none)

text_some : (unit : List (List ℕ)) → IsUnit unit → [] ≡ unit_text unit → ⊥
text_some [] is empty = is
text_some (line ∷ lines) is empty = absurd (omega (arith, ap length empty, length-append (line ++ 10 ∷ []) (unit_text lines), length-append line (10 ∷ [])))

no_doubt : (units : Units) (c : Files) → SaysDoubt units [] c → ⊥
no_doubt units c says = text_some says.0 says.1 says.2

pub unsealed_sure : (state : SealState) (doubt : List ℕ) → state ≡ Unsealed → DoubtStops state doubt → doubt ≡ []
unsealed_sure state doubt is sure = subst (λ s. DoubtStops s doubt) is sure

pub sealed_sure : (state : SealState) (doubt : List ℕ) → state ≡ Sealed → DoubtStops state doubt → doubt ≡ []
sealed_sure state doubt is sure = subst (λ s. DoubtStops s doubt) is sure

pub on_every : {A E : Type 0} {P : Type 0} (result : Result A E) → P → OnOk result P
on_every (Ok _) p = p
on_every (Err _) p = tt

module _ {D : Type 0} (g : Ghosts D) where
  pub alone_same : (log : Option LogPlace) (old new : D) → g.began new ≡ g.began old → BeganAlone g log old → BeganAlone g log new
  alone_same None old new began alone = tt
  alone_same (Some place) old new began alone = ap (λ (f : Files). f.commits.log) began ∙ alone

  pub ready_stands : (units : Units) (place : LogPlace) (disk : D) → IsReady g units place disk → StandsInLog units place (g.seen disk)
  ready_stands units place disk ready = (ready.seen.0, ready.seen.1, before units ready.room ready.seen.0 ready.seen.2 place.end ready.end)

  ready_says : (units : Units) (place : LogPlace) (disk : D) → IsReady g units place disk → (c : Files) → g.may_leave disk c → Says units c
  ready_says units place disk ready c left =
      let has = ready.crash c left in
      (has.0, has.1, shown_units units ready.room has.0 has.2 ready.whole ready.some)

  ready_leaves : (units : Units) (place : LogPlace) (old new : D) → LeavesLogs g old new → IsReady g units place old → IsReady g units place new
  ready_leaves units place old new leaves ready = record {
    room = ready.room;
    whole = ready.whole;
    some = ready.some;
    end = ready.end;
    long = ready.long;
    seen = same_has _ (g.seen new) (g.seen old) (ap (λ (k : CommitFiles). k.log) leaves.seen) ready.seen;
    crash = λ c left.
        let has = leaves.now c left in
        same_has _ c has.0 (ap (λ (k : CommitFiles). k.log) has.2) (ready.crash has.0 has.1);
  }

  -- a log that holds these units, and what it may have left
  logged_of : (units : Units) (place : LogPlace) (doubt : List ℕ) (disk : D) → units ≢ [] → AreUnits units → StandsInLog units place (g.seen disk) → ((c : Files) → g.may_leave disk c → SaysAll units doubt c) → (doubt ≡ [] → IsReady g units place disk) → ((c : Files) → g.left_since disk 0 c → SaysFirst units c ⊎ SaysDoubt units doubt c) → IsLogged g (Some place) doubt disk
  logged_of units place doubt disk some whole stand now ready time = record {
    holds = record { units = units; some = some; whole = whole; stand = stand; now = now; ready = ready };
    time = λ c left. subst (λ (u : Units). SaysFirst u c ⊎ SaysDoubt u doubt c) (sym (stood units place (g.seen disk) whole stand)) (time c left);
  }

  time_of : (place : LogPlace) (doubt : List ℕ) (disk : D) (logged : IsLogged g (Some place) doubt disk) (c : Files) → g.left_since disk 0 c → SaysFirst logged.holds.units c ⊎ SaysDoubt logged.holds.units doubt c
  time_of place doubt disk logged c left = subst (λ (u : Units). SaysFirst u c ⊎ SaysDoubt u doubt c) (stood logged.holds.units place (g.seen disk) logged.holds.whole logged.holds.stand) (logged.time c left)

  module _ (counts : (disk : D) (t : ℕ) (c : Files) → t ≤ g.moment disk → g.may_leave disk c → g.left_since disk t c) where
    -- calls that leave the log of commits
    leaves_time : (log : Option LogPlace) (doubt : List ℕ) (old new : D) → LeavesLogs g old new → IsLogged g log doubt old → (c : Files) → g.left_since new 0 c → MayFind log (g.began old) (commits_in log (g.seen old)) doubt c
    leaves_time log doubt old new leaves logged c left = ⊎_elim (logged.time c)
        (λ has. may_find_same log (g.began old) (commits_in log (g.seen old)) doubt c has.0 (ap (λ (k : CommitFiles). k.log) has.2) (logged.time has.0 (counts old 0 has.0 (omega arith) has.1)))
        (leaves.time.before 0 c (omega arith) left)

    holds_leaves : (log : Option LogPlace) (doubt : List ℕ) (old new : D) → LeavesLogs g old new → g.began new ≡ g.began old → HoldsCommits g log doubt old → HoldsCommits g log doubt new
    holds_leaves None doubt old new leaves began holds = ap (λ (k : CommitFiles). k.log) leaves.seen ∙ holds ∙ ap (λ (f : Files). f.commits.log) (sym began)
    holds_leaves (Some place) doubt old new leaves began holds = record {
      units = holds.units;
      some = holds.some;
      whole = holds.whole;
      stand = same_has _ (g.seen new) (g.seen old) (ap (λ (k : CommitFiles). k.log) leaves.seen) holds.stand;
      now = λ c left.
          let has = leaves.now c left in
          says_all_same holds.units doubt c has.0 (ap (λ (k : CommitFiles). k.log) has.2) (holds.now has.0 has.1);
      ready = λ none. ready_leaves holds.units place old new leaves (holds.ready none);
    }

    pub logged_leaves : (log : Option LogPlace) (doubt : List ℕ) (old new : D) → LeavesLogs g old new → g.began new ≡ g.began old → KnowsCommits g log doubt old → KnowsCommits g log doubt new
    logged_leaves log doubt old new leaves began knows alone =
        let logged = knows (alone_same log new old (sym began) alone) in
        record {
          holds = holds_leaves log doubt old new leaves began logged.holds;
          time = λ c left.
              subst (λ (b : Files). MayFind log b (commits_in log (g.seen new)) doubt c) (sym began)
              (subst (λ (u : Units). MayFind log (g.began old) u doubt c) (sym (commits_same log (g.seen new) (g.seen old) leaves.seen)) (leaves_time log doubt old new leaves logged c left));
        }

    -- what is found now, where none is in doubt
    pub finds_now : (log : Option LogPlace) (doubt : List ℕ) (disk : D) → doubt ≡ [] → IsLogged g log doubt disk → (c : Files) → g.may_leave disk c → FindsAll log (g.began disk) (commits_in log (g.seen disk)) c
    finds_now None doubt disk none logged c left = logged.time c (counts disk 0 c (omega arith) left)
    finds_now (Some place) doubt disk none logged c left =
        subst (λ (u : Units). Says u c) (sym (stood logged.holds.units place (g.seen disk) logged.holds.whole logged.holds.stand))
        (ready_says logged.holds.units place disk (logged.holds.ready none) c left)

    -- each that was kept, also after calls that leave the log
    pub all_now : (log : Option LogPlace) (doubt : List ℕ) (disk : D) → IsLogged g log doubt disk → (c : Files) → g.may_leave disk c → FindsNow log (g.began disk) (commits_in log (g.seen disk)) doubt c
    all_now None doubt disk logged c left = logged.time c (counts disk 0 c (omega arith) left)
    all_now (Some place) doubt disk logged c left =
        subst (λ (u : Units). SaysAll u doubt c) (sym (stood logged.holds.units place (g.seen disk) logged.holds.whole logged.holds.stand)) (logged.holds.now c left)

    pub all_after : (log : Option LogPlace) (doubt : List ℕ) (old new : D) → LeavesLogs g old new → IsLogged g log doubt old → (c : Files) → g.may_leave new c → FindsNow log (g.began old) (commits_in log (g.seen old)) doubt c
    all_after log doubt old new leaves logged c left =
        let has = leaves.now c left in
        finds_now_same log (g.began old) (commits_in log (g.seen old)) doubt c has.0 (ap (λ (k : CommitFiles). k.log) has.2) (all_now log doubt old logged has.0 has.1)

    pub finds_after : (log : Option LogPlace) (doubt : List ℕ) (old new : D) → doubt ≡ [] → LeavesLogs g old new → IsLogged g log doubt old → (c : Files) → g.may_leave new c → FindsAll log (g.began old) (commits_in log (g.seen old)) c
    finds_after log doubt old new none leaves logged c left =
        let has = leaves.now c left in
        finds_all_same log (g.began old) (commits_in log (g.seen old)) c has.0 (ap (λ (k : CommitFiles). k.log) has.2) (finds_now log doubt old none logged has.0 has.1)

    -- what a giving up of the old pages leaves, with what it may leave of the commits
    pub finish_commits : (log : Option LogPlace) (doubt : List ℕ) (was main : PageFile) (old new : D) → doubt ≡ [] → LeavesLogs g old new → IsLogged g log doubt old → ((c : Files) → g.left_since old 0 c → FilesStandFor was c) → ((c : Files) → g.left_since new 0 c → StandsForEither was main c) → (c : Files) → g.left_since new 0 c → LeavesWithCommits log (g.began old) (commits_in log (g.seen old)) doubt was main c
    finish_commits log doubt was main old new none leaves logged time either c left = ⊎_elim
        (λ before. inl (time c before, logged.time c before))
        (λ has.
        let at = counts old 0 has.0 (omega arith) has.1 in
        ⊎_elim
        (λ stands. inl (stands, may_find_same log (g.began old) (commits_in log (g.seen old)) doubt c has.0 (ap (λ (k : CommitFiles). k.log) has.2) (logged.time has.0 at)))
        (λ stands. inr (stands, finds_all_same log (g.began old) (commits_in log (g.seen old)) c has.0 (ap (λ (k : CommitFiles). k.log) has.2) (finds_now log doubt old none logged has.0 has.1)))
        (either c left))
        (leaves.time.before 0 c (omega arith) left)

    pub taken_commits : (log : Option LogPlace) (doubt : List ℕ) (old new : D) → LeavesLogs g old new → IsLogged g log doubt old → (c : Files) → g.left_since new 0 c → MayFind log (g.began old) (commits_in log (g.seen old)) doubt c
    taken_commits = leaves_time

    -- calls that leave all but the log of commits, of a store where nothing was written over
    stands_same : (was : PageFile) (c d : Files) → pages_of c ≡ pages_of d → FilesStandFor was d → FilesStandFor was c
    stands_same was c d is stands = subst (λ (k : PageFile × (SideFile × Option SideFile)). BelongsTo k.1.1 k.0.pages × (recovered_by k.1.1 k.0 ≡ was)) (sym is) stands

    pages_time : (was : PageFile) (old new : D) → LeavesPages g old new → ((c : Files) → g.left_since old 0 c → FilesStandFor was c) → (c : Files) → g.left_since new 0 c → FilesStandFor was c
    pages_time was old new leaves time c left = ⊎_elim (time c)
        (λ has. stands_same was c has.0 has.2 (time has.0 (counts old 0 has.0 (omega arith) has.1)))
        (leaves.time.before 0 c (omega arith) left)

    settled_leaves : (was : PageFile) (old new : D) → LeavesPages g old new → IsSettled g was old → IsSettled g was new
    settled_leaves was old new leaves settled = record {
      seen = ap (λ (k : PageFile × (SideFile × Option SideFile)). k.0) leaves.seen ∙ settled.seen;
      no_side = ap (λ (k : PageFile × (SideFile × Option SideFile)). k.1.1) leaves.seen ∙ settled.no_side;
      crash = λ c left.
          let has = leaves.now c left in
          let was = settled.crash has.0 has.1 in
          (ap (λ (k : PageFile × (SideFile × Option SideFile)). k.0) has.2 ∙ was.0, ap (λ (k : PageFile × (SideFile × Option SideFile)). k.1.1) has.2 ∙ was.1);
    }

    pub guarded_leaves : (was : PageFile) (flags : List Bool) (old new : D) → LeavesPages g old new → IsGuarded g was Unsealed flags old → IsGuarded g was Unsealed flags new
    guarded_leaves was flags old new leaves guarded = record {
      so = settled_leaves was old new leaves guarded.so;
      time = pages_time was old new leaves guarded.time;
    }

    pub stopped_leaves : (was : PageFile) (flags : List Bool) (old new : D) → LeavesPages g old new → IsGuarded g was Unsealed flags old → IsGuarded g was Stopped flags new
    stopped_leaves was flags old new leaves guarded = record {
      so = ap (λ (k : PageFile × (SideFile × Option SideFile)). k.0) leaves.seen ∙ guarded.so.seen;
      time = pages_time was old new leaves guarded.time;
    }

    pub begun_time : (was : PageFile) (flags : List Bool) (old new : D) → LeavesPages g old new → IsGuarded g was Unsealed flags old → (c : Files) → g.left_since new 0 c → FilesStandFor was c
    begun_time was flags old new leaves guarded = pages_time was old new leaves guarded.time

    -- a log is begun
    pub no_log : (doubt : List ℕ) (old : D) → (g.began old).commits.log ≡ None → IsLogged g None doubt old → HasNoLog g old
    no_log doubt old none logged = record { seen = logged.holds ∙ none; crash = λ c left. logged.time c (counts old 0 c (omega arith) left) ∙ none }

    pub none_logged : (log : Option LogPlace) (doubt : List ℕ) (old : D) → log ≡ None → (g.began old).commits.log ≡ None → IsLogged g log doubt old → HasNoLog g old
    none_logged log doubt old unlogged none logged = no_log doubt old none (subst (λ l. IsLogged g l doubt old) unlogged logged)

    begun_finds : (unit : List (List ℕ)) (old new : D) (doubt : List ℕ) → (g.began old).commits.log ≡ None → IsLogged g None doubt old → LeavesOnly g (SaysNoneOr (unit ∷ [])) old new → (c : Files) → g.left_since new 0 c → SaysNoneOr (unit ∷ []) c
    begun_finds unit old new doubt none logged moment c left = ⊎_elim (λ was. inl (logged.time c was ∙ none)) (λ says. says) (moment.before 0 c (omega arith) left)

    pub stopped_finds : (unit : List (List ℕ)) (old new : D) (doubt : List ℕ) → (g.began old).commits.log ≡ None → IsLogged g None doubt old → LeavesOnly g (SaysNoneOr (unit ∷ [])) old new → (c : Files) → g.left_since new 0 c → SaysNoneOr (unit ∷ []) c
    stopped_finds = begun_finds

    pub begun_logged : (unit : List (List ℕ)) (place : LogPlace) (old new : D) (doubt : List ℕ) → (g.began old).commits.log ≡ None → IsLogged g None doubt old → LeavesOnly g (SaysNoneOr (unit ∷ [])) old new → IsReady g (unit ∷ []) place new → IsLogged g (Some place) doubt new
    begun_logged unit place old new doubt none logged moment ready =
        logged_of (unit ∷ []) place doubt new (more_some [] unit) ready.whole (ready_stands (unit ∷ []) place new ready) (λ c left. inl (ready_says (unit ∷ []) place new ready c left)) (λ _. ready)
        (λ c left. inl (⊎_elim (λ gone. inl gone) (λ says. inr (unit ∷ [], whole_first (unit ∷ []), more_some [] unit, says)) (begun_finds unit old new doubt none logged moment c left)))

    -- a commit is kept, has no room, or is in doubt
    module _ (place next : LogPlace) (old new : D) (logged : IsLogged g (Some place) [] old) where
      abbrev held : Units
      held = logged.holds.units

      was_first : (c : Files) → g.left_since old 0 c → SaysFirst held c
      was_first c left = ⊎_elim (λ says. says) (λ more. absurd (no_doubt held c more)) (time_of place [] old logged c left)

      pub kept_logged : (unit : List (List ℕ)) → IsReady g (held ++ unit ∷ []) next new → LeavesOnly g (SaysEither held unit) old new → IsLogged g (Some next) [] new
      kept_logged unit ready moment =
          logged_of (held ++ unit ∷ []) next [] new (more_some held unit) ready.whole (ready_stands (held ++ unit ∷ []) next new ready) (λ c left. inl (ready_says (held ++ unit ∷ []) next new ready c left)) (λ _. ready)
          (λ c left. inl (⊎_elim
          (λ was. says_more held unit c (was_first c was))
          (λ says. ⊎_elim (λ same. inr (held, (unit ∷ [], refl), logged.holds.some, same)) (λ more. inr (held ++ unit ∷ [], whole_first (held ++ unit ∷ []), more_some held unit, more)) says)
          (moment.before 0 c (omega arith) left)))

      pub kept_commits : (unit : List (List ℕ)) → IsReady g (held ++ unit ∷ []) next new → commits_in (Some next) (g.seen new) ≡ commits_in (Some place) (g.seen old) ++ unit ∷ []
      kept_commits unit ready =
          stood (held ++ unit ∷ []) next (g.seen new) ready.whole (ready_stands (held ++ unit ∷ []) next new ready)
          ∙ ap (λ (u : Units). u ++ unit ∷ []) (sym (stood held place (g.seen old) logged.holds.whole logged.holds.stand))

      pub room_logged : IsReady g held next new → LeavesOnly g (Says held) old new → IsLogged g (Some next) [] new
      room_logged ready moment =
          logged_of held next [] new logged.holds.some ready.whole (ready_stands held next new ready) (λ c left. inl (ready_says held next new ready c left)) (λ _. ready)
          (λ c left. inl (⊎_elim (was_first c) (λ says. inr (held, whole_first held, logged.holds.some, says)) (moment.before 0 c (omega arith) left)))

      pub same_commits : StandsInLog held next (g.seen new) → commits_in (Some next) (g.seen new) ≡ commits_in (Some place) (g.seen old)
      same_commits stand =
          stood held next (g.seen new) logged.holds.whole stand
          ∙ sym (stood held place (g.seen old) logged.holds.whole logged.holds.stand)

      pub doubt_logged : (unit : List (List ℕ)) (text : List ℕ) → IsUnit unit → text ≡ unit_text unit → StandsInLog held next (g.seen new) → LeavesOnly g (SaysEither held unit) old new → IsLogged g (Some next) text new
      doubt_logged unit text is spelt stand moment =
          logged_of held next text new logged.holds.some logged.holds.whole stand (λ c left. ⊎_elim (λ same. inl same) (λ more. inr (unit, is, spelt, more)) (moment.each c (counts new (g.moment old) c moment.later left))) (λ empty. absurd (text_some unit is (sym empty ∙ spelt)))
          (λ c left. ⊎_elim
          (λ was. inl (was_first c was))
          (λ says. ⊎_elim (λ same. inl (inr (held, whole_first held, logged.holds.some, same))) (λ more. inr (unit, is, spelt, more)) says)
          (moment.before 0 c (omega arith) left))

    -- of a store, whole: what guards its pages after a call on the log alone, and after a commit in doubt
    pub kept_guard : (state : SealState) (flags : List Bool) (old new : D) → state ≡ Unsealed → g.began new ≡ g.began old → LeavesPages g old new → IsGuarded g (old_file_of g old) state flags old → IsGuarded g (old_file_of g new) state flags new
    kept_guard state flags old new is began pages guarded = subst (λ s. IsGuarded g (old_file_of g new) s flags new) (sym is) (same_guard g Unsealed flags old new new began (guarded_leaves (old_file_of g old) flags old new pages (subst (λ s. IsGuarded g (old_file_of g old) s flags old) is guarded)))

    pub begin_all : (log : Option LogPlace) (doubt : List ℕ) (place : LogPlace) (old new : D) (unit : List (List ℕ)) → log ≡ None → g.began new ≡ g.began old → (HasNoLog g old → LeavesOnly g (SaysNoneOr (unit ∷ [])) old new) → (HasNoLog g old → IsReady g (unit ∷ []) place new) → KnowsCommits g log doubt old → KnowsCommits g (Some place) doubt new
    begin_all log doubt place old new unit unlogged began moment ready knows alone =
        let logged = subst (λ l. KnowsCommits g l doubt old) unlogged knows tt in
        let none : (g.began old).commits.log ≡ None = ap (λ (f : Files). f.commits.log) (sym began) ∙ alone in
        let clear = no_log doubt old none logged in
        begun_logged unit place old new doubt none logged (moment clear) (ready clear)

    pub begin_stops : (state : SealState) (flags : List Bool) (old new : D) → state ≡ Unsealed → LeavesPages g old new → IsGuarded g (old_file_of g old) state flags old → (c : Files) → g.left_since new 0 c → FilesStandFor (old_file_of g old) c
    begin_stops state flags old new is pages guarded = begun_time (old_file_of g old) flags old new pages (subst (λ s. IsGuarded g (old_file_of g old) s flags old) is guarded)

    pub begin_says : (log : Option LogPlace) (doubt : List ℕ) (old new : D) (unit : List (List ℕ)) → log ≡ None → (g.began old).commits.log ≡ None → (HasNoLog g old → LeavesOnly g (SaysNoneOr (unit ∷ [])) old new) → KnowsCommits g log doubt old → (c : Files) → g.left_since new 0 c → SaysNoneOr (unit ∷ []) c
    begin_says log doubt old new unit unlogged none moment knows =
        let logged = subst (λ l. KnowsCommits g l doubt old) unlogged knows tt in
        begun_finds unit old new doubt none logged (moment (no_log doubt old none logged))

    pub doubt_guard : (state : SealState) (flags : List Bool) (old new : D) → state ≡ Unsealed → g.began new ≡ g.began old → LeavesPages g old new → IsGuarded g (old_file_of g old) state flags old → IsGuarded g (old_file_of g new) Stopped flags new
    doubt_guard state flags old new is began pages guarded = same_guard g Stopped flags old new new began (stopped_leaves (old_file_of g old) flags old new pages (subst (λ s. IsGuarded g (old_file_of g old) s flags old) is guarded))

    module _ (state : SealState) (doubt : List ℕ) (place next : LogPlace) (old new : D) (is : state ≡ Unsealed) (was : IsLogged g (Some place) doubt old) (stops : DoubtStops state doubt) where
      pub sure : doubt ≡ []
      sure = unsealed_sure state doubt is stops

      pub logged : IsLogged g (Some place) [] old
      logged = subst (λ t. IsLogged g (Some place) t old) sure was

      pub keep_all : (unit : List (List ℕ)) → ((units : Units) → IsReady g units place old → IsReady g (units ++ unit ∷ []) next new) → ((units : Units) → IsReady g units place old → LeavesOnly g (SaysEither units unit) old new) → IsLogged g (Some next) doubt new
      keep_all unit ready moment = subst (λ t. IsLogged g (Some next) t new) (sym sure) (kept_logged place next old new logged unit (ready logged.holds.units (logged.holds.ready refl)) (moment logged.holds.units (logged.holds.ready refl)))

      pub keep_told : (unit : List (List ℕ)) → ((units : Units) → IsReady g units place old → IsReady g (units ++ unit ∷ []) next new) → commits_in (Some next) (g.seen new) ≡ commits_in (Some place) (g.seen old) ++ unit ∷ []
      keep_told unit ready = kept_commits place next old new logged unit (ready logged.holds.units (logged.holds.ready refl))

      -- at each moment of it a crash leaves every commit that was kept, and perhaps this one
      pub keep_moment : (unit : List (List ℕ)) (text : List ℕ) → IsUnit unit → text ≡ unit_text unit → ((units : Units) → IsReady g units place old → LeavesOnly g (SaysEither units unit) old new) → LeavesOnly g (FindsNow (Some place) (g.began old) (commits_in (Some place) (g.seen old)) text) old new
      keep_moment unit text is_unit spelt moment =
          let units = logged.holds.units in
          let are : commits_in (Some place) (g.seen old) ≡ units = stood units place (g.seen old) logged.holds.whole logged.holds.stand in
          subst (λ (us : Units). LeavesOnly g (SaysAll us text) old new) (sym are)
          (weaker g (SaysEither units unit) (SaysAll units text) old new (λ c says. ⊎_elim (λ all. inl all) (λ more. inr (unit, is_unit, spelt, more)) says) (moment units (logged.holds.ready refl)))

      pub room_all : ((units : Units) → IsReady g units place old → IsReady g units next new × LeavesOnly g (Says units) old new) → IsLogged g (Some next) doubt new
      room_all room =
          let had = room logged.holds.units (logged.holds.ready refl) in
          subst (λ t. IsLogged g (Some next) t new) (sym sure) (room_logged place next old new logged had.0 had.1)

      pub room_told : ((units : Units) → IsReady g units place old → IsReady g units next new × LeavesOnly g (Says units) old new) → commits_in (Some next) (g.seen new) ≡ commits_in (Some place) (g.seen old)
      room_told room =
          let had = room logged.holds.units (logged.holds.ready refl) in
          same_commits place next old new logged (ready_stands logged.holds.units next new had.0)

      pub doubt_all : (unit : List (List ℕ)) (text : List ℕ) → IsUnit unit → text ≡ unit_text unit → ((units : Units) → IsReady g units place old → StandsInLog units next (g.seen new)) → ((units : Units) → IsReady g units place old → LeavesOnly g (SaysEither units unit) old new) → IsLogged g (Some next) text new
      doubt_all unit text is_unit spelt stand moment = doubt_logged place next old new logged unit text is_unit spelt (stand logged.holds.units (logged.holds.ready refl)) (moment logged.holds.units (logged.holds.ready refl))

      pub doubt_told : ((units : Units) → IsReady g units place old → StandsInLog units next (g.seen new)) → commits_in (Some next) (g.seen new) ≡ commits_in (Some place) (g.seen old)
      doubt_told stand = same_commits place next old new logged (stand logged.holds.units (logged.holds.ready refl))

    -- where there is no log, and no call
    pub none_moment : (log : Option LogPlace) (doubt text : List ℕ) (old : D) → ((c : Files) → g.left_since old (g.moment old) c → g.may_leave old c) → log ≡ None → IsLogged g log doubt old → LeavesOnly g (FindsNow log (g.began old) (commits_in log (g.seen old)) text) old old
    none_moment None doubt text old only none logged = started g (FindsNow None (g.began old) (commits_in None (g.seen old)) text) old only (λ c left. all_now None doubt old logged c left)
    none_moment (Some place) doubt text old only none logged = absurd (cc)

    -- a disk that was just opened
    pub opened_time : (old new : D) → g.moment old ≡ 0 → ((c : Files) → g.left_since old (g.moment old) c → g.may_leave old c) → ((c : Files) → g.may_leave old c → c.commits.log ≡ (g.seen old).commits.log) → g.seen old ≡ g.began old → g.began new ≡ g.began old → LeavesLogs g old new → (c : Files) → g.left_since new 0 c → c.commits.log ≡ (g.began new).commits.log
    opened_time old new first only rest began same leaves c left = ⊎_elim
        (λ was. rest c (only c (subst (λ t. g.left_since old t c) (sym first) was)))
        (λ has. ap (λ (k : CommitFiles). k.log) has.2 ∙ rest has.0 has.1)
        (leaves.time.before 0 c (omega arith) left)
        ∙ ap (λ (f : Files). f.commits.log) (began ∙ sym same)
