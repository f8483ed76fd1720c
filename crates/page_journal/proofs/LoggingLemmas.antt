-- What the calls of a disk make of a log that is ready.
use Rattle.std.proofs.Common.{◌≡◌, ◌⊎◌, inl, inr, ⊎_elim, ℕ, ◌+◌, ◌-◌, ◌<◌, ◌≤◌, Bool, true, is_some, List, [], ◌∷◌, ◌++◌, length, take, drop, Option, Some, None, option_map, Result, Ok, Err, OnErr, refl, sym, ◌∙◌, ap, subst, arith, append_assoc}
use Rattle.std.proofs.lemmas.Bool.{false≢true}
use Rattle.std.proofs.lemmas.List.{append-nil, take_at}
use Rattle.std.proofs.lemmas.Option.{none-some}
use Rattle.commit_paper.specs.Text.{zeros, unit_text, log_text, IsUnit}
use Rattle.commit_paper.specs.Shown.{Shows}
use Rattle.commit_paper.specs.Steps.{Lengthens, Inks}
use Rattle.commit_paper.proofs.Shown.{shown_units, before, torn_longer, longer, torn_ink, inked, more_units, more_end}
use Rattle.page_journal.specs.Files.{CommitFiles, Files}
use Rattle.page_journal.specs.Steps.{Does, Stays, InCommits, FreshLog, NamesLog, ChangesLog, OnLog, KeepsLog, names_of, bytes_over, zeroed}
use Rattle.page_journal.specs.Crash.{LeavesOnly, LeavesPages, pages_of}
use Rattle.page_journal.specs.Logging.{HasLog, HasNoLog, Says, SaysEither, SaysNoneOr, StandsInLog, IsReady}
use Rattle.page_journal.specs.declared.disk_state.DiskState.{Ghosts}
use Rattle.page_journal.specs.declared.log_place.LogPlace.{LogPlace}
use Rattle.page_journal.proofs.MomentLemmas.{started, goes_on}
use Rattle.page_journal.proofs.LogLemmas.{part_begin, part_more, part_stays}

pub on_each : {A E : Type 0} {P : Type 0} (result : Result A E) → P → OnErr result P
on_each (Ok _) p = tt
on_each (Err _) p = p

-- a step of a log that is there
on_bytes : (step : List ℕ → List ℕ → Type 0) (d c : Files) (bytes : List ℕ) → d.commits.log ≡ Some bytes → InCommits (ChangesLog step) d c → (new : List ℕ) × (c.commits.log ≡ Some new) × step bytes new
on_bytes step d c bytes is does = subst (λ (o : Option (List ℕ)). OnLog step o c.commits.log) is does.commits.1

carried : (P Q : List ℕ → Type 0) (step : List ℕ → List ℕ → Type 0) → ((b n : List ℕ) → P b → step b n → Q n) → (d c : Files) → HasLog P d → InCommits (ChangesLog step) d c → HasLog Q c
carried P Q step to d c has does =
    let on = on_bytes step d c has.0 has.1 does in
    (on.0, on.1, to has.0 on.0 has.2 on.2)

-- and one that is done
made : (P Q : List ℕ → Type 0) (f : List ℕ → List ℕ) → ((b : List ℕ) → P b → Q (f b)) → (d c : Files) → HasLog P d → c.commits.log ≡ option_map f d.commits.log → HasLog Q c
made P Q f to d c has is = (f has.0, is ∙ ap (option_map f) has.1, to has.0 has.2)

-- the same bytes
same_log_bytes : (P : List ℕ → Type 0) (d c : Files) → HasLog P d → c.commits.log ≡ d.commits.log → HasLog P c
same_log_bytes P d c has is = (has.0, is ∙ has.1, has.2)

-- what the device keeps of a log that is there
kept_log : (P Q : List ℕ → Type 0) (seen c : Files) → HasLog P seen → HasLog Q c → KeepsLog seen.commits c.commits → HasLog P c
kept_log P Q seen c has there keeps = ⊎_elim
    (λ none. absurd (none-some there.0 (sym none ∙ there.1)))
    (λ is. same_log_bytes P seen c has is)
    keeps

pub in_commits_pages : (step : CommitFiles → CommitFiles → Type 0) (d c : Files) → InCommits step d c → pages_of c ≡ pages_of d
in_commits_pages step d c does = λ i. (does.main i, (does.fresh i, does.side i))

module _ {D : Type 0} (g : Ghosts D) where
  -- all else stays
  pub pages_one : (step : CommitFiles → CommitFiles → Type 0) (old new : D) → ((c : Files) → g.left_since old (g.moment old) c → g.may_leave old c) → Does g (InCommits step) old new → LeavesPages g old new
  pages_one step old new only does = part_more g pages_of (InCommits step) old old new (in_commits_pages step) (part_begin g pages_of old only) does

  pub pages_two : (step : CommitFiles → CommitFiles → Type 0) (old mid new : D) → ((c : Files) → g.left_since old (g.moment old) c → g.may_leave old c) → Does g (InCommits step) old mid → Stays g mid new → LeavesPages g old new
  pages_two step old mid new only does stays = part_stays g pages_of old mid new (pages_one step old mid only does) stays

  module _ (units : List (List (List ℕ))) (place : LogPlace) (old : D) (ready : IsReady g units place old) where
    says_ready : (c : Files) → HasLog (Shows units ready.room) c → Says units c
    says_ready c has = (has.0, has.1, shown_units units ready.room has.0 has.2 ready.whole ready.some)

    -- it stays so where nothing changes
    pub ready_stays : (new : D) → Stays g old new → IsReady g units place new
    ready_stays new does = record {
      room = ready.room;
      whole = ready.whole;
      some = ready.some;
      end = ready.end;
      long = ready.long;
      seen = subst (λ f. HasLog (Shows units ready.room) f) (sym does.seen) ready.seen;
      crash = λ c left.
          let from = does.crash c left in
          subst (λ f. HasLog (Shows units ready.room) f) (sym from.2) (ready.crash from.0 from.1);
    }

    -- before anything is done
    pub says_begin : ((c : Files) → g.left_since old (g.moment old) c → g.may_leave old c) → LeavesOnly g (Says units) old old
    says_begin only = started g (Says units) old only (λ c left. says_ready c (ready.crash c left))

    -- the log is made longer, or that was begun
    module _ (n : ℕ) (mid : D) (does : Does g (InCommits (ChangesLog (Lengthens place.long))) old mid) where
      longer_torn : (b c : List ℕ) → Shows units ready.room b → Lengthens place.long b c → Shows units ready.room c
      longer_torn = torn_longer units ready.room place.end place.long ready.end ready.long

      torn_there : (c : Files) → g.may_leave mid c → HasLog (Shows units ready.room) c
      torn_there c left =
          let from = does.crash c left in
          carried (Shows units ready.room) (Shows units ready.room) (Lengthens place.long) longer_torn from.0 c (ready.crash from.0 from.1) from.2

      pub ready_torn : IsReady g units place mid
      ready_torn = record {
        room = ready.room;
        whole = ready.whole;
        some = ready.some;
        end = ready.end;
        long = ready.long;
        seen = carried (Shows units ready.room) (Shows units ready.room) (Lengthens place.long) longer_torn (g.seen old) (g.seen mid) ready.seen does.seen;
        crash = torn_there;
      }

      pub says_torn : ((c : Files) → g.left_since old (g.moment old) c → g.may_leave old c) → LeavesOnly g (Says units) old mid
      says_torn only = goes_on g (Says units) _ old old mid (says_begin only) does (λ c left. says_ready c (torn_there c left))

      pub says_longer : ((c : Files) → g.left_since old (g.moment old) c → g.may_leave old c) → (new : D) → Stays g mid new → LeavesOnly g (Says units) old new
      says_longer only new stays = goes_on g (Says units) _ old mid new (says_torn only) stays (λ c left.
          let from = stays.crash c left in
          subst (Says units) (sym from.2) (says_ready from.0 (torn_there from.0 from.1)))

      pub ready_longer : (new : D) → (g.seen mid).commits.log ≡ option_map (zeroed place.long n) (g.seen old).commits.log → Stays g mid new → ((c : Files) → g.may_leave new c → KeepsLog (g.seen mid).commits c.commits) → (more : ℕ) → more ≡ place.long + n → IsReady g units (record { end = place.end; long = more }) new
      ready_longer new is stays keeps more long =
          let there : HasLog (Shows units (ready.room + n)) (g.seen mid) = made (Shows units ready.room) (Shows units (ready.room + n)) (zeroed place.long n) (λ b shows. longer units ready.room place.end place.long ready.end ready.long n b (zeroed place.long n b) shows refl) (g.seen old) (g.seen mid) ready.seen is in
          record {
            room = ready.room + n;
            whole = ready.whole;
            some = omega (arith, ready.some);
            end = ready.end;
            long = omega (arith, ready.long, long);
            seen = subst (λ f. HasLog (Shows units (ready.room + n)) f) (sym stays.seen) there;
            crash = λ c left.
                let from = stays.crash c left in
                kept_log (Shows units (ready.room + n)) (Shows units ready.room) (g.seen mid) c there (subst (λ f. HasLog (Shows units ready.room) f) (sym from.2) (torn_there from.0 from.1)) (keeps c left);
          }

    -- bytes are written behind the units, or that was begun
    module _ (text : List ℕ) (mid : D) (does : Does g (InCommits (ChangesLog (Inks place.end text))) old mid) where
      -- the units stay in front of it
      pub ink_stands : StandsInLog units place (g.seen mid)
      ink_stands = carried (Shows units ready.room) (λ b. take place.end b ≡ log_text units) (Inks place.end text) (λ b n shows inks. in_front b n shows inks) (g.seen old) (g.seen mid) ready.seen does.seen
        where
          in_front : (b n : List ℕ) → Shows units ready.room b → Inks place.end text b n → take place.end n ≡ log_text units
          in_front b n shows inks =
              let was : take place.end b ≡ log_text units = before units ready.room b shows place.end ready.end in
              ap (λ (k : List ℕ). take place.end k) (inks.spelt ∙ append_assoc (take place.end b) inks.mixed (drop (place.end + length text) b))
              ∙ take_at (take place.end b) (inks.mixed ++ drop (place.end + length text) b) place.end (ap length was ∙ sym ready.end)
              ∙ was

      pub stands_synced : (new : D) → Stays g mid new → StandsInLog units place (g.seen new)
      stands_synced new stays = subst (λ f. StandsInLog units place f) (sym stays.seen) ink_stands

    -- a unit is written, or that was begun
    module _ (unit : List (List ℕ)) (text : List ℕ) (is : IsUnit unit) (spelt : text ≡ unit_text unit) (fits : length text < ready.room) (mid : D) (does : Does g (InCommits (ChangesLog (Inks place.end text))) old mid) where
      ink_torn : (c : Files) → g.may_leave mid c → SaysEither units unit c
      ink_torn c left =
          let from = does.crash c left in
          let had = ready.crash from.0 from.1 in
          let on = on_bytes (Inks place.end text) from.0 c had.0 had.1 from.2 in
          ⊎_elim (λ none. inl (on.0, on.1, none)) (λ more. inr (on.0, on.1, more)) (torn_ink units unit ready.room place.end text ready.whole is spelt ready.end fits had.0 on.0 had.2 on.2)

      ink_there : (c : Files) → g.may_leave mid c → HasLog (λ b. List ℕ) c
      ink_there c left =
          let from = does.crash c left in
          carried (Shows units ready.room) (λ b. List ℕ) (Inks place.end text) (λ b n shows inks. b) from.0 c (ready.crash from.0 from.1) from.2

      pub says_inked : ((c : Files) → g.left_since old (g.moment old) c → g.may_leave old c) → LeavesOnly g (SaysEither units unit) old mid
      says_inked only = goes_on g (SaysEither units unit) _ old old mid (started g (SaysEither units unit) old only (λ c left. inl (says_ready c (ready.crash c left)))) does ink_torn

      pub says_synced : ((c : Files) → g.left_since old (g.moment old) c → g.may_leave old c) → (new : D) → Stays g mid new → LeavesOnly g (SaysEither units unit) old new
      says_synced only new stays = goes_on g (SaysEither units unit) _ old mid new (says_inked only) stays (λ c left.
          let from = stays.crash c left in
          subst (SaysEither units unit) (sym from.2) (ink_torn from.0 from.1))

      pub ready_more : (new : D) → (g.seen mid).commits.log ≡ option_map (bytes_over place.end text) (g.seen old).commits.log → Stays g mid new → ((c : Files) → g.may_leave new c → KeepsLog (g.seen mid).commits c.commits) → (end : ℕ) → end ≡ place.end + length text → IsReady g (units ++ unit ∷ []) (record { end = end; long = place.long }) new
      ready_more new done stays keeps end ends =
          let more = units ++ unit ∷ [] in
          let room = ready.room - length text in
          let there : HasLog (Shows more room) (g.seen mid) = made (Shows units ready.room) (Shows more room) (bytes_over place.end text) (λ b shows. inked units unit ready.room place.end text ready.whole is spelt ready.end fits b (bytes_over place.end text b) shows refl) (g.seen old) (g.seen mid) ready.seen done in
          record {
            room = room;
            whole = more_units units unit ready.room place.end text ready.whole is spelt ready.end fits;
            some = omega (arith, fits);
            end = ends ∙ more_end units unit ready.room place.end text ready.whole is spelt ready.end fits;
            long = omega (arith, fits, ready.long, ends);
            seen = subst (λ f. HasLog (Shows more room) f) (sym stays.seen) there;
            crash = λ c left.
                let from = stays.crash c left in
                kept_log (Shows more room) (λ b. List ℕ) (g.seen mid) c there (subst (λ f. HasLog (λ b. List ℕ) f) (sym from.2) (ink_there from.0 from.1)) (keeps c left);
          }

-- a log that was named, or wasn't
named_or_none : (P : List ℕ → Type 0) (log : Option (List ℕ)) (bytes : List ℕ) → (log ≡ None) ⊎ (log ≡ Some bytes) → is_some log ≡ true → log ≡ Some bytes
named_or_none P log bytes (inl none) there = absurd (false≢true (sym (ap is_some none) ∙ there))
named_or_none P log bytes (inr some) there = some

module _ {D : Type 0} (g : Ghosts D) (unit : List (List ℕ)) (head : List ℕ) (room : ℕ) (is : IsUnit unit) (spelt : head ≡ unit_text unit) (some : 1 ≤ room) where
  abbrev first : List ℕ
  first = head ++ zeros room

  one_shown : Shows (unit ∷ []) room first
  one_shown = record { junk = []; spelt = ap (λ (k : List ℕ). k ++ zeros room) (spelt ∙ sym (append-nil (unit_text unit))) ∙ sym (append-nil ((unit_text unit ++ []) ++ zeros room)) }

  first_says : (c : Files) → c.commits.log ≡ Some first → Says (unit ∷ []) c
  first_says c at = (first, at, shown_units (unit ∷ []) room first one_shown (is, tt) some)

  module _ (old : D) (only : (c : Files) → g.left_since old (g.moment old) c → g.may_leave old c) (none : HasNoLog g old) where
    begun_none : LeavesOnly g (SaysNoneOr (unit ∷ [])) old old
    begun_none = started g (SaysNoneOr (unit ∷ [])) old only (λ c left. inl (none.crash c left))

    module _ (mid : D) (starts : Does g (InCommits FreshLog) old mid) where
      mid_none : (c : Files) → g.may_leave mid c → c.commits.log ≡ None
      mid_none c left =
          let from = starts.crash c left in
          from.2.commits ∙ none.crash from.0 from.1

      pub started_log : LeavesOnly g (SaysNoneOr (unit ∷ [])) old mid
      started_log = goes_on g (SaysNoneOr (unit ∷ [])) _ old old mid begun_none starts (λ c left. inl (mid_none c left))

      module _ (kept : D) (stays : Stays g mid kept) where
        kept_none : (c : Files) → g.may_leave kept c → c.commits.log ≡ None
        kept_none c left =
            let from = stays.crash c left in
            ap (λ (f : Files). f.commits.log) from.2 ∙ mid_none from.0 from.1

        pub kept_start : LeavesOnly g (SaysNoneOr (unit ∷ [])) old kept
        kept_start = goes_on g (SaysNoneOr (unit ∷ [])) _ old mid kept started_log stays (λ c left. inl (kept_none c left))

        module _ (made : (g.seen mid).commits.fresh ≡ first) (durable : (c : Files) → g.may_leave kept c → c.commits.fresh ≡ (g.seen mid).commits.fresh) (named : D) (names : Does g (InCommits NamesLog) kept named) where
          named_log : (c : Files) → g.may_leave named c → (c.commits.log ≡ None) ⊎ (c.commits.log ≡ Some first)
          named_log c left =
              let from = names.crash c left in
              ⊎_elim (λ stays. inl (stays ∙ kept_none from.0 from.1)) (λ now. inr (now ∙ ap (λ (b : List ℕ). Some b) (durable from.0 from.1 ∙ made))) from.2.commits

          says_named : (c : Files) → g.may_leave named c → SaysNoneOr (unit ∷ []) c
          says_named c left = ⊎_elim (λ none. inl none) (λ at. inr (first_says c at)) (named_log c left)

          pub name_start : LeavesOnly g (SaysNoneOr (unit ∷ [])) old named
          name_start = goes_on g (SaysNoneOr (unit ∷ [])) _ old kept named kept_start names says_named

          module _ (last : D) (ends : Stays g named last) where
            pub end_start : LeavesOnly g (SaysNoneOr (unit ∷ [])) old last
            end_start = goes_on g (SaysNoneOr (unit ∷ [])) _ old named last name_start ends (λ c left.
                let from = ends.crash c left in
                subst (SaysNoneOr (unit ∷ [])) (sym from.2) (says_named from.0 from.1))

            pub ready_start : (g.seen named).commits.log ≡ Some (g.seen kept).commits.fresh → ((c : Files) → g.may_leave last c → names_of c ≡ names_of (g.seen named)) → (place : LogPlace) → place.end ≡ length head → place.long ≡ length head + room → IsReady g (unit ∷ []) place last
            ready_start is_named keeps place ends_at longs =
                let there : (g.seen named).commits.log ≡ Some first = is_named ∙ ap (λ (b : List ℕ). Some b) (ap (λ (f : Files). f.commits.fresh) stays.seen ∙ made) in
                record {
                  room = room;
                  whole = (is, tt);
                  some = some;
                  end = ends_at ∙ ap length (spelt ∙ sym (append-nil (unit_text unit)));
                  long = omega (arith, ends_at, longs);
                  seen = (first, ap (λ (f : Files). f.commits.log) ends.seen ∙ there, one_shown);
                  crash = λ c left.
                      let from = ends.crash c left in
                      let has = named_log from.0 from.1 in
                      let log = subst (λ f. (f.commits.log ≡ None) ⊎ (f.commits.log ≡ Some first)) (sym from.2) has in
                      (first, named_or_none (Shows (unit ∷ []) room) c.commits.log first log (ap (λ (b : Bool × Bool). b.1) (keeps c left) ∙ ap is_some there), one_shown);
                }
