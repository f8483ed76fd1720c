-- What an opening finds after a stop of a session whose commits are kept before they are answered.
use Rattle.std.proofs.Common.{◌≡◌, ◌≢◌, ◌⊎◌, ⊎_elim, inl, inr, ℕ, ◌≤◌, Bool, true, false, cond, not, ◌&&◌, List, [], ◌∷◌, ◌++◌, length, Option, None, IsTrue, append_assoc, refl, sym, ap, subst, ◌∙◌, arith}
use Rattle.std.specs.FinMap as maps
use Rattle.std.proofs.lemmas.List.{append-nil}
use Rattle.std.proofs.lemmas.List.Elements.{All-append, All-nil}
use Rattle.std.specs.List.{All}
use Rattle.rec_types.specs.Contents.{Contents, write_to}
use Rattle.rec_types.specs.LimitBounds.{Bounds}
use Rattle.rec_types.specs.History.{Change, applied, replay}
use Rattle.commit_paper.specs.Text.{units_of, unit_text, log_text, IsUnit}
use Rattle.commit_paper.proofs.Scans.{log_passes}
use Rattle.page_store.specs.Opening.{Opening}
use Rattle.page_journal.specs.Files.{PageFile, Files, Belongs, recovered}
use Rattle.page_journal.specs.Logging.{Says, SaysNoneOr}
use Rattle.page_journal.specs.LoggedStores.{AreFirst, SaysAll, SaysDoubt, SaysFirst}
use Rattle.command_text.specs.Grammar.{Read}
use Rattle.command_text.specs.Script.{entries_in}
use Rattle.command_text.specs.Units.{Write, unit_commands, unit_lines}
use Rattle.command_text.specs.declared.command.Command.{Command}
use Rattle.record_file.specs.Abstract.{File, charged_of, new_file}
use Rattle.record_file.specs.Durable.{CommitsKept, committed, ended, overlay}
use Rattle.record_file.specs.Runs.{Event, Seen}
use Rattle.record_file.proofs.CommitLemmas.{start_commits}
use Rattle.file_session.specs.Beside.{FindsEach, FindsSome, FindsWhole, LeavesEnded, LeavesOpening, LosesNone}
use Rattle.recfile.specs.DurableSession.{FindsCommits, FindsEachCommit, AreFirstCommits}
use Rattle.file_session.specs.Beginning.{IsBegunBeside, LeavesUnread}
use Rattle.page_journal.specs.Crash.{FilesStandFor}
use Rattle.recfile.specs.Ending.{rest_of}
use Rattle.file_session.specs.Closing.{opening_file}
use Rattle.file_session.specs.LogKeeping.{SaysWrites}
use Rattle.file_session.specs.LogOver.{Finds, FindsLog, HoldsRecords, IsLogOver, head_line, said_by}
use Rattle.file_session.specs.Overlaid.{IsLogCommand, SayWrites, writes_in_turn}
use Rattle.file_session.proofs.LogLemmas.{log_writes, unit_logged}
use Rattle.file_session.proofs.LogOverLemmas.{over_again}

abbrev Units : Type 0
Units = List (List (List ℕ))

-- changes of transactions that haven't ended make no difference once the live ones are taken back
pub rest_ended : (m : Contents) (f : ℕ → Bool) (h : List Change) → replay m (rest_of f h) ≡ replay m (ended f h)
rest_ended m f [] = refl
rest_ended m f (c ∷ h) = at (f c.tx) c.live refl refl (rest_ended m f h) (rest_ended (applied c m) f h)
  where
    none : (b : Bool) → (b && false) ≡ false
    none true = refl
    none false = refl

    at : (opened live : Bool) → f c.tx ≡ opened → c.live ≡ live → replay m (rest_of f h) ≡ replay m (ended f h) → replay (applied c m) (rest_of f h) ≡ replay (applied c m) (ended f h) → replay m (rest_of f (c ∷ h)) ≡ replay m (ended f (c ∷ h))
    at true true is live without with =
        ap (λ b. replay m (cond (not b) (c ∷ rest_of f h) (rest_of f h))) (λ i. live i && is i)
        ∙ without
        ∙ sym (ap (λ b. replay m (cond (not b) (c ∷ ended f h) (ended f h))) is)
    at true false is live without with =
        ap (λ b. replay m (cond (not b) (c ∷ rest_of f h) (rest_of f h))) (λ i. live i && is i)
        ∙ ap (λ b. replay (cond b (write_to m c.key c.after) m) (rest_of f h)) live
        ∙ without
        ∙ sym (ap (λ b. replay m (cond (not b) (c ∷ ended f h) (ended f h))) is)
    at false live is was without with =
        ap (λ b. replay m (cond (not b) (c ∷ rest_of f h) (rest_of f h))) (λ i. was i && is i)
        ∙ ap (λ b. replay m (cond (not b) (c ∷ rest_of f h) (rest_of f h))) (none live)
        ∙ with
        ∙ sym (ap (λ b. replay m (cond (not b) (c ∷ ended f h) (ended f h))) is)

-- what the kept commits of a run make of the records of a file in which nothing was begun
pub kept_make : (contents : Contents) (limits : Bounds) (old new : Seen) (events : List Event) (kept : List Write) → IsTrue old.sound → old.file ≡ new_file contents limits → old.records ≡ contents → old.log ≡ [] → CommitsKept old events new kept → overlay contents kept ≡ committed new.file
kept_make contents limits old new [] kept sound file records log ran =
    ap (overlay contents) ran.1 ∙ sym (ap committed (ap (λ (s : Seen). s.file) ran.0 ∙ file))
kept_make contents limits old new (e ∷ es) kept sound file records log ran =
    ap (λ (m : Contents). overlay m kept) (sym records)
    ∙ start_commits old new (e ∷ es) kept
    (record {
      sound = sound;
      file = file ∙ (λ i. new_file (sym records i) (sym (ap (λ (f : File). f.limits) file) i));
      log = log;
      within = subst (λ (m : Contents). maps.len m ≤ old.file.limits.records) (ap charged_of file ∙ sym records) (ran.1.kept.within sound);
    })
    ran

-- units that say the writes of some commits say them up to each unit
pub say_split : (us rest : Units) (kept : List (List Write)) → SayWrites (us ++ rest) kept → (first : List (List Write)) × (later : List (List Write)) × (kept ≡ first ++ later) × SayWrites us first
say_split [] rest kept say = ([], kept, refl, tt)
say_split (u ∷ us) rest [] say = absurd say
say_split (u ∷ us) rest (es ∷ kept) say =
    let more = say_split us rest kept say.2 in
    (es ∷ more.0, more.1, ap (λ (ks : List (List Write)). es ∷ ks) more.2, (say.0, say.1, more.3))

pub say_more : (us : Units) (kept : List (List Write)) (n : ℕ) (es : List Write) (unit : List (List ℕ)) → entries_in unit ≡ unit_commands n es → SayWrites us kept → SayWrites (us ++ unit ∷ []) (kept ++ es ∷ [])
say_more [] [] n es unit read say = (n, read, tt)
say_more [] (ks ∷ kept) n es unit read say = absurd say
say_more (u ∷ us) [] n es unit read say = absurd say
say_more (u ∷ us) (ks ∷ kept) n es unit read say = (say.0, say.1, say_more us kept n es unit read say.2)

-- each is a command of a log
pub say_commands : (us : Units) (kept : List (List Write)) → SayWrites us kept → All IsLogCommand (said_by us)
say_commands [] kept say = All-nil IsLogCommand
say_commands (u ∷ us) [] say = absurd say
say_commands (u ∷ us) (es ∷ kept) say =
    All-append IsLogCommand (entries_in u) (said_by us) (subst (λ (cs : List (Read Command)). All IsLogCommand cs) (sym say.1) (unit_logged say.0 es)) (say_commands us kept say.2)

-- a log that begins with the line of its file, put over the records of that
pub over_of : (file : PageFile) (contents : Contents) (us : Units) (kept : List (List Write)) → SayWrites us kept → IsLogOver (head_line file) contents (overlay contents (writes_in_turn kept)) ((head_line file ∷ []) ∷ us)
over_of file contents us kept say = record {
  is_head = (_, refl);
  say = (say_commands us kept say, ap (overlay contents) (sym (log_writes us kept say)));
  tied = inl refl;
}

abbrev rest_units : Units → Units
rest_units [] = []
rest_units (u ∷ us) = us

abbrev first_unit_of : List (List ℕ) → Units → List (List ℕ)
first_unit_of d [] = d
first_unit_of d (u ∷ us) = u

-- a unit is known by its text
read_back : (unit : List (List ℕ)) → IsUnit unit → units_of (log_text (unit ∷ []) ++ []) ≡ unit ∷ []
read_back unit is = log_passes (unit ∷ []) [] (is, tt)

unit_is : (a b : List (List ℕ)) → IsUnit a → IsUnit b → unit_text a ≡ unit_text b → a ≡ b
unit_is a b is_a is_b same = ap (first_unit_of []) (sym (read_back a is_a) ∙ ap (λ (t : List ℕ). units_of ((t ++ []) ++ [])) same ∙ read_back b is_b)

text_some : (unit : List (List ℕ)) → IsUnit unit → unit_text unit ≡ [] → ⊥
text_some unit is none =
    absurd (cc (sym (read_back unit is) ∙ ap (λ (t : List ℕ). units_of ((t ++ []) ++ [])) none))

-- a text in doubt, and the commit that it is of, if there is one
abbrev pub DoubtIs : List ℕ → List (List Write) → Type 0
DoubtIs text doubted = ((text ≡ []) × (doubted ≡ [])) ⊎ ((es : List Write) × (doubted ≡ es ∷ []) × SaysWrites es text)

module _ (order : ℕ) (contents : Contents) (file : PageFile) (holds : HoldsRecords order contents file) where
  -- a log of units that say some commits stands beside the file
  says_finds : (c : Files) (us : Units) (kept : List (List Write)) → Belongs c × (recovered c ≡ file) → SayWrites us kept → Says ((head_line file ∷ []) ∷ us) c → Finds order (overlay contents (writes_in_turn kept)) c
  says_finds c us kept stands say says = record {
    belongs = stands.0;
    under = contents;
    holds = subst (HoldsRecords order contents) (sym stands.1) holds;
    log = subst (λ (l : Option (List ℕ)). FindsLog (head_line (recovered c)) contents (overlay contents (writes_in_turn kept)) l) (sym says.1)
        (subst (λ (us : Units). IsLogOver (head_line (recovered c)) contents (overlay contents (writes_in_turn kept)) us) (sym says.2)
        (subst (λ (f : PageFile). IsLogOver (head_line f) contents (overlay contents (writes_in_turn kept)) ((head_line file ∷ []) ∷ us)) (sym stands.1) (over_of file contents us kept say)));
  }

  none_finds : (c : Files) → Belongs c × (recovered c ≡ file) → c.commits.log ≡ None → Finds order contents c
  none_finds c stands none = record {
    belongs = stands.0;
    under = contents;
    holds = subst (HoldsRecords order contents) (sym stands.1) holds;
    log = subst (λ (l : Option (List ℕ)). FindsLog (head_line (recovered c)) contents contents l) (sym none) refl;
  }

  first_finds : (c : Files) (units : Units) (kept doubted : List (List Write)) → Belongs c × (recovered c ≡ file) → SayWrites units kept → SaysFirst ((head_line file ∷ []) ∷ units) c → FindsCommits order contents kept doubted c
  first_finds c units kept doubted stands say says = ⊎_elim
      (λ none. ([], (kept ++ doubted, refl), none_finds c stands none))
      (λ some. at some.0 some.1 some.2 some.3)
      says
    where
      at : (first : Units) → AreFirst first ((head_line file ∷ []) ∷ units) → (first ≡ [] → ⊥) → Says first c → FindsCommits order contents kept doubted c
      at [] front begun found = absurd (begun refl)
      at (u ∷ us) front begun found =
          let head : u ≡ head_line file ∷ [] = sym (ap (first_unit_of []) front.1) in
          let units_are : units ≡ us ++ front.0 = ap rest_units front.1 in
          let split = say_split us front.0 kept (subst (λ (ks : Units). SayWrites ks kept) units_are say) in (
            split.0,
            (split.1 ++ doubted, ap (λ (ks : List (List Write)). ks ++ doubted) split.2 ∙ append_assoc split.0 split.1 doubted),
            says_finds c us split.0 stands split.3 (subst (λ (h : List (List ℕ)). Says (h ∷ us) c) head found),
          )

  doubt_finds : (c : Files) (units : Units) (kept doubted : List (List Write)) (doubt : List ℕ) → Belongs c × (recovered c ≡ file) → SayWrites units kept → DoubtIs doubt doubted → SaysDoubt ((head_line file ∷ []) ∷ units) doubt c → FindsCommits order contents kept doubted c
  doubt_finds c units kept doubted doubt stands say (inl none) says = absurd (text_some says.0 says.1 (sym says.2 ∙ none.0))
  doubt_finds c units kept doubted doubt stands say (inr some) says =
      let same : says.0 ≡ unit_lines some.2.0 some.0 = unit_is says.0 (unit_lines some.2.0 some.0) says.1 some.2.2 (sym says.2 ∙ some.2.1) in (
        kept ++ some.0 ∷ [],
        ([], ap (λ (ks : List (List Write)). kept ++ ks) some.1 ∙ sym (append-nil (kept ++ some.0 ∷ []))),
        says_finds c (units ++ says.0 ∷ []) (kept ++ some.0 ∷ []) stands (say_more units kept some.2.0 some.0 says.0 (ap entries_in same ∙ some.2.3) say) says.3,
      )

  -- the file as it was opened, with what is found of its log
  pub opening_finds : (opening : Opening) (c : Files) (units : Units) (kept doubted : List (List Write)) → opening_file opening ≡ file → opening.logged ≡ true → opening.commits ≡ (head_line file ∷ []) ∷ units → DoubtIs opening.doubt doubted → SayWrites units kept → LeavesOpening opening c → FindsCommits order contents kept doubted c
  opening_finds opening c units kept doubted is logged commits doubt say left =
      let stands : Belongs c × (recovered c ≡ file) = (left.0.0, left.0.1 ∙ is) in
      let found = subst (λ (us : Units). SaysFirst us c ⊎ SaysDoubt us opening.doubt c) commits (subst (λ b. FindsSome b opening.log opening.commits opening.doubt c) logged left.1) in
      ⊎_elim (first_finds c units kept doubted stands say) (doubt_finds c units kept doubted opening.doubt stands say doubt) found

  -- and the closed file, with the log or without
  pub ended_finds_all : (opening : Opening) (c : Files) (units : Units) (kept doubted : List (List Write)) (records : Contents) → records ≡ overlay contents (writes_in_turn kept) → opening_file opening ≡ file → opening.logged ≡ true → opening.commits ≡ (head_line file ∷ []) ∷ units → DoubtIs opening.doubt doubted → SayWrites units kept → LeavesEnded opening order records c → FindsCommits order contents kept doubted c
  ended_finds_all opening c units kept doubted records made is logged commits doubt say left = ⊎_elim
      (λ either.
      ⊎_elim
      (opening_finds opening c units kept doubted is logged commits doubt say)
      (λ closed.
      let says = subst (λ (us : Units). Says us c) commits (subst (λ b. FindsWhole b opening.log opening.commits c) logged closed.2) in
      whole (record {
        belongs = closed.0;
        under = records;
        holds = closed.1;
        log = subst (λ (l : Option (List ℕ)). FindsLog (head_line (recovered c)) records records l) (sym says.1)
            (subst (λ (us : Units). IsLogOver (head_line (recovered c)) records records us) (sym says.2)
            (over_again (head_line file) (head_line (recovered c)) contents records ((head_line file ∷ []) ∷ units) (subst (λ (m : Contents). IsLogOver (head_line file) contents m ((head_line file ∷ []) ∷ units)) (sym made) (over_of file contents units kept say))));
      }))
      either)
      (λ gone.
      whole (record {
        belongs = gone.0;
        under = records;
        holds = gone.1;
        log = subst (λ (l : Option (List ℕ)). FindsLog (head_line (recovered c)) records records l) (sym gone.2) refl;
      }))
      left
    where
      whole : Finds order records c → FindsCommits order contents kept doubted c
      whole finds = (kept, (doubted, refl), subst (λ (m : Contents). Finds order m c) made finds)

  -- all commits, where none is lost
  all_finds : (c : Files) (units : Units) (kept doubted : List (List Write)) (doubt : List ℕ) → Belongs c × (recovered c ≡ file) → SayWrites units kept → DoubtIs doubt doubted → SaysAll ((head_line file ∷ []) ∷ units) doubt c → FindsEachCommit order contents kept doubted c
  all_finds c units kept doubted doubt stands say is says = ⊎_elim
      (λ all. (kept, inl refl, says_finds c units kept stands say all))
      (λ more. at is more)
      says
    where
      at : DoubtIs doubt doubted → SaysDoubt ((head_line file ∷ []) ∷ units) doubt c → FindsEachCommit order contents kept doubted c
      at (inl none) more = absurd (text_some more.0 more.1 (sym more.2 ∙ none.0))
      at (inr some) more =
          let same : more.0 ≡ unit_lines some.2.0 some.0 = unit_is more.0 (unit_lines some.2.0 some.0) more.1 some.2.2 (sym more.2 ∙ some.2.1) in (
            kept ++ some.0 ∷ [],
            inr (ap (λ (ks : List (List Write)). kept ++ ks) (sym some.1)),
            says_finds c (units ++ more.0 ∷ []) (kept ++ some.0 ∷ []) stands (say_more units kept some.2.0 some.0 more.0 (ap entries_in same ∙ some.2.3) say) more.3,
          )

  -- of the file as it was opened, and of the closed file
  pub each_finds : (opening : Opening) (c : Files) (units : Units) (kept doubted : List (List Write)) (records : Contents) → records ≡ overlay contents (writes_in_turn kept) → opening_file opening ≡ file → opening.logged ≡ true → opening.commits ≡ (head_line file ∷ []) ∷ units → DoubtIs opening.doubt doubted → SayWrites units kept → LeavesEnded opening order records c → LosesNone opening order records c → FindsEachCommit order contents kept doubted c
  each_finds opening c units kept doubted records made is logged commits doubt say left loses = ⊎_elim
      (λ either.
      ⊎_elim
      (λ opened.
      ⊎_elim
      (λ each. all_finds c units kept doubted opening.doubt (opened.0.0, opened.0.1 ∙ is) say doubt (subst (λ (us : Units). SaysAll us opening.doubt c) commits (subst (λ b. FindsEach b opening.log opening.commits opening.doubt c) logged each)))
      (λ gone. bare gone)
      loses)
      (λ closed.
      let says = subst (λ (us : Units). Says us c) commits (subst (λ b. FindsWhole b opening.log opening.commits c) logged closed.2) in
      whole (record {
        belongs = closed.0;
        under = records;
        holds = closed.1;
        log = subst (λ (l : Option (List ℕ)). FindsLog (head_line (recovered c)) records records l) (sym says.1)
            (subst (λ (us : Units). IsLogOver (head_line (recovered c)) records records us) (sym says.2)
            (over_again (head_line file) (head_line (recovered c)) contents records ((head_line file ∷ []) ∷ units) (subst (λ (m : Contents). IsLogOver (head_line file) contents m ((head_line file ∷ []) ∷ units)) (sym made) (over_of file contents units kept say))));
      }))
      either)
      bare
      left
    where
      whole : Finds order records c → FindsEachCommit order contents kept doubted c
      whole finds = (kept, inl refl, subst (λ (m : Contents). Finds order m c) made finds)

      bare : Belongs c × HoldsRecords order records (recovered c) × (c.commits.log ≡ None) → FindsEachCommit order contents kept doubted c
      bare gone = whole (record {
        belongs = gone.0;
        under = records;
        holds = gone.1;
        log = subst (λ (l : Option (List ℕ)). FindsLog (head_line (recovered c)) records records l) (sym gone.2) refl;
      })

-- examples, and what is none
pub some_first : (a b : List Write) → AreFirstCommits (a ∷ []) (a ∷ b ∷ [])
some_first a b = (b ∷ [], refl)

abbrev first_kept : List Write → List (List Write) → List Write
first_kept d [] = d
first_kept d (es ∷ kept) = es

pub earlier_lost : (a b : List Write) → ◌≢◌ a b → AreFirstCommits (b ∷ []) (a ∷ b ∷ []) → ⊥
earlier_lost a b other front = other (ap (first_kept []) front.1)

pub one_more : (a b : List Write) → AreFirstCommits (a ∷ b ∷ []) (a ∷ []) → ⊥
one_more a b front = absurd (omega (arith, ap length front.1))

-- of a log in which no commit is yet
only_head : (head : List (List ℕ)) (first : Units) → AreFirst first (head ∷ []) → (first ≡ [] → ⊥) → first ≡ head ∷ []
only_head head [] front some = absurd (some refl)
only_head head (u ∷ us) front some =
    let none : us ≡ [] = no_more us front.0 (ap rest_units front.1) in
    (λ i. sym (ap (first_unit_of []) front.1) i ∷ none i)
  where
    no_more : (us rest : Units) → [] ≡ us ++ rest → us ≡ []
    no_more [] rest is = refl
    no_more (u ∷ us) rest is = absurd (cc is)

pub begun_unread : (opening : Opening) (c : Files) → IsBegunBeside opening → LeavesUnread opening c → FilesStandFor (opening_file opening) c × SaysNoneOr ((head_line (opening_file opening) ∷ []) ∷ []) c
begun_unread opening c begun left = ⊎_elim
    (λ was. (
      was.0,
      ⊎_elim
          (λ firsts. ⊎_elim (λ none. inl none) (λ some. inr (subst (λ (us : Units). Says us c) (only_head (head_line (opening_file opening) ∷ []) some.0 some.1 some.2) some.3)) firsts)
          (λ more. absurd (text_some more.0 more.1 (sym more.2 ∙ begun.doubt)))
          (subst (λ (us : Units). SaysFirst us c ⊎ SaysDoubt us opening.doubt c) begun.commits (subst (λ b. FindsSome b opening.log opening.commits opening.doubt c) begun.logged was.1)),
    ))
    (λ gone. (gone.0, inl gone.1))
    left
