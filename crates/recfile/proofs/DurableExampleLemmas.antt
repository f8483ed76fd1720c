-- What no session leaves whose commits are kept before they are answered.
use Rattle.std.proofs.Common.{◌≡◌, ◌≢◌, ⊎_elim, ℕ, List, [], ◌∷◌, ◌++◌, append_assoc, filter, length, map, Option, Some, None, option_map, Result, Ok, OnOk, refl, sym, ap, subst, ◌∙◌, arith}
use Rattle.std.proofs.lemmas.List.{append-nil, length-append}
use Rattle.std.specs.FinMap as maps
use Rattle.rec_types.specs.Contents.{Contents}
use Rattle.rec_types.specs.LimitBounds.{Bounds}
use Rattle.page_journal.specs.Files.{Files}
use Rattle.command_text.specs.Units.{Write}
use Rattle.record_file.specs.Abstract.{File, new_file}
use Rattle.record_file.specs.Durable.{overlay}
use Rattle.record_file.specs.Runs.{Event, IsKeptSeen, Run, Seen, undoubted}
use Rattle.rec_types.specs.History.{Change}
use Rattle.rec_types.specs.Kept.{history_of}
use Rattle.tx_log.specs.Log.{tells_change}
use Rattle.tx_log.specs.LogLaws.{change_told}
use Rattle.tx_log.specs.Written.{own, writes}
use Rattle.tx_log.specs.declared.log_record.LogRecord.{LogRecord}
use Rattle.record_file.proofs.CommitLemmas.{overlay-append}
use Rattle.record_file.specs.Steps.{active_refusal, tx_refusal}
use Rattle.record_file.specs.declared.refusal.Refusal.TheVariants as refusals
use Rattle.tx_log.specs.LogState.{phase_of}
use Rattle.tx_log.specs.Transactions.{Tx}
use Rattle.std.specs.Ordering.{nat_cmp}
use Rattle.recfile.specs.DurableSession.{FindsCommits, FindsEachCommit}
use Rattle.file_session.specs.LogOver.{Finds}
use Rattle.file_session.specs.Overlaid.{SayWrites, writes_in_turn}
use Rattle.recfile.specs.SessionCommits.{IsInDoubt, MakesCommits}
use Rattle.file_session.proofs.FindsOnceLemmas.{finds_once}

-- all commits are found, where none is in doubt
all_found : (order : ℕ) (contents : Contents) (kept doubted : List (List Write)) (c : Files) → doubted ≡ [] → FindsEachCommit order contents kept doubted c → Finds order (overlay contents (writes_in_turn kept)) c
all_found order contents kept doubted c none found =
    let all : found.0 ≡ kept = ⊎_elim (λ is. is) (λ is. is ∙ ap (λ (d : List (List Write)). kept ++ d) none ∙ append-nil kept) found.1 in
    subst (λ (ks : List (List Write)). Finds order (overlay contents (writes_in_turn ks)) c) all found.2

pub one : (es : List Write) → writes_in_turn (es ∷ []) ≡ es
one es = append-nil es

pub answered_lost : (order : ℕ) (contents : Contents) (kept doubted : List (List Write)) (es : List Write) (c : Files) → kept ≡ es ∷ [] → doubted ≡ [] → overlay contents es ≢ contents → FindsEachCommit order contents kept doubted c → Finds order contents c → ⊥
answered_lost order contents kept doubted es c is none differ found other =
    let here = all_found order contents kept doubted c none found in
    differ (sym (ap (overlay contents) (ap writes_in_turn is ∙ one es)) ∙ finds_once order order (overlay contents (writes_in_turn kept)) contents c here other)

-- of no commits the first ones are none
no_first : (first rest : List (List Write)) → [] ≡ first ++ rest → first ≡ []
no_first [] rest is = refl
no_first (es ∷ first) rest is = absurd (omega (arith, ap length is))

pub commit_made_up : (order : ℕ) (contents others : Contents) (kept doubted : List (List Write)) (c : Files) → kept ≡ [] → doubted ≡ [] → others ≢ contents → FindsCommits order contents kept doubted c → Finds order others c → ⊥
commit_made_up order contents others kept doubted c none undoubted differ found other =
    let first : found.0 ≡ [] = no_first found.0 found.1.0 (sym (ap (λ (x : List (List Write) × List (List Write)). x.0 ++ x.1) (λ i. (none i, undoubted i))) ∙ found.1.1) in
    differ (finds_once order order others (overlay contents (writes_in_turn found.0)) c other found.2 ∙ ap (λ (ks : List (List Write)). overlay contents (writes_in_turn ks)) first)

pub doubt_alone : (order : ℕ) (contents : Contents) (kept doubted : List (List Write)) (a b : List Write) (c : Files) → kept ≡ a ∷ [] → doubted ≡ b ∷ [] → overlay contents b ≢ overlay contents a → overlay contents b ≢ overlay (overlay contents a) b → FindsEachCommit order contents kept doubted c → Finds order (overlay contents b) c → ⊥
doubt_alone order contents kept doubted a b c is doubt first both found other = ⊎_elim
    (λ all. first (same ∙ ap (λ (ks : List (List Write)). overlay contents (writes_in_turn ks)) (all ∙ is) ∙ ap (overlay contents) (one a)))
    (λ all. both (same ∙ ap (λ (ks : List (List Write)). overlay contents (writes_in_turn ks)) (all ∙ (λ i. is i ++ doubt i)) ∙ ap (overlay contents) (ap (λ (es : List Write). a ++ es) (one b)) ∙ overlay-append a b contents))
    found.1
  where
    same : overlay contents b ≡ overlay contents (writes_in_turn found.0)
    same = finds_once order order (overlay contents b) (overlay contents (writes_in_turn found.0)) c other found.2

-- a run of no calls leaves what it began with
unmoved : (events : List Event) → events ≡ [] → {old new : Seen} → Run old events new → new ≡ old
unmoved [] none ran = ran
unmoved (e ∷ events) none ran = absurd (cc none)

-- no transaction of a file in which nothing was begun is asked to commit
pub doubt_unbegun : (old new : Seen) (es : List Write) (contents : Contents) (limits : Bounds) → (doubt : IsInDoubt old new es) → old.file ≡ new_file contents limits → doubt.before ≡ [] → ⊥
doubt_unbegun old new es contents limits doubt is none =
    let same : doubt.mid.file ≡ new_file contents limits = ap (λ (s : Seen). s.file) (unmoved doubt.before none doubt.led) ∙ is in
    unasked (sym (ap (λ (o : Option Tx). active_refusal None (option_map phase_of o)) (maps.get-empty nat_cmp doubt.tx)) ∙ sym (ap (λ (f : File). tx_refusal f doubt.tx None) same) ∙ doubt.accepted)
  where
    unasked : Some refusals.NoSuchTx ≡ None → ⊥
    unasked asked = absurd (cc asked)

-- what stays true of a file was true before a run
was_kept_seen : (events : List Event) (old new : Seen) → IsKeptSeen new → Run old events new → IsKeptSeen old
was_kept_seen [] old new kept ran = subst IsKeptSeen ran kept
was_kept_seen (e ∷ events) old new kept ran = ran.1.kept

-- a run takes nothing off the log
log_grows : (events : List Event) (old new : Seen) → Run old events new → (more : List LogRecord) × (new.log ≡ old.log ++ more)
log_grows [] old new ran = ([], ap (λ (s : Seen). s.log) ran ∙ sym (append-nil old.log))
log_grows (e ∷ events) old new ran =
    let rest = log_grows events ran.0 new ran.2 in
    (ran.1.happens.told.0 ++ rest.0, rest.1 ∙ ap (λ (l : List LogRecord). l ++ rest.0) ran.1.happens.told.1 ∙ append_assoc old.log ran.1.happens.told.0 rest.0)

no_front : (front rest : List LogRecord) → [] ≡ front ++ rest → front ≡ []
no_front [] rest is = refl
no_front (r ∷ front) rest is = absurd (omega (arith, ap length is))

-- nothing is in doubt of a session that changed nothing
pub doubt_unwritten : (old new : Seen) (es : List Write) → IsKeptSeen new → IsInDoubt old new es → new.log ≡ [] → es ≢ [] → ⊥
doubt_unwritten old new es kept doubt none some =
    let grows = log_grows doubt.later (undoubted doubt.mid) (undoubted new) doubt.leads in
    let nothing : doubt.mid.log ≡ [] = no_front doubt.mid.log grows.0 (sym none ∙ grows.1) in
    let chained = (was_kept_seen doubt.later (undoubted doubt.mid) (undoubted new) kept doubt.leads).chained in
    let unchanged : chained.0 ≡ [] = chained.1.told ∙ ap (λ (l : List LogRecord). map (change_told l) (filter tells_change l)) nothing in
    some (doubt.written ∙ ap (λ (h : List Change). writes (own doubt.tx h)) (sym chained.2 ∙ ap history_of unchanged))

-- a commit that is kept is in the log
pub kept_unlogged : (old new : Seen) (made : MakesCommits old new) (es : List Write) → made.kept ≡ es ∷ [] → new.commits ≡ old.commits → ⊥
kept_unlogged old new made es is same =
    some made.units made.kept made.says is (omega (arith, ap length (sym same ∙ made.commits), length-append old.commits made.units))
  where
    some : (units : List (List (List ℕ))) (kept : List (List Write)) → SayWrites units kept → kept ≡ es ∷ [] → length units ≡ 0 → ⊥
    some [] [] say kept_is none = absurd (cc kept_is)
    some [] (k ∷ kept) say kept_is none = absurd say
    some (u ∷ units) kept say kept_is none = absurd (omega (arith, none))

-- what holds where a result is Ok
pub ok_of : {A E : Type 0} (answer : Result A E) (done : A) → answer ≡ Ok done → (P : Type 0) → OnOk answer P → P
ok_of answer done is P on = subst (λ (r : Result _ _). OnOk r P) is on
