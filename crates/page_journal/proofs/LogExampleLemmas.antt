-- Outcomes of the examples of a log, and why there are no others.
use Rattle.std.proofs.Common.{◌≡◌, ⊎_elim, inr, ℕ, true, List, [], ◌∷◌, Option, Some, None, Vec, get_or, is_some, unwrap_or, refl, sym, ◌∙◌, ap, subst, arith}
use Rattle.std.proofs.lemmas.Bool.{false≢true}
use Rattle.std.proofs.lemmas.Option.{none-some}
use Rattle.std.specs.declared.alloc.Global.{Global}
use Rattle.commit_paper.specs.Steps.{Inks}
use Rattle.page_journal.specs.Files.{CommitFiles, Files}
use Rattle.page_journal.specs.Steps.{nothing_kept, bytes_over, OnLog}
use Rattle.page_journal.specs.History.{MayLeave}
use Rattle.page_journal.specs.Examples.{without_side_file, old_file, log_made, log_named_early, with_log}
use Rattle.page_journal.specs.declared.disk_call.DiskCall.TheVariants.{SyncNames, Commits}
use Rattle.page_journal.specs.declared.commit_call.CommitCall.TheVariants.{Write, Sync}
use Rattle.page_journal.proofs.CommitFateLemmas.{unwritten_log}

pub made_there : (bytes : Vec ℕ Global) (c : Files) → MayLeave (without_side_file old_file) (log_made bytes) c → (c.commits.log ≡ Some bytes.items) × (c.main ≡ old_file)
made_there bytes c left =
    let named = left.0 in
    let kept = left.1.0 in
    let begun = left.1.1.0 in
    let first = left.1.1.1.0 in
    let same : c ≡ named = left.2.0 in
    let some : is_some c.commits.log ≡ true = left.2.2 in
    let kept_fresh : kept.commits.fresh ≡ bytes.items = left.1.1.2.commits.1 in
    let kept_log : kept.commits.log ≡ None = ap (λ (f : CommitFiles). f.log) left.1.1.2.commits.0 ∙ left.1.1.1.2.commits ∙ ap (λ (f : Files). f.commits.log) left.1.1.1.1 in
    let main : c.main ≡ old_file = ap (λ (f : Files). f.main) same ∙ left.1.2.main ∙ left.1.1.2.main ∙ left.1.1.1.2.main ∙ ap (λ (f : Files). f.main) left.1.1.1.1 in (
      ⊎_elim (λ stays. absurd (false≢true (sym (ap is_some (ap (λ (f : Files). f.commits.log) same ∙ stays ∙ kept_log)) ∙ some)))
          (λ now. ap (λ (f : Files). f.commits.log) same ∙ now ∙ ap (λ (b : List ℕ). Some b) kept_fresh)
          left.1.2.commits,
      main,
    )

-- a log that wasn't kept may have other bytes
other : Files
other = with_log old_file (9 ∷ [])

pub never_early : (bytes : Vec ℕ Global) → bytes.items ≡ 7 ∷ [] → ((c : Files) → MayLeave (without_side_file old_file) (log_named_early bytes) c → c.commits.log ≡ Some bytes.items) → ⊥
unfolding other
never_early bytes is all =
    let begun : Files = record { main = old_file; fresh = nothing_kept 0; side = None; commits = record { fresh = 9 ∷ []; log = None } } in
    let left : MayLeave (without_side_file old_file) (log_named_early bytes) other =
    (other, (begun, (without_side_file old_file, refl, record { main = refl; fresh = refl; side = refl; commits = refl }), record { main = refl; fresh = refl; side = refl; commits = inr refl }), (refl, refl, refl)) in
    let says = ap (λ (o : Option (List ℕ)). get_or (unwrap_or o []) 0 0) (all other left ∙ ap (λ (b : List ℕ). Some b) is) in
    omega (arith, says)

pub lost_one : (bytes : Vec ℕ Global) → bytes.items ≡ 7 ∷ [] → MayLeave (with_log old_file (0 ∷ [])) (SyncNames ∷ Commits (Write 0 bytes) ∷ []) (with_log old_file (0 ∷ []))
lost_one bytes is =
    let f = with_log old_file (0 ∷ []) in
    (f, (f, refl, record { main = refl; fresh = refl; side = refl; commits = unwritten_log 0 bytes.items f.commits }), (refl, refl, refl))

pub synced_there : (bytes : Vec ℕ Global) (c : Files) → bytes.items ≡ 7 ∷ [] → MayLeave (with_log old_file (0 ∷ [])) (Commits Sync ∷ Commits (Write 0 bytes) ∷ []) c → c.commits.log ≡ Some (7 ∷ [])
synced_there bytes c is left =
    let was = subst (λ (f : Files). OnLog (Inks 0 bytes.items) f.commits.log left.0.commits.log) left.1.1 left.1.2.commits.1 in
    let same : c.commits.log ≡ left.0.commits.log = ap (λ (f : CommitFiles). f.log) left.2.commits.0 in
    ⊎_elim (λ none. absurd (none-some was.0 (sym none ∙ same ∙ was.1)))
    (λ now. now ∙ ap (λ (k : List ℕ). Some (bytes_over 0 k (0 ∷ []))) is)
    left.2.commits.1
