use Rattle.std.proofs.Common.{◌≡◌, ◌∙◌, ℕ, None, List, [], ◌∷◌, ◌++◌, IsTrue, sym, ap, subst, rules}
use Rattle.std.proofs.lemmas.List.{append-nil}
use Rattle.commit_paper.specs.Text.{unit_text}
use Rattle.page_store.specs.Opening.{Opening}
use Rattle.page_journal.specs.Crash.{FilesStandFor}
use Rattle.page_journal.specs.Files.{PageFile, recovered}
use Rattle.page_journal.specs.Logging.{SaysNoneOr}
use Rattle.page_journal.specs.KeptStores.{KeptStored}
use Rattle.file_session.specs.Closing.{opening_file}
use Rattle.file_session.specs.LogOver.{head_line}
use Rattle.file_session.proofs.beginning.begin_beside.Given as given
use Rattle.file_session.proofs.beginning.begin_beside.Goals as goal
use Rattle.file_session.proofs.beginning.begin_beside.Goals.{After-deref}

-- the first line with its end is a unit
line_unit : (line text : List ℕ) → text ≡ line ++ 10 ∷ [] → text ≡ unit_text (line ∷ [])
line_unit line text is = is ∙ sym (append-nil (line ++ 10 ∷ []))

module _ (g : given.Over) (c : After-deref g) where
  spelt : c.deref.result.now ≡ unit_text (c.in-Ok.head.items ∷ [])
  spelt =
      let is : c.deref.result.now ≡ c.in-Ok.head.items ++ 10 ∷ [] = search rules in
      line_unit c.in-Ok.head.items c.deref.result.now is

  head : IsTrue (g.D.DiskState.steady c.args.store.disk) → c.in-Ok.head.items ≡ head_line (recovered (g.D.DiskState.began c.args.store.disk))
  head steady = c.in-Ok.ensures.head steady ∙ ap head_line (c.requires.file steady)

  none : IsTrue (g.D.DiskState.steady c.args.store.disk) → (g.D.DiskState.began c.head_of.new.store.disk).commits.log ≡ None
  none steady = ap (λ (o : Opening). o.log) c.head_of.ensures.stays.opening ∙ c.requires.none steady

pub begin_commits-requires-clause-head : goal.begin_commits-requires-clause-head
begin_commits-requires-clause-head g c =
    let here = (goal.at.begin_commits-requires-clause-head g c).After-deref in
    (c.in-Ok.head.items ∷ [], c.in-Ok.ensures.unit, spelt g here)

pub returns-in-Ok-begin_commits-clause-begun : goal.returns-in-Ok-begin_commits-clause-begun
returns-in-Ok-begin_commits-clause-begun g c steady =
    let here = (goal.at.returns-in-Ok-begin_commits-clause-begun g c).After-deref in
    let d = g.D.DiskState in
    let stays = c.head_of.ensures.stays in
    let new = c.in-Ok-begin_commits.store in
    let file : recovered (d.began new.disk) ≡ recovered (d.began c.args.store.disk) = ap recovered c.in-Ok-begin_commits.ensures.keeps.began ∙ ap opening_file stays.opening in
    record {
      logged = search rules;
      commits = c.in-Ok-begin_commits.ensures.says (none g here steady) (c.in-Ok.head.items ∷ []) c.in-Ok.ensures.unit (spelt g here) ∙ ap (λ (line : List ℕ). (line ∷ []) ∷ []) (head g here steady ∙ ap head_line (sym file));
      doubt = ap (λ (s : KeptStored _). s.doubt) c.in-Ok-begin_commits.ensures.begun ∙ ap (λ (o : Opening). o.doubt) stays.opening ∙ c.requires.unused.3;
    }

pub returns-clause-stopped : goal.returns-clause-stopped
returns-clause-stopped g c steady left since =
    let here = (goal.at.returns-clause-stopped g c).After-deref in
    let stays = c.head_of.ensures.stays in
    let file = ap opening_file stays.opening in
    subst (λ (x : PageFile × List ℕ). FilesStandFor x.0 left × SaysNoneOr ((x.1 ∷ []) ∷ []) left) (λ i. (file i, head g here steady i))
    (c.in-Err-begin_commits.ensures.stopped (stays.steady ∙ steady) left since, c.in-Err-begin_commits.ensures.unbegun (none g here steady) (c.in-Ok.head.items ∷ []) c.in-Ok.ensures.unit (spelt g here) left since)
