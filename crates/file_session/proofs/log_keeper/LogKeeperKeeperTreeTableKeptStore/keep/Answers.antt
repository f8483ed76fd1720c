use Rattle.std.proofs.Common.{◌≡◌, ⊎_elim, inl, inr, ℕ, List, [], ◌∷◌, ◌++◌, length, ◌==◌, refl, sym, ap, ◌∙◌, rules}
use Rattle.std.proofs.lemmas.Bool.{false≢true}
use Rattle.page_store.specs.Opening.{Opening}
use Rattle.btree_delete.specs.Origins.{origin_of}
use Rattle.btree_delete.specs.TableView.{TableView}
use Rattle.command_text.specs.Script.{entries_in, commands_of}
use Rattle.command_text.specs.Units.{Write, unit_commands, unit_lines}
use Rattle.file_session.specs.LogKeeping.{IsKeptBeside}
use Rattle.file_session.specs.LogKeeping.{AddsWrites}
use Rattle.file_session.proofs.LogLemmas.{unit_said}
use Rattle.file_session.proofs.log_keeper.LogKeeperKeeperTreeTableKeptStore.keep.Goals as goal

-- writes that are some are kept as a script
adds : (es : List Write) (n : ℕ) (old new : List (List (List ℕ))) → (es ≡ [] → ⊥) → new ≡ old ++ unit_lines n es ∷ [] → entries_in (unit_lines n es) ≡ unit_commands n es → AddsWrites old es new
adds [] n old new some is read = absurd (some refl)
adds (w ∷ ws) n old new some is read = (n, is, read)

-- a commit changes nothing else of what the table was made of
kept_beside : (old new : TableView) → new ≡ record old { pages = record old.pages { opening = new.pages.opening; guard = new.pages.guard } } → new.pages.opening ≡ record old.pages.opening { commits = new.pages.opening.commits; doubt = new.pages.opening.doubt } → IsKeptBeside old new
kept_beside old new same opened = ap origin_of same ∙ ap (λ (o : Opening). record (origin_of old) { opening = o; guard = new.pages.guard }) opened

pub returns-in-Ok-keep_commit-clause-answer : goal.returns-in-Ok-keep_commit-clause-answer
returns-in-Ok-keep_commit-clause-answer g c = (
  λ steady. adds c.args.writes.now c.saturating_add-number.result _ _ (λ none. false≢true (sym c.if-is_empty.false ∙ c.is_empty.ensures ∙ ap (λ (l : List Write). length l == 0) none)) (c.in-Ok-keep_commit.ensures.commits.kept steady (unit_lines c.saturating_add-number.result c.args.writes.now) c.in-Ok.ensures.unit c.in-Ok.ensures.text)
      (sym (unit_said (unit_lines c.saturating_add-number.result c.args.writes.now) c.in-Ok.ensures.unit) ∙ ap commands_of (sym c.in-Ok.ensures.text) ∙ c.in-Ok.ensures.said),
  ⊎_elim (λ was. was) (λ now. absurd (cc now.0)) c.in-Ok-keep_commit.ensures.commits.doubted,
)

pub returns-in-Err-Room-clause-answer : goal.returns-in-Err-Room-clause-answer
returns-in-Err-Room-clause-answer g c = (
  λ steady. search rules,
  ⊎_elim (λ was. was) (λ now. absurd (cc now.0)) c.keep_commit.ensures.commits.doubted,
)

pub returns-in-Err-Doubt-clause-answer : goal.returns-in-Err-Doubt-clause-answer
returns-in-Err-Doubt-clause-answer g c =
    let unit = unit_lines c.saturating_add-number.result c.args.writes.now in (
      λ steady. search rules,
      ⊎_elim (λ was. inl was) (λ now. inr (c.saturating_add-number.result, now.1 ∙ c.in-Ok.ensures.text, c.in-Ok.ensures.unit, sym (unit_said unit c.in-Ok.ensures.unit) ∙ ap commands_of (sym c.in-Ok.ensures.text) ∙ c.in-Ok.ensures.said)) c.keep_commit.ensures.commits.doubted,
    )

pub returns-in-Err-Doubt-clause-moves : goal.returns-in-Err-Doubt-clause-moves
returns-in-Err-Doubt-clause-moves g c = kept_beside c.args.table.now c.keep_commit.new.self c.keep_commit.ensures.same c.keep_commit.ensures.commits.opened
