use Rattle.std.proofs.Common.{inl, inr, ⊎_elim, ◌∙◌, sym, subst}
use Rattle.file_session.specs.Closing.{HasRecords}
use Rattle.recfile.proofs.laws.sessions_and_crashes.Goals as goal

pub returns : goal.returns
returns c = λ one two old order later first second unclosed other left safe crashed again crash.
    ⊎_elim
    (λ stands. (
      stands.0,
      ⊎_elim (λ was. inl (stands.1 ∙ was.1)) (λ new. inr (inl (subst (HasRecords order first) (sym stands.1) new.1))) (safe.any_moment two.first crashed),
    ))
    (λ new. (new.0, inr (inr new.1)))
    (again.any_moment left crash)
