use Rattle.std.proofs.Common.{◌≡◌, ◌≤◌, ◌∷◌, [], List, ℕ, length, sym, subst, rules}
use Rattle.std.specs.String.{string_bytes}
use Rattle.commit_paper.specs.Text.{IsUnit}
use Rattle.file_session.specs.LogOver.{head_text}
use Rattle.file_session.proofs.HeadLemmas.{head_short, head_unit}
use Rattle.file_session.proofs.log_head.text_of_head.Goals as goal

pub returns-clause-unit : goal.returns-clause-unit
returns-clause-unit c =
    let is : string_bytes c.write.new.self ≡ head_text c.args.pages c.args.sum = search rules in
    subst (λ (t : List ℕ). IsUnit (t ∷ [])) (sym is) (head_unit c.args.pages c.args.sum c.ranges.pages.fits c.ranges.sum.fits)

pub returns-clause-short : goal.returns-clause-short
returns-clause-short c =
    let is : string_bytes c.write.new.self ≡ head_text c.args.pages c.args.sum = search rules in
    subst (λ (t : List ℕ). length t ≤ 64) (sym is) (head_short c.args.pages c.args.sum c.ranges.pages.fits c.ranges.sum.fits)
