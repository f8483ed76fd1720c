use Rattle.std.proofs.Common.{◌≡◌, ℕ, List, [], Option, Some, unwrap_or, get_or, ap, sym, ◌∙◌, refl, arith}
use Rattle.std.specs.FinMap.{empty, get, get-empty}
use Rattle.std.specs.Ordering.{nat_cmp}
use Rattle.std.specs.Cmp.Lexicographic.{slice_cmp}
use Rattle.rec_types.proofs.ContentsLemmas.{get-set_to-here, get-set_to-there}
use Rattle.page_rescue.specs.Examples.{a, key_b, x, y, x_at_a, y_at_a}
use Rattle.page_rescue.proofs.GrowthLemmas.{grows_by}
use Rattle.page_rescue.proofs.laws.growth_by_example.Goals as goal

pub returns-clause-new : goal.returns-clause-new
returns-clause-new c = grows_by x_at_a key_b y (get-set_to-there empty a (Some x) key_b refl ∙ get-empty (slice_cmp nat_cmp) key_b)

-- what is y isn't x
apart : (o : Option (List ℕ)) → o ≡ Some y → o ≡ Some x → ⊥
apart o is was =
    let same : 121 ≡ 120 = ap (λ (o : Option (List ℕ)). get_or (unwrap_or o []) 0 0) (sym is ∙ was) in
    omega (arith, same)

pub returns-clause-over : goal.returns-clause-over
returns-clause-over c = λ grew. apart (get y_at_a a) (get-set_to-here empty a (Some y)) (grew.stays a x (get-set_to-here empty a (Some x)))
