use Rattle.std.proofs.Common.{◌≡◌, List, [], ◌∷◌, ◌++◌, length, refl, ap, arith, length-append}
use Rattle.btree_node.specs.Lists.{Element}
use Rattle.btree_insert.specs.Examples.{ax, by}
use Rattle.btree_insert.proofs.laws.tellings.Goals as goal

-- a front and what comes behind it are longer than the front
longer : (es front rest : List Element) (next : Element) → es ≡ front ++ next ∷ rest → front ≡ es → ⊥
longer es front rest next whole all =
    let e = ap length whole in
    let f = ap length all in
    omega (arith, e, f, length-append front (next ∷ rest))

pub returns-clause-front : goal.returns-clause-front
returns-clause-front c = (refl, record { front = ax ∷ []; next = by; rest = []; whole = refl; took = refl })

pub returns-clause-whole : goal.returns-clause-whole
returns-clause-whole c = λ told. longer (ax ∷ by ∷ []) told.1.front told.1.rest told.1.next told.1.whole told.1.took

pub returns-clause-damaged : goal.returns-clause-damaged
returns-clause-damaged c = λ n told. let no = told.0 in absurd (cc)

pub returns-clause-some : goal.returns-clause-some
returns-clause-some c = (ax ∷ [], refl)
