use Rattle.std.proofs.Common.{◌≡◌, ℕ, List, [], ◌∷◌, ◌++◌, length, get_or, refl, sym, ap, ◌∙◌, arith, length-append}
use Rattle.btree_node.specs.Lists.{Element}
use Rattle.btree_insert.specs.Examples.{ax, by}
use Rattle.btree_insert.proofs.laws.first_tellings.Goals as goal

pub returns-clause-one : goal.returns-clause-one
returns-clause-one c = record { front = ax ∷ []; rest = by ∷ []; whole = refl; some = λ none. absurd (cc); takes = (refl, ([], ax, refl, refl)) }

pub returns-clause-both : goal.returns-clause-both
returns-clause-both c = record { front = ax ∷ by ∷ []; rest = []; whole = refl; some = λ none. absurd (cc); takes = (refl, (ax ∷ [], by, refl, refl)) }

pub returns-clause-stopped : goal.returns-clause-stopped
returns-clause-stopped c = record { front = ax ∷ []; rest = by ∷ []; whole = refl; some = λ none. absurd (cc); takes = (refl, refl) }

pub returns-clause-nothing : goal.returns-clause-nothing
returns-clause-nothing c = λ is. let no = is.some is.takes.0 in absurd (cc)

-- the last of two is the second
last_of_two : (x y e : Element) (front : List Element) → x ∷ y ∷ [] ≡ front ++ e ∷ [] → e ≡ y
last_of_two x y e [] is = absurd (cc)
last_of_two x y e (a ∷ []) is = cc
last_of_two x y e (a ∷ (b ∷ front)) is = absurd (omega (arith, ap length is, length-append front (e ∷ [])))

pub returns-clause-other : goal.returns-clause-other
returns-clause-other c = λ is.
    let last = is.takes.1 in
    let e_is : last.1 ≡ by = last_of_two ax by last.1 last.0 (sym is.takes.0 ∙ last.2) in
    absurd (omega (arith, ap (λ (e : Element). get_or e.0 0 0) e_is, ap (λ (k : List ℕ). get_or k 0 0) last.3))

pub returns-clause-part : goal.returns-clause-part
returns-clause-part c = (refl, record { front = ax ∷ []; rest = by ∷ []; whole = refl; took = refl })

pub returns-clause-behind : goal.returns-clause-behind
returns-clause-behind c = λ is.
    let whole = is.1.whole ∙ ap (λ (xs : List Element). xs ++ is.1.rest) is.1.took in
    absurd (omega (arith, ap (λ (xs : List Element). get_or (get_or xs 0 ax).0 0 0) whole))
