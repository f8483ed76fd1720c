-- Pages of a level one after another, and pages that are added behind the last.
use Rattle.std.proofs.Common.{◌≡◌, ℕ, zero, suc, ◌<◌, Some, None, cond, List, [], ◌∷◌, ◌++◌, length, slice_get, refl, ap, sym, ◌∙◌, subst, arith, append_assoc, append-nil}
use Rattle.std.proofs.Math.Dec.{eqb-suc-zero}
use Rattle.btree_node.specs.declared.node.Node.{Node}
use Rattle.btree_node.specs.Lists.{Element}
use Rattle.btree_insert.specs.PageTrees.{Fan, Body, Spells, TreeAt}
use Rattle.btree_insert.proofs.SonsAroundLemmas.{Stands, fan_move}
use Rattle.btree_insert.proofs.ChangedTreeLemmas.{Respells, tree_respelt}
use Rattle.btree_insert.proofs.Membership.{each_in}
use Rattle.btree_delete.specs.CleanFile.{in_file}

-- sons with an element behind each
abbrev pub Front : Stands → List ℕ → List Element → List Element → List ℕ → Type 0
Front tree [] [] es us = (es ≡ []) × (us ≡ [])
Front tree [] (e ∷ els) es us = ⊥
Front tree (s ∷ ss) [] es us = ⊥
Front tree (s ∷ ss) (e ∷ els) es us =
    (xs : List Element) × (ys : List Element) × (here : List ℕ) × (rest : List ℕ) × tree s xs here × Front tree ss els ys rest × (es ≡ xs ++ e ∷ ys) × (us ≡ here ++ rest)

regroup : (xs : List Element) (e : Element) (ys zs : List Element) → xs ++ e ∷ (ys ++ zs) ≡ (xs ++ e ∷ ys) ++ zs
regroup xs e ys zs = sym (append_assoc xs (e ∷ ys) zs)

-- one more son, with the element behind it
pub front_push : (tree : Stands) (ss : List ℕ) (els es : List Element) (us : List ℕ) (s : ℕ) (e : Element) (xs : List Element) (here : List ℕ) → Front tree ss els es us → tree s xs here → Front tree (ss ++ s ∷ []) (els ++ e ∷ []) (es ++ (xs ++ e ∷ [])) (us ++ here)
front_push tree [] [] es us s e xs here (es_is, us_is) new =
    (xs, [], here, [], new, (refl, refl), ap (λ (zs : List Element). zs ++ (xs ++ e ∷ [])) es_is, ap (λ (vs : List ℕ). vs ++ here) us_is ∙ sym (append-nil here))
front_push tree [] (x ∷ els) es us s e xs here front new = absurd front
front_push tree (t ∷ ss) [] es us s e xs here front new = absurd front
front_push tree (t ∷ ss) (x ∷ els) es us s e xs here (ws, ys, mine, rest, first, more, es_is, us_is) new =
    (ws, ys ++ (xs ++ e ∷ []), mine, rest ++ here, first, front_push tree ss els ys rest s e xs here more new, ap (λ (zs : List Element). zs ++ (xs ++ e ∷ [])) es_is ∙ append_assoc ws (x ∷ ys) (xs ++ e ∷ []), ap (λ (vs : List ℕ). vs ++ here) us_is ∙ append_assoc mine rest here)

-- the last son, with no element behind it
pub front_end : (tree : Stands) (ss : List ℕ) (els es : List Element) (us : List ℕ) (s : ℕ) (xs : List Element) (here : List ℕ) → Front tree ss els es us → tree s xs here → Fan tree (ss ++ s ∷ []) els (es ++ xs) (us ++ here)
front_end tree [] [] es us s xs here (es_is, us_is) new =
    subst (λ (vs : List ℕ). tree s (es ++ xs) vs) (sym (ap (λ (vs : List ℕ). vs ++ here) us_is)) (subst (λ (zs : List Element). tree s zs here) (sym (ap (λ (zs : List Element). zs ++ xs) es_is)) new)
front_end tree [] (x ∷ els) es us s xs here front new = absurd front
front_end tree (t ∷ ss) [] es us s xs here front new = absurd front
front_end tree (t ∷ []) (x ∷ []) es us s xs here (ws, ys, mine, rest, first, more, es_is, us_is) new =
    (ws, ys ++ xs, mine, rest ++ here, first, front_end tree [] [] ys rest s xs here more new, ap (λ (zs : List Element). zs ++ xs) es_is ∙ append_assoc ws (x ∷ ys) xs, ap (λ (vs : List ℕ). vs ++ here) us_is ∙ append_assoc mine rest here)
front_end tree (t ∷ []) (x ∷ (y ∷ els)) es us s xs here (ws, ys, mine, rest, first, more, es_is, us_is) new = absurd more
front_end tree (t ∷ (u ∷ ss)) (x ∷ els) es us s xs here (ws, ys, mine, rest, first, more, es_is, us_is) new =
    (ws, ys ++ xs, mine, rest ++ here, first, front_end tree (u ∷ ss) els ys rest s xs here more new, ap (λ (zs : List Element). zs ++ xs) es_is ∙ append_assoc ws (x ∷ ys) xs, ap (λ (vs : List ℕ). vs ++ here) us_is ∙ append_assoc mine rest here)

-- what stands for more
pub front_map : (tree new : Stands) → ((s : ℕ) (xs : List Element) (us : List ℕ) → tree s xs us → new s xs us) → (ss : List ℕ) (els es : List Element) (us : List ℕ) → Front tree ss els es us → Front new ss els es us
front_map tree new move [] [] es us front = front
front_map tree new move [] (e ∷ els) es us front = absurd front
front_map tree new move (s ∷ ss) [] es us front = absurd front
front_map tree new move (s ∷ ss) (e ∷ els) es us (xs, ys, here, rest, first, more, es_is, us_is) =
    (xs, ys, here, rest, move s xs here first, front_map tree new move ss els ys rest more, es_is, us_is)

pub fan_map : (tree new : Stands) → ((s : ℕ) (xs : List Element) (us : List ℕ) → tree s xs us → new s xs us) → (ss : List ℕ) (els es : List Element) (us : List ℕ) → Fan tree ss els es us → Fan new ss els es us
fan_map tree new move ss els es us fan =
    fan_move tree new (λ q. Unit {0}) (λ s xs vs is same. move s xs vs is) ss els es us fan (each_in (λ q. Unit {0}) us (λ q is. tt))

-- a page that is there is there when pages are added
got_before : (stored more : List (List ℕ)) (q : ℕ) (page : List ℕ) → slice_get stored q ≡ Some page → slice_get (stored ++ more) q ≡ Some page
got_before [] more q page is = absurd (cc)
got_before (p ∷ stored) more zero page is = is
got_before (p ∷ stored) more (suc q) page is = got_before stored more q page is

pub in_file_is : (stored : List (List ℕ)) (q : ℕ) → in_file stored (suc q) ≡ slice_get stored (suc q)
in_file_is stored q = ap (λ b. cond b None (slice_get stored (suc q))) (eqb-suc-zero q)

pub kept_before : (stored more : List (List ℕ)) (q : ℕ) (page : List ℕ) → in_file stored q ≡ Some page → in_file (stored ++ more) q ≡ Some page
kept_before stored more zero page is = absurd (cc)
kept_before stored more (suc q) page is = in_file_is (stored ++ more) q ∙ got_before stored more (suc q) page (sym (in_file_is stored q) ∙ is)

-- and the new one has the next number
got_next : (stored : List (List ℕ)) (page : List ℕ) (more : List (List ℕ)) → slice_get (stored ++ page ∷ more) (length stored) ≡ Some page
got_next [] page more = refl
got_next (p ∷ stored) page more = got_next stored page more

pub new_page : (stored : List (List ℕ)) (page : List ℕ) → 0 < length stored → in_file (stored ++ page ∷ []) (length stored) ≡ Some page
new_page [] page some = absurd (omega arith)
new_page (p ∷ stored) page some = in_file_is (p ∷ (stored ++ page ∷ [])) (length stored) ∙ got_next stored page []

-- each page that spelled a node spells it still
spelt_before : (k : ℕ) (stored more : List (List ℕ)) (q : ℕ) → Respells (Spells k (in_file stored)) (Spells k (in_file (stored ++ more))) q
spelt_before k stored more q n spelled = record { page = kept_before stored more q _ spelled.page; stands = spelled.stands }

-- so each tree stands still
pub tree_before : (k : ℕ) (stored more : List (List ℕ)) (least h p : ℕ) (es : List Element) (us : List ℕ) → TreeAt k (in_file stored) least h p es us → TreeAt k (in_file (stored ++ more)) least h p es us
tree_before k stored more least h p es us tree =
    tree_respelt (Spells k (in_file stored)) (Spells k (in_file (stored ++ more))) k least h p es us tree (each_in (Respells (Spells k (in_file stored)) (Spells k (in_file (stored ++ more)))) us (λ q is. spelt_before k stored more q))

pub body_before : (k : ℕ) (stored more : List (List ℕ)) (h : ℕ) (n : Node) (es : List Element) (us : List ℕ) → Body (TreeAt k (in_file stored) k h) h n es us → Body (TreeAt k (in_file (stored ++ more)) k h) h n es us
body_before k stored more zero n es us body = body
body_before k stored more (suc h) n es us body =
    (body.0, fan_map (TreeAt k (in_file stored) k (suc h)) (TreeAt k (in_file (stored ++ more)) k (suc h)) (λ s xs vs tree. tree_before k stored more k (suc h) s xs vs tree) n.sons.items n.elements.items es us body.1)
