-- The sons of a page one after another.
use Rattle.std.proofs.Common.{◌≡◌, ℕ, zero, suc, ◌+◌, ◌<◌, Bool, false, eqb, List, [], ◌∷◌, ◌++◌, length, get_or, take, drop, ap, sym, ◌∙◌, arith, length-append}
use Rattle.std.proofs.lemmas.Bool.Decides.{nat_tests}
use Rattle.btree_node.specs.Lists.{Element}
use Rattle.btree_node.specs.declared.node.Node.{Node}
use Rattle.btree_insert.specs.PageTrees.{Fan, Body}
use Rattle.btree_insert.proofs.SonsAroundLemmas.{Stands}

-- the last son
pub fan_last : (tree : Stands) (sons : List ℕ) (els es : List Element) (us : List ℕ) → length els ≡ 0 → Fan tree sons els es us → tree (get_or sons 0 0) es us
fan_last tree [] els es us none fan = absurd fan
fan_last tree (s ∷ []) [] es us none fan = fan
fan_last tree (s ∷ []) (e ∷ els) es us none fan = absurd fan
fan_last tree (s ∷ (t ∷ ss)) [] es us none fan = absurd fan
fan_last tree (s ∷ (t ∷ ss)) (e ∷ els) es us none fan = absurd (omega arith)

-- the first son, the element behind it, and the rest
pub record FirstSon (tree : Stands) (sons : List ℕ) (els es : List Element) (us : List ℕ) : Type 0 where
  pub xs : List Element
  pub ys : List Element
  pub here : List ℕ
  pub rest : List ℕ
  pub first : tree (get_or sons 0 0) xs here
  pub more : Fan tree (drop 1 sons) (drop 1 els) ys rest
  pub es_is : (x : Element) → x ≡ get_or els 0 x → es ≡ xs ++ x ∷ ys
  pub us_is : us ≡ here ++ rest

-- the first son, the key behind it, and the others
pub fan_first : (tree : Stands) (sons : List ℕ) (els es : List Element) (us : List ℕ) → 0 < length els → Fan tree sons els es us → FirstSon tree sons els es us
fan_first tree [] els es us some fan = absurd fan
fan_first tree (s ∷ []) [] es us some fan = absurd (omega arith)
fan_first tree (s ∷ []) (e ∷ els) es us some fan = absurd fan
fan_first tree (s ∷ (t ∷ ss)) [] es us some fan = absurd fan
fan_first tree (s ∷ (t ∷ ss)) (e ∷ els) es us some (xs, ys, here, rest, first, more, es_is, us_is) = record {
  xs = xs;
  ys = ys;
  here = here;
  rest = rest;
  first = first;
  more = more;
  es_is = λ x is. es_is ∙ ap (λ y. xs ++ y ∷ ys) (sym is);
  us_is = us_is;
}

-- the pages of a leaf and of an inner page
pub one_page : (us : List ℕ) (p : ℕ) (below : List ℕ) → us ≡ p ∷ below → length us ≡ suc (length below)
one_page us p below is = ap length is

-- the pages of two parts are as many as both
pub pages_of_both : (us here rest : List ℕ) → us ≡ here ++ rest → length us ≡ length here + length rest
pages_of_both us here rest is = ap length is ∙ length-append here rest

-- the first element alone
pub take_one : (els : List Element) (x : Element) → 0 < length els → x ≡ get_or els 0 x → take 1 els ≡ x ∷ []
take_one [] x some is = absurd (omega arith)
take_one (e ∷ els) x some is = ap (λ (y : Element). y ∷ []) (sym is)

-- the sons of an inner node and the keys between them
pub body_fan : (tree : Stands) (h : ℕ) (n : Node) (es : List Element) (us : List ℕ) → 0 < h → Body tree h n es us → Fan tree n.sons.items n.elements.items es us
body_fan tree zero n es us some body = absurd (omega arith)
body_fan tree (suc h) n es us some body = body.1

-- a list that isn't told to be empty has an element
pub nonempty : (els : List Element) (b : Bool) → b ≡ eqb (length els) 0 → b ≡ false → 0 < length els
nonempty els b is not = grind (arith, nat_tests)
