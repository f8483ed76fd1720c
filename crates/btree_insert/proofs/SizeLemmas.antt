-- How many keys and pages a tree has.
use Rattle.std.proofs.Common.{◌≡◌, ℕ, zero, suc, ◌+◌, ◌-◌, ◌*◌, ◌/◌, ◌^◌, ◌≤◌, List, [], ◌∷◌, length, ap, ◌∙◌, subst, arith, length-append}
use Rattle.std.proofs.Math.Nat.{pow-zero, pow-succ', mul-le-mul_right}
use Rattle.std.proofs.lemmas.Nat.{le-div}
use Rattle.btree_node.specs.Lists.{Element}
use Rattle.page_store.specs.PageMap.{PageMap}
use Rattle.btree_insert.specs.declared.tree.Tree.{Tree}
use Rattle.btree_insert.specs.PageTrees.{Fan, TreeAt, RootAt, Holds}
use Rattle.btree_insert.proofs.SonsAroundLemmas.{Stands}
use Rattle.btree_insert.proofs.HeadNodeLemmas.{root_tree}

one_more : (n m : ℕ) → suc n * m ≡ n * m + m
one_more n m = grind arith

fan_keys : (m : ℕ) (tree : Stands) → ((s : ℕ) (xs : List Element) (us : List ℕ) → tree s xs us → m ≤ length xs + 1) → (sons : List ℕ) (els es : List Element) (us : List ℕ) → Fan tree sons els es us → length els * m + m ≤ length es + 1
fan_keys m tree at [] els es us fan = absurd fan
fan_keys m tree at (s ∷ []) [] es us fan = let here = at s es us fan in omega arith
fan_keys m tree at (s ∷ []) (e ∷ els) es us fan = absurd fan
fan_keys m tree at (s ∷ (t ∷ ss)) [] es us fan = absurd fan
fan_keys m tree at (s ∷ (t ∷ ss)) (e ∷ els) es us (xs, ys, here, rest, first, more, es_is, us_is) =
    let front = at s xs here first in
    let back = fan_keys m tree at (t ∷ ss) els ys rest more in
    let size = ap length es_is ∙ length-append xs (e ∷ ys) in
    omega (arith, one_more (length els) m)

-- a tree has at least so many keys
pub tree_keys : (k : ℕ) (pages : PageMap) (least h p : ℕ) (es : List Element) (us : List ℕ) → TreeAt k pages least (suc h) p es us → (least + 1) * (k + 1) ^ h ≤ length es + 1
tree_keys k pages least zero p es us (n, below, spells, least_is, body, us_is) =
    let size = ap length body.1 in
    let power = ap (λ x. (least + 1) * x) (pow-zero (k + 1)) in
    omega arith
tree_keys k pages least (suc h) p es us (n, below, spells, least_is, body, us_is) =
    let m = (k + 1) ^ suc h in
    let each : (s : ℕ) (xs : List Element) (vs : List ℕ) → TreeAt k pages k (suc h) s xs vs → m ≤ length xs + 1 = λ s xs vs tree. let keys = tree_keys k pages k h s xs vs tree in omega (arith, pow-succ' (k + 1) h) in
    let all = fan_keys m (TreeAt k pages k (suc h)) each n.sons.items n.elements.items es below body.1 in
    let le : least + 1 ≤ length n.elements.items + 1 = omega arith in
    let up = mul-le-mul_right m le in
    omega (arith, all, up, one_more (length n.elements.items) m)

fan_most : (m : ℕ) (tree : Stands) → ((s : ℕ) (xs : List Element) (us : List ℕ) → tree s xs us → length xs + 1 ≤ m) → (sons : List ℕ) (els es : List Element) (us : List ℕ) → Fan tree sons els es us → length es + 1 ≤ length els * m + m
fan_most m tree at [] els es us fan = absurd fan
fan_most m tree at (s ∷ []) [] es us fan = let here = at s es us fan in omega arith
fan_most m tree at (s ∷ []) (e ∷ els) es us fan = absurd fan
fan_most m tree at (s ∷ (t ∷ ss)) [] es us fan = absurd fan
fan_most m tree at (s ∷ (t ∷ ss)) (e ∷ els) es us (xs, ys, here, rest, first, more, es_is, us_is) =
    let front = at s xs here first in
    let back = fan_most m tree at (t ∷ ss) els ys rest more in
    let size = ap length es_is ∙ length-append xs (e ∷ ys) in
    omega (arith, one_more (length els) m)

-- a tree has at most so many keys
pub tree_most : (k : ℕ) (pages : PageMap) (least h p : ℕ) (es : List Element) (us : List ℕ) → TreeAt k pages least h p es us → length es + 1 ≤ (2 * k + 1) ^ h
tree_most k pages least zero p es us tree = absurd tree
tree_most k pages least (suc zero) p es us (n, below, spells, least_is, body, us_is) =
    let size = ap length body.1 in
    let most = spells.stands.most in
    let power = pow-succ' (2 * k + 1) 0 ∙ ap (λ x. (2 * k + 1) * x) (pow-zero (2 * k + 1)) in
    omega (arith, power)
tree_most k pages least (suc (suc h)) p es us (n, below, spells, least_is, body, us_is) =
    let m = (2 * k + 1) ^ suc h in
    let each : (s : ℕ) (xs : List Element) (vs : List ℕ) → TreeAt k pages k (suc h) s xs vs → length xs + 1 ≤ m = λ s xs vs tree. tree_most k pages k (suc h) s xs vs tree in
    let all = fan_most m (TreeAt k pages k (suc h)) each n.sons.items n.elements.items es below body.1 in
    let le : length n.elements.items + 1 ≤ 2 * k + 1 = let most = spells.stands.most in omega arith in
    let up = mul-le-mul_right m le in
    omega (arith, all, up, one_more (length n.elements.items) m, pow-succ' (2 * k + 1) (suc h))

fan_pages : (k : ℕ) (tree : Stands) → ((s : ℕ) (xs : List Element) (us : List ℕ) → tree s xs us → k * length us ≤ length xs) → (sons : List ℕ) (els es : List Element) (us : List ℕ) → Fan tree sons els es us → k * length us + length els ≤ length es
fan_pages k tree at [] els es us fan = absurd fan
fan_pages k tree at (s ∷ []) [] es us fan = let here = at s es us fan in omega arith
fan_pages k tree at (s ∷ []) (e ∷ els) es us fan = absurd fan
fan_pages k tree at (s ∷ (t ∷ ss)) [] es us fan = absurd fan
fan_pages k tree at (s ∷ (t ∷ ss)) (e ∷ els) es us (xs, ys, here, rest, first, more, es_is, us_is) =
    let front = at s xs here first in
    let back = fan_pages k tree at (t ∷ ss) els ys rest more in
    let size = ap length es_is ∙ length-append xs (e ∷ ys) in
    let count = ap (λ n. k * n) (ap length us_is ∙ length-append here rest) in
    omega arith

-- a tree has at most so many pages
pub tree_pages : (k : ℕ) (pages : PageMap) (least h p : ℕ) (es : List Element) (us : List ℕ) → TreeAt k pages least (suc h) p es us → k * length us + least ≤ length es + k
tree_pages k pages least zero p es us (n, below, spells, least_is, body, us_is) =
    let size = ap length body.1 in
    let count = ap (λ m. k * m) (ap length (us_is ∙ ap (λ vs. p ∷ vs) body.2)) in
    omega arith
tree_pages k pages least (suc h) p es us (n, below, spells, least_is, body, us_is) =
    let each : (s : ℕ) (xs : List Element) (vs : List ℕ) → TreeAt k pages k (suc h) s xs vs → k * length vs ≤ length xs = λ s xs vs tree. let fit = tree_pages k pages k h s xs vs tree in omega arith in
    let all = fan_pages k (TreeAt k pages k (suc h)) each n.sons.items n.elements.items es below body.1 in
    let count = ap (λ m. k * m) (ap length us_is) in
    omega arith

turned : (k n : ℕ) → k * suc n ≡ n * k + k
turned k n = grind arith

quotient : (k used count : ℕ) → 1 ≤ k → k * used + 1 ≤ count + k → used ≤ 1 + (count - 1) / k
quotient k zero count order fit = omega arith
quotient k (suc used) count order fit =
    let low : used * k ≤ count - 1 = omega (arith, turned k used) in
    let q = le-div used (count - 1) k order low in
    omega arith

-- how few keys a tree of a height has
pub keys_bound : (pages : PageMap) (t : Tree) (es : List Element) (us : List ℕ) → 1 ≤ t.height → Holds pages t es us → 2 * (t.order + 1) ^ (t.height - 1) ≤ t.count + 1
keys_bound pages t es us some holds =
    let is : t.height ≡ suc (t.height - 1) = omega arith in
    let tree = subst (λ h. TreeAt t.order pages 1 h t.root es us) is (root_tree t.order pages t.height t.root es us some holds.tree) in
    omega (arith, tree_keys t.order pages 1 (t.height - 1) t.root es us tree, holds.count)

root_most : (k : ℕ) (pages : PageMap) (h root : ℕ) (es : List Element) (us : List ℕ) → RootAt k pages h root es us → length es + 1 ≤ (2 * k + 1) ^ h
root_most k pages zero root es us (root_is, es_is, us_is) =
    let size = ap length es_is in
    omega (arith, pow-zero (2 * k + 1))
root_most k pages (suc h) root es us tree = tree_most k pages 1 (suc h) root es us tree

-- how many it has at most
pub most_keys_bound : (pages : PageMap) (t : Tree) (es : List Element) (us : List ℕ) → Holds pages t es us → t.count + 1 ≤ (2 * t.order + 1) ^ t.height
most_keys_bound pages t es us holds =
    omega (arith, root_most t.order pages t.height t.root es us holds.tree, holds.count)

-- how many pages a tree of so many keys has at most
pub pages_bound : (pages : PageMap) (t : Tree) (es : List Element) (us : List ℕ) → 1 ≤ t.order → 1 ≤ t.height → Holds pages t es us → t.used ≤ 1 + (t.count - 1) / t.order
pages_bound pages t es us order some holds =
    let is : t.height ≡ suc (t.height - 1) = omega arith in
    let tree = subst (λ h. TreeAt t.order pages 1 h t.root es us) is (root_tree t.order pages t.height t.root es us some holds.tree) in
    let fit = tree_pages t.order pages 1 (t.height - 1) t.root es us tree in
    let used = ap (λ n. t.order * n) holds.used in
    quotient t.order t.used t.count order (omega (arith, fit, used, holds.count))
