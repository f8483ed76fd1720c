-- The elements of a tree as a function of the pages.
use Rattle.std.proofs.Common.{◌≡◌, ℕ, zero, suc, ◌≤◌, Option, List, [], ◌∷◌, ◌++◌, unwrap_or, refl, ap, sym, ◌∙◌, arith}
use Rattle.btree_node.specs.declared.layout.Layout.{Layout}
use Rattle.btree_node.specs.declared.node.Node.{Node}
use Rattle.btree_node.specs.Layout.{second_layout}
use Rattle.btree_node.specs.Lists.{Element}
use Rattle.btree_node.specs.Reading.{node_at}
use Rattle.btree_node.specs.Spelling.{spelling_in}
use Rattle.btree_node.proofs.DecodeLemmas.{reads, node_reads}
use Rattle.page_store.specs.PageMap.{PageMap}
use Rattle.btree_insert.specs.declared.tree.Tree.{Tree}
use Rattle.btree_insert.specs.Classes.{between_trees}
use Rattle.std.specs.FinMap.{get}
use Rattle.rec_types.specs.Contents.{set_to}
use Rattle.btree_insert.specs.Contents.{lookup_in, set_in, contents_of}
use Rattle.btree_insert.specs.Elements.{elements_below, elements_of, contents_at}
use Rattle.btree_insert.proofs.ContentsLemmas.{contents_of-set, get-contents_of}
use Rattle.btree_insert.specs.PageTrees.{SpellsIn, Fan, TreeOf, RootOf, HoldsIn, Holds}
use Rattle.btree_insert.proofs.SonsAroundLemmas.{Stands}

fan_elements : (tree : Stands) (elements : ℕ → List Element) → ((s : ℕ) (xs : List Element) (us : List ℕ) → tree s xs us → elements s ≡ xs) → (sons : List ℕ) (els es : List Element) (us : List ℕ) → Fan tree sons els es us → between_trees elements els sons ≡ es
fan_elements tree elements at [] els es us fan = absurd fan
fan_elements tree elements at (s ∷ []) [] es us fan = at s es us fan
fan_elements tree elements at (s ∷ []) (e ∷ els) es us fan = absurd fan
fan_elements tree elements at (s ∷ (t ∷ ss)) [] es us fan = absurd fan
fan_elements tree elements at (s ∷ (t ∷ ss)) (e ∷ els) es us (xs, ys, here, rest, first, more, es_is, us_is) =
    ap (λ (zs : List Element). zs ++ e ∷ between_trees elements els (t ∷ ss)) (at s xs here first) ∙ ap (λ (zs : List Element). xs ++ e ∷ zs) (fan_elements tree elements at (t ∷ ss) els ys rest more) ∙ sym es_is

tree_elements : (spells : ℕ → Node → Type 0) (nodes : ℕ → Node) → ((p : ℕ) (n : Node) → spells p n → nodes p ≡ n) → (fill least h p : ℕ) (es : List Element) (us : List ℕ) → TreeOf spells fill least h p es us → elements_below nodes h p ≡ es
tree_elements spells nodes read fill least zero p es us tree = absurd tree
tree_elements spells nodes read fill least (suc zero) p es us (n, below, spelled, some, body, us_is) = ap (λ (m : Node). m.elements.items) (read p n spelled) ∙ sym body.1
tree_elements spells nodes read fill least (suc (suc h)) p es us (n, below, spelled, some, body, us_is) =
    let elements = elements_below nodes (suc h) in
    ap (λ (m : Node). between_trees elements m.elements.items m.sons.items) (read p n spelled)
    ∙ fan_elements (TreeOf spells fill fill (suc h)) elements (λ s xs vs tree. tree_elements spells nodes read fill fill (suc h) s xs vs tree) n.sons.items n.elements.items es below body.1

root_elements : (spells : ℕ → Node → Type 0) (nodes : ℕ → Node) → ((p : ℕ) (n : Node) → spells p n → nodes p ≡ n) → (fill h p : ℕ) (es : List Element) (us : List ℕ) → RootOf spells fill h p es us → elements_below nodes h p ≡ es
root_elements spells nodes read fill zero p es us (root_is, es_is, us_is) = sym es_is
root_elements spells nodes read fill (suc h) p es us tree = tree_elements spells nodes read fill 1 (suc h) p es us tree

-- the node at the fixed places of page p in a layout
abbrev pub node_in : Layout → ℕ → PageMap → ℕ → Node
node_in layout k pages p = node_at layout k (unwrap_or (pages p) [])

spelled_node : (layout : Layout) (k : ℕ) (pages : PageMap) → k ≤ 16 → (p : ℕ) (n : Node) → SpellsIn layout k pages p n → node_in layout k pages p ≡ n
spelled_node layout k pages small p n is =
    let page = spelling_in layout n k in
    ap (λ o. node_at layout k (unwrap_or o [])) is.page ∙ node_reads layout k page n (reads layout k page n small is.stands refl)

-- the elements that a held tree's pages give are the tree's
pub held_in : (layout : Layout) (pages : PageMap) (t : Tree) (es : List Element) (us : List ℕ) → t.order ≤ 16 → HoldsIn layout pages t es us → elements_below (node_in layout t.order pages) t.height t.root ≡ es
held_in layout pages t es us small holds =
    root_elements (SpellsIn layout t.order pages) (node_in layout t.order pages) (spelled_node layout t.order pages small) t.order t.height t.root es us holds.tree

pub held_elements : (pages : PageMap) (t : Tree) (es : List Element) (us : List ℕ) → t.order ≤ 16 → Holds pages t es us → elements_of t.order pages t.height t.root ≡ es
held_elements pages t es us small holds = held_in second_layout pages t es us small holds

-- the contents of pages after a change at one key
pub contents_set : (old new : PageMap) (tree next : Tree) (es : List Element) (us vs key : List ℕ) (w : Option (List ℕ)) → tree.order ≤ 16 → next.order ≡ tree.order → Holds old tree es us → Holds new next (set_in key w es) vs
    → contents_at next.order new next.height next.root ≡ set_to (contents_at tree.order old tree.height tree.root) key w
contents_set old new tree next es us vs key w small same before after =
    ap contents_of (held_elements new next (set_in key w es) vs (omega (arith, same, small)) after) ∙ contents_of-set es key w before.ascends
    ∙ ap (λ (xs : List Element). set_to (contents_of xs) key w) (sym (held_elements old tree es us small before))

-- and what they have at a key
pub contents_get : (pages : PageMap) (tree : Tree) (es : List Element) (us key : List ℕ) → tree.order ≤ 16 → Holds pages tree es us → lookup_in key es ≡ get (contents_at tree.order pages tree.height tree.root) key
contents_get pages tree es us key small holds =
    sym (get-contents_of es key holds.ascends) ∙ ap (λ (xs : List Element). get (contents_of xs) key) (sym (held_elements pages tree es us small holds))
