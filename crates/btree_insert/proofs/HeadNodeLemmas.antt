-- The node at the head of a tree.
use Rattle.std.proofs.Common.{◌≡◌, ℕ, zero, suc, ◌-◌, ◌<◌, ◌≤◌, Some, None, List, [], ◌∷◌, ◌++◌, length, get_or, take, drop, ap, sym, ◌∙◌, subst, arith}
use Rattle.std.proofs.lemmas.List.{take-append-drop}
use Rattle.std.proofs.lemmas.Bool.Decides.{nat_tests}
use Rattle.btree_node.specs.declared.node.Node.{Node}
use Rattle.btree_node.specs.declared.node.NodeKind.{NodeKind}
use Rattle.btree_node.specs.declared.node.NodeKind.TheVariants.{Inner}
use Rattle.btree_node.specs.Lists.{Element, Each, Ascends, IsAt, IsPlace}
use Rattle.btree_node.proofs.ElementOrderLemmas.{Each-right}
use Rattle.btree_node.proofs.SplitLemmas.{around}
use Rattle.page_store.specs.PageMap.{PageMap}
use Rattle.btree_insert.specs.declared.bounds.Bounds.{Bounds}
use Rattle.btree_insert.specs.Bounds.{Over, Under, AreWithin, Between, son_bounds}
use Rattle.btree_insert.specs.Contents.{lookup_in}
use Rattle.btree_insert.specs.PageTrees.{Spells, Fan, Body, TreeAt, RootAt, kind_of_level}
use Rattle.btree_insert.proofs.SonsAroundLemmas.{Stands, focus, spot}
use Rattle.btree_insert.proofs.ElementMapLemmas.{lookup-between, lookup-here, lookup-none}

-- the elements of a page are among those of its tree
pub fan_each : (P : Element → Type 0) (tree : Stands) (sons : List ℕ) (els es : List Element) (us : List ℕ) → Fan tree sons els es us → Each P es → Each P els
fan_each P tree [] els es us fan each = absurd fan
fan_each P tree (s ∷ []) [] es us fan each = tt
fan_each P tree (s ∷ []) (e ∷ els) es us fan each = absurd fan
fan_each P tree (s ∷ (t ∷ ss)) [] es us fan each = absurd fan
fan_each P tree (s ∷ (t ∷ ss)) (e ∷ els) es us (xs, ys, here, rest, first, more, es_is, us_is) each =
    let rest_each = Each-right P xs (e ∷ ys) (subst (Each P) es_is each) in
    (rest_each.0, fan_each P tree (t ∷ ss) els ys rest more rest_each.1)

-- what holds of each element of a tree holds of its node's
pub body_each : (P : Element → Type 0) (tree : Stands) (h : ℕ) (n : Node) (es : List Element) (us : List ℕ) → Body tree h n es us → Each P es → Each P n.elements.items
body_each P tree zero n es us (kind, es_is, us_is) each = subst (Each P) es_is each
body_each P tree (suc h) n es us (kind, fan) each = fan_each P tree n.sons.items n.elements.items es us fan each

body_kind : (tree : Stands) (h : ℕ) (n : Node) (es : List Element) (us : List ℕ) → Body tree h n es us → n.kind ≡ kind_of_level (suc h)
body_kind tree zero n es us (kind, es_is, us_is) = kind
body_kind tree (suc h) n es us (kind, fan) = kind ∙ grind (arith, nat_tests)

-- the node at the head of the tree below page p, with h levels below it
pub record Top (k : ℕ) (pages : PageMap) (least height h p : ℕ) (es : List Element) (us : List ℕ) (b : Bounds) (n : Node) : Type 0 where
  pub below : List ℕ
  pub spells : Spells k pages p n
  pub least_is : least ≤ length n.elements.items
  pub kind : n.kind ≡ kind_of_level height
  pub within : AreWithin b n.elements.items
  pub body : Body (TreeAt k pages k h) h n es below
  pub us_is : us ≡ p ∷ below

-- the node at the head of a tree
pub top : (k : ℕ) (pages : PageMap) (least height h p : ℕ) (es : List Element) (us : List ℕ) (b : Bounds) → suc h ≡ height → TreeAt k pages least height p es us → Between b es
    → (n : Node) × Top k pages least height h p es us b n
top k pages least height h p es us b is tree between =
    let (n, below, spells, least_is, body, us_is) = subst (λ x. TreeAt k pages least x p es us) (sym is) tree in (
      n,
      record {
        below = below;
        spells = spells;
        least_is = least_is;
        kind = body_kind (TreeAt k pages k h) h n es below body ∙ ap kind_of_level is;
        within = record {
          over = body_each (λ e. Over b.low e.0) (TreeAt k pages k h) h n es below body between.within.over;
          under = body_each (λ e. Under b.high e.0) (TreeAt k pages k h) h n es below body between.within.under;
        };
        body = body;
        us_is = us_is;
      },
    )

-- a key that stands in the page
pub find_here : (tree : Stands) (h : ℕ) (n : Node) (es : List Element) (us : List ℕ) (key : List ℕ) (i : ℕ) (x : Element) → Body tree h n es us → Ascends es → IsAt n.elements.items key i → x ≡ get_or n.elements.items i x
    → Some x.1 ≡ lookup_in key es
find_here tree zero n es us key i x (kind, es_is, us_is) up place is =
    let els = n.elements.items in
    sym (ap (lookup_in key) (es_is ∙ around i els x place.within) ∙ ap (λ (y : Element). lookup_in key (take i els ++ y ∷ drop (suc i) els)) (sym is)
    ∙ lookup-here key (take i els) x (drop (suc i) els) place.below (ap (λ (y : Element). y.0) is ∙ place.here x))
find_here tree (suc h) n es us key i x (kind, fan) up place is =
    let at = spot tree tree (λ (q : ℕ). Unit {0}) (λ s xs vs t _. t) n.sons.items n.elements.items es us key i x fan up place is in
    sym (ap (lookup_in key) at.es_is ∙ lookup-here key at.pre x at.post at.below (ap (λ (y : Element). y.0) is ∙ place.here x))

-- a key that stands in no leaf
pub find_no_more : (tree : Stands) (h : ℕ) (n : Node) (es : List Element) (us : List ℕ) (key : List ℕ) (i : ℕ) → h ≡ 0 → Body tree h n es us → IsPlace n.elements.items key i → None ≡ lookup_in key es
find_no_more tree zero n es us key i is (kind, es_is, us_is) place =
    let els = n.elements.items in
    sym (ap (lookup_in key) (es_is ∙ sym (take-append-drop i els)) ∙ lookup-none key (take i els) (drop i els) place.below place.above)
find_no_more tree (suc h) n es us key i is body place = absurd (omega arith)

-- a key that stands below a son, if it is there
pub record Son (tree : Stands) (n : Node) (es : List Element) (key : List ℕ) (i : ℕ) (b : Bounds) : Type 0 where
  pub xs : List Element
  pub mine : List ℕ
  pub within : i < length n.sons.items
  pub here : tree (get_or n.sons.items i 0) xs mine
  pub between : Between (son_bounds n.elements.items i b) xs
  pub same : lookup_in key xs ≡ lookup_in key es

-- the son below which a key would be
pub find_son : (tree : Stands) (h : ℕ) (n : Node) (es : List Element) (us : List ℕ) (key : List ℕ) (i : ℕ) (b : Bounds) → 0 < h → Body tree h n es us → Between b es → IsPlace n.elements.items key i → Son tree n es key i b
find_son tree zero n es us key i b some body between place = absurd (omega arith)
find_son tree (suc h) n es us key i b some (kind, fan) between place =
    let at = focus tree tree (λ (q : ℕ). Unit {0}) (λ s xs vs t _. t) n.sons.items n.elements.items es us key i b fan between place in
    record {
      xs = at.xs;
      mine = at.mine;
      within = at.within;
      here = at.here;
      between = at.between;
      same = sym (ap (lookup_in key) at.es_is ∙ lookup-between key at.pre at.xs at.post at.below at.above);
    }

-- a root with pages is the head of a tree
pub root_tree : (k : ℕ) (pages : PageMap) (height root : ℕ) (es : List Element) (us : List ℕ) → 0 < height → RootAt k pages height root es us → TreeAt k pages 1 height root es us
root_tree k pages zero root es us some tree = absurd (omega arith)
root_tree k pages (suc h) root es us some tree = tree

-- what was read is the head of the tree
pub read_top : (k : ℕ) (pages : PageMap) (least height p : ℕ) (es : List Element) (us : List ℕ) (b : Bounds) (kind : NodeKind) (n : Node) → 0 < height → kind ≡ kind_of_level height
    → ((m : Node) → Spells k pages p m → m.kind ≡ kind → AreWithin b m.elements.items → n ≡ m) → TreeAt k pages least height p es us → Between b es → Top k pages least height (height - 1) p es us b n
read_top k pages least height p es us b kind n some kind_is exact tree between =
    let head = top k pages least height (height - 1) p es us b (omega arith) tree between in
    subst (Top k pages least height (height - 1) p es us b) (sym (exact head.0 head.1.spells (head.1.kind ∙ sym kind_is) head.1.within)) head.1

-- the page at the head is one of the tree's
pub head_each : (P : ℕ → Type 0) (k : ℕ) (pages : PageMap) (least height p : ℕ) (es : List Element) (us : List ℕ) → TreeAt k pages least height p es us → Each P us → P p
head_each P k pages least zero p es us tree each = absurd tree
head_each P k pages least (suc h) p es us (n, below, spells, least_is, body, us_is) each = (subst (Each P) us_is each).0

-- above the lowest level pages are inner ones
pub kind_above : (level : ℕ) → (level ≡ 1 → ⊥) → kind_of_level level ≡ Inner
kind_above level above = grind (arith, nat_tests)
