-- What the bytes of a page spell as it is written, from a place on.
use Rattle.std.proofs.Common.{◌≡◌, ℕ, Bool, true, false, cond, eqb, ◌+◌, ◌<◌, ◌≤◌, List, [], length, get_or, drop, refl, ap, sym, ◌∙◌, subst, arith}
use Rattle.std.proofs.lemmas.Bool.{eqb-true}
use Rattle.std.proofs.lemmas.List.{drop_more, get_or-drop, get_or_default, length-drop}
use Rattle.btree_node.specs.declared.layout.Layout.{Layout}
use Rattle.btree_node.specs.declared.node.Node.{Node}
use Rattle.btree_node.specs.declared.node.NodeKind.{NodeKind}
use Rattle.btree_node.specs.declared.node.NodeKind.TheVariants.{Leaf, Inner}
use Rattle.btree_node.specs.Layout.{first_layout, second_layout, layout_of}
use Rattle.btree_node.specs.Lists.{Element}
use Rattle.btree_node.specs.Reading.{node_at}
use Rattle.btree_node.specs.Spelling.{spelling, spelling_in, CanStand, CanStandIn, SonsFit, IsNodePage}
use Rattle.btree_node.proofs.DecodeLemmas.{same_node}
use Rattle.btree_node.proofs.ElementOrderLemmas.{sons_most}
use Rattle.btree_delete.specs.Survey.{node_in, Respells, sons_from, elements_from}

-- a page spells one node in a layout
pub one_in : (layout : Layout) (k : ℕ) (page : List ℕ) (n m : Node) → k ≤ 16 → CanStandIn layout n k → page ≡ spelling_in layout n k → CanStandIn layout m k → page ≡ spelling_in layout m k → n ≡ m
one_in layout k page n m small stands here stands2 there =
    sym (same_node layout k page n (node_at layout k page) small stands here refl) ∙ same_node layout k page m (node_at layout k page) small stands2 there refl

-- the node of bytes that spell it as it is written
pub node_is : (k : ℕ) (page : List ℕ) (n : Node) → k ≤ 16 → CanStand n k → page ≡ spelling n k → node_in k page ≡ n
node_is k page n small stands is = same_node second_layout k page n (node_in k page) small stands is refl

-- a version that is not the first has the layout of the second
pub layout_second : (version : ℕ) → (version ≡ 1 → ⊥) → layout_of version ≡ second_layout
layout_second version other = by_case (eqb version 1) refl
  where
    by_case : (b : Bool) → eqb version 1 ≡ b → layout_of version ≡ second_layout
    by_case true e = absurd (other (eqb-true version 1 e))
    by_case false e = ap (λ (b : Bool). cond b first_layout second_layout) e

-- an inner node has one son more than keys
pub sons_many : (kind : NodeKind) (count : ℕ) (sons : List ℕ) → kind ≡ Inner → SonsFit kind count sons → length sons ≡ count + 1
sons_many Leaf count sons is fit = absurd (cc)
sons_many Inner count sons is fit = fit.0

-- bytes of a layout, and those of the same node as it is written
pub respelt : (layout : Layout) (k : ℕ) (old new : List ℕ) (n : Node) → k ≤ 16 → CanStandIn layout n k → CanStand n k → old ≡ spelling_in layout n k → new ≡ spelling n k → Respells layout k old new
respelt layout k old new n small stands written was now =
    let same : n ≡ node_in k new = sym (node_is k new n small written now) in
    record {
      stands = subst (λ (m : Node). CanStandIn layout m k) same stands;
      was = was ∙ ap (λ (m : Node). spelling_in layout m k) same;
      now = now ∙ ap (λ (m : Node). spelling m k) same;
    }

-- a page that has a son at a place
pub record Standing (k : ℕ) (page : List ℕ) (i : ℕ) : Type 0 where
  pub stands : CanStand (node_in k page) k
  pub is : page ≡ spelling (node_in k page) k
  pub within : i ≤ length (node_in k page).elements.items
  pub few : length (node_in k page).elements.items ≤ 32
  pub next : i < length (node_in k page).sons.items

pub written : (k : ℕ) (page : List ℕ) → IsNodePage k page → CanStand (node_in k page) k × (page ≡ spelling (node_in k page) k)
written k page spelt =
    let same : spelt.1.0 ≡ node_in k page = sym (node_is k page spelt.1.0 spelt.0 spelt.1.1 spelt.1.2) in
    (subst (λ (m : Node). CanStand m k) same spelt.1.1, spelt.1.2 ∙ ap (λ (m : Node). spelling m k) same)

pub standing : (k : ℕ) (page : List ℕ) (i : ℕ) → IsNodePage k page → length (sons_from k page i) ≡ length (elements_from k page i) + 1 → Standing k page i
standing k page i spelt sons =
    let w = written k page spelt in
    let n = node_in k page in
    let most = sons_most n.kind (length n.elements.items) n.sons.items w.0.sons in
    let next : i < length n.sons.items = omega (arith, sons, length-drop i n.sons.items) in
    record {
      stands = w.0;
      is = w.1;
      within = omega (arith, next, most);
      few = omega (arith, w.0.most, spelt.0);
      next = next;
    }

-- the first of what stands from a place on
first_at : {X : Type 0} (xs : List X) (i : ℕ) (d : X) → get_or (drop i xs) 0 d ≡ get_or xs i d
first_at xs i d = get_or-drop i xs 0 d ∙ ap (λ n. get_or xs n d) (omega arith)

pub son_first : (sons : List ℕ) (i son : ℕ) → son ≡ get_or sons i 0 → son ≡ get_or (drop i sons) 0 0
son_first sons i son is = is ∙ sym (first_at sons i 0)

-- the element at a place, by its key
abbrev pub element_of : List Element → ℕ → List ℕ → Element
element_of els i key = (key, (get_or els i ([], [])).1)

pub element_first : (els : List Element) (i : ℕ) (key : List ℕ) → i < length els → key ≡ (get_or els i ([], [])).0 → element_of els i key ≡ get_or (drop i els) 0 (element_of els i key)
element_first els i key low is =
    let x = element_of els i key in
    let here : x ≡ get_or els i ([], []) = λ j. (is j, (get_or els i ([], [])).1) in
    here ∙ get_or_default els i ([], []) (get_or els i ([], [])) low ∙ ap (λ (d : Element). get_or els i d) (sym here) ∙ sym (first_at els i x)

-- what stands behind the first
pub rest_at : {X : Type 0} (xs : List X) (i : ℕ) (d : X) → i < length xs → drop (i + 1) xs ≡ drop 1 (drop i xs)
rest_at xs i d low = sym (ap (drop 1) (drop_more xs i d low))
