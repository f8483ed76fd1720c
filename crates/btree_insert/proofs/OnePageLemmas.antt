-- An insertion that changes one page.
use Rattle.std.proofs.Common.{◌≡◌, true, subst, ℕ, ◌*◌, ◌<◌, ◌++◌, ◌∷◌, [], List, Option, Some, None, IfSome, length, get_or, set, refl, ap, sym, ◌∙◌, arith}
use Rattle.std.specs.List.{insert}
use Rattle.std.proofs.lemmas.List.{get_or_at, set_at}
use Rattle.std.proofs.lemmas.List.Edits.{length-insert}
use Rattle.btree_node.specs.declared.node.Node.{Node}
use Rattle.btree_node.specs.declared.node.NodeKind.TheVariants.{Leaf}
use Rattle.btree_node.specs.Layout.{second_layout}
use Rattle.btree_node.specs.Lists.{Element, IsPlace}
use Rattle.btree_node.specs.Spelling.{ElementFits, CanStand}
use Rattle.btree_insert.specs.declared.insert_below.Grown.TheVariants.{Split}
use Rattle.btree_insert.specs.Growth.{in_one, with_son, MayGainSon}
use Rattle.btree_node.specs.declared.page_change.PageChange.{PageChange}
use Rattle.btree_node.specs.Changes.{MayChange, ChangedBy}
use Rattle.btree_node.specs.Spelling.{IsSpelt}
use Rattle.page_store.specs.PageMap.{at}
use Rattle.page_store.specs.PagesView.{PagesView, is_in_memory}
use Rattle.btree_insert.specs.Spelt.{CanChange}
use Rattle.btree_insert.proofs.PlaceLemmas.{leaf_may_be_overfull, inner_may_be_overfull}
use Rattle.btree_insert.proofs.SpeltLemmas.{bytes_of}

-- what follows from a value
pub if_some : {X : Type 0} (o : Option X) (P Q : X → Type 0) → ((x : X) → P x → Q x) → IfSome o P → IfSome o Q
if_some (Some x) P Q follows is = follows x is
if_some None P Q follows is = tt

-- what holds of a value that is there
pub from_some : {X : Type 0} (o : Option X) (Q : X → Type 0) → ((x : X) → o ≡ Some x → Q x) → IfSome o Q
from_some (Some x) Q holds = holds x refl
from_some None Q holds = tt

-- no page is split
pub never_split : (old : Option (List ℕ)) (m : Element) (r : ℕ) → in_one old ≡ Split m r → ⊥
never_split (Some value) m r is = absurd (cc)
never_split None m r is = absurd (cc)

-- a leaf with room for one more element
pub leaf_stands : (k : ℕ) (n m : Node) (i : ℕ) (e : Element) → CanStand n k → n.kind ≡ Leaf → IsPlace n.elements.items e.0 i → length n.elements.items < 2 * k → ElementFits second_layout e → m.kind ≡ n.kind → m.elements.items ≡ insert n.elements.items i e → m.sons.items ≡ n.sons.items → CanStand m k
leaf_stands k n m i e stands leaf place room fits kind_is els_is sons_is =
    let over = leaf_may_be_overfull k n m i e stands leaf place fits kind_is els_is sons_is in
    let size = ap length els_is ∙ length-insert n.elements.items i e place.within in
    record {
      some = over.some;
      most = omega (arith, size, room);
      fit = over.fit;
      ascends = over.ascends;
      sons = over.sons;
    }

-- an inner node with room for one more element and one more son
pub inner_stands : (k : ℕ) (n : Node) (i son : ℕ) (e : Element) → CanStand n k → MayGainSon n i e son → length n.elements.items < 2 * k → ElementFits second_layout e → CanStand (with_son n i e son) k
inner_stands k n i son e stands gains room fits =
    let over = inner_may_be_overfull k n (with_son n i e son) i son e stands gains.inner gains.place fits gains.can_be refl refl refl in
    record {
      some = over.some;
      most = omega (arith, length-insert n.elements.items i e gains.place.within, room);
      fit = over.fit;
      ascends = over.ascends;
      sons = over.sons;
    }

-- the last page of an edit, where it lies
pub last_write : (ws items : List (ℕ × List ℕ)) (w x : ℕ × List ℕ) (i : ℕ) → items ≡ ws ++ w ∷ [] → i ≡ length ws → x ≡ get_or items i x → x ≡ w
last_write ws items w x i is at here = here ∙ ap (λ xs. get_or xs i x) is ∙ get_or_at ws w [] x i (sym at)

-- the edit with other bytes in its last page
pub last_rewritten : (ws items : List (ℕ × List ℕ)) (w x : ℕ × List ℕ) (page page2 : List ℕ) (i : ℕ) → items ≡ ws ++ w ∷ [] → i ≡ length ws → x ≡ w → page ≡ page2 → set items i (x.0, page) ≡ ws ++ (w.0, page2) ∷ []
last_rewritten ws items w x page page2 i is at here changed =
    ap (λ xs. set xs i (x.0, page)) is
    ∙ set_at ws w [] (x.0, page) i (sym at)
    ∙ ap (λ (n : ℕ). ws ++ (n, page) ∷ []) (ap (λ (v : ℕ × List ℕ). v.0) here)
    ∙ ap (λ (bytes : List ℕ). ws ++ (w.0, bytes) ∷ []) changed

-- two nodes of the same parts
pub same_parts : (n m : Node) → n.kind ≡ m.kind → n.elements.items ≡ m.elements.items → n.sons.items ≡ m.sons.items → n ≡ m
same_parts n m kind els sons = λ i. record {
  kind = kind i;
  elements = record { items = els i };
  sons = record { items = sons i };
}

-- a page that spells a node before a change and behind it
pub can_change : (k : ℕ) (pages : PagesView) (n : ℕ) (change : PageChange) (page : List ℕ) → (is_in_memory pages n ≡ true → at pages.pages n ≡ Some page) → MayChange k change page
    → ((next : List ℕ) → ChangedBy k change page next → IsSpelt k next) → CanChange k pages n change
can_change k pages n change page there may spelt = record {
  may = λ here was is. subst (MayChange k change) (same here was is) may;
  spelt = λ here was next is changed. spelt next (subst (λ (before : List ℕ). ChangedBy k change before next) (sym (same here was is)) changed);
}
  where
    same : is_in_memory pages n ≡ true → (was : List ℕ) → at pages.pages n ≡ Some was → page ≡ was
    same here was is = ap bytes_of (sym (there here) ∙ is)
