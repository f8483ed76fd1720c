-- What taking a key out below the root comes to.
use Rattle.std.proofs.Common.{◌≡◌, ℕ, zero, suc, ◌+◌, ◌-◌, ◌<◌, ◌≤◌, ◌⊎◌, ⊎_elim, inl, Option, Some, None, IsSome, true, List, [], ◌∷◌, ◌++◌, length, get_or, refl, ap, sym, ◌∙◌, subst, arith, length-append}
use Rattle.std.specs.List.{AllByRecursion}
use Rattle.page_store.specs.PageMap.{PageMap, at, write_page, after}
use Rattle.page_store.specs.CanStage.{IsTaken, CanStage}
use Rattle.btree_node.specs.declared.node.Node.{Node}
use Rattle.btree_node.specs.declared.node.NodeKind.{NodeKind}
use Rattle.btree_node.specs.declared.node.NodeKind.TheVariants.{Leaf, Inner}
use Rattle.btree_node.specs.Lists.{Element, Each}
use Rattle.btree_node.specs.Spelling.{spelling, SonsFit}
use Rattle.btree_insert.specs.declared.bounds.Bounds.{Bounds}
use Rattle.btree_insert.specs.declared.tree.Tree.{Tree}
use Rattle.btree_insert.specs.Contents.{lookup_in, set_in}
use Rattle.btree_insert.specs.PageTrees.{IsIn, Fan, Body, TreeAt, RootAt, Holds}
use Rattle.btree_insert.proofs.ChangedTreeLemmas.{body_move, tree_move}
use Rattle.btree_insert.proofs.Membership.{each_in}
use Rattle.btree_insert.proofs.SettledTreeLemmas.{write_here, write_other}
use Rattle.btree_delete.specs.Deleted.{Deleted}
use Rattle.btree_delete.specs.Shrinking.{MayBeUnderfull, Loses, LeavesTree, ShrinksRoot, Whole, Underfull}
use Rattle.btree_delete.specs.Tidy.{is_visited, Untouched, IsTidy}
use Rattle.btree_delete.specs.Subtrees.{head_page}
use Rattle.btree_delete.specs.PagesLeft.{pages_freed}
use Rattle.btree_delete.proofs.EditedPagesLemmas.{after_write, after_free, free_page, free_here, free_other}
use Rattle.btree_delete.proofs.PagesLeftLemmas.{left_write, left_trans, left_drop}
use Rattle.btree_insert.proofs.ElementMapLemmas.{remove-ascends}
use Rattle.btree_delete.proofs.ElementRemovalLemmas.{remove-length, remove-absent}
use Rattle.btree_delete.proofs.SettledPageLemmas.{may_be_underfull_stands}
use Rattle.btree_delete.proofs.EditLemmas.{tidy_write, tidy_free}

-- the parts that make a deletion
pub deleted_by : (old new : PageMap) (tree next : Tree) (es : List Element) (us vs : List ℕ) (key x : List ℕ) (hi : ℕ) → Holds old tree es us → lookup_in key es ≡ Some x → RootAt next.order new next.height next.root (set_in key None es) vs → Loses old new 0 hi us vs
    → next.order ≡ tree.order → next.count + 1 ≡ tree.count → next.used + hi ≡ tree.used → Deleted old new tree es us key (next, Some x)
deleted_by old new tree next es us vs key x hi holds found root loses order count used = record {
  vs = vs;
  holds = record {
    tree = root;
    ascends = remove-ascends key es holds.ascends;
    apart = loses.left.apart;
    count = omega (arith, count, holds.count, remove-length key es x found);
    used = omega (arith, used, holds.used, loses.count);
  };
  answer = sym found;
  order = order;
  left = loses.left;
}

-- what a tree says of itself is enough
pub enough : (old new : PageMap) (tree : Tree) (es : List Element) (us vs : List ℕ) (key x : List ℕ) (hi freed : ℕ) → Holds old tree es us → lookup_in key es ≡ Some x → Loses old new 0 hi us vs → freed ≤ hi → (tree.count ≡ 0) ⊎ (tree.used < freed) → ⊥
enough old new tree es us vs key x hi freed holds found loses few fault =
    ⊎_elim (λ (none : tree.count ≡ 0). absurd (omega (arith, none, holds.count, remove-length key es x found))) (λ (less : tree.used < freed). absurd (omega (arith, less, few, holds.used, loses.count))) fault

-- the root page that was short, once it is written or freed
pub record RootLeft (old new : PageMap) (k hi height root : ℕ) (es : List Element) (us : List ℕ) : Type 0 where
  pub vs : List ℕ
  pub tree : RootAt k new height root es vs
  pub loses : Loses old new 0 hi us vs

-- an underfull root with a key is written
pub root_written : (k : ℕ) (old : PageMap) (ws ws2 : List (ℕ × List ℕ)) (fs : List ℕ) (height h root : ℕ) (b : Bounds) (us below : List ℕ) (es : List Element) (node : Node) → suc h ≡ height → 1 ≤ k → MayBeUnderfull k height b node → 0 < length node.elements.items → Untouched ws fs root
    → Body (TreeAt k (after old ws fs) k h) h node es below → Loses old (after old ws fs) 0 (length fs) us (root ∷ below) → ws2 ≡ ws ++ (root, spelling node k) ∷ [] → RootLeft old (after old ws2 fs) k (length fs) height root es us
root_written k old ws ws2 fs height h root b us below es node is order may_be_underfull some untouched body loses ws_is =
    let mid = after old ws fs in
    let page = spelling node k in
    let new = write_page mid root page in
    let new_is : after old ws2 fs ≡ new = ap (λ (vs : List (ℕ × List ℕ)). after old vs fs) ws_is ∙ after_write old ws fs root page untouched.kept in
    let still : Each (λ q. new q ≡ mid q) below = each_in (λ q. new q ≡ mid q) below (λ q q_in. write_other mid root page q (λ e. loses.left.apart.0 (subst (λ (x : ℕ). IsIn x below) e q_in))) in
    let top : TreeAt k new 1 (suc h) root es (root ∷ below) = (node, below, record { page = write_here mid root page; stands = may_be_underfull_stands k height b node may_be_underfull some }, omega (arith, some), body_move k mid new h node es below body still, refl) in
    subst (λ (pages : PageMap). RootLeft old pages k (length fs) height root es us) (sym new_is) (record {
      vs = root ∷ below;
      tree = subst (λ (x : ℕ). RootAt k new x root es (root ∷ below)) is top;
      loses = record { left = left_write old mid new us (root ∷ below) root (inl refl) (λ q other. write_other mid root page q other) loses.left; count = loses.count };
    })

weaken : (k : ℕ) (pages : PageMap) (h p : ℕ) (es : List Element) (us : List ℕ) → 1 ≤ k → TreeAt k pages k (suc h) p es us → TreeAt k pages 1 (suc h) p es us
weaken k pages h p es us order (n, below, spells, least_is, body, us_is) = (n, below, spells, omega (arith, least_is, order), body, us_is)

no_first : (kind : NodeKind) (count : ℕ) (sons : List ℕ) → kind ≡ Leaf → SonsFit kind count sons → get_or sons 0 0 ≡ 0
no_first Leaf count sons is fit = ap (λ (xs : List ℕ). get_or xs 0 0) fit
no_first Inner count sons is fit = absurd (cc)

nil_of : (xs : List Element) → length xs ≡ 0 → xs ≡ []
nil_of [] none = refl
nil_of (x ∷ xs) none = absurd (omega (arith, none))

only_son : (tree : ℕ → List Element → List ℕ → Type 0) (sons : List ℕ) (els es : List Element) (us : List ℕ) → els ≡ [] → Fan tree sons els es us → tree (get_or sons 0 0) es us
only_son tree sons els es us none fan = at sons (subst (λ (xs : List Element). Fan tree sons xs es us) none fan)
  where
    at : (ss : List ℕ) → Fan tree ss [] es us → tree (get_or ss 0 0) es us
    at [] is = absurd is
    at (s ∷ []) is = is
    at (s ∷ (t ∷ ss)) is = absurd is

-- what stands below a root without a key
pub below_root : (k : ℕ) (pages : PageMap) (height h : ℕ) (b : Bounds) (below : List ℕ) (es : List Element) (node : Node) → 1 ≤ k → MayBeUnderfull k height b node → length node.elements.items ≡ 0 → Body (TreeAt k pages k h) h node es below → RootAt k pages h (get_or node.sons.items 0 0) es below
below_root k pages height zero b below es node order may_be_underfull none (kind, es_is, us_is) = (no_first node.kind (length node.elements.items) node.sons.items kind may_be_underfull.sons, es_is ∙ nil_of node.elements.items none, us_is)
below_root k pages height (suc h) b below es node order may_be_underfull none (kind, fan) =
    weaken k pages h (get_or node.sons.items 0 0) es below order (only_son (TreeAt k pages k (suc h)) node.sons.items node.elements.items es below (nil_of node.elements.items none) fan)

root_move : (k : ℕ) (old new : PageMap) (h root : ℕ) (es : List Element) (us : List ℕ) → RootAt k old h root es us → Each (λ q. new q ≡ old q) us → RootAt k new h root es us
root_move k old new zero root es us tree same = tree
root_move k old new (suc h) root es us tree same = tree_move k old new 1 (suc h) root es us tree same

-- one without a key is dropped, and its first son is the root
pub root_dropped : (k : ℕ) (old : PageMap) (ws : List (ℕ × List ℕ)) (fs fs2 : List ℕ) (height h root : ℕ) (b : Bounds) (us below : List ℕ) (es : List Element) (node : Node) → 1 ≤ k → MayBeUnderfull k height b node → length node.elements.items ≡ 0
    → Body (TreeAt k (after old ws fs) k h) h node es below → Loses old (after old ws fs) 0 (length fs) us (root ∷ below) → fs2 ≡ fs ++ root ∷ [] → RootLeft old (after old ws fs2) k (length fs2) h (get_or node.sons.items 0 0) es us
root_dropped k old ws fs fs2 height h root b us below es node order may_be_underfull none body loses fs_is =
    let mid = after old ws fs in
    let new = free_page mid root in
    let new_is : after old ws fs2 ≡ new = ap (λ (gs : List ℕ). after old ws gs) fs_is ∙ after_free old ws fs root in
    let still : Each (λ q. new q ≡ mid q) below = each_in (λ q. new q ≡ mid q) below (λ q q_in. free_other mid root q (λ e. loses.left.apart.0 (subst (λ (x : ℕ). IsIn x below) e q_in))) in
    let dropped = left_drop mid new [] root below loses.left.apart (free_here mid root) (λ q out. free_other mid root q (λ e. out (inl e))) in
    subst (λ (pages : PageMap). RootLeft old pages k (length fs2) h (get_or node.sons.items 0 0) es us) (sym new_is) (record {
      vs = below;
      tree = root_move k mid new h (get_or node.sons.items 0 0) es below (below_root k mid height h b below es node order may_be_underfull none body) still;
      loses = record { left = left_trans old mid new us (root ∷ below) below loses.left dropped; count = omega (arith, loses.count, ap length fs_is, length-append fs (root ∷ [])) };
    })

all_inl : (pages : List (Option (List ℕ))) (ws : List (ℕ × List ℕ)) → AllByRecursion (λ (w : ℕ × List ℕ). IsSome (at pages w.0)) ws → AllByRecursion (λ (w : ℕ × List ℕ). IsSome (at pages w.0) ⊎ IsTaken pages 0 w.0) ws
all_inl pages [] all = tt
all_inl pages (w ∷ ws) all = (inl all.0, all_inl pages ws all.1)

-- a tidy edit that takes no number can be staged
pub tidy_stages : (pages : List (Option (List ℕ))) (visited : List ℕ) (ws : List (ℕ × List ℕ)) (fs : List ℕ) (taken : ℕ) → taken ≡ 0 → IsTidy pages visited ws fs → CanStage pages ws taken fs
tidy_stages pages visited ws fs taken none tidy =
    subst (λ (x : ℕ). CanStage pages ws x fs) (sym none) (record {
      written = all_inl pages ws tidy.written;
      taken_written = λ i low. absurd (omega (arith, low));
      freed_in_use = tidy.freed_in_use;
      freed_not_written = tidy.freed_not_written;
      room = λ some. absurd (omega (arith, some));
    })

-- what the root's page adds
pub shrink_tidy : (pages : List (Option (List ℕ))) (visited : List ℕ) (tree next : Tree) (node : Node) (ws ws2 : List (ℕ × List ℕ)) (fs fs2 : List ℕ) → IsSome (at pages tree.root) → is_visited visited tree.root ≡ true → Untouched ws fs tree.root → ShrinksRoot tree next node ws ws2 fs fs2 → IsTidy pages visited ws fs → IsTidy pages visited ws2 fs2
shrink_tidy pages visited tree next node ws ws2 fs fs2 used visited_is untouched shrinks tidy = at (length node.elements.items) refl
  where
    at : (count : ℕ) → count ≡ length node.elements.items → IsTidy pages visited ws2 fs2
    at zero is =
        let done = shrinks.dropped (sym is) in
        rw (done.1, done.2) (tidy_free pages visited ws fs tree.root used visited_is untouched.unwritten tidy)
    at (suc count) is =
        let done = shrinks.written (omega (arith, is)) in
        rw (done.1, done.2) (tidy_write pages visited ws fs tree.root (spelling node tree.order) used visited_is untouched.kept tidy)

-- what is left below the root, in the tree's words
pub record Shrank (old new : PageMap) (tree next : Tree) (hi : ℕ) (es : List Element) (us : List ℕ) : Type 0 where
  pub left : RootLeft old new next.order hi next.height next.root es us
  pub order : next.order ≡ tree.order
  pub count : next.count ≡ tree.count
  pub used : next.used ≡ tree.used

-- the tree after an underfull root
pub shrank_underfull : (old : PageMap) (tree next : Tree) (ws ws2 : List (ℕ × List ℕ)) (fs fs2 us : List ℕ) (es : List Element) (e : Element) (node : Node) (b : Bounds) → 1 ≤ tree.order → 0 < tree.height → MayBeUnderfull tree.order tree.height b node → Untouched ws fs tree.root
    → LeavesTree (head_page tree.order 1 (tree.height - 1) tree.root) (pages_freed old (after old ws fs) 0 (length fs)) us es (Underfull e node) → ShrinksRoot tree next node ws ws2 fs fs2 → Shrank old (after old ws2 fs2) tree next (length fs2) es us
shrank_underfull old tree next ws ws2 fs fs2 us es e node b order height may_be_underfull untouched (below, body, same, loses) shrinks = at (length node.elements.items) refl
  where
    at : (count : ℕ) → count ≡ length node.elements.items → Shrank old (after old ws2 fs2) tree next (length fs2) es us
    at zero is =
        let done = shrinks.dropped (sym is) in
        let left = root_dropped tree.order old ws fs fs2 tree.height (tree.height - 1) tree.root b us below es node order may_be_underfull (sym is) body loses done.2 in
        let smaller : Tree = record tree { root = get_or node.sons.items 0 0; height = tree.height - 1 } in
        subst (λ (t : Tree). Shrank old (after old ws2 fs2) tree t (length fs2) es us) (sym done.0)
        (subst (λ (vs : List (ℕ × List ℕ)). Shrank old (after old vs fs2) tree smaller (length fs2) es us) (sym done.1) (record { left = left; order = refl; count = refl; used = refl }))
    at (suc count) is =
        let done = shrinks.written (omega (arith, is)) in
        let left = root_written tree.order old ws ws2 fs tree.height (tree.height - 1) tree.root b us below es node (omega (arith, height)) order may_be_underfull (omega (arith, is)) untouched body loses done.1 in
        subst (λ (t : Tree). Shrank old (after old ws2 fs2) tree t (length fs2) es us) (sym done.0)
        (subst (λ (gs : List ℕ). Shrank old (after old ws2 gs) tree tree (length gs) es us) (sym done.2) (record { left = left; order = refl; count = refl; used = refl }))

-- the tree after a root that was written
pub shrank_whole : (old : PageMap) (tree : Tree) (ws : List (ℕ × List ℕ)) (fs us : List ℕ) (es : List Element) (e : Element) → 0 < tree.height → LeavesTree (head_page tree.order 1 (tree.height - 1) tree.root) (pages_freed old (after old ws fs) 0 (length fs)) us es (Whole e) → Shrank old (after old ws fs) tree tree (length fs) es us
shrank_whole old tree ws fs us es e height (vs, top, loses) =
    let height_is : suc (tree.height - 1) ≡ tree.height = omega (arith, height) in
    record {
      left = record { vs = vs; tree = subst (λ (x : ℕ). RootAt tree.order (after old ws fs) x tree.root es vs) height_is top; loses = loses };
      order = refl;
      count = refl;
      used = refl;
    }

-- the tree after a deletion
pub shrank_deleted : (old new : PageMap) (tree shrunk next : Tree) (es : List Element) (us : List ℕ) (key x : List ℕ) (hi : ℕ) → Holds old tree es us → lookup_in key es ≡ Some x → Shrank old new tree shrunk hi (set_in key None es) us → 1 ≤ shrunk.count → hi ≤ shrunk.used
    → next ≡ record shrunk { count = shrunk.count - 1; used = shrunk.used - hi } → Deleted old new tree es us key (next, Some x)
shrank_deleted old new tree shrunk next es us key x hi holds found shrank some few next_is =
    let smaller : Tree = record shrunk { count = shrunk.count - 1; used = shrunk.used - hi } in
    subst (λ (t : Tree). Deleted old new tree es us key (t, Some x)) (sym next_is)
    (deleted_by old new tree smaller es us shrank.left.vs key x hi holds found shrank.left.tree shrank.left.loses shrank.order (omega (arith, some, shrank.count)) (omega (arith, few, shrank.used)))

-- nothing was deleted
pub deleted_none : (old new : PageMap) (tree : Tree) (es : List Element) (us : List ℕ) (key : List ℕ) → new ≡ old → Holds old tree es us → lookup_in key es ≡ None → Deleted old new tree es us key (tree, None)
deleted_none old new tree es us key same holds none =
    subst (λ (pages : PageMap). Deleted old pages tree es us key (tree, None)) (sym same) (record {
      vs = us;
      holds = subst (λ (xs : List Element). Holds old tree xs us) (sym (remove-absent key es none)) holds;
      answer = sym none;
      order = refl;
      left = record { same = λ q _. refl; within = λ q is. is; gone = λ q is out. absurd (out is); apart = holds.apart };
    })

-- where each page is the same, so is what a deletion came to
pub deleted_at : (old old2 mid new : PageMap) (tree next : Tree) (es : List Element) (us : List ℕ) (key : List ℕ) (before : Option (List ℕ)) → old2 ≡ old → ((q : ℕ) → new q ≡ mid q) → Deleted old2 mid tree es us key (next, before) → Deleted old new tree es us key (next, before)
deleted_at old old2 mid new tree next es us key before old_is same done =
    let all : mid ≡ new = λ i q. sym (same q) i in
    subst (λ (pages : PageMap). Deleted old pages tree es us key (next, before)) all (subst (λ (pages : PageMap). Deleted pages mid tree es us key (next, before)) old_is done)
