-- A tree after an insertion at its root.
use Rattle.std.proofs.Common.{◌≡◌, ℕ, zero, suc, ◌+◌, ◌<◌, ◌≤◌, Option, None, IsSome, List, [], ◌∷◌, ◌++◌, length, refl, ap, sym, ◌∙◌, subst, arith, Some}
use Rattle.page_store.specs.PageMap.{PageMap, write_page, pages_with, after}
use Rattle.btree_node.specs.Layout.{second_layout}
use Rattle.btree_node.specs.Lists.{Element}
use Rattle.btree_node.specs.Spelling.{spelling, ElementFits, IsSon, CanStand}
use Rattle.btree_insert.specs.declared.tree.Tree.{Tree}
use Rattle.btree_insert.specs.Contents.{lookup_in, set_in}
use Rattle.page_store.specs.CanStage.{CanStage}
use Rattle.page_store.specs.FreeNumbers.{count_after}
use Rattle.btree_insert.specs.Growth.{Whole, Parts, WritesFit}
use Rattle.btree_insert.specs.Inserted.{leaf_of, root_of, Inserted}
use Rattle.btree_insert.specs.PagesGrown.{PagesGrown, pages_change}
use Rattle.btree_insert.specs.PageTrees.{IsIn, TreeAt, RootAt, Holds, tree_below}
use Rattle.btree_insert.proofs.ChangedTreeLemmas.{tree_move}
use Rattle.btree_insert.proofs.PagesAroundLemmas.{IsFree, InUse, kept_none, kept_more, not_so_far}
use Rattle.btree_insert.proofs.ElementMapLemmas.{put-ascends, put-length, one_if_none}
use Rattle.btree_insert.proofs.Membership.{each_in, in_left, in_right}
use Rattle.btree_insert.proofs.SettledTreeLemmas.{overlay_push, write_here, write_other}

-- the parts that make an insertion
pub inserted_by : (old new : PageMap) (fresh : ℕ → ℕ) (taken : ℕ) (tree next : Tree) (es : List Element) (us vs : List ℕ) (key value : List ℕ) (before : Option (List ℕ)) → Holds old tree es us
    → RootAt next.order new next.height next.root (set_in key (Some value) es) vs → PagesGrown old new fresh 0 taken us vs → before ≡ lookup_in key es → next.order ≡ tree.order → next.count ≡ tree.count + one_if_none before → next.used ≡ tree.used + taken
    → Inserted (pages_change old new fresh 0 taken) tree es us key value (next, before)
inserted_by old new fresh taken tree next es us vs key value before holds root kept answer order count used = record {
  vs = vs;
  holds = record {
    tree = root;
    ascends = put-ascends key value es holds.ascends;
    apart = kept.apart;
    count = count ∙ ap (λ n. n + one_if_none before) holds.count ∙ ap (λ (o : Option (List ℕ)). length es + one_if_none o) answer ∙ sym (put-length key value es holds.ascends);
    used = omega (arith, used, holds.used, kept.count);
  };
  answer = answer;
  order = order;
  kept = kept;
}

-- a tree with a page is at its root
pub tree_root : (k : ℕ) (pages : PageMap) (height root : ℕ) (es : List Element) (us : List ℕ) → 0 < height → TreeAt k pages 1 height root es us → RootAt k pages height root es us
tree_root k pages zero root es us some tree = absurd (omega arith)
tree_root k pages (suc h) root es us some tree = tree

-- the first page of a tree
pub plant : (k : ℕ) (old : PageMap) (ws ws2 : List (ℕ × List ℕ)) (fresh : ℕ → ℕ) (n height root : ℕ) (es : List Element) (us : List ℕ) (key value : List ℕ) → height ≡ 0 → RootAt k old height root es us → ws ≡ [] → n ≡ fresh 0 → IsFree old fresh
    → CanStand (leaf_of (key, value)) k → ws2 ≡ ws ++ (n, spelling (leaf_of (key, value)) k) ∷ []
    → RootAt k (pages_with old ws2) 1 n (set_in key (Some value) es) (n ∷ []) × PagesGrown old (pages_with old ws2) fresh 0 1 us (n ∷ [])
plant k old ws ws2 fresh n (suc height) root es us key value is tree none n_is free stands ws_is = absurd (omega arith)
plant k old ws ws2 fresh n zero root es us key value is (root_is, es_is, us_is) none n_is free stands ws_is =
    let page = spelling (leaf_of (key, value)) k in
    let new_is : pages_with old ws2 ≡ write_page old n page = ap (pages_with old) ws_is ∙ overlay_push old ws (n, page) ∙ ap (λ (vs : List (ℕ × List ℕ)). write_page (pages_with old vs) n page) none in
    let kept : PagesGrown old (write_page old n page) fresh 0 1 [] (fresh 0 ∷ []) =
    kept_more old old (write_page old n page) fresh 0 0 [] [] [] free tt (omega arith) (λ q _ other. write_other old n page q (λ e. other (e ∙ n_is))) (kept_none old fresh 0 [] tt) in (
      subst (λ (new : PageMap). TreeAt k new 1 1 n (set_in key (Some value) es) (n ∷ [])) (sym new_is)
          (leaf_of (key, value), [], record { page = write_here old n page; stands = stands }, omega arith, (refl, ap (set_in key (Some value)) es_is, refl), refl),
      subst (λ (new : PageMap). PagesGrown old new fresh 0 1 us (n ∷ [])) (sym new_is)
          (subst (λ (vs : List ℕ). PagesGrown old (write_page old n page) fresh 0 1 vs (n ∷ [])) (sym us_is)
          (subst (λ (x : ℕ). PagesGrown old (write_page old n page) fresh 0 1 [] (x ∷ [])) (sym n_is) kept)),
    )

-- a root above two pages
pub root_up : (k : ℕ) (old : PageMap) (ws ws2 : List (ℕ × List ℕ)) (fresh : ℕ → ℕ) (hi h p n : ℕ) (us : List ℕ) (es : List Element) (middle : Element) (right : ℕ) → 0 < h → IsFree old fresh → InUse old us → Parts (tree_below k 1 h p) (pages_change old (pages_with old ws) fresh 0 hi) us es middle right → n ≡ fresh hi
    → CanStand (root_of p middle right) k → ws2 ≡ ws ++ (n, spelling (root_of p middle right) k) ∷ [] → Whole (tree_below k 1 (suc h) n) (pages_change old (pages_with old ws2) fresh 0 (suc hi)) us es
root_up k old ws ws2 fresh hi zero p n us es middle right some free used parts n_is stands ws_is = absurd (omega arith)
root_up k old ws ws2 fresh hi (suc h) p n us es middle right some free used parts n_is stands ws_is =
    let mid : PageMap = pages_with old ws in
    let page = spelling (root_of p middle right) k in
    let new : PageMap = write_page mid n page in
    let below = parts.before ++ parts.behind in
    let new_is : pages_with old ws2 ≡ new = ap (pages_with old) ws_is ∙ overlay_push old ws (n, page) in
    let out : (q : ℕ) → IsIn q below → new q ≡ mid q = λ q is. write_other mid n page q (λ e. not_so_far old mid fresh 0 hi us below free used parts.kept (subst (λ (x : ℕ). IsIn x below) (e ∙ n_is) is)) in
    let left_tree = tree_move k mid new k (suc h) p parts.xs parts.before parts.left_tree (each_in (λ q. new q ≡ mid q) parts.before (λ q is. out q (in_left q parts.before parts.behind is))) in
    let right_tree = tree_move k mid new k (suc h) right parts.ys parts.behind parts.right_tree (each_in (λ q. new q ≡ mid q) parts.behind (λ q is. out q (in_right q parts.before parts.behind is))) in
    let kept : PagesGrown old new fresh 0 (suc hi) us (fresh hi ∷ below) =
    kept_more old mid new fresh 0 hi us [] below free used (omega arith) (λ q _ other. write_other mid n page q (λ e. other (e ∙ n_is))) parts.kept in
    subst (λ (pages : PageMap). Whole (tree_below k 1 (suc (suc h)) n) (pages_change old pages fresh 0 (suc hi)) us es) (sym new_is) (record {
      vs = n ∷ below;
      tree = (
        root_of p middle right,
        below,
        record { page = write_here mid n page; stands = stands },
        omega arith,
        (refl, (parts.xs, parts.ys, parts.before, parts.behind, left_tree, right_tree, parts.es_is, refl)),
        refl,
      );
      kept = subst (λ (x : ℕ). PagesGrown old new fresh 0 (suc hi) us (x ∷ below)) (sym n_is) kept;
    })

-- what a leaf of one element and a root of one key can be
pub leaf_stands : (k : ℕ) (e : Element) → 1 ≤ k → ElementFits second_layout e → CanStand (leaf_of e) k
leaf_stands k e some fits = record { some = omega arith; most = omega arith; fit = (fits, tt); ascends = (tt, tt); sons = refl }

-- a new root can stand
pub root_stands : (k left right : ℕ) (e : Element) → 1 ≤ k → ElementFits second_layout e → IsSon left → IsSon right → CanStand (root_of left e right) k
root_stands k left right e some fits left_son right_son = record { some = omega arith; most = omega arith; fit = (fits, tt); ascends = (tt, tt); sons = (refl, (left_son, (right_son, tt))) }

pub some_not_none : (o : Option (List ℕ)) → IsSome o → o ≡ None → ⊥
some_not_none o some none = let never : IsSome {T = List ℕ} None = subst IsSome none some in absurd (cc)

-- where each page is the same, so is what an insertion came to
pub inserted_at : (old mid new : PageMap) (fresh : ℕ → ℕ) (taken : ℕ) (tree next : Tree) (es : List Element) (us : List ℕ) (key value : List ℕ) (before : Option (List ℕ)) → ((q : ℕ) → mid q ≡ new q) → Inserted (pages_change old mid fresh 0 taken) tree es us key value (next, before)
    → Inserted (pages_change old new fresh 0 taken) tree es us key value (next, before)
inserted_at old mid new fresh taken tree next es us key value before same done =
    let all : mid ≡ new = λ i q. same q i in
    subst (λ (pages : PageMap). Inserted (pages_change old pages fresh 0 taken) tree es us key value (next, before)) all done

-- the tree after an insertion, from what stands at its root
pub next_inserted : (old new : PageMap) (fresh : ℕ → ℕ) (lo hi h root : ℕ) (tree next : Tree) (es : List Element) (us : List ℕ) (key value : List ℕ) (before : Option (List ℕ)) → lo ≡ 0 → 0 < h → Holds old tree es us
    → Whole (tree_below tree.order 1 h root) (pages_change old new fresh lo hi) us (set_in key (Some value) es) → lookup_in key es ≡ before → next.order ≡ tree.order → next.root ≡ root → next.height ≡ h → next.count ≡ tree.count + one_if_none before → next.used ≡ tree.used + hi
    → Inserted (pages_change old new fresh 0 hi) tree es us key value (next, before)
next_inserted old new fresh lo hi h root tree next es us key value before lo_is some holds whole answer order_is root_is height_is count_is used_is =
    let es2 = set_in key (Some value) es in
    let at_root = tree_root tree.order new h root es2 whole.vs some whole.tree in
    let at_next = subst (λ (o : ℕ). RootAt o new next.height next.root es2 whole.vs) (sym order_is)
    (subst (λ (x : ℕ). RootAt tree.order new x next.root es2 whole.vs) (sym height_is) (subst (λ (r : ℕ). RootAt tree.order new h r es2 whole.vs) (sym root_is) at_root)) in
    inserted_by old new fresh hi tree next es us whole.vs key value before holds at_next (subst (λ (l : ℕ). PagesGrown old new fresh l hi us whole.vs) lo_is whole.kept) (sym answer) order_is count_is used_is

-- the first page
pub plant_inserted : (old : PageMap) (ws ws2 : List (ℕ × List ℕ)) (fresh : ℕ → ℕ) (n taken : ℕ) (tree next : Tree) (es : List Element) (us : List ℕ) (key value : List ℕ) → tree.height ≡ 0 → taken ≡ 1 → Holds old tree es us → ws ≡ [] → n ≡ fresh 0 → IsFree old fresh
    → CanStand (leaf_of (key, value)) tree.order → ws2 ≡ ws ++ (n, spelling (leaf_of (key, value)) tree.order) ∷ [] → next.order ≡ tree.order → next.root ≡ n → next.height ≡ 1 → next.count ≡ tree.count + 1 → next.used ≡ tree.used + taken
    → Inserted (pages_change old (pages_with old ws2) fresh 0 taken) tree es us key value (next, None)
plant_inserted old ws ws2 fresh n taken tree next es us key value empty one holds none n_is free stands ws_is order_is root_is height_is count_is used_is =
    let new : PageMap = pages_with old ws2 in
    let es2 = set_in key (Some value) es in
    let planted = plant tree.order old ws ws2 fresh n tree.height tree.root es us key value empty holds.tree none n_is free stands ws_is in
    let at_next = subst (λ (o : ℕ). RootAt o new next.height next.root es2 (n ∷ [])) (sym order_is)
    (subst (λ (x : ℕ). RootAt tree.order new x next.root es2 (n ∷ [])) (sym height_is) (subst (λ (r : ℕ). RootAt tree.order new 1 r es2 (n ∷ [])) (sym root_is) planted.0)) in
    inserted_by old new fresh taken tree next es us (n ∷ []) key value None holds at_next (subst (λ (x : ℕ). PagesGrown old new fresh 0 x us (n ∷ [])) (sym one) planted.1) (no_record tree.order old tree.height tree.root es us key empty holds.tree) order_is count_is used_is
  where
    no_record : (k : ℕ) (pages : PageMap) (height root : ℕ) (xs : List Element) (vs : List ℕ) (q : List ℕ) → height ≡ 0 → RootAt k pages height root xs vs → None ≡ lookup_in q xs
    no_record k pages zero root xs vs q is tree = ap (lookup_in q) (sym tree.1)
    no_record k pages (suc height) root xs vs q is tree = absurd (omega arith)

-- an edit that frees nothing can be staged
pub can_stage : (pages : List (Option (List ℕ))) (ws : List (ℕ × List ℕ)) (taken : ℕ) (freed : List ℕ) → freed ≡ [] → WritesFit pages ws taken → count_after pages taken ≤ 1000001 → CanStage pages ws taken freed
can_stage pages ws taken freed none fits room =
    subst (λ (xs : List ℕ). CanStage pages ws taken xs) (sym none) (record { written = fits.written; taken_written = fits.taken_written; freed_in_use = tt; freed_not_written = tt; room = λ _. room })

-- and leaves what it wrote
pub after_writes : (pages : PageMap) (ws : List (ℕ × List ℕ)) (freed : List ℕ) (q : ℕ) → freed ≡ [] → after pages ws freed q ≡ pages_with pages ws q
after_writes pages ws freed q none = ap (λ (xs : List ℕ). after pages ws xs q) none
