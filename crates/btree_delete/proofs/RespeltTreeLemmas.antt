-- The tree of a file, in pages that spell its nodes as they are written.
use Rattle.std.proofs.Common.{ℕ, zero, suc, ◌≤◌, List, sym, subst}
use Rattle.page_store.specs.PageMap.{at}
use Rattle.page_store.specs.PagesView.{PagesView}
use Rattle.btree_node.specs.declared.layout.Layout.{Layout}
use Rattle.btree_node.specs.Lists.{Element}
use Rattle.btree_insert.specs.declared.tree.Tree.{Tree}
use Rattle.btree_insert.specs.PageTrees.{IsIn, SpellsIn, Spells, RootIn, RootAt, HoldsIn, Holds}
use Rattle.btree_insert.proofs.ChangedTreeLemmas.{Respells, tree_respelt}
use Rattle.btree_insert.proofs.DistinctPageLemmas.{one_in}
use Rattle.btree_insert.proofs.Membership.{each_in}
use Rattle.btree_delete.specs.Survey.{stored_page, IsRespelt}

-- the node that the store's page spells is the one that is spelled anew
respelt_node : (layout : Layout) (k : ℕ) (v : PagesView) (q : ℕ) → k ≤ 16 → IsRespelt layout k v q → Respells (SpellsIn layout k (stored_page v)) (Spells k (at v.pages)) q
respelt_node layout k v q small respelt n spelled =
    subst (Spells k (at v.pages) q) (sym (one_in layout k (stored_page v) small q n respelt.node spelled respelt.was)) respelt.now

-- so the pages hold the tree that the store's hold
pub held_respelt : (layout : Layout) (v : PagesView) (t : Tree) (es : List Element) (us : List ℕ) → t.order ≤ 16 → HoldsIn layout (stored_page v) t es us → ((q : ℕ) → IsIn q us → IsRespelt layout t.order v q) → Holds (at v.pages) t es us
held_respelt layout v t es us small holds respelt = record {
  tree = root t.height holds.tree;
  ascends = holds.ascends;
  apart = holds.apart;
  count = holds.count;
  used = holds.used;
}
  where
    root : (h : ℕ) → RootIn layout t.order (stored_page v) h t.root es us → RootAt t.order (at v.pages) h t.root es us
    root zero tree = tree
    root (suc h) tree =
        tree_respelt (SpellsIn layout t.order (stored_page v)) (Spells t.order (at v.pages)) t.order 1 (suc h) t.root es us tree
        (each_in (Respells (SpellsIn layout t.order (stored_page v)) (Spells t.order (at v.pages))) us (λ q is. respelt_node layout t.order v q small (respelt q is)))
