-- A closed file has one list of records, and an opening finds one in files.
use Rattle.std.proofs.Common.{◌≡◌, ℕ, zero, suc, ◌≤◌, Option, Some, None, List, [], ◌∷◌, get_or, unwrap_or, refl, ap, sym, ◌∙◌, subst, arith}
use Rattle.rec_types.specs.LimitBounds.{most_records}
use Rattle.rec_types.specs.Contents.{Contents}
use Rattle.page_store.specs.PageMap.{PageMap}
use Rattle.btree_node.specs.declared.header.Header.{Header}
use Rattle.btree_node.specs.declared.layout.Layout.{Layout}
use Rattle.btree_node.specs.declared.node.Node.{Node}
use Rattle.btree_node.specs.declared.node.NodeKind.{NodeKind}
use Rattle.btree_node.specs.declared.node.NodeKind.TheVariants.{Leaf, Inner}
use Rattle.btree_node.specs.Layout.{layout_of}
use Rattle.btree_node.specs.Lists.{Element}
use Rattle.btree_node.specs.Spelling.{spelling_in}
use Rattle.btree_node.proofs.DecodeLemmas.{reads, node_reads}
use Rattle.btree_insert.specs.Contents.{contents_of}
use Rattle.btree_insert.specs.Elements.{elements_below}
use Rattle.btree_insert.specs.PageTrees.{Fan, SpellsIn, TreeOf, RootOf}
use Rattle.btree_insert.specs.declared.tree.Tree.{Tree}
use Rattle.btree_insert.proofs.SonsAroundLemmas.{Stands}
use Rattle.btree_insert.proofs.TreeElementLemmas.{node_in, held_in}
use Rattle.btree_delete.specs.CleanFile.{in_file, HasTree}
use Rattle.btree_delete.specs.TableView.{IsClosed}
use Rattle.btree_delete.proofs.ClosedFileLemmas.{one_header}
use Rattle.btree_delete.proofs.MeasureLemmas.{rooted_holds}
use Rattle.page_journal.specs.Files.{PageFile, Files, recovered}
use Rattle.commit_paper.specs.Text.{units_of}
use Rattle.file_session.specs.LogOver.{Finds, FindsLog, HoldsRecords, HoldsWithin, head_line}
use Rattle.file_session.proofs.LogOverLemmas.{over_once}

-- the first son is one
first_son : (tree : Stands) (sons : List ℕ) (els es : List Element) (us : List ℕ) → Fan tree sons els es us → (xs : List Element) × (here : List ℕ) × tree (get_or sons 0 0) xs here
first_son tree [] els es us fan = absurd fan
first_son tree (s ∷ []) [] es us fan = (es, us, fan)
first_son tree (s ∷ []) (e ∷ els) es us fan = absurd fan
first_son tree (s ∷ (t ∷ ss)) [] es us fan = absurd fan
first_son tree (s ∷ (t ∷ ss)) (e ∷ els) es us fan = (fan.0, fan.2, fan.4)

no_both : (kind : NodeKind) → kind ≡ Leaf → kind ≡ Inner → ⊥
no_both kind leaf inner = absurd (cc (sym leaf ∙ inner))

-- pages that spell one node each hold trees of one height at a page
tree_height : (spells : ℕ → Node → Type 0) → ((p : ℕ) (n m : Node) → spells p n → spells p m → n ≡ m) → (fill least other h g p : ℕ) (es fs : List Element) (us vs : List ℕ) → TreeOf spells fill least h p es us → TreeOf spells fill other g p fs vs → h ≡ g
tree_height spells one fill least other zero g p es fs us vs tree again = absurd tree
tree_height spells one fill least other (suc h) zero p es fs us vs tree again = absurd again
tree_height spells one fill least other (suc zero) (suc zero) p es fs us vs tree again = refl
tree_height spells one fill least other (suc zero) (suc (suc g)) p es fs us vs (n, below, spelled, some, body, us_is) (m, under, spelt, least_is, inner, vs_is) =
    absurd (no_both m.kind (ap (λ (x : Node). x.kind) (one p m n spelt spelled) ∙ body.0) inner.0)
tree_height spells one fill least other (suc (suc h)) (suc zero) p es fs us vs (n, below, spelled, some, body, us_is) (m, under, spelt, least_is, leaf, vs_is) =
    absurd (no_both m.kind leaf.0 (ap (λ (x : Node). x.kind) (one p m n spelt spelled) ∙ body.0))
tree_height spells one fill least other (suc (suc h)) (suc (suc g)) p es fs us vs (n, below, spelled, some, body, us_is) (m, under, spelt, least_is, inner, vs_is) =
    let here = first_son (TreeOf spells fill fill (suc h)) n.sons.items n.elements.items es below body.1 in
    let there = first_son (TreeOf spells fill fill (suc g)) m.sons.items m.elements.items fs under inner.1 in
    let same : get_or m.sons.items 0 0 ≡ get_or n.sons.items 0 0 = ap (λ (x : Node). get_or x.sons.items 0 0) (one p m n spelt spelled) in
    ap suc (tree_height spells one fill fill fill (suc h) (suc g) (get_or n.sons.items 0 0) here.0 there.0 here.1 there.1 here.2
    (subst (λ (s : ℕ). TreeOf spells fill fill (suc g) s there.0 there.1) same there.2))

-- and at a root, where page 0 spells none
root_height : (spells : ℕ → Node → Type 0) → ((p : ℕ) (n m : Node) → spells p n → spells p m → n ≡ m) → ((n : Node) → spells 0 n → ⊥) → (fill h g root : ℕ) (es fs : List Element) (us vs : List ℕ) → RootOf spells fill h root es us → RootOf spells fill g root fs vs → h ≡ g
root_height spells one none fill zero zero root es fs us vs tree again = refl
root_height spells one none fill zero (suc g) root es fs us vs tree again = absurd (none again.0 (subst (λ (p : ℕ). spells p again.0) tree.0 again.2))
root_height spells one none fill (suc h) zero root es fs us vs tree again = absurd (none tree.0 (subst (λ (p : ℕ). spells p tree.0) again.0 tree.2))
root_height spells one none fill (suc h) (suc g) root es fs us vs tree again = tree_height spells one fill 1 1 (suc h) (suc g) root es fs us vs tree again

one_node : (layout : Layout) (k : ℕ) (pages : PageMap) → k ≤ 16 → (p : ℕ) (n m : Node) → SpellsIn layout k pages p n → SpellsIn layout k pages p m → n ≡ m
one_node layout k pages small p n m is again =
    let page = spelling_in layout n k in
    let same : page ≡ spelling_in layout m k = ap (λ (o : Option (List ℕ)). unwrap_or o []) (sym is.page ∙ again.page) in
    sym (node_reads layout k page n (reads layout k page n small is.stands refl)) ∙ node_reads layout k page m (reads layout k page m small again.stands same)

none_in_page_0 : (layout : Layout) (k : ℕ) (stored : List (List ℕ)) (n : Node) → SpellsIn layout k (in_file stored) 0 n → ⊥
none_in_page_0 layout k stored n is = absurd (cc is.page)

pub one_list : (v w : ℕ) (stored : List (List ℕ)) (tail : ℕ) (t r : Tree) (records others : Contents) → IsClosed v stored tail t records → IsClosed w stored tail r others → records ≡ others
one_list v w stored tail t r records others closed again =
    let pages = in_file stored in
    let header = one_header stored closed.h again.h closed.clean.begins.header again.clean.begins.header in
    let there = subst (λ (h : Header). HasTree pages h r again.es again.us) (sym header) again.clean.there in
    let layout = layout_of closed.h.version in
    let order : r.order ≡ t.order = there.order ∙ sym closed.clean.there.order in
    let root : r.root ≡ t.root = there.root ∙ sym closed.clean.there.root in
    let small : t.order ≤ 16 = omega (arith, closed.clean.there.order, closed.clean.begins.header.fits.order.1) in
    let height : t.height ≡ r.height = root_height (SpellsIn layout t.order pages) (one_node layout t.order pages small) (none_in_page_0 layout t.order stored) t.order t.height r.height t.root closed.es again.es closed.us again.us
    (rooted_holds layout t.order pages t.root t closed.es closed.us refl refl closed.clean.there.holds).tree
    (rooted_holds layout t.order pages t.root r again.es again.us order root there.holds).tree in
    sym closed.records
    ∙ ap contents_of
    (sym (held_in layout pages t closed.es closed.us small closed.clean.there.holds)
    ∙ (λ i. elements_below (node_in layout (sym order i) pages) (height i) (sym root i))
    ∙ held_in layout pages r again.es again.us (omega (arith, small, order)) there.holds)
    ∙ again.records

-- of either version, in trees of any orders
pub held_within_once : (limit order later : ℕ) (records others : Contents) (file : PageFile) → HoldsWithin limit order records file → HoldsWithin limit later others file → records ≡ others
held_within_once limit order later records others file held again =
    one_list held.0 again.0 file.pages file.tail held.1 again.1 records others held.3 again.3

pub held_once : (order later : ℕ) (records others : Contents) (file : PageFile) → HoldsRecords order records file → HoldsRecords later others file → records ≡ others
held_once order later records others file held again = held_within_once most_records order later records others file held again

pub one_order : (order later : ℕ) (records others : Contents) (file : PageFile) → HoldsRecords order records file → HoldsRecords later others file → order ≡ later
one_order order later records others file held again =
    sym held.2 ∙ held.3.clean.there.order ∙ ap (λ (h : Header). h.order) (one_header file.pages held.3.h again.3.h held.3.clean.begins.header again.3.clean.begins.header) ∙ sym again.3.clean.there.order ∙ again.2

-- what an opening finds in files is one list, too
log_once : (head : List ℕ) (under a b : Contents) (log : Option (List ℕ)) → FindsLog head under a log → FindsLog head under b log → a ≡ b
log_once head under a b None finds again = finds ∙ sym again
log_once head under a b (Some bytes) finds again = over_once head under a b (units_of bytes) finds again

pub finds_once : (order later : ℕ) (records others : Contents) (c : Files) → Finds order records c → Finds later others c → records ≡ others
finds_once order later records others c finds again =
    log_once (head_line (recovered c)) finds.under records others c.commits.log finds.log
    (subst (λ (m : Contents). FindsLog (head_line (recovered c)) m others c.commits.log)
    (sym (held_once order later finds.under again.under (recovered c) finds.holds again.holds)) again.log)

pub finds_order : (order later : ℕ) (records others : Contents) (c : Files) → Finds order records c → Finds later others c → order ≡ later
finds_order order later records others c finds again = one_order order later finds.under again.under (recovered c) finds.holds again.holds
