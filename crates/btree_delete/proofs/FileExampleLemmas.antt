-- A file that is closed, and files that aren't.
use Rattle.std.proofs.Common.{◌≡◌, ℕ, zero, suc, ◌≤◌, ◌<◌, Bool, true, false, cond, eqb, Option, Some, List, [], ◌∷◌, get_or, unwrap_or, All, inl, inr, refl, ap, sym, ◌∙◌, subst, arith}
use Rattle.btree_node.specs.declared.header.Header.{Header}
use Rattle.btree_node.specs.declared.layout.Layout.{Layout}
use Rattle.btree_node.specs.declared.node.Node.{Node}
use Rattle.btree_node.specs.declared.node.NodeFault.TheVariants.{Son}
use Rattle.btree_node.specs.Layout.{first_layout, second_layout, layout_of, IsVersion}
use Rattle.btree_node.specs.HeaderSpelling.{HeaderFits, header_spelling, clean_state, writing_state}
use Rattle.btree_node.specs.Lists.{Element}
use Rattle.btree_node.specs.Reading.{number_at, part, kind_at, sons_at, kind_read, count_at, sons_of_kind, Passes}
use Rattle.btree_node.specs.Spelling.{spelling_in, place, field, head, sons_bytes, CanStandIn}
use Rattle.btree_node.proofs.DecodeLemmas.{reads, passes}
use Rattle.btree_node.proofs.HeaderLemmas.{header_reads, fields_same}
use Rattle.btree_insert.specs.declared.tree.Tree.{Tree}
use Rattle.btree_insert.specs.Examples.{ax, by, cz, tree_of}
use Rattle.btree_insert.specs.Inserted.{root_of}
use Rattle.btree_insert.specs.PageTrees.{SpellsIn, RootIn}
use Rattle.btree_insert.proofs.TreeExampleLemmas.{three_hold_in}
use Rattle.rec_types.specs.Padded.{padded}
use Rattle.page_store.specs.PageMap.{PageMap}
use Rattle.btree_delete.specs.CleanFile.{in_file, HasTree, IsCleanFile}
use Rattle.btree_delete.specs.FileExamples.{three_header, three_records, unclean_records, underfull_records}

header_fits : (version : ℕ) → IsVersion version → HeaderFits (three_header version)
header_fits version is = record { version = is; order = (omega arith, omega arith); pages = omega arith; root = omega arith; count = omega arith }

wide : (version : ℕ) → 1 ≤ (layout_of version).record_width
wide version = by_case (eqb version 1)
  where
    by_case : (b : Bool) → 1 ≤ (cond b first_layout second_layout).record_width
    by_case true = omega arith
    by_case false = omega arith

-- a file of three records is a closed one, in each version
pub three_closed : (version : ℕ) → IsVersion version → IsCleanFile (three_records version version) 0 (three_header version) (tree_of 3 2 3 3) (ax ∷ by ∷ cz ∷ []) (3 ∷ 1 ∷ 2 ∷ [])
three_closed version is = record {
  begins = record {
    long = record { no_tail = refl; some = omega arith; most = omega arith };
    header = record { fits = header_fits version is; page = refl };
    agrees = record { pages = refl; root = omega arith };
  };
  there = record { order = refl; root = refl; holds = three_hold_in (layout_of version) (in_file (three_records version version)) (wide version) refl refl refl };
  count = refl;
}

-- sons of which the first is 0
first_zero : (sons : List ℕ) → All (λ son. 0 < son) sons → get_or sons 0 1 ≡ 0 → ⊥
first_zero [] some first = absurd (omega (arith, first))
first_zero (s ∷ sons) some first = let low = some 0 1 (omega arith) in absurd (omega (arith, first, low))

-- a page whose first son reads as 0 spells no node
no_first_son : (layout : Layout) (page : List ℕ) (n : Node) → get_or (sons_of_kind (kind_read page) layout 1 page (count_at page)) 0 1 ≡ 0 → CanStandIn layout n 1 → page ≡ spelling_in layout n 1 → ⊥
unfolding Passes
no_first_son layout page n first can is = first_zero _ (passes layout 1 page n can is (reads layout 1 page n (omega arith) can is) Son) first

-- so page 3 is no root
no_root : (layout : Layout) (k root : ℕ) (pages : PageMap) (page : List ℕ) (height : ℕ) (es : List Element) (us : List ℕ) → k ≡ 1 → root ≡ 3 → pages 3 ≡ Some page → get_or (sons_of_kind (kind_read page) layout 1 page (count_at page)) 0 1 ≡ 0 → RootIn layout k pages height root es us → ⊥
no_root layout k root pages page height es us order root_is there first = at height
  where
    spelled : (n : Node) → SpellsIn layout k pages root n → ⊥
    spelled n spells =
        no_first_son layout page n first (subst (CanStandIn layout n) order spells.stands)
        (ap (λ o. unwrap_or o []) (sym there ∙ ap pages (sym root_is) ∙ spells.page) ∙ ap (spelling_in layout n) order)

    at : (height : ℕ) → RootIn layout k pages height root es us → ⊥
    at zero tree = absurd (omega (arith, tree.0, root_is))
    at (suc zero) (n, below, spells, least, body, us_is) = spelled n spells
    at (suc (suc h)) (n, below, spells, least, body, us_is) = spelled n spells

-- where the sons of a page of one version stand in the other, the page is zero
old_first : get_or (sons_of_kind (kind_read (spelling_in first_layout (root_of 1 by 2) 1)) second_layout 1 (spelling_in first_layout (root_of 1 by 2) 1) (count_at (spelling_in first_layout (root_of 1 by 2) 1))) 0 1 ≡ 0
unfolding spelling_in padded head place field sons_bytes kind_at sons_at number_at part
old_first = refl

new_first : get_or (sons_of_kind (kind_read (spelling_in second_layout (root_of 1 by 2) 1)) first_layout 1 (spelling_in second_layout (root_of 1 by 2) 1) (count_at (spelling_in second_layout (root_of 1 by 2) 1))) 0 1 ≡ 0
unfolding spelling_in padded head place field sons_bytes kind_at sons_at number_at part
new_first = refl

-- page 0 spells one header, in one state
one_header : (version : ℕ) (h : Header) (state : ℕ) → IsVersion version → HeaderFits h → ◌≡◌ {A = Option (List ℕ)} (Some (header_spelling (three_header version) state)) (Some (header_spelling h clean_state)) → (three_header version ≡ h) × (state ≡ clean_state)
one_header version h state is fits same =
    let page = header_spelling (three_header version) state in
    let spelled : page ≡ header_spelling h clean_state = ap (λ o. unwrap_or o []) same in
    let one = header_reads page (three_header version) state (header_fits version is) refl in
    let two = header_reads page h clean_state fits spelled in
    (sym (fields_same page (three_header version) state one) ∙ fields_same page h clean_state two, sym one.state ∙ two.state)

-- a header of the second version before pages of the first
pub old_pages_open : (tail : ℕ) (h : Header) (tree : Tree) (es : List Element) (us : List ℕ) → IsCleanFile (three_records 2 1) tail h tree es us → ⊥
old_pages_open tail h tree es us clean =
    let pages = in_file (three_records 2 1) in
    let header = one_header 2 h clean_state (inr refl) clean.begins.header.fits clean.begins.header.page in
    let there = subst (λ (x : Header). HasTree pages x tree es us) (sym header.0) clean.there in
    no_root second_layout tree.order tree.root pages (spelling_in first_layout (root_of 1 by 2) 1) tree.height es us there.order there.root refl old_first there.holds.tree

-- and the other way round
pub new_pages_open : (tail : ℕ) (h : Header) (tree : Tree) (es : List Element) (us : List ℕ) → IsCleanFile (three_records 1 2) tail h tree es us → ⊥
new_pages_open tail h tree es us clean =
    let pages = in_file (three_records 1 2) in
    let header = one_header 1 h clean_state (inl refl) clean.begins.header.fits clean.begins.header.page in
    let there = subst (λ (x : Header). HasTree pages x tree es us) (sym header.0) clean.there in
    no_root first_layout tree.order tree.root pages (spelling_in second_layout (root_of 1 by 2) 1) tree.height es us there.order there.root refl new_first there.holds.tree

-- a file that says that it is being written isn't closed
pub unclean_open : (tail : ℕ) (h : Header) (tree : Tree) (es : List Element) (us : List ℕ) → IsCleanFile unclean_records tail h tree es us → ⊥
unclean_open tail h tree es us clean =
    let one = one_header 2 h writing_state (inr refl) clean.begins.header.fits clean.begins.header.page in
    absurd (omega (arith, one.1))

-- one with an underfull page isn't
pub underfull_open : (tail : ℕ) (h : Header) (tree : Tree) (es : List Element) (us : List ℕ) → IsCleanFile underfull_records tail h tree es us → ⊥
underfull_open tail h tree es us clean =
    let one = one_header 2 h clean_state (inr refl) clean.begins.header.fits clean.begins.header.page in
    let pages = ap (λ (x : Header). x.pages) one.0 in
    absurd (omega (arith, pages, clean.begins.agrees.pages))

-- one with a byte behind its pages isn't
pub tail_open : (version : ℕ) (h : Header) (tree : Tree) (es : List Element) (us : List ℕ) → IsCleanFile (three_records version version) 1 h tree es us → ⊥
tail_open version h tree es us clean = absurd (omega (arith, clean.begins.long.no_tail))
