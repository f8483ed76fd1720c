-- A list of elements without one key.
use Rattle.std.proofs.Common.{◌≡◌, ℕ, suc, ◌+◌, Some, None, List, [], ◌∷◌, ◌++◌, length, get_or, take, drop, refl, ap, ◌∙◌, arith}
use Rattle.std.specs.Ordering.{nat_cmp}
use Rattle.std.specs.Cmp.Lexicographic.{slice_cmp}
use Rattle.std.specs.List.{remove}
use Rattle.std.specs.declared.cmp.Ordering.{Ordering}
use Rattle.std.specs.declared.cmp.Ordering.TheVariants.{Less, Equal, Greater}
use Rattle.btree_node.specs.Lists.{Element, Each, Below, IsAt}
use Rattle.btree_node.proofs.SplitLemmas.{around}
use Rattle.btree_insert.specs.declared.bounds.Bounds.{Bounds}
use Rattle.btree_insert.specs.Bounds.{Over, Under, Between}
use Rattle.btree_insert.specs.Contents.{by_order, lookup_in, set_in}
use Rattle.btree_insert.proofs.ElementMapLemmas.{greater_if_below, less_if_below, same_key, by_order-append, remove_each, remove-ascends}
use Rattle.btree_delete.specs.Subtrees.{behind_element}

remove_after : (key : List ℕ) (pre es : List Element) → Each (λ e. Below e.0 key) pre → set_in key None (pre ++ es) ≡ pre ++ set_in key None es
remove_after key [] es below = refl
remove_after key (p ∷ pre) es below =
    ap (λ o. by_order o (p ∷ (pre ++ es)) (pre ++ es) (p ∷ set_in key None (pre ++ es))) (greater_if_below p.0 key below.0) ∙ ap (λ rest. p ∷ rest) (remove_after key pre es below.1)

-- a key below all elements takes none out
pub remove_above : (key : List ℕ) (post : List Element) → Each (λ e. Below key e.0) post → set_in key None post ≡ post
remove_above key [] above = refl
remove_above key (p ∷ post) above = ap (λ o. by_order o (p ∷ post) post (p ∷ set_in key None post)) (less_if_below key p.0 above.0)

remove_before : (key : List ℕ) (es post : List Element) → Each (λ e. Below key e.0) post → set_in key None (es ++ post) ≡ set_in key None es ++ post
remove_before key [] post above = remove_above key post above
remove_before key (e ∷ es) post above =
    ap (λ rest. by_order (slice_cmp nat_cmp key e.0) (e ∷ (es ++ post)) (es ++ post) (e ∷ rest)) (remove_before key es post above)
    ∙ by_order-append (slice_cmp nat_cmp key e.0) (e ∷ es) es (e ∷ set_in key None es) post

-- smaller and greater keys stay
pub remove-between : (key : List ℕ) (pre es post : List Element) → Each (λ e. Below e.0 key) pre → Each (λ e. Below key e.0) post → set_in key None (pre ++ (es ++ post)) ≡ pre ++ (set_in key None es ++ post)
remove-between key pre es post below above =
    remove_after key pre (es ++ post) below ∙ ap (λ rest. pre ++ rest) (remove_before key es post above)

-- the key itself goes
pub remove-here : (key : List ℕ) (pre : List Element) (x : Element) (post : List Element) → Each (λ e. Below e.0 key) pre → x.0 ≡ key → set_in key None (pre ++ x ∷ post) ≡ pre ++ post
remove-here key pre x post below here =
    remove_after key pre (x ∷ post) below ∙ ap (λ o. pre ++ by_order o (x ∷ post) post (x ∷ set_in key None post)) (same_key x.0 key here)

-- in a page the key goes from its place
pub remove_is_remove : (key : List ℕ) (els : List Element) (i : ℕ) → IsAt els key i → set_in key None els ≡ remove els i
remove_is_remove key els i place =
    ap (set_in key None) (around i els ([], []) place.within) ∙ remove-here key (take i els) (get_or els i ([], [])) (drop (suc i) els) place.below (place.here ([], []))

-- what is left stays between the bounds
pub remove-between_bounds : (b : Bounds) (key : List ℕ) (es : List Element) → Between b es → Between b (set_in key None es)
remove-between_bounds b key es is = record {
  ascends = remove-ascends key es is.ascends;
  within = record {
    over = remove_each (λ e. Over b.low e.0) key es is.within.over;
    under = remove_each (λ e. Under b.high e.0) key es is.within.under;
  };
}

-- one less where the key was there
remove_length_by : (e : Element) (es rest : List Element) (x : List ℕ) (key : List ℕ) (o : Ordering) → by_order o None (Some e.1) (lookup_in key es) ≡ Some x → (lookup_in key es ≡ Some x → length rest + 1 ≡ length es) → length (by_order o (e ∷ es) es (e ∷ rest)) + 1 ≡ suc (length es)
remove_length_by e es rest x key Less found step = absurd (cc)
remove_length_by e es rest x key Equal found step = omega arith
remove_length_by e es rest x key Greater found step = omega (arith, step found)

-- one element fewer is left where the key was there
pub remove-length : (key : List ℕ) (es : List Element) (x : List ℕ) → lookup_in key es ≡ Some x → length (set_in key None es) + 1 ≡ length es
remove-length key [] x found = absurd (cc)
remove-length key (e ∷ es) x found = remove_length_by e es (set_in key None es) x key (slice_cmp nat_cmp key e.0) found (λ later. remove-length key es x later)

remove_absent_by : (e : Element) (es rest : List Element) (key : List ℕ) (o : Ordering) → by_order o None (Some e.1) (lookup_in key es) ≡ None → (lookup_in key es ≡ None → rest ≡ es) → by_order o (e ∷ es) es (e ∷ rest) ≡ e ∷ es
remove_absent_by e es rest key Less none step = refl
remove_absent_by e es rest key Equal none step = absurd (cc)
remove_absent_by e es rest key Greater none step = ap (λ (zs : List Element). e ∷ zs) (step none)

-- nothing goes where the key was not there
pub remove-absent : (key : List ℕ) (es : List Element) → lookup_in key es ≡ None → set_in key None es ≡ es
remove-absent key [] none = refl
remove-absent key (e ∷ es) none = remove_absent_by e es (set_in key None es) key (slice_cmp nat_cmp key e.0) none (λ later. remove-absent key es later)

-- what is left behind the first element
pub between_behind : (b : Bounds) (e : Element) (es : List Element) → Between b (e ∷ es) → Between (behind_element e b) es
between_behind b e es is = record {
  ascends = is.ascends.1;
  within = record { over = is.ascends.0; under = is.within.under.1 };
}
