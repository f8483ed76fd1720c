-- Elements in order as a map.
use Rattle.std.proofs.Common.{◌≡◌, ℕ, suc, ◌+◌, Option, Some, None, List, [], ◌∷◌, ◌++◌, length, refl, ap, sym, ◌∙◌, subst, arith}
use Rattle.std.specs.Ordering.{nat_cmp, ordering_reverse}
use Rattle.std.specs.declared.cmp.Ordering.{Ordering}
use Rattle.std.specs.declared.cmp.Ordering.TheVariants.{Less, Equal, Greater}
use Rattle.std.specs.Cmp.Lexicographic.{slice_cmp}
use Rattle.std.proofs.lemmas.Cmp.{nat_list_cmp_total, tied_itself}
use Rattle.std.proofs.lemmas.Map.Lookups.{exact_bytes}
use Rattle.btree_node.specs.Lists.{Element, Each, Below, Ascends}
use Rattle.btree_node.proofs.ElementOrderLemmas.{Each-map, Below-trans}
use Rattle.btree_insert.specs.Contents.{by_order, lookup_in, set_in}

-- a comparison the other way
pub greater_if_below : (low high : List ℕ) → Below low high → slice_cmp nat_cmp high low ≡ Greater
unfolding Below
greater_if_below low high below = nat_list_cmp_total.antisymm high low ∙ ap ordering_reverse below

-- a key below another compares as less
pub less_if_below : (low high : List ℕ) → Below low high → slice_cmp nat_cmp low high ≡ Less
unfolding Below
less_if_below low high below = below

-- a key that compares as less is below
pub below_if_less : (low high : List ℕ) → slice_cmp nat_cmp low high ≡ Less → Below low high
unfolding Below
below_if_less low high less = less

below_if_greater : (low high : List ℕ) → slice_cmp nat_cmp high low ≡ Greater → Below low high
unfolding Below
below_if_greater low high greater = nat_list_cmp_total.antisymm low high ∙ ap ordering_reverse greater

-- equal keys compare as equal
pub same_key : (x y : List ℕ) → x ≡ y → slice_cmp nat_cmp y x ≡ Equal
same_key x y same = ap (λ (z : List ℕ). slice_cmp nat_cmp y z) same ∙ tied_itself nat_list_cmp_total y

-- smaller keys in front change nothing
pub lookup-after : (key : List ℕ) (pre es : List Element) → Each (λ e. Below e.0 key) pre → lookup_in key (pre ++ es) ≡ lookup_in key es
lookup-after key [] es below = refl
lookup-after key (p ∷ pre) es below =
    ap (λ o. by_order o None (Some p.1) (lookup_in key (pre ++ es))) (greater_if_below p.0 key below.0) ∙ lookup-after key pre es below.1

-- a key below all elements isn't found
pub lookup_above : (key : List ℕ) (post : List Element) → Each (λ e. Below key e.0) post → lookup_in key post ≡ None
lookup_above key [] above = refl
lookup_above key (p ∷ post) above = ap (λ o. by_order o None (Some p.1) (lookup_in key post)) (less_if_below key p.0 above.0)

-- nor do greater keys behind
pub lookup-before : (key : List ℕ) (es post : List Element) → Each (λ e. Below key e.0) post → lookup_in key (es ++ post) ≡ lookup_in key es
lookup-before key [] post above = lookup_above key post above
lookup-before key (e ∷ es) post above = ap (λ rest. by_order (slice_cmp nat_cmp key e.0) None (Some e.1) rest) (lookup-before key es post above)

-- a key is looked for among the elements around it alone
pub lookup-between : (key : List ℕ) (pre es post : List Element) → Each (λ e. Below e.0 key) pre → Each (λ e. Below key e.0) post → lookup_in key (pre ++ (es ++ post)) ≡ lookup_in key es
lookup-between key pre es post below above = lookup-after key pre (es ++ post) below ∙ lookup-before key es post above

-- the key itself
pub lookup-here : (key : List ℕ) (pre : List Element) (x : Element) (post : List Element) → Each (λ e. Below e.0 key) pre → x.0 ≡ key → lookup_in key (pre ++ x ∷ post) ≡ Some x.1
lookup-here key pre x post below here =
    lookup-after key pre (x ∷ post) below ∙ ap (λ o. by_order o None (Some x.1) (lookup_in key post)) (same_key x.0 key here)

-- no key but smaller and greater ones
pub lookup-none : (key : List ℕ) (pre post : List Element) → Each (λ e. Below e.0 key) pre → Each (λ e. Below key e.0) post → lookup_in key (pre ++ post) ≡ None
lookup-none key pre post below above = lookup-after key pre post below ∙ lookup_above key post above

-- a record is put behind smaller elements
pub put-after : (key value : List ℕ) (pre es : List Element) → Each (λ e. Below e.0 key) pre → set_in key (Some value) (pre ++ es) ≡ pre ++ set_in key (Some value) es
put-after key value [] es below = refl
put-after key value (p ∷ pre) es below =
    ap (λ o. by_order o ((key, value) ∷ (p ∷ (pre ++ es))) ((key, value) ∷ (pre ++ es)) (p ∷ set_in key (Some value) (pre ++ es))) (greater_if_below p.0 key below.0)
    ∙ ap (λ rest. p ∷ rest) (put-after key value pre es below.1)

put_above : (key value : List ℕ) (post : List Element) → Each (λ e. Below key e.0) post → set_in key (Some value) post ≡ (key, value) ∷ post
put_above key value [] above = refl
put_above key value (p ∷ post) above =
    ap (λ o. by_order o ((key, value) ∷ (p ∷ post)) ((key, value) ∷ post) (p ∷ set_in key (Some value) post)) (less_if_below key p.0 above.0)

-- three cases, each with the same behind it
pub by_order-append : (o : Ordering) (xs ys zs post : List Element) → by_order o (xs ++ post) (ys ++ post) (zs ++ post) ≡ by_order o xs ys zs ++ post
by_order-append Less xs ys zs post = refl
by_order-append Equal xs ys zs post = refl
by_order-append Greater xs ys zs post = refl

-- a record is put before greater elements
pub put-before : (key value : List ℕ) (es post : List Element) → Each (λ e. Below key e.0) post → set_in key (Some value) (es ++ post) ≡ set_in key (Some value) es ++ post
put-before key value [] post above = put_above key value post above
put-before key value (e ∷ es) post above =
    ap (λ rest. by_order (slice_cmp nat_cmp key e.0) ((key, value) ∷ (e ∷ (es ++ post))) ((key, value) ∷ (es ++ post)) (e ∷ rest)) (put-before key value es post above)
    ∙ by_order-append (slice_cmp nat_cmp key e.0) ((key, value) ∷ (e ∷ es)) ((key, value) ∷ es) (e ∷ set_in key (Some value) es) post

-- a record is put between smaller and greater ones
pub put-between : (key value : List ℕ) (pre es post : List Element) → Each (λ e. Below e.0 key) pre → Each (λ e. Below key e.0) post → set_in key (Some value) (pre ++ (es ++ post)) ≡ pre ++ (set_in key (Some value) es ++ post)
put-between key value pre es post below above =
    put-after key value pre (es ++ post) below ∙ ap (λ rest. pre ++ rest) (put-before key value es post above)

-- a record takes the place of the one at its key
pub put-here : (key value : List ℕ) (pre : List Element) (x : Element) (post : List Element) → Each (λ e. Below e.0 key) pre → x.0 ≡ key → set_in key (Some value) (pre ++ x ∷ post) ≡ pre ++ (key, value) ∷ post
put-here key value pre x post below here =
    put-after key value pre (x ∷ post) below
    ∙ ap (λ o. pre ++ by_order o ((key, value) ∷ (x ∷ post)) ((key, value) ∷ post) (x ∷ set_in key (Some value) post)) (same_key x.0 key here)

-- a record at a new key goes between
pub put-none : (key value : List ℕ) (pre post : List Element) → Each (λ e. Below e.0 key) pre → Each (λ e. Below key e.0) post → set_in key (Some value) (pre ++ post) ≡ pre ++ (key, value) ∷ post
put-none key value pre post below above = put-after key value pre post below ∙ ap (λ rest. pre ++ rest) (put_above key value post above)

put_each_by : (P : List ℕ → Type 0) (key value : List ℕ) (e : Element) (es : List Element) → Each (λ x. P x.0) (e ∷ es) → P key → Each (λ x. P x.0) (set_in key (Some value) es) → (o : Ordering)
    → Each (λ x. P x.0) (by_order o ((key, value) ∷ (e ∷ es)) ((key, value) ∷ es) (e ∷ set_in key (Some value) es))
put_each_by P key value e es each new rest Less = (new, each)
put_each_by P key value e es each new rest Equal = (new, each.1)
put_each_by P key value e es each new rest Greater = (each.0, rest)

-- a fact of each key stays where it holds of the new key
pub put_each : (P : List ℕ → Type 0) (key value : List ℕ) (es : List Element) → Each (λ e. P e.0) es → P key → Each (λ e. P e.0) (set_in key (Some value) es)
put_each P key value [] each new = (new, tt)
put_each P key value (e ∷ es) each new = put_each_by P key value e es each new (put_each P key value es each.1 new) (slice_cmp nat_cmp key e.0)

-- a key below an element is below later ones
pub later_above : (key : List ℕ) (e : Element) (es : List Element) → Below key e.0 → Each (λ later. Below e.0 later.0) es → Each (λ later. Below key later.0) es
later_above key e es above up = Each-map (λ (later : Element). Below e.0 later.0) (λ later. Below key later.0) es (λ later over. Below-trans key e.0 later.0 above over) up

put_ascends : (key value : List ℕ) (e : Element) (es : List Element) → Ascends (e ∷ es) → Ascends (set_in key (Some value) es) → (o : Ordering) → slice_cmp nat_cmp key e.0 ≡ o
    → Ascends (by_order o ((key, value) ∷ (e ∷ es)) ((key, value) ∷ es) (e ∷ set_in key (Some value) es))
put_ascends key value e es up rest Less is = let above = below_if_less key e.0 is in ((above, later_above key e es above up.0), up)
put_ascends key value e es up rest Equal is =
    (subst (λ (k : List ℕ). Each (λ later. Below k later.0) es) (sym (exact_bytes key e.0 is)) up.0, up.1)
put_ascends key value e es up rest Greater is =
    (put_each (λ k. Below e.0 k) key value es up.0 (below_if_greater e.0 key is), rest)

-- the order stays
pub put-ascends : (key value : List ℕ) (es : List Element) → Ascends es → Ascends (set_in key (Some value) es)
put-ascends key value [] up = (tt, tt)
put-ascends key value (e ∷ es) up = put_ascends key value e es up (put-ascends key value es up.1) (slice_cmp nat_cmp key e.0) refl

remove_each_by : (P : Element → Type 0) (e : Element) (es rest : List Element) → Each P (e ∷ es) → Each P rest → (o : Ordering) → Each P (by_order o (e ∷ es) es (e ∷ rest))
remove_each_by P e es rest each later Less = each
remove_each_by P e es rest each later Equal = each.1
remove_each_by P e es rest each later Greater = (each.0, later)

-- what holds of each holds without one
pub remove_each : (P : Element → Type 0) (key : List ℕ) (es : List Element) → Each P es → Each P (set_in key None es)
remove_each P key [] each = tt
remove_each P key (e ∷ es) each = remove_each_by P e es (set_in key None es) each (remove_each P key es each.1) (slice_cmp nat_cmp key e.0)

remove_ascends_by : (key : List ℕ) (e : Element) (es : List Element) → Ascends (e ∷ es) → Ascends (set_in key None es) → (o : Ordering) → Ascends (by_order o (e ∷ es) es (e ∷ set_in key None es))
remove_ascends_by key e es up rest Less = up
remove_ascends_by key e es up rest Equal = up.1
remove_ascends_by key e es up rest Greater = (remove_each (λ later. Below e.0 later.0) key es up.0, rest)

-- the order stays
pub remove-ascends : (key : List ℕ) (es : List Element) → Ascends es → Ascends (set_in key None es)
remove-ascends key [] up = tt
remove-ascends key (e ∷ es) up = remove_ascends_by key e es up (remove-ascends key es up.1) (slice_cmp nat_cmp key e.0)

-- one more where the key is new
abbrev pub one_if_none : {A : Type 0} → Option A → ℕ
one_if_none None = 1
one_if_none (Some x) = 0

put_length : (key value : List ℕ) (e : Element) (es : List Element) → Ascends (e ∷ es) → length (set_in key (Some value) es) ≡ length es + one_if_none (lookup_in key es) → (o : Ordering) → slice_cmp nat_cmp key e.0 ≡ o
    → length (by_order o ((key, value) ∷ (e ∷ es)) ((key, value) ∷ es) (e ∷ set_in key (Some value) es)) ≡ suc (length es) + one_if_none (by_order o None (Some e.1) (lookup_in key es))
put_length key value e es up rest Less is = omega arith
put_length key value e es up rest Equal is = omega arith
put_length key value e es up rest Greater is = omega (arith, rest)

-- a new key is one more
pub put-length : (key value : List ℕ) (es : List Element) → Ascends es → length (set_in key (Some value) es) ≡ length es + one_if_none (lookup_in key es)
put-length key value [] up = refl
put-length key value (e ∷ es) up = put_length key value e es up (put-length key value es up.1) (slice_cmp nat_cmp key e.0) refl
