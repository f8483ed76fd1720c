-- Elements in order as a finite map.
use Rattle.std.proofs.Common.{◌≡◌, ℕ, ◌&&◌, Bool, true, false, cond, not, T, Option, Some, None, List, [], ◌∷◌, length, refl, ap, sym, ◌∙◌, subst}
use Rattle.std.specs.Ordering.{nat_cmp, eq_by_cmp, is_eq, is_lt}
use Rattle.std.specs.Cmp.Lexicographic.{slice_cmp}
use Rattle.std.specs.declared.cmp.Ordering.{Ordering}
use Rattle.std.specs.declared.cmp.Ordering.TheVariants.{Less, Equal, Greater}
use Rattle.std.specs.FinMap.{get, entries, len, is_sorted, entries-from_sorted, entries-insert, get-from_sorted, get-remove, len-entries, same_map, same_entries_map, slice_cmp-IsAntisymmetric, nat_cmp-IsAntisymmetric}
use Rattle.std.specs.FinMap.Entries.{find, put, where_key, below_all, by_order as put_by_order, find-where_key}
use Rattle.std.specs.Cmp.{eq_by_cmp_equiv}
use Rattle.std.proofs.lemmas.Cmp.{nat_list_cmp_total}
use Rattle.std.proofs.lemmas.Map.Lookups.{exact_bytes}
use Rattle.rec_types.specs.Contents.{set_to}
use Rattle.btree_node.specs.Lists.{Element, Each, Below, Ascends}
use Rattle.btree_insert.specs.Contents.{by_order, lookup_in, set_in, contents_of}
use Rattle.btree_insert.proofs.ElementMapLemmas.{less_if_below, below_if_less, lookup_above, later_above, put-ascends, remove-ascends}

abbrev order : List ℕ → List ℕ → Ordering
order = slice_cmp nat_cmp

abbrev without : List ℕ → List Element → List Element
without key es = where_key order (λ x. not (eq_by_cmp order key x)) es

both : (a b : Bool) → T a → T b → T (a && b)
both true b p q = q
both false b p q = p

below_sorted : (x : List ℕ) (es : List Element) → Each (λ later. Below x later.0) es → T (below_all order x es)
below_sorted x [] each = tt
below_sorted x (e ∷ es) each = both (is_lt (order x e.0)) (below_all order x es) (subst (λ r. T (is_lt r)) (sym (less_if_below x e.0 each.0)) tt) (below_sorted x es each.1)

-- ascending elements are sorted pairs
pub sorted : (es : List Element) → Ascends es → T (is_sorted order es)
sorted [] up = tt
sorted (e ∷ es) up = both (below_all order e.0 es) (is_sorted order es) (below_sorted e.0 es up.0) (sorted es up.1)

find_by : (key : List ℕ) (e : Element) (es : List Element) → Ascends (e ∷ es) → find order key es ≡ lookup_in key es → (o : Ordering) → order key e.0 ≡ o → cond (is_eq o) (Some e.1) (find order key es) ≡ by_order o None (Some e.1) (lookup_in key es)
find_by key e es up rest Less is = rest ∙ lookup_above key es (later_above key e es (below_if_less key e.0 is) up.0)
find_by key e es up rest Equal is = refl
find_by key e es up rest Greater is = rest

find_is : (key : List ℕ) (es : List Element) → Ascends es → find order key es ≡ lookup_in key es
find_is key [] up = refl
find_is key (e ∷ es) up = find_by key e es up (find_is key es up.1) (order key e.0) refl

put_by : (key value : List ℕ) (e : Element) (es : List Element) → set_in key (Some value) es ≡ put order key value es → (o : Ordering) → order key e.0 ≡ o
    → by_order o ((key, value) ∷ (e ∷ es)) ((key, value) ∷ es) (e ∷ set_in key (Some value) es) ≡ put_by_order o ((key, value) ∷ (e ∷ es)) ((e.0, value) ∷ es) (e ∷ put order key value es)
put_by key value e es rest Less is = refl
put_by key value e es rest Equal is = ap (λ (k : List ℕ). (k, value) ∷ es) (exact_bytes key e.0 is)
put_by key value e es rest Greater is = ap (λ (zs : List Element). e ∷ zs) rest

put_is : (key value : List ℕ) (es : List Element) → set_in key (Some value) es ≡ put order key value es
put_is key value [] = refl
put_is key value (e ∷ es) = put_by key value e es (put_is key value es) (order key e.0) refl

keep_above : (key : List ℕ) (es : List Element) → Each (λ e. Below key e.0) es → without key es ≡ es
keep_above key [] above = refl
keep_above key (e ∷ es) above =
    ap (λ (o : Ordering). cond (not (is_eq o)) (e ∷ without key es) (without key es)) (less_if_below key e.0 above.0) ∙ ap (λ (zs : List Element). e ∷ zs) (keep_above key es above.1)

without_by : (key : List ℕ) (e : Element) (es : List Element) → Ascends (e ∷ es) → set_in key None es ≡ without key es → (o : Ordering) → order key e.0 ≡ o
    → by_order o (e ∷ es) es (e ∷ set_in key None es) ≡ cond (not (is_eq o)) (e ∷ without key es) (without key es)
without_by key e es up rest Less is = ap (λ (zs : List Element). e ∷ zs) (sym (keep_above key es (later_above key e es (below_if_less key e.0 is) up.0)))
without_by key e es up rest Equal is = sym (keep_above key es (subst (λ (k : List ℕ). Each (λ later. Below k later.0) es) (sym (exact_bytes key e.0 is)) up.0))
without_by key e es up rest Greater is = ap (λ (zs : List Element). e ∷ zs) rest

without_is : (key : List ℕ) (es : List Element) → Ascends es → set_in key None es ≡ without key es
without_is key [] up = refl
without_is key (e ∷ es) up = without_by key e es up (without_is key es up.1) (order key e.0) refl

-- they ascend after a key is set
pub set-ascends : (es : List Element) (key : List ℕ) (w : Option (List ℕ)) → Ascends es → Ascends (set_in key w es)
set-ascends es key None up = remove-ascends key es up
set-ascends es key (Some value) up = put-ascends key value es up

-- a look-up among them is one in their contents
pub get-contents_of : (es : List Element) (key : List ℕ) → Ascends es → get (contents_of es) key ≡ lookup_in key es
get-contents_of es key up = get-from_sorted order es key (sorted es up) ∙ find_is key es up

-- the entries of their contents are they
pub entries-contents_of : (es : List Element) → Ascends es → entries (contents_of es) ≡ es
entries-contents_of es up = entries-from_sorted order es (sorted es up)

-- as many keys as elements
pub len-contents_of : (es : List Element) → Ascends es → len (contents_of es) ≡ length es
len-contents_of es up = len-entries (contents_of es) ∙ ap length (entries-contents_of es up)

turned : {A : Type 0} (b : Bool) (x y : A) → cond (not b) x y ≡ cond b y x
turned true x y = refl
turned false x y = refl

-- setting a key among them sets it in their contents
pub contents_of-set : (es : List Element) (key : List ℕ) (w : Option (List ℕ)) → Ascends es → contents_of (set_in key w es) ≡ set_to (contents_of es) key w
contents_of-set es key None up = same_map nat_list_cmp_total (slice_cmp-IsAntisymmetric nat_cmp-IsAntisymmetric) _ _ (λ q.
    get-from_sorted order (set_in key None es) q (sorted (set_in key None es) (remove-ascends key es up))
    ∙ ap (find order q) (without_is key es up)
    ∙ find-where_key order (λ x. not (eq_by_cmp order key x)) q (λ x tied. ap (λ y. not (eq_by_cmp order key y)) (sym (exact_bytes q x tied))) es
    ∙ turned (eq_by_cmp order key q) (find order q es) None
    ∙ ap (λ b. cond b None (find order q es)) ((eq_by_cmp_equiv nat_list_cmp_total).symm key q)
    ∙ ap (cond (eq_by_cmp order q key) None) (sym (get-from_sorted order es q (sorted es up)))
    ∙ sym (get-remove nat_list_cmp_total (contents_of es) key q))
contents_of-set es key (Some value) up = same_entries_map _ _ (
    entries-contents_of (set_in key (Some value) es) (put-ascends key value es up) ∙ put_is key value es
    ∙ sym (entries-insert nat_list_cmp_total (contents_of es) key value ∙ ap (put order key value) (entries-contents_of es up)))
