-- A table in a tree: no other page is in use, so that the limits of a file never bind below its limit of records.
use Rattle.std.proofs.Common.{◌≡◌, ℕ, zero, suc, ◌+◌, ◌-◌, ◌*◌, ◌^◌, ◌<◌, ◌≤◌, ⊎_elim, inl, inr, Bool, true, false, Option, Some, None, IsSome, List, [], ◌∷◌, length, get_or, drop, refl, ap, sym, ◌∙◌, subst, arith}
use Rattle.std.proofs.Math.Nat.{div-le_self, pow-le-pow_left, pow-le-pow_right}
use Rattle.std.proofs.lemmas.List.{length-replicate, get_or-replicate}
use Rattle.page_store.specs.PageMap.{PageMap, at}
use Rattle.page_store.specs.FreeNumbers.{free_from, free_numbers, count_after}
use Rattle.btree_node.specs.Layout.{second_layout}
use Rattle.btree_node.specs.Lists.{Element}
use Rattle.btree_insert.specs.declared.tree.Tree.{Tree}
use Rattle.btree_insert.specs.Contents.{lookup_in, set_in}
use Rattle.btree_insert.specs.Inserted.{Inserted, IsSmall}
use Rattle.btree_insert.specs.PagesGrown.{PagesGrown, pages_change, taking}
use Rattle.btree_insert.specs.PageTrees.{IsIn, RootAt, Holds}
use Rattle.btree_insert.proofs.ElementMapLemmas.{one_if_none, put-length}
use Rattle.btree_insert.proofs.SizeLemmas.{keys_bound, pages_bound}
use Rattle.btree_delete.specs.PagesLeft.{PagesLeft}
use Rattle.btree_delete.specs.Survey.{mark, unreached, none_of}
use Rattle.btree_delete.specs.TableView.{Fills}
use Rattle.btree_delete.proofs.FreeNumberLemmas.{one_less}
use Rattle.btree_delete.proofs.MeasureLemmas.{unmarked, stays_unmarked, apart_unvisited, fewer_left, all_unreached, long_mark, below_count, root_in_use}
use Rattle.btree_insert.proofs.InsertionLemmas.{some_not_none}
use Rattle.btree_delete.proofs.PagesLeftLemmas.{in_or_not}

not_false : (b : Bool) → (b ≡ false → ⊥) → b ≡ true
not_false true never = refl
not_false false never = absurd (never refl)

-- each page that was marked reads so
pub marked : (us : List ℕ) (bits : List Bool) (q : ℕ) → IsIn q us → get_or (mark us bits) q true ≡ true
marked us bits q is = not_false (get_or (mark us bits) q true) (λ unvisited. (unmarked us bits q unvisited).1 is)

-- the free numbers are as many as the flags that are not set
free_counted : (m : ℕ) (pages : List (Option (List ℕ))) (bits : List Bool) → length pages ≡ length bits → ((n : ℕ) → n < length bits → (at pages n ≡ None → get_or bits n true ≡ false) × (IsSome (at pages n) → get_or bits n true ≡ true)) → length (free_from m pages) ≡ unreached bits
free_counted m [] [] long each = refl
free_counted m [] (b ∷ bits) long each = absurd (omega (arith, long))
free_counted m (p ∷ pages) [] long each = absurd (omega (arith, long))
free_counted m (None ∷ pages) (true ∷ bits) long each = absurd (let never = (each 0 (omega arith)).0 refl in cc)
free_counted m (None ∷ pages) (false ∷ bits) long each = ap suc (free_counted (m + 1) pages bits (omega (arith, long)) (λ n low. each (suc n) (omega (arith, low))))
free_counted m (Some page ∷ pages) (true ∷ bits) long each = free_counted (m + 1) pages bits (omega (arith, long)) (λ n low. each (suc n) (omega (arith, low)))
free_counted m (Some page ∷ pages) (false ∷ bits) long each = absurd (let never = (each 0 (omega arith)).1 refl in cc)

tail_counted : (pages : List (Option (List ℕ))) (bits : List Bool) → length pages ≡ length bits → ((n : ℕ) → n < length bits → (at pages n ≡ None → get_or bits n true ≡ false) × (IsSome (at pages n) → get_or bits n true ≡ true)) → length (free_from 1 (drop 1 pages)) ≡ unreached (drop 1 bits)
tail_counted [] [] long each = refl
tail_counted [] (b ∷ bits) long each = absurd (omega (arith, long))
tail_counted (p ∷ pages) [] long each = absurd (omega (arith, long))
tail_counted (p ∷ pages) (b ∷ bits) long each = free_counted 1 pages bits (omega (arith, long)) (λ n low. each (suc n) (omega (arith, low)))

-- page 0, the pages of the tree and the free ones are all
pub all_pages : (pages : List (Option (List ℕ))) (tree : Tree) (es : List Element) (us : List ℕ) → 1 ≤ length pages → at pages 0 ≡ None → Fills pages tree es us → length pages ≡ 1 + length us + length (free_numbers pages)
all_pages pages tree es us some header fills =
    let bits = none_of (length pages) in
    let used : (q : ℕ) → IsIn q us → at pages q ≡ None → ⊥ = root_in_use second_layout tree.order (at pages) tree.root tree.height es us fills.holds.tree in
    let unset : (q : ℕ) → q < length pages → get_or bits q true ≡ false = λ q low. get_or-replicate (length pages) q false true low in
    let unvisited = apart_unvisited us bits fills.holds.apart (λ q is. unset q (below_count pages q (used q is))) in
    let fit = fewer_left us bits unvisited in
    let all = all_unreached (length pages) in
    let first : get_or (mark us bits) 0 true ≡ false = stays_unmarked us bits 0 (unset 0 (omega (arith, some))) (λ is. used 0 is header) in
    let one = one_less (mark us bits) first in
    let long : length (mark us bits) ≡ length pages = long_mark us bits ∙ length-replicate (length pages) false in
    let free = tail_counted pages (mark us bits) (sym long) (λ n low. (λ none. stays_unmarked us bits n (unset n (omega (arith, low, long))) (λ is. used n is none), λ there. marked us bits n (fills.alone n there))) in
    omega (arith, fit, all, one, free)

-- after an insertion no other page is in use
pub grown_alone : (old new : PageMap) (fresh : ℕ → ℕ) (taken : ℕ) (us vs : List ℕ) → PagesGrown old new fresh 0 taken us vs → ((q : ℕ) → IsSome (old q) → IsIn q us) → (q : ℕ) → IsSome (new q) → IsIn q vs
grown_alone old new fresh taken us vs kept alone q there =
    ⊎_elim (λ is. is) (λ (out : IsIn q vs → ⊥). absurd (out (kept.stays q (inl (alone q (subst IsSome (kept.same q (λ is. out (kept.stays q (inl is))) (λ is. out (kept.stays q (inr is)))) there)))))) (in_or_not q vs)

-- nor after a deletion
pub left_alone : (old new : PageMap) (us vs : List ℕ) → PagesLeft old new us vs → ((q : ℕ) → IsSome (old q) → IsIn q us) → (q : ℕ) → IsSome (new q) → IsIn q vs
left_alone old new us vs left alone q there =
    ⊎_elim (λ is. is) (λ (out : IsIn q vs → ⊥). absurd (⊎_elim (λ (is : IsIn q us). some_not_none (new q) there (left.gone q is out)) (λ (gone : IsIn q us → ⊥). gone (alone q (subst IsSome (left.same q gone) there))) (in_or_not q us))) (in_or_not q vs)

-- a tree of at most a million keys has few levels and few pages
few_levels : (h k count : ℕ) → 1 ≤ k → 2 * (k + 1) ^ h ≤ count + 1 → count ≤ 1000000 → h ≤ 18
few_levels h k count order power most =
    let never : 19 ≤ h → ⊥ = λ high.
    let base = pow-le-pow_left {n = 2} {m = k + 1} (omega (arith, order)) h in
    let up = pow-le-pow_right {n = 2} (omega arith) {i = 19} {j = h} high in
    omega (arith, up, base, power, most) in
    omega (arith, never)

-- a tree of at most a million keys has at most 19 levels
pub low_tree : (pages : PageMap) (t : Tree) (es : List Element) (us : List ℕ) → 1 ≤ t.order → t.count ≤ 1000000 → Holds pages t es us → t.height ≤ 19
low_tree pages t es us order most holds = at t.height refl
  where
    at : (h : ℕ) → t.height ≡ h → t.height ≤ 19
    at zero is = omega (arith, is)
    at (suc h) is =
        let low = few_levels (t.height - 1) t.order t.count order (keys_bound pages t es us (omega (arith, is)) holds) most in
        omega (arith, is, low)

none_used : (k : ℕ) (pages : PageMap) (h root : ℕ) (es : List Element) (us : List ℕ) → h ≡ 0 → RootAt k pages h root es us → us ≡ []
none_used k pages zero root es us is tree = tree.2
none_used k pages (suc h) root es us is tree = absurd (omega (arith, is))

-- and at most a million pages
pub low_used : (pages : PageMap) (t : Tree) (es : List Element) (us : List ℕ) → 1 ≤ t.order → t.count ≤ 1000000 → Holds pages t es us → t.used ≤ 1000000
low_used pages t es us order most holds = at t.height refl
  where
    at : (h : ℕ) → t.height ≡ h → t.used ≤ 1000000
    at zero is =
        let none = ap length (none_used t.order pages t.height t.root es us is holds.tree) in
        omega (arith, none, holds.used)
    at (suc h) is =
        let bound = pages_bound pages t es us order (omega (arith, is)) holds in
        let low = div-le_self (t.count - 1) t.order in
        omega (arith, bound, low, most)

-- what a table's insertion comes to is within the limits of a file
pub grown_small : (old : List (Option (List ℕ))) (new : PageMap) (taken : ℕ) (tree next : Tree) (es : List Element) (us key value : List ℕ) (before : Option (List ℕ)) (limit : ℕ) → 1 ≤ tree.order → 1 ≤ length old → length old ≤ 1000001 → at old 0 ≡ None
    → Fills old tree es us → Inserted (taking old new taken) tree es us key value (next, before) → next.count ≤ limit → limit ≤ 1000000 → IsSmall next (count_after old taken)
grown_small old new taken tree next es us key value before limit order some most header fills done few small =
    let some_order : 1 ≤ next.order = omega (arith, order, done.order) in
    let count : next.count ≤ 1000000 = omega (arith, few, small) in
    let used = low_used new next (set_in key (Some value) es) done.vs some_order count done.holds in
    let all = all_pages old tree es us some header fills in
    record {
      height = low_tree new next (set_in key (Some value) es) done.vs some_order count done.holds;
      count = count;
      used = used;
      pages = omega (arith, all, used, done.holds.used, done.kept.count, most);
    }

-- how many keys a table has after an insertion
pub grown_count : (old new : PageMap) (fresh : ℕ → ℕ) (taken : ℕ) (tree next : Tree) (es : List Element) (us key value : List ℕ) (before : Option (List ℕ)) (limit : ℕ) → Holds old tree es us → Inserted (pages_change old new fresh 0 taken) tree es us key value (next, before)
    → tree.count ≤ limit → (lookup_in key es ≡ None → tree.count < limit) → next.count ≤ limit
grown_count old new fresh taken tree next es us key value before limit holds done few room =
    let size = done.holds.count ∙ put-length key value es holds.ascends in
    at (lookup_in key es) refl size
  where
    at : (o : Option (List ℕ)) → lookup_in key es ≡ o → next.count ≡ length es + one_if_none (lookup_in key es) → next.count ≤ limit
    at None is size =
        let one = ap one_if_none is in
        let low = room is in
        omega (arith, size, one, low, holds.count)
    at (Some x) is size =
        let none = ap one_if_none is in
        omega (arith, size, none, few, holds.count)
