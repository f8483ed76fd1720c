-- What taking a key out below a page comes to.
use Rattle.std.proofs.Common.{◌≡◌, ℕ, zero, suc, ◌<◌, ◌≤◌, inl, Option, Some, None, List, [], ◌∷◌, ◌++◌, length, get_or, set, take, drop, refl, ap, sym, ◌∙◌, subst, arith, false, IsSome, is_some}
use Rattle.std.specs.List.{remove}
use Rattle.std.proofs.lemmas.List.{get_or_default}
use Rattle.page_store.specs.PageMap.{PageMap, at, after}
use Rattle.btree_node.specs.declared.node.Node.{Node}
use Rattle.btree_node.specs.declared.node.NodeKind.TheVariants.{Inner}
use Rattle.btree_node.specs.Lists.{Element, Each, Below, Ascends, IsAt, IsPlace}
use Rattle.btree_node.proofs.SplitLemmas.{around}
use Rattle.btree_node.proofs.ElementOrderLemmas.{Ascends-right}
use Rattle.btree_insert.specs.declared.bounds.Bounds.{Bounds}
use Rattle.btree_insert.specs.Bounds.{Between}
use Rattle.btree_insert.specs.Contents.{lookup_in, set_in}
use Rattle.btree_insert.specs.Growth.{IsNotOfPages}
use Rattle.btree_insert.specs.declared.tree.TreeFault.{TreeFault}
use Rattle.btree_insert.specs.declared.tree.TreeFault.TheVariants.{Device, Damaged, Memory}
use Rattle.btree_delete.specs.Deleted.{MayStop}
use Rattle.btree_insert.specs.PageTrees.{IsIn, Apart, Fan, Body, TreeAt, kind_of_level}
use Rattle.btree_insert.proofs.BoundLemmas.{Ascends-before}
use Rattle.btree_insert.proofs.SonsAroundLemmas.{Focus}
use Rattle.btree_insert.proofs.ElementMapLemmas.{lookup-between, lookup-here}
use Rattle.btree_insert.proofs.Membership.{in_left, in_right, Apart-right, Apart-across, each_in, in_each}
use Rattle.btree_insert.proofs.HeadNodeLemmas.{Top, find_here, find_no_more}
use Rattle.btree_delete.specs.Treatment.{element_at, son_number}
use Rattle.btree_delete.specs.Shrinking.{MayBeUnderfull, WritesOrHandsUp, Loses, gone, StaysUnvisited, Drops, RemovesBelow, unsettled, Removal, Whole, Underfull}
use Rattle.btree_delete.specs.Tidy.{is_visited, Untouched, visits}
use Rattle.btree_delete.specs.Subtrees.{head_page}
use Rattle.btree_delete.specs.PagesLeft.{pages_freed}
use Rattle.btree_delete.proofs.SonsLemmas.{IsBeside, Kin, kin_underfull, fan_same}
use Rattle.btree_delete.proofs.PagesLeftLemmas.{loses_around}
use Rattle.btree_delete.proofs.BrotherPairLemmas.{Next}
use Rattle.btree_delete.proofs.ElementRemovalLemmas.{remove-between, remove-here, remove_is_remove}
use Rattle.btree_delete.proofs.SettledPageLemmas.{around_son, settled_leaves, settled_gone, loses_nothing, treated_leaves}
use Rattle.btree_delete.proofs.DeletionStepLemmas.{Broken, SettledSon, son_unvisited, below_in}
use Rattle.btree_delete.proofs.FirstElementLemmas.{Takes, more_visited}
use Rattle.btree_delete.proofs.EditLemmas.{untouched_empty, unvisited_push}

-- what stops a deletion from outside may stop it where the key is there
pub outside_stops : (stood : Option (List ℕ)) (fault : TreeFault) → IsSome stood → IsNotOfPages fault → MayStop stood fault
outside_stops stood Device some out = tt
outside_stops stood (Damaged page) some out = out
outside_stops stood Memory some out = some

-- what may stop a deletion comes from outside
pub stops_outside : (stood : Option (List ℕ)) (fault : TreeFault) → MayStop stood fault → IsNotOfPages fault
stops_outside stood Device stops = tt
stops_outside stood (Damaged page) stops = stops
stops_outside stood Memory stops = tt

-- a failed device may always stop it
pub device_stops : (stood : Option (List ℕ)) (fault : TreeFault) → fault ≡ Device → MayStop stood fault
device_stops stood fault is = subst (MayStop stood) (sym is) tt

-- what stands at a key that is found in a page
pub found_some : (k : ℕ) (pages : PageMap) (h : ℕ) (n : Node) (es : List Element) (us : List ℕ) (key : List ℕ) (i : ℕ) → Body (TreeAt k pages k h) h n es us → Ascends es → IsAt n.elements.items key i → IsSome (lookup_in key es)
found_some k pages h n es us key i body up place =
    ap is_some (sym (find_here (TreeAt k pages k h) h n es us key i (element_at n i) body up place (get_or_default n.elements.items i ([], []) (element_at n i) place.within)))

-- what stands at a key below a son stands there below the page
pub some_below : (key : List ℕ) (es pre xs post : List Element) → es ≡ pre ++ (xs ++ post) → Each (λ e. Below e.0 key) pre → Each (λ e. Below key e.0) post → lookup_in key es ≡ lookup_in key xs
some_below key es pre xs post es_is below above = ap (lookup_in key) es_is ∙ lookup-between key pre xs post below above

-- an element of a page stands at its place
pub is_at : (els : List Element) (i : ℕ) → Ascends els → i < length els → IsAt els (get_or els i ([], [])).0 i
is_at els i up low =
    let x = get_or els i ([], []) in
    let split = subst Ascends (around i els ([], []) low) up in
    record {
      within = low;
      below = Ascends-before (take i els) x (drop (suc i) els) split;
      here = λ d. ap (λ (e : Element). e.0) (get_or_default els i d ([], []) low);
      above = (Ascends-right (take i els) (x ∷ drop (suc i) els) split).0;
    }

-- the pages around a son below which some pages went
pub record Beside (old mid : PageMap) (lo hi p : ℕ) (us upre upost vs : List ℕ) : Type 0 where
  pub before : Each (λ q. mid q ≡ old q) upre
  pub behind : Each (λ q. mid q ≡ old q) upost
  pub page : mid p ≡ old p
  pub loses : Loses old mid lo hi us (p ∷ (upre ++ (vs ++ upost)))

-- the pages beside a son that lost some
pub beside_son : (old mid : PageMap) (lo hi p : ℕ) (us upre mine upost vs : List ℕ) → us ≡ p ∷ (upre ++ (mine ++ upost)) → Apart us → Loses old mid lo hi mine vs → Beside old mid lo hi p us upre upost vs
beside_son old mid lo hi p us upre mine upost vs us_is apart_us loses =
    let apart = subst Apart us_is apart_us in
    let inner = Apart-right upre (mine ++ upost) apart.1 in
    record {
      before = each_in (λ q. mid q ≡ old q) upre (λ q is. loses.left.same q (λ own. Apart-across q upre (mine ++ upost) apart.1 is (in_left q mine upost own)));
      behind = each_in (λ q. mid q ≡ old q) upost (λ q is. loses.left.same q (λ own. Apart-across q mine upost inner own is));
      page = loses.left.same p (λ own. apart.0 (in_right p upre (mine ++ upost) (in_left p mine upost own)));
      loses = subst (λ (xs : List ℕ). Loses old mid lo hi xs (p ∷ (upre ++ (vs ++ upost)))) (sym us_is) (loses_around old mid lo hi (p ∷ upre) mine vs upost apart loses);
    }

found_gone : (k p : ℕ) (ws ws2 : List (ℕ × List ℕ)) (e x : Element) (m : Node) (g : Removal) (key : List ℕ) (es : List Element) → WritesOrHandsUp k ws ws2 p e m g → e ≡ x → lookup_in key es ≡ Some x.1 → lookup_in key es ≡ Some (gone g).1
found_gone k p ws ws2 e x m g key es done e_is found = found ∙ ap (λ (y : Element). Some y.1) (sym (settled_gone k p ws ws2 e m g done ∙ e_is))

key_gone : (k p : ℕ) (ws ws2 : List (ℕ × List ℕ)) (e x : Element) (m : Node) (g : Removal) (key : List ℕ) → WritesOrHandsUp k ws ws2 p e m g → e ≡ x → x.0 ≡ key → (gone g).0 ≡ key
key_gone k p ws ws2 e x m g key done e_is key_is = ap (λ (y : Element). y.0) (settled_gone k p ws ws2 e m g done ∙ e_is) ∙ key_is

-- out of a leaf
pub drop_leaf : (k : ℕ) (old : PageMap) (ws ws2 : List (ℕ × List ℕ)) (fs : List ℕ) (least height h p : ℕ) (es : List Element) (us : List ℕ) (b c : Bounds) (n m : Node) (i : ℕ) (e : Element) (g : Removal) (visited : List ℕ) → h ≡ 0 → 1 ≤ k → least ≤ k → ws ≡ [] → fs ≡ [] → Apart us → Between b es → Top k old least height h p es us b n
    → MayBeUnderfull k height c m → Ascends n.elements.items → i < length n.elements.items → e ≡ element_at n i → m.kind ≡ n.kind → m.elements.items ≡ remove n.elements.items i → WritesOrHandsUp k ws ws2 p e m g
    → RemovesBelow (head_page k least h p) (pages_freed old (after old ws2 fs) 0 (length fs)) es us (visits visited visited) (element_at n i).0 (Some g)
drop_leaf k old ws ws2 fs least height (suc h) p es us b c n m i e g visited is order low no_writes none_freed apart between head may_be_underfull up within e_is kind_is els_is done = absurd (omega arith)
drop_leaf k old ws ws2 fs least height zero p es us b c n m i e g visited is order low no_writes none_freed apart between head may_be_underfull up within e_is kind_is els_is done =
    let key = (element_at n i).0 in
    let place = is_at n.elements.items i up within in
    let us_is : us ≡ p ∷ [] = head.us_is ∙ ap (λ vs. p ∷ vs) head.body.2 in
    let loses = subst (λ (vs : List ℕ). Loses old (after old ws fs) 0 (length fs) us vs) us_is (loses_nothing old ws fs us no_writes none_freed apart) in
    let found = sym (find_here (TreeAt k old k 0) 0 n es head.below key i (element_at n i) head.body between.ascends place (get_or_default n.elements.items i ([], []) (element_at n i) within)) in
    let es_is : set_in key None es ≡ m.elements.items = ap (set_in key None) head.body.1 ∙ remove_is_remove key n.elements.items i place ∙ sym els_is in
    record {
      drops = (
        key_gone k p ws ws2 e (element_at n i) m g key done e_is refl,
        found_gone k p ws ws2 e (element_at n i) m g key es done e_is found,
        settled_leaves k old least height 0 p 0 (length fs) c ws ws2 fs us [] (set_in key None es) e m g order low may_be_underfull (untouched_empty ws fs p no_writes none_freed) (kind_is ∙ head.body.0, es_is, refl) loses done,
      );
      unvisited = λ q unvisited _. unvisited;
    }

-- an inner page without a key, for which the next one stands now: what is asked of the son behind it
pub next_es : (pre xs post : List Element) (x nx : Element) (rest es : List Element) → es ≡ pre ++ x ∷ (xs ++ post) → xs ≡ nx ∷ rest → Each (λ (e : Element). Below e.0 x.0) pre → set_in x.0 None es ≡ pre ++ nx ∷ (rest ++ post)
next_es pre xs post x nx rest es es_is xs_is below = ap (set_in x.0 None) es_is ∙ remove-here x.0 pre x (xs ++ post) below refl ∙ ap (λ (zs : List Element). pre ++ (zs ++ post)) xs_is

inner_body : (k : ℕ) (pages : PageMap) (h : ℕ) (n m : Node) (sons : List ℕ) (els es : List Element) (us : List ℕ) → n.kind ≡ Inner → m.kind ≡ n.kind → m.elements.items ≡ els → m.sons.items ≡ sons → Fan (TreeAt k pages k (suc h)) sons els es us → Body (TreeAt k pages k (suc h)) (suc h) m es us
inner_body k pages h n m sons els es us inner kind_is els_is sons_is fan = (
  kind_is ∙ inner,
  fan_same (TreeAt k pages k (suc h)) sons m.sons.items els m.elements.items es es us sons_is els_is refl fan,
)

-- an element in an inner page gives way to the next greater one, and no son is underfull
pub next_whole : (k : ℕ) (old : PageMap) (ws ws2 : List (ℕ × List ℕ)) (fs : List ℕ) (least height h p : ℕ) (es : List Element) (us : List ℕ) (b c : Bounds) (n m : Node) (i : ℕ) (e nx : Element) (g : Removal) (visited visited2 : List ℕ) → 1 ≤ k → least ≤ k → Apart us → Between b es → (head : Top k old least height (suc h) p es us b n)
    → (at : Next (TreeAt k old k (suc h)) (TreeAt k (after old ws fs) k (suc h)) (λ q. after old ws fs q ≡ old q) n.sons.items n.elements.items es head.below (element_at n i).0 i b (element_at n i))
    → Takes k old (after old ws fs) 0 (length fs) k h (son_number n (suc i)) at.xs at.mine visited visited2 (Whole nx)
    → MayBeUnderfull k height c m → e ≡ element_at n i → m.kind ≡ n.kind → m.elements.items ≡ set n.elements.items i nx → m.sons.items ≡ n.sons.items → Untouched ws fs p → WritesOrHandsUp k ws ws2 p e m g
    → RemovesBelow (head_page k least (suc h) p) (pages_freed old (after old ws2 fs) 0 (length fs)) es us (visits visited visited2) (element_at n i).0 (Some g)
next_whole k old ws ws2 fs least height h p es us b c n m i e nx g visited visited2 order low apart between head at took may_be_underfull e_is kind_is els_is sons_is untouched done =
    let mid = after old ws fs in
    let key = (element_at n i).0 in
    let us_is = head.us_is ∙ ap (λ (vs : List ℕ). p ∷ vs) at.us_is in
    let (vs, tree, loses) = took.leaves in
    let beside = beside_son old mid 0 (length fs) p us at.upre at.mine at.upost vs us_is apart loses in
    let below = at.upre ++ (vs ++ at.upost) in
    let fan = at.keep beside.before beside.behind nx took.rest vs tree in
    let gone_is = next_es at.pre at.xs at.post (element_at n i) nx took.rest es at.es_is took.first at.below in
    let body = inner_body k mid h n m n.sons.items (set n.elements.items i nx) (at.pre ++ nx ∷ (took.rest ++ at.post)) below head.body.0 kind_is els_is sons_is fan in
    let found = ap (lookup_in key) at.es_is ∙ lookup-here key at.pre (element_at n i) (at.xs ++ at.post) at.below refl in
    record {
      drops = (
        key_gone k p ws ws2 e (element_at n i) m g key done e_is refl,
        found_gone k p ws ws2 e (element_at n i) m g key es done e_is found,
        settled_leaves k old least height (suc h) p 0 (length fs) c ws ws2 fs us below (set_in key None es) e m g order low may_be_underfull untouched (subst (λ (zs : List Element). Body (TreeAt k mid k (suc h)) (suc h) m zs below) (sym gone_is) body) beside.loses done,
      );
      unvisited = λ q unvisited out. took.unvisited q unvisited (λ is. out (below_in p us at.upre at.mine at.upost us_is q is));
    }

-- the same, and the son that gave it is underfull
pub next_broken : (k : ℕ) (old : PageMap) (ws : List (ℕ × List ℕ)) (fs : List ℕ) (least height h p : ℕ) (es : List Element) (us : List ℕ) (b : Bounds) (n m : Node) (i : ℕ) (nx : Element) (son : Node) (visited visited2 : List ℕ) → Apart us → (head : Top k old least height (suc h) p es us b n)
    → (at : Next (TreeAt k old k (suc h)) (Kin k old (after old ws fs) visited2 h (son_number n (suc i)) son) (IsBeside old (after old ws fs) visited2 (son_number n (suc i))) n.sons.items n.elements.items es head.below (element_at n i).0 i b (element_at n i))
    → Each (λ u. is_visited visited u ≡ false) head.below → (took : Takes k old (after old ws fs) 0 (length fs) k h (son_number n (suc i)) at.xs at.mine visited visited2 (Underfull nx son)) → m.elements.items ≡ set n.elements.items i nx → m.sons.items ≡ n.sons.items
    → Broken k old (after old ws fs) visited2 0 (length fs) h p (son_number n (suc i)) son m (set_in (element_at n i).0 None es) us
next_broken k old ws fs least height h p es us b n m i nx son visited visited2 apart head at unvisited took els_is sons_is =
    let mid = after old ws fs in
    let s = son_number n (suc i) in
    let us_is = head.us_is ∙ ap (λ (vs : List ℕ). p ∷ vs) at.us_is in
    let (below, body, same, loses) = took.leaves in
    let around = around_son old mid visited visited2 0 (length fs) p s us at.upre at.mine at.upost (s ∷ below) us_is apart (subst (Each (λ u. is_visited visited u ≡ false)) at.us_is unvisited) took.unvisited (loses.left.within s (inl refl)) loses in
    let fan = at.keep around.before around.behind nx took.rest (s ∷ below) (kin_underfull k old mid visited2 h s son s took.rest below refl body) in
    let mids = at.upre ++ ((s ∷ below) ++ at.upost) in
    let gone_is = next_es at.pre at.xs at.post (element_at n i) nx took.rest es at.es_is took.first at.below in
    record {
      mids = mids;
      fan = fan_same (Kin k old mid visited2 h s son) n.sons.items m.sons.items (set n.elements.items i nx) m.elements.items (at.pre ++ nx ∷ (took.rest ++ at.post)) (set_in (element_at n i).0 None es) mids sons_is els_is gone_is fan;
      loses = around.loses;
    }

-- a page whose underfull son was treated, where the key was found
pub drop_treated : (k : ℕ) (old : PageMap) (ws ws3 : List (ℕ × List ℕ)) (fs fs2 : List ℕ) (least height h p s : ℕ) (es : List Element) (us : List ℕ) (b : Bounds) (F son : Node) (e x : Element) (g : Removal) (visited2 visited3 key : List ℕ) → 1 ≤ k → least ≤ k
    → (broken : Broken k old (after old ws fs) visited2 0 (length fs) h p s son F (set_in key None es) us) → (done : SettledSon k height b old (after old ws fs) (length fs) h p (set_in key None es) visited2 visited3 broken.mids e ws3 fs2 g)
    → kind_of_level height ≡ Inner → e ≡ x → x.0 ≡ key → lookup_in key es ≡ Some x.1
    → Drops (head_page k least (suc h) p) (pages_freed old (after old ws3 fs2) 0 (length fs2)) es us key (Some g)
drop_treated k old ws ws3 fs fs2 least height h p s es us b F son e x g visited2 visited3 key order low broken done inner e_is key_is found =
    let ws2 = unsettled g ws3 in (
      key_gone k p ws2 ws3 e x done.G g key done.settles e_is key_is,
      found_gone k p ws2 ws3 e x done.G g key es done.settles e_is found,
      treated_leaves k old least height h p 0 b ws ws2 ws3 fs fs2 us broken.mids (set_in key None es) e done.G g order low done.may_be_underfull (done.may_be_underfull.kind ∙ inner) done.kept broken.loses done.son.treated done.settles,
    )

-- below a son, which needs no treating
pub drop_whole : (k : ℕ) (old : PageMap) (ws : List (ℕ × List ℕ)) (fs : List ℕ) (least height h p : ℕ) (es : List Element) (us : List ℕ) (b : Bounds) (n : Node) (i : ℕ) (e : Element) (visited visited2 key : List ℕ) → Apart us → (head : Top k old least height (suc h) p es us b n)
    → (at : Focus (TreeAt k old k (suc h)) (TreeAt k (after old ws fs) k (suc h)) (λ q. after old ws fs q ≡ old q) n.sons.items n.elements.items es head.below key i b)
    → RemovesBelow (head_page k k h (son_number n i)) (pages_freed old (after old ws fs) 0 (length fs)) at.xs at.mine (visits (visited ++ p ∷ []) visited2) key (Some (Whole e)) → RemovesBelow (head_page k least (suc h) p) (pages_freed old (after old ws fs) 0 (length fs)) es us (visits visited visited2) key (Some (Whole e))
drop_whole k old ws fs least height h p es us b n i e visited visited2 key apart head at removed =
    let mid = after old ws fs in
    let us_is = head.us_is ∙ ap (λ (vs : List ℕ). p ∷ vs) at.us_is in
    let (key_is, found, (vs, tree, loses)) = removed.drops in
    let beside = beside_son old mid 0 (length fs) p us at.upre at.mine at.upost vs us_is apart loses in
    let below = at.upre ++ (vs ++ at.upost) in
    let gone_is = ap (set_in key None) at.es_is ∙ remove-between key at.pre at.xs at.post at.below at.above in
    let fan = at.keep beside.before beside.behind (set_in key None at.xs) vs tree in
    record {
      drops = (
        key_is,
        ap (lookup_in key) at.es_is ∙ lookup-between key at.pre at.xs at.post at.below at.above ∙ found,
        (
          p ∷ below,
          (n, below, record { page = beside.page ∙ head.spells.page; stands = head.spells.stands }, head.least_is, (head.body.0, subst (λ (zs : List Element). Fan (TreeAt k mid k (suc h)) n.sons.items n.elements.items zs below) (sym gone_is) fan), refl),
          beside.loses,
        ),
      );
      unvisited = son_unvisited visited visited2 p us at.upre at.mine at.upost us_is removed.unvisited;
    }

-- not below a son
pub drop_none : (k : ℕ) (old new : PageMap) (lo hi least height h p : ℕ) (es : List Element) (us : List ℕ) (b : Bounds) (n : Node) (i : ℕ) (visited visited2 key : List ℕ) → (head : Top k old least height (suc h) p es us b n)
    → (at : Focus (TreeAt k old k (suc h)) (TreeAt k old k (suc h)) (λ q. Unit {0}) n.sons.items n.elements.items es head.below key i b)
    → RemovesBelow (head_page k k h (son_number n i)) (pages_freed old new lo hi) at.xs at.mine (visits (visited ++ p ∷ []) visited2) key None → RemovesBelow (head_page k least (suc h) p) (pages_freed old new lo hi) es us (visits visited visited2) key None
drop_none k old new lo hi least height h p es us b n i visited visited2 key head at removed =
    let us_is = head.us_is ∙ ap (λ (vs : List ℕ). p ∷ vs) at.us_is in
    record {
      drops = ap (lookup_in key) at.es_is ∙ lookup-between key at.pre at.xs at.post at.below at.above ∙ removed.drops;
      unvisited = son_unvisited visited visited2 p us at.upre at.mine at.upost us_is removed.unvisited;
    }

-- below a son, which is underfull now
pub drop_broken : (k : ℕ) (old : PageMap) (ws : List (ℕ × List ℕ)) (fs : List ℕ) (least height h p : ℕ) (es : List Element) (us : List ℕ) (b : Bounds) (n : Node) (i : ℕ) (e : Element) (son : Node) (visited visited2 key : List ℕ) → Apart us → (head : Top k old least height (suc h) p es us b n)
    → (at : Focus (TreeAt k old k (suc h)) (Kin k old (after old ws fs) visited2 h (son_number n i) son) (IsBeside old (after old ws fs) visited2 (son_number n i)) n.sons.items n.elements.items es head.below key i b)
    → Each (λ u. is_visited visited u ≡ false) us → RemovesBelow (head_page k k h (son_number n i)) (pages_freed old (after old ws fs) 0 (length fs)) at.xs at.mine (visits (visited ++ p ∷ []) visited2) key (Some (Underfull e son))
    → Broken k old (after old ws fs) visited2 0 (length fs) h p (son_number n i) son n (set_in key None es) us × (lookup_in key es ≡ Some e.1) × (e.0 ≡ key)
drop_broken k old ws fs least height h p es us b n i e son visited visited2 key apart head at unvisited removed =
    let mid = after old ws fs in
    let s = son_number n i in
    let us_is = head.us_is ∙ ap (λ (vs : List ℕ). p ∷ vs) at.us_is in
    let apart2 = subst Apart us_is apart in
    let (key_is, found, (below, body, same, loses)) = removed.drops in
    let unvisited2 = subst (Each (λ u. is_visited visited u ≡ false)) us_is unvisited in
    let around = around_son old mid (visited ++ p ∷ []) visited2 0 (length fs) p s us at.upre at.mine at.upost (s ∷ below) us_is apart (more_visited visited p (at.upre ++ (at.mine ++ at.upost)) apart2.0 unvisited2.1) removed.unvisited (loses.left.within s (inl refl)) loses in
    let mids = at.upre ++ ((s ∷ below) ++ at.upost) in
    let gone_is = ap (set_in key None) at.es_is ∙ remove-between key at.pre at.xs at.post at.below at.above in
    let fan = at.keep around.before around.behind (set_in key None at.xs) (s ∷ below) (kin_underfull k old mid visited2 h s son s (set_in key None at.xs) below refl body) in (
      record {
        mids = mids;
        fan = subst (λ (zs : List Element). Fan (Kin k old mid visited2 h s son) n.sons.items n.elements.items zs mids) (sym gone_is) fan;
        loses = around.loses;
      },
      ap (lookup_in key) at.es_is ∙ lookup-between key at.pre at.xs at.post at.below at.above ∙ found,
      key_is,
    )

-- what is visited for a son and its brother is below the page
pub on_unvisited : (visited visited2 visited3 : List ℕ) (t : ℕ) (us mine : List ℕ) → ((q : ℕ) → IsIn q mine → IsIn q us) → IsIn t us → StaysUnvisited visited visited2 mine → visited3 ≡ visited2 ++ t ∷ [] → StaysUnvisited visited visited3 us
on_unvisited visited visited2 visited3 t us mine mine_in t_in stays visited_is = λ q unvisited out.
    subst (λ (ms : List ℕ). is_visited ms q ≡ false) (sym visited_is) (unvisited_push visited2 t q (stays q unvisited (λ is. out (mine_in q is))) (λ e. out (subst (λ (x : ℕ). IsIn x us) (sym e) t_in)))

-- what holds of all holds of those in the middle
pub each_mid : (P : ℕ → Type 0) (us upre mine upost : List ℕ) → us ≡ upre ++ (mine ++ upost) → Each P us → Each P mine
each_mid P us upre mine upost us_is each = each_in P mine (λ q is. in_each P us q each (subst (IsIn q) (sym us_is) (in_right q upre (mine ++ upost) (in_left q mine upost is))))

-- what was said of the page that was visited just now
pub removed_top : (k : ℕ) (ps ps2 : List (Option (List ℕ))) (ws : List (ℕ × List ℕ)) (fs : List ℕ) (least h p : ℕ) (es : List Element) (us m m2 visited key key2 : List ℕ) (g : Option Removal) → ps2 ≡ ps → m2 ≡ m ++ p ∷ [] → key2 ≡ key → IsIn p us
    → RemovesBelow (head_page k least h p) (pages_freed (at ps2) (after (at ps2) ws fs) 0 (length fs)) es us (visits m2 visited) key2 g → RemovesBelow (head_page k least h p) (pages_freed (at ps) (after (at ps) ws fs) 0 (length fs)) es us (visits m visited) key g
removed_top k ps ps2 ws fs least h p es us m m2 visited key key2 g ps_is m_is key_is p_in removed =
    let here = subst (λ (x : List (Option (List ℕ))). RemovesBelow (head_page k least h p) (pages_freed (at x) (after (at x) ws fs) 0 (length fs)) es us (visits (m ++ p ∷ []) visited) key g) ps_is
    (subst (λ (x : List ℕ). RemovesBelow (head_page k least h p) (pages_freed (at ps2) (after (at ps2) ws fs) 0 (length fs)) es us (visits x visited) key g) m_is
    (subst (λ (x : List ℕ). RemovesBelow (head_page k least h p) (pages_freed (at ps2) (after (at ps2) ws fs) 0 (length fs)) es us (visits m2 visited) x g) key_is removed)) in
    record {
      drops = here.drops;
      unvisited = λ q unvisited out. here.unvisited q (unvisited_push m p q unvisited (λ e. out (subst (λ (x : ℕ). IsIn x us) (sym e) p_in))) out;
    }

-- a key that stands in no leaf
pub none_here : (k : ℕ) (pages : PageMap) (least height h p : ℕ) (es : List Element) (us : List ℕ) (b : Bounds) (n : Node) (key : List ℕ) (i : ℕ) → h ≡ 0 → Top k pages least height h p es us b n → IsPlace n.elements.items key i → lookup_in key es ≡ None
none_here k pages least height h p es us b n key i is head place = sym (find_no_more (TreeAt k pages k h) h n es head.below key i is head.body place)
