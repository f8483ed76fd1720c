-- A page that was settled, and the pages around a son that changed.
use Rattle.std.proofs.Common.{◌≡◌, ℕ, suc, ◌+◌, ◌-◌, ◌*◌, ◌<◌, ◌≤◌, inl, Option, IsSome, true, false, List, [], ◌∷◌, ◌++◌, length, take, refl, ap, sym, ◌∙◌, subst, arith, length-append}
use Rattle.std.proofs.Math.Seq.{take-append_seam}
use Rattle.page_store.specs.PageMap.{PageMap, at, write_page, after}
use Rattle.btree_node.specs.declared.node.Node.{Node}
use Rattle.btree_node.specs.declared.node.NodeKind.TheVariants.{Inner}
use Rattle.btree_node.specs.Lists.{Element, Each}
use Rattle.btree_node.specs.Spelling.{spelling, CanStand}
use Rattle.btree_insert.specs.declared.bounds.Bounds.{Bounds}
use Rattle.btree_insert.specs.PageTrees.{IsIn, Apart, Body, TreeAt}
use Rattle.btree_insert.proofs.ChangedTreeLemmas.{body_move}
use Rattle.btree_insert.proofs.Membership.{in_left, in_right, Apart-right, Apart-across, each_in, in_each}
use Rattle.btree_insert.proofs.SettledTreeLemmas.{write_here, write_other}
use Rattle.btree_delete.specs.Treatment.{Treats, brothers}
use Rattle.btree_delete.specs.Shrinking.{MayBeUnderfull, WritesOrHandsUp, UnderfullGoesUp, Loses, LeavesTree, TreatsAndSettles, gone, StaysUnvisited, unsettled, Removal, Whole, Underfull}
use Rattle.btree_delete.specs.Tidy.{is_visited, Untouched, IsTidy, IsVisit, done_so_far}
use Rattle.btree_delete.specs.Subtrees.{head_page}
use Rattle.btree_delete.specs.PagesLeft.{pages_freed}
use Rattle.btree_delete.proofs.EditedPagesLemmas.{after_write, after_untouched, after_none}
use Rattle.btree_delete.proofs.SonsLemmas.{IsBeside}
use Rattle.btree_delete.proofs.PagesLeftLemmas.{left_write, loses_none, loses_around, loses_trans}
use Rattle.btree_delete.proofs.UnderflowLemmas.{Treated}
use Rattle.btree_delete.proofs.EditLemmas.{tidy_write, untouched_write, visited_here, visited_stays, visited_differs}

-- what settling tells of the element that went
pub settled_gone : (k n : ℕ) (ws ws2 : List (ℕ × List ℕ)) (removed : Element) (node : Node) (g : Removal) → WritesOrHandsUp k ws ws2 n removed node g → gone g ≡ removed
settled_gone k n ws ws2 removed node (Whole e) done = done.0
settled_gone k n ws ws2 removed node (Underfull e underfull) done = done.0

-- what a settled page hands up
pub settled_up : (k height n : ℕ) (b : Bounds) (ws ws2 : List (ℕ × List ℕ)) (fs : List ℕ) (removed : Element) (node : Node) (g : Removal) → MayBeUnderfull k height b node → Untouched ws fs n → WritesOrHandsUp k ws ws2 n removed node g → UnderfullGoesUp k height b n ws2 fs g
settled_up k height n b ws ws2 fs removed node (Whole e) may_be_underfull untouched done = tt
settled_up k height n b ws ws2 fs removed node (Underfull e underfull) may_be_underfull untouched (e_is, few, same, ws_is) =
    rw (same, ws_is) (may_be_underfull, few, untouched)

-- settling a visited page leaves the edit tidy
pub settled_tidy : (pages : List (Option (List ℕ))) (visited : List ℕ) (k n : ℕ) (ws ws2 : List (ℕ × List ℕ)) (fs : List ℕ) (removed : Element) (node : Node) (g : Removal) → IsSome (at pages n) → is_visited visited n ≡ true → Untouched ws fs n
    → WritesOrHandsUp k ws ws2 n removed node g → IsTidy pages visited ws fs → IsTidy pages visited ws2 fs
settled_tidy pages visited k n ws ws2 fs removed node (Whole e) used visited_is untouched (e_is, many, ws_is) tidy =
    subst (λ (vs : List (ℕ × List ℕ)). IsTidy pages visited vs fs) (sym ws_is) (tidy_write pages visited ws fs n (spelling node k) used visited_is untouched.kept tidy)
settled_tidy pages visited k n ws ws2 fs removed node (Underfull e underfull) used visited_is untouched (e_is, few, same, ws_is) tidy =
    subst (λ (vs : List (ℕ × List ℕ)). IsTidy pages visited vs fs) (sym ws_is) tidy

-- and other pages untouched
pub settled_others : (q k n : ℕ) (ws ws2 : List (ℕ × List ℕ)) (fs : List ℕ) (removed : Element) (node : Node) (g : Removal) → (q ≡ n → ⊥) → WritesOrHandsUp k ws ws2 n removed node g → Untouched ws fs q → Untouched ws2 fs q
settled_others q k n ws ws2 fs removed node (Whole e) other (e_is, many, ws_is) is =
    subst (λ (vs : List (ℕ × List ℕ)). Untouched vs fs q) (sym ws_is) (untouched_write ws fs n (spelling node k) q is other)
settled_others q k n ws ws2 fs removed node (Underfull e underfull) other (e_is, few, same, ws_is) is =
    subst (λ (vs : List (ℕ × List ℕ)). Untouched vs fs q) (sym ws_is) is

-- a node with a key that may be underfull can stand
pub may_be_underfull_stands : (k height : ℕ) (b : Bounds) (n : Node) → MayBeUnderfull k height b n → 0 < length n.elements.items → CanStand n k
may_be_underfull_stands k height b n may_be_underfull some = record { some = some; most = may_be_underfull.most; fit = may_be_underfull.fit; ascends = may_be_underfull.ascends; sons = may_be_underfull.sons }

-- what is left below a page that was settled
pub settled_leaves : (k : ℕ) (old : PageMap) (least height h p lo hi : ℕ) (b : Bounds) (ws ws2 : List (ℕ × List ℕ)) (fs us below : List ℕ) (es : List Element) (removed : Element) (node : Node) (g : Removal) → 1 ≤ k → least ≤ k → MayBeUnderfull k height b node → Untouched ws fs p
    → Body (TreeAt k (after old ws fs) k h) h node es below → Loses old (after old ws fs) lo hi us (p ∷ below) → WritesOrHandsUp k ws ws2 p removed node g → LeavesTree (head_page k least h p) (pages_freed old (after old ws2 fs) lo hi) us es g
settled_leaves k old least height h p lo hi b ws ws2 fs us below es removed node (Whole e) order low may_be_underfull untouched body loses (e_is, many, ws_is) =
    let mid = after old ws fs in
    let page = spelling node k in
    let new = write_page mid p page in
    let new_is : after old ws2 fs ≡ new = ap (λ (vs : List (ℕ × List ℕ)). after old vs fs) ws_is ∙ after_write old ws fs p page untouched.kept in
    let still : Each (λ q. new q ≡ mid q) below = each_in (λ q. new q ≡ mid q) below (λ q is. write_other mid p page q (λ e2. loses.left.apart.0 (subst (λ (x : ℕ). IsIn x below) e2 is))) in
    subst (λ (pages : PageMap). (vs : List ℕ) × TreeAt k pages least (suc h) p es vs × Loses old pages lo hi us vs) (sym new_is) (
      p ∷ below,
      (node, below, record { page = write_here mid p page; stands = may_be_underfull_stands k height b node may_be_underfull (omega (arith, many, order)) }, omega (arith, many, low), body_move k mid new h node es below body still, refl),
      record { left = left_write old mid new us (p ∷ below) p (inl refl) (λ q other. write_other mid p page q other) loses.left; count = loses.count },
    )
settled_leaves k old least height h p lo hi b ws ws2 fs us below es removed node (Underfull e underfull) order low may_be_underfull untouched body loses (e_is, few, same, ws_is) =
    let new_is : after old ws2 fs ≡ after old ws fs = ap (λ (vs : List (ℕ × List ℕ)). after old vs fs) ws_is in
    subst (λ (pages : PageMap). (vs : List ℕ) × Body (TreeAt k pages k h) h underfull es vs × (pages p ≡ old p) × Loses old pages lo hi us (p ∷ vs)) (sym new_is)
    (below, subst (λ (n : Node). Body (TreeAt k (after old ws fs) k h) h n es below) (sym same) body, after_untouched old ws fs p untouched, loses)

-- nothing was written or freed yet
pub loses_nothing : (old : PageMap) (ws : List (ℕ × List ℕ)) (fs us : List ℕ) → ws ≡ [] → fs ≡ [] → Apart us → Loses old (after old ws fs) 0 (length fs) us us
loses_nothing old ws fs us no_writes none_freed apart =
    subst (λ (pages : PageMap). Loses old pages 0 (length fs) us us) (sym (after_none old ws fs no_writes none_freed))
    (subst (λ (n : ℕ). Loses old old 0 n us us) (ap length (sym none_freed)) (loses_none old 0 us apart))

-- the pages around a son below which some pages went
pub record Around (old mid : PageMap) (visited : List ℕ) (lo hi p s : ℕ) (us upre upost vs : List ℕ) : Type 0 where
  pub before : Each (IsBeside old mid visited s) upre
  pub behind : Each (IsBeside old mid visited s) upost
  pub loses : Loses old mid lo hi us (p ∷ (upre ++ (vs ++ upost)))

-- the pages around a son that changed
pub around_son : (old mid : PageMap) (visited visited2 : List ℕ) (lo hi p s : ℕ) (us upre mine upost vs : List ℕ) → us ≡ p ∷ (upre ++ (mine ++ upost)) → Apart us → Each (λ u. is_visited visited u ≡ false) (upre ++ (mine ++ upost)) → StaysUnvisited visited visited2 mine → IsIn s mine → Loses old mid lo hi mine vs
    → Around old mid visited2 lo hi p s us upre upost vs
around_son old mid visited visited2 lo hi p s us upre mine upost vs us_is apart_us unvisited stays s_in loses =
    let apart = subst Apart us_is apart_us in
    let all = upre ++ (mine ++ upost) in
    let inner = Apart-right upre (mine ++ upost) apart.1 in
    let beside : (q : ℕ) → IsIn q all → (IsIn q mine → ⊥) → IsBeside old mid visited2 s q = λ q is out. record {
      other = λ e. out (subst (λ (x : ℕ). IsIn x mine) (sym e) s_in);
      same = loses.left.same q out;
      unvisited = stays q (in_each (λ u. is_visited visited u ≡ false) all q unvisited is) out;
    } in
    record {
      before = each_in (IsBeside old mid visited2 s) upre (λ q is. beside q (in_left q upre (mine ++ upost) is) (λ own. Apart-across q upre (mine ++ upost) apart.1 is (in_left q mine upost own)));
      behind = each_in (IsBeside old mid visited2 s) upost (λ q is. beside q (in_right q upre (mine ++ upost) (in_right q mine upost is)) (λ own. Apart-across q mine upost inner own is));
      loses = subst (λ (xs : List ℕ). Loses old mid lo hi xs (p ∷ (upre ++ (vs ++ upost)))) (sym us_is) (loses_around old mid lo hi (p ∷ upre) mine vs upost apart loses);
    }

-- what is left below a page whose underfull son was treated
pub treated_leaves : (k : ℕ) (old : PageMap) (least height h p lo : ℕ) (b : Bounds) (ws ws2 ws3 : List (ℕ × List ℕ)) (fs fs2 us mids : List ℕ) (es : List Element) (removed : Element) (G : Node) (g : Removal) → 1 ≤ k → least ≤ k → MayBeUnderfull k height b G → G.kind ≡ Inner → Untouched ws2 fs2 p
    → Loses old (after old ws fs) lo (length fs) us (p ∷ mids) → Treated k (after old ws fs) (after old ws2 fs2) (length fs) (length fs2) h G es mids → WritesOrHandsUp k ws2 ws3 p removed G g
    → LeavesTree (head_page k least (suc h) p) (pages_freed old (after old ws3 fs2) lo (length fs2)) us es g
treated_leaves k old least height h p lo b ws ws2 ws3 fs fs2 us mids es removed G g order low may_be_underfull inner untouched loses treated done =
    let mid = after old ws fs in
    let new = after old ws2 fs2 in
    let around = loses_around mid new (length fs) (length fs2) (p ∷ []) mids treated.vs [] (subst (λ (vs : List ℕ). Apart (p ∷ vs)) (sym (nil mids)) loses.left.apart) treated.loses in
    let next : Loses mid new (length fs) (length fs2) (p ∷ mids) (p ∷ treated.vs) = subst (λ (vs : List ℕ). Loses mid new (length fs) (length fs2) (p ∷ vs) (p ∷ treated.vs)) (nil mids) (subst (λ (vs : List ℕ). Loses mid new (length fs) (length fs2) (p ∷ (mids ++ [])) (p ∷ vs)) (nil treated.vs) around) in
    settled_leaves k old least height (suc h) p lo (length fs2) b ws2 ws3 fs2 us treated.vs es removed G g order low may_be_underfull untouched (inner, treated.fan) (loses_trans old mid new lo (length fs) (length fs2) us (p ∷ mids) (p ∷ treated.vs) loses next) done
  where
    nil : (xs : List ℕ) → xs ++ [] ≡ xs
    nil [] = refl
    nil (x ∷ xs) = ap (λ rest. x ∷ rest) (nil xs)

-- the page that was visited just now
pub page_visited : (visited m : List ℕ) (n : ℕ) → m ≡ visited ++ n ∷ [] → is_visited m n ≡ true
page_visited visited m n m_is = subst (λ (x : List ℕ). is_visited x n ≡ true) (sym m_is) (visited_here visited n)

-- a visit of a page that the element was taken out of
pub here_visit : (visited m visited2 : List ℕ) (height n : ℕ) (ws : List (ℕ × List ℕ)) (fs : List ℕ)
    → m ≡ visited ++ n ∷ [] → is_visited visited n ≡ false
    → ((q : ℕ) → is_visited m q ≡ true → (q ≡ n → ⊥) → Untouched ws fs q)
    → ((q : ℕ) → is_visited m q ≡ true → is_visited visited2 q ≡ true)
    → length visited2 + 2 ≤ length m + 2 * height → IsVisit visited visited2 ws fs height n
here_visit visited m visited2 height n ws fs m_is fresh older stays few =
    let into : (q : ℕ) → is_visited visited q ≡ true → is_visited m q ≡ true = λ q is. subst (λ (x : List ℕ). is_visited x q ≡ true) (sym m_is) (visited_stays visited n q is) in
    record {
      fresh = fresh;
      older = λ q is. older q (into q is) (visited_differs visited q n is fresh);
      stays = λ q is. stays q (into q is);
      here = stays n (page_visited visited m n m_is);
      few = omega (arith, few, ap length m_is, length-append visited (n ∷ []));
    }

-- a visit of a page whose son was visited, treated and left
pub treated_visit : (visited m visited2 visited3 : List ℕ) (height n s : ℕ) (ws ws2 : List (ℕ × List ℕ)) (fs fs2 : List ℕ) → m ≡ visited ++ n ∷ [] → is_visited visited n ≡ false → 1 < height → IsVisit m visited2 ws fs (height - 1) s
    → ((q : ℕ) → is_visited visited2 q ≡ true → (q ≡ s → ⊥) → (q ≡ n → ⊥) → Untouched ws fs q → Untouched ws2 fs2 q) → ((q : ℕ) → is_visited visited2 q ≡ true → is_visited visited3 q ≡ true) → length visited3 ≡ length visited2 + 1
    → IsVisit visited visited3 ws2 fs2 height n
treated_visit visited m visited2 visited3 height n s ws ws2 fs fs2 m_is fresh some visit others stays one_more =
    let into : (q : ℕ) → is_visited visited q ≡ true → is_visited m q ≡ true = λ q is. subst (λ (x : List ℕ). is_visited x q ≡ true) (sym m_is) (visited_stays visited n q is) in
    record {
      fresh = fresh;
      older = λ q is. others q (visit.stays q (into q is)) (visited_differs m q s (into q is) visit.fresh) (visited_differs visited q n is fresh) (visit.older q (into q is));
      stays = λ q is. stays q (visit.stays q (into q is));
      here = stays n (visit.stays n (page_visited visited m n m_is));
      few = omega (arith, visit.few, one_more, ap length m_is, length-append visited (n ∷ []), some);
    }

-- a visit of a page whose son was visited and left alone
pub whole_visit : (visited m visited2 : List ℕ) (height n s : ℕ) (ws : List (ℕ × List ℕ)) (fs : List ℕ) → m ≡ visited ++ n ∷ [] → is_visited visited n ≡ false → 1 < height → IsVisit m visited2 ws fs (height - 1) s → IsVisit visited visited2 ws fs height n
whole_visit visited m visited2 height n s ws fs m_is fresh some visit =
    let into : (q : ℕ) → is_visited visited q ≡ true → is_visited m q ≡ true = λ q is. subst (λ (x : List ℕ). is_visited x q ≡ true) (sym m_is) (visited_stays visited n q is) in
    record {
      fresh = fresh;
      older = λ q is. visit.older q (into q is);
      stays = λ q is. visit.stays q (into q is);
      here = visit.stays n (subst (λ (x : List ℕ). is_visited x n ≡ true) (sym m_is) (visited_here visited n));
      few = omega (arith, visit.few, ap length m_is, length-append visited (n ∷ []), some);
    }

last_off : (ws : List (ℕ × List ℕ)) (w : ℕ × List ℕ) → take (length (ws ++ w ∷ []) - 1) (ws ++ w ∷ []) ≡ ws
last_off ws w =
    let size : length (ws ++ w ∷ []) - 1 ≡ length ws = omega (arith, length-append ws (w ∷ [])) in
    ap (λ (n : ℕ). take n (ws ++ w ∷ [])) size ∙ take-append_seam ws (w ∷ [])

unsettled_is : (k n : ℕ) (ws ws2 : List (ℕ × List ℕ)) (removed : Element) (node : Node) (g : Removal) → WritesOrHandsUp k ws ws2 n removed node g → unsettled g ws2 ≡ ws
unsettled_is k n ws ws2 removed node (Whole e) (e_is, many, ws_is) = ap (λ (vs : List (ℕ × List ℕ)). take (length vs - 1) vs) ws_is ∙ last_off ws (n, spelling node k)
unsettled_is k n ws ws2 removed node (Underfull e underfull) (e_is, few, same, ws_is) = ws_is

-- a father that was treated, and settled then
pub treated_settled : (k height n i : ℕ) (b : Bounds) (F G L R : Node) (e : Element) (ws ws2 ws3 : List (ℕ × List ℕ)) (fs fs2 fs3 : List ℕ) (g : Removal) → MayBeUnderfull k height b G → Untouched ws2 fs2 n → WritesOrHandsUp k ws2 ws3 n e G g → fs3 ≡ fs2 → Treats k F G (brothers i L R) (done_so_far ws fs) (done_so_far ws2 fs2)
    → TreatsAndSettles (record { order = k; height = height; page = n; bounds = b }) F (brothers i L R) e (done_so_far ws fs) (done_so_far ws3 fs3) g
treated_settled k height n i b F G L R e ws ws2 ws3 fs fs2 fs3 g may_be_underfull kept done freed treats =
    let ws_is : ws2 ≡ unsettled g ws3 = sym (unsettled_is k n ws2 ws3 e G g done) in
    record {
      treated = G;
      treats = subst (λ (x : List ℕ). Treats k F G (brothers i L R) (done_so_far ws fs) (done_so_far (unsettled g ws3) x)) (sym freed) (subst (λ (x : List (ℕ × List ℕ)). Treats k F G (brothers i L R) (done_so_far ws fs) (done_so_far x fs2)) ws_is treats);
      may_be_underfull = may_be_underfull;
      kept = subst (λ (x : List ℕ). Untouched (unsettled g ws3) x n) (sym freed) (subst (λ (x : List (ℕ × List ℕ)). Untouched x fs2 n) ws_is kept);
      settles = subst (λ (x : List (ℕ × List ℕ)). WritesOrHandsUp k x ws3 n e G g) ws_is done;
    }
