-- What stands below a page after it was written again, or cut in two.
use Rattle.std.proofs.Common.{◌≡◌, ℕ, zero, suc, ◌+◌, ◌*◌, ◌<◌, ◌≤◌, Some, None, cond, List, [], ◌∷◌, ◌++◌, length, get_or, set, take, drop, refl, ap, sym, ◌∙◌, subst, arith, inl, inr, eq-eqb}
use Rattle.std.proofs.lemmas.List.{length-take, length-drop}
use Rattle.std.proofs.lemmas.Bool.Decides.{nat_tests}
use Rattle.std.specs.List.{insert}
use Rattle.page_store.specs.PageMap.{PageMap, write_page, pages_with}
use Rattle.btree_node.specs.declared.node.Node.{Node}
use Rattle.btree_node.specs.declared.node.NodeKind.TheVariants.{Inner}
use Rattle.btree_node.specs.Cut.{left_of, right_of}
use Rattle.btree_node.specs.Lists.{Element, Each, Ascends, IsAt, IsPlace}
use Rattle.btree_node.specs.Spelling.{spelling, CanStand}
use Rattle.btree_node.proofs.SplitLemmas.{around}
use Rattle.btree_insert.specs.declared.bounds.Bounds.{Bounds}
use Rattle.btree_insert.specs.declared.insert_below.Grown.{Grown}
use Rattle.btree_insert.specs.declared.insert_below.Grown.TheVariants.{Replaced, Fits, Split}
use Rattle.btree_insert.specs.Bounds.{Between}
use Rattle.btree_insert.specs.Contents.{lookup_in, set_in}
use Rattle.btree_insert.specs.Growth.{MayBeOverfull, WritesOrSplits, Whole, Parts, Grows, TellsOld, Grew}
use Rattle.btree_insert.specs.PagesGrown.{PagesGrown, pages_change}
use Rattle.btree_insert.specs.PageTrees.{IsIn, Apart, Fan, Body, TreeAt, tree_below}
use Rattle.page_store.specs.declared.page_edit.PageEdit.{PageEdit}
use Rattle.btree_insert.proofs.SonsAroundLemmas.{Focus, focus, spot}
use Rattle.btree_insert.proofs.EditFitLemmas.{put_is_insert, nothing_splits}
use Rattle.btree_insert.proofs.ChangedTreeLemmas.{tree_move, body_move, body_cut, left_half, right_half, may_be_overfull_stands}
use Rattle.btree_insert.proofs.PagesAroundLemmas.{IsFree, InUse, kept_none, kept_behind_others, kept_before_others, kept_write, kept_add, same_below, not_new}
use Rattle.btree_insert.proofs.ElementMapLemmas.{lookup-between, put-between, put-here}
use Rattle.btree_insert.proofs.Membership.{Apart-right, Apart-across, each_in, in_each, in_left, in_right}
use Rattle.btree_insert.proofs.HeadNodeLemmas.{Top, find_here, find_no_more}

-- one more page written over the others
pub overlay_push : (pages : PageMap) (ws : List (ℕ × List ℕ)) (w : ℕ × List ℕ) → pages_with pages (ws ++ w ∷ []) ≡ write_page (pages_with pages ws) w.0 w.1
overlay_push pages [] w = refl
overlay_push pages (v ∷ ws) w = overlay_push (write_page pages v.0 v.1) ws w

-- a page that is written is there
pub write_here : (pages : PageMap) (n : ℕ) (page : List ℕ) → write_page pages n page n ≡ Some page
write_here pages n page = ap (λ b. cond b (Some page) (pages n)) (eq-eqb n n refl)

-- the others are as they were
pub write_other : (pages : PageMap) (n : ℕ) (page : List ℕ) (q : ℕ) → (q ≡ n → ⊥) → write_page pages n page q ≡ pages q
write_other pages n page q other = grind (arith, nat_tests)

-- the page was written again
pub settle_whole : (k : ℕ) (old mid : PageMap) (fresh : ℕ → ℕ) (lo hi least h p : ℕ) (us below : List ℕ) (es : List Element) (n : Node) → CanStand n k → IsIn p us → IsFree old fresh → InUse old us
    → PagesGrown old mid fresh lo hi us (p ∷ below) → Body (TreeAt k mid k h) h n es below → least ≤ length n.elements.items → Whole (tree_below k least (suc h) p) (pages_change old (write_page mid p (spelling n k)) fresh lo hi) us es
settle_whole k old mid fresh lo hi least h p us below es n stands here free used kept body least_is =
    let new : PageMap = write_page mid p (spelling n k) in
    let same = same_below old mid new fresh lo hi us below p free used kept (λ q ne _. write_other mid p (spelling n k) q ne) in
    record {
      vs = p ∷ below;
      tree = (n, below, record { page = write_here mid p (spelling n k); stands = stands }, least_is, body_move k mid new h n es below body same, refl);
      kept = kept_write old mid new fresh lo hi us (p ∷ below) p here (λ q ne. write_other mid p (spelling n k) q ne) kept;
    }

-- the page was cut in two
pub settle_parts : (k : ℕ) (old mid : PageMap) (fresh : ℕ → ℕ) (lo hi least h p : ℕ) (us below : List ℕ) (es : List Element) (n : Node) (middle : Element) → 1 ≤ k → length n.elements.items ≡ 2 * k + 1 → MayBeOverfull k n → lo ≤ hi → IsIn p us → IsFree old fresh → InUse old us
    → middle ≡ get_or n.elements.items k middle → PagesGrown old mid fresh lo hi us (p ∷ below) → Body (TreeAt k mid k h) h n es below
    → Parts (tree_below k least (suc h) p) (pages_change old (write_page (write_page mid p (spelling (left_of k n) k)) (fresh hi) (spelling (right_of k n) k)) fresh lo (suc hi)) us es middle (fresh hi)
settle_parts k old mid fresh lo hi least h p us below es n middle some full may_be_overfull le here free used middle_is kept body =
    let r = fresh hi in
    let first : PageMap = write_page mid p (spelling (left_of k n) k) in
    let new : PageMap = write_page first r (spelling (right_of k n) k) in
    let own : (q : ℕ) → (q ≡ p → ⊥) → (q ≡ r → ⊥) → new q ≡ mid q = λ q not_p not_r. write_other first r (spelling (right_of k n) k) q not_r ∙ write_other mid p (spelling (left_of k n) k) q not_p in
    let same = same_below old mid new fresh lo hi us below p free used kept own in
    let p_not_r : p ≡ r → ⊥ = λ e. in_each (λ q. old q ≡ None → ⊥) us p used here (ap old e ∙ free.free hi) in
    let cut = body_cut (TreeAt k new k h) h n es below k middle (body_move k mid new h n es below body same) (omega arith) middle_is in
    record {
      xs = cut.xs;
      ys = cut.ys;
      before = p ∷ cut.before;
      behind = r ∷ cut.behind;
      left_tree = (
        left_of k n,
        cut.before,
        record { page = write_other first r (spelling (right_of k n) k) p p_not_r ∙ write_here mid p (spelling (left_of k n) k); stands = left_half k n some full may_be_overfull },
        omega (arith, length-take k n.elements.items),
        cut.left_body,
        refl,
      );
      right_tree = (
        right_of k n,
        cut.behind,
        record { page = write_here first r (spelling (right_of k n) k); stands = right_half k n some full may_be_overfull },
        omega (arith, length-drop (suc k) n.elements.items),
        cut.right_body,
        refl,
      );
      es_is = cut.es_is;
      kept = kept_add old mid new fresh lo hi us (p ∷ cut.before) cut.behind p free used le here own (subst (PagesGrown old mid fresh lo hi us) (ap (λ vs. p ∷ vs) cut.us_is) kept);
    }

-- what a node that was settled stands for
pub settle_grows : (k : ℕ) (old : PageMap) (e e2 : PageEdit) (fresh : ℕ → ℕ) (lo least h p : ℕ) (us below : List ℕ) (es : List Element) (n : Node) (g : Grown) → 1 ≤ k → MayBeOverfull k n → least ≤ length n.elements.items → lo ≤ e.taken → IsIn p us → IsFree old fresh → InUse old us
    → WritesOrSplits k (fresh e.taken) e e2 p n g → PagesGrown old (pages_with old e.writes.items) fresh lo e.taken us (p ∷ below) → Body (TreeAt k (pages_with old e.writes.items) k h) h n es below
    → Grows (tree_below k least (suc h) p) (pages_change old (pages_with old e2.writes.items) fresh lo e2.taken) us es g
settle_grows k old e e2 fresh lo least h p us below es n (Replaced value) some may_be_overfull least_is le here free used settled kept body = absurd settled
settle_grows k old e e2 fresh lo least h p us below es n Fits some may_be_overfull least_is le here free used (few, ws_is, hi_is) kept body =
    let new_is = ap (pages_with old) ws_is ∙ overlay_push old e.writes.items (p, spelling n k) in
    subst (λ (new : PageMap). Whole (tree_below k least (suc h) p) (pages_change old new fresh lo e2.taken) us es) (sym new_is)
    (subst (λ (x : ℕ). Whole (tree_below k least (suc h) p) (pages_change old (write_page (pages_with old e.writes.items) p (spelling n k)) fresh lo x) us es) (sym hi_is)
    (settle_whole k old (pages_with old e.writes.items) fresh lo e.taken least h p us below es n (may_be_overfull_stands k n may_be_overfull few) here free used kept body least_is))
settle_grows k old e e2 fresh lo least h p us below es n (Split middle right) some may_be_overfull least_is le here free used (full, middle_is, right_is, ws_is, hi_is) kept body =
    let left_page = spelling (left_of k n) k in
    let right_page = spelling (right_of k n) k in
    let new_is = ap (pages_with old) ws_is ∙ overlay_push old (e.writes.items ++ (p, left_page) ∷ []) (fresh e.taken, right_page) ∙ ap (λ (m : PageMap). write_page m (fresh e.taken) right_page) (overlay_push old e.writes.items (p, left_page)) in
    let up_is : suc e.taken ≡ e2.taken = omega arith in
    subst (λ (new : PageMap). Parts (tree_below k least (suc h) p) (pages_change old new fresh lo e2.taken) us es middle right) (sym new_is)
    (subst (λ (r : ℕ). Parts (tree_below k least (suc h) p) (pages_change old (write_page (write_page (pages_with old e.writes.items) p left_page) (fresh e.taken) right_page) fresh lo e2.taken) us es middle r) (sym right_is)
    (subst (λ (x : ℕ). Parts (tree_below k least (suc h) p) (pages_change old (write_page (write_page (pages_with old e.writes.items) p left_page) (fresh e.taken) right_page) fresh lo x) us es middle (fresh e.taken)) up_is
    (settle_parts k old (pages_with old e.writes.items) fresh lo e.taken least h p us below es n middle some full may_be_overfull le here free used (middle_is middle) kept body)))

-- a settled node had no record at the key
pub told_new : (k fresh p : ℕ) (e e2 : PageEdit) (n : Node) (g : Grown) (key : List ℕ) (es : List Element) → WritesOrSplits k fresh e e2 p n g → lookup_in key es ≡ None → TellsOld key es g
told_new k fresh p e e2 n (Replaced value) key es settled none = absurd settled
told_new k fresh p e e2 n Fits key es settled none = none
told_new k fresh p e e2 n (Split middle right) key es settled none = none

-- what was found below a son is found below the page
told_up : (key : List ℕ) (xs es : List Element) (g : Grown) → lookup_in key xs ≡ lookup_in key es → TellsOld key xs g → TellsOld key es g
told_up key xs es (Replaced value) same told = sym same ∙ told
told_up key xs es Fits same told = sym same ∙ told
told_up key xs es (Split middle right) same told = sym same ∙ told

-- the pages beside those of a son, where only the son's pages changed
pub record Around (old new : PageMap) (fresh : ℕ → ℕ) (lo hi p : ℕ) (upre mine upost vs : List ℕ) : Type 0 where
  pub before : Each (λ q. new q ≡ old q) upre
  pub behind : Each (λ q. new q ≡ old q) upost
  pub page : new p ≡ old p
  pub kept : PagesGrown old new fresh lo hi (p ∷ (upre ++ (mine ++ upost))) (p ∷ (upre ++ (vs ++ upost)))

-- the pages around a son that grew
pub around_son : (old new : PageMap) (fresh : ℕ → ℕ) (lo hi p : ℕ) (upre mine upost vs : List ℕ) → IsFree old fresh → InUse old (p ∷ (upre ++ (mine ++ upost))) → Apart (p ∷ (upre ++ (mine ++ upost))) → PagesGrown old new fresh lo hi mine vs
    → Around old new fresh lo hi p upre mine upost vs
around_son old new fresh lo hi p upre mine upost vs free used apart kept =
    let all = upre ++ (mine ++ upost) in
    let used_at : (q : ℕ) → IsIn q (p ∷ all) → old q ≡ None → ⊥ = λ q is. in_each (λ x. old x ≡ None → ⊥) (p ∷ all) q used is in
    let same : (q : ℕ) → IsIn q (p ∷ all) → (IsIn q mine → ⊥) → new q ≡ old q = λ q is out. kept.same q out (not_new old fresh lo hi q free (used_at q is)) in
    let inner = Apart-right upre (mine ++ upost) apart.1 in
    record {
      before = each_in (λ q. new q ≡ old q) upre (λ q is. same q (inr (in_left q upre (mine ++ upost) is)) (λ own. Apart-across q upre (mine ++ upost) apart.1 is (in_left q mine upost own)));
      behind = each_in (λ q. new q ≡ old q) upost (λ q is. same q (inr (in_right q upre (mine ++ upost) (in_right q mine upost is))) (λ own. Apart-across q mine upost inner own is));
      page = same p (inl refl) (λ own. apart.0 (in_right p upre (mine ++ upost) (in_left p mine upost own)));
      kept = kept_behind_others old new fresh lo hi (mine ++ upost) (vs ++ upost) (p ∷ upre) free
          (each_in (λ x. old x ≡ None → ⊥) (p ∷ upre) (λ q is. used_at q (in_left q (p ∷ upre) (mine ++ upost) is))) apart
          (kept_before_others old new fresh lo hi mine vs upost free (each_in (λ x. old x ≡ None → ⊥) upost (λ q is. used_at q (inr (in_right q upre (mine ++ upost) (in_right q mine upost is))))) inner kept);
    }

-- the son that an insertion goes to
pub focus_of : (k : ℕ) (old new : PageMap) (h : ℕ) (n : Node) (es : List Element) (below : List ℕ) (key : List ℕ) (i : ℕ) (b : Bounds) → 0 < h → Body (TreeAt k old k h) h n es below → Between b es → IsPlace n.elements.items key i
    → Focus (TreeAt k old k h) (TreeAt k new k h) (λ q. new q ≡ old q) n.sons.items n.elements.items es below key i b
focus_of k old new zero n es below key i b some body between place = absurd (omega arith)
focus_of k old new (suc h) n es below key i b some body between place =
    focus (TreeAt k old k (suc h)) (TreeAt k new k (suc h)) (λ q. new q ≡ old q) (λ s xs us tree same. tree_move k old new k (suc h) s xs us tree same) n.sons.items n.elements.items es below key i b body.1 between place

inner_body : (k : ℕ) (pages : PageMap) (h : ℕ) (n m : Node) (sons : List ℕ) (els es : List Element) (us : List ℕ) → 0 < h → n.kind ≡ Inner → m.kind ≡ n.kind → m.elements.items ≡ els → m.sons.items ≡ sons → Fan (TreeAt k pages k h) sons els es us → Body (TreeAt k pages k h) h m es us
inner_body k pages zero n m sons els es us some inner kind_is els_is sons_is fan = absurd (omega arith)
inner_body k pages (suc h) n m sons els es us some inner kind_is els_is sons_is fan = (
  kind_is ∙ inner,
  subst (λ (xs : List Element). Fan (TreeAt k pages k (suc h)) m.sons.items xs es us) (sym els_is) (subst (λ (ss : List ℕ). Fan (TreeAt k pages k (suc h)) ss els es us) (sym sons_is) fan),
)

inner_kind : (k : ℕ) (pages : PageMap) (h : ℕ) (n : Node) (es : List Element) (us : List ℕ) → 0 < h → Body (TreeAt k pages k h) h n es us → n.kind ≡ Inner
inner_kind k pages zero n es us some body = absurd (omega arith)
inner_kind k pages (suc h) n es us some body = body.0

-- what an insertion that stayed below a son comes to at the page
whole_up : (k : ℕ) (old new : PageMap) (fresh : ℕ → ℕ) (lo hi least height h p : ℕ) (es : List Element) (us : List ℕ) (b : Bounds) (n : Node) (key value : List ℕ) (i : ℕ) → 0 < h → IsFree old fresh → InUse old us → Apart us → (head : Top k old least height h p es us b n)
    → (at : Focus (TreeAt k old k h) (TreeAt k new k h) (λ q. new q ≡ old q) n.sons.items n.elements.items es head.below key i b) → Whole (tree_below k k h (get_or n.sons.items i 0)) (pages_change old new fresh lo hi) at.mine (set_in key (Some value) at.xs)
    → Whole (tree_below k least (suc h) p) (pages_change old new fresh lo hi) us (set_in key (Some value) es)
whole_up k old new fresh lo hi least height h p es us b n key value i some free used apart head at son =
    let us_is = head.us_is ∙ ap (λ vs. p ∷ vs) at.us_is in
    let sides = around_son old new fresh lo hi p at.upre at.mine at.upost son.vs free (subst (InUse old) us_is used) (subst Apart us_is apart) son.kept in
    let es_is = ap (set_in key (Some value)) at.es_is ∙ put-between key value at.pre at.xs at.post at.below at.above in
    let below = at.upre ++ (son.vs ++ at.upost) in
    let fan = at.keep sides.before sides.behind (set_in key (Some value) at.xs) son.vs son.tree in
    let body = inner_body k new h n n n.sons.items n.elements.items (at.pre ++ (set_in key (Some value) at.xs ++ at.post)) below some (inner_kind k old h n es head.below some head.body) refl refl refl fan in
    record {
      vs = p ∷ below;
      tree = (
        n,
        below,
        record { page = sides.page ∙ head.spells.page; stands = head.spells.stands },
        head.least_is,
        subst (λ (zs : List Element). Body (TreeAt k new k h) h n zs below) (sym es_is) body,
        refl,
      );
      kept = subst (λ (xs : List ℕ). PagesGrown old new fresh lo hi xs (p ∷ below)) (sym us_is) sides.kept;
    }

found_same : (k : ℕ) (old new : PageMap) (h : ℕ) (n : Node) (es : List Element) (below : List ℕ) (key : List ℕ) (i : ℕ) (b : Bounds) → (at : Focus (TreeAt k old k h) (TreeAt k new k h) (λ q. new q ≡ old q) n.sons.items n.elements.items es below key i b) → lookup_in key at.xs ≡ lookup_in key es
found_same k old new h n es below key i b at = sym (ap (lookup_in key) at.es_is ∙ lookup-between key at.pre at.xs at.post at.below at.above)

-- a page whose son grew without being split stays
pub grow_stays : (k : ℕ) (old new : PageMap) (fresh : ℕ → ℕ) (lo hi least height h p : ℕ) (es : List Element) (us : List ℕ) (b : Bounds) (n : Node) (key value : List ℕ) (i : ℕ) (g : Grown) → suc h ≡ height → 0 < h → IsFree old fresh → InUse old us → Apart us → (head : Top k old least height h p es us b n)
    → (at : Focus (TreeAt k old k h) (TreeAt k new k h) (λ q. new q ≡ old q) n.sons.items n.elements.items es head.below key i b) → ((m : Element) (r : ℕ) → g ≡ Split m r → ⊥)
    → Grew (tree_below k k h (get_or n.sons.items i 0)) (pages_change old new fresh lo hi) at.xs at.mine key value g → Grew (tree_below k least height p) (pages_change old new fresh lo hi) es us key value g
grow_stays k old new fresh lo hi least height h p es us b n key value i (Replaced before) is some free used apart head at never grew =
    subst (λ (x : ℕ). Grew (tree_below k least x p) (pages_change old new fresh lo hi) es us key value (Replaced before)) is (record {
      told = told_up key at.xs es (Replaced before) (found_same k old new h n es head.below key i b at) grew.told;
      grows = whole_up k old new fresh lo hi least height h p es us b n key value i some free used apart head at grew.grows;
    })
grow_stays k old new fresh lo hi least height h p es us b n key value i Fits is some free used apart head at never grew =
    subst (λ (x : ℕ). Grew (tree_below k least x p) (pages_change old new fresh lo hi) es us key value Fits) is (record {
      told = told_up key at.xs es Fits (found_same k old new h n es head.below key i b at) grew.told;
      grows = whole_up k old new fresh lo hi least height h p es us b n key value i some free used apart head at grew.grows;
    })
grow_stays k old new fresh lo hi least height h p es us b n key value i (Split middle right) is some free used apart head at never grew = nothing_splits middle right never

-- what an insertion that split a son comes to at the page
pub grow_split : (k : ℕ) (old : PageMap) (e e2 : PageEdit) (fresh : ℕ → ℕ) (lo least height h p : ℕ) (es : List Element) (us : List ℕ) (b : Bounds) (n m : Node) (key value : List ℕ) (i : ℕ) (middle : Element) (right : ℕ) (g : Grown)
    → suc h ≡ height → 0 < h → 1 ≤ k → lo ≤ e.taken → IsFree old fresh → InUse old us → Apart us → (head : Top k old least height h p es us b n)
    → (at : Focus (TreeAt k old k h) (TreeAt k (pages_with old e.writes.items) k h) (λ q. pages_with old e.writes.items q ≡ old q) n.sons.items n.elements.items es head.below key i b)
    → Grew (tree_below k k h (get_or n.sons.items i 0)) (pages_change old (pages_with old e.writes.items) fresh lo e.taken) at.xs at.mine key value (Split middle right)
    → MayBeOverfull k m → least ≤ length m.elements.items → m.kind ≡ n.kind → m.elements.items ≡ insert n.elements.items i middle → m.sons.items ≡ insert n.sons.items (suc i) right → WritesOrSplits k (fresh e.taken) e e2 p m g
    → Grew (tree_below k least height p) (pages_change old (pages_with old e2.writes.items) fresh lo e2.taken) es us key value g
grow_split k old e e2 fresh lo least height h p es us b n m key value i middle right g is some order le free used apart head at grew may_be_overfull least_is kind_is els_is sons_is settled =
    let mid : PageMap = pages_with old e.writes.items in
    let parts = grew.grows in
    let us_is = head.us_is ∙ ap (λ vs. p ∷ vs) at.us_is in
    let sides = around_son old mid fresh lo e.taken p at.upre at.mine at.upost (parts.before ++ parts.behind) free (subst (InUse old) us_is used) (subst Apart us_is apart) parts.kept in
    let below = at.upre ++ ((parts.before ++ parts.behind) ++ at.upost) in
    let fan = at.split sides.before sides.behind parts.xs parts.before middle right parts.ys parts.behind parts.left_tree parts.right_tree in
    let es_is = ap (set_in key (Some value)) at.es_is ∙ put-between key value at.pre at.xs at.post at.below at.above ∙ ap (λ (zs : List Element). at.pre ++ (zs ++ at.post)) parts.es_is in
    let body = inner_body k mid h n m (insert n.sons.items (suc i) right) (insert n.elements.items i middle) (at.pre ++ ((parts.xs ++ middle ∷ parts.ys) ++ at.post)) below some (inner_kind k old h n es head.below some head.body) kind_is els_is sons_is fan in
    subst (λ (x : ℕ). Grew (tree_below k least x p) (pages_change old (pages_with old e2.writes.items) fresh lo e2.taken) es us key value g) is (record {
      told = told_new k (fresh e.taken) p e e2 m g key es settled (sym (found_same k old mid h n es head.below key i b at) ∙ grew.told);
      grows = settle_grows k old e e2 fresh lo least h p us below (set_in key (Some value) es) m g order may_be_overfull least_is le (subst (IsIn p) (sym head.us_is) (inl refl)) free used settled
          (subst (λ (xs : List ℕ). PagesGrown old mid fresh lo e.taken xs (p ∷ below)) (sym us_is) sides.kept)
          (subst (λ (zs : List Element). Body (TreeAt k mid k h) h m zs below) (sym es_is) body);
    })

-- what an insertion into a leaf comes to
pub grow_leaf : (k : ℕ) (old : PageMap) (e e2 : PageEdit) (fresh : ℕ → ℕ) (least height h p : ℕ) (es : List Element) (us : List ℕ) (b : Bounds) (n m : Node) (key value : List ℕ) (i : ℕ) (g : Grown)
    → suc h ≡ height → h ≡ 0 → 1 ≤ k → e.writes.items ≡ [] → IsFree old fresh → InUse old us → Apart us → (head : Top k old least height h p es us b n) → IsPlace n.elements.items key i
    → MayBeOverfull k m → least ≤ length m.elements.items → m.kind ≡ n.kind → m.elements.items ≡ insert n.elements.items i (key, value) → WritesOrSplits k (fresh e.taken) e e2 p m g
    → Grew (tree_below k least height p) (pages_change old (pages_with old e2.writes.items) fresh e.taken e2.taken) es us key value g
grow_leaf k old e e2 fresh least height (suc h) p es us b n m key value i g is zero_is order none free used apart head place may_be_overfull least_is kind_is els_is settled = absurd (omega arith)
grow_leaf k old e e2 fresh least height zero p es us b n m key value i g is zero_is order none free used apart head place may_be_overfull least_is kind_is els_is settled =
    let es_is = ap (set_in key (Some value)) head.body.1 ∙ put_is_insert key value n.elements.items i place ∙ sym els_is in
    let here : PagesGrown old old fresh e.taken e.taken us (p ∷ head.below) = subst (λ (vs : List ℕ). PagesGrown old old fresh e.taken e.taken us vs) head.us_is (kept_none old fresh e.taken us apart) in
    subst (λ (x : ℕ). Grew (tree_below k least x p) (pages_change old (pages_with old e2.writes.items) fresh e.taken e2.taken) es us key value g) is (record {
      told = told_new k (fresh e.taken) p e e2 m g key es settled (sym (find_no_more (TreeAt k old k 0) 0 n es head.below key i refl head.body place));
      grows = settle_grows k old e e2 fresh e.taken least 0 p us head.below (set_in key (Some value) es) m g order may_be_overfull least_is (omega arith) (subst (IsIn p) (sym head.us_is) (inl refl)) free used settled
          (subst (λ (vs : List (ℕ × List ℕ)). PagesGrown old (pages_with old vs) fresh e.taken e.taken us (p ∷ head.below)) (sym none) here)
          (kind_is ∙ head.body.0, es_is, head.body.2);
    })

-- a list with one in another's place, in three parts
pub set_split : (els : List Element) (i : ℕ) (y : Element) → i < length els → set els i y ≡ take i els ++ y ∷ drop (suc i) els
set_split [] i y low = absurd (omega arith)
set_split (e ∷ els) zero y low = refl
set_split (e ∷ els) (suc i) y low = ap (λ rest. e ∷ rest) (set_split els i y (omega arith))

put_is_set : (key value : List ℕ) (els : List Element) (i : ℕ) (x : Element) → IsAt els key i → x ≡ get_or els i x → set_in key (Some value) els ≡ set els i (key, value)
put_is_set key value els i x place is =
    ap (set_in key (Some value)) (around i els x place.within) ∙ put-here key value (take i els) (get_or els i x) (drop (suc i) els) place.below (place.here x) ∙ sym (set_split els i (key, value) place.within)

replaced_body : (k : ℕ) (old : PageMap) (h : ℕ) (n m : Node) (es : List Element) (below : List ℕ) (key value : List ℕ) (i : ℕ) (x : Element) → Body (TreeAt k old k h) h n es below → Ascends es → IsAt n.elements.items key i → x ≡ get_or n.elements.items i x
    → m.kind ≡ n.kind → m.elements.items ≡ set n.elements.items i (key, value) → m.sons.items ≡ n.sons.items → Body (TreeAt k old k h) h m (set_in key (Some value) es) below
replaced_body k old zero n m es below key value i x body up place is kind_is els_is sons_is =
    (kind_is ∙ body.0, ap (set_in key (Some value)) body.1 ∙ put_is_set key value n.elements.items i x place is ∙ sym els_is, body.2)
replaced_body k old (suc h) n m es below key value i x body up place is kind_is els_is sons_is =
    let tree = TreeAt k old k (suc h) in
    let at = spot tree tree (λ (q : ℕ). Unit {0}) (λ s xs vs t _. t) n.sons.items n.elements.items es below key i x body.1 up place is in
    let fan = at.put (each_in (λ (q : ℕ). Unit {0}) below (λ q _. tt)) (key, value) in
    let es_is = ap (set_in key (Some value)) at.es_is ∙ put-here key value at.pre x at.post at.below (ap (λ (y : Element). y.0) is ∙ place.here x) in
    subst (λ (zs : List Element). Body tree (suc h) m zs below) (sym es_is)
    (inner_body k old (suc h) n m n.sons.items (set n.elements.items i (key, value)) (at.pre ++ (key, value) ∷ at.post) below (omega arith) body.0 kind_is els_is sons_is fan)

-- what a new record at a key of the page comes to
pub grow_replaced : (k : ℕ) (old : PageMap) (ws ws2 : List (ℕ × List ℕ)) (fresh : ℕ → ℕ) (lo hi2 least height h p : ℕ) (es : List Element) (us : List ℕ) (b : Bounds) (n m : Node) (key value : List ℕ) (i : ℕ) (x : Element)
    → suc h ≡ height → ws ≡ [] → hi2 ≡ lo → IsFree old fresh → InUse old us → Apart us → (head : Top k old least height h p es us b n) → Ascends es → IsAt n.elements.items key i → x ≡ get_or n.elements.items i x
    → CanStand m k → least ≤ length m.elements.items → m.kind ≡ n.kind → m.elements.items ≡ set n.elements.items i (key, value) → m.sons.items ≡ n.sons.items → ws2 ≡ ws ++ (p, spelling m k) ∷ []
    → Grew (tree_below k least height p) (pages_change old (pages_with old ws2) fresh lo hi2) es us key value (Replaced x.1)
grow_replaced k old ws ws2 fresh lo hi2 least height h p es us b n m key value i x is none hi_is free used apart head up place x_is stands least_is kind_is els_is sons_is ws_is =
    let here : PagesGrown old old fresh lo lo us (p ∷ head.below) = subst (λ (vs : List ℕ). PagesGrown old old fresh lo lo us vs) head.us_is (kept_none old fresh lo us apart) in
    let body = replaced_body k old h n m es head.below key value i x head.body up place x_is kind_is els_is sons_is in
    let whole = settle_whole k old old fresh lo lo least h p us head.below (set_in key (Some value) es) m stands (subst (IsIn p) (sym head.us_is) (inl refl)) free used here body least_is in
    let new_is = ap (pages_with old) ws_is ∙ overlay_push old ws (p, spelling m k) ∙ ap (λ (vs : List (ℕ × List ℕ)). write_page (pages_with old vs) p (spelling m k)) none in
    subst (λ (y : ℕ). Grew (tree_below k least y p) (pages_change old (pages_with old ws2) fresh lo hi2) es us key value (Replaced x.1)) is (record {
      told = sym (find_here (TreeAt k old k h) h n es head.below key i x head.body up place x_is);
      grows = subst (λ (new : PageMap). Whole (tree_below k least (suc h) p) (pages_change old new fresh lo hi2) us (set_in key (Some value) es)) (sym new_is)
          (subst (λ (y : ℕ). Whole (tree_below k least (suc h) p) (pages_change old (write_page old p (spelling m k)) fresh lo y) us (set_in key (Some value) es)) (sym hi_is) whole);
    })

-- what an insertion into a leaf that has room comes to
pub grow_inserted : (k : ℕ) (old : PageMap) (fresh : ℕ → ℕ) (least height h p : ℕ) (es : List Element) (us : List ℕ) (b : Bounds) (n m : Node) (key value : List ℕ) (i : ℕ)
    → suc h ≡ height → h ≡ 0 → IsFree old fresh → InUse old us → Apart us → (head : Top k old least height h p es us b n) → IsPlace n.elements.items key i
    → CanStand m k → least ≤ length m.elements.items → m.kind ≡ n.kind → m.elements.items ≡ insert n.elements.items i (key, value)
    → Grew (tree_below k least height p) (pages_change old (write_page old p (spelling m k)) fresh 0 0) es us key value Fits
grow_inserted k old fresh least height (suc h) p es us b n m key value i is zero_is free used apart head place stands least_is kind_is els_is = absurd (omega arith)
grow_inserted k old fresh least height zero p es us b n m key value i is zero_is free used apart head place stands least_is kind_is els_is =
    let es_is = ap (set_in key (Some value)) head.body.1 ∙ put_is_insert key value n.elements.items i place ∙ sym els_is in
    let here : PagesGrown old old fresh 0 0 us (p ∷ head.below) = subst (λ (vs : List ℕ). PagesGrown old old fresh 0 0 us vs) head.us_is (kept_none old fresh 0 us apart) in
    subst (λ (x : ℕ). Grew (tree_below k least x p) (pages_change old (write_page old p (spelling m k)) fresh 0 0) es us key value Fits) is (record {
      told = sym (find_no_more (TreeAt k old k 0) 0 n es head.below key i refl head.body place);
      grows = settle_whole k old old fresh 0 0 least 0 p us head.below (set_in key (Some value) es) m stands (subst (IsIn p) (sym head.us_is) (inl refl)) free used here (kind_is ∙ head.body.0, es_is, head.body.2) least_is;
    })
