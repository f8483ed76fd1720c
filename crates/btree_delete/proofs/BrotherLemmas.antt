-- The brother of an underfull son, and what treating with it comes to.
use Rattle.std.proofs.Common.{◌≡◌, ℕ, suc, ◌<◌, ◌≤◌, inl, inr, false, List, [], ◌∷◌, ◌++◌, length, refl, ap, sym, ◌∙◌, subst, arith, length-append}
use Rattle.page_store.specs.PageMap.{PageMap, write_page, after, is_freed}
use Rattle.btree_node.specs.declared.node.Node.{Node}
use Rattle.btree_node.specs.Cut.{left_of, right_of}
use Rattle.btree_node.specs.Joined.{keys_of_both, half_of_both}
use Rattle.btree_node.specs.Lists.{Element}
use Rattle.btree_node.specs.Spelling.{spelling}
use Rattle.btree_insert.specs.declared.bounds.Bounds.{Bounds}
use Rattle.btree_insert.specs.Bounds.{Between, son_bounds}
use Rattle.btree_insert.specs.PageTrees.{IsIn, Apart, Fan, TreeAt, Spells}
use Rattle.btree_insert.proofs.Membership.{in_left, in_right, Apart-left, Apart-right}
use Rattle.btree_insert.proofs.SettledTreeLemmas.{write_here, write_other}
use Rattle.btree_insert.proofs.HeadNodeLemmas.{Top, top}
use Rattle.btree_delete.specs.Treatment.{element_at, son_number, both, Catenates, Distributes, Treats, brothers}
use Rattle.btree_delete.specs.Tidy.{done_so_far}
use Rattle.btree_delete.proofs.EditedPagesLemmas.{after_write, after_free, free_here, free_other, free_page}
use Rattle.btree_delete.proofs.SonsLemmas.{IsBeside, Kin, IsKept, kin_kept, kin_head, kin_is_underfull, kin_is_beside, across}
use Rattle.btree_delete.proofs.UnderflowLemmas.{Treated, SonPair, catenated, distributed}
use Rattle.btree_delete.proofs.BrotherPairLemmas.{Pair, pair}

-- a page that differs, between two maps
same_map : (old new : PageMap) → old ≡ new → (q : ℕ) → new q ≡ old q
same_map old new is q = ap (λ (m : PageMap). m q) (sym is)

-- two brothers are treated
module _ (k : ℕ) (old : PageMap) (visited : List ℕ) (h s : ℕ) (node F G L R : Node) (j : ℕ) (ws ws2 : List (ℕ × List ℕ)) (fs fs2 : List ℕ) (es : List Element) (us : List ℕ) (b : Bounds) (br : SonPair k old (after old ws fs) (after old ws2 fs2) visited h s node F L R j es us b) (left_kept : is_freed fs (son_number F j) ≡ false) where
  abbrev p : ℕ
  p = son_number F j

  abbrev r : ℕ
  r = son_number F (suc j)

  abbrev J : Node
  J = both F j L R

  abbrev was : PageMap
  was = after old ws fs

  abbrev now : PageMap
  now = after old ws2 fs2

  treated_few : k ≤ keys_of_both L R → Catenates k F G (brothers j L R) (done_so_far ws fs) (done_so_far ws2 fs2) → Treated k was now (length fs) (length fs2) h G es us
  treated_few least done =
      let page = spelling J k in
      let new_is : now ≡ free_page (write_page was p page) r = (λ i. after old (done.wrote i) (done.frees i)) ∙ after_free old (ws ++ (p, page) ∷ []) fs r ∙ ap (λ (m : PageMap). free_page m r) (after_write old ws fs p page left_kept) in
      let at_q : (q : ℕ) → now q ≡ free_page (write_page was p page) r q = λ q. ap (λ (m : PageMap). m q) new_is in
      subst (λ (x : ℕ). Treated k was now (length fs) x h G es us) (omega (arith, ap length done.frees, length-append fs (r ∷ [])))
      (catenated k old was now visited (length fs) h s node F G L R j es us b br (λ q not_p not_r. at_q q ∙ free_other (write_page was p page) r q not_r ∙ write_other was p page q not_p)
      done.stands (omega (arith, least, length-append L.elements.items (element_at F j ∷ R.elements.items)))
      (at_q p ∙ free_other (write_page was p page) r p br.differ ∙ write_here was p page) (at_q r ∙ free_here (write_page was p page) r) done.elements done.sons)

  treated_many : 1 ≤ k → is_freed fs r ≡ false → Distributes k F G (brothers j L R) (done_so_far ws fs) (done_so_far ws2 fs2) → Treated k was now (length fs) (length fs2) h G es us
  treated_many order right_kept done =
      let half = half_of_both L R in
      let left_page = spelling (left_of half J) k in
      let right_page = spelling (right_of half J) k in
      let first = write_page was p left_page in
      let size = length-append L.elements.items (element_at F j ∷ R.elements.items) in
      let new_is : now ≡ write_page first r right_page =
      (λ i. after old (done.wrote i) (done.frees i)) ∙ after_write old (ws ++ (p, left_page) ∷ []) fs r right_page right_kept ∙ ap (λ (m : PageMap). write_page m r right_page) (after_write old ws fs p left_page left_kept) in
      let at_q : (q : ℕ) → now q ≡ write_page first r right_page q = λ q. ap (λ (m : PageMap). m q) new_is in
      subst (λ (x : ℕ). Treated k was now (length fs) x h G es us) (ap length (sym done.frees))
      (distributed k old was now visited (length fs) h s node F G L R j es us b br (λ q not_p not_r. at_q q ∙ write_other first r right_page q not_r ∙ write_other was p left_page q not_p)
      half (omega (arith, done.many, size)) done.left_stands done.right_stands (omega (arith, done.many)) (omega (arith, done.many, size))
      (at_q p ∙ write_other first r right_page p br.differ ∙ write_here was p left_page) (at_q r ∙ write_here first r right_page) done.elements done.sons)

  pub treated_by : 1 ≤ k → k ≤ keys_of_both L R → is_freed fs r ≡ false → Treats k F G (brothers j L R) (done_so_far ws fs) (done_so_far ws2 fs2) → Treated k was now (length fs) (length fs2) h G es us
  treated_by order least right_kept (inl done) = treated_few least done
  treated_by order least right_kept (inr done) = treated_many order right_kept done

-- each of two sons side by side is on its side, and they differ
sides : (k : ℕ) (old mid new : PageMap) (visited : List ℕ) (h s : ℕ) (node F : Node) (es : List Element) (us : List ℕ) (b : Bounds) (j : ℕ) → Apart us → (at : Pair (Kin k old mid visited h s node) (TreeAt k new k (suc h)) (IsKept mid new s) F.sons.items F.elements.items es us j b)
    → IsIn (son_number F j) at.lefts × IsIn (son_number F (suc j)) at.rights × (son_number F j ≡ son_number F (suc j) → ⊥)
sides k old mid new visited h s node F es us b j apart at =
    let inner = Apart-left (at.lefts ++ at.rights) at.upost (Apart-right at.upre ((at.lefts ++ at.rights) ++ at.upost) (subst Apart at.us_is apart)) in
    let left_in = kin_head k old mid visited h s node (son_number F j) at.xs at.lefts at.left in
    let right_in = kin_head k old mid visited h s node (son_number F (suc j)) at.ys at.rights at.right in
    (left_in, right_in, across at.lefts at.rights (son_number F j) (son_number F (suc j)) inner left_in right_in)

-- the brother behind the underfull son i
pub record RightBrother (k : ℕ) (old mid new : PageMap) (visited : List ℕ) (h s : ℕ) (node F : Node) (es : List Element) (us : List ℕ) (b : Bounds) (i : ℕ) : Type 0 where
  pub n : Node
  pub sons : SonPair k old mid new visited h s node F node n i es us b
  pub beside : IsBeside old mid visited s (son_number F (suc i))
  pub head : Top k mid k (suc h) h (son_number F (suc i)) sons.at.ys sons.at.rights (son_bounds F.elements.items (suc i) b) n
  pub spells : Spells k old (son_number F (suc i)) n

-- the brother on the right, as the tree has it
pub right_brother : (k : ℕ) (old mid new : PageMap) (visited : List ℕ) (h s : ℕ) (node F : Node) (es : List Element) (us : List ℕ) (b : Bounds) (i : ℕ) → s ≡ son_number F i → i < length F.elements.items → Apart us → Between b es → Fan (Kin k old mid visited h s node) F.sons.items F.elements.items es us
    → RightBrother k old mid new visited h s node F es us b i
right_brother k old mid new visited h s node F es us b i s_is low apart between fan =
    let at = pair (Kin k old mid visited h s node) (TreeAt k new k (suc h)) (IsKept mid new s) (λ t xs vs is kept. kin_kept k old mid new visited h s node t xs vs is kept) F.sons.items F.elements.items es us i b fan between low in
    let (left_in, right_in, differ) = sides k old mid new visited h s node F es us b i apart at in
    let tree = kin_is_beside k old mid visited h s node (son_number F (suc i)) at.ys at.rights (λ e. differ (sym s_is ∙ sym e)) at.right in
    let head = top k mid k (suc h) h (son_number F (suc i)) at.ys at.rights (son_bounds F.elements.items (suc i) b) refl tree.1 at.right_between in
    record {
      n = head.0;
      sons = record {
        at = at;
        left = kin_is_underfull k old mid visited h s node (son_number F i) at.xs at.lefts (sym s_is) at.left;
        right = (head.1.below, head.1.body, head.1.us_is);
        apart = apart;
        differ = differ;
        s_in = in_left s at.lefts at.rights (subst (λ (x : ℕ). IsIn x at.lefts) (sym s_is) left_in);
      };
      beside = tree.0;
      head = head.1;
      spells = record { page = sym tree.0.same ∙ head.1.spells.page; stands = head.1.spells.stands };
    }

-- an underflow treated with the brother on the right
pub treated_right : (k : ℕ) (old : PageMap) (visited : List ℕ) (h s : ℕ) (node F G : Node) (ws ws2 : List (ℕ × List ℕ)) (fs fs2 : List ℕ) (es : List Element) (us : List ℕ) (b : Bounds) (i : ℕ) → 1 ≤ k
    → is_freed fs (son_number F i) ≡ false → is_freed fs (son_number F (suc i)) ≡ false → (br : RightBrother k old (after old ws fs) (after old ws2 fs2) visited h s node F es us b i) → Treats k F G (brothers i node br.n) (done_so_far ws fs) (done_so_far ws2 fs2) → Treated k (after old ws fs) (after old ws2 fs2) (length fs) (length fs2) h G es us
treated_right k old visited h s node F G ws ws2 fs fs2 es us b i order left_kept right_kept br done =
    treated_by k old visited h s node F G node br.n i ws ws2 fs fs2 es us b br.sons left_kept order (omega (arith, br.head.least_is)) right_kept done

-- the brother before the underfull son j + 1
pub record LeftBrother (k : ℕ) (old mid new : PageMap) (visited : List ℕ) (h s : ℕ) (node F : Node) (es : List Element) (us : List ℕ) (b : Bounds) (j : ℕ) : Type 0 where
  pub n : Node
  pub sons : SonPair k old mid new visited h s node F n node j es us b
  pub beside : IsBeside old mid visited s (son_number F j)
  pub head : Top k mid k (suc h) h (son_number F j) sons.at.xs sons.at.lefts (son_bounds F.elements.items j b) n
  pub spells : Spells k old (son_number F j) n

-- the brother on the left, as the tree has it
pub left_brother : (k : ℕ) (old mid new : PageMap) (visited : List ℕ) (h s : ℕ) (node F : Node) (es : List Element) (us : List ℕ) (b : Bounds) (j : ℕ) → s ≡ son_number F (suc j) → j < length F.elements.items → Apart us → Between b es → Fan (Kin k old mid visited h s node) F.sons.items F.elements.items es us
    → LeftBrother k old mid new visited h s node F es us b j
left_brother k old mid new visited h s node F es us b j s_is low apart between fan =
    let at = pair (Kin k old mid visited h s node) (TreeAt k new k (suc h)) (IsKept mid new s) (λ t xs vs is kept. kin_kept k old mid new visited h s node t xs vs is kept) F.sons.items F.elements.items es us j b fan between low in
    let (left_in, right_in, differ) = sides k old mid new visited h s node F es us b j apart at in
    let tree = kin_is_beside k old mid visited h s node (son_number F j) at.xs at.lefts (λ e. differ (e ∙ s_is)) at.left in
    let head = top k mid k (suc h) h (son_number F j) at.xs at.lefts (son_bounds F.elements.items j b) refl tree.1 at.left_between in
    record {
      n = head.0;
      sons = record {
        at = at;
        left = (head.1.below, head.1.body, head.1.us_is);
        right = kin_is_underfull k old mid visited h s node (son_number F (suc j)) at.ys at.rights (sym s_is) at.right;
        apart = apart;
        differ = differ;
        s_in = in_right s at.lefts at.rights (subst (λ (x : ℕ). IsIn x at.rights) (sym s_is) right_in);
      };
      beside = tree.0;
      head = head.1;
      spells = record { page = sym tree.0.same ∙ head.1.spells.page; stands = head.1.spells.stands };
    }

-- an underflow treated with the brother on the left
pub treated_left : (k : ℕ) (old : PageMap) (visited : List ℕ) (h s : ℕ) (node F G : Node) (ws ws2 : List (ℕ × List ℕ)) (fs fs2 : List ℕ) (es : List Element) (us : List ℕ) (b : Bounds) (j : ℕ) → 1 ≤ k
    → is_freed fs (son_number F j) ≡ false → is_freed fs (son_number F (suc j)) ≡ false → (br : LeftBrother k old (after old ws fs) (after old ws2 fs2) visited h s node F es us b j) → Treats k F G (brothers j br.n node) (done_so_far ws fs) (done_so_far ws2 fs2) → Treated k (after old ws fs) (after old ws2 fs2) (length fs) (length fs2) h G es us
treated_left k old visited h s node F G ws ws2 fs fs2 es us b j order left_kept right_kept br done =
    treated_by k old visited h s node F G br.n node j ws ws2 fs fs2 es us b br.sons left_kept order (omega (arith, br.head.least_is)) right_kept done
