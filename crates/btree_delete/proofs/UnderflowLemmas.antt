-- What stands below a father once an underfull son was treated.
use Rattle.std.proofs.Common.{◌≡◌, ℕ, suc, ◌+◌, ◌<◌, ◌≤◌, ⊎_elim, inl, inr, Some, None, List, [], ◌∷◌, ◌++◌, length, set, refl, ap, sym, ◌∙◌, subst, arith, length-append}
use Rattle.std.specs.List.{remove}
use Rattle.std.proofs.lemmas.List.{length-take, length-drop, get_or_default}
use Rattle.page_store.specs.PageMap.{PageMap}
use Rattle.btree_node.specs.declared.node.Node.{Node}
use Rattle.btree_node.specs.Cut.{left_of, right_of}
use Rattle.btree_node.specs.Lists.{Element, Each}
use Rattle.btree_node.specs.Spelling.{spelling, CanStand}
use Rattle.btree_insert.specs.declared.bounds.Bounds.{Bounds}
use Rattle.btree_insert.specs.PageTrees.{IsIn, Apart, Fan, Body, TreeAt}
use Rattle.btree_insert.proofs.ChangedTreeLemmas.{body_move, body_cut}
use Rattle.btree_insert.proofs.Membership.{in_left, in_right, in_either, Apart-left, Apart-right, Apart-across, Apart-insert, each_in}
use Rattle.btree_delete.specs.Treatment.{element_at, son_number, both}
use Rattle.btree_delete.specs.Shrinking.{Loses}
use Rattle.btree_delete.proofs.SonsLemmas.{Kin, IsKept, Part, across, body_join, fan_same}
use Rattle.btree_delete.proofs.PagesLeftLemmas.{left_set, left_drop, loses_around}
use Rattle.btree_delete.proofs.BrotherPairLemmas.{Pair}

-- the father's sons once one was treated: the same elements, over the pages that are left
pub record Treated (k : ℕ) (old new : PageMap) (lo hi h : ℕ) (G : Node) (es : List Element) (us : List ℕ) : Type 0 where
  pub vs : List ℕ
  pub fan : Fan (TreeAt k new k (suc h)) G.sons.items G.elements.items es vs
  pub loses : Loses old new lo hi us vs

-- two pages of which the pages beside keep clear
pub record Clear (new mid : PageMap) (a b s : ℕ) (upre mine upost : List ℕ) : Type 0 where
  pub before : Each (IsKept mid new s) upre
  pub behind : Each (IsKept mid new s) upost

clear_of : (mid new : PageMap) (a b s : ℕ) (us upre mine upost : List ℕ) → us ≡ upre ++ (mine ++ upost) → Apart us → IsIn a mine → IsIn b mine → IsIn s mine → ((q : ℕ) → (q ≡ a → ⊥) → (q ≡ b → ⊥) → new q ≡ mid q) → Clear new mid a b s upre mine upost
clear_of mid new a b s us upre mine upost us_is apart a_in b_in s_in others =
    let apart2 = subst Apart us_is apart in
    let inner = Apart-right upre (mine ++ upost) apart2 in
    let front : (q p : ℕ) → IsIn q upre → IsIn p mine → q ≡ p → ⊥ = λ q p is p_in. across upre (mine ++ upost) q p apart2 is (in_left p mine upost p_in) in
    let back : (q p : ℕ) → IsIn q upost → IsIn p mine → q ≡ p → ⊥ = λ q p is p_in e. across mine upost p q inner p_in is (sym e) in
    record {
      before = each_in (IsKept mid new s) upre (λ q is. record { other = front q s is s_in; same = others q (front q a is a_in) (front q b is b_in) });
      behind = each_in (IsKept mid new s) upost (λ q is. record { other = back q s is s_in; same = others q (back q a is a_in) (back q b is b_in) });
    }

-- the pages below two brothers are none of theirs
pub record Lower (mid new : PageMap) (a b : ℕ) (u1 u2 : List ℕ) : Type 0 where
  pub differ : a ≡ b → ⊥
  pub apart : Apart (u1 ++ u2)
  pub a_out : IsIn a (u1 ++ u2) → ⊥
  pub b_out : IsIn b (u1 ++ u2) → ⊥
  pub same : Each (λ q. new q ≡ mid q) (u1 ++ u2)

lower_of : (mid new : PageMap) (a b : ℕ) (u1 u2 : List ℕ) → Apart ((a ∷ u1) ++ b ∷ u2) → ((q : ℕ) → (q ≡ a → ⊥) → (q ≡ b → ⊥) → new q ≡ mid q) → Lower mid new a b u1 u2
lower_of mid new a b u1 u2 apart others =
    let rest = Apart-right u1 (b ∷ u2) apart.1 in
    let a_out : IsIn a (u1 ++ u2) → ⊥ = λ is. ⊎_elim (λ front. apart.0 (in_left a u1 (b ∷ u2) front)) (λ back. apart.0 (in_right a u1 (b ∷ u2) (inr back))) (in_either a u1 u2 is) in
    let b_out : IsIn b (u1 ++ u2) → ⊥ = λ is. ⊎_elim (λ front. Apart-across b u1 (b ∷ u2) apart.1 front (inl refl)) (λ back. rest.0 back) (in_either b u1 u2 is) in
    record {
      differ = λ e. apart.0 (in_right a u1 (b ∷ u2) (inl e));
      apart = drop_middle u1 b u2 apart.1;
      a_out = a_out;
      b_out = b_out;
      same = each_in (λ q. new q ≡ mid q) (u1 ++ u2) (λ q is. others q (λ e. a_out (subst (λ (x : ℕ). IsIn x (u1 ++ u2)) e is)) (λ e. b_out (subst (λ (x : ℕ). IsIn x (u1 ++ u2)) e is)));
    }
  where
    drop_middle : (pre : List ℕ) (p : ℕ) (post : List ℕ) → Apart (pre ++ p ∷ post) → Apart (pre ++ post)
    drop_middle [] p post is = is.1
    drop_middle (q ∷ pre) p post is =
        (λ q_in. is.0 (⊎_elim (λ front. in_left q pre (p ∷ post) front) (λ back. in_right q pre (p ∷ post) (inr back)) (in_either q pre post q_in)), drop_middle pre p post is.1)

moved : (u1 u2 c1 c2 : List ℕ) (r q : ℕ) → u1 ++ u2 ≡ c1 ++ c2 → IsIn q (u1 ++ r ∷ u2) → IsIn q (c1 ++ r ∷ c2)
moved u1 u2 c1 c2 r q same is =
    ⊎_elim (λ front. from (subst (IsIn q) same (in_left q u1 u2 front))) (λ rest. ⊎_elim (λ e. in_right q c1 (r ∷ c2) (inl e)) (λ back. from (subst (IsIn q) same (in_right q u1 u2 back))) rest) (in_either q u1 (r ∷ u2) is)
  where
    from : IsIn q (c1 ++ c2) → IsIn q (c1 ++ r ∷ c2)
    from is_in = ⊎_elim (λ front. in_left q c1 (r ∷ c2) front) (λ back. in_right q c1 (r ∷ c2) (inr back)) (in_either q c1 c2 is_in)

moved_on : (u1 u2 c1 c2 : List ℕ) (p r q : ℕ) → u1 ++ u2 ≡ c1 ++ c2 → IsIn q ((p ∷ u1) ++ r ∷ u2) → IsIn q ((p ∷ c1) ++ r ∷ c2)
moved_on u1 u2 c1 c2 p r q same is = ⊎_elim (λ e. inl e) (λ later. inr (moved u1 u2 c1 c2 r q same later)) is

-- two brothers below a father, of which one is the underfull son s
pub record SonPair (k : ℕ) (old mid new : PageMap) (visited : List ℕ) (h s : ℕ) (node F L R : Node) (j : ℕ) (es : List Element) (us : List ℕ) (b : Bounds) : Type 0 where
  pub at : Pair (Kin k old mid visited h s node) (TreeAt k new k (suc h)) (IsKept mid new s) F.sons.items F.elements.items es us j b
  pub left : Part k mid h (son_number F j) L at.xs at.lefts
  pub right : Part k mid h (son_number F (suc j)) R at.ys at.rights
  pub apart : Apart us
  pub differ : son_number F j ≡ son_number F (suc j) → ⊥
  pub s_in : IsIn s (at.lefts ++ at.rights)

-- the two are treated, and no other page changes
module _ (k : ℕ) (old mid new : PageMap) (visited : List ℕ) (lo h s : ℕ) (node F G L R : Node) (j : ℕ) (es : List Element) (us : List ℕ) (b : Bounds) (br : SonPair k old mid new visited h s node F L R j es us b) (others : (q : ℕ) → (q ≡ son_number F j → ⊥) → (q ≡ son_number F (suc j) → ⊥) → new q ≡ mid q) where
  abbrev p : ℕ
  p = son_number F j

  abbrev r : ℕ
  r = son_number F (suc j)

  abbrev u1 : List ℕ
  u1 = br.left.0

  abbrev u2 : List ℕ
  u2 = br.right.0

  abbrev mine : List ℕ
  mine = (p ∷ u1) ++ r ∷ u2

  abbrev J : Node
  J = both F j L R

  abbrev all : List Element
  all = br.at.xs ++ element_at F j ∷ br.at.ys

  mine_is : br.at.lefts ++ br.at.rights ≡ mine
  mine_is = λ i. br.left.2 i ++ br.right.2 i

  us_is : us ≡ br.at.upre ++ (mine ++ br.at.upost)
  us_is = br.at.us_is ∙ ap (λ (vs : List ℕ). br.at.upre ++ (vs ++ br.at.upost)) mine_is

  all_apart : Apart (br.at.upre ++ (mine ++ br.at.upost))
  all_apart = subst Apart us_is br.apart

  mine_apart : Apart mine
  mine_apart = Apart-left mine br.at.upost (Apart-right br.at.upre (mine ++ br.at.upost) all_apart)

  r_in : IsIn r mine
  r_in = in_right r (p ∷ u1) (r ∷ u2) (inl refl)

  clear : Clear new mid p r s br.at.upre mine br.at.upost
  clear = clear_of mid new p r s us br.at.upre mine br.at.upost us_is br.apart (inl refl) r_in (subst (IsIn s) mine_is br.s_in) others

  lower : Lower mid new p r u1 u2
  lower = lower_of mid new p r u1 u2 mine_apart others

  body : Body (TreeAt k new k h) h J all (u1 ++ u2)
  body = body_move k mid new h J all (u1 ++ u2) (body_join (TreeAt k mid k h) h L R (element_at F j) br.at.xs br.at.ys u1 u2 br.left.1 br.right.1) lower.same

  outside : (q : ℕ) → (IsIn q mine → ⊥) → new q ≡ mid q
  outside q out = others q (λ e. out (subst (λ (x : ℕ). IsIn x mine) (sym e) (inl refl))) (λ e. out (subst (λ (x : ℕ). IsIn x mine) (sym e) r_in))

  loses_beside : (hi : ℕ) (vs : List ℕ) → Loses mid new lo hi mine vs → Loses mid new lo hi us (br.at.upre ++ (vs ++ br.at.upost))
  loses_beside hi vs loses = subst (λ (ws : List ℕ). Loses mid new lo hi ws (br.at.upre ++ (vs ++ br.at.upost))) (sym us_is) (loses_around mid new lo hi br.at.upre mine vs br.at.upost all_apart loses)

  -- both became the left page
  pub catenated : CanStand J k → k ≤ length J.elements.items → new p ≡ Some (spelling J k) → new r ≡ None → G.elements.items ≡ remove F.elements.items j → G.sons.items ≡ remove F.sons.items (suc j) → Treated k mid new lo (suc lo) h G es us
  catenated stands least wrote gone els_is sons_is =
      let vs = p ∷ (u1 ++ u2) in
      let tree : TreeAt k new k (suc h) p all vs = (J, u1 ++ u2, record { page = wrote; stands = stands }, least, body, refl) in
      let fewer : Loses mid new lo (suc lo) mine vs = record { left = left_drop mid new (p ∷ u1) r u2 mine_apart gone outside; count = omega (arith, length-append u1 (r ∷ u2), length-append u1 u2) } in
      record {
        vs = br.at.upre ++ (vs ++ br.at.upost);
        fan = fan_same (TreeAt k new k (suc h)) _ G.sons.items _ G.elements.items _ es (br.at.upre ++ (vs ++ br.at.upost)) sons_is els_is br.at.es_is (br.at.one clear.before clear.behind all vs tree);
        loses = loses_beside (suc lo) vs fewer;
      }

  -- both were distributed
  pub distributed : (half : ℕ) → half < length J.elements.items → CanStand (left_of half J) k → CanStand (right_of half J) k → k ≤ half → k + suc half ≤ length J.elements.items
      → new p ≡ Some (spelling (left_of half J) k) → new r ≡ Some (spelling (right_of half J) k) → G.elements.items ≡ set F.elements.items j (element_at J half) → G.sons.items ≡ F.sons.items → Treated k mid new lo lo h G es us
  distributed half low left_stands right_stands left_least right_least wrote_left wrote_right els_is sons_is =
      let cut = body_cut (TreeAt k new k h) h J all (u1 ++ u2) half (element_at J half) body low (get_or_default J.elements.items half ([], []) (element_at J half) low) in
      let vs = (p ∷ cut.before) ++ r ∷ cut.behind in
      let left_tree : TreeAt k new k (suc h) p cut.xs (p ∷ cut.before) =
      (left_of half J, cut.before, record { page = wrote_left; stands = left_stands }, omega (arith, length-take half J.elements.items), cut.left_body, refl) in
      let right_tree : TreeAt k new k (suc h) r cut.ys (r ∷ cut.behind) =
      (right_of half J, cut.behind, record { page = wrote_right; stands = right_stands }, omega (arith, length-drop (suc half) J.elements.items), cut.right_body, refl) in
      let fan = br.at.two clear.before clear.behind cut.xs (p ∷ cut.before) (element_at J half) cut.ys (r ∷ cut.behind) left_tree right_tree in
      let apart : Apart vs = (
        λ is. ⊎_elim (λ front. lower.a_out (subst (IsIn p) (sym cut.us_is) (in_left p cut.before cut.behind front))) (λ rest. ⊎_elim (λ e. lower.differ e) (λ back. lower.a_out (subst (IsIn p) (sym cut.us_is) (in_right p cut.before cut.behind back))) rest) (in_either p cut.before (r ∷ cut.behind) is),
        Apart-insert cut.before r cut.behind (subst Apart cut.us_is lower.apart) (λ is. lower.b_out (subst (IsIn r) (sym cut.us_is) is)),
      ) in
      let still = left_set mid new mine vs outside (λ q is. moved_on cut.before cut.behind u1 u2 p r q (sym cut.us_is) is) (λ q is. moved_on u1 u2 cut.before cut.behind p r q cut.us_is is) apart in
      let same_count : Loses mid new lo lo mine vs = record { left = still; count = omega (arith, length-append u1 (r ∷ u2), length-append cut.before (r ∷ cut.behind), length-append u1 u2, length-append cut.before cut.behind, ap length cut.us_is) } in
      record {
        vs = br.at.upre ++ (vs ++ br.at.upost);
        fan = fan_same (TreeAt k new k (suc h)) _ G.sons.items _ G.elements.items _ es (br.at.upre ++ (vs ++ br.at.upost)) sons_is els_is (br.at.es_is ∙ ap (λ (zs : List Element). br.at.pre ++ (zs ++ br.at.post)) cut.es_is) fan;
        loses = loses_beside lo vs same_count;
      }
