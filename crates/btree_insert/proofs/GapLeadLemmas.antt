-- A page that was passed, in a tree and on the way that pages lead.
use Rattle.std.proofs.Common.{◌≡◌, ℕ, zero, suc, ◌-◌, ◌<◌, Bool, Option, None, List, [], ◌++◌, get_or, refl, sym, ap, ◌∙◌, subst, arith}
use Rattle.std.proofs.lemmas.List.{append_assoc, append-nil}
use Rattle.page_store.specs.PageMap.{PageMap}
use Rattle.btree_node.specs.declared.node.Node.{Node}
use Rattle.btree_node.specs.Lists.{Element}
use Rattle.rec_types.specs.Ordered.{is_left, nearest, listed_one, in_turn, IsGap, at_gap}
use Rattle.rec_types.specs.declared.gap.Gap.{Gap}
use Rattle.rec_types.specs.declared.side.Side.{Side}
use Rattle.rec_types.specs.declared.side.Side.TheVariants.{After, Before}
use Rattle.rec_types.proofs.GapLemmas.{left_downwards, same_gap, nearest_at_gap}
use Rattle.btree_insert.specs.declared.step.Spot.{Spot}
use Rattle.btree_insert.specs.Bounds.{Between, son_bounds, unbounded}
use Rattle.btree_insert.specs.Nearest.{KeepsBeside, Passes, InLeaf, GoesOnBeside, LeadsBeside, LeadsBesideFrom}
use Rattle.btree_insert.specs.PageTrees.{Spells, TreeAt, RootOf, kind_of_level}
use Rattle.btree_insert.specs.Steps.{BelongsAt}
use Rattle.btree_insert.proofs.HeadNodeLemmas.{top}
use Rattle.btree_insert.proofs.GapSonLemmas.{GoesBefore, leaf_elements, inner_gap}

-- ---- in a tree

-- a leaf tells of its own tree
pub in_leaf : (k : ℕ) (pages : PageMap) (least : ℕ) (spot : Spot) (es : List Element) (us : List ℕ) (side : Side) (from : Gap) (passed : Option Element) → spot.level ≡ 1 → TreeAt k pages least spot.level spot.page es us → Between spot.bounds es → InLeaf k pages spot side from es passed passed
in_leaf k pages least spot es us side from passed low tree between =
    let head = top k pages least spot.level (spot.level - 1) spot.page es us spot.bounds (omega (arith, low)) tree between in
    let es_is = leaf_elements (TreeAt k pages k (spot.level - 1)) (spot.level - 1) head.0 es head.1.below (omega (arith, low)) head.1.body in
    record {
      node = head.0;
      spells = head.1.spells;
      belongs = record { kind = head.1.kind; within = head.1.within };
      same = ap (λ (zs : List Element). nearest side (is_left from) zs passed) (sym es_is);
      rest = [];
      turn = ap (λ (zs : List Element). in_turn side (is_left from) zs (listed_one passed)) es_is ∙ sym (append-nil (in_turn side (is_left from) head.0.elements.items (listed_one passed)));
    }

-- the tree below the son that the search goes to
pub record UnderGap (k : ℕ) (pages : PageMap) (below : Spot) (es : List Element) (side : Side) (from : Gap) (passed mid : Option Element) : Type 0 where
  pub xs : List Element
  pub mine : List ℕ
  pub tree : TreeAt k pages k below.level below.page xs mine
  pub between : Between below.bounds xs
  pub same : nearest side (is_left from) xs mid ≡ nearest side (is_left from) es passed
  pub turn : GoesBefore (in_turn side (is_left from) xs (listed_one mid)) (in_turn side (is_left from) es (listed_one passed))

pub under_gap : (k : ℕ) (pages : PageMap) (least : ℕ) (spot : Spot) (es : List Element) (us : List ℕ) (side : Side) (from : Gap) (passed mid : Option Element) (below : Spot) → 1 < spot.level → TreeAt k pages least spot.level spot.page es us → Between spot.bounds es
    → ((m : Node) → Spells k pages spot.page m → BelongsAt spot m → Passes side from spot m passed mid below) → UnderGap k pages below es side from passed mid
under_gap k pages least spot es us side from passed mid below inner tree between tells =
    let head = top k pages least spot.level (spot.level - 1) spot.page es us spot.bounds (omega (arith, inner)) tree between in
    let passes = tells head.0 head.1.spells (record { kind = head.1.kind; within = head.1.within }) in
    let left = is_left from in
    let keeps = passes.keeps in
    let s = inner_gap (TreeAt k pages k (spot.level - 1)) (spot.level - 1) head.0 es head.1.below side left keeps.gap spot.bounds (left_downwards from) (omega (arith, inner)) head.1.body between keeps.is_gap in
    record {
      xs = s.xs;
      mine = s.mine;
      tree = subst (λ (x : Spot). TreeAt k pages k x.level x.page s.xs s.mine) (sym passes.goes) s.here;
      between = subst (λ (x : Spot). Between x.bounds s.xs) (sym passes.goes) s.between;
      same = ap (λ (o : Option Element). nearest side left s.xs o) keeps.found_is ∙ s.same passed;
      turn = subst (λ (o : Option Element). GoesBefore (in_turn side left s.xs (listed_one o)) (in_turn side left es (listed_one passed))) (sym keeps.found_is) (s.turn passed);
    }

-- a leaf in the tree below a son is one of the whole
pub leaf_under : (k : ℕ) (pages : PageMap) (leaf below : Spot) (side : Side) (from : Gap) (es : List Element) (passed mid found : Option Element) → (under : UnderGap k pages below es side from passed mid) → InLeaf k pages leaf side from under.xs mid found → InLeaf k pages leaf side from es passed found
leaf_under k pages leaf below side from es passed mid found under lies = record {
  node = lies.node;
  spells = lies.spells;
  belongs = lies.belongs;
  same = lies.same ∙ under.same;
  rest = lies.rest ++ under.turn.0;
  turn = under.turn.1 ∙ ap (λ (zs : List Element). zs ++ under.turn.0) lies.turn ∙ append_assoc (in_turn side (is_left from) lies.node.elements.items (listed_one found)) lies.rest under.turn.0;
}

-- the element beside the gap in the leaf is the nearest
pub kept_nearest : (k : ℕ) (pages : PageMap) (leaf : Spot) (side : Side) (from : Gap) (es : List Element) (passed mid found : Option Element) → (lies : InLeaf k pages leaf side from es passed mid) → KeepsBeside side from lies.node mid found → found ≡ nearest side (is_left from) es passed
kept_nearest k pages leaf side from es passed mid found lies keeps =
    keeps.found_is ∙ sym (nearest_at_gap side (is_left from) lies.node.elements.items keeps.gap mid keeps.is_gap) ∙ lies.same

-- ---- on the way that pages lead

-- a leaf ends it
pub ends_led : (spells : ℕ → Node → Type 0) (spot : Spot) (n : Node) (side : Side) (from : Gap) (passed found : Option Element) → spot.level ≡ 1 → spells spot.page n → BelongsAt spot n → KeepsBeside side from n passed found
    → LeadsBeside spells side from spot.level spot.page spot.bounds passed found
ends_led spells spot n side from passed found low spelled belongs p =
    subst (λ (x : ℕ). LeadsBeside spells side from x spot.page spot.bounds passed found) (sym low) (n, spelled, belongs.kind ∙ ap kind_of_level low, belongs.within, p.gap, p.is_gap, p.found_is)

-- a son leads on
pub goes_led : (spells : ℕ → Node → Type 0) (spot : Spot) (n : Node) (side : Side) (from : Gap) (passed mid found : Option Element) (below : Spot) → 1 < spot.level → spells spot.page n → BelongsAt spot n → Passes side from spot n passed mid below
    → LeadsBeside spells side from below.level below.page below.bounds mid found → LeadsBeside spells side from spot.level spot.page spot.bounds passed found
goes_led spells spot n side from passed mid found below inner spelled belongs p leads =
    let h = spot.level - 2 in
    let low : spot.level - 1 ≡ suc h = omega (arith, inner) in
    let level_is : suc (suc h) ≡ spot.level = omega (arith, inner) in
    let els = n.elements.items in
    let gap = p.keeps.gap in
    let at_son = subst (λ (x : Spot). LeadsBeside spells side from x.level x.page x.bounds mid found) p.goes leads in
    let at_mid = subst (λ (o : Option Element). LeadsBeside spells side from (spot.level - 1) (get_or n.sons.items gap 0) (son_bounds els gap spot.bounds) o found) p.keeps.found_is at_son in
    let at_level = subst (λ (x : ℕ). LeadsBeside spells side from x (get_or n.sons.items gap 0) (son_bounds els gap spot.bounds) (at_gap side els gap passed) found) low at_mid in
    subst (λ (x : ℕ). LeadsBeside spells side from x spot.page spot.bounds passed found) level_is (n, spelled, belongs.kind ∙ ap kind_of_level (sym level_is), belongs.within, gap, p.keeps.is_gap, at_level)

-- the node of the page at a spot, and what the way says of it
pub record LedGap (spells : ℕ → Node → Type 0) (spot : Spot) (side : Side) (from : Gap) (passed stands : Option Element) : Type 0 where
  pub node : Node
  pub spelled : spells spot.page node
  pub belongs : BelongsAt spot node
  pub gap : ℕ
  pub is_gap : IsGap (is_left from) node.elements.items gap
  pub goes : GoesOnBeside (LeadsBeside spells side from (spot.level - 1)) (spot.level - 1) node gap spot.bounds (at_gap side node.elements.items gap passed) stands

pub led_gap : (spells : ℕ → Node → Type 0) (spot : Spot) (side : Side) (from : Gap) (passed stands : Option Element) → 0 < spot.level → LeadsBeside spells side from spot.level spot.page spot.bounds passed stands → LedGap spells spot side from passed stands
led_gap spells spot side from passed stands some leads =
    let level_is : spot.level ≡ suc (spot.level - 1) = omega (arith, some) in
    let l = subst (λ (x : ℕ). LeadsBeside spells side from x spot.page spot.bounds passed stands) level_is leads in
    record {
      node = l.0;
      spelled = l.1;
      belongs = record { kind = l.2 ∙ ap kind_of_level (sym level_is); within = l.3 };
      gap = l.4;
      is_gap = l.5;
      goes = l.6;
    }

-- what was found at a leaf is what the pages lead to
pub ends_is_led : (spells : ℕ → Node → Type 0) (spot : Spot) (side : Side) (from : Gap) (passed found stands : Option Element) → spot.level ≡ 1 → (l : LedGap spells spot side from passed stands) → KeepsBeside side from l.node passed found → found ≡ stands
ends_is_led spells spot side from passed found stands is_leaf l p =
    let els = l.node.elements.items in
    let low : spot.level - 1 ≡ 0 = omega (arith, is_leaf) in
    let goes = subst (λ (x : ℕ). GoesOnBeside (LeadsBeside spells side from x) x l.node l.gap spot.bounds (at_gap side els l.gap passed) stands) low l.goes in
    p.found_is ∙ ap (λ (i : ℕ). at_gap side els i passed) (same_gap (is_left from) els p.gap l.gap p.is_gap l.is_gap) ∙ sym goes

-- the pages lead on from the son
pub goes_is_led : (spells : ℕ → Node → Type 0) (spot : Spot) (side : Side) (from : Gap) (passed mid stands : Option Element) (below : Spot) → 1 < spot.level → (l : LedGap spells spot side from passed stands) → Passes side from spot l.node passed mid below
    → LeadsBeside spells side from below.level below.page below.bounds mid stands
goes_is_led spells spot side from passed mid stands below inner l p =
    let els = l.node.elements.items in
    let gap = p.keeps.gap in
    let h = spot.level - 2 in
    let low : spot.level - 1 ≡ suc h = omega (arith, inner) in
    let one = same_gap (is_left from) els l.gap gap l.is_gap p.keeps.is_gap in
    let goes = subst (λ (x : ℕ). GoesOnBeside (LeadsBeside spells side from x) x l.node l.gap spot.bounds (at_gap side els l.gap passed) stands) low l.goes in
    let here = subst (λ (i : ℕ). LeadsBeside spells side from (suc h) (get_or l.node.sons.items i 0) (son_bounds els i spot.bounds) (at_gap side els i passed) stands) one goes in
    let at_level = subst (λ (x : ℕ). LeadsBeside spells side from x (get_or l.node.sons.items gap 0) (son_bounds els gap spot.bounds) (at_gap side els gap passed) stands) (sym low) here in
    let at_mid = subst (λ (o : Option Element). LeadsBeside spells side from (spot.level - 1) (get_or l.node.sons.items gap 0) (son_bounds els gap spot.bounds) o stands) (sym p.keeps.found_is) at_level in
    subst (λ (x : Spot). LeadsBeside spells side from x.level x.page x.bounds mid stands) (sym p.goes) at_mid

-- ---- from the root

pub from_root : (spells : ℕ → Node → Type 0) (side : Side) (from : Gap) (height root : ℕ) (found : Option Element) → 0 < height → LeadsBeside spells side from height root unbounded None found → LeadsBesideFrom spells side from height root found
from_root spells side from zero root found some leads = absurd (omega (arith, some))
from_root spells side from (suc h) root found some leads = leads

pub to_root : (spells : ℕ → Node → Type 0) (side : Side) (from : Gap) (height root : ℕ) (found : Option Element) → 0 < height → LeadsBesideFrom spells side from height root found → LeadsBeside spells side from height root unbounded None found
to_root spells side from zero root found some leads = absurd (omega (arith, some))
to_root spells side from (suc h) root found some leads = leads

pub from_nothing : (spells : ℕ → Node → Type 0) (side : Side) (from : Gap) (height root : ℕ) (found : Option Element) → height ≡ 0 → LeadsBesideFrom spells side from height root found → found ≡ None
from_nothing spells side from zero root found is leads = leads
from_nothing spells side from (suc h) root found is leads = absurd (omega (arith, is))

-- ---- an empty tree

pub nowhere_led : (spells : ℕ → Node → Type 0) (side : Side) (from : Gap) (height root : ℕ) → height ≡ 0 → LeadsBesideFrom spells side from height root None
nowhere_led spells side from zero root is = refl
nowhere_led spells side from (suc h) root is = absurd (omega (arith, is))

nearest_nil : (side : Side) (left : List ℕ → Bool) → nearest side left [] None ≡ None
nearest_nil After left = refl
nearest_nil Before left = refl

pub nowhere_nearest : (spells : ℕ → Node → Type 0) (fill height root : ℕ) (es : List Element) (us : List ℕ) (side : Side) (left : List ℕ → Bool) → height ≡ 0 → RootOf spells fill height root es us → None ≡ nearest side left es None
nowhere_nearest spells fill zero root es us side left is (root_is, es_is, us_is) = sym (ap (λ (xs : List Element). nearest side left xs None) es_is ∙ nearest_nil side left)
nowhere_nearest spells fill (suc h) root es us side left is tree = absurd (omega (arith, is))
