-- The levels of a tree, one above another.
use Rattle.std.proofs.Common.{◌≡◌, ℕ, suc, ◌+◌, ◌*◌, ◌/◌, ◌<◌, ◌≤◌, ⊎_elim, true, false, eqb, List, [], ◌∷◌, length, get_or, sum, refl, sym, ◌∙◌, subst, arith}
use Rattle.std.proofs.Math.Nat.{div-mul-le_self, le-div_iff_mul-le}
use Rattle.std.proofs.lemmas.Bool.{cases_lt}
use Rattle.std.proofs.lemmas.Bool.Decides.{nat_tests}
use Rattle.std.proofs.lemmas.List.Sums.{sum_by-cons}
use Rattle.btree_node.specs.declared.node.Node.{Node}
use Rattle.btree_node.specs.declared.node.NodeKind.TheVariants.{Inner}
use Rattle.btree_node.specs.Lists.{Element}
use Rattle.btree_insert.specs.PageTrees.{TreeAt}
use Rattle.btree_insert.proofs.SonsLemmas.{fan_last}
use Rattle.btree_delete.specs.CleanFile.{in_file}
use Rattle.page_store.specs.declared.store_state.StoreState.{Ghosts}
use Rattle.btree_load.specs.Filling.{HasPages, KeepsLength}
use Rattle.btree_load.proofs.ShapeLemmas.{same_pages}
use Rattle.btree_load.specs.Rows.{HasLevelRoom, wide, NodeStandsFor, IsRow, AreFewest}
use Rattle.btree_load.specs.Trees.{AreLevels, HasLevels, HasRoot}

-- a level of pages, of which the last alone may have fewer than k elements
pub record Rows (k : ℕ) (stored : List (List ℕ)) (row : Node) (es : List Element) : Type 0 where
  pub h : ℕ
  pub any : IsRow k stored 1 (suc h) row es
  pub many : 0 < length row.elements.items → IsRow k stored k (suc h) row es

-- a level of pages stands for what it was made of
pub level_above : (k : ℕ) (stored : List (List ℕ)) (els : List Element) (sons : List ℕ) (es : List Element) → 0 < length els → (rows : Rows k stored (wide Inner els sons) es) → (us : List ℕ) × NodeStandsFor k stored (suc rows.h) (wide Inner els sons) es us
level_above k stored els sons es some rows = ((rows.many some).us, (refl, (rows.many some).fan))

-- several pages have enough elements
pub many_left : (k count pages : ℕ) → 2 ≤ pages → AreFewest k count pages → k ≤ count
many_left k count pages two fewest =
    let fits = fewest.fewer in
    omega (arith, twice k pages two, fits)
  where
    twice : (k pages : ℕ) → 2 ≤ pages → 2 * (2 * k + 1) ≤ pages * (2 * k + 1)
    twice k pages two = grind arith

sum_of : (n : ℕ) (ns : List ℕ) → sum (n ∷ ns) ≡ n + sum ns
sum_of n ns = sum_by-cons (λ m. m) n ns

-- the pages of the lowest level of those that follow
pub levels_first : {S : Type 0} (s : Ghosts S) (k count elements : ℕ) (store : S) → 0 < elements → HasLevels s k count elements store → HasLevelRoom s k count elements store
levels_first s k count elements store some room = at room.levels room.are room.has
  where
    at : (levels : List ℕ) → AreLevels k elements levels → HasPages s count (sum levels) store → HasLevelRoom s k count elements store
    at [] none has = absurd (omega (arith, none, some))
    at (p ∷ levels) (any, fewest, rest) has = record {
      pages = p;
      fewest = fewest;
      has = record { start = has.start; room = omega (arith, has.room, sum_of p levels); most = has.most };
    }

-- and of those above it
pub levels_rest : {S : Type 0} (s : Ghosts S) (k count elements later pages less : ℕ) (old new : S) → 0 < elements → HasLevels s k count elements old → KeepsLength s old new → AreFewest k elements pages → later ≡ count + pages → less + 1 ≡ pages → HasLevels s k later less new
levels_rest s k count elements later pages less old new some room same fewest later_is pages_is = at room.levels room.are room.has room.exact
  where
    at : (levels : List ℕ) → AreLevels k elements levels → HasPages s count (sum levels) old → count + sum levels ≡ length (s.pages old) → HasLevels s k later less new
    at [] none has exact = absurd (omega (arith, none, some))
    at (p ∷ levels) (any, is_fewest, rest) has exact =
        let one = same_pages k elements p pages is_fewest fewest in
        let total = sum_of p levels in
        record {
          levels = levels;
          are = subst (λ n. AreLevels k n levels) (omega (arith, one, pages_is)) rest;
          has = record { start = omega (arith, has.start, later_is); room = omega (arith, has.room, total, one, later_is, same.pages); most = omega (arith, same.pages, has.most) };
          exact = omega (arith, exact, total, one, later_is, same.pages);
        }

-- above the topmost there is none
pub levels_done : {S : Type 0} (s : Ghosts S) (k count elements : ℕ) (store : S) → elements ≡ 0 → HasLevels s k count elements store → count ≡ length (s.pages store)
levels_done s k count elements store none room = at room.levels room.are room.exact
  where
    at : (levels : List ℕ) → AreLevels k elements levels → count + sum levels ≡ length (s.pages store) → count ≡ length (s.pages store)
    at [] all exact = omega (arith, exact)
    at (p ∷ levels) (some, fewest, rest) exact = absurd (omega (arith, none, some))

-- so many elements leave so many for the level above
abbrev pub LevelsFrom : ℕ → ℕ → ℕ → ℕ → Type 0
LevelsFrom k elements left pages =
    (rest : List ℕ) → AreLevels k left rest → (levels : List ℕ) × AreLevels k elements levels × (pages + sum rest ≡ 1 + sum levels)

divided : (left width : ℕ) → 0 < width → ((left / width) * width ≤ left) × (left < (left / width + 1) * width)
divided left width some = (
  div-mul-le_self left width,
  ⊎_elim (λ (low : left < (left / width + 1) * width). low)
      (λ (high : (left / width + 1) * width ≤ left). absurd (omega (arith, (le-div_iff_mul-le {k = width} {x = left / width + 1} {y = left} some).1 high)))
      (cases_lt left ((left / width + 1) * width)),
)

-- which are less than half
pub less_left : (k left : ℕ) → 1 ≤ k → 0 < left → 2 * (left / (2 * k + 1)) + 1 ≤ left
less_left k left order some =
    let part = div-mul-le_self left (2 * k + 1) in
    let three = thrice (left / (2 * k + 1)) k order in
    omega (arith, part, three, some)
  where
    thrice : (above k : ℕ) → 1 ≤ k → above * 3 ≤ above * (2 * k + 1)
    thrice above k order = grind arith

pub next_level : (k elements left pages : ℕ) → 0 < left → LevelsFrom k elements left pages → LevelsFrom k elements (left / (2 * k + 1)) (pages + (left / (2 * k + 1) + 1))
next_level k elements left pages some levels rest are =
    let above = left / (2 * k + 1) in
    let both = divided left (2 * k + 1) (omega arith) in
    let more = one_more above (2 * k + 1) in
    let all = levels ((above + 1) ∷ rest) (some, record { enough = both.1; fewer = omega (arith, both.0, more) }, subst (λ n. AreLevels k n rest) (omega arith) are) in
    (all.0, all.1, omega (arith, all.2, sum_of (above + 1) rest))
  where
    one_more : (pages width : ℕ) → (pages + 1) * width ≡ pages * width + width
    one_more pages width = grind arith

first_same : (sons : List ℕ) (other : ℕ) → 0 < length sons → get_or sons 0 other ≡ get_or sons 0 0
first_same [] other some = absurd (omega (arith, some))
first_same (s ∷ sons) other some = refl

-- the one page of the topmost level is the root
pub root_of : (k : ℕ) (stored : List (List ℕ)) (els : List Element) (sons : List ℕ) (es : List Element) (root : ℕ) → length els ≡ 0 → length sons ≡ length els + 1 → root ≡ get_or sons 0 root → Rows k stored (wide Inner els sons) es → HasRoot k stored root es
root_of k stored els sons es root none one root_is rows = record {
  height = suc rows.h;
  us = rows.any.us;
  tree = subst (λ (p : ℕ). TreeAt k (in_file stored) 1 (suc rows.h) p es rows.any.us) (sym (root_is ∙ first_same sons root (omega (arith, none, one)))) (fan_last (TreeAt k (in_file stored) 1 (suc rows.h)) sons els es rows.any.us none rows.any.fan);
}

-- a number that the test finds to be 0
pub is_none : (n : ℕ) → true ≡ eqb n 0 → n ≡ 0
is_none n is = grind (arith, nat_tests)

pub is_some : (n : ℕ) → false ≡ eqb n 0 → 0 < n
is_some n is = grind (arith, nat_tests)
