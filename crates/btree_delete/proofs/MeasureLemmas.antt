-- The tree of a root, gone through.
use Rattle.std.proofs.Common.{◌≡◌, ℕ, zero, suc, ◌+◌, ◌-◌, ◌*◌, ◌^◌, ◌<◌, ◌≤◌, ◌↔◌, ⊎_elim, inl, inr, Bool, true, false, Option, Some, None, List, [], ◌∷◌, length, get_or, set, drop, refl, ap, sym, ◌∙◌, subst, arith, length-append}
use Rattle.std.proofs.Math.Nat.{pow-zero, pow-succ', pow-le-pow_right}
use Rattle.std.proofs.lemmas.List.{length-replicate, get_or-replicate, get_or-set_other, length-set}
use Rattle.page_store.specs.PageMap.{PageMap, at}
use Rattle.page_store.specs.Calls.{counted_times}
use Rattle.btree_node.specs.Lists.{Element}
use Rattle.btree_insert.specs.declared.tree.Tree.{Tree}
use Rattle.btree_insert.specs.Bounds.{unbounded}
use Rattle.btree_insert.specs.PageTrees.{IsIn, Apart, Fan, TreeIn, RootIn, HoldsIn}
use Rattle.btree_node.specs.declared.layout.Layout.{Layout}
use Rattle.btree_insert.proofs.BoundLemmas.{Between-all}
use Rattle.btree_insert.proofs.SonsAroundLemmas.{Stands}
use Rattle.btree_insert.proofs.ChangedTreeLemmas.{in_use_in}
use Rattle.btree_insert.proofs.Membership.{in_each}
use Rattle.btree_delete.specs.Survey.{SeenSoFar, mark, AreUnvisited, unreached, seen_past, below_page, Sound, Surveyed, none_of, first_leaf_level, height_of, seen_of, IsRooted, WentThrough, Measured, allowed}
use Rattle.btree_delete.proofs.SurveyLemmas.{unreached_set}
use Rattle.btree_delete.proofs.FreeNumberLemmas.{within, one_less}

-- a page that another's mark leaves unreached
pub set_unvisited : (bits : List Bool) (u q : ℕ) → get_or (set bits u true) q true ≡ false → (get_or bits q true ≡ false) × (q ≡ u → ⊥)
set_unvisited [] u q is = absurd (cc)
set_unvisited (b ∷ bits) zero zero is = absurd (cc)
set_unvisited (b ∷ bits) zero (suc q) is = (is, λ same. absurd (omega (arith, same)))
set_unvisited (b ∷ bits) (suc u) zero is = (is, λ same. absurd (omega (arith, same)))
set_unvisited (b ∷ bits) (suc u) (suc q) is = let rest = set_unvisited bits u q is in (rest.0, λ same. rest.1 (omega (arith, same)))

-- what was marked, and what was not
pub unmarked : (us : List ℕ) (bits : List Bool) (q : ℕ) → get_or (mark us bits) q true ≡ false → (get_or bits q true ≡ false) × (IsIn q us → ⊥)
unmarked [] bits q is = (is, λ none. none)
unmarked (u ∷ us) bits q is =
    let rest = unmarked us (set bits u true) q is in
    let here = set_unvisited bits u q rest.0 in
    (here.0, λ either. ⊎_elim (λ e. here.1 e) (λ later. rest.1 later) either)

-- a page that isn't among those marked stays unmarked
pub stays_unmarked : (us : List ℕ) (bits : List Bool) (q : ℕ) → get_or bits q true ≡ false → (IsIn q us → ⊥) → get_or (mark us bits) q true ≡ false
stays_unmarked [] bits q is out = is
stays_unmarked (u ∷ us) bits q is out = stays_unmarked us (set bits u true) q (get_or-set_other bits u q true true (λ same. out (inl same)) ∙ is) (λ later. out (inr later))

unvisited_in : (us : List ℕ) (bits : List Bool) (q : ℕ) → AreUnvisited us bits → IsIn q us → get_or bits q true ≡ false
unvisited_in [] bits q unvisited is = absurd is
unvisited_in (u ∷ us) bits q unvisited (inl same) = ap (λ (x : ℕ). get_or bits x true) same ∙ unvisited.0
unvisited_in (u ∷ us) bits q unvisited (inr later) = (set_unvisited bits u q (unvisited_in us (set bits u true) q unvisited.1 later)).0

-- pages that were all unvisited are distinct
pub unvisited_apart : (us : List ℕ) (bits : List Bool) → AreUnvisited us bits → Apart us
unvisited_apart [] bits unvisited = tt
unvisited_apart (u ∷ us) bits unvisited = (λ is. (set_unvisited bits u u (unvisited_in us (set bits u true) u unvisited.1 is)).1 refl, unvisited_apart us (set bits u true) unvisited.1)

-- distinct pages that aren't marked are unvisited
pub apart_unvisited : (us : List ℕ) (bits : List Bool) → Apart us → ((q : ℕ) → IsIn q us → get_or bits q true ≡ false) → AreUnvisited us bits
apart_unvisited [] bits apart low = tt
apart_unvisited (u ∷ us) bits apart low = (
  low u (inl refl),
  apart_unvisited us (set bits u true) apart.1 (λ q is. get_or-set_other bits u q true true (λ (same : q ≡ u). apart.0 (subst (λ (x : ℕ). IsIn x us) same is)) ∙ low q (inr is)),
)

-- each page of a tree is one less to reach
pub fewer_left : (us : List ℕ) (bits : List Bool) → AreUnvisited us bits → length us + unreached (mark us bits) ≡ unreached bits
fewer_left [] bits unvisited = omega arith
fewer_left (u ∷ us) bits unvisited =
    let rest = fewer_left us (set bits u true) unvisited.1 in
    let here = unreached_set bits u unvisited.0 in
    omega arith

-- at first no page is reached
pub all_unreached : (count : ℕ) → unreached (none_of count) ≡ count
all_unreached zero = refl
all_unreached (suc count) = ap suc (all_unreached count)

-- marking leaves as many pages
pub long_mark : (us : List ℕ) (bits : List Bool) → length (mark us bits) ≡ length bits
long_mark [] bits = refl
long_mark (u ∷ us) bits = long_mark us (set bits u true) ∙ length-set bits u true

-- a tree of a height has so many pages at least
fan_some : (m : ℕ) (tree : Stands) → ((s : ℕ) (xs : List Element) (us : List ℕ) → tree s xs us → m ≤ length us + 1) → (sons : List ℕ) (els es : List Element) (us : List ℕ) → Fan tree sons els es us → m ≤ length us + 1
fan_some m tree at [] els es us fan = absurd fan
fan_some m tree at (s ∷ []) [] es us fan = at s es us fan
fan_some m tree at (s ∷ []) (e ∷ els) es us fan = absurd fan
fan_some m tree at (s ∷ (t ∷ ss)) [] es us fan = absurd fan
fan_some m tree at (s ∷ (t ∷ ss)) (e ∷ els) es us (xs, ys, here, rest, first, more, es_is, us_is) =
    let front = at s xs here first in
    let size = ap length us_is ∙ length-append here rest in
    omega arith

fan_two : (m : ℕ) (tree : Stands) → ((s : ℕ) (xs : List Element) (us : List ℕ) → tree s xs us → m ≤ length us + 1) → (sons : List ℕ) (els es : List Element) (us : List ℕ) → 0 < length els → Fan tree sons els es us → 2 * m ≤ length us + 2
fan_two m tree at [] els es us some fan = absurd fan
fan_two m tree at (s ∷ []) [] es us some fan = absurd (omega arith)
fan_two m tree at (s ∷ []) (e ∷ els) es us some fan = absurd fan
fan_two m tree at (s ∷ (t ∷ ss)) [] es us some fan = absurd fan
fan_two m tree at (s ∷ (t ∷ ss)) (e ∷ els) es us some (xs, ys, here, rest, first, more, es_is, us_is) =
    let front = at s xs here first in
    let back = fan_some m tree at (t ∷ ss) els ys rest more in
    let size = ap length us_is ∙ length-append here rest in
    omega arith

tree_two : (layout : Layout) (k : ℕ) (pages : PageMap) (least h p : ℕ) (es : List Element) (us : List ℕ) → 0 < k → 0 < least → TreeIn layout k pages least (suc h) p es us → 2 ^ suc h ≤ length us + 1
tree_two layout k pages least zero p es us order some (n, below, spells, least_is, body, us_is) =
    let size = ap length us_is in
    let power = pow-succ' 2 0 ∙ ap (λ x. 2 * x) (pow-zero 2) in
    omega (arith, power, size)
tree_two layout k pages least (suc h) p es us order some (n, below, spells, least_is, body, us_is) =
    let m = 2 ^ suc h in
    let each : (s : ℕ) (xs : List Element) (vs : List ℕ) → TreeIn layout k pages k (suc h) s xs vs → m ≤ length vs + 1 = λ s xs vs tree. tree_two layout k pages k h s xs vs order order tree in
    let all = fan_two m (TreeIn layout k pages k (suc h)) each n.sons.items n.elements.items es below (omega (arith, least_is, some)) body.1 in
    let size = ap length us_is in
    omega (arith, all, size, pow-succ' 2 (suc h))

few_levels : (h count : ℕ) → 2 ^ suc h ≤ count + 1 → count ≤ 1000001 → h ≤ 18
few_levels h count power most = let never : 19 ≤ h → ⊥ = λ high. (let up = pow-le-pow_right {n = 2} (omega arith) {i = 20} {j = suc h} (omega (arith, high)) in omega (arith, up, power, most)) in omega (arith, never)

-- a page that is there is below the count
pub below_count : (pages : List (Option (List ℕ))) (q : ℕ) → (at pages q ≡ None → ⊥) → q < length pages
below_count [] q used = absurd (used refl)
below_count (p ∷ pages) zero used = omega arith
below_count (p ∷ pages) (suc q) used = let rest = below_count pages q used in omega arith

-- a tree of the class fits a walk that has seen nothing
pub sound_root : (layout : Layout) (k : ℕ) (pages : List (Option (List ℕ))) (h root : ℕ) (es : List Element) (us : List ℕ) (start : SeenSoFar) → 0 < k → length pages ≤ 1000001 → start ≡ record { reached = none_of (length pages); leaf = None; keys = 0 }
    → IsRooted layout k (at pages) root (suc h) es us → (h ≤ 18) × Sound (below_page layout k (at pages) 1 root) (allowed 18 unbounded) start h (18 - h) es us
sound_root layout k pages h root es us start order most start_is rooted =
    let used = in_use_in layout k (at pages) 1 (suc h) root es us rooted.tree in
    let low : (q : ℕ) → IsIn q us → get_or (none_of (length pages)) q true ≡ false = λ q is. get_or-replicate (length pages) q false true (below_count pages q (in_each (λ x. at pages x ≡ None → ⊥) us q used is)) in
    let unvisited = apart_unvisited us (none_of (length pages)) rooted.apart low in
    let fit = fewer_left us (none_of (length pages)) unvisited in
    let all = all_unreached (length pages) in
    let two = tree_two layout k (at pages) 1 h root es us order (omega arith) rooted.tree in
    let small = few_levels h (length pages) (omega (arith, two, fit, all)) most in (
      small,
      record {
        stands = rooted.tree;
        levels = omega (arith, small);
        between = Between-all es rooted.ascends;
        unvisited = subst (λ (s : SeenSoFar). AreUnvisited us s.reached) (sym start_is) unvisited;
        leaf = inl (ap (λ (s : SeenSoFar). s.leaf) start_is);
      },
    )

-- what is seen after a whole tree
pub seen_after : (count h : ℕ) (es : List Element) (us : List ℕ) (start : SeenSoFar) → start ≡ record { reached = none_of count; leaf = None; keys = 0 } → seen_past (18 - h) es us start ≡ seen_of count (suc h) es us
seen_after count h es us start start_is = ap (seen_past (18 - h) es us) start_is ∙ from_none (length es)
  where
    zero_left : (n : ℕ) → 0 + n ≡ n
    zero_left n = omega arith

    from_none : (n : ℕ) → ◌≡◌ {A = SeenSoFar} (record { reached = mark us (none_of count); leaf = Some (18 - h); keys = 0 + n }) (record { reached = mark us (none_of count); leaf = Some (18 - h); keys = n })
    from_none n = λ i. record { reached = mark us (none_of count); leaf = Some (18 - h); keys = zero_left n i }

-- what was gone through from the root is a tree of the class
pub rooted_found : (layout : Layout) (k : ℕ) (pages : List (Option (List ℕ))) (root : ℕ) (start new : SeenSoFar) (reads reads' : ℕ) → start ≡ record { reached = none_of (length pages); leaf = None; keys = 0 }
    → Surveyed (below_page layout k (at pages) 1 root) (allowed 18 unbounded) start new reads reads' → WentThrough layout k (at pages) (length pages) root new reads reads'
rooted_found layout k pages root start new reads reads' start_is sub =
    let level_is : sub.level ≡ 18 - sub.h = omega (arith, sub.sound.levels) in
    record {
      height = suc sub.h;
      es = sub.es;
      us = sub.us;
      rooted = record {
        tree = sub.sound.stands;
        ascends = sub.sound.between.ascends;
        apart = unvisited_apart sub.us start.reached sub.sound.unvisited;
      };
      low = omega (arith, sub.sound.levels);
      is = sub.is ∙ ap (λ (l : ℕ). seen_past l sub.es sub.us start) level_is ∙ seen_after (length pages) sub.h sub.es sub.us start start_is;
      read = sub.read;
    }

-- where a walk begins
abbrev pub begin_with : List Bool → SeenSoFar
begin_with reached = record { reached = reached; leaf = None; keys = 0 }

-- the keys of all pages can be counted in 32 bits
pub room_start : (count : ℕ) (start : SeenSoFar) → start ≡ begin_with (none_of count) → count ≤ 1000001 → start.keys + 32 * unreached start.reached < 2 ^ 32
room_start count start is most =
    let keys = ap (λ (s : SeenSoFar). s.keys) is in
    let all = ap (λ (s : SeenSoFar). unreached s.reached) is ∙ all_unreached count in
    omega arith

root_height : (layout : Layout) (k : ℕ) (pages : PageMap) (root height : ℕ) (es : List Element) (us : List ℕ) → (root ≡ 0 → ⊥) → IsRooted layout k pages root height es us → height ≡ suc (height - 1)
root_height layout k pages root zero es us some rooted = absurd (some rooted.tree.0)
root_height layout k pages root (suc h) es us some rooted = omega arith

-- the tree of a root is sound where the walk begins, and at its end all of it is seen
abbrev pub SoundRoot : Layout → ℕ → List (Option (List ℕ)) → ℕ → ℕ → List Element → List ℕ → SeenSoFar → Type 0
SoundRoot layout k pages root height es us start = (h : ℕ) × Sound (below_page layout k (at pages) 1 root) (allowed 18 unbounded) start h (18 - h) es us × (seen_past (18 - h) es us start ≡ seen_of (length pages) height es us)

-- a tree below a root that is a page
pub rooted_exact : (layout : Layout) (k : ℕ) (pages : List (Option (List ℕ))) (root height : ℕ) (es : List Element) (us : List ℕ) (start : SeenSoFar) → (root ≡ 0 → ⊥) → 0 < k → length pages ≤ 1000001 → start ≡ begin_with (none_of (length pages))
    → IsRooted layout k (at pages) root height es us → SoundRoot layout k pages root height es us start
rooted_exact layout k pages root zero es us start some order most start_is rooted = absurd (some rooted.tree.0)
rooted_exact layout k pages root (suc h) es us start some order most start_is rooted =
    let sound = sound_root layout k pages h root es us start order most start_is rooted in
    (h, sound.1, seen_after (length pages) h es us start start_is)

-- each page of a tree is there
pub root_in_use : (layout : Layout) (k : ℕ) (pages : PageMap) (root height : ℕ) (es : List Element) (us : List ℕ) → RootIn layout k pages height root es us → (q : ℕ) → IsIn q us → pages q ≡ None → ⊥
root_in_use layout k pages root zero es us tree q is = absurd (subst (IsIn q) tree.2 is)
root_in_use layout k pages root (suc h) es us tree q is = in_each (λ x. pages x ≡ None → ⊥) us q (in_use_in layout k pages 1 (suc h) root es us tree) is

small_root : (layout : Layout) (k : ℕ) (pages : List (Option (List ℕ))) (root height : ℕ) (es : List Element) (us : List ℕ) → 0 < k → length pages ≤ 1000001 → IsRooted layout k (at pages) root height es us → height ≤ 19
small_root layout k pages root zero es us order most rooted = omega arith
small_root layout k pages root (suc h) es us order most rooted =
    let low = (sound_root layout k pages h root es us (begin_with (none_of (length pages))) order most refl rooted).0 in
    omega (arith, low)

height_back : (height : ℕ) → height ≤ 19 → height_of (first_leaf_level height) ≡ height
height_back zero low = refl
height_back (suc h) low = omega arith

root_unvisited : (layout : Layout) (k : ℕ) (pages : List (Option (List ℕ))) (root height : ℕ) (es : List Element) (us : List ℕ) → IsRooted layout k (at pages) root height es us → AreUnvisited us (none_of (length pages))
root_unvisited layout k pages root height es us rooted =
    apart_unvisited us (none_of (length pages)) rooted.apart (λ q is. get_or-replicate (length pages) q false true (below_count pages q (root_in_use layout k (at pages) root height es us rooted.tree q is)))

-- what is told of a tree that was gone through
pub record Totals (pages : List (Option (List ℕ))) (height : ℕ) (es : List Element) (us : List ℕ) (new : SeenSoFar) (reached : List Bool) (free : ℕ) : Type 0 where
  pub levels : height_of new.leaf ≡ height
  pub keys : new.keys ≡ length es
  pub used : length reached - 1 - free ≡ length us
  pub others : (n : ℕ) (b : Bool) → ((b ≡ true) ↔ ((1 ≤ n) × (get_or reached n true ≡ false))) → (b ≡ true) ↔ ((1 ≤ n) × (n < length pages) × (IsIn n us → ⊥))

-- the sizes of a tree that was gone through
pub totals : (layout : Layout) (k : ℕ) (pages : List (Option (List ℕ))) (root height : ℕ) (es : List Element) (us : List ℕ) (new : SeenSoFar) (reached : List Bool) (free : ℕ) → 0 < k → 1 ≤ length pages → length pages ≤ 1000001 → at pages 0 ≡ None
    → IsRooted layout k (at pages) root height es us → new ≡ seen_of (length pages) height es us → reached ≡ new.reached → free ≡ unreached (drop 1 reached) → Totals pages height es us new reached free
totals layout k pages root height es us new reached free order some most header rooted new_is reached_is free_is =
    let bits = none_of (length pages) in
    let marked_is : reached ≡ mark us bits = reached_is ∙ ap (λ (s : SeenSoFar). s.reached) new_is in
    let out : IsIn 0 us → ⊥ = λ is. root_in_use layout k (at pages) root height es us rooted.tree 0 is header in
    let first : get_or (mark us bits) 0 true ≡ false = stays_unmarked us bits 0 (get_or-replicate (length pages) 0 false true (omega arith)) out in
    let fit = fewer_left us bits (root_unvisited layout k pages root height es us rooted) in
    let all = all_unreached (length pages) in
    let one = one_less (mark us bits) first in
    let long = ap length marked_is ∙ long_mark us bits ∙ length-replicate (length pages) false in
    let rest = free_is ∙ ap (λ (xs : List Bool). unreached (drop 1 xs)) marked_is in
    record {
      levels = ap (λ (s : SeenSoFar). height_of s.leaf) new_is ∙ height_back height (small_root layout k pages root height es us order most rooted);
      keys = ap (λ (s : SeenSoFar). s.keys) new_is;
      used = omega (arith, fit, all, one, long, rest);
      others = λ n b is. (
        λ yes_is.
            let both = is.0 yes_is in
            let unvisited = unmarked us bits n (ap (λ (xs : List Bool). get_or xs n true) (sym marked_is) ∙ both.1) in
            (both.0, below_none (length pages) n unvisited.0, unvisited.1),
        λ three. is.1 (three.0, ap (λ (xs : List Bool). get_or xs n true) marked_is ∙ stays_unmarked us bits n (get_or-replicate (length pages) n false true three.1) three.2),
      );
    }
  where
    below_none : (count n : ℕ) → get_or (none_of count) n true ≡ false → n < count
    below_none count n is = let low = within (none_of count) n is in let long = length-replicate count false in omega (arith, low, long)

-- the tree of a root was measured
pub measured : (layout : Layout) (k : ℕ) (pages : List (Option (List ℕ))) (root : ℕ) (tree : Tree) (new : SeenSoFar) (reached : List Bool) (free : ℕ) (among : ℕ → Bool) (reads reads' : ℕ) → 0 < k → 1 ≤ length pages → length pages ≤ 1000001 → at pages 0 ≡ None
    → WentThrough layout k (at pages) (length pages) root new reads reads' → reached ≡ new.reached → free ≡ unreached (drop 1 reached)
    → tree.order ≡ k → tree.root ≡ root → tree.height ≡ height_of new.leaf → tree.count ≡ new.keys → tree.used ≡ length reached - 1 - free → ((n : ℕ) → (among n ≡ true) ↔ ((1 ≤ n) × (get_or reached n true ≡ false)))
    → Measured layout k pages root tree among reads reads'
measured layout k pages root tree new reached free among reads reads' order some most header went reached_is free_is order_is root_is height_is count_is used_is free_all =
    let all = totals layout k pages root went.height went.es went.us new reached free order some most header went.rooted went.is reached_is free_is in
    let tree1 = subst (λ (h : ℕ). RootIn layout k (at pages) h root went.es went.us) (sym (height_is ∙ all.levels)) went.rooted.tree in
    let tree2 = subst (λ (r : ℕ). RootIn layout k (at pages) tree.height r went.es went.us) (sym root_is) tree1 in
    record {
      es = went.es;
      us = went.us;
      holds = record {
        tree = subst (λ (o : ℕ). RootIn layout o (at pages) tree.height tree.root went.es went.us) (sym order_is) tree2;
        ascends = went.rooted.ascends;
        apart = went.rooted.apart;
        count = count_is ∙ all.keys;
        used = used_is ∙ all.used;
      };
      order = order_is;
      root_is = root_is;
      low = omega (arith, height_is, all.levels, went.low);
      others = λ n. all.others n (among n) (free_all n);
      read = went.read ∙ ap (counted_times reads) (sym (used_is ∙ all.used));
    }

-- a held tree is one at its root
pub rooted_holds : (layout : Layout) (k : ℕ) (pages : PageMap) (root : ℕ) (tree : Tree) (es : List Element) (us : List ℕ) → tree.order ≡ k → tree.root ≡ root → HoldsIn layout pages tree es us → IsRooted layout k pages root tree.height es us
rooted_holds layout k pages root tree es us order_is root_is holds = record {
  tree = subst (λ (r : ℕ). RootIn layout k pages tree.height r es us) root_is (subst (λ (o : ℕ). RootIn layout o pages tree.height tree.root es us) order_is holds.tree);
  ascends = holds.ascends;
  apart = holds.apart;
}

-- and there is no other
pub same_tree : (layout : Layout) (k : ℕ) (pages : List (Option (List ℕ))) (root height count used : ℕ) (tree : Tree) (es : List Element) (us : List ℕ) (new : SeenSoFar) (reached : List Bool) (free : ℕ) → 0 < k → 1 ≤ length pages → length pages ≤ 1000001 → at pages 0 ≡ None
    → tree.order ≡ k → tree.root ≡ root → HoldsIn layout (at pages) tree es us → new ≡ seen_of (length pages) tree.height es us → reached ≡ new.reached → free ≡ unreached (drop 1 reached)
    → height ≡ height_of new.leaf → count ≡ new.keys → used ≡ length reached - 1 - free → ◌≡◌ {A = Tree} (record { order = k; root = root; height = height; count = count; used = used }) tree
same_tree layout k pages root height count used tree es us new reached free order some most header order_is root_is holds new_is reached_is free_is height_is count_is used_is =
    let all = totals layout k pages root tree.height es us new reached free order some most header (rooted_holds layout k (at pages) root tree es us order_is root_is holds) new_is reached_is free_is in
    let levels = height_is ∙ all.levels in
    let keys = count_is ∙ all.keys ∙ sym holds.count in
    let size = used_is ∙ all.used ∙ sym holds.used in
    λ i. record { order = sym order_is i; root = sym root_is i; height = levels i; count = keys i; used = size i }

-- the free numbers hang on which pages were reached alone
pub free_of : (here reached : List Bool) (n : ℕ) (b : Bool) → here ≡ reached → (b ≡ true) ↔ ((1 ≤ n) × (get_or here n true ≡ false)) → (b ≡ true) ↔ ((1 ≤ n) × (get_or reached n true ≡ false))
free_of here reached n b same is = subst (λ (xs : List Bool). (b ≡ true) ↔ ((1 ≤ n) × (get_or xs n true ≡ false))) same is
