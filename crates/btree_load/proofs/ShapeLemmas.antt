-- The shape of a tree of so many records, and its contents.
use Rattle.std.proofs.Common.{◌≡◌, ℕ, ◌+◌, ◌-◌, ◌*◌, ◌<◌, ◌≤◌, ⊎_elim, Some, List, [], ◌∷◌, ◌++◌, refl, ap, sym, ◌∙◌, subst, arith, append_assoc, append-nil}
use Rattle.std.proofs.lemmas.Bool.{cases_lt}
use Rattle.std.specs.FinMap as maps
use Rattle.rec_types.specs.Contents.{Contents, set_to}
use Rattle.rec_types.specs.History.{replay}
use Rattle.btree_node.specs.Lists.{Element, Each, Below, Ascends}
use Rattle.btree_node.proofs.ElementOrderLemmas.{Each-right, Ascends-left}
use Rattle.btree_insert.specs.Contents.{contents_of, set_in}
use Rattle.btree_insert.proofs.ContentsLemmas.{contents_of-set}
use Rattle.btree_insert.proofs.ElementMapLemmas.{put-none}
use Rattle.btree_delete.proofs.TableViewLemmas.{no_contents}
use Rattle.btree_load.specs.Rows.{AreFewest}
use Rattle.btree_load.specs.Trees.{AreLevels, puts}

-- no level may have more pages than are needed
not_more : (k count pages more : ℕ) → AreFewest k count pages → AreFewest k count more → pages < more → ⊥
not_more k count pages more fewest other low =
    let enough = fewest.enough in
    let fewer = other.fewer in
    let grown = wider pages more (2 * k + 1) low in
    omega (arith, enough, fewer, grown)
  where
    wider : (pages more width : ℕ) → pages < more → pages * width + width ≤ more * width
    wider pages more width low = grind arith

pub same_pages : (k count pages other : ℕ) → AreFewest k count pages → AreFewest k count other → pages ≡ other
same_pages k count pages other fewest fewest2 =
    ⊎_elim (λ (low : pages < other). absurd (not_more k count pages other fewest fewest2 low))
    (λ (high : other ≤ pages). ⊎_elim (λ (less : other < pages). absurd (not_more k count other pages fewest2 fewest less)) (λ (most : pages ≤ other). omega (arith, high, most)) (cases_lt other pages))
    (cases_lt pages other)

pub one_way : (k count : ℕ) (levels others : List ℕ) → AreLevels k count levels → AreLevels k count others → levels ≡ others
one_way k count [] [] are are2 = refl
one_way k count [] (q ∷ others) none (some, fewest, rest) = absurd (omega (arith, none, some))
one_way k count (p ∷ levels) [] (some, fewest, rest) none = absurd (omega (arith, none, some))
one_way k count (p ∷ levels) (q ∷ others) (some, fewest, rest) (some2, fewest2, rest2) =
    let same = same_pages k count p q fewest fewest2 in
    let later = one_way k (p - 1) levels others rest (subst (λ n. AreLevels k (n - 1) others) (sym same) rest2) in
    ap (λ ls. p ∷ ls) later ∙ ap (λ n. n ∷ others) same

-- all that stand before one are below it
before_last : (xs : List Element) (y : Element) (ys : List Element) → Ascends (xs ++ y ∷ ys) → Each (λ e. Below e.0 y.0) xs
before_last [] y ys up = tt
before_last (x ∷ xs) y ys up = ((Each-right (λ later. Below x.0 later.0) xs (y ∷ ys) up.0).0, before_last xs y ys up.1)

-- one record more, behind all others
put_last : (xs : List Element) (y : Element) (ys : List Element) → Ascends (xs ++ y ∷ ys) → contents_of (xs ++ y ∷ []) ≡ set_to (contents_of xs) y.0 (Some y.1)
put_last xs y ys up =
    let put : set_in y.0 (Some y.1) xs ≡ xs ++ y ∷ [] = ap (set_in y.0 (Some y.1)) (sym (append-nil xs)) ∙ put-none y.0 y.1 xs [] (before_last xs y ys up) tt in
    ap contents_of (sym put) ∙ contents_of-set xs y.0 (Some y.1) (Ascends-left xs (y ∷ ys) up)

puts_behind : (xs ys : List Element) → Ascends (xs ++ ys) → contents_of (xs ++ ys) ≡ replay (contents_of xs) (puts ys)
puts_behind xs [] up = ap contents_of (append-nil xs)
puts_behind xs (y ∷ ys) up =
    let joined : xs ++ y ∷ ys ≡ (xs ++ y ∷ []) ++ ys = sym (append_assoc xs (y ∷ []) ys) in
    ap contents_of joined ∙ puts_behind (xs ++ y ∷ []) ys (subst Ascends joined up) ∙ ap (λ (m : Contents). replay m (puts ys)) (put_last xs y ys up)

pub contents_put : (es : List Element) → Ascends es → contents_of es ≡ replay maps.empty (puts es)
contents_put es up = puts_behind [] es up ∙ ap (λ (m : Contents). replay m (puts es)) no_contents
