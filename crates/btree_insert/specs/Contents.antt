-- A list of elements in ascending order as a map from keys to records.
use Rattle.std.specs.Prelude.{ℕ, List, [], ◌∷◌, ◌++◌, Option, Some, None}
use Rattle.std.specs.FinMap.{from_sorted}
use Rattle.std.specs.Ordering.{nat_cmp}
use Rattle.std.specs.Cmp.Lexicographic.{slice_cmp}
use Rattle.std.specs.declared.cmp.Ordering.{Ordering}
use Rattle.std.specs.declared.cmp.Ordering.TheVariants.{Less, Equal, Greater}
use Rattle.rec_types.specs.Contents.{Contents}
use Rattle.btree_node.specs.Lists.{Element}

-- one of three, by the outcome of a comparison
abbrev pub by_order : {A : Type 0} → Ordering → A → A → A → A
by_order Less less equal greater = less
by_order Equal less equal greater = equal
by_order Greater less equal greater = greater

-- the record at the key
abbrev pub lookup_in : List ℕ → List Element → Option (List ℕ)
lookup_in key [] = None
lookup_in key (e ∷ es) = by_order (slice_cmp nat_cmp key e.0) None (Some e.1) (lookup_in key es)

-- the element of a key that has a record
abbrev pub element_of : List ℕ → Option (List ℕ) → List Element
element_of key None = []
element_of key (Some value) = (key, value) ∷ []

-- the elements with a record put at the key, or with the key taken out
abbrev pub set_in : List ℕ → Option (List ℕ) → List Element → List Element
set_in key w [] = element_of key w
set_in key w (e ∷ es) = by_order (slice_cmp nat_cmp key e.0) (element_of key w ++ e ∷ es) (element_of key w ++ es) (e ∷ set_in key w es)

-- the finite map of the elements: elements whose keys do not ascend have none, and theirs is empty
abbrev pub contents_of : List Element → Contents
contents_of es = from_sorted es
