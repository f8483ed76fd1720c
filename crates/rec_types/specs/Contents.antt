-- The records of a file: a finite map from keys to records, in the order of the keys' bytes, a proper prefix first.
use Rattle.std.specs.Prelude.{ℕ, Bool, List, Option, Some, None}
use Rattle.std.specs.Coded.{Coded, coded_list, coded_ℕ}
use Rattle.std.specs.FinMap as map
use Rattle.std.specs.Ordering.{eq_by_cmp, nat_cmp}
use Rattle.std.specs.Cmp.Lexicographic.{slice_cmp}

abbrev pub Contents : Type 0
Contents = map.FinMap (slice_cmp nat_cmp) (List ℕ)

abbrev pub coded_contents : Coded Contents
coded_contents = map.code (coded_list coded_ℕ) (coded_list coded_ℕ)

-- the two keys are one
abbrev pub same_key : List ℕ → List ℕ → Bool
same_key a b = eq_by_cmp (slice_cmp nat_cmp) a b

-- the contents with a record put at the key, or with the key taken out
abbrev pub set_to : Contents → List ℕ → Option (List ℕ) → Contents
set_to m k None = map.remove m k
set_to m k (Some r) = map.insert m k r

-- the same where something is written at the key; where nothing is, the contents stay
abbrev pub write_to : Contents → List ℕ → Option (Option (List ℕ)) → Contents
write_to m k None = m
write_to m k (Some w) = set_to m k w

-- whether the key has a record
abbrev pub has : Contents → List ℕ → Bool
has m k = map.contains_key m k
