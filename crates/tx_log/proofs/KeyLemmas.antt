-- Keys and numbers as maps tell them apart.
use Rattle.std.proofs.Common.{◌≡◌, ℕ, Bool, true, false, cond, eqb, ltb, List, Option, Some, None, refl, arith}
use Rattle.std.proofs.lemmas.Bool.Decides.{nat_tests}
use Rattle.std.proofs.lemmas.Cmp.{nat_list_cmp_total}
use Rattle.std.specs.FinMap as maps
use Rattle.std.specs.Ordering.{eq_by_cmp, is_eq, nat_cmp}
use Rattle.std.specs.declared.cmp.Ordering.TheVariants.{Less, Equal, Greater}
use Rattle.rec_types.specs.Contents.{Contents, set_to, same_key}

number_case : (a b : Bool) → (m n : ℕ) → ltb m n ≡ a → eqb m n ≡ b → is_eq (cond a Less (cond b Equal Greater)) ≡ eqb n m
number_case true b m n e f = grind (arith, nat_tests)
number_case false true m n e f = grind (arith, nat_tests)
number_case false false m n e f = grind (arith, nat_tests)

-- numbers told apart by their order
pub same_by_cmp : (m n : ℕ) → eq_by_cmp nat_cmp m n ≡ eqb n m
same_by_cmp m n = number_case (ltb m n) (eqb m n) m n refl refl

-- what is found after one key is set
pub get-set_to : (m : Contents) (k : List ℕ) (w : Option (List ℕ)) (q : List ℕ) → maps.get (set_to m k w) q ≡ cond (same_key q k) w (maps.get m q)
get-set_to m k None q = maps.get-remove nat_list_cmp_total m k q
get-set_to m k (Some r) q = maps.get-insert nat_list_cmp_total m k r q
