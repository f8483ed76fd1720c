-- Which fault of a tree an answer is.
use Rattle.std.specs.Prelude.{◌≢◌, Bool, true, false, Result, Ok, Err, IfErr}
use Rattle.btree_insert.specs.declared.tree.TreeFault.{TreeFault}
use Rattle.btree_insert.specs.declared.tree.TreeFault.TheVariants.{Device, Damaged, Memory}

-- no memory was asked for
abbrev pub TreeAsksNoMemory : {X : Type 0} → Result X TreeFault → Type 0
TreeAsksNoMemory answer = IfErr answer (λ fault. fault ≢ Memory)

-- whether a read of the store failed
abbrev pub is_tree_device : {X : Type 0} → Result X TreeFault → Bool
is_tree_device (Ok x) = false
is_tree_device (Err Device) = true
is_tree_device (Err (Damaged page)) = false
is_tree_device (Err Memory) = false
