-- Which fault of a store an answer is.
use Rattle.std.specs.Prelude.{◌≡◌, ◌≢◌, Bool, true, false, Result, Ok, Err, IfErr}
use Rattle.page_store.specs.declared.store_fault.StoreFault.{StoreFault}
use Rattle.page_store.specs.declared.store_fault.StoreFault.TheVariants.{Failed, Memory}

-- no memory was asked for
abbrev pub AsksNoMemory : {X : Type 0} → Result X StoreFault → Type 0
AsksNoMemory answer = answer ≢ Err Memory

-- the call failed, if there is a fault
abbrev pub OnlyFails : {X : Type 0} → Result X StoreFault → Type 0
OnlyFails answer = IfErr answer (λ fault. fault ≡ Failed)

-- whether the call failed
abbrev pub is_failed : {X : Type 0} → Result X StoreFault → Bool
is_failed (Ok x) = false
is_failed (Err Failed) = true
is_failed (Err Memory) = false
