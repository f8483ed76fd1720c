-- The first so many of some entries, and a sink that takes no more.
use Rattle.std.specs.Prelude.{◌≡◌, ℕ, ◌+◌, ◌≤◌, zero, suc, List, [], ◌∷◌, ◌++◌, length, take, Result, Ok, Err}
use Rattle.std.proofs.Common.{refl, sym, subst, ap, ◌∙◌, length-append, arith}
use Rattle.std.proofs.Math.Seq.{take-append-add}
use Rattle.std.proofs.lemmas.List.{take-append-le}
use Rattle.rec_types.specs.declared.transaction.Entry.{Entry}
use Rattle.record_file.specs.declared.at_most.SinkStop.{SinkStop}
use Rattle.record_file.specs.declared.fault.EntriesFault.{EntriesFault}
use Rattle.record_file.specs.declared.fault.EntriesFault.TheVariants.{Memory}
use Rattle.record_file.specs.declared.at_most.SinkStop.TheVariants.{Enough, Fault}

-- the first so many of a list, where there is one
abbrev pub limited_to : {A E : Type 0} → ℕ → Result (List A) E → Result (List A) E
limited_to n (Ok es) = Ok (take n es)
limited_to n (Err fault) = Err fault

-- an answer that is the first so many of all that there are, or that memory was refused for them
abbrev pub IsLimitedTo : ℕ → Result (List Entry) EntriesFault → Result (List Entry) EntriesFault → Type 0
IsLimitedTo n (Ok es) (Ok fs) = fs ≡ take n es
IsLimitedTo n (Ok es) (Err fault) = fault ≡ Memory
IsLimitedTo n (Err named) answer = answer ≡ Err named

-- A sink that is to take so many of these entries took that many, or stopped at one of those with a fault of its own.
abbrev pub StopsWithin : {F : Type 0} → (List Entry → Type 0) → (List Entry → F → Type 0) → ℕ → List Entry → SinkStop F → Type 0
StopsWithin told stops n es Enough = (n ≤ length es) × told (take n es)
StopsWithin told stops n es (Fault fault) = stops (take n es) fault

-- what was told of entries, where it is no fault that a sink has enough
abbrev pub unless_enough : {E F : Type 0} → Result (Result (Unit {0}) (SinkStop F)) E → Result (Result (Unit {0}) F) E
unless_enough (Ok (Ok done)) = Ok (Ok done)
unless_enough (Ok (Err Enough)) = Ok (Ok tt)
unless_enough (Ok (Err (Fault fault))) = Ok (Err fault)
unless_enough (Err fault) = Err fault

pub counted_none : (n : ℕ) → n + length {A = Entry} [] ≡ n
counted_none n = omega arith

pub counted_on : (a b c : ℕ) (es fs : List Entry) → b + length es ≡ a → c + length fs ≡ b → c + length (es ++ fs) ≡ a
counted_on a b c es fs one two = omega (arith, length-append es fs, one, two)

taken_behind : (m n : ℕ) (es fs : List Entry) → n + length es ≡ m → take m (es ++ fs) ≡ es ++ take n fs
taken_behind m n es fs count = ap (λ k. take k (es ++ fs)) (omega (arith, count)) ∙ take-append-add es fs n

taken_more : (m : ℕ) (es fs : List Entry) → (gs : List Entry) × (take m (es ++ fs) ≡ take m es ++ gs)
taken_more zero es fs = ([], refl)
taken_more (suc m) [] fs = (take (suc m) fs, refl)
taken_more (suc m) (e ∷ es) fs = let rest = taken_more m es fs in (rest.0, ap (λ xs. e ∷ xs) rest.1)

module _ {S F : Type 0} (told : S → List Entry → S → Type 0) (stops : S → List Entry → F → S → Type 0) where
  -- what was taken before comes before
  pub within_on : ((a b c : S) (es fs : List Entry) → told a es b → told b fs c → told a (es ++ fs) c) → ((a b c : S) (es fs : List Entry) (fault : F) → told a es b → stops b fs fault c → stops a (es ++ fs) fault c)
      → (a b c : S) (m n : ℕ) (es fs : List Entry) (stop : SinkStop F) → told a es b → n + length es ≡ m → StopsWithin (λ xs. told b xs c) (λ xs fault. stops b xs fault c) n fs stop → StopsWithin (λ xs. told a xs c) (λ xs fault. stops a xs fault c) m (es ++ fs) stop
  within_on told_on stops_on a b c m n es fs Enough one count two = (
    let more = length-append es fs in omega (arith, more, count, two.0),
    subst (λ xs. told a xs c) (sym (taken_behind m n es fs count)) (told_on a b c es (take n fs) one two.1),
  )
  within_on told_on stops_on a b c m n es fs (Fault fault) one count two = subst (λ xs. stops a xs fault c) (sym (taken_behind m n es fs count)) (stops_on a b c es (take n fs) fault one two)

  -- what would have come behind isn't looked at
  pub within_before : ((a b : S) (es fs : List Entry) (fault : F) → stops a es fault b → stops a (es ++ fs) fault b)
      → (a b : S) (m : ℕ) (es fs : List Entry) (stop : SinkStop F) → StopsWithin (λ xs. told a xs b) (λ xs fault. stops a xs fault b) m es stop → StopsWithin (λ xs. told a xs b) (λ xs fault. stops a xs fault b) m (es ++ fs) stop
  within_before stops_before a b m es fs Enough one = (
    let more = length-append es fs in omega (arith, more, one.0),
    subst (λ xs. told a xs b) (sym (take-append-le m es fs one.0)) one.1,
  )
  within_before stops_before a b m es fs (Fault fault) one =
      let more = taken_more m es fs in subst (λ xs. stops a xs fault b) (sym more.1) (stops_before a b (take m es) more.0 fault one)
