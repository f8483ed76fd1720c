-- What a sink that takes so many entries was told is the front of a list.
use Rattle.std.proofs.Common.{◌≡◌, ℕ, ◌+◌, List, length, take, Result, Ok, Err, sym, subst, arith}
use Rattle.std.proofs.lemmas.List.{take_all}
use Rattle.rec_types.specs.declared.transaction.Entry.{Entry}
use Rattle.record_file.specs.AtMost.{StopsWithin, limited_to, unless_enough}
use Rattle.record_file.specs.OwnedRecords.{GoesTo}
use Rattle.record_file.specs.declared.at_most.SinkStop.{SinkStop}
use Rattle.record_file.specs.declared.at_most.SinkStop.TheVariants.{Enough, Fault}
use Rattle.record_file.specs.declared.fault.EntriesFault.{EntriesFault}

-- it took the front, or stopped in it; or there is no list
pub front_goes : {F : Type 0} (told : List Entry → Type 0) (stops : List Entry → F → Type 0) (n left : ℕ) (answer : Result (List Entry) EntriesFault) (taken : Result (Result (Unit {0}) (SinkStop F)) EntriesFault)
    → GoesTo (λ es. told es × (left + length es ≡ n)) (λ es stop. StopsWithin told stops n es stop) answer taken → GoesTo told stops (limited_to n answer) (unless_enough taken)
front_goes told stops n left (Ok es) (Ok (Ok done)) goes = subst told (sym (take_all n es (omega (arith, goes.1)))) goes.0
front_goes told stops n left (Ok es) (Ok (Err Enough)) goes = goes.1
front_goes told stops n left (Ok es) (Ok (Err (Fault fault))) goes = goes
front_goes told stops n left (Err named) (Err fault) goes = (goes.0, (goes.1.0, goes.1.1.0))
front_goes told stops n left (Ok es) (Err fault) goes = absurd goes
front_goes told stops n left (Err named) (Ok taken) goes = absurd goes
