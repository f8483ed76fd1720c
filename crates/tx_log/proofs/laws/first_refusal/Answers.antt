use Rattle.std.proofs.Common.{◌≡◌, ℕ, ◌+◌, nat_lt, Option, Some, None, option_map, is_some, true, [], ◌∙◌}
use Rattle.std.specs.Cmp.{nat_cmp_total}
use Rattle.std.specs.FinMap.{get, get-insert, get-empty}
use Rattle.rec_types.specs.History.{log_use}
use Rattle.tx_log.specs.Examples.{byte, with_a_written}
use Rattle.tx_log.specs.LogRefusals.{holder_refusal, phase_refusal, room_refusal}
use Rattle.tx_log.specs.LogState.{history_in, phase_of, rolling_to}
use Rattle.tx_log.specs.Owners.{holder_of}
use Rattle.tx_log.specs.Transactions.{Transactions, Tx, fresh}
use Rattle.tx_log.specs.declared.refusal.ChangeRefusal.{ChangeRefusal}
use Rattle.tx_log.specs.declared.refusal.LookRefusal.{LookRefusal}
use Rattle.tx_log.proofs.laws.first_refusal.Goals as goal

abbrev txs : Transactions
txs = (with_a_written 3).txs

first_is : get txs 1 ≡ Some fresh
first_is = get-insert nat_cmp_total _ 3 fresh 1 ∙ get-insert nat_cmp_total _ 2 (rolling_to [] 0 true) 1 ∙ get-insert nat_cmp_total _ 1 fresh 1

second_is : get txs 2 ≡ Some (rolling_to [] 0 true)
second_is = get-insert nat_cmp_total _ 3 fresh 2 ∙ get-insert nat_cmp_total _ 2 (rolling_to [] 0 true) 2

third_is : get txs 3 ≡ Some fresh
third_is = get-insert nat_cmp_total _ 3 fresh 3

fourth_is : get txs 4 ≡ None
fourth_is = get-insert nat_cmp_total _ 3 fresh 4 ∙ get-insert nat_cmp_total _ 2 (rolling_to [] 0 true) 4 ∙ get-insert nat_cmp_total _ 1 fresh 4 ∙ get-empty _ 4

-- what a look is refused for, by what the first transaction and the one that looks are
abbrev looks : ℕ → Option Tx → Option Tx → Option LookRefusal
looks t first tx = phase_refusal (holder_refusal (holder_of (λ _. is_some first) (history_in (with_a_written 3)) t (byte 97))) (option_map phase_of tx)

abbrev changes : ℕ → ℕ → Option Tx → Option Tx → Option ChangeRefusal
changes n t first tx = room_refusal (nat_lt n (log_use (λ _. is_some first) (history_in (with_a_written 3)) + 2)) (looks t first tx)

pub returns-clause-no_such_tx : goal.returns-clause-no_such_tx
returns-clause-no_such_tx c = λ i. changes 3 4 (first_is i) (fourth_is i)

pub returns-clause-rolling : goal.returns-clause-rolling
returns-clause-rolling c = λ i. changes 3 2 (first_is i) (second_is i)

pub returns-clause-held : goal.returns-clause-held
returns-clause-held c = λ i. changes 3 3 (first_is i) (third_is i)

pub returns-clause-full : goal.returns-clause-full
returns-clause-full c = λ i. changes 3 1 (first_is i) (first_is i)

pub returns-clause-look : goal.returns-clause-look
returns-clause-look c = λ i. looks 1 (first_is i) (first_is i)

pub returns-clause-room : goal.returns-clause-room
returns-clause-room c = λ i. changes 4 1 (first_is i) (first_is i)
