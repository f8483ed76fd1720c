use Rattle.std.proofs.Common.{rules}
use Rattle.btree_node.proofs.decoding.decode.Goals as goal

pub returns-clause-found : goal.returns-clause-found
returns-clause-found c = search rules

pub returns-clause-only : goal.returns-clause-only
returns-clause-only c = search rules

pub returns-in_err-decode_into-clause-only : goal.returns-in_err-decode_into-clause-only
returns-in_err-decode_into-clause-only c = search rules

pub returns-in_err-decode_into-clause-fault : goal.returns-in_err-decode_into-clause-fault
returns-in_err-decode_into-clause-fault c = search rules
