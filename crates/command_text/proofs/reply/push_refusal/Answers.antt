use Rattle.std.proofs.Common.{arith}
use Rattle.std.proofs.lemmas.Grind.{common_steps, elements}
use Rattle.command_text.proofs.reply.push_refusal.Goals as goal

pub returns-in-BeginsSpent : goal.returns-in-BeginsSpent
returns-in-BeginsSpent c = grind (arith, elements)

pub returns-in-NoSuchTx : goal.returns-in-NoSuchTx
returns-in-NoSuchTx c = grind (arith, elements)

pub returns-in-NotRolling : goal.returns-in-NotRolling
returns-in-NotRolling c = grind (arith, elements)

pub returns-in-NoSuchSave : goal.returns-in-NoSuchSave
returns-in-NoSuchSave c = grind (arith, elements)

pub returns-in_ok-push_str-in-Failed : goal.returns-in_ok-push_str-in-Failed
returns-in_ok-push_str-in-Failed c = grind (arith, common_steps)

pub returns-in_ok-write-in-Stopped : goal.returns-in_ok-write-in-Stopped
returns-in_ok-write-in-Stopped c = grind (arith, common_steps)
