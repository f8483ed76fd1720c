-- Which replies are refusals, and how their texts begin.
use Rattle.std.specs.Prelude.{ℕ, Bool, true, false, ◌||◌, ◌==◌, List, [], ◌∷◌}
use Rattle.std.specs.Result.{is_err}
use Rattle.command_text.specs.declared.reply.Reply.{Reply}
use Rattle.command_text.specs.declared.reply.Reply.TheVariants as reply

-- whether a reply says that a call was refused or stopped, or that a line can't be read
abbrev pub is_refusal : Reply → Bool
is_refusal (reply.Begin answer) = is_err answer
is_refusal (reply.Put answer) = is_err answer
is_refusal (reply.Claim answer) = is_err answer
is_refusal (reply.Del answer) = is_err answer
is_refusal (reply.Get answer) = is_err answer
is_refusal (reply.Save answer) = is_err answer
is_refusal (reply.Release answer) = is_err answer
is_refusal (reply.Back answer) = is_err answer
is_refusal (reply.Resume answer) = is_err answer
is_refusal (reply.Abort answer) = is_err answer
is_refusal (reply.Commit answer) = is_err answer
is_refusal (reply.List answer) = is_err answer
is_refusal (reply.Committed answer) = is_err answer
is_refusal (reply.Keys answer) = is_err answer
is_refusal (reply.Log len used) = false
is_refusal (reply.Unkept fault) = true
is_refusal (reply.Bad fault) = true

-- whether a text begins as `no`, `bad` and `stopped` do, and not as `ok` and the `-` of a list
abbrev pub begins_refused : List ℕ → Bool
begins_refused [] = false
begins_refused (b ∷ bs) = b == 110 || b == 98 || b == 115
