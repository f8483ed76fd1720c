-- Where a dump can be loaded.
use Rattle.std.specs.Prelude.{ℕ, ◌*◌, ◌≤◌, ◌<◌, Bool, true, false, is_some}
use Rattle.rec_types.specs.LimitBounds.{Bounds}
use Rattle.command_text.specs.declared.reply.Reply.{Reply}
use Rattle.command_text.specs.declared.reply.Reply.TheVariants as reply
use Rattle.record_file.specs.Refusals.{begin_refusal, put_refusal, cause_by}

-- Limits that leave room to put so many records: each has a record of the log, and room for one that takes it back.
pub record HasRoomFor (count : ℕ) (limits : Bounds) : Type 0 where
  pub records : count ≤ limits.records
  pub log : 2 * count ≤ limits.log_records
  pub begins : 0 < limits.begins

-- a begin, a put or a commit that the device, a damaged page or memory kept from being done: `no Device`, `no Damaged`, `no Memory`
abbrev pub was_kept : Reply → Bool
was_kept (reply.Begin answer) = is_some (cause_by begin_refusal answer)
was_kept (reply.Put answer) = is_some (cause_by put_refusal answer)
was_kept (reply.Unkept fault) = true
was_kept answer = false
