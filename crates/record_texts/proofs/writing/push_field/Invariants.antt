use Rattle.std.proofs.Common.{◌≡◌, ◌++◌, take}
use Rattle.record_texts.specs.Forms.{field_text}
use Rattle.record_texts.proofs.writing.push_field.Given as goal

abbrev pub invariant-loop-byte : goal.invariant-loop-byte
invariant-loop-byte l = l.out.items ≡ l.fn.out.items ++ field_text l.form (take l.byte-index l.bytes)
