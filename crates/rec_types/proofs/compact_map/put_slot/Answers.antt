use Rattle.std.proofs.Common.{ap, ◌∙◌}
use Rattle.std.specs.Map.{keys_of}
use Rattle.indexmap.proofs.CallerLemmas.{insert_entry-new, keys-insert_entry-present}
use Rattle.rec_types.specs.Slots.{Slots}
use Rattle.rec_types.specs.Sorted.{same_bytes}
use Rattle.rec_types.proofs.SlotLemmas.{keys_push}
use Rattle.rec_types.proofs.compact_map.put_slot.Goals as goal

pub returns-clause-last : goal.returns-clause-last
returns-clause-last c = λ none.
    ap (λ (es : Slots). keys_of es) (c.in_ok-before.ensures.entries ∙ insert_entry-new same_bytes c.args.slots.now c.args.key c.args.slot none)
    ∙ keys_push c.args.slots.now.entries c.args.key c.args.slot

pub returns-clause-keys : goal.returns-clause-keys
returns-clause-keys c = λ some. ap (λ (es : Slots). keys_of es) c.in_ok-before.ensures.entries ∙ keys-insert_entry-present same_bytes c.args.slots.now c.args.key c.args.slot some
