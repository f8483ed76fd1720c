use Rattle.std.proofs.Common.{sym, ap, ◌∙◌}
use Rattle.std.specs.Map.{keys_of}
use Rattle.rec_types.specs.Sorted.{Pairs}
use Rattle.rec_types.proofs.SlotLemmas.{keys-pairs_in}
use Rattle.rec_types.proofs.compact_map.CompactMap.keys.Goals as goal

pub returns : goal.returns
returns c = c.as_slice.ensures ∙ c.keys.ensures.rest ∙ sym (keys-pairs_in c.self.inside.slots.entries c.self.inside.long.items) ∙ ap (λ (es : Pairs). keys_of es) c.self.view_is
