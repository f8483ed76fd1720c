use Rattle.std.proofs.Common.{is_some, ap, ◌∙◌}
use Rattle.std.specs.Map.{lookup}
use Rattle.rec_types.specs.Sorted.{Pairs, same_bytes}
use Rattle.rec_types.proofs.SlotLemmas.{found-pairs_in}
use Rattle.rec_types.proofs.compact_map.CompactMap.contains_key.Goals as goal

pub returns : goal.returns
returns c = c.contains_key.ensures ∙ found-pairs_in c.self.inside.slots.entries c.self.inside.long.items c.args.key.now ∙ ap (λ (es : Pairs). is_some (lookup (same_bytes c.args.key.now) es)) c.self.view_is
