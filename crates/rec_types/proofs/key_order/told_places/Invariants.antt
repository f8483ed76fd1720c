use Rattle.std.proofs.Common.{◌≡◌, map, take}
use Rattle.rec_types.specs.Tags.{place_in}
use Rattle.rec_types.proofs.key_order.told_places.Given as goal

-- the places so far
abbrev pub invariant-loop-tag : goal.invariant-loop-tag
invariant-loop-tag l = l.places.items ≡ map place_in (take l.tag-index l.tags)
