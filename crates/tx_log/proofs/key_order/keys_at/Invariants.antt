use Rattle.std.proofs.Common.{◌≡◌, map, take}
use Rattle.rec_types.specs.KeyOrder.{key_at}
use Rattle.tx_log.proofs.key_order.keys_at.Given as goal

-- the keys so far
abbrev pub invariant-loop-place : goal.invariant-loop-place
invariant-loop-place l = l.told.items ≡ map (key_at l.keys) (take l.place-index l.places)
