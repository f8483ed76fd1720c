use Rattle.std.proofs.Common.{◌≡◌, ◌<◌, ℕ, List, drop, slice_index_or, ◌++◌}
use Rattle.rec_types.specs.Padded.{AreBytes}
use Rattle.rec_types.specs.Tags.{tags_from}
use Rattle.rec_types.proofs.key_order.tags_of.Given as goal

-- the tags so far, and those of the keys that are left
abbrev pub invariant-loop-place : goal.invariant-loop-place
invariant-loop-place l = (l.tags.items ++ tags_from l.place (drop l.place l.keys) ≡ tags_from 0 l.keys) × ((k : ℕ) (d : List ℕ) → k < l.place → AreBytes (slice_index_or l.keys k d))
