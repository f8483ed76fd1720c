use Rattle.std.proofs.Common.{◌≡◌, ◌≤◌, ℕ, arith}
use Rattle.recfile.proofs.RoomLemmas.{dump_accepted}
use Rattle.recfile.proofs.laws.dumps_have_room.Goals as goal

fewer : (n : ℕ) → n ≡ 1 → 2 ≤ n → ⊥
fewer n is two = absurd (omega (arith, is, two))

pub returns-clause-accepted : goal.returns-clause-accepted
returns-clause-accepted c = dump_accepted

pub returns-clause-fewer : goal.returns-clause-fewer
returns-clause-fewer c = λ limits is room. fewer limits.records is room.records
