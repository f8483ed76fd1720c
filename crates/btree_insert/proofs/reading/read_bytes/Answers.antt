use Rattle.btree_insert.proofs.reading.read_bytes.Goals as goal

pub returns-in-Some-clause-in_use : goal.returns-in-Some-clause-in_use
returns-in-Some-clause-in_use g c = record { there = c.in-Some.ensures.in_use; some = c.in-Some.ensures.number }
