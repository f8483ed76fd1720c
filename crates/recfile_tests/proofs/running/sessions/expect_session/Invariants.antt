use Rattle.recfile_tests.proofs.running.sessions.expect_session.Given as goal

abbrev pub ghosts-memory_counted : goal.ghosts-memory_counted
ghosts-memory_counted g a = record { name = a.blank.name; parts = a.blank.parts }
