use Rattle.recfile_tests.proofs.running.expect_shell.Given as goal

abbrev pub ghosts-feed_counted : goal.ghosts-feed_counted
ghosts-feed_counted g a = record { name = a.blank.name; parts = a.blank.parts }
