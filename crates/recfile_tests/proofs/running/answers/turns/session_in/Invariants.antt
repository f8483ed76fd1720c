use Rattle.recfile_tests.proofs.running.answers.turns.session_in.Given as goal

abbrev pub ghosts-session_counted : goal.ghosts-session_counted
ghosts-session_counted g a = record { name = a.blank.name; parts = a.blank.parts }
