use Rattle.recfile_tests.proofs.files_in_memory.answer_to.Given as goal

abbrev pub ghosts-words_counted : goal.ghosts-words_counted
ghosts-words_counted g a = record { name = a.blank.name; parts = a.blank.parts }
