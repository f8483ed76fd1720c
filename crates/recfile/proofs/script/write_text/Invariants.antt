use Rattle.recfile.proofs.script.write_text.Given as goal

abbrev pub ghosts-write_alone : goal.ghosts-write_alone
ghosts-write_alone g a = record { name = a.blank.name; parts = a.blank.parts }
