use Rattle.base_tests.proofs.joined_rules_tests.join_files.Given as goal

abbrev pub ghosts-join_with : goal.ghosts-join_with
ghosts-join_with a = record { name = a.blank.name; parts = a.blank.parts }
