use Rattle.base_tests.proofs.small_rules.joined_rules.Given as goal

abbrev pub ghosts-joined_with : goal.ghosts-joined_with
ghosts-joined_with a = record { name = a.blank.name; parts = a.blank.parts }
