use Rattle.base_tests.proofs.session_tests.counted_way.Given as goal

abbrev pub ghosts-is_under_way : goal.ghosts-is_under_way
ghosts-is_under_way a = record { name = a.blank.name; parts = a.blank.parts }
