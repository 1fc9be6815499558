use Rattle.base_tests.proofs.rule_change_tests.can_advance.Given as goal

abbrev pub ghosts-can_advance_with : goal.ghosts-can_advance_with
ghosts-can_advance_with a = record { name = a.blank.name; parts = a.blank.parts }
