use Rattle.base_tests.proofs.step_energy_tests.row.Given as goal

abbrev pub ghosts-row_with : goal.ghosts-row_with
ghosts-row_with a = record { name = a.blank.name; parts = a.blank.parts }
