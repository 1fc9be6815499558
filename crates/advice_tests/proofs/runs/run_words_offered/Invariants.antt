use Rattle.advice_tests.proofs.runs.run_words_offered.Given as goal

abbrev pub ghosts-run_offered : goal.ghosts-run_offered
ghosts-run_offered a = record { name = a.blank.name; parts = a.blank.parts }
