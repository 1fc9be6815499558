use Rattle.plan_tests.proofs.routes.rules.Given as goal

abbrev pub ghosts-rules_with : goal.ghosts-rules_with
ghosts-rules_with a = record { name = a.blank.name; parts = a.blank.parts }
