use Rattle.base_tests.proofs.session_tests.counted_work_site.Given as goal

abbrev pub ghosts-is_work_site_kept : goal.ghosts-is_work_site_kept
ghosts-is_work_site_kept a = record { name = a.blank.name; parts = a.blank.parts }
