use Rattle.store_calls.proofs.tests.releases.releases_of_a_run_copy_as_many_lines_as_a_model_has_it.Given as goal

abbrev pub ghosts-count_run : goal.ghosts-count_run
ghosts-count_run g a = record { name = a.blank.name; parts = a.blank.parts }
