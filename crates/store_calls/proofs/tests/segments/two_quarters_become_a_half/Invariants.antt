use Rattle.store_calls.proofs.tests.segments.two_quarters_become_a_half.Given as goal

abbrev pub ghosts-count_quarters : goal.ghosts-count_quarters
ghosts-count_quarters g a = record { name = a.blank.name; parts = a.blank.parts }
