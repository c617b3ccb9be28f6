use Rattle.store_calls.proofs.tests.segments.segments_stay_what_they_are_while_others_end.Given as goal

abbrev pub ghosts-segments_beside_a_list : goal.ghosts-segments_beside_a_list
ghosts-segments_beside_a_list g a = record { name = a.blank.name; parts = a.blank.parts }
