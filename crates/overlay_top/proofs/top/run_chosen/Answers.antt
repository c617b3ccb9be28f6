use Rattle.overlay_top.proofs.top.run_chosen.Goals as goal

pub returns-in-None-clause-ends : goal.returns-in-None-clause-ends
returns-in-None-clause-ends g c = rw (c.in-None.is) (λ told. c.run_script.ensures.ends told.0 told.1)
