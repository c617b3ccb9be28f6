use Rattle.overlay_pages.proofs.moving.settle.Given as goal

abbrev pub ghosts-settle_counted : goal.ghosts-settle_counted
ghosts-settle_counted a = record { name = a.blank.name; parts = a.blank.parts }
