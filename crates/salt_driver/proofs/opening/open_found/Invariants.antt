use Rattle.salt_driver.proofs.opening.open_found.Given as goal

abbrev pub ghosts-finish_opening : goal.ghosts-finish_opening
ghosts-finish_opening g a = record { name = a.blank.name; parts = a.blank.parts }
