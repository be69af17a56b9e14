use Rattle.rml_sorts.proofs.Standing.{places_stand_in_text}
use Rattle.rml_sorts.proofs.laws.place_law.Goals as goal

pub returns : goal.returns
returns c = places_stand_in_text
