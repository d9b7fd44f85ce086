-- The units are three words.
use Rattle.std.proofs.Common.{◌∙◌, arith, refl}
use Rattle.std.proofs.lemmas.List.{map-id}
use Rattle.byte_units.specs.ByteUnits.{unit_words}
use Rattle.byte_units.proofs.write_units.Goals as goal

pub returns-in-None : goal.returns-in-None
unfolding unit_words
returns-in-None c = c.write_values.ensures.all (omega (arith, c.requires)) ∙ rw (map-id, c.in-None.is) refl

pub returns-in-Some : goal.returns-in-Some
unfolding unit_words
returns-in-Some c = c.write_values-in-Some.ensures.all (omega (arith, c.requires)) ∙ rw (map-id, c.to_word.ensures, c.to_word-in-Some.ensures, c.in-Some.is) refl
