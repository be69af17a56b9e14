-- What a signature and its ground terms say together.
use Rattle.fol_sig.specs.Symbols.{Symbols, symbols}
use Rattle.ground_terms.specs.declared.terms.Herbrand.{Herbrand}
use Rattle.ground_terms.specs.Numberings.{Numbering, numbering}

-- the symbols of its signature
abbrev pub symbols_in : Herbrand → Symbols
symbols_in universe = symbols universe.signature.now

-- what its lists of terms say of places
abbrev pub names_in : Herbrand → Numbering
names_in universe = numbering (symbols_in universe) universe.terms.now
