-- A search in a part is a search among all the primes of its range.
use Rattle.primality.specs.Listed.{sifted_of_found}
use Rattle.primality.proofs.table.Part.divides.Goals as goal

pub returns : goal.returns
returns g c =
    let part = c.requires.part in
    sifted_of_found _ _ _ _ _ _ part.covered part.odd part.three c.requires.beyond part.table c.divisor_among.ensures
