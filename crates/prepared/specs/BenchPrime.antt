-- The prime of the bench jobs is one: by computation.
use Rattle.std.specs.Prelude.{refl}
use Rattle.algebra.specs.Prime.{Prime}
use Rattle.rules.specs.Files.{is_prime, no_divisor}
use Rattle.laws.specs.FieldTests.{is_prime_iff}

pub bench_prime : Prime 251
unfolding is_prime no_divisor
bench_prime = (is_prime_iff 251).0 refl
