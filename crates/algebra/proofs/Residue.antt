-- The numbers modulo p.
-- The ring is there for every p: where p is 0 the modulus is 1, so that K 0 is the ring with one element.
use Prim.Native.Nat.{ℕ}
use Rattle.algebra.specs.Ring.{Cancels, cancels_of_inverts}
use Rattle.algebra.specs.Prime.{Prime}
use Rattle.algebra.specs.Residue.{K, K_inverse, K_inverts}

module _ (p : ℕ) where
  open K p use {C, 𝟘, 𝟙, ◌⊕◌, ◌⊗◌, ⊖◌, mul_one}

  infixl 60 ◌⊕◌
  infixl 70 ◌⊗◌
  infix 80 ⊖◌
  -- There are no zero divisors modulo a prime.
  pub K_cancels : Prime p → Cancels (K p)
  K_cancels prime = cancels_of_inverts (K p) (K_inverse p) ((K_inverts p) prime)
