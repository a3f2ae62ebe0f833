-- Inverses, determinants, a division by a root and how many roots there are, in numbers, each by computation.
--   residues p l             the residues modulo p of the numbers of l
use Rattle.std.specs.Prelude.{◌≡◌, refl, true, false, List, [], ◌∷◌, ℕ, ◌-◌, ◌^◌, eqb, get_or}
use Rattle.std.proofs.Math.Logic.{ite}
use Rattle.algebra.specs.Ring.{sign}
use Rattle.algebra.specs.Sum.{skip, sum}
use Rattle.algebra.specs.Residue.{Residue, red, K, K_decides, K_inverse}
use Rattle.algebra.specs.Count.{count}
use Rattle.algebra.specs.Polynomial.{poly_list}
use Rattle.algebra.specs.Evaluation.{ev, value}
use Rattle.algebra.specs.Matrix.{Matrix}
use Rattle.algebra.specs.Det.{det}

-- The residues modulo p of the numbers of a list.
abbrev pub residues : (p : ℕ) → List ℕ → List (Residue p)
residues p [] = []
residues p (a ∷ l) = red p a ∷ residues p l

-- Modulo 101 the inverse of 2 is 51.
inverse_of_two : K_inverse 101 (red 101 2) ≡ red 101 51
unfolding K_inverse
inverse_of_two = refl

-- Large numbers are as quick: modulo the prime 2 ^ 31 − 1, the inverse of 2 is 2 ^ 30 …
inverse_of_two_large : K_inverse (2 ^ 31 - 1) (red (2 ^ 31 - 1) 2) ≡ red (2 ^ 31 - 1) (2 ^ 30)
unfolding K_inverse
inverse_of_two_large = refl

-- … and it is told that 2 ^ 31 − 1 is 0.
large_decided : ite (K_decides (2 ^ 31 - 1) (red (2 ^ 31 - 1) (2 ^ 31 - 1))) true false ≡ true
unfolding K_decides
large_decided = refl

-- The rows (2, 3, 5), (7, 11, 13) and (17, 19, 23).
primes : Matrix (K 101)
primes i j = get_or (get_or (residues 101 (2 ∷ 3 ∷ 5 ∷ []) ∷ residues 101 (7 ∷ 11 ∷ 13 ∷ []) ∷ residues 101 (17 ∷ 19 ∷ 23 ∷ []) ∷ []) i []) j (red 101 0)

-- Their determinant is −78, which is 23 modulo 101.
det_of_primes : det (K 101) 3 primes ≡ red 101 23
unfolding det sum sign skip red primes
det_of_primes = refl

-- How many of the p numbers modulo p are roots of X² − 1.
square_roots_of_one : ℕ → ℕ
square_roots_of_one p = count p (λ x. eqb (value (K p) (red p x) (poly_list (K p) (residues p ((p - 1) ∷ 0 ∷ 1 ∷ [])))).0 0)

-- Modulo the prime 7 they are two, as many as the degree allows …
two_roots : square_roots_of_one 7 ≡ 2
unfolding ev red count square_roots_of_one
two_roots = refl

-- … and modulo 8 there are four: the bound is one for primes.
four_roots : square_roots_of_one 8 ≡ 4
unfolding ev red count square_roots_of_one
four_roots = refl
