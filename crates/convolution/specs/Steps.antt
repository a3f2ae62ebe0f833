-- What the steps of a product do to the sums, number by number. Each is a function of what the step is given, so that it settles every sum.
--   folded μ v               v with its digits from 2^40 on multiplied by 2^40 modulo p
--   with_three μ x y z l k v           v, folded, with the coefficient at power k of (x + y·X + z·X²) times the polynomial of l added
--   with_turns, with_triple μ at top e l s     the sums with three terms of the polynomial of e times that of l added, power by power
--   with_triples, with_product μ n top e l s   the sums with all terms added, three at a time
--   length_turns, length_triple, length_triples    how many sums there are stays as it is
use Rattle.std.specs.Prelude.{◌≡◌, refl, List, ℕ, zero, suc, ◌+◌, ◌*◌, ◌/◌, ◌%◌, length, get_or, set}
use Rattle.std.proofs.Common.{◌∙◌, length-set}
use Rattle.field.specs.declared.Modulus.{Modulus}
use Rattle.field.specs.Modulus.{cut}

unfoldable pub folded : Modulus → ℕ → ℕ
folded μ v = v / cut * μ.fold + v % cut

unfoldable pub with_three : Modulus → (x y z : ℕ) → List ℕ → (k v : ℕ) → ℕ
with_three μ x y z l k v = folded μ v + x * get_or l (k + 2) 0 + y * get_or l (k + 1) 0 + z * get_or l k 0

-- The powers below n have been added, from the power `at` of the sums on.
unfoldable pub with_turns : Modulus → (at x y z : ℕ) → List ℕ → (n : ℕ) → List ℕ → List ℕ
with_turns μ at x y z l zero s = s
with_turns μ at x y z l (suc k) s =
    set (with_turns μ at x y z l k s) (at + k) (with_three μ x y z l k (get_or (with_turns μ at x y z l k s) (at + k) 0))

-- The terms are those at the powers at, at + 1 and at + 2, and the polynomial of l has no power above top.
unfoldable pub with_triple : Modulus → (at top : ℕ) → (e l s : List ℕ) → List ℕ
with_triple μ at top e l s = with_turns μ at (get_or e (at + 2) 0) (get_or e (at + 3) 0) (get_or e (at + 4) 0) l (top + 3) s

-- The terms below 3·j have been added.
unfoldable pub with_triples : Modulus → (top : ℕ) → (e l : List ℕ) → (j : ℕ) → List ℕ → List ℕ
with_triples μ top e l zero s = s
with_triples μ top e l (suc j) s = with_triple μ (3 * j) top e l (with_triples μ top e l j s)

-- The polynomial of e has n coefficients.
unfoldable pub with_product : Modulus → (n top : ℕ) → (e l s : List ℕ) → List ℕ
with_product μ n top e l s = with_triples μ top e l ((n + 2) / 3) s

pub length_turns : (μ : Modulus) (at x y z : ℕ) (l : List ℕ) (n : ℕ) (s : List ℕ) → length (with_turns μ at x y z l n s) ≡ length s
unfolding with_turns
length_turns μ at x y z l zero s = refl
length_turns μ at x y z l (suc k) s = length-set (with_turns μ at x y z l k s) (at + k) _ ∙ length_turns μ at x y z l k s

pub length_triple : (μ : Modulus) (at top : ℕ) (e l s : List ℕ) → length (with_triple μ at top e l s) ≡ length s
unfolding with_triple
length_triple μ at top e l s = length_turns μ at (get_or e (at + 2) 0) (get_or e (at + 3) 0) (get_or e (at + 4) 0) l (top + 3) s

pub length_triples : (μ : Modulus) (top : ℕ) (e l : List ℕ) (j : ℕ) (s : List ℕ) → length (with_triples μ top e l j s) ≡ length s
unfolding with_triples
length_triples μ top e l zero s = refl
length_triples μ top e l (suc j) s = length_triple μ (3 * j) top e l (with_triples μ top e l j s) ∙ length_triples μ top e l j s
