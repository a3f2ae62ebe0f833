-- The four numbers of an answer are within a byte, a byte, two bytes and four bytes, so that they are one number of eight bytes.
--   Fits v                   the four numbers are within those sizes
--   numbers_fit, evidence_fit          so are those of every verdict, and of every answer of a service that makes evidence
--   packed_below, packed_injective     such numbers are one number below 2 ^ 64, and can be told from it
use Rattle.std.specs.Prelude.{◌≡◌, Bool, List, ℤ, pos, negsuc, neg_ℤ, length}
use Rattle.std.proofs.Math.Path.{refl, ap}
use Rattle.std.proofs.Common.{sym, ◌∙◌, le_refl, mod-eq_of_lt}
use Rattle.std.proofs.Math.Bool.{true, false}
use Rattle.std.specs.Prelude.{Option, None, Some}
use Rattle.std.proofs.lemmas.Option.{same_Some, none-some}
use Prim.Native.Nat.{ℕ, ◌+◌, ◌*◌, ◌%◌, ◌^◌, ◌≤◌, ◌<◌, zero-le}
use Rattle.std.proofs.Math.Nat.{mul-le-mul, add-mul-mod_self_left, eq_of_mul-eq-mul_left}
use native.Mathlib.Omega.{arith}
use Rattle.std.proofs.Math.IntN.{nat_abs}
use Rattle.algebra.specs.Integer.{Integers, nat_abs_add, nat_abs_neg}
use Rattle.algebra.specs.Sum.{sum}
use Rattle.rules.specs.Sizes.{most_rows, most_order, most_shift, most_length}
use Rattle.rules.specs.Reader.{Result, Refusal, refused, got}
use Rattle.rules.specs.Claim.{Problem, Claim}
use Rattle.rules.specs.Files.{read_claim}
use Rattle.laws.specs.Valid.{ValidProblem, ValidBasis, Valid}
use Rattle.rules.specs.Matrices.{shift, at}
use Rattle.rules.specs.Conditions.{shifted_degree_of, row_degree_of, row_degree, total, less, degree_sum_of, degree_sum, reduced, monomial_determinant}
use Rattle.rules.specs.Conditions.{rank_below, low_fault, order_fault}
use Rattle.rules.specs.Conditions.{first_place}
use Rattle.rules.specs.Verdict.{Numbers, unread, not_reduced, not_monomial, below_order, at_order, low_rank, four, refusal_numbers, numbers}
use Rattle.rules.specs.Verdict.{natural, pass_with, by_rank, by_product, judge_claim, verdict, packed}
use Rattle.rules.specs.Reply.{reply_numbers}
use Rattle.rules.specs.Evidence.{make_evidence, evidence_size}
use Rattle.laws.specs.EvidenceLaws.{evidence_cases}
use Rattle.laws.specs.BoolLaws.{cond_cases}
use Rattle.laws.specs.DegreeLaws.{shifted_is}
use Rattle.laws.specs.Magnitudes.{nat_abs_largest, nat_abs_sum, nat_abs_total}
use Rattle.laws.specs.SearchLaws.{FirstPlace, first_place_some}
use Rattle.laws.specs.Soundness.{longest_PE, longest_basis, longest_answer}
use Rattle.laws.specs.Ranges.{claim_valid, read_basis_valid}
use Rattle.laws.specs.RefusalPlaces.{Placed, claim_refused, basis_refused}

-- The sizes of the four numbers in the packed one.
pub record Fits (v : Numbers) : Type 0 where
  pub code : v.code < 256
  pub file : v.file < 256
  pub number : v.number < 65_536
  pub at : v.at < 4_294_967_296

-- Packed, they are below 2 ^ 64.
pub packed_below : (v : Numbers) → Fits v → packed v < 2 ^ 64
unfolding packed
packed_below v h = omega (arith, h)

-- A first digit to a base and what stands above it.
digits_unique : (b a a' x x' : ℕ) → a < b → a' < b → a + b * x ≡ a' + b * x' → (a ≡ a') × (x ≡ x')
digits_unique b a a' x x' h h' e = (first, eq_of_mul-eq-mul_left b (omega arith) x x' (omega (arith, first)))
  where
    first : a ≡ a'
    first = sym (mod-eq_of_lt h) ∙ sym (add-mul-mod_self_left a b x) ∙ ap (λ n. n % b) e ∙ add-mul-mod_self_left a' b x' ∙ mod-eq_of_lt h'

-- Numbers of these sizes that are packed alike are the same.
pub packed_injective : (v w : Numbers) → Fits v → Fits w → packed v ≡ packed w → v ≡ w
unfolding packed
packed_injective v w hv hw e =
    let (code, e₁) =
    digits_unique 256 v.code w.code (v.file + 256 * (v.number + 65_536 * v.at)) (w.file + 256 * (w.number + 65_536 * w.at))
    hv.code hw.code (omega arith) in
    let (file, e₂) = digits_unique 256 v.file w.file (v.number + 65_536 * v.at) (w.number + 65_536 * w.at) hv.file hw.file e₁ in
    let (number, at) = digits_unique 65_536 v.number w.number v.at w.at hv.number hw.number e₂ in
    λ i. record { code = code i; file = file i; number = number i; at = at i }

-- SIZES OF INTEGERS

natural_nat_abs : (z : ℤ) → natural z ≤ nat_abs z
natural_nat_abs (pos d) = le_refl d
natural_nat_abs (negsuc d) = zero-le

-- The degree sum of a valid claim is small.
module _ (b : Problem) (P : List (List (List ℕ))) (valid : ValidProblem b) (basis : ValidBasis b P) where
  row_degree_most : (i : ℕ) (r : ℤ) → row_degree b P i ≡ Some r → nat_abs r ≤ most_order + most_shift
  unfolding row_degree_of most_length most_order
  row_degree_most i =
      nat_abs_largest (most_order + most_shift) b.m (λ j. shifted_degree_of (length (at P i j)) (shift b j)) (λ j x hj e.
      let (d, l, is) = shifted_is (length (at P i j)) (shift b j) x e in
      omega (arith, ap nat_abs is, nat_abs_add (pos d) (shift b j), valid.shift_most j, basis.P_entry_length i j))

  degree_sum_most : (z : ℤ) → degree_sum b P ≡ Some z → natural z ≤ most_rows * (most_order + most_shift + most_shift)
  unfolding degree_sum_of most_rows
  degree_sum_most z e = by (total b.m (row_degree b P)) refl e
    where
      by : (o : Option ℤ) → total b.m (row_degree b P) ≡ o → less o (sum Integers b.m (shift b)) ≡ Some z
          → natural z ≤ most_rows * (most_order + most_shift + most_shift)
      by None t h = absurd (none-some _ h)
      by (Some r) t h = omega (
        arith,
        natural_nat_abs z,
        ap nat_abs (same_Some _ _ h),
        nat_abs_add r (neg_ℤ (sum Integers b.m (shift b))),
        nat_abs_neg (sum Integers b.m (shift b)),
        nat_abs_total (most_order + most_shift) b.m (row_degree b P) (λ i x hi. row_degree_most i x) r t,
        nat_abs_sum most_shift b.m (shift b) (λ i hi. valid.shift_most i),
        mul-le-mul valid.rows_most (le_refl (most_order + most_shift)),
        mul-le-mul valid.rows_most (le_refl most_shift),
      )

-- THE ANSWERS

module _ (c : Claim) (valid : Valid c) where
  pass_fits : (o : Option ℤ) → degree_sum c.problem c.answer.P ≡ o → Fits (numbers (pass_with o))
  unfolding numbers most_rows most_order most_shift
  pass_fits None e = record { code = omega arith; file = omega arith; number = omega arith; at = omega arith }
  pass_fits (Some z) e = record {
    code = omega arith;
    file = omega arith;
    number = omega arith;
    at = omega (arith, degree_sum_most c.problem c.answer.P valid.valid_problem valid.valid_answer.basis z e);
  }

  by_rank_fits : Fits (numbers (by_rank c))
  unfolding by_rank numbers
  by_rank_fits =
      cond_cases (rank_below c.problem c.answer.P c.answer.C) low_rank (pass_with (degree_sum c.problem c.answer.P))
      (λ v. Fits (numbers v))
      (λ t. record { code = omega arith; file = omega arith; number = omega arith; at = omega arith })
      (λ t. pass_fits (degree_sum c.problem c.answer.P) refl)

  by_product_fits : Fits (numbers (by_product c))
  unfolding by_product numbers most_rows
  by_product_fits = low (first_place c.problem.m c.problem.n (low_fault c.problem c.answer.P)) refl
    where
      place : (fault : ℕ → ℕ → Bool) (code i j : ℕ) → code < 256 → FirstPlace c.problem.m c.problem.n fault i j → Fits (four code 2 i j)
      place fault code i j hc f = record {
        code = hc;
        file = omega arith;
        number = omega (arith, f.row, valid.valid_problem.rows_most);
        at = omega (arith, f.column, valid.valid_problem.columns_most);
      }

      high : (o : Option (ℕ × ℕ)) → first_place c.problem.m c.problem.n (order_fault c.problem c.answer.P c.answer.C) ≡ o
          → Fits (numbers (elim o [ Some place ↦ at_order place.0 place.1 | None ↦ by_rank c ]))
      high None e = by_rank_fits
      high (Some p) e = place _ 12 p.0 p.1 (omega arith) ((first_place_some _ _ _ p.0 p.1).0 e)

      low : (o : Option (ℕ × ℕ)) → first_place c.problem.m c.problem.n (low_fault c.problem c.answer.P) ≡ o → Fits (numbers (elim o [
        | Some place ↦ below_order place.0 place.1
        | None ↦
            elim (first_place c.problem.m c.problem.n (order_fault c.problem c.answer.P c.answer.C))
            [ Some place ↦ at_order place.0 place.1 | None ↦ by_rank c ]
      ]))
      low None e = high (first_place c.problem.m c.problem.n (order_fault c.problem c.answer.P c.answer.C)) refl
      low (Some p) e = place _ 11 p.0 p.1 (omega arith) ((first_place_some _ _ _ p.0 p.1).0 e)

  judged_fits : Fits (numbers (judge_claim c))
  unfolding judge_claim numbers
  judged_fits = first (reduced c.problem c.answer.P) (monomial_determinant c.problem c.answer.P)
    where
      first : (a b : Bool) → Fits (numbers (elim a [ false ↦ not_reduced | true ↦ elim b [ false ↦ not_monomial | true ↦ by_product c ] ]))
      first false b = record { code = omega arith; file = omega arith; number = omega arith; at = omega arith }
      first true false = record { code = omega arith; file = omega arith; number = omega arith; at = omega arith }
      first true true = by_product_fits

unread_fits : (s t : List ℕ) (r : Refusal) → Placed s t r → Fits (refusal_numbers r)
unfolding most_rows most_length longest_PE longest_basis longest_answer
unread_fits s t r h =
    record { code = omega (arith, h.code_most); file = omega (arith, h.file); number = omega (arith, h.number); at = omega (arith, h.at_most) }

evidence_size_below : (b : Problem) → ValidProblem b → evidence_size b < 4_294_967_296
unfolding most_rows
evidence_size_below b valid = omega (arith, mul-le-mul valid.rows_most valid.columns_most)

-- The numbers of every verdict.
pub numbers_fit : (s t : List ℕ) → Fits (numbers (verdict s t))
unfolding verdict numbers
numbers_fit s t = by_result (read_claim s t) refl
  where
    by_result : (x : Result Claim) → read_claim s t ≡ x → Fits (numbers (elim x [ refused r ↦ unread r | got c q ↦ judge_claim c ]))
    by_result (refused r) e = unread_fits s t r (claim_refused s t r e)
    by_result (got c q) e = judged_fits c (claim_valid s t e)

-- The numbers of every answer of a service that makes evidence.
pub evidence_fit : (s t lent : List ℕ) → Fits (reply_numbers (make_evidence s t lent).answer)
unfolding reply_numbers
evidence_fit s t lent = evidence_cases s t lent (λ x. Fits (reply_numbers x.answer)) (λ r e. unread_fits s t r (basis_refused s t r e))
    (λ c q e h. bytes_fit 14 c.0 (omega arith) (read_basis_valid s t e).0)
    (λ c q e h. bytes_fit 0 c.0 (omega arith) (read_basis_valid s t e).0)
  where
    bytes_fit : (code : ℕ) (b : Problem) → code < 256 → ValidProblem b → Fits (four code 0 0 (evidence_size b))
    bytes_fit code b h valid = record { code = h; file = omega arith; number = omega arith; at = evidence_size_below b valid }
