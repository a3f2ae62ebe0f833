-- What the code finds, and what the tests over the arrays say of the claim that they stand for: one law for each code.
--   found                    what a test of the code found, in the words of the rules
--   fault_place, fault_within, fault_found    the place that a search found
--   found-…                  the verdict of a code, where its test over the arrays says so, applies to the claim
--   Tried                    no code before this one applies
use Rattle.std.specs.Prelude.{◌≡◌, Bool, true, false, not, ℕ, suc, ◌+◌, ◌-◌, ◌≤◌, ◌<◌, ℤ}
use Rattle.std.proofs.Math.Path.{sym, ap}
use Rattle.std.proofs.Common.{◌∙◌, arith}
use Rattle.std.specs.Prelude.{Option, None, Some, IfSome, MatchOption, Result, Ok, Err}
use Rattle.algebra.specs.Residue.{K}
use Rattle.algebra.proofs.Series.{Series}
use Rattle.algebra.specs.Det.{det}
use Rattle.algebra.specs.Dependence.{Dependent}
use Rattle.algebra.specs.OrderBasis.{Monomial}
use Rattle.rules.specs.Claim.{Claim}
use Rattle.rules.specs.Conditions.{degree_sum_of, first_place}
use Rattle.rules.specs.Verdict.{Verdict, not_reduced, not_monomial, below_order, at_order, low_rank, pass_with, judge_claim}
use Rattle.laws.specs.SearchLaws.{first_place_some}
use Rattle.verdict.specs.Meant.{meant}
use Rattle.verdict.specs.declared.Fault.{Fault}
use Rattle.field.specs.declared.Modulus.{Modulus}
use Rattle.field.specs.Modulus.{modulus_of}
use Rattle.layout.specs.Flat.{length_at, shift_at, cells}
use Rattle.layout.specs.Settles.{Settles}
use Rattle.claim.specs.declared.Problem.{Problem}
use Rattle.claim.specs.declared.Answer.{Answer}
use Rattle.claim.specs.Claims.{claim_in}
use Rattle.claim.specs.Sound.{SoundClaim}
use Rattle.degrees.specs.Claims.{degree_sum_rules}
use Rattle.product.specs.Claims.{first_low_place, first_order_place}
use Rattle.product.specs.Faults.{flat_low_fault, flat_order_fault}
use Rattle.conditions.specs.Applies.{applies, fault_if, fault_at, first_applying, judged_in_order, applying_first, applying_later}
use Rattle.conditions.specs.Steps.{leading_grid, rank_grid, reduced_of, monomial_of, rank_of}

-- What a test of the code found, in the words of the rules.
abbrev pub found : Result (Unit {0}) Fault → Option Verdict
found (Ok u) = None
found (Err fault) = Some (meant (Err fault))

-- The place that a search found is a row and a column, and the fault that is found there is the one of that place.
module _ (m n : ℕ) (faults : ℕ → ℕ → Bool) where
  pub fault_place : (place : Option (ℕ × ℕ)) → place ≡ first_place m n faults → IfSome place (λ at. (at.0 < m) × (at.1 < n))
  fault_place None e = tt
  fault_place (Some (i, j)) e = let f = (first_place_some m n faults i j).0 (sym e) in (f.row, f.column)

  pub fault_within : (bound : ℕ) → m ≤ bound → n ≤ bound → (place : Option (ℕ × ℕ)) → place ≡ first_place m n faults
      → IfSome place (λ at. (at.0 < bound) × (at.1 < bound))
  fault_within bound hm hn None e = tt
  fault_within bound hm hn (Some (i, j)) e = let f = fault_place (Some (i, j)) e in (omega (arith, f.0), omega (arith, f.1))

  pub fault_found : (v : ℕ → ℕ → Verdict) (place : Option (ℕ × ℕ)) → place ≡ first_place m n faults → (r : Result (Unit {0}) Fault)
      → MatchOption place (r ≡ Ok tt) (λ at. (fault : Fault) × (r ≡ Err fault) × (meant (Err fault) ≡ v at.0 at.1))
      → found r ≡ fault_at v (first_place m n faults)
  fault_found v None e r h = ap found h ∙ ap (fault_at v) e
  fault_found v (Some at) e r (fault, is, means) = ap found is ∙ ap Some means ∙ ap (fault_at v) e

turned : (b r : Bool) → b ≡ not r → r ≡ not b
turned b true e = sym (ap not e)
turned b false e = sym (ap not e)

-- Where no code applies the degree sum decides.
pub all_found : (b : Problem) (a : Answer) (sum : Option ℤ) → sum ≡ degree_sum_of b.head.m (length_at a.basis.lengths) (shift_at b.head.shifts)
    → pass_with sum ≡ first_applying 0 14 (claim_in b a)
unfolding first_applying
all_found b a sum es = ap pass_with (es ∙ degree_sum_rules b.head b.f a.basis.lengths a.basis.entries)

module _ (b : Problem) (a : Answer) (sound : SoundClaim b a) where
  pub found_not_reduced : (r : Bool)
      → Settles (det (K b.head.p) b.head.m (leading_grid b.head a.basis.lengths a.basis.entries) ≡ (K b.head.p).𝟘) r
      → fault_if r not_reduced ≡ applies 9 (claim_in b a)
  unfolding applies
  found_not_reduced r s =
      ap (λ t. fault_if t not_reduced)
      (turned _ r (reduced_of b.head b.f a.basis.lengths a.basis.entries sound.sound_head sound.sound_basis r s))

  pub found_not_monomial : (r : Bool) {μ : Modulus} → μ ≡ modulus_of b.head.p
      → Settles (Monomial (K μ.p) (det (Series (K μ.p)) b.head.m (cells μ.p a.basis.entries))) r
      → fault_if (not r) not_monomial ≡ applies 10 (claim_in b a)
  unfolding applies
  found_not_monomial r e s =
      sym (ap (λ t. fault_if (not t) not_monomial)
      (monomial_of b.head b.f a.basis.lengths a.basis.entries sound.sound_head sound.sound_basis r e s))

  pub found_below : fault_at below_order (first_place b.head.m b.head.n (flat_low_fault b.head b.f a.basis.entries)) ≡ applies 11 (claim_in b a)
  unfolding applies
  found_below =
      ap (fault_at below_order) (first_low_place b.head b.f a.basis.lengths a.basis.entries sound.sound_head sound.sound_columns sound.sound_basis)

  pub found_at : fault_at at_order (first_place b.head.m b.head.n (flat_order_fault b.head b.f a.basis.entries a.c)) ≡ applies 12 (claim_in b a)
  unfolding applies
  found_at =
      ap (fault_at at_order)
      (first_order_place b.head b.f a.basis.lengths a.basis.entries sound.sound_head sound.sound_columns sound.sound_basis a.c)

  pub found_low_rank : (r : Bool)
      → Settles (Dependent (K b.head.p) b.head.m (b.head.m + b.head.n) (rank_grid b.head a.basis.entries a.c)) r
      → fault_if r low_rank ≡ applies 13 (claim_in b a)
  unfolding applies
  found_low_rank r s =
      sym (ap (λ t. fault_if t low_rank) (rank_of b.head b.f a.basis.lengths a.basis.entries sound.sound_head sound.sound_basis a.c r s))

module _ (c : Claim) where
  -- The codes from 9 up to this one are tried, and none before it applies.
  pub record Tried (code : ℕ) : Type 0 where
    pub most : code ≤ 14
    pub so_far : judge_claim c ≡ first_applying (14 - code) code c

  pub none_tried : Tried 9
  none_tried = record { most = omega arith; so_far = judged_in_order c }

  pub tried_fault : (code : ℕ) (v : Verdict) → code ≤ 13 → Tried code → Some v ≡ applies code c → v ≡ judge_claim c
  tried_fault code v h t g =
      let one : 14 - code ≡ suc (13 - code) = omega arith in
      sym (t.so_far ∙ ap (λ k. first_applying k code c) one ∙ applying_first c (13 - code) code v (sym g))

  pub tried_one : (code : ℕ) → code ≤ 13 → Tried code → None ≡ applies code c → Tried (code + 1)
  tried_one code h t g =
      let one : 14 - code ≡ suc (13 - code) = omega arith in
      let next : 13 - code ≡ 14 - (code + 1) = omega arith in
      record {
        most = omega arith;
        so_far = t.so_far ∙ ap (λ k. first_applying k code c) one ∙ applying_later c (13 - code) code (sym g) ∙ ap (λ k. first_applying k (code + 1) c) next;
      }

  pub all_tried : (code : ℕ) (v : Verdict) → 13 < code → Tried code → v ≡ first_applying 0 14 c → v ≡ judge_claim c
  all_tried code v h t e =
      let last : code ≡ 14 = omega (arith, t.most) in
      e ∙ sym (t.so_far ∙ ap (λ k. first_applying (14 - k) k c) last)
