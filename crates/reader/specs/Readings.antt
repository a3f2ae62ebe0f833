-- What a reading of the code says of the file: refused, with the refusal, or read, and then the structs are sound and stand for what was read.
--   after                    the place after what was read
--   handed                   a reading, with what it left in its struct, as one result: handed_on, handed_off
--   problem_off, problem_empty         of a problem that was refused
--   problem_read, problem_head, problem_columns, problem_sound, problem_exact       of one that was read
--   answer_off, answer_read, answer_basis, answer_constants        of an answer to it
--   basis_off, basis_read, basis_sound                             of an answer without evidence
use Rattle.std.specs.Prelude.{◌≡◌, ℕ, true, false, Result as Outcome, Ok, Err}
use Rattle.std.proofs.Math.Path.{refl, ap, subst}
use Rattle.std.proofs.Common.{sym, ◌∙◌}
use mathlib.Core.List.{List}
use Rattle.rules.specs.Claim.{Problem, Answer}
use Rattle.rules.specs.Reader.{Place, Result, refused, got, front}
use Rattle.rules.specs.Files.{read_problem, answer_reader, basis_reader}
use Rattle.laws.specs.Valid.{ValidProblem, ValidBasis, ValidAnswer}
use Rattle.laws.specs.Ranges.{problem_valid, answer_valid, basis_valid}
use Rattle.verdict.specs.declared.Refusal.{Refusal as Refused}
use Rattle.verdict.specs.Meant.{refusal_of}
use Rattle.layout.specs.Holds.{Each}
use Rattle.claim.specs.declared.Problem.{Problem as ProblemArrays}
use Rattle.claim.specs.declared.Answer.{Answer as AnswerArrays}
use Rattle.claim.specs.Claims.{problem_in, basis_in, answer_of}
use Rattle.claim.specs.Empty.{empty_problem}
use Rattle.claim.specs.Sound.{SoundHead, SoundColumns, SoundProblem, SoundBasis}
use Rattle.storing.specs.Storing.{into, into_refused}
use Rattle.problem_file.specs.Values.{problem_value, problem_arrays}
use Rattle.answer_file.specs.Values.{answer_value, answer_arrays, read_answer, without_evidence}
use Rattle.reader.specs.Stands.{problem_stands, sound_head_of, sound_columns_of, Exact, exact_of, basis_stands, entries_below, entries_padded, constants_stands, constants_below}

-- The place after what was read.
abbrev pub after : {A : Type 0} → Result A → Place
after (refused r) = r.place
after (got a q) = q

-- What was read, or the refusal: the struct counts only where there is none.
unfoldable pub handed : {A : Type 0} → Outcome (Unit {0}) Refused × A → Outcome A Refused
handed (Ok u, a) = Ok a
handed (Err x, a) = Err x

pub handed_on : {A : Type 0} (m : Outcome (Unit {0}) Refused × A) {a : A} → Ok a ≡ handed m → (Ok tt, a) ≡ m
unfolding handed
handed_on (Ok u, b) e = let same : _ ≡ b = cc in λ i. (Ok tt, same i)
handed_on (Err x, b) e = cc

pub handed_off : {A : Type 0} (m : Outcome (Unit {0}) Refused × A) {x : Refused} → Err x ≡ handed m → (a : A) × ((Err x, a) ≡ m)
unfolding handed
handed_off (Ok u, b) e = cc
handed_off (Err y, b) e = let same : _ ≡ y = cc in (b, λ i. (Err (same i), b))

-- No reading is both, and a refusal is one.
ok_not_err : {A B : Type 0} {x : Refused} {a b : B} → ◌≡◌ {A = Outcome (Unit {0}) Refused × B} (Ok tt, a) (Err x, b) → A
ok_not_err {B = B} e = let apart = ap (λ (z : Outcome (Unit {0}) Refused × B). z.0) e in let z : ⊥ = cc in absurd z

same_err : {B : Type 0} {x y : Refused} {a b : B} → ◌≡◌ {A = Outcome (Unit {0}) Refused × B} (Err x, a) (Err y, b) → x ≡ y
same_err {B = B} e = let same = ap (λ (z : Outcome (Unit {0}) Refused × B). z.0) e in cc

-- THE PROBLEM

problem_when_off : (m : Result Problem) {x : Refused} {b : ProblemArrays} → (Err x, b) ≡ problem_value m → (m ≡ refused (refusal_of x)) × (b ≡ empty_problem)
unfolding problem_value
problem_when_off (refused y) e = (ap (λ z. refused (refusal_of z)) (sym (same_err e)), ap (λ z. z.1) e)
problem_when_off (got b q) e = ok_not_err (sym e)

-- What holds of the arrays of a problem that was read holds of those of the reading.
problem_when_on : (Q : Problem → ProblemArrays → Type 0) (m : Result Problem) {x : ProblemArrays} → (Ok tt, x) ≡ problem_value m
    → ((b : Problem) (q : Place) → m ≡ got b q → Q b (problem_arrays b)) → (b : Problem) × (m ≡ got b (after m)) × Q b x
unfolding problem_value
problem_when_on Q (refused y) e k = ok_not_err e
problem_when_on Q (got b q) e k = (b, refl, subst (Q b) (sym (ap (λ z. z.1) e)) (k b q refl))

module _ (s : List ℕ) where
  module _ {x : Refused} {b : ProblemArrays} (e : (Err x, b) ≡ problem_value (read_problem s)) where
    pub problem_off : read_problem s ≡ refused (refusal_of x)
    problem_off = (problem_when_off (read_problem s) e).0

    pub problem_empty : b ≡ empty_problem
    problem_empty = (problem_when_off (read_problem s) e).1

  module _ {x : ProblemArrays} (e : (Ok tt, x) ≡ problem_value (read_problem s)) where
    pub problem_read : read_problem s ≡ got (problem_in x) (after (read_problem s))
    problem_read =
        let (b, k, same) = problem_when_on (λ b z. b ≡ problem_in z) (read_problem s) e (λ b q k. problem_stands b (problem_valid s k)) in
        k ∙ ap (λ (b : Problem). got b (after (read_problem s))) same

    pub problem_head : SoundHead x.head
    problem_head = (problem_when_on (λ b z. SoundHead z.head) (read_problem s) e (λ b q k. sound_head_of b (problem_valid s k))).2

    pub problem_columns : SoundColumns x.head x.f
    problem_columns = (problem_when_on (λ b z. SoundColumns z.head z.f) (read_problem s) e (λ b q k. sound_columns_of b (problem_valid s k))).2

    pub problem_sound : SoundProblem x
    problem_sound = record { sound_head = problem_head; sound_columns = problem_columns }

    pub problem_exact : (b : Problem) × (read_problem s ≡ got b (after (read_problem s))) × Exact b x.head x.f
    problem_exact = problem_when_on (λ b z. Exact b z.head z.f) (read_problem s) e (λ b q k. exact_of b (problem_valid s k))

-- THE ANSWER

answer_when_off : (m : Result Answer) {x : Refused} {a : AnswerArrays} → (Err x, a) ≡ answer_value m → m ≡ refused (refusal_of x)
unfolding answer_value
answer_when_off (refused y) e = ap (λ z. refused (refusal_of z)) (sym (same_err e))
answer_when_off (got a q) e = ok_not_err (sym e)

answer_when_on : (Q : Answer → AnswerArrays → Type 0) (m : Result Answer) {y : AnswerArrays} → (Ok tt, y) ≡ answer_value m
    → ((a : Answer) (q : Place) → m ≡ got a q → Q a (answer_arrays a)) → (a : Answer) × (m ≡ got a (after m)) × Q a y
unfolding answer_value
answer_when_on Q (refused x) e k = ok_not_err e
answer_when_on Q (got a q) e k = (a, refl, subst (Q a) (sym (ap (λ z. z.1) e)) (k a q refl))

module _ (b : ProblemArrays) (valid : ValidProblem (problem_in b)) (t : List ℕ) where
  -- With its evidence.
  as_read : {z : Outcome (Unit {0}) Refused × AnswerArrays} → z ≡ answer_value (read_answer b.head.p b.head.m b.head.n true t)
      → z ≡ answer_value (answer_reader (problem_in b) t (front 1))
  unfolding read_answer answer_reader
  as_read e = e

  pub answer_off : {x : Refused} {a : AnswerArrays} → (Err x, a) ≡ answer_value (read_answer b.head.p b.head.m b.head.n true t)
      → answer_reader (problem_in b) t (front 1) ≡ refused (refusal_of x)
  answer_off e = answer_when_off (answer_reader (problem_in b) t (front 1)) (as_read e)

  module _ {y : AnswerArrays} (e : (Ok tt, y) ≡ answer_value (read_answer b.head.p b.head.m b.head.n true t)) where
    abbrev reads : Result Answer
    reads = answer_reader (problem_in b) t (front 1)

    -- What holds of every answer that may be read holds of this one.
    on : (Q : Answer → AnswerArrays → Type 0) → ((a : Answer) (q : Place) → ValidAnswer (problem_in b) a → Q a (answer_arrays a))
        → (a : Answer) × (reads ≡ got a (after reads)) × Q a y
    on Q k = answer_when_on Q reads (as_read e) (λ a q r. k a q (answer_valid (problem_in b) valid t (front 1) r))

    pub answer_read : reads ≡ got (answer_of b.head y.basis.lengths y.basis.entries y.c) (after reads)
    answer_read =
        let (a, k, same) = on (λ a z. a ≡ answer_of b.head z.basis.lengths z.basis.entries z.c) (λ a q good i. record {
          P = basis_stands (problem_in b) a.P valid.rows_most good.basis i;
          C = constants_stands b.head.p b.head.m b.head.n a.C valid.rows_most valid.columns_most good.C_length good.C_row_length good.C_range i;
        }) in
        k ∙ ap (λ (a : Answer). got a (after reads)) same

    pub answer_basis : SoundBasis b.head y.basis.lengths y.basis.entries
    answer_basis =
        (on (λ a z. SoundBasis b.head z.basis.lengths z.basis.entries) (λ a q good. record {
          P_below = entries_below (problem_in b) a.P valid.rows_most good.basis;
          P_padded = entries_padded (problem_in b) a.P valid.rows_most good.basis;
        })).2

    pub answer_constants : Each b.head.p y.c
    answer_constants =
        (on (λ a z. Each b.head.p z.c) (λ a q good.
        constants_below b.head.p b.head.m b.head.n a.C valid.rows_most valid.columns_most good.C_length good.C_row_length good.C_range)).2

  -- Without it.
  basis_as_read : {z : Outcome (Unit {0}) Refused × AnswerArrays} → z ≡ answer_value (read_answer b.head.p b.head.m b.head.n false t)
      → z ≡ answer_value (into without_evidence (basis_reader (problem_in b) t (front 1)))
  unfolding read_answer basis_reader
  basis_as_read e = e

  pub basis_off : {x : Refused} {a : AnswerArrays} → (Err x, a) ≡ answer_value (read_answer b.head.p b.head.m b.head.n false t)
      → basis_reader (problem_in b) t (front 1) ≡ refused (refusal_of x)
  basis_off e =
      sym
      (into_refused without_evidence (basis_reader (problem_in b) t (front 1))
      (sym (answer_when_off (into without_evidence (basis_reader (problem_in b) t (front 1))) (basis_as_read e))))

  module _ {y : AnswerArrays} (e : (Ok tt, y) ≡ answer_value (read_answer b.head.p b.head.m b.head.n false t)) where
    abbrev reads_basis : Result (List (List (List ℕ)))
    reads_basis = basis_reader (problem_in b) t (front 1)

    -- What holds of every basis that may be read holds of this one.
    basis_on : (Q : List (List (List ℕ)) → AnswerArrays → Type 0)
        → ((P : List (List (List ℕ))) (q : Place) → ValidBasis (problem_in b) P → Q P (answer_arrays (without_evidence P)))
        → (P : List (List (List ℕ))) × (reads_basis ≡ got P (after reads_basis)) × Q P y
    unfolding into answer_value
    basis_on Q k = by_result reads_basis refl
      where
        by_result : (m : Result (List (List (List ℕ)))) → reads_basis ≡ m → (P : List (List (List ℕ))) × (reads_basis ≡ got P (after reads_basis)) × Q P y
        by_result (refused r) g = ok_not_err (basis_as_read e ∙ ap (λ m. answer_value (into without_evidence m)) g)
        by_result (got P q) g = (
          P,
          g ∙ ap (λ (p : Place). got P p) (sym (ap after g)),
          subst (Q P) (sym (ap (λ z. z.1) (basis_as_read e ∙ ap (λ m. answer_value (into without_evidence m)) g)))
              (k P q (basis_valid (problem_in b) valid t (front 1) g)),
        )

    pub basis_read : reads_basis ≡ got (basis_in b.head.m y.basis) (after reads_basis)
    basis_read =
        let (P, k, same) = basis_on (λ P z. P ≡ basis_in b.head.m z.basis) (λ P q good. basis_stands (problem_in b) P valid.rows_most good) in
        k ∙ ap (λ (P : List (List (List ℕ))). got P (after reads_basis)) same

    pub basis_sound : SoundBasis b.head y.basis.lengths y.basis.entries
    basis_sound =
        (basis_on (λ P z. SoundBasis b.head z.basis.lengths z.basis.entries) (λ P q good. record {
          P_below = entries_below (problem_in b) P valid.rows_most good;
          P_padded = entries_padded (problem_in b) P valid.rows_most good;
        })).2
