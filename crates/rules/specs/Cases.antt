-- Document 01, "Judgements worked by hand": the marked cases, as one list with one proof over it, and those that are not marked.
--   Case, written            two files and their verdict; those of a claim
--   one_by_one, two_by_one   the claims that they are made of
--   marked, marked_judged    the marked cases
--   unmarked, unmarked_judged          the others, with the edges and a refusal of each kind
--   disk_problem, disk_answer          the files on disk: disk_written, disk_lengths, disk_line, cut_line, disk_evidence_made
--   nofile_problem_line, nofile_answer_line      the lines where a file can't be opened
--   refused_evidence_made, square_evidence_made    the evidence of a refused problem, and of two rows and columns
--   parts_pointed_at, places_pointed_at            the bytes handed back, and where they lie
use Rattle.std.specs.Prelude.{◌≡◌, refl, List, [], ◌∷◌, ◌++◌, map, ℕ, ℤ, pos, negsuc, length, replicate}
use Rattle.rules.specs.Claim.{Claim}
use Rattle.rules.specs.Writer.{write_problem, write_basis, write_answer}
use Rattle.rules.specs.Verdict.{Numbers, four}
use Rattle.rules.specs.Print.{digits_within, nofile_line}
use Rattle.rules.specs.Run.{run_verdict, run_line, run_part, run_place, run_evidence}

-- Two files, and the four numbers of their verdict.
pub record Case : Type 0 where
  pub problem : List ℕ
  pub answer : List ℕ
  pub expected : Numbers

-- The files of a claim.
abbrev pub written : Claim → Numbers → Case
written c v = record { problem = write_problem c.problem; answer = write_answer c.answer; expected = v }

-- One row and one column: p, the order, the shift, P, F and C.
abbrev pub one_by_one : (p d : ℕ) → ℤ → List ℕ → List ℕ → ℕ → Claim
one_by_one p d s P F C = record {
  problem = record { p = p; m = 1; n = 1; orders = d ∷ []; shifts = s ∷ []; F = (F ∷ []) ∷ [] };
  answer = record { P = (P ∷ []) ∷ []; C = (C ∷ []) ∷ [] };
}

-- Two rows and two columns, of order 1, with the rows (1, 2) and (3, 4) of F, and P = X times the identity.
abbrev two_by_two : Claim
two_by_two = record {
  problem = record { p = 5; m = 2; n = 2; orders = 1 ∷ 1 ∷ []; shifts = pos 0 ∷ pos 0 ∷ []; F = ((1 ∷ []) ∷ (3 ∷ []) ∷ []) ∷ ((2 ∷ []) ∷ (4 ∷ []) ∷ []) ∷ [] };
  answer = record { P = ((0 ∷ 1 ∷ []) ∷ [] ∷ []) ∷ ([] ∷ (0 ∷ 1 ∷ []) ∷ []) ∷ []; C = (1 ∷ 2 ∷ []) ∷ (3 ∷ 4 ∷ []) ∷ [] };
}

-- "p = 7, m = 2, n = 1, order 2, F rows 1 and 1 + X; P rows (6 + 6X, 1) and (6X, X)": the shifts, and C.
abbrev pub two_by_one : ℤ → ℤ → ℕ → ℕ → Claim
two_by_one s₀ s₁ c₀ c₁ = record {
  problem = record { p = 7; m = 2; n = 1; orders = 2 ∷ []; shifts = s₀ ∷ s₁ ∷ []; F = ((1 ∷ 0 ∷ []) ∷ (1 ∷ 1 ∷ []) ∷ []) ∷ [] };
  answer = record { P = ((6 ∷ 6 ∷ []) ∷ (1 ∷ []) ∷ []) ∷ ((0 ∷ 6 ∷ []) ∷ (0 ∷ 1 ∷ []) ∷ []) ∷ []; C = (c₀ ∷ []) ∷ (c₁ ∷ []) ∷ [] };
}

-- "p = 5, m = n = 1, order 1, shift 0."
abbrev small : List ℕ → List ℕ → ℕ → Numbers → Case
small P F C = written (one_by_one 5 1 (pos 0) P F C)

abbrev large : ℤ → ℤ → ℕ → ℕ → Numbers → Case
large s₀ s₁ c₀ c₁ = written (two_by_one s₀ s₁ c₀ c₁)

-- The cases marked (*), in document 01's order.
abbrev pub marked : List Case
marked =
    small (0 ∷ 1 ∷ []) (1 ∷ []) 1 (four 0 0 0 1)
    ∷ small (0 ∷ 1 ∷ []) (1 ∷ []) 0 (four 12 2 0 0)
    ∷ small (1 ∷ []) (1 ∷ []) 0 (four 11 2 0 0)
    ∷ small (0 ∷ 1 ∷ []) (0 ∷ []) 0 (four 13 0 0 0)
    ∷ small (0 ∷ 0 ∷ 1 ∷ []) (1 ∷ []) 0 (four 13 0 0 0)
    ∷ small (4 ∷ 1 ∷ []) (0 ∷ []) 0 (four 10 0 0 0)
    ∷ small [] (0 ∷ []) 0 (four 9 0 0 0)
    ∷ small (1 ∷ []) (0 ∷ []) 0 (four 0 0 0 0)
    ∷ large (pos 0) (pos 0) 0 1 (four 0 0 0 2)
    ∷ large (pos 0) (pos 1) 0 1 (four 0 0 0 2)
    ∷ large (negsuc 0) (pos 0) 0 1 (four 0 0 0 2)
    ∷ large (pos 0) (pos 2) 0 1 (four 9 0 0 0)
    ∷ large (pos 0) (pos 0) 0 0 (four 12 2 1 0)
    ∷ []

-- Each of them is judged as document 01 says.
pub marked_judged : map (λ c. run_verdict c.problem c.answer) marked ≡ map (λ c. c.expected) marked
unfolding run_verdict
marked_judged = refl

-- "The first of these on disk."
abbrev pub disk_problem : List ℕ
disk_problem =
    0x50 ∷ 0x52 ∷ 0x07 ∷ 0x00 ∷ 0x00 ∷ 0x00 ∷ 0x02 ∷ 0x01 ∷ 0x4F ∷ 0x52 ∷ 0x02 ∷ 0x53 ∷ 0x48 ∷ 0x00 ∷ 0x00 ∷ 0x00 ∷ 0x00 ∷ 0x46 ∷ 0x43
    ∷ 0x00 ∷ 0x01 ∷ 0x00 ∷ 0x00 ∷ 0x00 ∷ 0x00 ∷ 0x00 ∷ 0x00 ∷ 0x00 ∷ 0x01 ∷ 0x00 ∷ 0x00 ∷ 0x00 ∷ 0x01 ∷ 0x00 ∷ 0x00 ∷ 0x00 ∷ []

abbrev disk_entries : ℕ → List ℕ
disk_entries first =
    0x50 ∷ 0x45 ∷ 0 ∷ 0 ∷ 2 ∷ first ∷ 0 ∷ 0 ∷ 0 ∷ 6 ∷ 0 ∷ 0 ∷ 0 ∷ 0x50 ∷ 0x45 ∷ 0 ∷ 1 ∷ 1 ∷ 1 ∷ 0 ∷ 0 ∷ 0 ∷ 0x50 ∷ 0x45 ∷ 1 ∷ 0 ∷ 2 ∷ 0 ∷ 0
    ∷ 0 ∷ 0 ∷ 6 ∷ 0 ∷ 0 ∷ 0 ∷ 0x50 ∷ 0x45 ∷ 1 ∷ 1 ∷ 2 ∷ 0 ∷ 0 ∷ 0 ∷ 0 ∷ 1 ∷ 0 ∷ 0 ∷ 0 ∷ []

abbrev disk_evidence : List ℕ
disk_evidence = 0x43 ∷ 0x45 ∷ 0 ∷ 0 ∷ 0 ∷ 0 ∷ 1 ∷ 0 ∷ 0 ∷ []

-- "The answer has 58 bytes."
abbrev pub disk_answer : List ℕ
disk_answer = disk_entries 6 ++ disk_evidence ++ (0 ∷ [])

-- The files are those that the writers write, …
pub disk_written :
    ◌≡◌ {A = List ℕ × List ℕ} ((large (pos 0) (pos 0) 0 1 (four 0 0 0 2)).problem, (large (pos 0) (pos 0) 0 1 (four 0 0 0 2)).answer)
    (disk_problem, disk_answer)
unfolding run_verdict
disk_written = refl

-- … of 36 and 58 bytes.
pub disk_lengths : ◌≡◌ {A = ℕ × ℕ} (length disk_problem, length disk_answer) (36, 58)
disk_lengths = refl

-- One row, one column and no coefficient but 1: a problem at the edges of the sizes, with the answer P = 1.
abbrev edge : ℕ → ℕ → ℤ → Numbers → Case
edge p d s = written (one_by_one p d s (1 ∷ []) (replicate d 0) 0)

abbrev on_disk : List ℕ → Numbers → Case
on_disk t v = record { problem = disk_problem; answer = t; expected = v }

-- "With F = 1: still 10, before 11."; the files on disk and their variants; the edges; a claim of each kind of refusal by reading; a
-- refusal by rank modulo 2, where 1 is the only constant that counts.
abbrev pub unmarked : List Case
unmarked =
    small (4 ∷ 1 ∷ []) (1 ∷ []) 0 (four 10 0 0 0)
    ∷ on_disk disk_answer (four 0 0 0 2)
    ∷ on_disk (disk_entries 6 ++ disk_evidence) (four 1 1 4 54)
    ∷ on_disk (disk_answer ++ (0 ∷ [])) (four 8 1 5 58)
    ∷ on_disk (disk_entries 7 ++ disk_evidence ++ (0 ∷ [])) (four 6 1 0 5)
    ∷ on_disk [] (four 1 1 0 0)
    ∷ record { problem = []; answer = disk_answer; expected = four 1 0 0 0 }
    ∷ record { problem = disk_answer; answer = []; expected = four 2 0 0 0 }
    ∷ on_disk disk_problem (four 2 1 0 0)
    ∷ on_disk (0x50 ∷ 0x45 ∷ 0 ∷ 1 ∷ []) (four 5 1 0 3)
    ∷ on_disk (0x50 ∷ 0x45 ∷ 0 ∷ 0 ∷ 18 ∷ []) (four 3 1 0 4)
    ∷ on_disk (0x50 ∷ 0x45 ∷ 0 ∷ 0 ∷ 2 ∷ 1 ∷ 0 ∷ 0 ∷ 0 ∷ 0 ∷ 0 ∷ 0 ∷ 0 ∷ []) (four 7 1 0 9)
    ∷ edge 1 1 (pos 0) (four 4 0 0 2)
    ∷ edge 2 1 (pos 0) (four 0 0 0 0)
    ∷ edge 5 0 (pos 0) (four 3 0 1 10)
    ∷ edge 5 16 (pos 0) (four 0 0 0 0)
    ∷ edge 5 17 (pos 0) (four 3 0 1 10)
    ∷ edge 5 1 (negsuc 999) (four 0 0 0 0)
    ∷ edge 5 1 (negsuc 1_000) (four 3 0 2 13)
    ∷ edge 5 1 (pos 1_001) (four 3 0 2 13)
    ∷ written (one_by_one 2 1 (pos 0) (0 ∷ 1 ∷ []) (0 ∷ []) 0) (four 13 0 0 0)
    ∷ []

-- Each of these, too, is judged as document 01 says.
pub unmarked_judged : map (λ c. run_verdict c.problem c.answer) unmarked ≡ map (λ c. c.expected) unmarked
unfolding run_verdict
unmarked_judged = refl

-- "`judge` prints `pass 2`, the whole output." …
pub disk_line : run_line disk_problem disk_answer ≡ 112 ∷ 97 ∷ 115 ∷ 115 ∷ 32 ∷ 50 ∷ 10 ∷ []
unfolding run_line
disk_line = refl

-- … "Answer less its last byte: `refuse 1 1 4 54`."
pub cut_line :
    run_line disk_problem (disk_entries 6 ++ disk_evidence) ≡ 114 ∷ 101 ∷ 102 ∷ 117 ∷ 115 ∷ 101 ∷ 32 ∷ 49 ∷ 32 ∷ 49 ∷ 32 ∷ 52 ∷ 32 ∷ 53 ∷ 52 ∷ 10 ∷ []
unfolding run_line
cut_line = refl

-- "If a file can't be opened it prints `nofile 0` …
pub nofile_problem_line : nofile_line 0 ≡ 110 ∷ 111 ∷ 102 ∷ 105 ∷ 108 ∷ 101 ∷ 32 ∷ 48 ∷ 10 ∷ []
unfolding nofile_line digits_within
nofile_problem_line = refl

-- … or `nofile 1`".
pub nofile_answer_line : nofile_line 1 ≡ 110 ∷ 111 ∷ 102 ∷ 105 ∷ 108 ∷ 101 ∷ 32 ∷ 49 ∷ 10 ∷ []
unfolding nofile_line digits_within
nofile_answer_line = refl

-- "The evidence made is `43 45 00 00 00 00 01 00 00 00`."; a byte lent beyond it stays, and a byte less is refused.
pub disk_evidence_made :
    map (run_evidence disk_problem (disk_entries 6)) (replicate 11 170 ∷ replicate 9 170 ∷ [])
    ≡ (four 0 0 0 10, 0x43 ∷ 0x45 ∷ 0 ∷ 0 ∷ 0 ∷ 0 ∷ 1 ∷ 0 ∷ 0 ∷ 0 ∷ 170 ∷ []) ∷ (four 14 0 0 10, replicate 9 170) ∷ []
unfolding run_evidence
disk_evidence_made = refl

-- "After a refusal every byte is as before."
pub refused_evidence_made : run_evidence [] [] (replicate 3 170) ≡ (four 1 0 0 0, replicate 3 170)
unfolding run_evidence
refused_evidence_made = refl

-- "m × n numbers of four bytes, row by row"
pub square_evidence_made :
    run_evidence (write_problem two_by_two.problem) (write_basis two_by_two.answer.P) (replicate 18 170)
    ≡ (four 0 0 0 18, 0x43 ∷ 0x45 ∷ 1 ∷ 0 ∷ 0 ∷ 0 ∷ 2 ∷ 0 ∷ 0 ∷ 0 ∷ 3 ∷ 0 ∷ 0 ∷ 0 ∷ 4 ∷ 0 ∷ 0 ∷ 0 ∷ [])
unfolding run_evidence
square_evidence_made = refl

-- The part handed back: of a fault below the order the `FC` record, of one at the order the `CE` record, of a cut answer its last record.
pub parts_pointed_at :
    run_part (small (1 ∷ []) (1 ∷ []) 0 (four 11 2 0 0)).problem (small (1 ∷ []) (1 ∷ []) 0 (four 11 2 0 0)).answer
    ∷ run_part (small (0 ∷ 1 ∷ []) (1 ∷ []) 0 (four 12 2 0 0)).problem (small (0 ∷ 1 ∷ []) (1 ∷ []) 0 (four 12 2 0 0)).answer
    ∷ run_part disk_problem (disk_entries 6 ++ disk_evidence)
    ∷ run_part disk_problem disk_answer
    ∷ []
    ≡ (0x46 ∷ 0x43 ∷ 0 ∷ 1 ∷ 0 ∷ 0 ∷ 0 ∷ []) ∷ (0x43 ∷ 0x45 ∷ 0 ∷ 0 ∷ 0 ∷ 0 ∷ []) ∷ disk_evidence ∷ [] ∷ []
unfolding run_part
parts_pointed_at = refl

-- Where they lie, as file, start and size: "Codes 0, 9, 10 and 13: the empty part at the front of the answer"; a part of a refused file
-- ends with the file, "and a record that has no byte gives the empty part at the file's end".
pub places_pointed_at :
    map (λ c. run_place c.problem c.answer) (on_disk disk_answer (four 0 0 0 2) ∷ on_disk (disk_entries 6) (four 1 1 4 48) ∷ [])
    ≡ record { file = 1; start = 0; size = 0 } ∷ record { file = 1; start = 48; size = 0 } ∷ []
unfolding run_place
places_pointed_at = refl
