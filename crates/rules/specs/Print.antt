-- Document 01: `judge` "prints one line: `pass` and Δ, or `refuse` and the four numbers, with single spaces." A line is its bytes, with
-- a line feed.
--   digits n                 a number in decimal digits
--   line_of v                the line for the four numbers of a verdict
--   nofile_line f            the line where the file f can't be opened
use Rattle.std.specs.Prelude.{true, false, List, [], ◌∷◌, ◌++◌, ℕ, zero, suc, ◌+◌, ◌/◌, ◌%◌, ltb, eqb}
use Rattle.rules.specs.Verdict.{Numbers}

-- The decimal digits of n, for which k steps are enough.
unfoldable pub digits_within : ℕ → ℕ → List ℕ
digits_within zero n = []
digits_within (suc k) n = elim (ltb n 10) [ true ↦ (48 + n) ∷ [] | false ↦ digits_within k (n / 10) ++ ((48 + n % 10) ∷ []) ]

-- The decimal digits of n: n + 1 steps are enough.
abbrev pub digits : ℕ → List ℕ
digits n = digits_within (suc n) n

-- "pass ", …
abbrev pub pass_word : List ℕ
pass_word = 112 ∷ 97 ∷ 115 ∷ 115 ∷ 32 ∷ []

-- … "refuse " …
abbrev pub refuse_word : List ℕ
refuse_word = 114 ∷ 101 ∷ 102 ∷ 117 ∷ 115 ∷ 101 ∷ 32 ∷ []

-- … and a space.
abbrev pub space : List ℕ
space = 32 ∷ []

-- "`pass` and Δ, or `refuse` and the four numbers, with single spaces"
unfoldable pub line_of : Numbers → List ℕ
line_of v =
    elim (eqb v.code 0) [
      | true ↦ pass_word ++ digits v.at ++ (10 ∷ [])
      | false ↦ refuse_word ++ digits v.code ++ space ++ digits v.file ++ space ++ digits v.number ++ space ++ digits v.at ++ (10 ∷ [])
    ]

-- "nofile "
abbrev pub nofile_word : List ℕ
nofile_word = 110 ∷ 111 ∷ 102 ∷ 105 ∷ 108 ∷ 101 ∷ 32 ∷ []

-- "If a file can't be opened it prints `nofile 0` or `nofile 1`, the problem tried first; a name that isn't given counts as a file that
-- can't be opened."
unfoldable pub nofile_line : ℕ → List ℕ
nofile_line f = nofile_word ++ digits f ++ (10 ∷ [])
