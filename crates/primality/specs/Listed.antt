-- What the numbers of a table show by computation: a test over the whole table, and what follows from it for each number.
--   rows                     the numbers rise, each beside its inverse modulo 2^16
--   covers                   every odd number of a range that the table leaves out has a divisor among the primes up to 211
--   IsPart                   a part of the table: its numbers are all odd primes of a range, each beside its inverse
--   table_of_rows            what passes `rows` is a table
--   part_of_tests            what passes both tests is a part
--   sifted_of_found          by `covers`, a search in the table is a search among all the primes of the range
use Rattle.std.specs.Prelude.{◌≡◌, refl, Bool, true, false, ◌&&◌, List, [], ◌∷◌, ℕ, zero, suc, ◌+◌, ◌-◌, ◌*◌, ◌/◌, ◌%◌, ◌≤◌, ◌<◌, T, eqb, ltb, length, get_or}
use Rattle.std.proofs.Common.{sym, ap, subst, suc-le-suc, le_of_suc-le-suc, not-suc-le-zero, le_trans, mul-le-mul, arith, eqb→eq, ltb→lt}
use Rattle.std.proofs.Math.Logic.{by_cases}
use Rattle.std.specs.Int.{◌∣◌}
use Rattle.std.proofs.Math.Nat.{mod-eq-zero_of_dvd}
use Rattle.std.proofs.Math.Decide.{ℕ_discrete, dec_lt}
use Rattle.algebra.specs.Prime.{Prime}
use Rattle.divisors.specs.Found.{block, Found, InTable, first}
use Rattle.divisors.specs.Table.{Table}
use Rattle.primality.specs.Sifted.{Sifted, divided, prime_odd}

-- Where both tests pass, each does.
both_parts : (a b : Bool) → T (a && b) → T a × T b
both_parts true b t = (tt, t)
both_parts false b t = absurd t

-- The numbers rise, from above `last` on, each beside its inverse modulo 2^16.
unfoldable pub rows : ℕ → List ℕ → List ℕ → Bool
rows last [] [] = true
rows last [] (v ∷ vs) = false
rows last (q ∷ qs) [] = false
rows last (q ∷ qs) (v ∷ vs) = ltb last q && (eqb (q * v % 65536) 1 && rows q qs vs)

-- The odd primes up to 211. A number below 223 · 223 that is not prime has a divisor among them.
unfoldable pub divisors : List ℕ
divisors =
    3 ∷ 5 ∷ 7 ∷ 11 ∷ 13 ∷ 17 ∷ 19 ∷ 23 ∷ 29 ∷ 31 ∷ 37 ∷ 41 ∷ 43 ∷ 47 ∷ 53 ∷ 59 ∷ 61 ∷ 67 ∷ 71 ∷ 73 ∷ 79 ∷ 83 ∷ 89 ∷ 97 ∷ 101 ∷ 103 ∷ 107 ∷ 109 ∷ 113 ∷ 127 ∷ 131 ∷ 137 ∷ 139 ∷ 149 ∷ 151 ∷ 157 ∷ 163 ∷ 167 ∷ 173 ∷ 179 ∷ 181 ∷ 191 ∷ 193 ∷ 197 ∷ 199 ∷ 211 ∷ []

-- The first of the list that divides d is between 1 and d.
unfoldable pub composite : ℕ → List ℕ → Bool
composite d [] = false
composite d (k ∷ ks) = elim (eqb (d % k) 0) [ true ↦ ltb 1 k && ltb k d | false ↦ composite d ks ]

-- n odd numbers from d on are composite.
unfoldable pub composites : ℕ → ℕ → Bool
composites zero d = true
composites (suc n) d = composite d divisors && composites n (d + 2)

-- The odd numbers from d on and below e are composite; e is odd as d is, and not below it.
unfoldable pub gap : ℕ → ℕ → Bool
gap d e = eqb (d + 2 * ((e - d) / 2)) e && composites ((e - d) / 2) d

-- The odd numbers from d on and below hi that are not in the list are composite.
unfoldable pub covers : ℕ → ℕ → List ℕ → Bool
covers hi d [] = gap d hi
covers hi d (q ∷ qs) = gap d q && covers hi (q + 2) qs

-- What `rows` says of each place.
record Rows (last : ℕ) (q v : List ℕ) : Type 0 where
  beside : length v ≡ length q
  inverse : (i : ℕ) → i < length q → get_or q i 0 * get_or v i 0 % 65536 ≡ 1
  above : (i : ℕ) → i < length q → last < get_or q i 0
  rising : (i j : ℕ) → i ≤ j → j < length q → get_or q i 0 ≤ get_or q j 0

rows_cons : (last q v : ℕ) (qs vs : List ℕ) → last < q → q * v % 65536 ≡ 1 → Rows q qs vs → Rows last (q ∷ qs) (v ∷ vs)
rows_cons last q v qs vs more inverts rest = record { beside = ap suc rest.beside; inverse = inverse; above = above; rising = rising }
  where
    inverse : (i : ℕ) → i < length (q ∷ qs) → get_or (q ∷ qs) i 0 * get_or (v ∷ vs) i 0 % 65536 ≡ 1
    inverse zero h = inverts
    inverse (suc i) h = rest.inverse i (le_of_suc-le-suc h)

    above : (i : ℕ) → i < length (q ∷ qs) → last < get_or (q ∷ qs) i 0
    above zero h = more
    above (suc i) h = omega (arith, rest.above i (le_of_suc-le-suc h))

    rising : (i j : ℕ) → i ≤ j → j < length (q ∷ qs) → get_or (q ∷ qs) i 0 ≤ get_or (q ∷ qs) j 0
    rising zero zero le h = omega arith
    rising zero (suc j) le h = omega (arith, rest.above j (le_of_suc-le-suc h))
    rising (suc i) zero le h = absurd (not-suc-le-zero le)
    rising (suc i) (suc j) le h = rest.rising i j (le_of_suc-le-suc le) (le_of_suc-le-suc h)

rows_of : (last : ℕ) (q v : List ℕ) → T (rows last q v) → Rows last q v
unfolding rows
rows_of last [] [] t = record {
  beside = refl;
  inverse = λ i h. absurd (not-suc-le-zero h);
  above = λ i h. absurd (not-suc-le-zero h);
  rising = λ i j le h. absurd (not-suc-le-zero h);
}
rows_of last [] (v ∷ vs) t = absurd t
rows_of last (q ∷ qs) [] t = absurd t
rows_of last (q ∷ qs) (v ∷ vs) t =
    let (more, others) = both_parts (ltb last q) _ t in
    let (inverts, rest) = both_parts (eqb (q * v % 65536) 1) _ others in
    rows_cons last q v qs vs (ltb→lt last q more) (eqb→eq (q * v % 65536) 1 inverts) (rows_of q qs vs rest)

-- What passes `rows`, in whole blocks, is a table.
pub table_of_rows : (q v : List ℕ) → T (rows 0 q v) → length q % block ≡ 0 → Table q v
table_of_rows q v t whole = let h = rows_of 0 q v t in record { beside = h.beside; blocks = whole; inverse = h.inverse; rising = h.rising }

-- A composite number is not prime.
composite_of : (d : ℕ) (ks : List ℕ) → T (composite d ks) → ¬ Prime d
unfolding composite
composite_of d [] t = absurd t
composite_of d (k ∷ ks) t = go (eqb (d % k) 0) (eqb→eq (d % k) 0) (composite_of d ks) t
  where
    go : (b : Bool) → (T b → d % k ≡ 0) → (T (composite d ks) → ¬ Prime d) → T (elim b [ true ↦ ltb 1 k && ltb k d | false ↦ composite d ks ]) → ¬ Prime d
    go true exact rest t = let (lo, hi) = both_parts (ltb 1 k) (ltb k d) t in divided d k (ltb→lt 1 k lo) (ltb→lt k d hi) (exact tt)
    go false exact rest t = rest t

-- None of n composite numbers, two apart, is prime.
composites_of : (n d x : ℕ) → T (composites n d) → d ≤ x → x < d + 2 * n → x % 2 ≡ d % 2 → ¬ Prime x
unfolding composites
composites_of zero d x t lo hi parity = absurd (omega arith)
composites_of (suc n) d x t lo hi parity =
    let (here, rest) = both_parts (composite d divisors) _ t in
    by_cases (ℕ_discrete x d) (λ e. rw e (composite_of d divisors here)) (λ ne. composites_of n (d + 2) x rest (omega arith) (omega arith) (omega arith))

gap_of : (d e : ℕ) → T (gap d e) → (d ≤ e) × ((e % 2 ≡ d % 2) × ((x : ℕ) → d ≤ x → x < e → x % 2 ≡ d % 2 → ¬ Prime x))
unfolding gap
gap_of d e t =
    let (reaches, all) = both_parts (eqb (d + 2 * ((e - d) / 2)) e) _ t in
    let same : d + 2 * ((e - d) / 2) ≡ e = eqb→eq _ e reaches in
    (omega arith, (omega arith, λ x lo hi. composites_of ((e - d) / 2) d x all lo (omega arith)))

-- What holds of every number of a list that covers a range holds of every prime of the range.
covers_of : (P : ℕ → Type 0) (hi d : ℕ) (q : List ℕ) → T (covers hi d q) → ((i : ℕ) → i < length q → P (get_or q i 0)) → (x : ℕ) → Prime x → x % 2 ≡ d % 2 → d ≤ x
    → x < hi → P x
unfolding covers
covers_of P hi d [] t each x prime parity lo up = absurd ((gap_of d hi t).1.1 x lo up parity prime)
covers_of P hi d (q ∷ qs) t each x prime parity lo up =
    let (before, rest) = both_parts (gap d q) _ t in
    let (ordered, (same, none)) = gap_of d q before in
    by_cases (dec_lt x q) (λ less. absurd (none x lo less parity prime))
    (λ notless. by_cases (ℕ_discrete x q) (λ e. subst P (sym e) (each 0 (suc-le-suc (omega arith))))
    (λ ne. covers_of P hi (q + 2) qs rest (λ i h. each (suc i) (suc-le-suc h)) x prime (omega arith) (omega arith) up))

bounds_cons : (hi d q : ℕ) (qs : List ℕ) → d ≤ q → (q + 2 ≤ hi) × ((i : ℕ) → i < length qs → (q + 2 ≤ get_or qs i 0) × (get_or qs i 0 < hi)) → (d ≤ hi) ×
    ((i : ℕ) → i < length (q ∷ qs) → (d ≤ get_or (q ∷ qs) i 0) × (get_or (q ∷ qs) i 0 < hi))
bounds_cons hi d q qs start (end, rest) = (omega arith, each)
  where
    each : (i : ℕ) → i < length (q ∷ qs) → (d ≤ get_or (q ∷ qs) i 0) × (get_or (q ∷ qs) i 0 < hi)
    each zero h = (start, omega arith)
    each (suc i) h = let (low, high) = rest i (le_of_suc-le-suc h) in (omega arith, high)

-- A list that covers a range stays within it.
bounds_of : (hi d : ℕ) (q : List ℕ) → T (covers hi d q) → (d ≤ hi) × ((i : ℕ) → i < length q → (d ≤ get_or q i 0) × (get_or q i 0 < hi))
unfolding covers
bounds_of hi d [] t = ((gap_of d hi t).0, λ i h. absurd (not-suc-le-zero h))
bounds_of hi d (q ∷ qs) t =
    let (before, rest) = both_parts (gap d q) _ t in
    bounds_cons hi d q qs (gap_of d q before).0 (bounds_of hi (q + 2) qs rest)

-- A part of the table: a table that covers the odd numbers from lo on and below hi.
pub record IsPart (lo hi : ℕ) (q v : List ℕ) : Type 0 where
  pub three : 3 ≤ lo
  pub odd : lo % 2 ≡ 1
  pub table : Table q v
  pub covered : T (covers hi lo q)

-- What passes the tests is one.
pub part_of_tests : (lo hi : ℕ) (q v : List ℕ) → 3 ≤ lo → lo % 2 ≡ 1 → T (rows 0 q v) → length q % block ≡ 0 → T (covers hi lo q) → IsPart lo hi q v
part_of_tests lo hi q v three odd rising whole covered = record { three = three; odd = odd; table = table_of_rows q v rising whole; covered = covered }

-- The odd primes of a range are covered by the table; so a search in it is a search among them.
pub sifted_of_found : (hi lo p : ℕ) (q v : List ℕ) (r : Bool) → T (covers hi lo q) → lo % 2 ≡ 1 → 3 ≤ lo → hi ≤ p → Table q v → Found (InTable q p) r
    → Sifted lo hi p r
sifted_of_found hi lo p q v r t odd three reach table search = record {
  found = λ e. go (search.some e);
  none = λ e x prime above below. covers_of (λ y. y * y ≤ p → ¬ (y ∣ p)) hi lo q t (each (search.none e)) x prime
      (omega (arith, prime_odd x prime (omega arith))) above below;
}
  where
    -- a number of the table is between 1 and p
    go : ((i : ℕ) × InTable q p i) → ¬ Prime p
    go (i, h) = let (low, high) = (bounds_of hi lo q t).1 i h.inside in divided p (get_or q i 0) (omega arith) (omega arith)
        (mod-eq-zero_of_dvd (get_or q i 0) h.divides)

    -- the square of a block's first number is at most that of each
    each : ((i : ℕ) → ¬ InTable q p i) → (i : ℕ) → i < length q → get_or q i 0 * get_or q i 0 ≤ p → ¬ (get_or q i 0 ∣ p)
    each none i inside square divides =
        let le : first q i ≤ get_or q i 0 = table.rising (i / block * block) i (omega arith) inside in
        none i (record { inside = inside; square = le_trans (mul-le-mul le le) square; divides = divides })
