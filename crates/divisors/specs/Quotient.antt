-- The high half of a quotient, from halves alone.
--   high_part                how it is computed from the halves of p and the inverse of q modulo 2^16
--   product_small            a product of two numbers of 16 bits has at most 32
--   positive                 a number with an inverse is not 0
--   high_quotient            if q divides p, that is the high half of p / q
--   not_divided              where it is above the high half of p, divided by q or by less, q does not divide p
use Rattle.std.specs.Prelude.{◌≡◌, ℕ, zero, suc, ◌+◌, ◌-◌, ◌*◌, ◌/◌, ◌%◌, ◌<◌, ◌≤◌}
use Rattle.std.proofs.Common.{sym, ap, ◌∙◌, mul_comm, mul_assoc, mul-add, add-mul, mul_left_comm, zero-mul, mul-le-mul, mul-le-mul_right, lt_of_le_of_lt, mod-lt, mod-eq_of_lt, le-div_iff_mul-le, arith, lit<}
use Rattle.std.specs.Int.{◌∣◌}
use Rattle.std.proofs.Math.Nat.{div-add-mod, add-mul-mod_self_left, mul-add-mod_self_left, mul-div_cancel'}

-- What is computed of a number with the halves h and l, of q and of its inverse v modulo 2^16.
abbrev pub high_part : ℕ → ℕ → ℕ → ℕ → ℕ
high_part h l q v = (h + (65536 - q * (l * v % 65536) / 65536)) % 65536 * v % 65536

-- A product of two numbers of 16 bits has at most 32.
pub product_small : {x y : ℕ} → x < 65536 → y < 65536 → x * y < 65536 * 65536
product_small hx hy = lt_of_le_of_lt (mul-le-mul {n₂ = 65535} {m₂ = 65535} (omega arith) (omega arith)) (lit< tt)

-- Times q and times its inverse, a number is itself modulo 2^16.
cancel : (q v x : ℕ) → q * v % 65536 ≡ 1 → q * x * v % 65536 ≡ x % 65536
cancel q v x e = ap (λ y. y % 65536) split ∙ add-mul-mod_self_left x 65536 (x * (q * v / 65536))
  where
    whole : q * v ≡ 65536 * (q * v / 65536) + 1
    whole = omega (arith, div-add-mod (q * v) 65536)

    split : q * x * v ≡ x + 65536 * (x * (q * v / 65536))
    split =
        ap (λ y. y * v) (mul_comm q x) ∙ mul_assoc x q v ∙ ap (λ y. x * y) whole ∙ mul-add x (65536 * (q * v / 65536)) 1
        ∙ omega (arith, mul_left_comm x 65536 (q * v / 65536))

-- A multiple of q, by the halves of the other factor.
by_halves : (q m : ℕ) → q * m ≡ 65536 * (q * (m / 65536)) + q * (m % 65536)
by_halves q m =
    ap (λ y. q * y) (sym (div-add-mod m 65536)) ∙ mul-add q (65536 * (m / 65536)) (m % 65536)
    ∙ ap (λ y. y + q * (m % 65536)) (mul_left_comm q 65536 (m / 65536))

-- The high half of q · m is q times the high half of m, and what q times the low half carries.
high_half : (h l q m : ℕ) → l < 65536 → q * m ≡ 65536 * h + l → h ≡ q * (m / 65536) + q * (m % 65536) / 65536
high_half h l q m small e = omega (arith, by_halves q m, div-add-mod (q * (m % 65536)) 65536, mod-lt (q * (m % 65536)) {m = 65536} (omega arith))

-- The low half of m is that of l · v.
low_half : (h l q v m : ℕ) → q * v % 65536 ≡ 1 → q * m ≡ 65536 * h + l → l * v % 65536 ≡ m % 65536
low_half h l q v m inverse e =
    sym (mul-add-mod_self_left 65536 (h * v) (l * v))
    ∙ ap (λ y. y % 65536) (ap (λ y. y + l * v) (sym (mul_assoc 65536 h v)) ∙ sym (add-mul (65536 * h) l v) ∙ ap (λ y. y * v) (sym e))
    ∙ cancel q v m inverse

-- A number with an inverse is not 0.
pub positive : (q v : ℕ) → q * v % 65536 ≡ 1 → 0 < q
positive zero v e = absurd (omega (arith, ap (λ y. y % 65536) (zero-mul v)))
positive (suc q) v e = omega arith

-- If q divides the number, what is computed is the high half of the quotient.
pub high_quotient : (h l q v m : ℕ) → q * v % 65536 ≡ 1 → l < 65536 → h < 65536 → q * m ≡ 65536 * h + l → high_part h l q v ≡ m / 65536
high_quotient h l q v m inverse small_l small_h e =
    ap (λ y. y * v % 65536) exact ∙ cancel q v (m / 65536) inverse ∙ mod-eq_of_lt below
  where
    carry : q * (l * v % 65536) / 65536 ≡ q * (m % 65536) / 65536
    carry = ap (λ y. q * y / 65536) (low_half h l q v m inverse e)

    halves : h ≡ q * (m / 65536) + q * (l * v % 65536) / 65536
    halves = omega (arith, high_half h l q m small_l e, carry)

    exact : (h + (65536 - q * (l * v % 65536) / 65536)) % 65536 ≡ q * (m / 65536)
    exact = omega (arith, halves)

    below : m / 65536 < 65536
    below = omega (arith, halves, mul-le-mul_right (m / 65536) (positive q v inverse))

-- The high half of the quotient by q is at most the high half of the number, divided by q or by less.
at_most : (h l q s m : ℕ) → l < 65536 → 0 < s → s ≤ q → q * m ≡ 65536 * h + l → m / 65536 ≤ h / s
at_most h l q s m small pos le e =
    (le-div_iff_mul-le {k = s} {x = m / 65536} {y = h} pos).1
    (omega (arith, high_half h l q m small e, mul-le-mul_right (m / 65536) le, mul_comm (m / 65536) s))

-- Where the computation gives more than that, q does not divide the number.
pub not_divided : (h l q v s limit : ℕ) → l < 65536 → h < 65536 → q * v % 65536 ≡ 1 → 0 < s → s ≤ q → h / s ≤ limit → limit < high_part h l q v → ¬
    (q ∣ 65536 * h + l)
not_divided h l q v s limit small_l small_h inverse pos le bound more divides =
    omega (arith, at_most h l q s ((65536 * h + l) / q) small_l pos le whole, high_quotient h l q v ((65536 * h + l) / q) inverse small_l small_h whole)
  where
    whole : q * ((65536 * h + l) / q) ≡ 65536 * h + l
    whole = mul-div_cancel' q divides
