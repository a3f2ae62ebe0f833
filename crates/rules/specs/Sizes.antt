-- Document 01, "Sizes": the largest of each quantity. No other definition writes these numbers.
--   largest_prime, most_rows, most_order, most_shift, most_length      of p; of m and n; of d_j; of s_i, either way; of L
--   read_limit               the bytes of a file that are read
use Rattle.std.specs.Prelude.{ℕ}

-- "p | prime, 2 to 2,147,483,647"
unfoldable pub largest_prime : ℕ
largest_prime = 2_147_483_647

-- "m, n | 1 to 4 each, either may be the larger"
unfoldable pub most_rows : ℕ
most_rows = 4

-- "d_j | 1 to 16"
unfoldable pub most_order : ℕ
most_order = 16

-- "s_i | −1,000 to 1,000"
unfoldable pub most_shift : ℕ
most_shift = 1_000

-- "coefficients in one entry of P | 0 to 17, so degree at most 16"
unfoldable pub most_length : ℕ
most_length = 17

-- "reads at most 16,384 bytes of each (which changes no verdict)"
unfoldable pub read_limit : ℕ
read_limit = 16_384
