-- No number before place `from`, where a block starts or the table ends, divides p.
use Rattle.std.proofs.Common.{◌≡◌, ℕ, ◌+◌, ◌*◌, ◌%◌, ◌<◌, ◌≤◌, List, length, get_or, sym, mul-le-mul, arith}
use mathlib.Core.Logic.{by_cases}
use native.Mathlib.Decide.{dec_lt}
use Rattle.divisors.specs.Found.{block, InBlock, InTable, first, found_one, found_none}
use Rattle.divisors.specs.Table.{Table, Clear, clear_both, block_start, block_after, room}
use Rattle.divisors.proofs.divisor_among.Goals as goal

-- If the first number of a block has a square above p, no number from there on is looked for.
enough : {q v : List ℕ} {a p : ℕ} → Table q v → a % block ≡ 0 → Clear q 0 a p → p < get_or q a 0 * get_or q a 0 → (i : ℕ) → ¬ InTable q p i
enough {q} {v} {a} table start clear above i h =
    by_cases (dec_lt i a) (λ before. clear.none i (omega arith) before h.divides)
    (λ after. omega (arith, squares (block_after table a i start (omega arith) h.inside), h.square))
  where
    squares : get_or q a 0 ≤ first q i → get_or q a 0 * get_or q a 0 ≤ first q i * first q i
    squares le = mul-le-mul le le

-- What is found in a block that starts with a square of at most p is found in the table.
found : {q : List ℕ} {a p : ℕ} (i : ℕ) → a % block ≡ 0 → a + block ≤ length q → get_or q a 0 * get_or q a 0 ≤ p → InBlock q a p i → InTable q p i
found {q} {a} {p} i start whole square h = record {
  inside = omega (arith, h.end);
  square = rw (sym (block_start q a i start h.start h.end)) square;
  divides = h.divides;
}

-- A block that starts before the end of the table is whole, and its first number is what the code reads.
pub returns-then-p-first : goal.returns-then-p-first
returns-then-p-first c =
    let (_, start, clear) = c.loop-from.invariant in
    found_none (enough c.requires start clear (rw c.from-first.ensures at c.if-p-first.true))

pub returns-then-divisor_in_block : goal.returns-then-divisor_in_block
returns-then-divisor_in_block c =
    let (_, start, clear) = c.loop-from.invariant in
    let (i, h) = c.divisor_in_block.ensures.some c.if-divisor_in_block.true in
    found_one i (found i start (room start c.requires.blocks c.loop-from-test.true) (rw c.from-first.ensures at c.if-p-first.false) h)

pub loop-from-preserved : goal.loop-from-preserved
loop-from-preserved c =
    let (_, start, clear) = c.loop-from.invariant in
    let none = c.divisor_in_block.ensures.none c.if-divisor_in_block.false in (
      room start c.requires.blocks c.loop-from-test.true,
      omega (arith, start),
      clear_both clear (record { none = λ i lo hi h. none i (record { start = lo; end = hi; divides = h }) }),
    )
