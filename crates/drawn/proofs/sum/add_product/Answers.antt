use Rattle.drawn.specs.Sums.{added_whole, added_less}
use Rattle.drawn.proofs.sum.add_product.Goals as goal

pub returns-then-next-room : goal.returns-then-next-room
returns-then-next-room c =
    rw (c.from.ensures, c.from-2.ensures)
    (added_whole c.args.p (rw (c.from.ensures, c.from-2.ensures, c.from-room.ensures) at c.if-next-room.true))

pub returns-else-next-room : goal.returns-else-next-room
returns-else-next-room c =
    rw (c.from.ensures, c.from-2.ensures, c.from-room.ensures)
    (added_less c.args.p c.requires.p_le_largest_prime.0 c.requires.p_le_largest_prime.1 c.requires.x_lt_p.0 c.requires.x_lt_p.1
    (rw (c.from.ensures, c.from-2.ensures, c.from-room.ensures) at c.if-next-room.false))
