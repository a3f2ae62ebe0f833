use Rattle.std.proofs.Common.{sym, ◌∙◌, rules}
use Rattle.std.proofs.lemmas.Bool.{false≢true}
use Rattle.prepared.specs.Canonical.{Numbers, Columns}
use Rattle.prepared.specs.Given.{given_canonical}
use Rattle.prepared.specs.Written.{canonical_given}
use Rattle.prepared.proofs.given.Goals as goal
use Rattle.prepared.proofs.given.Goals.{then-numbers_given, else-numbers_given}

-- With all the others it is p that settles it, …
pub returns-then-columns_given : goal.returns-then-columns_given
returns-then-columns_given c =
    let b = c.args.problem.now in
    let numbers : Numbers b.head = search rules in
    let columns : Columns b.head.p b.head.m b.head.n b.head.orders b.f = search rules in
    record {
      holds = λ e. canonical_given b.head b.f (record {
        sized = numbers.sized;
        orders_in = numbers.orders_in;
        shifts_in = numbers.shifts_in;
        columns_in = columns;
        prime = c.prime_given.ensures.holds e;
      });
      fails = λ e g. c.prime_given.ensures.fails e (given_canonical b.head b.f g).prime;
    }

-- … and each part that fails shuts the form out.
pub returns-else-columns_given : goal.returns-else-columns_given
returns-else-columns_given c =
    let b = c.args.problem.now in
    record {
      holds = λ e. absurd (false≢true (sym c.if-columns_given.false ∙ e));
      fails = λ e g.
          let all = given_canonical b.head b.f g in
          elim c.if-numbers_given.branch [
            | then-numbers_given w ↦ w.columns_given.ensures.fails (sym w.value-is ∙ e) all.columns_in
            | else-numbers_given w ↦ c.numbers_given.ensures.fails w.if-numbers_given.false
                (record { sized = all.sized; orders_in = all.orders_in; shifts_in = all.shifts_in })
          ];
    }
