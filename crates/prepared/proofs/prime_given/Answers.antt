use Rattle.std.proofs.Common.{sym, subst, ◌∙◌, eq-eqb}
use Rattle.std.proofs.lemmas.Bool.{false≢true}
use Rattle.algebra.specs.Prime.{Prime}
use Rattle.laws.specs.FieldTests.{is_prime_iff}
use Rattle.prepared.specs.BenchPrime.{bench_prime}
use Rattle.prepared.proofs.prime_given.Goals as goal

-- It is the prime of the bench jobs, …
pub returns-then-p-eq-BENCH_PRIME : goal.returns-then-p-eq-BENCH_PRIME
returns-then-p-eq-BENCH_PRIME c =
    record {
      holds = λ e. subst (λ p. Prime p) (sym c.if-p-eq-BENCH_PRIME.true) bench_prime;
      fails = λ e h. false≢true (sym e ∙ eq-eqb c.args.p 251 c.if-p-eq-BENCH_PRIME.true);
    }

-- … or one that is tested.
pub returns-else-p-eq-BENCH_PRIME : goal.returns-else-p-eq-BENCH_PRIME
returns-else-p-eq-BENCH_PRIME c =
    record {
      holds = λ e. (is_prime_iff c.args.p).0 (sym c.is_prime.ensures ∙ e);
      fails = λ e h. false≢true (sym e ∙ c.is_prime.ensures ∙ (is_prime_iff c.args.p).1 h);
    }
