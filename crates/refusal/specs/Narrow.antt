-- The numbers of a refusal, whose offsets fit 32 bits.
--   Narrow, from_front       both offsets of a place fit
--   refusal_value, no_refusal        a refusal's numbers, and none
use Rattle.std.specs.Prelude.{List, ℕ, ◌<◌}
use Rattle.std.proofs.Common.{arith}
use Rattle.rules.specs.Reader.{Place, Refusal, front}
use Rattle.laws.specs.ReaderLaws.{Refusing}
use Rattle.verdict.specs.declared.Refusal.{Refusal as Refused}

-- Both numbers of a place that are offsets fit 32 bits.
pub record Narrow (p : Place) : Type 0 where
  pub start_fits : p.start < 4_294_967_296
  pub at_fits : p.at < 4_294_967_296

-- A refusal by a reader that started at the front of a file.
pub from_front : {k c file : ℕ} {s : List ℕ} {x : Refusal} → Refusing k c s (front file) x → k < 4_294_967_296 → Narrow x.place
from_front h le = record { start_fits = omega (arith, h.place.start (omega arith), h.place.at); at_fits = omega (arith, h.place.at) }

-- A refusal's numbers, and none.
abbrev pub refusal_value : Refusal → Refused
refusal_value x = record { code = x.code; file = x.place.file; number = x.place.number; at = x.place.at; start = x.place.start }

abbrev pub no_refusal : Refused
no_refusal = record { code = 0; file = 0; number = 0; at = 0; start = 0 }
