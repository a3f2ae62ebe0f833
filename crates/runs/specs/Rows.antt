-- Coefficients in a row, and rows of them, stored as they are read.
--   run_stored, block_stored       how the reading goes on, and what the array then holds
--   run_gives, block_gives           where it is not refused, the array holds what the rules read
use Rattle.std.specs.Prelude.{◌≡◌, List}
use Rattle.std.proofs.Math.Path.{sym, ap, fun_ext}
use Rattle.std.proofs.Common.{◌∙◌}
use Prim.Native.Nat.{ℕ, ◌+◌, ◌*◌}
use Rattle.rules.specs.Reader.{Place, Reader, field, each}
use Rattle.rules.specs.Files.{coefficient_test, residue}
use Rattle.place.specs.Places.{Going, going}
use Rattle.cursor.specs.Fields.{residue_field}
use Rattle.storing.specs.Storing.{into}
use Rattle.storing.specs.Flat.{put_from, run_into, put_row, block_into}
use Rattle.runs.specs.Stored.{Left, storing, steps, stored, reading, storing_reads, steps_read, reading_going}

-- One coefficient of a run.
abbrev pub run_step : (p last base : ℕ) → List ℕ → ℕ → List ℕ → Place → Left (List ℕ)
run_step p last base s k st q = storing (put_from base st k) st (field 4 (coefficient_test p last k) s q)

-- `count` coefficients modulo p, of which the one before `last` may not be 0, stored from `base` on.
unfoldable pub run_stored : (p last count base : ℕ) → List ℕ → List ℕ → Place → Left (List ℕ)
run_stored p last count base s st q = steps (run_step p last base s) count 0 st q

-- One row of a block.
abbrev pub block_step : (p count base stride : ℕ) → List ℕ → ℕ → List ℕ → Place → Left (List ℕ)
block_step p count base stride s i st q = run_stored p 0 count (base + i * stride) s st q

-- Rows of `count` coefficients modulo p, each stored a stride after the one before.
unfoldable pub block_stored : (p rows count base stride : ℕ) → List ℕ → List ℕ → Place → Left (List ℕ)
block_stored p rows count base stride s st q = steps (block_step p count base stride s) rows 0 st q

run_reads : (p last count base : ℕ) (s st : List ℕ) (q : Place)
    → reading (run_stored p last count base s st q).0 (run_stored p last count base s st q).1
    ≡ into (run_into base st) (each count (λ k. field 4 (coefficient_test p last k)) s q)
unfolding run_stored
run_reads p last count base s st q =
    steps_read (put_from base) (λ k. field 4 (coefficient_test p last k)) s (run_step p last base s) (λ k st q. storing_reads _ st _) count st q

-- Where nothing was refused, what the rules read was stored.
module _ (g : Going) (after : List ℕ) where
  pub run_gives : (p last count base : ℕ) (s st : List ℕ) (q : Place) → stored g after ≡ run_stored p last count base s st q
      → going g after ≡ into (run_into base st) (each count (λ k. field 4 (coefficient_test p last k)) s q)
  run_gives p last count base s st q e =
      sym (reading_going g after) ∙ ap (λ (x : Left (List ℕ)). reading x.0 x.1) e ∙ run_reads p last count base s st q

  pub block_gives : (p rows count base stride : ℕ) (s st : List ℕ) (q : Place) → stored g after ≡ block_stored p rows count base stride s st q
      → going g after ≡ into (block_into base stride st) (each rows (λ i. each count (λ k. field 4 (residue p))) s q)
  unfolding block_stored
  block_gives p rows count base stride s st q e =
      sym (reading_going g after)
      ∙ ap (λ (x : Left (List ℕ)). reading x.0 x.1) e
      ∙ steps_read (put_row base stride) (λ i. each count (λ k. field 4 (residue p))) s (block_step p count base stride s)
      (λ i st q. run_reads p 0 count (base + i * stride) s st q ∙ ap (λ (f : ℕ → Reader ℕ). into (put_row base stride st i) (each count f s q)) (fun_ext (λ k. residue_field p k)))
      rows st q
