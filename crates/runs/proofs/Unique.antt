-- Each public function's contract leaves one result and, of the lent array, every number at the end.
use mathlib.Core.Path.{sym, ap, ◌∙◌}
use mathlib.Core.List.{List}
use Prim.Native.Nat.{ℕ}
use Rattle.unique.specs.OneResult.{OneResult}
use Rattle.runs.specs.Stored.{Left, going_one}
use Rattle.runs.proofs.run.Kinds as run_kinds
use Rattle.runs.proofs.run.Reads as run
use Rattle.runs.proofs.block.Kinds as block_kinds
use Rattle.runs.proofs.block.Reads as block

pub run_unique : OneResult run_kinds.ps run_kinds.r run.Asked run.Learnt
run_unique κs a z z' w w' asked h h' = let e = h ∙ sym h' in
    (going_one z z' (ap (λ (x : Left (List ℕ)). x.0) e), λ i. (tt, (tt, (tt, (tt, (tt, ((e i).1, (tt, tt))))))))

pub block_unique : OneResult block_kinds.ps block_kinds.r block.Asked block.Learnt
block_unique κs a z z' w w' asked h h' = let e = h ∙ sym h' in
    (going_one z z' (ap (λ (x : Left (List ℕ)). x.0) e), λ i. (tt, (tt, (tt, (tt, (tt, ((e i).1, (tt, (tt, tt)))))))))
