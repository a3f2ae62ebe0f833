-- Each public function's contract leaves one result.
use mathlib.Core.Path.{refl}
use Rattle.unique.specs.OneResult.{OneResult}
use Rattle.layout.specs.Settles.{settles_unique}
use Rattle.elimination.proofs.dependent.Kinds as dependent_kinds
use Rattle.elimination.proofs.dependent.Reads as dependent
use Rattle.elimination.proofs.singular.Kinds as singular_kinds
use Rattle.elimination.proofs.singular.Reads as singular

pub dependent_unique : OneResult dependent_kinds.ps dependent_kinds.r dependent.Asked dependent.Learnt
dependent_unique κs a z z' w w' asked h h' = (settles_unique z z' h h', refl)

pub singular_unique : OneResult singular_kinds.ps singular_kinds.r singular.Asked singular.Learnt
singular_unique κs a z z' w w' asked h h' = (settles_unique z z' h h', refl)
