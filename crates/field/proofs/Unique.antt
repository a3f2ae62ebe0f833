-- Each public function's contract leaves one result.
use mathlib.Core.Path.{refl, sym, ◌∙◌}
use Rattle.unique.specs.OneResult.{OneResult}
use Rattle.field.proofs.modulus_of.Kinds as modulus_of_kinds
use Rattle.field.proofs.modulus_of.Reads as modulus_of
use Rattle.field.proofs.add_mod.Kinds as add_mod_kinds
use Rattle.field.proofs.add_mod.Reads as add_mod
use Rattle.field.proofs.sub_mod.Kinds as sub_mod_kinds
use Rattle.field.proofs.sub_mod.Reads as sub_mod
use Rattle.field.proofs.neg_mod.Kinds as neg_mod_kinds
use Rattle.field.proofs.neg_mod.Reads as neg_mod
use Rattle.field.proofs.mul_mod.Kinds as mul_mod_kinds
use Rattle.field.proofs.mul_mod.Reads as mul_mod
use Rattle.field.proofs.inverse_mod.Kinds as inverse_mod_kinds
use Rattle.field.proofs.inverse_mod.Reads as inverse_mod

pub modulus_of_unique : OneResult modulus_of_kinds.ps modulus_of_kinds.r modulus_of.Asked modulus_of.Learnt
modulus_of_unique κs a z z' w w' asked h h' = (h ∙ sym h', refl)

pub add_mod_unique : OneResult add_mod_kinds.ps add_mod_kinds.r add_mod.Asked add_mod.Learnt
add_mod_unique κs a z z' w w' asked h h' = (h ∙ sym h', refl)

pub sub_mod_unique : OneResult sub_mod_kinds.ps sub_mod_kinds.r sub_mod.Asked sub_mod.Learnt
sub_mod_unique κs a z z' w w' asked h h' = (h ∙ sym h', refl)

pub neg_mod_unique : OneResult neg_mod_kinds.ps neg_mod_kinds.r neg_mod.Asked neg_mod.Learnt
neg_mod_unique κs a z z' w w' asked h h' = (h ∙ sym h', refl)

pub mul_mod_unique : OneResult mul_mod_kinds.ps mul_mod_kinds.r mul_mod.Asked mul_mod.Learnt
mul_mod_unique κs a z z' w w' asked h h' = (h ∙ sym h', refl)

pub inverse_mod_unique : OneResult inverse_mod_kinds.ps inverse_mod_kinds.r inverse_mod.Asked inverse_mod.Learnt
inverse_mod_unique κs a z z' w w' asked h h' = (h ∙ sym h', refl)
