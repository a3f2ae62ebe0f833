-- Each public function's contract leaves one result and, of the lent sums, every number at the end.
use mathlib.Core.Path.{refl, sym, ◌∙◌}
use Rattle.unique.specs.OneResult.{OneResult}
use Rattle.polynomial.specs.Coefficients.{ends_unique}
use Rattle.convolution.specs.Padded.{Remainder, filled_unique}
use Rattle.convolution.specs.Unpadded.{coefficient, one_unpadded}
use Rattle.convolution.proofs.no_coefficients.Kinds as no_coefficients_kinds
use Rattle.convolution.proofs.no_coefficients.Reads as no_coefficients
use Rattle.convolution.proofs.no_sums.Kinds as no_sums_kinds
use Rattle.convolution.proofs.no_sums.Reads as no_sums
use Rattle.convolution.proofs.add_product.Kinds as add_product_kinds
use Rattle.convolution.proofs.add_product.Reads as add_product
use Rattle.convolution.proofs.residues.Kinds as residues_kinds
use Rattle.convolution.proofs.residues.Reads as residues
use Rattle.convolution.proofs.length_of.Kinds as length_of_kinds
use Rattle.convolution.proofs.length_of.Reads as length_of
use Rattle.convolution.proofs.unpadded.Kinds as unpadded_kinds
use Rattle.convolution.proofs.unpadded.Reads as unpadded

pub no_coefficients_unique : OneResult no_coefficients_kinds.ps no_coefficients_kinds.r no_coefficients.Asked no_coefficients.Learnt
no_coefficients_unique κs a z z' w w' asked h h' = (h ∙ sym h', refl)

pub no_sums_unique : OneResult no_sums_kinds.ps no_sums_kinds.r no_sums.Asked no_sums.Learnt
no_sums_unique κs a z z' w w' asked h h' = (h ∙ sym h', refl)

pub add_product_unique : OneResult add_product_kinds.ps add_product_kinds.r add_product.Asked add_product.Learnt
add_product_unique κs a z z' w w' asked h h' = (refl, λ i. ((h ∙ sym h') i, (tt, (tt, (tt, (tt, (tt, tt)))))))

pub residues_unique : OneResult residues_kinds.ps residues_kinds.r residues.Asked residues.Learnt
residues_unique κs a z z' w w' asked h h' = (filled_unique (Remainder a.1.1.0 a.0.now) (λ k x x' e e'. e ∙ sym e') h h', refl)

pub length_of_unique : OneResult length_of_kinds.ps length_of_kinds.r length_of.Asked length_of.Learnt
length_of_unique κs a z z' w w' asked h h' = (ends_unique (coefficient a.0.now) z z' h h', refl)

pub unpadded_unique : OneResult unpadded_kinds.ps unpadded_kinds.r unpadded.Asked unpadded.Learnt
unpadded_unique κs a z z' w w' asked h h' = (one_unpadded h h', refl)
