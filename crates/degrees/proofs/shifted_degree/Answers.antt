use Rattle.std.proofs.Common.{◌≡◌, ap₂, pos, to_z, of_z, w32, rules, ◌+ℤ◌, ◌-◌, arith, sym, ap, ◌∙◌}
use Rattle.std.proofs.lemmas.Int.{ints, to_z_pos, to_z-of_z}
use Rattle.std.specs.Prelude.{Some}
use Rattle.rules.specs.Conditions.{shifted_degree_of}
use Rattle.rules.specs.Sizes.{most_length, most_shift}
use Rattle.laws.specs.DegreeLaws.{shifted_zero, shifted_some}
use Rattle.degrees.proofs.shifted_degree.Goals as goal

pub returns-in_err-degree : goal.returns-in_err-degree
returns-in_err-degree c =
    let none : c.args.length ≡ 0 = omega (arith, c.in_err-degree.ensures) in
    c.from_residual.ensures ∙ sym (ap (λ n. shifted_degree_of n c.args.shift) none ∙ shifted_zero c.args.shift)

pub returns : goal.returns
unfolding most_length most_shift
returns c =
    let length = c.args.length in
    let shift = c.args.shift in
    let degree_is : c.in_ok-degree.degree ≡ length - 1 = omega (arith, c.in_ok-degree.ensures) in
    let degree_back : to_z w32 c.in_ok-degree.degree ≡ pos c.in_ok-degree.degree = to_z_pos w32 _ (omega (arith, c.in_ok-degree.ensures)) in
    let shift_back : to_z w32 (of_z w32 shift) ≡ shift = search rules in
    ap Some (to_z-of_z w32 _ (omega (arith, ints, c.in_ok-degree.ensures)) ∙ ap₂ ◌+ℤ◌ (degree_back ∙ ap pos degree_is) shift_back)
    ∙ sym (ap (λ n. shifted_degree_of n shift) (omega (arith, c.in_ok-degree.ensures)) ∙ shifted_some (length - 1) shift)
