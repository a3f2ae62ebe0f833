-- `determinant` and `expand_row` meet their contracts, the two together.
use native.Mathlib.Omega.{arith}
use mathlib.Core.Path.{◌≡◌, sym, ap, subst, ◌∙◌}
use lib.ListN.{get_or, length, length-replicate}
use Prim.Native.Nat.{ℕ, suc, ◌+◌, ◌-◌, ◌<◌}
use Rattle.convolution.specs.Padded.{capacity}
use Rattle.determinant.specs.Sign.{SignedEntry}
use Rattle.determinant.specs.Square.{Asked, Determinant, asked_suc}
use Rattle.determinant.specs.Expansion.{Expanded, determinant_one, expanded_none, expanded_zero, expanded_more, expanded_all, asked_left}
use Rattle.determinant.proofs.+determinant_expand_row.Goals.{expand_row-then-length-gt0, expand_row-else-length-gt0}
use Rattle.determinant.proofs.+determinant_expand_row.Goals as goal

pub determinant-returns-then-square-eq1 : goal.determinant-returns-then-square-eq1
determinant-returns-then-square-eq1 t c =
    let a = c.args in
    let l = c.signed_entry.result in
    let one = c.if-square-eq1.true in
    let asked = subst (λ n. Asked a.limits.now.modulus n a.square.now.row a.basis.now.entries a.basis.now.lengths a.limits.now.tops a.square.now.columns) one c.requires in
    let entry = subst (λ n. SignedEntry a.limits.now.modulus.p a.square.now.row (get_or a.square.now.columns 0 0) n 0 a.basis.now.entries l) c.entry_length-length.ensures c.signed_entry.ensures in
    subst (λ n. Determinant a.limits.now.modulus.p n a.square.now.row a.basis.now.entries a.limits.now.tops a.square.now.columns l) (sym one) (determinant_one asked entry)

pub expand_row-loop-j-init : goal.expand_row-loop-j-init
expand_row-loop-j-init t c =
    let a = c.args in
    let sums = c.no_sums-sums.ensures in
    let start = expanded_none a.limits.now.modulus.p a.square.now.row (a.square.now.size - 1) a.basis.now.entries a.limits.now.tops a.square.now.columns in (
      omega arith,
      (
        ap length sums ∙ length-replicate {A = ℕ} capacity 0,
        subst (Expanded a.limits.now.modulus.p a.square.now.row (a.square.now.size - 1) 0 a.basis.now.entries a.limits.now.tops a.square.now.columns) (sym sums) start,
      ),
    )

pub expand_row-determinant-minor-requires : goal.expand_row-determinant-minor-requires
expand_row-determinant-minor-requires t c =
    let asked = asked_suc c.requires.asked in (
      omega (arith, c.decreases, c.requires.le_size),
      asked_left asked {j = c.loop-j.j} c.without.result (omega arith) (omega (arith, c.requires.le_size)) c.without.ensures,
    )

pub expand_row-loop-j-preserved : goal.expand_row-loop-j-preserved
expand_row-loop-j-preserved t c =
    let loop = c.loop-j in
    let a = c.args in
    let asked = asked_suc c.requires.asked in
    let counted = c.entry_length-length.ensures in
    let again : loop.j < suc (a.square.now.size - 1) = omega arith in
    let done = Expanded a.limits.now.modulus.p a.square.now.row (a.square.now.size - 1) (loop.j + 1) a.basis.now.entries a.limits.now.tops a.square.now.columns in (
      omega arith,
      elim c.if-length-gt0.branch [
        | expand_row-then-length-gt0 w ↦
            subst (λ s. (length s ≡ capacity) × done s) (sym w.sums-is)
            (expanded_more asked w.without.result again (sym counted) w.if-length-gt0.true w.without.ensures w.determinant-minor.ensures
            w.signed_entry-entry.ensures loop.invariant.1.0 w.add_product.ensures loop.invariant.1.1)
        | expand_row-else-length-gt0 w ↦ (
          ap length w.sums-is ∙ loop.invariant.1.0,
          subst done (sym w.sums-is) (expanded_zero asked again (omega (arith, counted, w.if-length-gt0.false)) loop.invariant.1.1),
        )
      ],
    )

pub expand_row-returns : goal.expand_row-returns
expand_row-returns t c =
    let loop = c.loop-j in
    let a = c.args in
    let asked = c.requires.asked in
    let l = c.residues.result in
    let size : suc (a.square.now.size - 1) ≡ a.square.now.size = omega (arith, asked.some) in
    let end : loop.j ≡ suc (a.square.now.size - 1) = omega arith in
    let done = subst (λ j. Expanded a.limits.now.modulus.p a.square.now.row (a.square.now.size - 1) j a.basis.now.entries a.limits.now.tops a.square.now.columns loop.sums) end loop.invariant.1.1 in
    subst (λ n. Determinant a.limits.now.modulus.p n a.square.now.row a.basis.now.entries a.limits.now.tops a.square.now.columns l) size (expanded_all (asked_suc asked) done c.residues.ensures)
