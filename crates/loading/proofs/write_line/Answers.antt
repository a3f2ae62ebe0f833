use Rattle.std.proofs.Common.{refl, arith, List, ℕ, length-take, Option, take}
use Rattle.std.specs.Fn.{FnOnceReturnsAtMut, Once}
use Rattle.std.specs.Io.KnownBytes.{Appends}
use Rattle.std.proofs.lemmas.Result.{on_ok_weaker}
use denote.Ref.{MutBor}
use Rattle.loading.specs.Lines.{WritesLine}
use Rattle.loading.proofs.write_line.Goals as goal

returned : {F : Type 0} (g : Once F (MutBor (List ℕ) × Unit {0}) (ℕ × (MutBor (List ℕ) × Unit {0}))) (f : F) (p q : MutBor (List ℕ)) (n : ℕ) → g.post f (p, tt) (n, (q, tt))
    → FnOnceReturnsAtMut g f p.now n q.now
returned g f p q n h = record { shown = p; shows = refl; left = q; met = h; leaves = refl }

written : {F : Type 0} (g : Once F (MutBor (List ℕ) × Unit {0}) (ℕ × (MutBor (List ℕ) × Unit {0}))) (f : F) (x y : List ℕ) (n : ℕ) (old new : Option (List ℕ))
    → FnOnceReturnsAtMut g f x n y → Appends old new (take n y) → WritesLine g f old new
written g f x y n old new h e = record { before = x; end = n; after = y; puts = h; appends = e }

pub slice_bounds-text-end : goal.slice_bounds-text-end
slice_bounds-text-end g c =
    omega (arith, c.requires.within _ c.put-end.result c.put-end.new.arg2 refl (returned _ _ _ _ _ c.put-end.ensures))

pub slice_bounds-write_all-end : goal.slice_bounds-write_all-end
slice_bounds-write_all-end g c =
    omega (arith, length-take c.put-end.result c.put-end.new.arg2, c.requires.within _ c.put-end.result c.put-end.new.arg2 refl (returned _ _ _ _ _ c.put-end.ensures))

pub returns : goal.returns
returns g c = on_ok_weaker _ (written _ _ _ _ _ _ _ (returned _ _ _ _ _ c.put-end.ensures)) c.write_all.ensures.bytes
