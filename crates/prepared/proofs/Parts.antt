-- Parts of an array, lent as slices: what is said of a part is said of the array.
--   get_or_part              a number of a part
--   parts_given              the first n numbers of an array, and the others
--   below_part               the numbers from one place to another
--   row_part, column_part    an entry of a column, and a column of F
--   all_given                each number below n, by the library's `all`
use Rattle.std.proofs.Common.{◌≡◌, ℕ, List, Bool, true, false, length, take, drop, get_or, ◌+◌, ◌-◌, ◌*◌, ◌<◌, ◌≤◌, ◌∙◌, sym, ap, subst, arith, lt-ltb, le-ltb, length-drop, ltb, zero-add}
use Rattle.std.specs.Prelude.{◌↔◌}
use Rattle.std.proofs.lemmas.Bool.{false≢true}
use Rattle.std.proofs.Math.Logic.{by_cases}
use Rattle.std.proofs.Math.Decide.{dec_lt}
use Rattle.std.proofs.lemmas.List.FromFn.{length-range_with_len, get_or-range_with_len}
use Rattle.std.specs.Bool.{MatchBool}
use Rattle.std.specs.List.{range_with_len, AllWithin, HoldsAt}
use Rattle.std.proofs.lemmas.List.{get_or-take, get_or-drop, length-take}
use Rattle.rules.specs.Sizes.{most_rows, most_order}
use Rattle.layout.specs.Flat.{column_place}
use Rattle.layout.specs.Settles.{Settles}
use Rattle.prepared.specs.Settling.{settled_yes, settled_no}
use Rattle.prepared.specs.Canonical.{Below, Row, Column}

pub get_or_part : {A : Type 0} (from n : ℕ) (xs : List A) (d : A) (i : ℕ) → i < n → get_or (take n (drop from xs)) i d ≡ get_or xs (from + i) d
get_or_part from n xs d i h = get_or-take n (drop from xs) i d h ∙ get_or-drop from xs i d

pub length_part : {A : Type 0} (from n : ℕ) (xs : List A) → from + n ≤ length xs → length (take n (drop from xs)) ≡ n
length_part from n xs h = omega (arith, length-take n (drop from xs), length-drop from xs)

-- The first n numbers, and the others.
pub parts_given : {A : Type 0} (Fits : Bool → A → Type 0) (d : A) (most n : ℕ) (xs : List A) (r : Bool) → n ≤ most → length xs ≡ most
    → ((j : ℕ) → j < length (take n xs) → Fits true (get_or (take n xs) j d))
    → ((r ≡ true) ↔ ((j : ℕ) → j < length (take (most - n) (drop n xs)) → Fits false (get_or (take (most - n) (drop n xs)) j d)))
    → Settles ((j : ℕ) → j < most → Fits (ltb j n) (get_or xs j d)) r
parts_given Fits d most n xs r small long first rest =
    let first_long : length (take n xs) ≡ n = omega (arith, length-take n xs) in
    let rest_long : length (take (most - n) (drop n xs)) ≡ most - n = length_part n (most - n) xs (omega arith) in
    record {
      holds = λ e j h. by_cases (dec_lt j n)
          (λ lt. subst (λ t. Fits t (get_or xs j d)) (sym (lt-ltb j n lt))
          (subst (Fits true) (get_or-take n xs j d lt) (first j (omega arith))))
          (λ over.
          let back : n + (j - n) ≡ j = omega arith in
          subst (λ t. Fits t (get_or xs j d)) (sym (le-ltb j n (omega arith)))
          (subst (Fits false) (get_or_part n (most - n) xs d (j - n) (omega arith) ∙ ap (λ k. get_or xs k d) back)
          (rest.0 e (j - n) (omega arith))));
      fails = λ e h. false≢true (sym e ∙ rest.1 (λ j inside.
          subst (Fits false) (sym (get_or_part n (most - n) xs d j (omega arith)))
          (subst (λ t. Fits t (get_or xs (n + j) d)) (le-ltb (n + j) n (omega arith)) (h (n + j) (omega arith)))));
    }

-- The numbers from one place to another, …
pub below_part : (from n limit : ℕ) (f : List ℕ) {lo hi lo' hi' : ℕ} → hi ≤ n → lo' ≡ from + lo → hi' ≡ from + hi
    → Below (take n (drop from f)) lo hi limit ↔ Below f lo' hi' limit
below_part from n limit f {lo} {hi} {lo'} {hi'} inside low high = (
  λ h x l r.
      let back : from + (x - from) ≡ x = omega arith in
      subst (λ y. y < limit) (get_or_part from n f 0 (x - from) (omega arith) ∙ ap (λ k. get_or f k 0) back)
      (h (x - from) (omega arith) (omega arith)),
  λ h x l r. subst (λ y. y < limit) (sym (get_or_part from n f 0 x (omega arith))) (h (from + x) (omega arith) (omega arith)),
)

-- … an entry of a column, …
pub row_part : (p d from n base at : ℕ) (f : List ℕ) → d ≤ most_order → base + most_order ≤ n → at ≡ from + base
    → Row p d (take n (drop from f)) base ↔ Row p d f at
row_part p d from n base at f small inside here = (
  λ h. record {
    below = (below_part from n p f (omega arith) (omega arith) (omega arith)).0 h.below;
    ends = (below_part from n 1 f (omega arith) (omega arith) (omega arith)).0 h.ends;
  },
  λ h. record {
    below = (below_part from n p f (omega arith) (omega arith) (omega arith)).1 h.below;
    ends = (below_part from n 1 f (omega arith) (omega arith) (omega arith)).1 h.ends;
  },
)

-- … and a column of F.
pub column_part : (p m d j from n : ℕ) (f : List ℕ) → m ≤ most_rows → d ≤ most_order → from ≡ column_place 0 j 0 → n ≡ most_rows * most_order
    → Column p m d (take n (drop from f)) 0 ↔ Column p m d f j
unfolding column_place most_rows most_order
column_part p m d j from n f rows small here long = (
  λ h. record {
    rows = λ i hi. (row_part p d from n (column_place i 0 0) (column_place i j 0) f small (omega arith) (omega arith)).0 (h.rows i hi);
    no_more = (below_part from n 1 f (omega arith) (omega arith) (omega arith)).0 h.no_more;
  },
  λ h. record {
    rows = λ i hi. (row_part p d from n (column_place i 0 0) (column_place i j 0) f small (omega arith) (omega arith)).1 (h.rows i hi);
    no_more = (below_part from n 1 f (omega arith) (omega arith) (omega arith)).1 h.no_more;
  },
)

-- What `all` finds in the numbers below n.
pub all_given : (n : ℕ) (Given : ℕ → Type 0) (r : Bool)
    → MatchBool r (AllWithin (λ x. x < n → Given x) (range_with_len 0 n) 0 (length (range_with_len 0 n)))
    ((k : ℕ) × (k < length (range_with_len 0 n)) × HoldsAt (λ x. x < n → ¬ Given x) (range_with_len 0 n) k)
    → Settles ((i : ℕ) → i < n → Given i) r
all_given n Given true h =
    settled_yes (λ i b. (rw (get_or-range_with_len 0 n i 0 b ∙ zero-add i) at (h i 0 (omega arith) (omega (arith, length-range_with_len 0 n)))) b)
all_given n Given false (k, b, h) =
    let within : k < n = omega (arith, length-range_with_len 0 n) in
    settled_no (λ all. (rw (get_or-range_with_len 0 n k 0 within ∙ zero-add k) at (h 0)) within (all k within))
