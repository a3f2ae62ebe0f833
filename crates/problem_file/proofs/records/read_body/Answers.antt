-- `problem_file::records::read_body` meets its contract. Assumes nothing.
use mathlib.Core.Path.{◌≡◌, sym, ap, fun_ext, ◌∙◌}
use mathlib.Core.List.{List, ◌++◌}
use Prim.Native.Nat.{ℕ, ◌+◌, ◌≤◌}
use native.Mathlib.Omega.{arith}
use lib.ListN.{length, get_or, take, drop}
use lib.IntN.{ℤ}
use borrow.Author.Rules.{rules}
use Rattle.rules.specs.Sizes.{most_rows, most_order}
use Rattle.rules.specs.Reader.{Place, got, each}
use Rattle.rules.specs.Files.{OR, SH, FC}
use Rattle.laws.specs.ReaderLaws.{Forward, Listed}
use Rattle.laws.specs.Soundness.{sound_OR, sound_SH, listed_all}
use Rattle.problem_file.specs.Prefix.{prefix_given, prefix_refused}
use Rattle.problem_file.specs.Values.{body_reader}
use Rattle.storing.specs.Records.{then_refused, then_given, refused_into}
use Rattle.storing.specs.Arrays.{list_at, filled_length}
use Rattle.storing.specs.Flat.{list_into, shifts_into, body_into}
use Rattle.storing.specs.Storing.{into, into_got, into_refused, file_end}
use Rattle.layout.specs.Flat.{filled}
use Rattle.place.specs.Places.{place, going_off, error_is}
use Rattle.problem_file.proofs.records.read_body.Goals as goal

fit : {A : Type 0} {n : ℕ} (room : List A) → n ≤ most_rows → length room ≡ most_rows → n ≤ length room
fit room h e = omega arith

orders-length : {orders : List ℕ} → orders ≡ filled most_rows 0 → length orders ≡ most_rows
orders-length e = ap length e ∙ filled_length {E = ℕ} most_rows 0

-- The orders and the shifts are read into the front of their arrays.
orders-read : (n : ℕ) (room : List ℕ) (s : List ℕ) (p : Place) → n ≤ length room → {new : List ℕ} {q : Place}
    → got new q ≡ into (list_into (take n room)) (OR (length (take n room)) s p)
    → (l : List ℕ) × (got l q ≡ OR n s p) × (list_into room l ≡ new ++ drop n room)
orders-read n room s p h e =
    into_got _ _ (prefix_given (λ n. OR n) n room h s p (λ l q read. ((sound_OR n).gives s p read).0.size) e)

shifts-read : (m : ℕ) (room : List ℤ) (s : List ℕ) (p : Place) → m ≤ length room → {new : List ℤ} {q : Place}
    → got new q ≡ into (shifts_into (take m room)) (SH (length (take m room)) s p)
    → (l : List ℤ) × (got l q ≡ SH m s p) × (shifts_into room l ≡ new ++ drop m room)
shifts-read m room s p h e =
    into_got _ _ (prefix_given (λ m. SH m) m room h s p (λ l q read. ((sound_SH m).gives s p read).0.size) e)

-- What is known of the orders that were read, and of the place after them.
orders-known : (n : ℕ) (s : List ℕ) (p q : Place) (l : List ℕ) → got l q ≡ OR n s p → Listed n 0 (λ j d. (1 ≤ d) × (d ≤ most_order)) l × Forward (2 + n) 1 s p q
orders-known n s p q l read = (sound_OR n).gives s p (sym read)

-- The orders that were read stand where they were stored.
orders-at : (n : ℕ) (s : List ℕ) (p q : Place) (l room stored : List ℕ) → got l q ≡ OR n s p → list_into room l ≡ stored → room ≡ filled most_rows 0 → n ≤ most_rows
    → (j : ℕ) → get_or stored j 0 ≡ get_or l j 0
orders-at n s p q l room stored read put empty h j =
    ap (λ (x : List ℕ). get_or x j 0) (sym put ∙ ap (λ (x : List ℕ). list_into x l) empty)
    ∙ list_at most_rows l (omega (arith, (orders-known n s p q l read).0.size, h)) j

-- The columns by the orders stored are those by the orders read.
same-columns : (n p m : ℕ) (s : List ℕ) (q : Place) (l stored : List ℕ) → ((j : ℕ) → get_or stored j 0 ≡ get_or l j 0)
    → each n (λ j. FC p m (get_or stored j 0) j) s q ≡ each n (λ j. FC p m (get_or l j 0) j) s q
same-columns n p m s q l stored same = ap (λ (f : ℕ → ℕ). each n (λ j. FC p m (f j) j) s q) (fun_ext (λ j. same j))

pub read_shifts-requires : goal.read_shifts-requires
unfolding most_rows
read_shifts-requires c =
    let orders = orders-read _ _ _ _ (fit _ c.requires.number_bound.2 (orders-length c.requires.orders_value)) c.in_ok-q.ensures in
    omega (arith, c.requires.number_bound, (orders-known _ _ _ _ _ orders.1).1.number)

pub read_columns-requires : goal.read_columns-requires
unfolding most_rows most_order
read_columns-requires c =
    let orders = orders-read _ _ _ _ (fit _ c.requires.number_bound.2 (orders-length c.requires.orders_value)) c.in_ok-q.ensures in
    let shifts = shifts-read _ _ _ _ (fit _ c.requires.number_bound.1 c.requires.shifts_len) c.in_ok-q-2.ensures in
    let head = c.args.problem.now.head in
    let pre = c.requires in
    let known = orders-known _ _ _ _ _ orders.1 in record {
      n_bound = (
        omega (arith, pre.number_bound, known.1.number, ((sound_SH head.m).gives _ _ (sym shifts.1)).1.number),
        pre.number_bound.1,
        pre.number_bound.2,
      );
      by_index = λ j. omega (
        arith,
        orders-at _ _ _ _ _ _ _ orders.1 orders.2 pre.orders_value pre.number_bound.2 j,
        listed_all orders.0 (λ d. d ≤ most_order) (omega arith) (λ j d b. b.1) known.0 j,
      );
      out_len = search rules;
    }

pub returns-in_err-q-clause-read : goal.returns-in_err-q-clause-read
unfolding body_reader
returns-in_err-q-clause-read c =
    going_off _ (error_is c.from_residual.ensures.1) ∙ refused_into _ (then_refused _ (prefix_refused (λ n. OR n) _ _ (fit _ c.requires.number_bound.2 (orders-length c.requires.orders_value)) _ _ c.in_err-q.ensures))

pub returns-in_err-q-2-clause-read : goal.returns-in_err-q-2-clause-read
unfolding body_reader
returns-in_err-q-2-clause-read c =
    let orders = orders-read _ _ _ _ (fit _ c.requires.number_bound.2 (orders-length c.requires.orders_value)) c.in_ok-q.ensures in
    going_off _ (error_is c.from_residual-in_err-q-2.ensures.1)
    ∙ refused_into _ (then_given _ orders.1 ∙ then_refused _ (prefix_refused (λ m. SH m) _ _ (fit _ c.requires.number_bound.1 c.requires.shifts_len) _ _ c.in_err-q-2.ensures))

pub returns-in_err-q-3-clause-read : goal.returns-in_err-q-3-clause-read
unfolding body_reader
returns-in_err-q-3-clause-read c =
    let head = c.args.problem.now.head in
    let orders = orders-read _ _ _ _ (fit _ c.requires.number_bound.2 (orders-length c.requires.orders_value)) c.in_ok-q.ensures in
    let shifts = shifts-read _ _ _ _ (fit _ c.requires.number_bound.1 c.requires.shifts_len) c.in_ok-q-2.ensures in
    let pre = c.requires in
    let same = same-columns head.n head.p head.m c.args.s.now (place c.in_ok-q-2.q) _ _ (orders-at _ _ _ _ _ _ _ orders.1 orders.2 pre.orders_value pre.number_bound.2) in
    going_off _ (error_is c.from_residual-in_err-q-3.ensures.1)
    ∙ refused_into _ (then_given _ orders.1 ∙ then_given _ shifts.1 ∙ then_refused _ (into_refused _ _ c.in_err-q-3.ensures ∙ same))

pub returns-clause-read : goal.returns-clause-read
unfolding body_reader
returns-clause-read c =
    let room = c.args.problem.now in
    let head = room.head in
    let orders = orders-read _ _ _ _ (fit _ c.requires.number_bound.2 (orders-length c.requires.orders_value)) c.in_ok-q.ensures in
    let shifts = shifts-read _ _ _ _ (fit _ c.requires.number_bound.1 c.requires.shifts_len) c.in_ok-q-2.ensures in
    let columns = into_got _ _ c.in_ok-q-3.ensures in
    let pre = c.requires in
    let same = same-columns head.n head.p head.m c.args.s.now (place c.in_ok-q-2.q) _ _ (orders-at _ _ _ _ _ _ _ orders.1 orders.2 pre.orders_value pre.number_bound.2) in
    file_end (body_into (head.orders, head.shifts, room.f)) (orders.0, shifts.0, columns.0) _ _
    (λ i. (orders.2 i, shifts.2 i, columns.2 i)) c.finish.ensures
    ∙ sym
    (ap (into (body_into (head.orders, head.shifts, room.f))) (then_given _ orders.1 ∙ then_given _ shifts.1 ∙ then_given _ (columns.1 ∙ same)))
