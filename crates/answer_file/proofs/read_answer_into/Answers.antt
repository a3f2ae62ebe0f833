-- `answer_file::read_answer_into` meets its contract. Assumes nothing.
use Rattle.std.proofs.Common.{◌≡◌, sym, ap, ◌∙◌, ℕ, List, Bool, Ok, Err}
use Rattle.rules.specs.Reader.{Place, Refusal, Result, refused, front}
use Rattle.rules.specs.Sizes.{most_rows}
use Rattle.layout.specs.Flat.{filled, square}
use Rattle.storing.specs.Records.{refused_into}
use Rattle.storing.specs.Flat.{answer_into}
use Rattle.storing.specs.Storing.{into, into_got, into_refused}
use Rattle.answer_file.specs.Values.{read_answer, answer_parts, answer_value, answer_from, answer_given, answer_with, read_answer_refused}
use Rattle.answer_file.proofs.read_answer_into.Goals as goal

-- The answer is read at the file's front.
at-front : (p m n : ℕ) (due : Bool) (t : List ℕ) (room : List ℕ × List ℕ × List ℕ) {x : Result (List ℕ × List ℕ × List ℕ)} {q : Place}
    → x ≡ into (answer_into room) (answer_parts p m n due t q) → q ≡ front 1 → x ≡ into (answer_into room) (answer_parts p m n due t (front 1))
at-front p m n due t room e at = e ∙ ap (λ (q : Place). into (answer_into room) (answer_parts p m n due t q)) at

-- What was refused is what the rules refuse.
refused-so : (p m n : ℕ) (due : Bool) (t : List ℕ) (room : List ℕ × List ℕ × List ℕ) {x : Refusal} {q : Place}
    → refused x ≡ into (answer_into room) (answer_parts p m n due t q) → q ≡ front 1 → refused x ≡ read_answer p m n due t
refused-so p m n due t room e at =
    refused_into answer_from (sym (into_refused _ _ (at-front p m n due t room e at))) ∙ sym (answer_given p m n due t)

pub narrow-requires : goal.narrow-requires
narrow-requires c =
    let pre = c.requires.m_le_most_rows in
    read_answer_refused _ _ _ _ _ pre.0 pre.1 (sym (refused-so _ _ _ _ _ _ c.in-Err.ensures c.front.ensures))

pub returns-in-Err : goal.returns-in-Err
unfolding answer_value
returns-in-Err c =
    (λ i. (Err (c.narrow.ensures i), c.no_answer.ensures i)) ∙ ap answer_value (refused-so _ _ _ _ _ _ c.in-Err.ensures c.front.ensures)

pub returns : goal.returns
unfolding answer_value into filled most_rows
returns c =
    let (a, read, stands) = into_got _ _ (at-front _ _ _ _ _ _ c.in_default.ensures c.front.ensures) in
    let same = sym stands ∙ (λ i. answer_into (filled square 0, c.requires.entries_value i, filled square 0) a) in
    (λ i. (Ok tt, answer_with (same i).0 (same i).1 (same i).2)) ∙ ap answer_value (ap (into answer_from) read ∙ sym (answer_given _ _ _ _ _))
