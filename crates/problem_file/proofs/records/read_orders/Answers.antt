-- `problem_file::records::read_orders` meets its contract. Assumes nothing.
use mathlib.Core.Path.{sym, ap, ◌∙◌}
use native.Mathlib.Omega.{arith}
use Rattle.rules.specs.Sizes.{most_order}
use Rattle.rules.specs.Files.{OR_mark, OR}
use Rattle.laws.specs.Soundness.{sound_size}
use Rattle.place.specs.Places.{going_off, error_is}
use Rattle.storing.specs.Flat.{list_into}
use Rattle.storing.specs.Storing.{into}
use Rattle.storing.specs.Records.{marked, closed_into, list_numbered, record_refused, record_given, refused_into, field_number}
use Rattle.problem_file.proofs.records.read_orders.Goals as goal

pub closed-requires : goal.closed-requires
closed-requires c =
    list_numbered 0 c.order_list.new.out _ _ _ _ _ c.order_list.result
    c.order_list.ensures (λ j. sound_size most_order) (omega (arith, field_number _ _ _ _ (marked OR_mark _ c.opened.ensures c.in_ok-q.ensures)))

pub returns-in_err-q : goal.returns-in_err-q
unfolding OR
returns-in_err-q c =
    going_off _ (error_is c.from_residual.ensures.1)
    ∙ refused_into _ (record_refused _ (marked OR_mark _ c.opened.ensures c.in_err-q.ensures))

pub returns : goal.returns
unfolding OR
returns c =
    closed_into _ _ c.order_list.result _ c.closed.ensures c.order_list.ensures
    ∙ sym (ap (into (list_into c.args.out.now)) (record_given _ (marked OR_mark _ c.opened.ensures c.in_ok-q.ensures)))
