use Rattle.std.proofs.Common.{◌<◌, length, sym, ◌∙◌, ap, arith}
use Rattle.std.proofs.lemmas.List.{get_or_default}
use Rattle.query_syntax.specs.Boxes.{box, chosen, total}
use Rattle.query_syntax.proofs.TableLaws.{box_value, box_value_out}
use Rattle.query_syntax.specs.declared.query.Choice.{Choice}
use Rattle.query_syntax.specs.declared.query.Choice.TheVariants.{All}
use Rattle.query_syntax.specs.declared.query.Query.{Query}
use Rattle.query_syntax.proofs.totals.total_with.Goals as goal

pub returns-then-not-has : goal.returns-then-not-has
returns-then-not-has c =
    let q = c.args.query.now in
    let known : c.args.k < length q.sets = omega arith in
    let at = ap (λ (x : Choice). chosen x c.args.value) (get_or_default q.sets c.args.k All c.index-query-k.result known) in
    sym (box_value_out c.args.schema.now q c.args.points.now c.args.k c.args.value (at ∙ (sym c.has.ensures ∙ c.if-not-has.true)))

pub returns : goal.returns
returns c =
    let q = c.args.query.now in
    let known : c.args.k < length q.sets = omega arith in
    let at = ap (λ (x : Choice). chosen x c.args.value) (get_or_default q.sets c.args.k All c.index-query-k.result known) in
    let one = ap (λ (p : Query). total c.args.schema.now (box p) c.args.points.now) c.set_one_value.ensures in
    c.total_of.ensures ∙ (one ∙ sym (box_value c.args.schema.now q c.args.points.now c.args.k c.args.value known (omega (arith, c.ranges.value)) (at ∙ (sym c.has.ensures ∙ c.if-not-has.false))))
