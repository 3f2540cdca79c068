use Rattle.std.proofs.Common.{true, false, sym, ◌∙◌}
use Rattle.std.specs.List.{list_any}
use Rattle.std.proofs.lemmas.Bool.{not-false}
use Rattle.query_syntax.proofs.ChoicesAt.{part_is}
use Rattle.query_syntax.proofs.valid_query.is_part.Goals as goal

pub returns : goal.returns
returns c =
    let some = not-false (list_any (λ b. b) c.args.set.now) (sym c.has_none_from.ensures.none ∙ c.if-has_none_from.false) in
    part_is c.args.count c.args.set.now true false c.has_none_from-2.result c.has_none_from.ensures.size (sym some) (sym c.if-has_all_under.false ∙ c.has_all_under.ensures) c.has_none_from-2.ensures.none
