use Rattle.std.proofs.Common.{arith}
use Rattle.std.proofs.lemmas.List.{length-set}
use Rattle.query_syntax.proofs.Validity.{fit_item}
use Rattle.query_syntax.proofs.FilterSteps.{count-set}
use Rattle.query_syntax.proofs.filters.category_filter.Goals as goal

pub returns-clause-adds : goal.returns-clause-adds
returns-clause-adds c =
    let ensured = c.in_ok-k.ensures in
    rw c.set_item.ensures (record {
      used = omega (arith, count-set c.args.filters.now.sets c.in_ok-k.k c.in_ok-k.choice ensured.below.1 ensured.fresh);
      places = length-set c.args.filters.now.sets c.in_ok-k.k _;
    })

pub returns-clause-fits : goal.returns-clause-fits
returns-clause-fits c = rw c.set_item.ensures (λ verb takes fits. fit_item c.args.schema.now verb c.args.filters.now c.in_ok-k.k c.in_ok-k.choice takes fits c.in_ok-k.ensures.known c.in_ok-k.ensures.valid)
