use Rattle.std.proofs.Common.{refl, arith}
use Rattle.query_syntax.proofs.Validity.{fit_none}
use Rattle.query_syntax.proofs.filters.read_filters.Goals as goal

pub loop-word-init : goal.loop-word-init
loop-word-init c = rw c.requires.none (record {
  reads = refl;
  number = omega (arith, c.requires.first);
  fits = fit_none c.args.schema.now c.args.verb;
  places = refl;
})
