use Rattle.std.proofs.Common.{length, refl}
use Rattle.query_syntax.specs.Items.{are_well_quoted}
use Rattle.query_syntax.proofs.Sets.{set_with, none_in_drop}
use Rattle.query_syntax.proofs.item.values_in.Goals as goal

pub loop-value-init : goal.loop-value-init
unfolding are_well_quoted
loop-value-init c = rw c.none-set.ensures (record {
  same = refl;
  quoted = c.requires.quoted;
  size = refl;
  none_past = none_in_drop (length c.args.values.now) 256;
})

pub returns-in-None-clause-valid : goal.returns-in-None-clause-valid
returns-in-None-clause-valid c =
    rw c.insert.ensures (set_with (length c.args.values.now) c.in_ok-value.value c.loop-value.set c.in_ok-value.ensures.below c.requires.few c.loop-value.invariant.size c.loop-value.invariant.none_past)
