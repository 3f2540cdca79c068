use Rattle.std.proofs.Common.{inr, subst}
use Rattle.group_insert.specs.Labels.{TellsAlone}
use Rattle.group_insert.proofs.node.only_label.Goals as goal

pub returns-else-is_alone : goal.returns-else-is_alone
returns-else-is_alone g c =
    let other = subst (TellsAlone c.args.work.now.slots c.args.at.0 c.in_ok-label.label) c.if-is_alone.false c.is_alone.ensures in
    inr (c.in_ok-label.label, other.0, c.in_ok-label.ensures, other.1, other.2)
