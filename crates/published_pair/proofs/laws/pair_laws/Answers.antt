use Rattle.published_pair.proofs.StepLaws.{rule_is_pair_fact, looking_is_look}
use Rattle.published_pair.proofs.laws.pair_laws.Goals as goal

pub returns : goal.returns
returns c = record { rule = rule_is_pair_fact; look = looking_is_look }
