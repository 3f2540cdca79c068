use denote.RattleType.{RattleType}
use denote.Param.Send.{IsSend}
use Rattle.ghost_values.proofs.Crossing.{keyless}
use Rattle.ghost_values.specs.contracts.value.GhostValue.{the_row as value_row}

pub send : (A : RattleType) → IsSend (value_row A)
send A = record { owned = λ d. keyless A; leaving = λ k f vs. tt }
