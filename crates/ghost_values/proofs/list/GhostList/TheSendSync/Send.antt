use denote.RattleType.{RattleType}
use denote.Param.Send.{IsSend}
use Rattle.ghost_values.proofs.Crossing.{keyless}
use Rattle.ghost_values.specs.contracts.list.GhostList.{the_row as list_row}

pub send : (A : RattleType) → IsSend (list_row A)
send A = record { owned = λ d. keyless A; leaving = λ k f vs. tt }
