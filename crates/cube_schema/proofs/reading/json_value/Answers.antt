use Rattle.std.proofs.Common.{ap}
use Rattle.std.proofs.lemmas.Bool.{false≢true}
use Rattle.cube_schema.specs.declared.fault.PlanFault.TheVariants.{NotJson}
use Rattle.cube_schema.specs.Kinds.{found_or}
use Rattle.cube_schema.proofs.Meanings.{json_value-some, json_value-none}
use Rattle.cube_schema.proofs.reading.json_value.Goals as goal

pub returns-in-Ok : goal.returns-in-Ok
returns-in-Ok c = ap (found_or NotJson) (json_value-some c.args.bytes.now _ c.in-Ok.ensures.ok.0 c.in-Ok.ensures.ok.1)

pub returns-in-Err-2 : goal.returns-in-Err-2
returns-in-Err-2 c = λ _. ap (found_or NotJson) (json_value-none c.args.bytes.now (c.in-Err.ensures.err (λ m. false≢true (c.if-is_memory.ensures.1 m))))
