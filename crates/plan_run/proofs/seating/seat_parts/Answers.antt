use Rattle.std.proofs.lemmas.List.Elements.{All-same}
use Rattle.outer_io.specs.Cutting.{Cutter, IsNew}
use Rattle.plan_run.proofs.seating.seat_parts.Goals as goal

pub seat_sessions-asks-requires-clause-new : goal.seat_sessions-asks-requires-clause-new
seat_sessions-asks-requires-clause-new g c = All-same (λ (script : Cutter g.row.I.Denot). IsNew script.source script) c.into_vec.result.items c.args.scripts.asks c.into_vec.ensures c.requires.new.0

pub seat_sessions-finals-requires-clause-new : goal.seat_sessions-finals-requires-clause-new
seat_sessions-finals-requires-clause-new g c = All-same (λ (script : Cutter g.row.I.Denot). IsNew script.source script) c.into_vec-3.result.items c.args.scripts.finals c.into_vec-3.ensures c.requires.new.1
