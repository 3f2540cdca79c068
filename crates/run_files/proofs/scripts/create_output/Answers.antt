use Rattle.std.proofs.Common.{◌++◌}
use Rattle.std.specs.Prelude.{codes}
use Rattle.std.proofs.Common.{refl}
use Rattle.run_files.proofs.ScriptReads.{creates_not}
use Rattle.run_files.specs.Outside.{of_place}
use Rattle.run_files.proofs.scripts.create_output.Goals as goal

pub returns-in-Err-clause-opens : goal.returns-in-Err-clause-opens
returns-in-Err-clause-opens g c =
    creates_not (of_place g.P.Place) c.args.place.now c.args.place.now (c.args.script.now ++ codes ".out") refl refl refl refl refl
