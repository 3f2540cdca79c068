use Rattle.run_law.proofs.Chains.{step_is_its_event, run_is_of_the_machine}
use Rattle.run_law.proofs.Openings.{opening_stands}
use Rattle.run_law.proofs.Turns.{turn_is_steps}
use Rattle.run_law.proofs.Works.{work_is_steps, whole_work_is_steps}
use Rattle.run_law.proofs.laws.run_laws.Goals as goal

pub returns-clause-opening : goal.returns-clause-opening
returns-clause-opening c = opening_stands

pub returns-clause-step : goal.returns-clause-step
returns-clause-step c = step_is_its_event

pub returns-clause-run : goal.returns-clause-run
returns-clause-run c = run_is_of_the_machine

pub returns-clause-work : goal.returns-clause-work
returns-clause-work c = work_is_steps

pub returns-clause-whole : goal.returns-clause-whole
returns-clause-whole c = whole_work_is_steps

pub returns-clause-turn : goal.returns-clause-turn
returns-clause-turn c = turn_is_steps
