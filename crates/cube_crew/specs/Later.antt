-- The builder and the asks of a run.
use Rattle.std.specs.Prelude.{List, All}
use Rattle.std.specs.List.{AllZip}
use Rattle.builder_core.specs.Built.{IsBuilt, IsNewWork}
use Rattle.builder_core.specs.Work.{BuilderWorkState as Building}
use Rattle.live_session.specs.Leaves.{LeavesSession}
use Rattle.live_session.specs.Work.{HadNoTurn, WorkState}
use Rattle.cube_view.specs.declared.stat.Stat.{Stat}
use Rattle.live_session.specs.State.{SessionEnds}

-- neither the builder nor an ask has run
abbrev pub AreUnrun : {I O : Type 0} → Building → List (WorkState I O) → Type 0
AreUnrun building asks = IsNewWork building × All (λ work. HadNoTurn work.session) asks

-- The builder and the asks before and after they ran side by side
pub record HaveRun {I O : Type 0} (ends : SessionEnds I O) (is_stat : Stat → Type 0) (before : Building) (befores : List (WorkState I O)) (after : Building) (afters : List (WorkState I O)) : Type 0 where
  -- the builder took in all that was sent
  pub built : IsBuilt before after
  -- and each ask left its session
  pub asks : AllZip (LeavesSession ends is_stat) befores afters
