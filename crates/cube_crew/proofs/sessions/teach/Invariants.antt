use Rattle.std.proofs.Common.{◌≡◌, ◌+◌, All, length, take, drop, vec_len}
use Rattle.std.specs.List.{AllZip}
use Rattle.cube_crew.specs.Works.{HasLearned}
use Rattle.cube_crew.proofs.sessions.teach.Given as goal

abbrev pub invariant-loop-work : goal.invariant-loop-work
invariant-loop-work g l = record {
  learned : AllZip (HasLearned l.rested.ended) (take l.work-index l.initial.works) (take l.work-index l.works);
  rest : drop l.work-index l.works ≡ drop l.work-index l.initial.works;
  whole : length l.works ≡ length l.initial.works;
  same : All (λ last. last.whole ≡ l.rested.ended) l.lasts.items;
  left : vec_len l.lasts + l.work-index ≡ vec_len l.initial.lasts;
}
