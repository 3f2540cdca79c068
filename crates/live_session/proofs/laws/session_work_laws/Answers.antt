use Rattle.live_session.proofs.TakesLaws.{rose_by_numbers}
use Rattle.live_session.proofs.laws.session_work_laws.Goals as goal

pub returns : goal.returns
returns g c schema final may_lack l u lines replies taken few is = rose_by_numbers schema g.V.CubeView.is_stat final may_lack l u lines replies taken few is.each
