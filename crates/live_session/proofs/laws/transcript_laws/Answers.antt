use Rattle.std.proofs.Common.{sym}
use Rattle.session_core.proofs.Texts.{transcript_one}
use Rattle.session_core.proofs.Transcripts.{transcript_within}
use Rattle.live_session.proofs.laws.transcript_laws.Goals as goal

pub returns-clause-stays : goal.returns-clause-stays
returns-clause-stays g c schema final may_lack l h u v asked replies front more is =
    transcript_within schema g.V.CubeView.is_stat may_lack may_lack final l h u v asked replies (λ e. e) (front.0, sym front.1) more is

pub returns-clause-tells : goal.returns-clause-tells
returns-clause-tells g c schema final may_lack l u asked asked' replies others is are same =
    transcript_one schema g.V.CubeView.is_stat may_lack final l u asked asked' replies others is are same
