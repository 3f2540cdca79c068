use Rattle.std.proofs.Common.{◌≡◌, ap}
use Rattle.cube_crew.specs.Opened.{IsMail}
use Rattle.cube_crew.proofs.Zips.{AllZip-right}
use Rattle.cube_crew.proofs.opening.open_all_mails.Goals as goal

pub returns-clause-finals : goal.returns-clause-finals
returns-clause-finals g c =
    AllZip-right (IsMail c.args.publisher.now.published.book) (λ out. (out.pair ≡ c.args.publisher.now.published.book) × (out.takes ≡ 0)) _ _ (λ put take is. (ap (λ m. m.pair) is.1, ap (λ m. m.takes) is.1)) c.in_ok-final_outs.ensures.mails
