use Rattle.std.proofs.Common.{rules, ◌≡◌, ◌++◌, ◌∷◌, [], sym, ap, ◌∙◌}
use Rattle.published_pair.specs.Pair.{IsNewViewer}
use Rattle.published_pair.specs.Rules.{Known}
use Rattle.live_session.specs.Work.{HadNoTurn}
use Rattle.cube_crew.specs.Works.{new_session_work, session_works_of}
use Rattle.cube_crew.proofs.SessionOutcomes.{session_works_of-push}
use Rattle.cube_crew.proofs.Zips.{All-init, All-last, length-init}
use Rattle.cube_crew.proofs.sessions.+seat_sessions.Goals as goal

pub seat_sessions-works-requires-clause-sessions : goal.seat_sessions-works-requires-clause-sessions
seat_sessions-works-requires-clause-sessions g t c κs within = (search rules, All-init HadNoTurn c.args.sessions.items c.pop.new.self.items c.in-Some.session c.in-Some.ensures.items c.requires.sessions.1)

pub seat_sessions-works-requires-clause-new : goal.seat_sessions-works-requires-clause-new
seat_sessions-works-requires-clause-new g t c κs within =
    All-init (λ v. IsNewViewer c.args.publisher.now.schema c.args.publisher.now.published v.schema v.shown v.learned v.last) c.args.viewers.now.items c.pop-3.new.self.items c.in-Some-pop-2.viewer c.in-Some-pop-2.ensures.items c.requires.new

pub seat_sessions-works-requires-clause-mails : goal.seat_sessions-works-requires-clause-mails
seat_sessions-works-requires-clause-mails g t c κs within = (search rules, All-init (λ m. m.pair ≡ c.args.publisher.now.published.book) c.args.mails.items c.pop-2.new.self.items c.in-Some-pop.mail c.in-Some-pop.ensures.items c.requires.mails.1)

pub new-requires-clause-no_turn : goal.new-requires-clause-no_turn
new-requires-clause-no_turn g t c κs within = All-last HadNoTurn c.args.sessions.items c.pop.new.self.items c.in-Some.session c.in-Some.ensures.items c.requires.sessions.1

pub new-requires-clause-pair : goal.new-requires-clause-pair
new-requires-clause-pair g t c κs within =
    let viewer = All-last (λ v. IsNewViewer c.args.publisher.now.schema c.args.publisher.now.published v.schema v.shown v.learned v.last) c.args.viewers.now.items c.pop-3.new.self.items c.in-Some-pop-2.viewer c.in-Some-pop-2.ensures.items c.requires.new in
    let mail = All-last (λ m. m.pair ≡ c.args.publisher.now.published.book) c.args.mails.items c.pop-2.new.self.items c.in-Some-pop.mail c.in-Some-pop.ensures.items c.requires.mails.1 in
    ap (λ (k : Known). k.book) viewer.1 ∙ sym mail

pub returns-clause-works : goal.returns-clause-works
returns-clause-works g t c =
    let viewer = All-last (λ v. IsNewViewer c.args.publisher.now.schema c.args.publisher.now.published v.schema v.shown v.learned v.last) c.args.viewers.now.items c.pop-3.new.self.items c.in-Some-pop-2.viewer c.in-Some-pop-2.ensures.items c.requires.new in
    let made = c.new.ensures in
    let schema = made.parts.2 ∙ viewer.0 in
    let shown = made.lists.0 ∙ viewer.1 in
    let learned = made.lists.1 ∙ viewer.2 in
    let last = made.lists.2 ∙ viewer.3 in
    let one : c.new.result ≡ new_session_work c.args.publisher.now.schema c.args.publisher.now.published c.in-Some.session c.in-Some-pop.mail =
    λ i. record { session = made.parts.0 i; schema = schema i; shown = shown i; learned = learned i; last = last i; mail = made.parts.1 i; end = made.unrun i } in
    c.push_reserved.ensures.items
    ∙ (λ i. c.seat_sessions-works.ensures.works i ++ one i ∷ [])
    ∙ sym (session_works_of-push c.args.publisher.now.schema c.args.publisher.now.published c.pop.new.self.items c.pop-2.new.self.items c.in-Some.session c.in-Some-pop.mail (length-init c.args.sessions.items c.pop.new.self.items c.in-Some.session c.args.mails.items c.pop-2.new.self.items c.in-Some-pop.mail c.in-Some.ensures.items c.in-Some-pop.ensures.items (search rules)))
    ∙ (λ i. session_works_of c.args.publisher.now.schema c.args.publisher.now.published (sym c.in-Some.ensures.items i) (sym c.in-Some-pop.ensures.items i))
