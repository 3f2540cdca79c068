use Rattle.std.proofs.Common.{rules, ◌≡◌, ◌++◌, ◌∷◌, [], sym, ◌∙◌}
use Rattle.cube_crew.specs.Works.{works_of}
use Rattle.cube_crew.proofs.FeederOutcomes.{works_of-push}
use Rattle.cube_crew.proofs.Zips.{All-init, All-last}
use Rattle.cube_crew.proofs.feeds.+seat_feeds.Goals as goal

pub seat_feeds-works-requires : goal.seat_feeds-works-requires
seat_feeds-works-requires g t c κs within = (search rules, (search rules, (search rules, (All-init (λ f. f ≡ []) c.args.firsts.items c.pop-3.new.self.items c.in-Some-pop-2.first c.in-Some-pop-2.ensures.items c.requires.none, search rules))))

pub new-requires : goal.new-requires
new-requires g t c = All-last (λ f. f ≡ []) c.args.firsts.items c.pop-3.new.self.items c.in-Some-pop-2.first (search rules) c.requires.none

pub returns-clause-works : goal.returns-clause-works
returns-clause-works g t c =
    let jobs : c.args.jobs.items ≡ c.pop.new.self.items ++ c.in-Some.job ∷ [] = c.in-Some.ensures.items in
    let ends : c.args.ends.items ≡ c.pop-2.new.self.items ++ c.in-Some-pop.end ∷ [] = c.in-Some-pop.ensures.items in
    c.push_reserved.ensures.items
    ∙ (λ i. c.seat_feeds-works.ensures.works i ++ c.new.ensures i ∷ [])
    ∙ sym (works_of-push c.pop.new.self.items c.pop-2.new.self.items c.in-Some.job c.in-Some-pop.end (search rules))
    ∙ (λ i. works_of (sym jobs i) (sym ends i))
