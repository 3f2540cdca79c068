use Rattle.std.proofs.Common.{◌≡◌, [], drop, ap, sym, ◌∙◌, rules}
use Rattle.published_pair.proofs.Prefixes.{take_same}
use Rattle.published_pair.proofs.opening.open.Goals as goal

pub invariant_of-publisher-clause-within : goal.invariant_of-publisher-clause-within
invariant_of-publisher-clause-within g c = take_same _ _ (ap (λ k. k.points) c.again.ensures)

pub invariant_of-publisher-clause-pends : goal.invariant_of-publisher-clause-pends
invariant_of-publisher-clause-pends g c =
    let w = c.make_viewers.new.writer in
    let none : drop w.behind w.log.items ≡ [] = search rules in
    let empty : w.desk.shown.value.history.items ≡ [] = search rules in
    rw none (empty ∙ sym c.open_book-head.ensures.empty)

pub invariant_of-publisher-clause-goes_by : goal.invariant_of-publisher-clause-goes_by
invariant_of-publisher-clause-goes_by g c =
    let w = c.make_viewers.new.writer in
    let none : drop w.behind w.log.items ≡ [] = search rules in
    let schema : g.V.CubeView.schema w.desk.shown.value.view ≡ c.in_ok-schema.schema = search rules in
    rw none schema

pub returns-in-Ok-clause-viewers : goal.returns-in-Ok-clause-viewers
returns-in-Ok-clause-viewers g c = (search rules, λ k d below. let v = c.in-Ok.ensures.viewers.1 k d below in (search rules, search rules, search rules, search rules))
