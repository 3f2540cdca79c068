use Rattle.std.proofs.Common.{rules, ◌≡◌, ◌++◌, ◌∷◌, ◌∙◌, [], Some, ap, arith, length, length-append, sym}
use Rattle.std.proofs.lemmas.List.Elements.{All-pop}
use Rattle.outer_io.specs.Cutting.{Cutter, IsNew}
use Rattle.plan_run.specs.Seated.{sessions_of}
use Rattle.plan_run.proofs.Seats.{sessions_of-push}
use Rattle.plan_run.proofs.seating.+seat_sessions.Goals as goal

pub seat_sessions-sessions-requires : goal.seat_sessions-sessions-requires
seat_sessions-sessions-requires g t c κs within =
    let new = All-pop (λ (script : Cutter g.row.I.Denot). IsNew script.source script) c.args.scripts.items c.pop.new.self.items (Some c.in-Some.script) c.in-Some.ensures.items c.requires.new in
    (search rules, (search rules, (search rules, (new.0, (search rules, search rules)))))

pub new-requires : goal.new-requires
new-requires g t c = (All-pop (λ (script : Cutter g.row.I.Denot). IsNew script.source script) c.args.scripts.items c.pop.new.self.items (Some c.in-Some.script) c.in-Some.ensures.items c.requires.new).1

pub returns-clause-sessions : goal.returns-clause-sessions
returns-clause-sessions g t c =
    let scripts : c.args.scripts.items ≡ c.pop.new.self.items ++ c.in-Some.script ∷ [] = c.in-Some.ensures.items in
    let sinks : c.args.sinks.items ≡ c.pop-2.new.self.items ++ c.in-Some-pop.sink ∷ [] = c.in-Some-pop.ensures.items in
    let pairs : length c.pop-2.new.self.items ≡ length c.pop.new.self.items =
    omega (arith, ap length scripts, ap length sinks, length-append c.pop.new.self.items (c.in-Some.script ∷ []), length-append c.pop-2.new.self.items (c.in-Some-pop.sink ∷ []), c.requires.pairs, c.args.scripts.ok.0, c.args.sinks.ok.0) in
    c.push_reserved.ensures.items
    ∙ (λ i. c.seat_sessions-sessions.ensures.sessions i ++ c.new.ensures i ∷ [])
    ∙ sym (sessions_of-push c.pop.new.self.items c.pop-2.new.self.items c.in-Some.script c.in-Some-pop.sink pairs)
    ∙ (λ i. sessions_of (sym scripts i) (sym sinks i))
