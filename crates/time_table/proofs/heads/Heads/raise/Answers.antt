use Rattle.std.proofs.Common.{◌≡◌, ◌+◌, All, length, arith, sym, ap, subst, ◌∙◌}
use Rattle.probe_core.specs.Roomy.{Roomy}
use Rattle.time_table.specs.declared.row.Row.{Row}
use Rattle.time_table.specs.Late.{raised_from}
use Rattle.time_table.proofs.LateHeads.{HasRoom, long, raised_more, fits_more, amounts_fit}
use Rattle.time_table.proofs.heads.Heads.raise.Given.{Over}
use Rattle.time_table.proofs.heads.Heads.raise.Goals.{After-catch_up-2}
use Rattle.time_table.proofs.heads.Heads.raise.Goals as goal

-- the heads are seen as before when they are caught up with
seen_same : (g : Over) (c : After-catch_up-2 g) → raised_from c.args.place c.self.inside.late c.catch_up-2.new.rows.items ≡ c.args.self.now.items
seen_same g c = c.catch_up-2.ensures.same ∙ ap (λ (seen : Roomy Row). seen.items) c.self.view_is

pub overflow_add-self : goal.overflow_add-self
overflow_add-self g c =
    let same = seen_same g (goal.at.overflow_add-self g c).After-catch_up-2 in
    let fits = fits_more c.args.place c.self.inside.late c.args.amount c.catch_up-2.new.rows.items (subst (All (HasRoom c.args.amount)) (sym same) c.requires.fits) in
    let count : length (raised_from c.args.place c.self.inside.late c.catch_up-2.new.rows.items) ≡ length c.args.self.now.items = ap length same in
    let few = amounts_fit c.args.place (c.self.inside.late + c.args.amount) c.catch_up-2.new.rows.items (omega (arith, count, long c.args.place c.self.inside.late c.catch_up-2.new.rows.items, c.requires.within)) fits in
    omega (arith, few)

pub invariant_of-self-2 : goal.invariant_of-self-2
invariant_of-self-2 g c =
    let same = seen_same g (goal.at.invariant_of-self-2 g c).After-catch_up-2 in
    record {
      within = c.catch_up-2.ensures.late.within;
      fits = fits_more c.args.place c.self.inside.late c.args.amount c.catch_up-2.new.rows.items (subst (All (HasRoom c.args.amount)) (sym same) c.requires.fits);
    }

pub returns-clause-raised : goal.returns-clause-raised
returns-clause-raised g c =
    raised_more c.args.place c.self.inside.late c.args.amount c.catch_up-2.new.rows.items
    ∙ ap (raised_from c.args.place c.args.amount) (seen_same g (goal.at.returns-clause-raised g c).After-catch_up-2)
