use Rattle.std.proofs.Common.{◌≡◌, ◌+◌, List, take, arith, sym, ap, subst, ◌∙◌}
use Rattle.probe_core.specs.Roomy.{Roomy}
use Rattle.probe_core.specs.Places.{IsPlace}
use Rattle.time_table.specs.declared.row.Row.{Row}
use Rattle.time_table.specs.Totals.{Rise, last_total, row_bin}
use Rattle.time_table.proofs.RowPlaces.{total_before}
use Rattle.time_table.proofs.LateHeads.{long, rises, lesser_shown, others_shown, below_before, below_after, below_fits}
use Rattle.time_table.proofs.heads.Heads.place_of.Given.{Over}
use Rattle.time_table.proofs.heads.Heads.place_of.Goals.{After-total_of-below}
use Rattle.time_table.proofs.heads.Heads.place_of.Goals as goal

-- the place among the heads as they are seen
placed : (g : Over) (c : After-total_of-below g) → IsPlace row_bin c.args.bin_end c.args.self.now.items c.first_from-place.result.index
placed g c =
    let place = c.first_from-place.ensures.place in
    subst (λ (rows : List Row). IsPlace row_bin c.args.bin_end rows c.first_from-place.result.index) (ap (λ (seen : Roomy Row). seen.items) c.self.view_is) (record {
      within = omega (arith, place.within, long c.self.inside.from c.self.inside.late c.self.inside.rows.items);
      lesser = lesser_shown c.args.bin_end c.self.inside.from c.self.inside.late c.first_from-place.result.index c.self.inside.rows.items place.lesser;
      others = others_shown c.args.bin_end c.self.inside.from c.self.inside.late c.first_from-place.result.index c.self.inside.rows.items place.others;
    })

-- the total before it, as it stands
stands : (g : Over) (c : After-total_of-below g) → c.total_of-below.result ≡ last_total 0 (take c.first_from-place.result.index c.self.inside.rows.items)
stands g c =
    c.total_of-below.ensures ∙ total_before c.first_from-place.result.index c.self.inside.rows.items c.first_from-place.result.before c.first_from-place.ensures.place.within c.first_from-place.ensures.before

pub first_from-place-requires : goal.first_from-place-requires
first_from-place-requires g c =
    rises c.self.inside.from c.self.inside.late c.self.inside.rows.items (subst (Rise 0 0) (sym (ap (λ (seen : Roomy Row). seen.items) c.self.view_is)) c.requires)

pub returns-then-index-self-clause-place : goal.returns-then-index-self-clause-place
returns-then-index-self-clause-place g c = placed g (goal.at.returns-then-index-self-clause-place g c).After-total_of-below

pub returns-then-index-self-clause-total : goal.returns-then-index-self-clause-total
returns-then-index-self-clause-total g c =
    stands g (goal.at.returns-then-index-self-clause-total g c).After-total_of-below
    ∙ below_before 0 c.self.inside.from c.self.inside.late c.first_from-place.result.index c.self.inside.rows.items (omega arith)
    ∙ ap (λ (seen : Roomy Row). last_total 0 (take c.first_from-place.result.index seen.items)) c.self.view_is

pub overflow_add-result : goal.overflow_add-result
overflow_add-result g c =
    let below = stands g (goal.at.overflow_add-result g c).After-total_of-below in
    let fits = below_fits 0 c.self.inside.from c.self.inside.late c.first_from-place.result.index c.self.inside.rows.items (omega arith) c.first_from-place.ensures.place.within c.self.invariant.fits in
    omega (arith, below, fits)

pub returns-clause-place : goal.returns-clause-place
returns-clause-place g c = placed g (goal.at.returns-clause-place g c).After-total_of-below

pub returns-clause-total : goal.returns-clause-total
returns-clause-total g c =
    ap (λ n. n + c.self.inside.late) (stands g (goal.at.returns-clause-total g c).After-total_of-below)
    ∙ below_after 0 c.self.inside.from c.self.inside.late c.first_from-place.result.index c.self.inside.rows.items (omega arith) c.first_from-place.ensures.place.within
    ∙ ap (λ (seen : Roomy Row). last_total 0 (take c.first_from-place.result.index seen.items)) c.self.view_is
