use Rattle.std.proofs.Common.{◌+◌, ◌<◌, ◌≤◌, length, take, inl, inr, refl, sym, ap, ◌∙◌, arith}
use Rattle.std.proofs.lemmas.Bool.{cases_lt}
use Rattle.std.proofs.lemmas.List.Elements.{All-nil}
use Rattle.time_table.specs.declared.row.Row.{Row}
use Rattle.time_table.specs.Totals.{last_total}
use Rattle.time_table.proofs.MoreRecords.{last_total-take-le}
use Rattle.time_table.proofs.SeriesTotals.{stays, goes_on, is_place, past_more, total_upto}
use Rattle.time_table.proofs.series.pass_rows.Goals as goal

pub loop-i-init : goal.loop-i-init
loop-i-init g c = record {
  on = stays c.args.ends.now c.args.totals.now c.requires.room;
  tells = λ f from T known. T;
  past = λ left. All-nil (λ (r : Row). r.bin < c.args.ends.now.end);
  below = refl;
  cost = omega arith;
}

pub loop-i-preserved : goal.loop-i-preserved
loop-i-preserved g c =
    let inv = c.loop-i.invariant in
    let on = c.tell.ensures.on in
    let within : c.loop-i.i < length c.args.rows.now.items = omega arith in
    let read = c.at-row.ensures.item in
    record {
      on = goes_on c.args.ends.now c.loop-i.ends c.tell.new.ends c.args.totals.now c.loop-i.totals c.tell.new.totals inv.on on;
      tells = λ f from T known. c.tell.ensures.tells f from (inv.tells f from T known) (λ some e after late.
          known (omega (arith, some, inv.on.done, inv.on.count)) e (omega (arith, after, inv.on.end)) c.loop-i.i within (is_place c.loop-i.i c.loop-i.ends.end e c.args.rows.now.items c.at-row.result c.requires.rise within read (inv.past some) after (omega (arith, late, c.from.ensures)))
          ∙ ap (λ k. c.args.before + k) (sym inv.below));
      past = λ left. past_more c.loop-i.i c.loop-i.ends.end c.tell.new.ends.end c.args.rows.now.items c.at-row.result within read (inv.past (omega (arith, left, on.done, on.count))) on.end (let past = c.tell.ensures.past left in omega (arith, past, c.from.ensures));
      below = total_upto 0 c.loop-i.i c.args.rows.now.items c.at-row.result within read;
      cost = omega (arith, inv.cost, c.at-row.ensures.one_step);
    }

pub overflow_add-before : goal.overflow_add-before
overflow_add-before g c =
    let le : last_total 0 (take c.loop-i.i c.args.rows.now.items) ≤ last_total 0 c.args.rows.now.items = last_total-take-le 0 0 c.loop-i.i c.args.rows.now.items c.requires.rise in
    elim (cases_lt 0 c.args.before) [
      | inl some ↦ let all = c.requires.fits some in omega (arith, le, all, c.loop-i.invariant.below)
      | inr none ↦ omega (arith, none, c.loop-i.auto.below-fits)
    ]
