use Rattle.std.proofs.Common.{◌≡◌, ◌-◌, ◌<◌, length, arith, ap, ◌∙◌}
use Rattle.time_table.specs.Totals.{raised}
use Rattle.time_table.proofs.ItemChanges.{mapped_from, mapped_from-more}
use Rattle.time_table.proofs.LateHeads.{long_mapped, caught, caught_fits}
use Rattle.time_table.proofs.heads.catch_up.Goals as goal

pub loop-i-preserved : goal.loop-i-preserved
loop-i-preserved g c =
    let within : c.loop-i.i < length c.args.rows.now.items = omega (arith, c.requires.within) in
    record {
      items = c.set.ensures.written ∙ mapped_from-more (raised c.args.late) c.args.rows.now.items _ c.args.from c.loop-i.i c.at-bin.result (omega arith) within c.loop-i.invariant.items c.at-bin.ensures.item;
      room = omega arith;
    }

pub returns-clause-same : goal.returns-clause-same
returns-clause-same g c =
    let end : c.loop-i.i ≡ c.args.to = omega arith in
    caught c.args.late c.args.from c.args.to c.args.rows.now.items c.loop-i.rows.items (omega arith) c.requires.within (c.loop-i.invariant.items ∙ ap (λ k. mapped_from (raised c.args.late) c.args.from (k - c.args.from) c.args.rows.now.items) end)

pub returns-clause-late : goal.returns-clause-late
returns-clause-late g c =
    let end : c.loop-i.i ≡ c.args.to = omega arith in
    let items : c.loop-i.rows.items ≡ mapped_from (raised c.args.late) c.args.from (c.args.to - c.args.from) c.args.rows.now.items = c.loop-i.invariant.items ∙ ap (λ k. mapped_from (raised c.args.late) c.args.from (k - c.args.from) c.args.rows.now.items) end in
    record {
      within = omega (arith, c.requires.within, long_mapped c.args.from (c.args.to - c.args.from) (raised c.args.late) c.args.rows.now.items, ap length items);
      fits = caught_fits c.args.late c.args.from c.args.to c.args.rows.now.items c.loop-i.rows.items (omega arith) items c.requires.late.fits;
    }
