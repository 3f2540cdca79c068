use Rattle.std.proofs.Common.{ℕ, ◌+◌, ◌<◌, ◌≤◌, ◌^◌, take, get_or, sym, ap, subst, ◌∙◌}
use Rattle.std.proofs.lemmas.List.Elements.{All-take}
use Rattle.time_table.specs.Counts.{BinCounts, CanTakeRun, add_many, take_run, total_count}
use Rattle.time_table.proofs.Runs.{add_run-more, fits-more, take_run-add_run, can_take_run}
use Rattle.time_table.proofs.table.TimeTable.add_each.Goals as goal

pub add_many-requires-clause-fits : goal.add_many-requires-clause-fits
add_many-requires-clause-fits c =
    subst (λ (m : BinCounts). total_count m + (get_or c.args.run.now c.loop-i.i (0, 0)).1 ≤ 2 ^ 63) (sym c.loop-i.invariant)
    (fits-more c.args.self.now c.args.run.now c.loop-i.i (0, 0) c.loop-i-test.true c.requires.fits)

pub take_run-requires-clause-there : goal.take_run-requires-clause-there
take_run-requires-clause-there c =
    subst (λ (m : BinCounts). CanTakeRun m (take c.loop-i.i c.args.run.now)) (sym (c.in-Err.ensures.unchanged ∙ c.loop-i.invariant))
    (can_take_run c.args.self.now (take c.loop-i.i c.args.run.now) (All-take (λ (a : ℕ × ℕ). 0 < a.1) c.loop-i.i c.args.run.now c.requires.some) c.requires.was_counted)

pub returns-in-Err-clause-unchanged : goal.returns-in-Err-clause-unchanged
returns-in-Err-clause-unchanged c =
    c.take_run.ensures
    ∙ ap (λ (m : BinCounts). take_run m (take c.loop-i.i c.args.run.now)) (c.in-Err.ensures.unchanged ∙ c.loop-i.invariant)
    ∙ take_run-add_run c.args.self.now (take c.loop-i.i c.args.run.now) (All-take (λ (a : ℕ × ℕ). 0 < a.1) c.loop-i.i c.args.run.now c.requires.some) c.requires.was_counted

pub loop-i-preserved : goal.loop-i-preserved
loop-i-preserved c =
    c.in-Ok.ensures.added
    ∙ ap (λ (m : BinCounts). add_many m (get_or c.args.run.now c.loop-i.i (0, 0)).0 (get_or c.args.run.now c.loop-i.i (0, 0)).1) c.loop-i.invariant
    ∙ sym (add_run-more c.args.self.now c.args.run.now c.loop-i.i (0, 0) c.loop-i-test.true)
