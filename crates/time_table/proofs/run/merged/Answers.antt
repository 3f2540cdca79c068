use Rattle.std.proofs.Common.{◌≡◌, [], get_or, refl, sym, subst, arith}
use Rattle.time_table.specs.Places.{PutsLesser}
use Rattle.time_table.proofs.RunRows.{IsMerging, merging_none, still_room, fits_lesser, fits_new, merge_step, merge_end}
use Rattle.time_table.proofs.run.merged.Goals as goal

pub loop-i-init : goal.loop-i-init
loop-i-init g c =
    let none : c.reserve.new.self.items ≡ [] = cc in
    subst (IsMerging c.args.rows.now.items c.args.run.now 0 0 0) (sym none) (merging_none c.args.rows.now.items c.args.run.now)

pub put_lesser-requires-clause-fits : goal.put_lesser-requires-clause-fits
put_lesser-requires-clause-fits g c = fits_lesser _ c.args.rows.now.items c.args.run.now c.loop-i.i c.loop-i.place c.loop-i.more _ c.requires.single c.requires.fits c.loop-i.invariant

pub put_new-requires : goal.put_new-requires
put_new-requires g c = record { fits = fits_new _ c.args.rows.now.items c.args.run.now c.loop-i.i c.loop-i.place c.loop-i.more c.in_ok-place.place _ (0, 0) _ _ c.requires.single c.requires.run c.loop-i-test.true c.requires.fits c.loop-i.invariant c.in_ok-place.ensures }

pub overflow_add-more : goal.overflow_add-more
overflow_add-more g c =
    let room = still_room _ c.args.rows.now.items c.args.run.now c.loop-i.i c.loop-i.place c.loop-i.more (0, 0) _ c.loop-i-test.true c.requires.fits c.loop-i.invariant in
    omega (arith, room.half)

pub loop-i-preserved : goal.loop-i-preserved
loop-i-preserved g c =
    merge_step c.args.rows.now.items c.args.run.now c.loop-i.i c.loop-i.place c.loop-i.more c.in_ok-place.place (get_or c.args.run.now c.loop-i.i (0, 0)) (0, 0) _ _ _ c.requires.single c.requires.run c.loop-i-test.true refl (omega (arith, c.loop-i-test.element_fits)) c.loop-i.invariant (subst (λ e. PutsLesser e c.loop-i.more c.loop-i.place c.in_ok-place.place c.args.rows.now.items c.loop-i.merged.items c.put_lesser.new.merged.items) c.from.ensures c.in_ok-place.ensures) c.in_ok-put_new.ensures

pub put_lesser-requires-2-clause-fits : goal.put_lesser-requires-2-clause-fits
put_lesser-requires-2-clause-fits g c = fits_lesser _ c.args.rows.now.items c.args.run.now c.loop-i.i c.loop-i.place c.loop-i.more _ c.requires.single c.requires.fits c.loop-i.invariant

pub returns-clause-merged : goal.returns-clause-merged
returns-clause-merged g c = (merge_end c.args.rows.now.items c.args.run.now c.loop-i.i c.loop-i.place c.loop-i.more c.in_ok-put_lesser.field-0 _ _ c.requires.single c.requires.run c.requires.few (omega arith) c.loop-i.invariant c.in_ok-put_lesser.ensures).0

pub returns-clause-single : goal.returns-clause-single
returns-clause-single g c = (merge_end c.args.rows.now.items c.args.run.now c.loop-i.i c.loop-i.place c.loop-i.more c.in_ok-put_lesser.field-0 _ _ c.requires.single c.requires.run c.requires.few (omega arith) c.loop-i.invariant c.in_ok-put_lesser.ensures).1
