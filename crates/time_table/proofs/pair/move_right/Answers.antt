use Rattle.std.proofs.Common.{arith, refl}
use Rattle.time_table.proofs.TwoRowLists.{shorter, is_last, moved_right}
use Rattle.time_table.proofs.pair.move_right.Goals as goal

pub overflow_sub-count : goal.overflow_sub-count
overflow_sub-count g c =
    let last = is_last _ c.args.left.now.items c.remove-row.new.self.items c.args.right.now.items c.remove-row.result c.at-last.result _ _ (omega arith) (shorter c.args.left.now.items c.remove-row.new.self.items _ _ (omega arith) (omega arith) (omega arith) c.remove-row.ensures.removed) c.requires.rise c.requires.fits c.remove-row.ensures.item c.remove-row.ensures.removed c.at-last.ensures.item in
    omega (arith, last.above)

pub raise-requires-clause-fits : goal.raise-requires-clause-fits
raise-requires-clause-fits g c =
    let last = is_last _ c.args.left.now.items c.remove-row.new.self.items c.args.right.now.items c.remove-row.result c.at-last.result _ _ (omega arith) (shorter c.args.left.now.items c.remove-row.new.self.items _ _ (omega arith) (omega arith) (omega arith) c.remove-row.ensures.removed) c.requires.rise c.requires.fits c.remove-row.ensures.item c.remove-row.ensures.removed c.at-last.ensures.item in
    last.fits

pub returns-clause-same : goal.returns-clause-same
returns-clause-same g c =
    let last = is_last _ c.args.left.now.items c.remove-row.new.self.items c.args.right.now.items c.remove-row.result c.at-last.result _ _ (omega arith) (shorter c.args.left.now.items c.remove-row.new.self.items _ _ (omega arith) (omega arith) (omega arith) c.remove-row.ensures.removed) c.requires.rise c.requires.fits c.remove-row.ensures.item c.remove-row.ensures.removed c.at-last.ensures.item in
    moved_right _ c.args.left.now.items c.remove-row.new.self.items c.args.right.now.items _ _ c.remove-row.result c.at-last.result _ last c.raise.ensures.raised refl c.put_row.ensures.put
