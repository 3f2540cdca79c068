use Rattle.std.proofs.Common.{◌-◌, arith}
use Rattle.time_table.proofs.TwoRowLists.{right_fits, given, above_given, filled}
use Rattle.time_table.proofs.pair.fill.Goals as goal

pub append-requires-clause-fits : goal.append-requires-clause-fits
append-requires-clause-fits g c = right_fits _ c.args.left.now.items c.args.right.now.items c.requires.rise c.requires.fits

pub lower-requires-clause-some : goal.lower-requires-clause-some
lower-requires-clause-some g c =
    let is = given _ (63 - c.len-count.result) c.args.left.now.items c.args.right.now.items c.at-last.result (omega (arith, c.requires.sizes.most)) (omega (arith, c.requires.full)) c.requires.rise c.at-last.ensures.item in
    above_given (63 - c.len-count.result) c.args.right.now.items c.drop_first.new.rows.items c.at-last.result is c.drop_first.ensures.dropped

pub returns-clause-same : goal.returns-clause-same
returns-clause-same g c =
    let is = given _ (63 - c.len-count.result) c.args.left.now.items c.args.right.now.items c.at-last.result (omega (arith, c.requires.sizes.most)) (omega (arith, c.requires.full)) c.requires.rise c.at-last.ensures.item in
    filled (63 - c.len-count.result) c.args.left.now.items c.args.right.now.items c.append.new.left.items c.drop_first.new.rows.items c.lower.new.rows.items c.at-last.result is c.append.ensures.put c.drop_first.ensures.dropped c.lower.ensures.lowered
