use Rattle.std.proofs.Common.{◌≡◌, ◌++◌, ◌∷◌, [], arith}
use Rattle.std.proofs.lemmas.Result.{err_from_is_err_and}
use Rattle.image_parse.specs.Reading.{table_rows_at}
use Rattle.image_parse.proofs.Loops.{row_goes, row_ends, rows_done}
use Rattle.image_parse.proofs.TableReads.{rows_found}
use Rattle.image_parse.proofs.slots.take_rows.Goals as goal

pub returns-in_err-row-clause-read : goal.returns-in_err-row-clause-read
returns-in_err-row-clause-read c =
    let p = err_from_is_err_and c.from_residual.result c.from_residual.ensures.1 in
    rw (p.1, p.2) (row_ends c.in_err-row.field-0.0 c.loop.rows.items c.args.count c.loop.counter c.loop.from c.loop.rest.now (table_rows_at c.args.count 0 c.args.bytes.now) c.loop-test.true c.in_err-row.ensures c.loop.invariant)

pub loop-preserved : goal.loop-preserved
loop-preserved c =
    let row = c.in_ok-row.row in
    let e : c.push.new.self.items ≡ c.loop.rows.items ++ row ∷ [] = c.in_ok-push.ensures.items in
    let f : c.from-from.result ≡ row.0 = c.from-from.ensures in
    rw (e, f) (row_goes c.loop.rows.items c.args.count c.loop.counter c.loop.from c.loop.rest.now row c.in_ok-row.after.now (table_rows_at c.args.count 0 c.args.bytes.now) c.loop-test.true c.in_ok-row.ensures c.loop.invariant)

pub returns-clause-read : goal.returns-clause-read
returns-clause-read c = rows_done c.loop.rows.items c.args.count c.loop.counter c.loop.from c.loop.rest.now (table_rows_at c.args.count 0 c.args.bytes.now) c.loop-test.false c.loop.invariant

pub returns-clause-fits : goal.returns-clause-fits
returns-clause-fits c = rows_found c.args.count c.args.bytes.now c.loop.rows.items _ (λ i. omega (arith, c.type_inv.bytes i)) (returns-clause-read c)
