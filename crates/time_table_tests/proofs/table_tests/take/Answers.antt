use Rattle.std.proofs.Common.{◌≡◌, ◌≤◌, Some, sym, ap, ◌∙◌, arith}
use Rattle.std.specs.FinMap.{entries}
use Rattle.time_table.specs.Counts.{count_of, total_count, take_many, first_from}
use Rattle.time_table.proofs.CountLaws.{count_of-first_from, total_count-take_many}
use Rattle.time_table_tests.proofs.table_tests.take.Goals as goal

pub take_many-requires-clause-there : goal.take_many-requires-clause-there
take_many-requires-clause-there g c =
    let is : first_from c.args.bin (entries c.args.table.now) ≡ Some (c.args.bin, c.in-Some.count) = sym c.in-Some.ensures.next ∙ ap (λ k. Some (k, c.in-Some.count)) c.if-found-bin.true in
    omega (arith, count_of-first_from c.args.table.now c.args.bin c.in-Some.count is)

pub returns : goal.returns
returns g c =
    let is : first_from c.args.bin (entries c.args.table.now) ≡ Some (c.args.bin, c.in-Some.count) = sym c.in-Some.ensures.next ∙ ap (λ k. Some (k, c.in-Some.count)) c.if-found-bin.true in
    let there : c.args.amount ≤ count_of c.args.table.now c.args.bin = omega (arith, count_of-first_from c.args.table.now c.args.bin c.in-Some.count is) in
    let new : total_count c.take_many.new.self ≡ total_count (take_many c.args.table.now c.args.bin c.args.amount) = ap total_count c.take_many.ensures.taken in
    omega (arith, new, total_count-take_many c.args.table.now c.args.bin c.args.amount c.requires there)
