use Rattle.std.proofs.Common.{◌≡◌, ◌+◌, ◌-◌, ◌<◌, All, length, take, drop, sym, subst, arith}
use Rattle.feed_queue.specs.Journal.{entry_numbers, IsEntryOf}
use Rattle.feed_queue.specs.NumberReading.{four_of}
use Rattle.feed_queue.proofs.ByteByByte.{if_none}
use Rattle.feed_queue.proofs.EntryNumbers.{bytes_among}
use Rattle.feed_queue.proofs.reading.entry_with.Goals as goal
use Rattle.world_core.specs.declared.entry.Entry.{Entry}

pub returns-in_err-values-clause-none : goal.returns-in_err-values-clause-none
returns-in_err-values-clause-none c = if_none c.from_residual-in_err-values.result ((e : Entry) → IsEntryOf c.args.schema.now e → entry_numbers c.args.schema.now e ≡ c.args.numbers.now → ⊥)
    (λ e is same.
    let count : 4 + c.len-categories.result - 4 ≡ length c.args.schema.now.categories = omega (arith, c.len-categories.ensures) in
    c.in_err-values.ensures.none (subst (λ n. All (λ v. v < 256) (four_of (take n (drop 4 c.args.numbers.now)))) (sym count) (bytes_among c.args.schema.now e is c.args.numbers.now same)))
