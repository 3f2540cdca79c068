use Rattle.reply_sums.proofs.Great.{seen_great, table_great}
use Rattle.reply_sums.proofs.ReplySums.{fault_is, table_found, table_none}
use Rattle.reply_sums.specs.declared.fault.SumFault.TheVariants as fault
use Rattle.reply_sums.proofs.sums.sum_tables.Goals as goal

pub returns-in_err-rows-clause-none : goal.returns-in_err-rows-clause-none
returns-in_err-rows-clause-none c e =
    table_none c.args.query.now c.args.table.now c.args.other.now c.as_slice.result.now c.as_slice-2.result.now c.as_slice.ensures c.as_slice-2.ensures
    (c.in_err-rows.ensures.none (fault_is c.from_residual.result c.in_err-rows.field-0.0 fault.OtherRows c.from_residual.ensures.1 e))

pub returns-clause-sum : goal.returns-clause-sum
returns-clause-sum c =
    table_found c.args.query.now c.args.table.now c.args.other.now c.as_slice.result.now c.as_slice-2.result.now c.as_slice.ensures c.as_slice-2.ensures
    c.in_ok-rows.rows c.in_ok-seen.seen c.in_ok-rows.ensures.sum c.in_ok-seen.ensures.sum

pub returns-in_err-rows-clause-great : goal.returns-in_err-rows-clause-great
returns-in_err-rows-clause-great c e =
    table_great c.args.query.now c.args.table.now c.args.other.now c.as_slice.result.now c.as_slice-2.result.now c.as_slice.ensures c.as_slice-2.ensures
    (c.in_err-rows.ensures.great (fault_is c.from_residual.result c.in_err-rows.field-0.0 fault.TooMuch c.from_residual.ensures.1 e))

pub returns-in_err-seen-clause-great : goal.returns-in_err-seen-clause-great
returns-in_err-seen-clause-great c e =
    seen_great c.args.query.now c.args.table.now c.args.other.now c.as_slice.result.now c.as_slice-2.result.now c.as_slice.ensures c.as_slice-2.ensures
    c.in_ok-rows.rows c.in_ok-rows.ensures.sum (c.in_err-seen.ensures.great (fault_is c.from_residual-in_err-seen.result c.in_err-seen.field-0.0 fault.TooMuch c.from_residual-in_err-seen.ensures.1 e))
