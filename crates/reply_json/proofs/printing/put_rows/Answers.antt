use Rattle.std.proofs.Common.{refl}
use Rattle.reply_json.proofs.RowTexts.{next_row, last_row, none_fit, fits_more, all_fit}
use Rattle.reply_json.proofs.printing.put_rows.Goals as goal

pub loop-row-init : goal.loop-row-init
loop-row-init c = record { text = refl; fits = none_fit }

pub loop-row-preserved : goal.loop-row-preserved
loop-row-preserved c = record {
  text = next_row c.loop-row.out.items c.put_row.new.out.items _ c.loop-row.later c.args.rows.now c.loop-row.row-index c.row-item.result c.loop-row-test.true c.row-item.is c.in_ok-put_row.ensures.text c.loop-row.invariant.text;
  fits = fits_more c.args.rows.now c.loop-row.row-index c.row-item.result c.loop-row-test.true c.row-item.is c.in_ok-put_row.ensures.fits c.loop-row.invariant.fits;
}

pub returns-clause-text : goal.returns-clause-text
returns-clause-text c = last_row c.loop-row.out.items c.put_byte.new.out.items _ c.loop-row.later c.args.rows.now c.loop-row.row-index c.loop-row-test.false c.in_ok-put_byte.ensures.put c.loop-row.invariant.text

pub returns-clause-fits : goal.returns-clause-fits
returns-clause-fits c = all_fit c.args.rows.now c.loop-row.row-index c.loop-row-test.false c.loop-row.invariant.fits
