use Rattle.std.proofs.Common.{◌≡◌, ◌<◌, List, length, set, length-set, arith, sym, ap, subst, ◌∙◌}
use Rattle.time_table.specs.declared.row.Row.{Row}
use Rattle.time_table.specs.Totals.{last_total}
use Rattle.time_table.specs.Places.{added}
use Rattle.time_table.specs.Blocks.{Held, AreLast}
use Rattle.time_table.proofs.MoreRecords.{fits_all}
use Rattle.time_table.proofs.BlockRows.{held_len, Rise-heads, Rise-at, total_at, Held-added, parts-added, last_total-raised_from}
use Rattle.time_table.proofs.LastBins.{AreLast-added}
use Rattle.time_table.proofs.BlockSizes.{sized_at, SizedBut-set, added_loose, ok_gives, with_room, longer_at, others_at}
use Rattle.time_table.proofs.split.add_at.Goals as goal

pub index_mut-block-requires : goal.index_mut-block-requires
index_mut-block-requires g c =
    let same : length c.args.heads.now.items ≡ length c.args.blocks.now.items = held_len 0 0 c.args.heads.now.items c.args.blocks.now.items c.requires.split.held in
    omega arith

pub add_record-requires-clause-rise : goal.add_record-requires-clause-rise
add_record-requires-clause-rise g c =
    Rise-at 0 0 c.args.place c.args.heads.now.items c.args.blocks.now.items c.index_mut-block.result.now c.requires.split.held c.requires.within c.index_mut-block.ensures.value

pub add_record-requires-clause-fits : goal.add_record-requires-clause-fits
add_record-requires-clause-fits g c =
    let part = total_at 0 0 c.args.place c.args.heads.now.items c.args.blocks.now.items c.index_mut-block.result.now c.requires.split.held c.requires.within c.index_mut-block.ensures.value in
    record { half = omega (arith, part, c.requires.fits.half); small = omega (arith, part, c.requires.fits.small) }

pub raise-requires-clause-fits : goal.raise-requires-clause-fits
raise-requires-clause-fits g c = fits_all _ c.args.amount c.args.heads.now.items (Rise-heads 0 0 c.args.heads.now.items c.args.blocks.now.items c.requires.split.held) (omega (arith, c.requires.fits.half))

pub returns-clause-adds : goal.returns-clause-adds
returns-clause-adds g c =
    let same : length c.args.heads.now.items ≡ length c.args.blocks.now.items = held_len 0 0 c.args.heads.now.items c.args.blocks.now.items c.requires.split.held in
    let within : c.args.place < length c.args.heads.now.items = c.requires.within in
    let sized = sized_at c.args.place c.args.blocks.now.items c.index_mut-block.result.now c.requires.split.sized (omega arith) c.index_mut-block.ensures.value in
    let new : c.add_record.new.rows.items ≡ added 0 c.args.bin c.args.amount c.index_mut-block.result.now.items = ok_gives c.add_record.result _ (c.add_record.ensures.not_refused (with_room c.index_mut-block.result.now sized)) c.add_record.ensures.added in
    record {
      heads_held = record {
        held = subst (λ (hs : List Row). Held 0 0 hs (set c.args.blocks.now.items c.args.place c.add_record.new.rows)) (sym c.raise.ensures.raised)
            (Held-added 0 0 c.args.bin c.args.amount c.args.place c.args.heads.now.items c.args.blocks.now.items c.index_mut-block.result.now c.add_record.new.rows c.requires.split.held (omega arith) c.requires.place.lesser c.requires.place.others c.requires.within c.index_mut-block.ensures.value new c.requires.some);
        last = subst (λ (hs : List Row). AreLast hs (set c.args.blocks.now.items c.args.place c.add_record.new.rows)) (sym c.raise.ensures.raised)
            (AreLast-added c.args.bin c.args.amount c.args.place c.args.heads.now.items c.args.blocks.now.items c.index_mut-block.result.now c.add_record.new.rows c.requires.split.last c.requires.place.others c.requires.within c.index_mut-block.ensures.value new);
      };
      parts = parts-added 0 0 c.args.bin c.args.amount c.args.place c.args.heads.now.items c.args.blocks.now.items c.index_mut-block.result.now c.add_record.new.rows c.requires.split.held c.requires.place.lesser c.requires.place.others c.requires.within c.index_mut-block.ensures.value new;
      sized = SizedBut-set 0 c.args.place c.args.blocks.now.items c.add_record.new.rows c.requires.split.sized (omega arith) (added_loose c.args.bin c.args.amount c.index_mut-block.result.now c.add_record.new.rows sized new c.add_record.ensures.room);
      total = ap (last_total 0) c.raise.ensures.raised ∙ last_total-raised_from c.args.amount 0 c.args.place c.args.heads.now.items c.requires.within;
      count = length-set c.args.blocks.now.items c.args.place c.add_record.new.rows;
      longer = longer_at c.args.bin c.args.amount c.args.place c.args.blocks.now.items c.index_mut-block.result.now c.add_record.new.rows (omega arith) c.index_mut-block.ensures.value new;
      others = others_at c.args.place c.args.blocks.now.items c.add_record.new.rows;
      spare = c.raise.ensures.room;
    }
