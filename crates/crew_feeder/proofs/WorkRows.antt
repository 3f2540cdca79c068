-- A feeder's work that takes rows one after another.
use Rattle.std.proofs.Common.{◌≡◌, ℕ, ◌+◌, List, [], ◌∷◌, ◌++◌, length, take, sym, ◌∙◌, ap, append-nil, add-zero}
use Rattle.feed_queue.specs.Ends.{FeedState}
use Rattle.feed_reader.proofs.RowLists.{count_more, first_five, first_more, points_more}
use Rattle.feed_reader.specs.RowCounts.{first_refusals, having_kept, is_blank_row, is_refused_row, kept_refusals}
use Rattle.feed_reader.specs.declared.row.Row.{Row}
use Rattle.feed_reader.specs.declared.row.Row.TheVariants as row
use Rattle.crew_feeder.specs.Leaving.{HasTaken}
use Rattle.crew_feeder.specs.Taking.{having_taken_row}
use Rattle.crew_feeder.specs.declared.work.FeedWork.{FeedWork}

module _ {I : Type 0} (start : FeedWork I) where
  -- a work whose counts and end are another's has done what that has
  pub taken_alike : (now now' : FeedWork I) (rows : List Row) → now'.end ≡ now.end → now'.blank ≡ now.blank → now'.refused ≡ now.refused → now'.first ≡ now.first → now'.header ≡ now.header → HasTaken start now rows → HasTaken start now' rows
  taken_alike now now' rows end blank refused first header t = record {
    sent = ap (λ (e : FeedState). e.points) end ∙ t.sent;
    blank = blank ∙ t.blank;
    refused = refused ∙ t.refused;
    first = first ∙ t.first;
    end = (ap (λ (e : FeedState). e.lane) end ∙ t.end.0, ap (λ (e : FeedState). e.schema) end ∙ t.end.1, ap (λ (e : FeedState). e.feeder) end ∙ t.end.2);
    header = header ∙ t.header;
  }

  -- a work that took rows takes one more
  pub taken_more : (now : FeedWork I) (rows : List Row) (line : ℕ) (row : Row) → line ≡ (start.cutter.given + 1) + length rows → HasTaken start now rows → HasTaken start (having_taken_row now line row) (rows ++ row ∷ [])
  taken_more now rows line row.Blank number t = record {
    sent = sym (append-nil now.end.points) ∙ points_more start.end.points now.end.points rows row.Blank t.sent;
    blank = count_more is_blank_row rows row.Blank now.blank start.blank t.blank;
    refused = sym (add-zero now.refused) ∙ count_more is_refused_row rows row.Blank now.refused start.refused t.refused;
    first = sym (first_five now.first _ rows t.first) ∙ ap (λ rs. take kept_refusals (rs ++ [])) t.first ∙ sym (first_more (start.cutter.given + 1) rows row.Blank);
    end = t.end;
    header = t.header;
  }
  taken_more now rows line (row.Point p) number t = record {
    sent = points_more start.end.points now.end.points rows (row.Point p) t.sent;
    blank = sym (add-zero now.blank) ∙ count_more is_blank_row rows (row.Point p) now.blank start.blank t.blank;
    refused = sym (add-zero now.refused) ∙ count_more is_refused_row rows (row.Point p) now.refused start.refused t.refused;
    first = sym (first_five now.first _ rows t.first) ∙ ap (λ rs. take kept_refusals (rs ++ [])) t.first ∙ sym (first_more (start.cutter.given + 1) rows (row.Point p));
    end = t.end;
    header = t.header;
  }
  taken_more now rows line (row.Refused f) number t = record {
    sent = sym (append-nil now.end.points) ∙ points_more start.end.points now.end.points rows (row.Refused f) t.sent;
    blank = sym (add-zero now.blank) ∙ count_more is_blank_row rows (row.Refused f) now.blank start.blank t.blank;
    refused = count_more is_refused_row rows (row.Refused f) now.refused start.refused t.refused;
    first = ap (λ rs. having_kept rs (record { line = line; fault = f })) t.first ∙ ap (λ n. having_kept (first_refusals (start.cutter.given + 1) rows) (record { line = n; fault = f })) number ∙ sym (first_more (start.cutter.given + 1) rows (row.Refused f));
    end = t.end;
    header = t.header;
  }
