use Rattle.std.proofs.Common.{◌≡◌, ℕ, ◌<◌, false, List, map, take, get_or}
use Rattle.std.specs.List.{zip}
use Rattle.cube_view.specs.declared.category.Category.{Category}
use Rattle.feed_reader.specs.Rows.{is_unknown, texts_at, value_of}
use Rattle.feed_reader.proofs.Values.{padded}
use Rattle.feed_reader.proofs.row.values.Given as goal

abbrev pub invariant-loop-k : goal.invariant-loop-k
invariant-loop-k l = record {
  known : (j : ℕ) (d : Category × List ℕ) → j < l.k → is_unknown (get_or (zip l.categories (texts_at l.fields l.places)) j d) ≡ false;
  values : l.values ≡ padded (map value_of (take l.k (zip l.categories (texts_at l.fields l.places))));
}
