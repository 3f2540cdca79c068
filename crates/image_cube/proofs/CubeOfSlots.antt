-- Slots that fit a schema are a cube's.
use Rattle.std.proofs.Common.{ℕ, List, get_or, refl}
use Rattle.std.proofs.lemmas.Bool.{and_parts}
use Rattle.cube_view.specs.Points.{weight_of_point}
use Rattle.cube_view.specs.Validity.{sound, weight_is_told}
use Rattle.cube_view.specs.declared.schema.Schema.{Schema}
use Rattle.cube_view.proofs.SchemaBounds.{few_categories}
use Rattle.node_arena.specs.Slots.{Slot}
use Rattle.cube_store.specs.Counted.{CountsPoints, HasPoints}
use Rattle.shape_test.specs.Fits.{Fits}
use Rattle.shape_test.specs.Sizes.{IsOfPoints, TellsPoints}

counts_points : (schema : Schema) (slots : List Slot) (size : ℕ) (P : IsOfPoints schema slots size) → CountsPoints schema slots 0 size P.points
counts_points schema slots size P = record {
  homes = P.homes;
  shape = P.shape;
  at_top = refl;
  all_sound = λ i d l. (and_parts (sound schema (get_or P.points i d)) (weight_is_told schema.weight (weight_of_point (get_or P.points i d))) (P.all_valid i d l)).0;
  all_four = P.all_four;
  number = P.number;
}

pub has_points : TellsPoints → (schema : Schema) (slots : List Slot) (size : ℕ) → Fits schema slots size → HasPoints schema slots 0 size
has_points tells schema slots size F =
    let P = tells schema slots size (few_categories schema) F in
    ∣ (P.points, counts_points schema slots size P) ∣₁
