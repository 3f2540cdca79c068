-- The records that feeds give.
use Rattle.std.proofs.Common.{List, ℕ, [], ◌∷◌, All, ◌<◌, ◌^◌}
use Rattle.std.specs.Prelude.{IsTrue}
use Rattle.std.specs.List.{flat_map}
use Rattle.std.proofs.lemmas.List.Elements.{All-append, All-nil, All-weaker}
use Rattle.cube_view.specs.Points.{Point, spot_of}
use Rattle.cube_view.specs.Validity.{valid}
use Rattle.cube_view.specs.declared.schema.Schema.{Schema}
use Rattle.feed_reader.specs.Accepting.{AcceptsSound, IsAccepted}
use Rattle.feed_reader.specs.Feeds.{accepted}
use Rattle.image_cube.specs.CubeImages.{AreRecords}

module _ (sound : AcceptsSound) (schema : Schema) (bytes : List ℕ → List ℕ) where
  all_accepted : (names : List (List ℕ)) → All (IsAccepted schema) (flat_map (λ name. accepted schema (bytes name)) names)
  all_accepted [] = All-nil (IsAccepted schema)
  all_accepted (n ∷ names) = All-append (IsAccepted schema) (accepted schema (bytes n)) (flat_map (λ name. accepted schema (bytes name)) names) (sound schema (bytes n)) (all_accepted names)

  pub are_records : (names : List (List ℕ)) → AreRecords schema (flat_map (λ name. accepted schema (bytes name)) names)
  are_records names = record {
    valid_points = All-weaker (IsAccepted schema) (λ (q : Point). IsTrue (valid schema q)) (λ q is. is.of_schema) _ (all_accepted names);
    small_bins = All-weaker (IsAccepted schema) (λ (q : Point). (spot_of q).bin < 2 ^ 32) (λ q is. is.bin) _ (all_accepted names);
  }
