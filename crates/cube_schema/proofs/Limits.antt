-- A draft that passed the tests has what a schema wants.
use Rattle.std.proofs.Common.{◌≡◌, ℕ, true, None, ap, sym}
use Rattle.std.proofs.lemmas.Bool.{and_from, eqb-true}
use Rattle.cube_view.specs.Limits.{numbers_in_range, in_limits}
use Rattle.cube_schema.specs.declared.draft.Draft.{Draft}
use Rattle.cube_schema.specs.Versions.{version_of}
use Rattle.cube_schema.specs.Ranges.{first_out_of_range}
use Rattle.cube_schema.specs.Repeats.{first_repeated}
use Rattle.cube_schema.proofs.InRange.{are_in_range}
use Rattle.cube_schema.proofs.Distinct.{texts_are_distinct}

-- the parts of the schema are in their limits
pub schema_in_limits : (draft : Draft) → first_out_of_range draft ≡ None → first_repeated draft ≡ None → in_limits draft.depth draft.categories draft.width draft.batch draft.weight ≡ true
schema_in_limits draft ranges repeats =
    let r = are_in_range draft ranges in
    let numbers : numbers_in_range draft.depth draft.width draft.batch ≡ true = and_from _ _ (and_from _ _ r.depth r.width) r.batch in
    and_from _ _ (and_from _ _ (and_from _ _ numbers r.categories) r.weight) (texts_are_distinct draft repeats)

-- the version of a draft in its ranges is that of its weight column
pub version-is : (draft : Draft) → first_out_of_range draft ≡ None → draft.version ≡ version_of draft.weight
version-is draft ranges = eqb-true _ _ (are_in_range draft ranges).version

pub draft-versioned : (draft : Draft) → first_out_of_range draft ≡ None → record draft { version = version_of draft.weight } ≡ draft
draft-versioned draft ranges = ap (λ (n : ℕ). record draft { version = n }) (sym (version-is draft ranges))
