-- How far a cutter has come over its input.
use Rattle.std.specs.Prelude.{◌≡◌, ℕ, ◌<◌, ◌≤◌, false, List, ◌++◌, Option, Some, None, IsSomeAnd}
use Rattle.outer_io.specs.Cutting.{Cutter, lines_left, input_size}
use Rattle.outer_io.specs.Lines.{Line, input_limit}
use Rattle.outer_io.specs.Told.{Told}

-- the cutter gives lines: it met no fault, and not the end of the input
abbrev pub IsGoing : {S : Type 0} → Cutter S → Type 0
IsGoing c = (c.fault ≡ None) × (c.ended ≡ false)

-- The cutter went on over these lines. Its source met no fault.
pub record Passes {S : Type 0} (left : S → Option (List ℕ)) (faults : S → ℕ) (before after : Cutter S) (lines : List Line) : Type 0 where
  pub covers : Told (lines_left left before) (λ all. IsSomeAnd (lines_left left after) (λ rest. all ≡ lines ++ rest))
  pub size : Told (input_size left before) (λ size. input_size left after ≡ Some size)
  pub quiet : faults after.source ≡ faults before.source

-- the input is over the limit, where the source tells it
abbrev pub IsTooLarge : {S : Type 0} → (S → Option (List ℕ)) → Cutter S → Type 0
IsTooLarge left before = Told (input_size left before) (λ size. input_limit < size)

-- the input is within the limit, where the source tells it
abbrev pub IsWithinLimit : {S : Type 0} → (S → Option (List ℕ)) → Cutter S → Type 0
IsWithinLimit left before = Told (input_size left before) (λ size. size ≤ input_limit)

-- the cutter went on over all its lines, and the input was within the limit
pub record PassesAll {S : Type 0} (left : S → Option (List ℕ)) (faults : S → ℕ) (before after : Cutter S) (lines : List Line) : Type 0 where
  pub covers : Told (lines_left left before) (λ all. all ≡ lines)
  pub size : IsWithinLimit left before
  pub quiet : faults after.source ≡ faults before.source
