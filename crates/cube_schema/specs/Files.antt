-- The files that a plan names.
use Rattle.std.specs.Prelude.{◌≢◌, ℕ, ◌≤◌, List, [], ◌∷◌, ◌++◌, length, AllPairs}
use Rattle.cube_schema.specs.declared.plan.Plan.{Plan}
use Rattle.cube_schema.specs.Repeats.{outputs}

-- the files that are read, in order: feeds, asks, finals
abbrev pub input_names : Plan → List (List ℕ)
input_names plan = plan.feeds ++ (plan.asks ++ plan.finals)

-- the files that are written, in order: the replies to asks and finals, and the journal
abbrev pub output_names : Plan → List (List ℕ)
output_names plan = (outputs plan.asks ++ outputs plan.finals) ++ plan.journal ∷ []

-- how many files of each kind a plan names, and that it names none twice
pub record NamesFiles (plan : Plan) : Type 0 where
  -- 1 to 8
  pub feeds : (1 ≤ length plan.feeds) × (length plan.feeds ≤ 8)
  pub few_asks : length plan.asks ≤ 8
  pub few_finals : length plan.finals ≤ 8
  -- among those that are read and those that are written
  pub apart : AllPairs (λ s t. s ≢ t) (input_names plan ++ output_names plan)
