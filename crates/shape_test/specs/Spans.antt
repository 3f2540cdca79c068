-- Homes that lie behind one another in one list of steps.
use Rattle.std.specs.Prelude.{ℕ, ◌≤◌, List, [], ◌∷◌, ◌++◌, map, length, slice_index_or, slice_range, All}
use Rattle.shape_test.specs.declared.home.Move.{Move}
use Rattle.shape_test.specs.declared.home_list.Span.{Span}

-- the steps from a place to another
abbrev pub span_moves : List Move → Span → List Move
span_moves moves s = slice_range moves s.start s.end

-- the homes that lie between places
abbrev pub spanned : List Move → List Span → List (List Move)
spanned moves spans = map (span_moves moves) spans

-- a home lies among so many steps
abbrev pub IsSpan : ℕ → Span → Type 0
IsSpan n s = (s.start ≤ s.end) × (s.end ≤ n)

-- each home lies among the steps
abbrev pub AreSpans : List Move → List Span → Type 0
AreSpans moves spans = All (IsSpan (length moves)) spans

-- homes, and behind them an earlier one with a step before it
abbrev pub with_step : List (List Move) → Move → ℕ → List (List Move)
with_step homes step above = homes ++ (step ∷ slice_index_or homes above []) ∷ []
