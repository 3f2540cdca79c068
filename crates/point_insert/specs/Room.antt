-- How many changes an insertion makes at most.
use Rattle.std.specs.Prelude.{ℕ, zero, suc, ◌+◌, ◌-◌, ◌*◌, ◌==◌, if◌then◌else◌}
use Rattle.cube_view.specs.Places.{deepest, time_dim}
use Rattle.cube_view.specs.declared.schema.Schema.{Schema}

-- how many node addresses of so many dimensions, from a dimension on, hold a point, below one address before them
abbrev pub visits_in : Schema → ℕ → ℕ → ℕ
visits_in schema dim zero = 0
visits_in schema dim (suc n) = (deepest schema dim + 1) * (1 + visits_in schema (dim + 1) n)

-- the same of all dimensions from that one to the last before time
abbrev pub visits_from : Schema → ℕ → ℕ
visits_from schema dim = visits_in schema dim (time_dim schema - dim)

-- how many node addresses hold a point
abbrev pub visits : Schema → ℕ
visits schema = visits_from schema 1

-- the changes that adding a point to the content of a dimension may make: one to a time table
abbrev pub allowance : Schema → ℕ → ℕ
allowance schema dim = if dim == time_dim schema then 1 else 5 * visits_from schema dim
