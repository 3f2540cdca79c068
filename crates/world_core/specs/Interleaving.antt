-- Interleavings: lists of entries in which those of each feeder have the order of its list.
use Rattle.std.specs.Prelude.{◌≡◌, ℕ, ◌+◌, ◌-◌, ◌≤◌, ◌==◌, List, [], ◌∷◌, All, length, map, slice_index_or}
use Rattle.std.specs.List.{filter, flat_map, range_with_len, sum_by}
use Rattle.cube_view.specs.Points.{Point}
use Rattle.world_core.specs.declared.entry.Entry.{Entry}

-- the entry of that feeder, number and point
abbrev pub entry : ℕ → ℕ → Point → Entry
entry f n p = record { feeder = f; number = n; point = p }

-- the entries of a feeder with these points, numbered from n on
abbrev pub numbered : ℕ → ℕ → List Point → List Entry
numbered f n [] = []
numbered f n (p ∷ points) = entry f n p ∷ numbered f (n + 1) points

-- those of the entries that are of the feeder
abbrev pub entries_of : ℕ → List Entry → List Entry
entries_of f entries = filter (λ (e : Entry). e.feeder == f) entries

-- the points of the entries
abbrev pub entry_points : List Entry → List Point
entry_points entries = map (λ (e : Entry). e.point) entries

-- Each entry is of one of the feeders, from 1 on, and those of feeder f are numbered 0, 1, 2 and so on and have the
-- points of list f, in order
pub record IsInterleaving (feeders : ℕ) (lists : ℕ → List Point) (entries : List Entry) : Type 0 where
  -- each entry is of one of the feeders
  pub known : All (λ (e : Entry). (1 ≤ e.feeder) × (e.feeder ≤ feeders)) entries
  -- those of a feeder are its list, numbered from 0
  pub each : (f : ℕ) → 1 ≤ f → f ≤ feeders → entries_of f entries ≡ numbered f 0 (lists f)

-- the list of feeder f, where the first list is that of feeder 1
abbrev pub list_of : List (List Point) → ℕ → List Point
list_of lists f = slice_index_or lists (f - 1) []

-- a sum over the feeders
abbrev pub sum_of_feeders : ℕ → (ℕ → ℕ) → ℕ
sum_of_feeders feeders n = sum_by n (range_with_len 1 feeders)

-- the lists of the feeders, one after the other
abbrev pub lists_joined : ℕ → (ℕ → List Point) → List Point
lists_joined feeders lists = flat_map lists (range_with_len 1 feeders)
