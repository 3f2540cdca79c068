-- The history of a pair: what was published, one publication after the other, and then perhaps an end.
use Rattle.std.specs.Prelude.{◌≡◌, List, [], ◌∷◌, ◌++◌, map}
use Rattle.cube_view.specs.Points.{Point}
use Rattle.published_pair.specs.declared.note.Note.{Note}
use Rattle.published_pair.specs.declared.note.Note.TheVariants.{Published, Ended}

-- the publications of a history, up to its end
abbrev pub batches_of : List Note → List (List Point)
batches_of [] = []
batches_of (Published points ∷ notes) = points ∷ batches_of notes
batches_of (Ended ∷ notes) = []

-- the published list: the points of the publications, in order
abbrev pub noted_points : List Note → List Point
noted_points [] = []
noted_points (Published points ∷ notes) = points ++ noted_points notes
noted_points (Ended ∷ notes) = []

-- a history that has not ended
abbrev pub open_of : List (List Point) → List Note
open_of batches = map Published batches

-- a history that has ended
abbrev pub ended_of : List (List Point) → List Note
ended_of batches = open_of batches ++ Ended ∷ []

-- nothing follows an end
abbrev pub EndsOnce : List Note → Type 0
EndsOnce log = (before after : List Note) → log ≡ before ++ Ended ∷ after → after ≡ []
