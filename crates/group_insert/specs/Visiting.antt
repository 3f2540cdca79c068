-- What holds where a group visits a slot with the points that its home holds, and afterwards.
use Rattle.std.specs.Prelude.{◌≡◌, ℕ, ◌+◌, ◌<◌, ◌≤◌, ◌^◌, Bool, true, IsTrue, List, [], ◌∷◌, ◌++◌, Option, Some, None, All, Contains, drop, length, slice_range}
use Rattle.cube_view.specs.Places.{deepest, time_dim}
use Rattle.cube_view.specs.Points.{Point}
use Rattle.cube_view.specs.Validity.{sound}
use Rattle.cube_view.specs.Walks.{down, Walk, SpotPath, Under, dimension}
use Rattle.cube_view.specs.declared.schema.Schema.{Schema}
use Rattle.node_arena.specs.Amounts.{Weighted, spots_in}
use Rattle.node_arena.specs.Shape.{home_of, HasOneChild}
use Rattle.node_arena.specs.Slots.{Slot}
use Rattle.node_arena.specs.declared.link.Link.{Link}
use Rattle.node_arena.specs.declared.link.SlotId.{SlotId}
use Rattle.point_insert.specs.Known.{total_weight}
use Rattle.point_insert.specs.Visited.{SharesOf}
use Rattle.group_insert.specs.Halfway.{IsHalfwayBefore}
use Rattle.group_insert.specs.Labels.{label_at, points_at, HoldsRest}
use Rattle.group_insert.specs.Later.{PutOff}
use Rattle.group_insert.specs.Parts.{part_of}
use Rattle.group_insert.specs.Settling.{entries}
use Rattle.group_insert.specs.Visits.{ArePoints, HasVisitedAll, HasOneLabel, IsAmong}
use Rattle.group_insert.specs.Ways.{value_gone, IsWayTo}
use Rattle.group_insert.specs.declared.put_off.PutOffLink.{PutOffLink}
use Rattle.group_insert.specs.declared.visits.Part.{Part}
use Rattle.group_insert.specs.declared.visits.Place.{Place}
use Rattle.group_insert.specs.declared.way.Way.{Way}
use Rattle.proper_path.specs.Paths.{level_of, paths_of}
use Rattle.proper_path.specs.Rooted.{places_of}

-- the way leads to slot i, and at level 0 no value has been gone down in the slot's dimension
pub record IsOnWay (slots : List Slot) (homes : List Walk) (way : Way) (dim level i : ℕ) : Type 0 where
  pub leads : IsWayTo slots homes way.values (places_of way.roots) way.level dim i
  pub fresh : 2 ≤ dim → level ≡ 0 → value_gone way.values dim ≡ None
  pub sized : (length way.values ≡ 6) × (length way.roots ≡ 6)

-- before the visit of slot i, with the points of the group that its home holds and the links that were put off before
pub record IsVisitableAt (schema : Schema) (group : List Point) (slots : List Slot) (way : Way) (put : List PutOff) (dim level i : ℕ) (part : List Point) (homes : List Walk) (h : List Weighted) : Type 0 where
  pub in_range : i < length slots
  pub in_dim : dimension (home_of homes i) ≡ dim
  pub at_level : level_of (home_of homes i) ≡ level
  pub on_way : dim < time_dim schema → IsOnWay slots homes way dim level i
  pub halfway : IsHalfwayBefore (time_dim schema) slots homes h (paths_of schema group) put (home_of homes i)
  pub part_is : part ≡ part_of schema group (home_of homes i)
  pub some : 0 < length part
  pub points : ArePoints (time_dim schema) h (paths_of schema group)
  pub light : total_weight (paths_of schema group ++ h) < 2 ^ 63

-- a group, homes and counted points are known for which it is so
pub record CanVisitAt (schema : Schema) (slots : List Slot) (way : Way) (put : List PutOff) (dim level i : ℕ) (part : List Point) : Type 0 where
  pub group : List Point
  pub homes : List Walk
  pub counted : List Weighted
  pub known : IsVisitableAt schema group slots way put dim level i part homes counted

-- the visit has ended, for all of them that fitted
abbrev pub VisitsAt : Schema → List Slot → List Slot → Way → List PutOff → List PutOff → ℕ → ℕ → ℕ → List Point → Type 0
VisitsAt schema old new way before after dim level i part = (group : List Point) (homes : List Walk) (h : List Weighted) → IsVisitableAt schema group old way before dim level i part homes h → HasVisitedAll (time_dim schema) h (paths_of schema group) old homes i new before after

-- a visit is `wide` where the node does not have one label
pub record FitsWide (wide : Bool) (only : Option ℕ) : Type 0 where
  pub no_only : wide ≡ true → only ≡ None
  pub is_wide : only ≡ None → wide ≡ true

-- the visit has begun with these slots, and the labels below `from` have been visited
pub record CanPassAt (schema : Schema) (slots : List Slot) (way : Way) (put : List PutOff) (dim level i : ℕ) (part : List Point) (wide : Bool) (from : ℕ) : Type 0 where
  pub old : List Slot
  pub before : List PutOff
  pub group : List Point
  pub homes : List Walk
  pub counted : List Weighted
  pub only : Option ℕ
  pub known : IsVisitableAt schema group old way before dim level i part homes counted
  pub may : FitsWide wide only
  pub among : IsAmong (time_dim schema) counted (paths_of schema group) old homes i only from slots before put

-- then those below `to` have been, for all of them that fitted
abbrev pub PassesAt : Schema → List Slot → List Slot → Way → List PutOff → List PutOff → ℕ → ℕ → ℕ → List Point → Bool → ℕ → ℕ → Type 0
PassesAt schema mid new way put after dim level i part wide from to = (old : List Slot) (before : List PutOff) (group : List Point) (homes : List Walk) (h : List Weighted) (only : Option ℕ) → IsVisitableAt schema group old way before dim level i part homes h → FitsWide wide only →
    IsAmong (time_dim schema) h (paths_of schema group) old homes i only from mid before put → IsAmong (time_dim schema) h (paths_of schema group) old homes i only to new before after

-- the content has been visited, for all of them that fitted
abbrev pub PassesContentAt : Schema → List Slot → List Slot → Way → List PutOff → List PutOff → ℕ → ℕ → ℕ → List Point → Type 0
PassesContentAt schema old new way before after dim level i part = (group : List Point) (homes : List Walk) (h : List Weighted) → IsVisitableAt schema group old way before dim level i part homes h → IsAmong (time_dim schema) h (paths_of schema group) old homes i None 0 new before after

-- all labels have been visited, for all of them that fitted
abbrev pub PassesLabelsAt : Schema → List Slot → List Slot → Way → List PutOff → List PutOff → ℕ → ℕ → ℕ → List Point → Bool → Type 0
PassesLabelsAt schema mid new way put after dim level i part wide = (from : ℕ) × PassesAt schema mid new way put after dim level i part wide 0 from × All (λ p. label_at schema dim (level + 1) p < from) part

-- the part of a place
abbrev pub part_at : Place → List Point → List Point
part_at place pile = slice_range pile place.part.at place.part.end

-- the root, with all points up to a place of the pile
abbrev pub root_of : SlotId → ℕ → Place
root_of root end = record { dim = 1; level = 0; at = root; part = record { at = 0; end = end }; way = record { values = None ∷ None ∷ None ∷ None ∷ None ∷ None ∷ []; roots = root ∷ root ∷ root ∷ root ∷ root ∷ root ∷ []; level = 0 } }

-- a place can be visited, with its part of the pile and the links that were put off before
abbrev pub CanVisitPart : Schema → List Slot → Place → List Point → List PutOffLink → Type 0
CanVisitPart schema slots place pile put = CanVisitAt schema slots place.way (entries put) place.dim place.level place.at.0 (part_at place pile)

-- its visit has ended, with the links that were put off before and those afterwards
abbrev pub VisitsPart : Schema → List Slot → List Slot → Place → List Point → List PutOffLink → List PutOffLink → Type 0
VisitsPart schema old new place pile before after = VisitsAt schema old new place.way (entries before) (entries after) place.dim place.level place.at.0 (part_at place pile)

-- its visit has begun, and the labels below `from` have been visited
abbrev pub CanPass : Schema → List Slot → Place → List Point → List PutOffLink → Bool → ℕ → Type 0
CanPass schema slots place pile put wide from = CanPassAt schema slots place.way (entries put) place.dim place.level place.at.0 (part_at place pile) wide from

-- its content has been visited
abbrev pub PassesContent : Schema → List Slot → List Slot → Place → List Point → List PutOffLink → List PutOffLink → Type 0
PassesContent schema old new place pile before after = PassesContentAt schema old new place.way (entries before) (entries after) place.dim place.level place.at.0 (part_at place pile)

-- all its labels have been visited
abbrev pub PassesLabels : Schema → List Slot → List Slot → Place → List Point → List PutOffLink → List PutOffLink → Bool → Type 0
PassesLabels schema mid new place pile put after wide = PassesLabelsAt schema mid new place.way (entries put) (entries after) place.dim place.level place.at.0 (part_at place pile) wide

-- the labels from one on have been visited as far as the one named
abbrev pub PassesTo : Schema → List Slot → List Slot → Place → List Point → List PutOffLink → List PutOffLink → Bool → ℕ → ℕ → Type 0
PassesTo schema mid new place pile put after wide from label = PassesAt schema mid new place.way (entries put) (entries after) place.dim place.level place.at.0 (part_at place pile) wide from (label + 1)

-- all labels of a node have been visited that has one label
pub record CanShare (slots : List Slot) (i : ℕ) : Type 0 where
  pub schema : Schema
  pub way : Way
  pub before : List PutOff
  pub put : List PutOff
  pub dim : ℕ
  pub level : ℕ
  pub early : dim < time_dim schema
  pub part : List Point
  pub old : List Slot
  pub group : List Point
  pub homes : List Walk
  pub counted : List Weighted
  pub label : ℕ
  pub from : ℕ
  pub known : IsVisitableAt schema group old way before dim level i part homes counted
  pub has_one : HasOneLabel old homes (paths_of schema group) i label
  pub among : IsAmong (time_dim schema) counted (paths_of schema group) old homes i (Some label) from slots before put
  pub none : (n : ℕ) (q : SpotPath) → from ≤ n → Contains (spots_in (paths_of schema group)) q → Under q (down n ∷ home_of homes i) → ⊥

-- a node that has one child shares its content
abbrev pub SharesOnly : List Slot → List Slot → ℕ → Type 0
SharesOnly old new i = (label : ℕ) (k : Link) → HasOneChild old i label k → SharesOf old new i k

-- the dimensions that entries name are those of ways
abbrev pub AreEntries : List PutOffLink → Type 0
AreEntries put = All (λ p. p.from + p.between < 6) put

-- a part stands in the pile, whose points are sound
pub record HasPartAt (schema : Schema) (pile : List Point) (at end : ℕ) : Type 0 where
  pub ordered : at ≤ end
  pub within : end ≤ length pile
  pub all_sound : All (λ p. IsTrue (sound schema p)) pile

-- a place, its part of the pile and the links that were put off are such that a visit may go on from there
pub record CanVisitHere (schema : Schema) (place : Place) (pile : List Point) (put : List PutOffLink) : Type 0 where
  -- the dimension comes before time
  pub dim : (1 ≤ place.dim) × (place.dim < time_dim schema)
  -- the place is no deeper than its dimension goes
  pub level : place.level ≤ deepest schema place.dim
  -- the part stands in the pile
  pub part : HasPartAt schema pile place.part.at place.part.end
  -- the dimensions that the links name are those of ways
  pub put_off : AreEntries put

-- the part stands in the pile, and has the points of a label of a place's part
pub record IsLabelPart (schema : Schema) (place : Place) (pile : List Point) (label : ℕ) (part : Part) : Type 0 where
  pub there : HasPartAt schema pile part.at part.end
  pub points : slice_range pile part.at part.end ≡ points_at schema place.dim (place.level + 1) label (part_at place pile)

-- the part of a place stands from a place of the pile on once more, label after label
pub record IsPartedFrom (schema : Schema) (place : Place) (pile : List Point) (top : ℕ) : Type 0 where
  pub within : top ≤ length pile
  pub rest : HoldsRest schema place.dim (place.level + 1) 0 (part_at place pile) (drop top pile)
