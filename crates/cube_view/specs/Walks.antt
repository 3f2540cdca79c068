-- Walks down a cube, step by step, and which spots lie under a walk. A walk is an address, and an
-- address is coarser than another one where each step of the other keeps at least as many labels.
use Rattle.std.specs.Prelude.{◌≡◌, ℕ, suc, Bool, true, false, cond, ◌&&◌, eqb, List, [], ◌∷◌, Option, Some, None, is_some, Contains, count_by}

-- down to the child of a label, or across to the content, which is the next dimension or a time table
pub data Step : Type 0 where
  down : ℕ → Step
  across : Step

-- the steps from the top, the last one first
abbrev pub Walk : Type 0
Walk = List Step

-- a spot as walks see it: its labels in each dimension from level 1 on, the last dimension being time,
-- which has none, and its bin
pub record SpotPath : Type 0 where
  pub paths : List (List ℕ)
  pub bin : ℕ

-- what a walk has left of a spot: the labels of the walk's dimension, and the later dimensions
pub record Cursor : Type 0 where
  pub rest : List ℕ
  pub later : List (List ℕ)

-- the next label is l
abbrev pub after_down : ℕ → List ℕ → List (List ℕ) → Option Cursor
after_down l [] later = None
after_down l (x ∷ rest) later = cond (eqb l x) (Some (record { rest = rest; later = later })) None

-- the next dimension begins
abbrev pub after_across : List (List ℕ) → Option Cursor
after_across [] = None
after_across (path ∷ later) = Some (record { rest = path; later = later })

-- one step on
abbrev pub after_step : Step → Cursor → Option Cursor
after_step (down l) c = after_down l c.rest c.later
after_step across c = after_across c.later

-- one step on, where the walk went well so far
abbrev pub then_step : Option Cursor → Step → Option Cursor
then_step None e = None
then_step (Some c) e = after_step e c

-- what the walk has left of the spot: None where it leaves the spot's own labels
abbrev pub cursor : SpotPath → Walk → Option Cursor
cursor q [] = after_across q.paths
cursor q (e ∷ walk) = then_step (cursor q walk) e

-- the walk goes by the spot's own labels
abbrev pub under : SpotPath → Walk → Bool
under q walk = is_some (cursor q walk)

-- the spot lies under the walk's address
abbrev pub Under : SpotPath → Walk → Type 0
Under q walk = under q walk ≡ true

-- how many spots of the list lie under the address and have the bin
abbrev pub count_under : List SpotPath → Walk → ℕ → ℕ
count_under h walk bin = count_by (λ q. under q walk && eqb q.bin bin) h

-- some spot of the list lies under the address
pub record HasSpot (h : List SpotPath) (a : Walk) : Type 0 where
  pub spot : SpotPath
  pub is_in : Contains h spot
  pub lies : Under spot a

-- `Finer false a b`: b is finer than a or equal, of the same dimension and level.
-- `Finer true a b`: b lies within a, and may go further down in its last dimension.
pub data Finer : Bool → Walk → Walk → Type 0 where
  top : {loose : Bool} → Finer loose [] []
  by_down : {loose : Bool} {l : ℕ} {a b : Walk} → Finer false a b → Finer loose (down l ∷ a) (down l ∷ b)
  by_across : {loose : Bool} {a b : Walk} → Finer true a b → Finer loose (across ∷ a) (across ∷ b)
  longer : {l : ℕ} {a b : Walk} → Finer true a b → Finer true a (down l ∷ b)

-- a is coarser than b or equal
abbrev pub IsCoarser : Walk → Walk → Type 0
IsCoarser a b = Finer false a b

-- the number of the walk's dimension, space being 1
abbrev pub dimension : Walk → ℕ
dimension [] = 1
dimension (down l ∷ a) = dimension a
dimension (across ∷ a) = suc (dimension a)

-- down along all labels of a path
abbrev pub down_all : List ℕ → Walk → Walk
down_all [] a = a
down_all (l ∷ path) a = down_all path (down l ∷ a)

-- on through all later dimensions
abbrev pub whole_from : List (List ℕ) → Walk → Walk
whole_from [] a = a
whole_from (path ∷ later) a = whole_from later (down_all path (across ∷ a))

-- the walk by whole paths in all dimensions
abbrev pub whole_of : List (List ℕ) → Walk
whole_of [] = []
whole_of (path ∷ later) = whole_from later (down_all path [])

-- the walk of a spot by its whole path in every dimension, which ends at a time table
abbrev pub whole : SpotPath → Walk
whole q = whole_of q.paths
