-- What a pair keeps.
use Rattle.std.specs.Prelude.{◌≡◌, ℕ, Bool, if◌then◌else◌, ◌+◌, ◌&&◌, nat_le, List, ◌++◌, length, drop, fold, Option, Some, None, IfSome}
use Rattle.std.specs.List.{list_all}
use mathlib.Core.Option.{some}
use lib.ListN.{get_elem?}
use Rattle.cube_view.specs.Points.{Point}
use Rattle.cube_view.specs.declared.schema.Schema.{Schema}
use Rattle.cube_view.specs.Bag.{most_points}
use Rattle.cube_view.specs.Validity.{sound}
use Rattle.logbook.specs.Pages.{Book}
use Rattle.world_core.specs.PairFact.{IsPrefix}
use Rattle.published_pair.specs.Rules.{Known, first_word_of}
use Rattle.published_pair.specs.declared.names.Standing.{Standing}
use Rattle.published_pair.specs.declared.names.Names.{Names}
use Rattle.published_pair.specs.declared.stand.Sent.{Sent}
use Rattle.published_pair.specs.declared.stand.Sent.TheVariants.{Added, Noted}

-- a copy that counts these points and stands at that published list
abbrev pub standing : List Point → Known → Schema → Standing
standing h f z = record { points = h; front = f; schema = z }

-- the copy has room for the points, and the schema takes each
abbrev pub takes : Standing → List Point → Bool
takes s points = nat_le (length s.points + length points) most_points && list_all (λ p. sound s.schema p) points

-- the copy with these points behind its own; where it does not take them all they are passed over
abbrev pub with_points : Standing → List Point → Standing
with_points s points = standing (if takes s points then s.points ++ points else s.points) s.front s.schema

-- the copy once it has taken in what was sent
abbrev pub absorbed : Standing → Sent → Standing
absorbed s (Added points) = with_points s points
absorbed s (Noted f) = standing s.points f s.schema

-- an end of the pair of that book and schema, which saw that list last
abbrev pub names : Book → Schema → List Point → Names
names b z h = record { head = first_word_of b; schema = z; seen = h }

-- what an end knows is so where the copy that is shown counts h: it knows the pair and its schema, and saw a prefix of
-- h
abbrev pub Knows : List Point → Book → Schema → Names → Type 0
Knows h b z n = (n.head ≡ first_word_of b) × (n.schema ≡ z) × IsPrefix n.seen h

-- What holds between any two steps, of the copy that is shown (the points h that it counts, its published list f and
-- its schema z) and of what each end knows
pub record KeepsPair (h : List Point) (f : Known) (z : Schema) (views : List (Option Names)) : Type 0 where
  -- it counts exactly the published list that it stands at
  pub told : h ≡ f.points
  -- what each end knows is so
  pub named : (seat : ℕ) (v : Option Names) → get_elem? views seat ≡ some v → IfSome v (Knows h f.book z)

-- An end that knew v knows w once it has seen the copy
pub record Sees (v : Option Names) (h : List Point) (f : Known) (z : Schema) (w : Option Names) : Type 0 where
  -- the copy counts exactly the published list that it stands at
  pub told : h ≡ f.points
  -- what the end knew is so: the copy has all that it saw before
  pub before : IfSome v (Knows h f.book z)
  -- from now on it has seen the copy's list
  pub after : w ≡ Some (names f.book z h)

-- once a copy that stands at the published list has taken in the log from behind on, it counts the noted list, and
-- stands at it
abbrev pub Pends : ℕ → List Sent → Schema → Known → Known → Type 0
Pends behind log z published noted = fold absorbed (standing published.points published z) (drop behind log) ≡ standing noted.points noted z

-- What a publisher has sent to its copies before it shows it: s is what the copy that is shown stands at, and viewers
-- are to be shown the noted list in place of the published one
pub record HasSent (s : Standing) (behind : ℕ) (log : List Sent) (z : Schema) (published noted : Known) : Type 0 where
  -- the copy that is shown counts the published list, and stands at it
  pub shown : s ≡ standing published.points published z
  -- once it has taken in what was sent, it counts the noted list, and stands at it
  pub pends : Pends behind log z published noted
  -- both lists are of one pair
  pub book : noted.book ≡ published.book
  -- what viewers are shown is a prefix of what is noted
  pub within : IsPrefix published.points noted.points

-- what a new viewer of that schema is: it was shown this list and has learned no other, and no last one
abbrev pub IsNewViewer : Schema → Known → Schema → Known → Known → Option Known → Type 0
IsNewViewer schema front its_schema shown learned last = (its_schema ≡ schema) × (shown ≡ front) × (learned ≡ front) × (last ≡ None)

-- the list is fresh for a viewer that was shown and told these lists last: both, and so all before, are prefixes of it
abbrev pub Fresh : List Point → List Point → List Point → Type 0
Fresh shown learned list = IsPrefix shown list × IsPrefix learned list
