-- The links that are put off are settled at the end of the visit of a node of space.
use Rattle.std.specs.Prelude.{◌≡◌, ℕ, List, [], map, length}
use Rattle.cube_view.specs.Walks.{Walk, dimension}
use Rattle.node_arena.specs.Amounts.{Weighted}
use Rattle.node_arena.specs.Slots.{Slot}
use Rattle.proper_path.specs.Making.{Keeps}
use Rattle.proper_path.specs.Rooted.{state}
use Rattle.group_insert.specs.FinerWalk.{entry_of}
use Rattle.group_insert.specs.Halfway.{IsHalfwayAfter}
use Rattle.group_insert.specs.Later.{PutOff}
use Rattle.group_insert.specs.LeastSoFar.{BegunAfter, IsLeastSoFar}
use Rattle.group_insert.specs.Visits.{ArePoints, PutsBelow}
use Rattle.group_insert.specs.declared.put_off.PutOffLink.{PutOffLink}

-- the entries of a list, in the words of walks
abbrev pub entries : List PutOffLink → List PutOff
entries items = map (λ p. entry_of p) items

-- the visit of x, an address of space, has ended but for the entries that it put behind the others
pub record IsSettleable (dims : ℕ) (slots : List Slot) (homes : List Walk) (h g : List Weighted) (x : Walk) (before put : List PutOff) : Type 0 where
  pub halfway : IsHalfwayAfter dims slots homes h g put x
  pub space : dimension x ≡ 1
  pub puts : PutsBelow homes x before put
  pub points : ArePoints dims h g

-- homes and points are known for which it is so, with so many entries before
pub record CanSettle (slots : List Slot) (put : List PutOff) (kept : ℕ) : Type 0 where
  pub dims : ℕ
  pub homes : List Walk
  pub counted : List Weighted
  pub group : List Weighted
  pub address : Walk
  pub before : List PutOff
  pub size : length before ≡ kept
  pub known : IsSettleable dims slots homes counted group address before put

-- it is still so with the fewer entries, for all of them that fitted; links outside x are as they were, and a cube that
-- was the least one so far stays so
abbrev pub SettlesTo : ℕ → List Slot → List Slot → List PutOff → List PutOff → Type 0
SettlesTo kept old new put left = (dims : ℕ) (homes : List Walk) (h g : List Weighted) (x : Walk) (before : List PutOff) → length before ≡ kept → IsSettleable dims old homes h g x before put → IsSettleable dims new homes h g x before left × Keeps (state old homes []) (state new homes []) x × (IsLeastSoFar old homes h g (BegunAfter x) → IsLeastSoFar new homes h g (BegunAfter x))
