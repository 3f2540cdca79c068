-- The same state, by another word for what is done and what is open.
use Rattle.std.proofs.Common.{ℕ, ◌<◌, List, length, get_or}
use Rattle.cube_view.specs.Walks.{Walk, HasSpot}
use Rattle.node_arena.specs.Amounts.{Weighted, spots_in}
use Rattle.node_arena.specs.Shape.{home_of}
use Rattle.node_arena.specs.Slots.{Slot}
use Rattle.node_arena.proofs.Links.{linked-lt}
use Rattle.cube_view.specs.Walks.{down}
use Rattle.proper_path.specs.Midway.{IsPartOf}
use Rattle.group_insert.specs.Halfway.{IsHalfway}
use Rattle.group_insert.specs.Later.{PutOff}

-- At the homes of slots the same is done, elsewhere more may be, and more may be open.
pub record IsSameTurn (slots : List Slot) (homes : List Walk) (g : List Weighted) (done open' next open'' : Walk → Type 0) : Type 0 where
  pub to : IsPartOf done next
  pub back : (j : ℕ) → j < length slots → next (home_of homes j) → done (home_of homes j)
  pub holds : IsPartOf next (HasSpot (spots_in g))
  pub wider : IsPartOf open' open''

pub halfway_same : (dims : ℕ) (slots : List Slot) (homes : List Walk) (h g : List Weighted) (done open' next open'' : Walk → Type 0) (put : List PutOff) → IsSameTurn slots homes g done open' next open'' → IsHalfway dims slots homes h g done open' put → IsHalfway dims slots homes h g next open'' put
halfway_same dims slots homes h g done open' next open'' put N M = record {
  has_homes = M.has_homes;
  has_tables = M.has_tables;
  holds = M.holds;
  untouched = λ i e l d o is. M.untouched i e l (λ x. d (N.to (home_of homes i) x)) (λ x. o (N.wider (home_of homes i) x)) is;
  visited = record { holds = N.holds; links = λ i e l d. M.visited.links i e l (N.back i l d) };
  counted = record {
    still = λ i bin l t d. M.counted.still i bin l t (λ x. d (N.to (home_of homes i) x));
    now = λ i bin l t d. M.counted.now i bin l t (N.back i l d);
  };
  shares = record {
    shares = λ i label l o O. M.shares.shares i label l (λ x. o (N.wider (home_of homes i) x)) O;
    own_child = λ i label l d O. M.shares.own_child i label l (N.back i (linked-lt slots i (down label) l O.is) d) O;
  };
  later = record {
    put_off = M.later.put_off;
    ended = λ n k lt. N.to _ (M.later.ended n k lt);
    wide = λ n k lt d. M.later.wide n k lt (N.back (get_or put n k).node (M.later.put_off n k lt).in_range.0 d);
    in_order = M.later.in_order;
  };
}
