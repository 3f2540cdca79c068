-- The finer walk of a link that is put off: from the base down the turn, and then the node's own way.
use Rattle.std.specs.Prelude.{◌≡◌, ℕ, ◌<◌, List, [], ◌∷◌, ◌++◌, Some, None, length}
use Rattle.cube_view.specs.Walks.{Step, down, across, Walk}
use Rattle.node_arena.specs.Slots.{shared, target, Slot, link_of, walk_end}
use Rattle.node_arena.specs.declared.link.Link.{Link}
use Rattle.proper_path.specs.Changes.{IsRelinked}
use Rattle.group_insert.specs.Later.{PutOff}
use Rattle.group_insert.specs.Ways.{way_from}
use Rattle.group_insert.specs.declared.put_off.PutOffLink.{PutOffLink}

-- its steps from the base, the last one first
abbrev pub finer_steps : PutOff → Walk
finer_steps k = down k.label ∷ (k.way ++ across ∷ down k.turn ∷ [])

-- the link is none, or leads where that walk leads
pub data LeadsFiner (slots : List Slot) (k : PutOff) : Type 0 where
  no_link : link_of slots k.node (down k.label) ≡ None → LeadsFiner slots k
  same_end : (s : ℕ) → link_of slots k.node (down k.label) ≡ Some (shared s) → walk_end slots k.base (finer_steps k) ≡ Some s → LeadsFiner slots k

-- every link leads to a slot
abbrev pub LeadInside : List Slot → Type 0
LeadInside slots = (i : ℕ) (e : Step) (l : Link) → link_of slots i e ≡ Some l → target l < length slots

-- what the entry of the list says in the words of walks
abbrev pub entry_of : PutOffLink → PutOff
entry_of p = record { node = p.node.0; label = p.label; base = p.base.0; turn = p.turn; way = way_from p.values p.from p.between }

-- the link of the entry was set to where its finer walk ends
pub record IsSet (old new : List Slot) (k : PutOff) : Type 0 where
  pub to : ℕ
  pub ends : walk_end old k.base (finer_steps k) ≡ Some to
  pub relinked : IsRelinked old new k.node (down k.label) (shared to)
