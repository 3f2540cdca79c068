-- What the share of an only child's content wants, from what is known of its node.
use Rattle.std.proofs.Common.{◌≡◌, ℕ, ◌<◌, false, List, Some, length, sym, ap, ◌∙◌, subst, arith}
use Rattle.std.proofs.Math.Bool.{Bool-set}
use Rattle.std.proofs.Math.Logic.{∥∥₁_elim}
use Rattle.std.specs.Coded.{le_prop}
use Rattle.cube_view.specs.Places.{time_dim}
use Rattle.cube_view.specs.Walks.{HasSpot}
use Rattle.node_arena.specs.Amounts.{spots_in}
use Rattle.node_arena.specs.Shape.{home_of}
use Rattle.node_arena.specs.Slots.{target, Slot, slot_of, is_table}
use Rattle.node_arena.specs.declared.link.Link.{Link}
use Rattle.point_insert.specs.Visited.{TellsOnlyChild}
use Rattle.group_insert.specs.Visiting.{CanShare}
use Rattle.group_insert.proofs.LastChild.{child, child_in, child_node, only_is}
use Rattle.group_insert.proofs.VisitSteps.{part_node, part_spot}
use Rattle.proper_path.specs.Paths.{paths_of}

module _ (slots : List Slot) (i : ℕ) where
  node_before : (C : CanShare slots i) → is_table (slot_of C.old i) ≡ false
  node_before C = part_node C.schema C.group C.old C.way C.before C.dim C.level i C.part C.homes C.counted C.early C.known

  spot : (C : CanShare slots i) → HasSpot (spots_in (paths_of C.schema C.group)) (home_of C.homes i)
  spot C = part_spot C.schema C.group C.old C.way C.before C.dim C.level i C.part C.homes C.counted C.known

  -- the node
  pub share_in_range : ∥ CanShare slots i ∥₁ → i < length slots
  share_in_range R = ∥∥₁_elim R le_prop (λ C. let a = C.among.keeps.size in let b = C.known.in_range in omega (arith, a, b))

  pub share_is_node : ∥ CanShare slots i ∥₁ → is_table (slot_of slots i) ≡ false
  share_is_node R = ∥∥₁_elim R (Bool-set _ _) (λ C. C.among.keeps.kinds i C.known.in_range ∙ node_before C)

  -- and its only child
  module _ (k : Link) (T : TellsOnlyChild slots i (Some k)) where
    is : (C : CanShare slots i) → target k ≡ (child (time_dim C.schema) C.counted (paths_of C.schema C.group) C.old slots C.homes C.before C.put i C.label C.from C.known.points C.known.in_range (node_before C) (spot C) C.has_one C.among C.none).0
    is C = ap target (only_is (time_dim C.schema) C.counted (paths_of C.schema C.group) C.old slots C.homes C.before C.put i C.label C.from C.known.points C.known.in_range (node_before C) (spot C) C.has_one C.among C.none T.0 k T.1).1

    pub share_child_in : ∥ CanShare slots i ∥₁ → target k < length slots
    share_child_in R = ∥∥₁_elim R le_prop (λ C. subst (λ x. x < length slots) (sym (is C))
        (child_in (time_dim C.schema) C.counted (paths_of C.schema C.group) C.old slots C.homes C.before C.put i C.label C.from C.known.points C.known.in_range (node_before C) (spot C) C.has_one C.among C.none))

    pub share_child_node : ∥ CanShare slots i ∥₁ → is_table (slot_of slots (target k)) ≡ false
    share_child_node R = ∥∥₁_elim R (Bool-set _ _) (λ C. subst (λ x. is_table (slot_of slots x) ≡ false) (sym (is C))
        (child_node (time_dim C.schema) C.counted (paths_of C.schema C.group) C.old slots C.homes C.before C.put i C.label C.from C.known.points C.known.in_range (node_before C) (spot C) C.has_one C.among C.none))
