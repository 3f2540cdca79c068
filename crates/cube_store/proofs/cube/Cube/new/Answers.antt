use Rattle.std.proofs.Common.{◌≡◌, List, [], length, ap, ◌∙◌, arith}
use Rattle.node_arena.specs.Calls.{add_node}
use Rattle.node_arena.specs.Slots.{Slot, id_of}
use Rattle.cube_view.specs.declared.schema.Schema.{Schema}
use Rattle.node_arena.specs.declared.link.SlotId.{SlotId}
use Rattle.cube_store.specs.Counted.{CountsPoints, HasPoints}
use Rattle.cube_store.proofs.CubeBags.{Counts-points, IsBag-cube}
use Rattle.cube_store.proofs.Empty.{counts_none, least_none_counted}
use Rattle.cube_store.proofs.Numbers.{OwnsAllButRoot-cube}
use Rattle.cube_store.proofs.cube.Cube.new.Goals as goal

-- a root alone counts no points
empty : (z : Schema) (slots : List Slot) (root : SlotId) → slots ≡ add_node [] → root ≡ id_of 0 → CountsPoints z slots root.0 0 []
empty z slots root is first = counts_none z slots root.0 is (ap (λ (id : SlotId). id.0) first)

pub invariant_of-result : goal.invariant_of-result
invariant_of-result c =
    let has : HasPoints c.args.schema c.add_node.new.self c.in_ok-root.root.0 0 = ∣ ([], empty c.args.schema c.add_node.new.self c.in_ok-root.root (c.in_ok-root.ensures.added ∙ ap add_node c.new-arena.ensures) (c.in_ok-root.ensures.id ∙ ap (λ (s : List Slot). id_of (length s)) c.new-arena.ensures)) ∣₁ in
    record {
      counted = has;
      bag = IsBag-cube _ _ _ _ has (omega arith);
      owned = OwnsAllButRoot-cube _ _ _ _ has;
    }

pub returns-clause-empty : goal.returns-clause-empty
returns-clause-empty c = empty c.args.schema c.add_node.new.self c.in_ok-root.root (c.in_ok-root.ensures.added ∙ ap add_node c.new-arena.ensures) (c.in_ok-root.ensures.id ∙ ap (λ (s : List Slot). id_of (length s)) c.new-arena.ensures)

pub returns-clause-counted : goal.returns-clause-counted
returns-clause-counted c = Counts-points _ _ _ _ [] (empty c.args.schema c.add_node.new.self c.in_ok-root.root (c.in_ok-root.ensures.added ∙ ap add_node c.new-arena.ensures) (c.in_ok-root.ensures.id ∙ ap (λ (s : List Slot). id_of (length s)) c.new-arena.ensures))

pub returns-clause-least : goal.returns-clause-least
returns-clause-least c = least_none_counted c.args.schema c.add_node.new.self c.in_ok-root.root.0 (c.in_ok-root.ensures.added ∙ ap add_node c.new-arena.ensures) (ap (λ (id : SlotId). id.0) (c.in_ok-root.ensures.id ∙ ap (λ (s : List Slot). id_of (length s)) c.new-arena.ensures))
