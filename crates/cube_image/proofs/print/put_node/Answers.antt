use Rattle.std.proofs.Common.{◌≡◌, ℕ, [], ◌∷◌, ◌++◌, Some, None, ap, ◌∙◌}
use Rattle.std.proofs.lemmas.Result.{on_ok_weaker}
use Rattle.std.specs.Int.{to_be_bytes, w16}
use Rattle.node_arena.specs.Slots.{slot_of}
use Rattle.cube_image.specs.Bytes.{link_bytes}
use Rattle.cube_image.specs.Order.{moved_link}
use Rattle.cube_image.proofs.SlotBytes.{node_put}
use Rattle.cube_image.proofs.print.put_node.Goals as goal

pub returns-in-Some : goal.returns-in-Some
returns-in-Some g c =
    on_ok_weaker c.put_link.result
    (λ (is : c.put_link.new.out.items ≡ c.put_children.new.out.items ++ link_bytes (moved_link c.args.order.now.places c.in-Some.link)).
    node_put c.args.order.now.places (slot_of c.args.arena.now c.args.id.0) (Some c.in-Some.link) c.args.out.now.items c.put_short.new.out.items c.put_children.new.out.items c.put_link.new.out.items c.requires.is_node c.in-Some.ensures.link
    (c.in_ok-put_short.ensures ∙ ap (λ (n : ℕ). c.args.out.now.items ++ (1 ∷ to_be_bytes w16 n)) c.child_count-count.ensures.count) c.in_ok-put_children.ensures is)
    c.put_link.ensures

pub returns-in-None : goal.returns-in-None
returns-in-None g c =
    on_ok_weaker c.put_byte.result
    (λ (is : c.put_byte.new.out.items ≡ c.put_children.new.out.items ++ 0 ∷ []).
    node_put c.args.order.now.places (slot_of c.args.arena.now c.args.id.0) None c.args.out.now.items c.put_short.new.out.items c.put_children.new.out.items c.put_byte.new.out.items c.requires.is_node c.in-None.ensures.link
    (c.in_ok-put_short.ensures ∙ ap (λ (n : ℕ). c.args.out.now.items ++ (1 ∷ to_be_bytes w16 n)) c.child_count-count.ensures.count) c.in_ok-put_children.ensures is)
    c.put_byte.ensures.put
