use Rattle.std.proofs.Common.{◌≡◌, ℕ, ◌<◌, length, take, get_or, All, ap, sym, subst, arith}
use Rattle.std.proofs.lemmas.List.{get_or-take, get_or_default, length-take-le}
use Rattle.node_arena.specs.declared.link.Link.{Link}
use Rattle.node_arena.specs.Slots.{Children, IsRising, proper}
use Rattle.node_arena.proofs.children.Children.of_list.Goals as goal

-- the labels before a place are less than the one there
labels_below : (list : Children) (i : ℕ) (d : ℕ × Link) → IsRising list → i < length list → All (λ c. c.0 < (get_or list i d).0) (take i list)
labels_below list i d rising within k e less =
    let long : length (take i list) ≡ i = length-take-le i list (omega arith) in
    let here : k < i = omega arith in
    let low : (get_or list k e).0 < (get_or list i e).0 = rising k i e here within in
    let same : (get_or list i e).0 ≡ (get_or list i d).0 = ap (λ (c : ℕ × Link). c.0) (get_or_default list i e d within) in
    let first : (get_or (take i list) k e).0 ≡ (get_or list k e).0 = ap (λ (c : ℕ × Link). c.0) (get_or-take i list k e here) in
    omega arith

pub push-requires : goal.push-requires
push-requires c =
    let i = c.loop-child.child-index in
    let list = c.args.list.now in
    subst (All (λ (x : ℕ × Link). x.0 < (get_or list i (0, proper 0)).0)) (sym c.loop-child.invariant) (labels_below list i (0, proper 0) c.requires c.loop-child-test.true)
