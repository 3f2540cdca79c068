-- The same children by shared links.
use Rattle.std.proofs.Common.{◌≡◌, ℕ, ◌+◌, ◌-◌, ◌<◌, ◌≤◌, List, ◌++◌, length, get_or, set, take, drop, sym, ap, ◌∙◌, subst, arith, ap₂}
use Rattle.std.proofs.lemmas.List.{length-map, length-take-le, get_or-append_right, get_or-drop, get_or-map, take_all, drop_all, append-nil}
use Rattle.std.proofs.lemmas.List.Edits.{map_over_more}
use Rattle.node_arena.specs.declared.link.Link.{Link}
use Rattle.node_arena.specs.Slots.{shared, target, Children, IsRising}
use Rattle.node_arena.specs.Calls.{share_all}

pub share_more : (children items new : Children) (i : ℕ) (x : ℕ × Link) → i < length children → items ≡ share_all (take i children) ++ drop i children → x ≡ get_or children i x → new ≡ set items i (x.0, shared (target x.1)) → new ≡ share_all (take (i + 1) children) ++ drop (i + 1) children
share_more children items new i x less so_far is written =
    written ∙ map_over_more (λ (k : ℕ × Link). (k.0, shared (target k.1))) children items i x less so_far (is ∙ sym there)
  where
    begun : List (ℕ × Link)
    begun = share_all (take i children)

    size : length (share_all (take i children)) ≡ i
    size = length-map (take i children) (λ (k : ℕ × Link). (k.0, shared (target k.1))) ∙ length-take-le i children (omega arith)

    there : get_or items i x ≡ get_or children i x
    there =
        let e : i + (i - i) ≡ i = omega arith in
        ap (λ (z : Children). get_or z i x) so_far
        ∙ (get_or-append_right (share_all (take i children)) (drop i children) i i x size (omega arith)
        ∙ (get_or-drop i children (i - i) x ∙ ap (λ z. get_or children z x) e))

pub share_ends : (children items : Children) (i : ℕ) → length children ≤ i → items ≡ share_all (take i children) ++ drop i children → items ≡ share_all children
share_ends children items i past so_far = so_far ∙ (ap₂ (λ (a b : Children). share_all a ++ b) (take_all i children past) (drop_all i children past) ∙ append-nil (share_all children))

pub share_rises : (children : Children) → IsRising children → IsRising (share_all children)
share_rises children R i j d less within =
    let size : length (share_all children) ≡ length children = length-map children (λ (k : ℕ × Link). (k.0, shared (target k.1))) in
    let a : (get_or (share_all children) i d).0 ≡ (get_or children i d).0 = ap (λ (z : ℕ × Link). z.0) (get_or-map (λ (k : ℕ × Link). (k.0, shared (target k.1))) children i d d (omega arith)) in
    let b : (get_or (share_all children) j d).0 ≡ (get_or children j d).0 = ap (λ (z : ℕ × Link). z.0) (get_or-map (λ (k : ℕ × Link). (k.0, shared (target k.1))) children j d d (omega arith)) in
    let r = R i j d less (omega arith) in
    omega arith

pub shared_rises : (children items : Children) (i : ℕ) → length children ≤ i → items ≡ share_all (take i children) ++ drop i children → IsRising children → IsRising items
shared_rises children items i past so_far R = subst IsRising (sym (share_ends children items i past so_far)) (share_rises children R)
