-- The links of slots.
use Rattle.std.proofs.Common.{◌≡◌, ℕ, zero, suc, ◌<◌, List, [], ◌∷◌, Some, length, refl, ap, arith, ◌⊎◌, inl, inr}
use Rattle.node_arena.specs.declared.link.Link.{Link}
use Rattle.node_arena.specs.declared.link.LinkKind.{LinkKind}
use Rattle.node_arena.specs.declared.link.LinkKind.TheVariants.{Proper, Shared}
use Rattle.cube_view.specs.Walks.{Step, down, across}
use Rattle.node_arena.specs.Slots.{proper, shared, target, Slot, link_of}

-- a link is proper or shared
pub link_cases : (l : Link) → (l ≡ proper (target l)) ⊎ (l ≡ shared (target l))
link_cases l = go l.kind refl
  where
    go : (k : LinkKind) → l.kind ≡ k → (l ≡ proper (target l)) ⊎ (l ≡ shared (target l))
    go Proper e = inl (ap (λ (k : LinkKind). record { to = l.to; kind = k }) e)
    go Shared e = inr (ap (λ (k : LinkKind). record { to = l.to; kind = k }) e)

-- past the end there is no link
pub linked-lt : (slots : List Slot) (i : ℕ) (e : Step) (l : Link) → link_of slots i e ≡ Some l → i < length slots
linked-lt [] i (down m) l h = absurd cc
linked-lt [] i across l h = absurd cc
linked-lt (s ∷ slots) zero e l h = omega arith
linked-lt (s ∷ slots) (suc i) e l h = let r = linked-lt slots i e l h in omega arith
