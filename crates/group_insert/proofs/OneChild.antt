-- A node that has one child, old and new together: it has no content of its own, and that of the child is right for the
-- group.
use Rattle.std.proofs.Common.{◌≡◌, ℕ, ◌<◌, Bool, false, ◌⊎◌, inl, inr, List, [], ◌∷◌, ◌++◌, Some, Contains, refl, sym, ap, ◌∙◌, subst, arith, true≢false}
use Rattle.cube_view.specs.Walks.{down, across, Walk, SpotPath, Under, Finer, top, by_down, by_across, longer, dimension}
use Rattle.node_arena.specs.Amounts.{Weighted, spots_in}
use Rattle.node_arena.specs.Shape.{home_of, HasHomes, SharesContent}
use Rattle.node_arena.specs.Slots.{proper, shared, target, Slot, link_of}
use Rattle.node_arena.specs.declared.link.Link.{Link}
use Rattle.node_arena.proofs.Links.{linked-lt, link_cases}
use Rattle.node_arena.proofs.Walks.{target-lt, link_coarser}
use Rattle.point_insert.proofs.Cases.{HasAnyChild, old_child, within_down, across_within}
use Rattle.proper_path.specs.Making.{AllOfShape}
use Rattle.proper_path.proofs.Homes.{IsFree, home_free}
use Rattle.proper_path.proofs.Links.{proper≢shared}
use Rattle.group_insert.specs.Halfway.{LeadsRight, WillHaveTwo, IsHalfway}
use Rattle.group_insert.specs.Later.{PutOff, IsPut}
use Rattle.group_insert.proofs.SharedContent.{one_not_two}
use Rattle.group_insert.proofs.NewSlots.{shared_free}
use Rattle.group_insert.proofs.StartEnd.{old_spot}

-- a node that has no other child than at the label of the group's points has no content of its own
pub one_child_free : (dims : ℕ) (slots : List Slot) (homes : List Walk) (h g : List Weighted) (done open' : Walk → Type 0) (put : List PutOff) (i label : ℕ) (p : SpotPath) → ((m : ℕ) → IsPut put i (down m) → ⊥) → IsHalfway dims slots homes h g done open' put → AllOfShape (spots_in (g ++ h)) p → Under p (down label ∷ home_of homes i) → (done (home_of homes i) → ⊥) → (open' (home_of homes i) → ⊥) → ((m : ℕ) (k : Link) → link_of slots i (down m) ≡ Some k → m ≡ label) → IsFree slots i across
one_child_free dims slots homes h g done open' put i label p none M shape u d o only j is = go (M.shares.shares i label l o (record { is = is'; only = only }))
  where
    c : HasAnyChild slots i
    c = old_child slots homes (spots_in h) (spots_in (g ++ h)) M.holds p (λ q x. shape q (old_spot g h q x)) i label (linked-lt slots i across (proper j) is) (M.untouched i across (proper j) d o is) u

    l : Link
    l = c.1.link

    is' : link_of slots i (down label) ≡ Some l
    is' = subst (λ z. link_of slots i (down z) ≡ Some l) (only c.0 l c.1.is) c.1.is

    go : SharesContent slots i l ⊎ WillHaveTwo slots put i → ⊥
    go (inl s) = proper≢shared j (target s.content) (let x : Some (proper j) ≡ Some (shared (target s.content)) = sym is ∙ s.of_node in cc)
    go (inr t) = one_not_two slots put i label l (record { is = is'; only = only }) none t

-- the home of an only child's content holds each point of the group that goes across, once the child has been visited
pub one_child_right : (dims : ℕ) (slots : List Slot) (homes : List Walk) (h g : List Weighted) (done open' : Walk → Type 0) (put : List PutOff) (i label : ℕ) (k w : Link) → IsHalfway dims slots homes h g done open' put → link_of slots i (down label) ≡ Some k → done (home_of homes (target k)) → link_of slots (target k) across ≡ Some w → (q : SpotPath) → Contains (spots_in g) q → Under q (home_of homes (target k)) → Under q (across ∷ home_of homes i) → Under q (home_of homes (target w))
one_child_right dims slots homes h g done open' put i label k w M is d content q c u v =
    go (M.visited.links (target k) across (target-lt slots homes M.has_homes i (down label) k is) d q c (across_within q (within_down (link_coarser slots homes M.has_homes i (down label) k is)) u v))
  where
    go : LeadsRight slots homes (target k) across q ⊎ IsPut put (target k) across → Under q (home_of homes (target w))
    go (inl r) =
        let m : Some r.link ≡ Some w = sym r.is ∙ content in
        let e : r.link ≡ w = cc in
        subst (λ z. Under q (home_of homes (target z))) e r.lies
    go (inr x) = let y = x.4.1 in absurd cc

dimension-some : (a : Walk) → 0 < dimension a
dimension-some [] = omega arith
dimension-some (down l ∷ a) = dimension-some a
dimension-some (across ∷ a) = omega arith

-- in space each link is proper
pub space_equal : {loose : Bool} {a b : Walk} → Finer loose a b → dimension a ≡ 1 → loose ≡ false → a ≡ b
space_equal top d e = refl
space_equal (by_down {l = l} f) d e = ap (λ x. down l ∷ x) (space_equal f d refl)
space_equal (by_across {a = a} f) d e = let n = dimension-some a in absurd (omega (arith, d, n))
space_equal (longer f) d e = absurd (true≢false e)

pub space_proper : (slots : List Slot) (homes : List Walk) → HasHomes slots homes → (i label : ℕ) (k : Link) → dimension (home_of homes i) ≡ 1 → link_of slots i (down label) ≡ Some k → k ≡ proper (target k)
space_proper slots homes H i label k d is = go (link_cases k)
  where
    go : (k ≡ proper (target k)) ⊎ (k ≡ shared (target k)) → k ≡ proper (target k)
    go (inl x) = x
    go (inr x) =
        let at : link_of slots i (down label) ≡ Some (shared (target k)) = is ∙ ap Some x in
        let r = H.finer i (target k) (down label) at in
        let e : down label ∷ home_of homes i ≡ home_of homes (target k) = space_equal r.1 d refl in
        absurd (home_free slots homes H i (down label) (linked-lt slots i (down label) k is) (shared_free slots i (target k) (down label) at) (target k) r.0 (sym e))
