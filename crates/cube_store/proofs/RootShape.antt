-- An insertion at the root takes a cube's shape over h to one over p ∷ h.
use Rattle.std.proofs.Common.{◌≡◌, ℕ, Bool, true, false, cond, eqb, ◌⊎◌, inl, inr, List, [], ◌∷◌, Some, refl, sym, ap, ◌∙◌, subst, true≢false, eq-eqb, ne_eqb, eqb-true}
use Rattle.std.proofs.lemmas.Bool.{cases_eq}
use Rattle.cube_view.specs.Walks.{down, across, Walk, under, Under}
use Rattle.proper_path.specs.Order.{IsAbove, itself, further}
use Rattle.node_arena.specs.declared.link.Link.{Link}
use Rattle.node_arena.specs.Slots.{target, shared, proper, Slot, node, table, child, link, link_of, slot_of}
use Rattle.node_arena.specs.Shape.{SharesContent, SharesOnlyContent, IsShaped, AreAlike, HasShape}
use Rattle.proper_path.specs.Midway.{SharesBetween, HasTwoChildren, HaveTwoChildren, DoneBefore, DoneAfter, IsMidway}
use Rattle.proper_path.specs.Making.{State, home, AllOfShape}
use Rattle.node_arena.proofs.Links.{linked-lt}
use Rattle.point_insert.proofs.Cases.{HasAnyChild, starts, shape_ends, old_child}
use Rattle.proper_path.proofs.Steps.{Between}
use Rattle.point_insert.specs.Visited.{IsEntered}
use Rattle.proper_path.proofs.Links.{proper≢shared}
use Rattle.node_arena.specs.Amounts.{Weighted, spots_in}
use Rattle.group_insert.proofs.StartEnd.{below_top}

-- among children there is one label alone or there are two
pub data OneOrMore (slots : List Slot) (i label : ℕ) : Type 0 where
  alone : ((m : ℕ) (l : Link) → link_of slots i (down m) ≡ Some l → m ≡ label) → OneOrMore slots i label
  more : (m : ℕ) (l : Link) → link_of slots i (down m) ≡ Some l → (m ≡ label → ⊥) → OneOrMore slots i label

other_child : (kids : List (ℕ × Link)) (label : ℕ) → ((m : ℕ) (l : Link) → child kids m ≡ Some l → m ≡ label) ⊎ ((m : ℕ) × (l : Link) × (child kids m ≡ Some l) × (m ≡ label → ⊥))
other_child [] label = inl (λ m l h. absurd cc)
other_child (k ∷ kids) label = go (cases_eq k.0 label) (other_child kids label)
  where
    first : (m : ℕ) (b : Bool) (l : Link) → (b ≡ true → k.0 ≡ m) → cond b (Some k.1) (child kids m) ≡ Some l → k.0 ≡ label → (child kids m ≡ Some l → m ≡ label) → m ≡ label
    first m true l t h e f = sym (t refl) ∙ e
    first m false l t h e f = f h

    here : child (k ∷ kids) k.0 ≡ Some k.1
    here = ap (λ (b : Bool). cond b (Some k.1) (child kids k.0)) (eq-eqb k.0 k.0 refl)

    skip : (m : ℕ) → (m ≡ label → ⊥) → k.0 ≡ label → child (k ∷ kids) m ≡ child kids m
    skip m n e = ap (λ (b : Bool). cond b (Some k.1) (child kids m)) (ne_eqb k.0 m (λ x. n (sym x ∙ e)))

    go : (k.0 ≡ label) ⊎ (k.0 ≡ label → ⊥) → ((m : ℕ) (l : Link) → child kids m ≡ Some l → m ≡ label) ⊎ ((m : ℕ) × (l : Link) × (child kids m ≡ Some l) × (m ≡ label → ⊥)) → ((m : ℕ) (l : Link) → child (k ∷ kids) m ≡ Some l → m ≡ label) ⊎ ((m : ℕ) × (l : Link) × (child (k ∷ kids) m ≡ Some l) × (m ≡ label → ⊥))
    go (inl e) (inl f) = inl (λ m l h. first m (eqb k.0 m) l (eqb-true k.0 m) h e (f m l))
    go (inl e) (inr r) = inr (r.0, r.1, skip r.0 r.3 e ∙ r.2, r.3)
    go (inr n) f = inr (k.0, k.1, here, n)

children_of : (s : Slot) (label : ℕ) → ((m : ℕ) (l : Link) → link s (down m) ≡ Some l → m ≡ label) ⊎ ((m : ℕ) × (l : Link) × (link s (down m) ≡ Some l) × (m ≡ label → ⊥))
children_of (node kids content) label = other_child kids label
children_of (table rows) label = inl (λ m l h. absurd cc)

pub children : (slots : List Slot) (i label : ℕ) → OneOrMore slots i label
children slots i label = go (children_of (slot_of slots i) label)
  where
    go : ((m : ℕ) (l : Link) → link_of slots i (down m) ≡ Some l → m ≡ label) ⊎ ((m : ℕ) × (l : Link) × (link_of slots i (down m) ≡ Some l) × (m ≡ label → ⊥)) → OneOrMore slots i label
    go (inl f) = alone f
    go (inr r) = more r.0 r.1 r.2 r.3

-- before an insertion, what a shape says of proper contents
pub shares_start : (dims : ℕ) (slots : List Slot) (homes : List Walk) (h : List Weighted) (p : Weighted) (done : Walk → Type 0) → HasShape dims slots homes h → AllOfShape (spots_in h) p.spot → SharesBetween slots homes p done
shares_start dims slots homes h p done S shape = record { shares = λ i label l d O. S.shares i label l O; many = many }
  where
    many : HaveTwoChildren slots homes p
    many i to label is u = go (children slots i c.0)
      where
        c : HasAnyChild slots i
        c = old_child slots homes (spots_in h) (spots_in h) S.holds p.spot shape i label (linked-lt slots i across (proper to) is) (S.holds.wanted i across (proper to) is) u

        go : OneOrMore slots i c.0 → HasTwoChildren slots i
        go (alone f) = let s = S.shares i c.0 c.1.link (record { is = c.1.is; only = f }) in let x = s.of_node in absurd (proper≢shared to (target s.content) (let m : Some (proper to) ≡ Some (shared (target s.content)) = sym is ∙ x in cc))
        go (more k l x n) = record { one = k; other = c.0; differ = n; first = l; second = c.1.link; is_first = x; is_second = c.1.is }

-- nothing comes before the top
pub none_first : (p : Weighted) (b : Walk) → DoneBefore p [] b → ⊥
none_first p b d = go d.1.goes_across refl
  where
    go : {x y : Walk} → IsAbove (across ∷ x) y → y ≡ [] → ⊥
    go itself e = cc
    go (further f) e = cc

-- the invariant before the root's first visit
pub at_start : (dims : ℕ) (h : List Weighted) (p : Weighted) (a : State) → HasShape dims a.slots a.homes h → AllOfShape (spots_in h) p.spot → a.updated ≡ [] → Between dims h p (DoneBefore p (home a 0)) a
at_start dims h p a S shape none = record {
  midway = subst (λ z. IsMidway dims a.slots a.homes h p (DoneBefore p (home a 0)) z) (sym none) (starts dims a.slots a.homes h p (DoneBefore p (home a 0)) (λ x d. none_first p x (subst (λ z. DoneBefore p z x) S.has_homes.root d)) S.shaped);
  shares = shares_start dims a.slots a.homes h p (DoneBefore p (home a 0)) S shape;
}

-- the invariant after the root's last visit is the shape with the new point
pub shape_after : (dims : ℕ) (h : List Weighted) (p : Weighted) (a b : State) → home a 0 ≡ [] → IsEntered dims h p a 0 b → AreAlike dims (spots_in (p ∷ h)) → HasShape dims b.slots b.homes (p ∷ h)
shape_after dims h p a b root R A = record { shaped = X; shares = shares; alike = A }
  where
    all : (i : ℕ) → Under p.spot (home b i) → DoneAfter p (home a 0) (home b i)
    all i u = (u, inr (subst (λ z. IsAbove z (home b i)) (sym root) (below_top (home b i))))

    X : IsShaped dims b.slots b.homes (p ∷ h)
    X = shape_ends dims b.slots b.homes h p (DoneAfter p (home a 0)) R.between.midway.growing (λ i l u. all i u)

    shares : SharesOnlyContent b.slots
    shares i label l O = go (under p.spot (home b i)) refl
      where
        go : (t : Bool) → under p.spot (home b i) ≡ t → SharesContent b.slots i l
        go true e = R.between.shares.shares i label l (inl (all i e)) O
        go false e = R.between.shares.shares i label l (inr (λ x. true≢false (sym x ∙ e))) O
