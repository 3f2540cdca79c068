-- Whether a node has a child at another label.
use Rattle.std.proofs.Common.{◌≡◌, ℕ, Bool, true, false, cond, ltb, ◌⊎◌, inl, inr, List, [], ◌∷◌, Option, Some, None, is_some, not, refl, sym, ap, ◌∙◌, arith, true≢false}
use Rattle.std.proofs.lemmas.Bool.{cases_eq, ltb-true}
use Rattle.cube_view.specs.Walks.{down}
use Rattle.node_arena.specs.Calls.{child_from}
use Rattle.node_arena.specs.Shape.{IsLinked}
use Rattle.node_arena.specs.Slots.{Slot, node, table, children_of, link, link_of, slot_of}
use Rattle.node_arena.specs.declared.link.Link.{Link}
use Rattle.node_arena.proofs.Labels.{child_here}
use Rattle.point_insert.specs.Visited.{TellsOnlyChild}
use Rattle.proper_path.specs.Midway.{HasTwoChildren}
use Rattle.group_insert.specs.Labels.{TellsAlone}

-- where there is one child it is that of the label, or another one
pub alone_of_one : (slots : List Slot) (i l : ℕ) (k : Link) (o : Option Link) → TellsOnlyChild slots i (Some k) → o ≡ link_of slots i (down l) → TellsAlone slots i l (is_some o)
alone_of_one slots i l k (Some x) T is = λ m y at. T.1.only m y at ∙ sym (T.1.only l x (sym is))
alone_of_one slots i l k None T is = (T.0, record { link = k; is = T.1.is }, λ e. let n : None ≡ Some k = is ∙ (ap (λ z. link_of slots i (down z)) e ∙ T.1.is) in absurd cc)

-- the first child, if there is one
first_none : (s : Slot) → child_from (children_of s) 0 ≡ None → (m : ℕ) (k : Link) → link s (down m) ≡ Some k → ⊥
first_none (table counts) e m k is = absurd cc
first_none (node [] content) e m k is = absurd cc
first_none (node (x ∷ kids) content) e m k is = go (ltb x.0 0) refl e
  where
    go : (b : Bool) → ltb x.0 0 ≡ b → cond b (child_from kids 0) (Some x) ≡ None → ⊥
    go true t y = let l = ltb-true x.0 0 t in omega (arith, l)
    go false t y = absurd cc

first_some : (s : Slot) (x : ℕ × Link) → child_from (children_of s) 0 ≡ Some x → (m : ℕ) × (k : Link) × (link s (down m) ≡ Some k)
first_some (table counts) x e = absurd cc
first_some (node [] content) x e = absurd cc
first_some (node (y ∷ kids) content) x e = (y.0, y.1, child_here y kids)

-- where there is not one child there is none, or there are two
alone_of_two : (slots : List Slot) (i l : ℕ) → HasTwoChildren slots i → TellsAlone slots i l false
alone_of_two slots i l two = go (cases_eq two.one l)
  where
    go : (two.one ≡ l) ⊎ (two.one ≡ l → ⊥) → (m : ℕ) × IsLinked slots i (down m) × (l ≡ m → ⊥)
    go (inl e) = (two.other, record { link = two.second; is = two.is_second }, λ n. two.differ (e ∙ n))
    go (inr d) = (two.one, record { link = two.first; is = two.is_first }, λ n. d (sym n))

pub alone_of_none : (slots : List Slot) (i l : ℕ) (o : Option (ℕ × Link)) (r : Bool) → is_some o ≡ not r → TellsOnlyChild slots i None → o ≡ child_from (children_of (slot_of slots i)) 0 → TellsAlone slots i l r
alone_of_none slots i l None true e T is = λ m k at. absurd (first_none (slot_of slots i) (sym is) m k at)
alone_of_none slots i l None false e T is = absurd (true≢false (sym e))
alone_of_none slots i l (Some x) true e T is = absurd (true≢false e)
alone_of_none slots i l (Some x) false e T is = let f = first_some (slot_of slots i) x (sym is) in alone_of_two slots i l (T f.0 f.1 f.2)
