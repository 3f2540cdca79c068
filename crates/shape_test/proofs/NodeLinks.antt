-- The links that a node has.
use Rattle.std.proofs.Common.{◌≡◌, ◌↔◌, inl, inr, ℕ, Bool, true, false, ◌&&◌, ◌||◌, not, eqb, eqb-true, eq-eqb, List, Option, Some, None, refl, sym, ap₂, ◌∙◌, arith}
use Rattle.std.proofs.lemmas.Bool.{and_parts, not-true}
use Rattle.cube_view.specs.Walks.{down, across}
use Rattle.node_arena.specs.declared.link.Link.{Link}
use Rattle.node_arena.specs.Slots.{Slot, link_of}
use Rattle.shape_test.specs.Filled.{HasChild, IsBare, IsFilledNode}
use Rattle.shape_test.specs.Links.{NoneFrom, IsFirstLink}

-- a first child is a child, and without one there is none
pub some_child : (slots : List Slot) (i : ℕ) (c : ℕ × Link) → IsFirstLink slots i 0 c → HasChild slots i
some_child slots i c F = record { label = c.0; linked = record { link = c.1; is = F.there } }

pub no_child : (slots : List Slot) (i : ℕ) → NoneFrom slots i 0 → HasChild slots i → ⊥
no_child slots i N h = let x : None ≡ Some h.linked.link = sym (N h.label (omega arith)) ∙ h.linked.is in absurd cc

module _ (slots : List Slot) (i : ℕ) (deep has : Bool) (H : (has ≡ true) ↔ HasChild slots i) where
  -- with a content
  pub filled_with : (r : Bool) (k : Link) → link_of slots i across ≡ Some k → r ≡ (deep || has) → (r ≡ true) ↔ IsFilledNode slots i deep
  filled_with r k e is = (λ y. inr (record { link = k; is = e }, λ d. H.0 (child_of deep has d (sym is ∙ y))), back)
    where
      child_of : (deep has : Bool) → deep ≡ false → (deep || has) ≡ true → has ≡ true
      child_of true has d y = absurd cc
      child_of false has d y = y

      enough : (deep has : Bool) → (deep ≡ false → has ≡ true) → (deep || has) ≡ true
      enough true has f = refl
      enough false has f = f refl

      back : IsFilledNode slots i deep → r ≡ true
      back (inl b) = let x : None ≡ Some k = sym (b.1 across) ∙ e in absurd cc
      back (inr b) = is ∙ enough deep has (λ d. H.1 (b.1 d))

  -- without one
  pub filled_without : (r : Bool) → link_of slots i across ≡ None → r ≡ (eqb i 0 && not has) → (r ≡ true) ↔ IsFilledNode slots i deep
  filled_without r e is = (forth, back)
    where
      forth : r ≡ true → IsFilledNode slots i deep
      forth y =
          let p = and_parts (eqb i 0) (not has) (sym is ∙ y) in
          inl (eqb-true i 0 p.0, bare)
        where
          none : has ≡ false
          none = not-true has (and_parts (eqb i 0) (not has) (sym is ∙ y)).1

          bare : IsBare slots i
          bare across = e
          bare (down l) = go (link_of slots i (down l)) refl
            where
              go : (o : Option Link) → link_of slots i (down l) ≡ o → o ≡ None
              go None x = refl
              go (Some k) x = let z = H.1 (record { label = l; linked = record { link = k; is = x } }) in let n = none in absurd cc

      back : IsFilledNode slots i deep → r ≡ true
      back (inl b) = is ∙ ap₂ ◌&&◌ (eq-eqb i 0 b.0) (without has refl)
        where
          without : (h : Bool) → has ≡ h → not h ≡ true
          without false x = refl
          without true x = let c = H.0 x in let z : None ≡ Some c.linked.link = sym (b.1 (down c.label)) ∙ c.linked.is in absurd cc
      back (inr b) = let z : None ≡ Some b.0.link = sym e ∙ b.0.is in absurd cc
