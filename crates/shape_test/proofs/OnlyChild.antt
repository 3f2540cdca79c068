-- Nodes with one child.
use Rattle.std.proofs.Common.{◌≡◌, ◌↔◌, ◌⊎◌, inl, inr, ℕ, ◌<◌, Bool, true, false, not, ◌&&◌, cond, eqb, eqb-true, eq-eqb, ne_eqb, List, [], ◌∷◌, length, Option, Some, None, refl, sym, ap, ap₂, ◌∙◌, subst, arith}
use Rattle.cube_view.specs.Walks.{Step, down, across}
use Rattle.node_arena.specs.declared.link.Link.{Link}
use Rattle.node_arena.specs.Calls.{only_link}
use Rattle.node_arena.specs.Shape.{HasOneChild, SharesContent}
use Rattle.node_arena.specs.Slots.{shared, target, Children, IsRising, Slot, node, table, IsTable, slot_of, children_of, link, link_of, child}
use Rattle.node_arena.specs.Stats.{is_proper}
use Rattle.node_arena.proofs.Links.{link_cases}
use Rattle.shape_test.specs.Sharing.{SharesAt, LeadsWithin}
use Rattle.node_arena.proofs.Labels.{link_down}

-- the one child
one_of : (children : Children) (l : Link) → only_link children ≡ Some l → (label : ℕ) × (children ≡ (label, l) ∷ [])
one_of [] l e = absurd cc
one_of (x ∷ []) l e = let s : x.1 ≡ l = cc in (x.0, ap (λ (k : Link). (x.0, k) ∷ []) s)
one_of (x ∷ y ∷ children) l e = absurd cc

-- a time table has no link
pub table_link : (s : Slot) (e : Step) → IsTable s → link s e ≡ None
table_link (node children content) e t = absurd cc
table_link (table counts) e t = refl

module _ (slots : List Slot) (i : ℕ) where
  at_label : (label : ℕ) → link_of slots i (down label) ≡ child (children_of (slot_of slots i)) label
  at_label label = link_down (slot_of slots i) label

  -- a node without children, or with two, has not one
  not_one : (children : Children) → IsRising children → only_link children ≡ None → (label : ℕ) (l : Link) → child children label ≡ Some l → ((m : ℕ) (k : Link) → child children m ≡ Some k → m ≡ label) → ⊥
  not_one [] R e label l is only = absurd cc
  not_one (x ∷ []) R e label l is only = absurd cc
  not_one (x ∷ y ∷ children) R e label l is only =
      let up = R 0 1 x (omega arith) (omega arith) in
      let a = only x.0 x.1 (ap (λ (b : Bool). cond b (Some x.1) (child (y ∷ children) x.0)) (eq-eqb x.0 x.0 refl)) in
      let b = only y.0 y.1 (ap (λ (b : Bool). cond b (Some x.1) (child (y ∷ children) y.0)) (ne_eqb x.0 y.0 (λ z. omega (arith, z, up))) ∙ ap (λ (b : Bool). cond b (Some y.1) (child children y.0)) (eq-eqb y.0 y.0 refl)) in
      omega (arith, a, b, up)

  pub shares_alone : IsRising (children_of (slot_of slots i)) → only_link (children_of (slot_of slots i)) ≡ None → SharesAt slots i
  shares_alone R e label l H = absurd (not_one (children_of (slot_of slots i)) R e label l (sym (at_label label) ∙ H.is) (λ m k z. H.only m k (at_label m ∙ z)))

  module _ (c : Link) (one : only_link (children_of (slot_of slots i)) ≡ Some c) where
    pub alone : (label : ℕ) × (children_of (slot_of slots i) ≡ (label, c) ∷ [])
    alone = one_of (children_of (slot_of slots i)) c one

    -- the label of a child is the one child's
    its_label : (m : ℕ) (k : Link) → link_of slots i (down m) ≡ Some k → (m ≡ alone.0) × (k ≡ c)
    its_label m k z = pick (eqb alone.0 m) refl (sym (at_label m ∙ ap (λ (ks : Children). child ks m) alone.1) ∙ z)
      where
        pick : (b : Bool) → eqb alone.0 m ≡ b → cond b (Some c) None ≡ Some k → (m ≡ alone.0) × (k ≡ c)
        pick true e f = (sym (eqb-true alone.0 m e), cc)
        pick false e f = absurd cc

    pub has_one : HasOneChild slots i alone.0 c
    has_one = record {
      is = at_label alone.0 ∙ (ap (λ (ks : Children). child ks alone.0) alone.1 ∙ ap (λ (b : Bool). cond {A = Option Link} b (Some c) None) (eq-eqb alone.0 alone.0 refl));
      only = λ m k z. (its_label m k z).0;
    }

    pub child_within : LeadsWithin slots → target c < length slots
    child_within W = W i (down alone.0) c has_one.is

    from_one : SharesContent slots i c → SharesAt slots i
    from_one S label l H = subst (SharesContent slots i) (sym (its_label label l H.is).1) S

    pub no_content : link_of slots (target c) across ≡ None → SharesAt slots i → ⊥
    no_content none S = let s = S alone.0 c has_one in let e = sym none ∙ s.of_child in let z : None ≡ Some s.content = e in absurd cc

    pub no_own : link_of slots i across ≡ None → SharesAt slots i → ⊥
    no_own none S = let s = S alone.0 c has_one in let z : None ≡ Some (shared (target s.content)) = sym none ∙ s.of_node in absurd cc

    pub shares_test : (below own : Link) (b : Bool) → link_of slots (target c) across ≡ Some below → link_of slots i across ≡ Some own → b ≡ (not (is_proper own) && eqb (target own) (target below)) → (b ≡ true) ↔ SharesAt slots i
    shares_test below own b of_child of_node is = (λ yes. from_one (forth (sym is ∙ yes)), λ S. is ∙ back (S alone.0 c has_one))
      where
        forth : (not (is_proper own) && eqb (target own) (target below)) ≡ true → SharesContent slots i c
        forth t = record {
          content = below;
          of_child = of_child;
          of_node = of_node ∙ ap Some (pick (link_cases own) t);
        }
          where
            pick : (own ≡ Rattle.node_arena.specs.Slots.proper (target own)) ⊎ (own ≡ shared (target own)) → (not (is_proper own) && eqb (target own) (target below)) ≡ true → own ≡ shared (target below)
            pick (inl p) t = let x : (not (is_proper own) && eqb (target own) (target below)) ≡ false = ap (λ (z : Link). not (is_proper z) && eqb (target own) (target below)) p in let y : true ≡ false = sym t ∙ x in absurd cc
            pick (inr s) t =
                let x : eqb (target own) (target below) ≡ true = sym (ap (λ (z : Link). not (is_proper z) && eqb (target own) (target below)) s) ∙ t in
                s ∙ ap shared (eqb-true (target own) (target below) x)

        back : SharesContent slots i c → (not (is_proper own) && eqb (target own) (target below)) ≡ true
        back s =
            let a : Some own ≡ Some (shared (target s.content)) = sym of_node ∙ s.of_node in
            let b : Some below ≡ Some s.content = sym of_child ∙ s.of_child in
            let o : own ≡ shared (target s.content) = cc in
            let e : below ≡ s.content = cc in
            ap₂ (λ (x y : Link). not (is_proper x) && eqb (target x) (target y)) o e ∙ eq-eqb (target s.content) (target s.content) refl
