-- The content of a node is made its own.
use Rattle.std.proofs.Common.{◌≡◌, ℕ, ◌<◌, Bool, true, false, cond, eqb, List, [], ◌∷◌, ◌++◌, length, Some, None, Contains, refl, sym, ap, ◌∙◌, subst, arith, true≢false, eqb-true}
use Rattle.std.specs.FinMap.{empty}
use Rattle.cube_view.specs.Walks.{down, across}
use Rattle.node_arena.specs.declared.link.Link.{Link}
use Rattle.node_arena.specs.Slots.{proper, shared, Slot, node, table, empty_node, Children, IsRising, children_of, child, link, link_of, slot_of, is_table}
use Rattle.node_arena.specs.Calls.{copied, only_link, add_node, add_table, copy_slot, set_content}
use Rattle.node_arena.proofs.Labels.{child_here, child_past}
use Rattle.proper_path.specs.Changes.{IsGrown}
use Rattle.proper_path.proofs.Grow.{node_empty, table_empty}
use Rattle.proper_path.proofs.Calls.{grow_content}
use Rattle.point_insert.specs.Visited.{TellsOnlyChild, IsFilled, had, copies, adds, skips}

pub filled_had : (dims next : ℕ) (updated : List ℕ) (old : List Slot) (at to : ℕ) → Some (proper to) ≡ link_of old at across → IsFilled dims next updated old at old (Some to)
filled_had dims next updated old at to is = had (sym is) refl

pub filled_skips : (dims next : ℕ) (updated : List ℕ) (old : List Slot) (at from : ℕ) → Some (shared from) ≡ link_of old at across → Contains updated from → IsFilled dims next updated old at old None
filled_skips dims next updated old at from is c = skips from (sym is) c refl

grown_from : (old mid new : List Slot) (at to : ℕ) (s : Slot) → at < length old → is_table (slot_of old at) ≡ false → to ≡ length old → mid ≡ old ++ s ∷ [] → new ≡ set_content mid at (Some (proper to)) → IsGrown old new at across s
grown_from old mid new at to s lt nd t m n =
    subst (λ z. IsGrown old z at across s) (sym (n ∙ (ap (λ z. set_content z at (Some (proper to))) m ∙ ap (λ z. set_content (old ++ s ∷ []) at (Some (proper z))) t))) (grow_content old at s lt nd)

pub filled_copied : (dims next : ℕ) (updated : List ℕ) (old mid new : List Slot) (at from to : ℕ) → at < length old → is_table (slot_of old at) ≡ false → Some (shared from) ≡ link_of old at across → (Contains updated from → ⊥) → to ≡ length old → mid ≡ copy_slot old from → new ≡ set_content mid at (Some (proper to)) → IsFilled dims next updated old at new (Some to)
filled_copied dims next updated old mid new at from to lt nd is un t m n = copies from (sym is) un t (grown_from old mid new at to (copied (slot_of old from)) lt nd t m n)

pub filled_table : (dims next : ℕ) (updated : List ℕ) (old mid new : List Slot) (at to : ℕ) → at < length old → is_table (slot_of old at) ≡ false → None ≡ link_of old at across → next ≡ dims → to ≡ length old → mid ≡ add_table old → new ≡ set_content mid at (Some (proper to)) → IsFilled dims next updated old at new (Some to)
filled_table dims next updated old mid new at to lt nd is e t m n = adds (table empty) (sym is) table_empty.no_link table_empty.no_count (λ x. e, λ x. refl) t (grown_from old mid new at to (table empty) lt nd t m n)

pub filled_node : (dims next : ℕ) (updated : List ℕ) (old mid new : List Slot) (at to : ℕ) → at < length old → is_table (slot_of old at) ≡ false → None ≡ link_of old at across → (next ≡ dims → ⊥) → to ≡ length old → mid ≡ add_node old → new ≡ set_content mid at (Some (proper to)) → IsFilled dims next updated old at new (Some to)
filled_node dims next updated old mid new at to lt nd is e t m n = adds empty_node (sym is) node_empty.no_link node_empty.no_count (λ x. absurd (true≢false (sym x)), λ d. absurd (e d)) t (grown_from old mid new at to empty_node lt nd t m n)

-- the one child or the two first ones
only_first : (x : ℕ × Link) (m : ℕ) (k : Link) → child (x ∷ []) m ≡ Some k → m ≡ x.0
only_first x m k h = go (eqb x.0 m) refl h
  where
    go : (b : Bool) → eqb x.0 m ≡ b → cond b (Some x.1) None ≡ Some k → m ≡ x.0
    go true e r = sym (eqb-true x.0 m e)
    go false e r = absurd cc

second_child : (x y : ℕ × Link) (children : Children) → x.0 < y.0 → child (x ∷ y ∷ children) y.0 ≡ Some y.1
second_child x y children less = child_past x (y ∷ children) y.0 (λ e. omega (arith, e, less)) ∙ child_here y children

tells : (s : Slot) → IsRising (children_of s) → (slots : List Slot) (i : ℕ) → slot_of slots i ≡ s → TellsOnlyChild slots i (only_link (children_of s))
tells (table counts) R slots i e = λ label l h. let x : None ≡ Some l = sym (ap (λ z. link z (down label)) e) ∙ h in absurd cc
tells (node [] content) R slots i e = λ label l h. let x : None ≡ Some l = sym (ap (λ z. link z (down label)) e) ∙ h in absurd cc
tells (node (x ∷ []) content) R slots i e = (
  x.0,
  record {
    is = ap (λ z. link z (down x.0)) e ∙ child_here x [];
    only = λ m k h. only_first x m k (sym (ap (λ z. link z (down m)) e) ∙ h);
  },
)
tells (node (x ∷ y ∷ rest) content) R slots i e = λ label l h. record {
  one = x.0;
  other = y.0;
  differ = λ d. let less : x.0 < y.0 = R 0 1 x (omega arith) (omega arith) in omega (arith, d, less);
  first = x.1;
  second = y.1;
  is_first = ap (λ z. link z (down x.0)) e ∙ child_here x (y ∷ rest);
  is_second = ap (λ z. link z (down y.0)) e ∙ second_child x y rest (R 0 1 x (omega arith) (omega arith));
}

-- what the only child is says how many there are
pub only_tells : (slots : List Slot) (i : ℕ) → IsRising (children_of (slot_of slots i)) → TellsOnlyChild slots i (only_link (children_of (slot_of slots i)))
only_tells slots i R = tells (slot_of slots i) R slots i refl
