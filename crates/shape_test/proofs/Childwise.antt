-- The children of a slot, from a label on.
use Rattle.std.proofs.lemmas.Bool.{cases_lt}
use Rattle.std.proofs.Common.{◌≡◌, ◌↔◌, ℕ, ◌+◌, ◌<◌, ◌≤◌, ◌⊎◌, inl, inr, Bool, true, List, Option, Some, None, MatchOption, refl, sym, ap, ◌∙◌, subst, arith}
use Rattle.cube_view.specs.Walks.{down, across, Walk}
use Rattle.node_arena.specs.declared.link.Link.{Link}
use Rattle.node_arena.specs.Calls.{child_from}
use Rattle.node_arena.specs.Slots.{IsRising, Slot, children_of, slot_of, link_of}
use Rattle.node_arena.proofs.Labels.{link_down, child_from-none, child_from-some}
use Rattle.shape_test.specs.Links.{HasSmallLabels, NoneFrom, IsFirstLink, LinkFits, ChildrenFit, LinksFit}

-- what a search from a label on tells
pub first_told : (slots : List Slot) (i from : ℕ) (o : Option (ℕ × Link)) → HasSmallLabels slots → IsRising (children_of (slot_of slots i)) → o ≡ child_from (children_of (slot_of slots i)) from → MatchOption o (NoneFrom slots i from) (IsFirstLink slots i from)
first_told slots i from None S R is = λ m le. link_down (slot_of slots i) m ∙ child_from-none (children_of (slot_of slots i)) from (sym is) m le
first_told slots i from (Some c) S R is =
    let F = child_from-some (children_of (slot_of slots i)) from c R (sym is) in
    let there = link_down (slot_of slots i) c.0 ∙ F.there in
    record {
      low = F.low;
      small = S i c.0 c.1 there;
      there = there;
      least = λ m le less. link_down (slot_of slots i) m ∙ F.least m le less;
      rising = R;
    }

-- from 256 on there is none
pub none_past : (slots : List Slot) (i from : ℕ) → HasSmallLabels slots → 256 ≤ from → NoneFrom slots i from
none_past slots i from S le m low = go (link_of slots i (down m)) refl
  where
    go : (o : Option Link) → link_of slots i (down m) ≡ o → o ≡ None
    go None e = refl
    go (Some k) e = let s = S i m k e in absurd (omega (arith, s, le, low))

module _ (slots : List Slot) (i from : ℕ) (P : ℕ → Link → Type 0) (sofar : (m : ℕ) (k : Link) → m < from → link_of slots i (down m) ≡ Some k → P m k) where
  -- what holds of the children before a label, and of the first from there on, holds of those up to it
  pub one_more : (label : ℕ) (l : Link) → IsFirstLink slots i from (label, l) → P label l → (m : ℕ) (k : Link) → m < label + 1 → link_of slots i (down m) ≡ Some k → P m k
  one_more label l F here m k lt e = go (cases_lt m from) (cases_lt m label)
    where
      go : (m < from) ⊎ (from ≤ m) → (m < label) ⊎ (label ≤ m) → P m k
      go (inl x) y = sofar m k x e
      go (inr x) (inl y) = let n : None ≡ Some k = sym (F.least m x y) ∙ e in absurd cc
      go (inr x) (inr y) =
          let same : label ≡ m = omega (arith, lt, y) in
          let t : Some l ≡ Some k = sym F.there ∙ (ap (λ (n : ℕ). link_of slots i (down n)) same ∙ e) in
          let z : l ≡ k = cc in
          subst (λ (n : ℕ). P n k) same (subst (λ (w : Link). P label w) z here)

  -- where there is no further child it holds of all
  pub no_more : NoneFrom slots i from → (m : ℕ) (k : Link) → link_of slots i (down m) ≡ Some k → P m k
  no_more N m k e = go (cases_lt m from)
    where
      go : (m < from) ⊎ (from ≤ m) → P m k
      go (inl x) = sofar m k x e
      go (inr x) = let n : None ≡ Some k = sym (N m x) ∙ e in absurd cc

-- each link leads to a child or to the content
pub all_links : (slots : List Slot) (homes : List Walk) (i : ℕ) → ChildrenFit slots homes i → ((l : Link) → link_of slots i across ≡ Some l → LinkFits homes i across l) → LinksFit slots homes i
all_links slots homes i C A (down n) l e = C n l e
all_links slots homes i C A across l e = A l e

pub with_content : (slots : List Slot) (homes : List Walk) (i : ℕ) (k : Link) (r : Bool) → ChildrenFit slots homes i → link_of slots i across ≡ Some k → (r ≡ true) ↔ LinkFits homes i across k → (r ≡ true) ↔ LinksFit slots homes i
with_content slots homes i k r C e R = (λ y. all_links slots homes i C (λ l x. subst (LinkFits homes i across) (let z : Some k ≡ Some l = sym e ∙ x in let w : k ≡ l = cc in w) (R.0 y)), λ F. R.1 (F across k e))

pub without_content : (slots : List Slot) (homes : List Walk) (i : ℕ) → ChildrenFit slots homes i → link_of slots i across ≡ None → LinksFit slots homes i
without_content slots homes i C e = all_links slots homes i C (λ l x. let z : None ≡ Some l = sym e ∙ x in absurd cc)
