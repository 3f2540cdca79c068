-- Labels: the children of a node by them, and the steps down to a spot.
use Rattle.std.proofs.Common.{◌≡◌, ℕ, zero, suc, ◌<◌, ◌≤◌, Bool, true, false, cond, eqb, ltb, List, [], ◌∷◌, length, get_or, Option, Some, None, is_some, refl, sym, ap, ◌∙◌, subst, arith, eqb-true}
use Rattle.std.proofs.lemmas.Bool.{ne_eqb, eq-eqb, ltb-true, ltb-false}
use Rattle.cube_view.specs.Walks.{down, Walk, SpotPath, Cursor, after_down, then_step, cursor, Under}
use Rattle.node_arena.specs.declared.link.Link.{Link}
use Rattle.node_arena.specs.Calls.{child_from}
use Rattle.node_arena.specs.Slots.{Children, Slot, node, table, child, children_of, link, IsRising}

-- two steps that both go down to a spot are the same
pub same_down : (q : SpotPath) (l m : ℕ) (a : Walk) → Under q (down l ∷ a) → Under q (down m ∷ a) → l ≡ m
same_down q l m a h k = go (cursor q a) h k
  where
    at : (rest : List ℕ) (later : List (List ℕ)) → is_some (after_down l rest later) ≡ true → is_some (after_down m rest later) ≡ true → l ≡ m
    at [] later x y = absurd cc
    at (n ∷ rest) later x y = eqb-true l n (test l x) ∙ sym (eqb-true m n (test m y))
      where
        test : (k : ℕ) → is_some (after_down k (n ∷ rest) later) ≡ true → eqb k n ≡ true
        test k z = pick (eqb k n) z
          where
            pick : (b : Bool) → is_some {T = Cursor} (cond b (Some (record { rest = rest; later = later })) None) ≡ true → b ≡ true
            pick true w = refl
            pick false w = absurd cc

    go : (o : Option Cursor) → is_some (then_step o (down l)) ≡ true → is_some (then_step o (down m)) ≡ true → l ≡ m
    go None x y = absurd cc
    go (Some c) x y = at c.rest c.later x y

-- a step down goes along the link of the child at its label
pub link_down : (s : Slot) (l : ℕ) → link s (down l) ≡ child (children_of s) l
link_down (node children content) l = refl
link_down (table counts) l = refl

-- the child at another label than the first is one of the others
pub child_past : (x : ℕ × Link) (children : Children) (l : ℕ) → (x.0 ≡ l → ⊥) → child (x ∷ children) l ≡ child children l
child_past x children l other = ap (λ (b : Bool). cond b (Some x.1) (child children l)) (ne_eqb x.0 l other)

-- a label that all labels are above has no child
pub child_before : (children : Children) (l : ℕ) → ((i : ℕ) (d : ℕ × Link) → i < length children → l < (get_or children i d).0) → child children l ≡ None
child_before [] l above = refl
child_before (x ∷ children) l above =
    let first = above 0 x (omega arith) in
    child_past x children l (λ e. omega (arith, e, first)) ∙ child_before children l (λ i d lt. above (suc i) d (omega (arith, lt)))

-- the child at the first label is the first
pub child_here : (x : ℕ × Link) (children : Children) → child (x ∷ children) x.0 ≡ Some x.1
child_here x children = ap (λ (b : Bool). cond b (Some x.1) (child children x.0)) (eq-eqb x.0 x.0 refl)

-- the other labels rise too
pub rising-tail : (x : ℕ × Link) (children : Children) → IsRising (x ∷ children) → IsRising children
rising-tail x children R i j d less within = R (suc i) (suc j) d (omega arith) (omega arith)

-- where the labels rise there is no child before the first
pub none_before : (x : ℕ × Link) (children : Children) (l : ℕ) → IsRising (x ∷ children) → l < x.0 → child (x ∷ children) l ≡ None
none_before x children l R less = child_before (x ∷ children) l above
  where
    above : (i : ℕ) (d : ℕ × Link) → i < length (x ∷ children) → l < (get_or (x ∷ children) i d).0
    above zero d lt = less
    above (suc i) d lt = let r = R 0 (suc i) d (omega arith) lt in omega (arith, r, less)

-- the first child from a label on stands at the least label from there on
pub record IsFirstFrom (children : Children) (from : ℕ) (x : ℕ × Link) : Type 0 where
  pub low : from ≤ x.0
  pub there : child children x.0 ≡ Some x.1
  pub least : (l : ℕ) → from ≤ l → l < x.0 → child children l ≡ None

-- a search that finds none: there is none from the label on
pub child_from-none : (children : Children) (from : ℕ) → child_from children from ≡ None → (l : ℕ) → from ≤ l → child children l ≡ None
child_from-none [] from is l le = refl
child_from-none (x ∷ children) from is l le = go (ltb x.0 from) refl is (λ r. child_from-none children from r l le)
  where
    go : (b : Bool) → ltb x.0 from ≡ b → cond b (child_from children from) (Some x) ≡ None → (child_from children from ≡ None → child children l ≡ None) → child (x ∷ children) l ≡ None
    go true e r rest = let lt = ltb-true x.0 from e in child_past x children l (λ same. omega (arith, lt, le, same)) ∙ rest r
    go false e r rest = absurd cc

-- what a search finds is the first child from the label on
pub child_from-some : (children : Children) (from : ℕ) (x : ℕ × Link) → IsRising children → child_from children from ≡ Some x → IsFirstFrom children from x
child_from-some [] from x R is = absurd cc
child_from-some (y ∷ children) from x R is = go (ltb y.0 from) refl is (λ r. child_from-some children from x (rising-tail y children R) r)
  where
    go : (b : Bool) → ltb y.0 from ≡ b → cond b (child_from children from) (Some y) ≡ Some x → (child_from children from ≡ Some x → IsFirstFrom children from x) → IsFirstFrom (y ∷ children) from x
    go true e r rest =
        let lt = ltb-true y.0 from e in
        let F = rest r in
        let low = F.low in
        record {
          low = F.low;
          there = child_past y children x.0 (λ same. omega (arith, lt, low, same)) ∙ F.there;
          least = λ l le less. child_past y children l (λ same. omega (arith, lt, le, same)) ∙ F.least l le less;
        }
    go false e r rest =
        let same : y ≡ x = cc in
        let le = ltb-false y.0 from e in
        subst (λ (k : ℕ × Link). IsFirstFrom (y ∷ children) from k) same (record {
          low = le;
          there = child_here y children;
          least = λ l low less. none_before y children l R less;
        })
