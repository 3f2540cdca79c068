-- Pairs in rising order: the children of a node, and the rows of a table.
use Rattle.std.proofs.Common.{◌≡◌, ℕ, suc, ◌+◌, ◌-◌, ◌^◌, ◌<◌, ◌≤◌, Bool, true, false, cond, ltb, ◌⊎◌, inl, inr, List, [], ◌∷◌, length, map, get_or, Some, refl, sym, ap, ◌∙◌, subst, arith}
use Rattle.std.specs.FinMap.{entries, entries_sorted}
use Rattle.std.specs.FinMap.Entries.{is_sorted}
use Rattle.std.specs.List.{AllPairs}
use Rattle.std.specs.Ordering.{nat_cmp}
use Rattle.std.proofs.lemmas.List.{get_or_default}
use Rattle.std.proofs.lemmas.Bool.{cases_lt, cases_eq, eq-eqb, ne_eqb, lt-ltb, le-ltb}
use Rattle.time_table.specs.Counts.{BinCounts}
use Rattle.node_arena.specs.declared.link.Link.{Link}
use Rattle.node_arena.specs.Slots.{Children, IsRising, child}
use Rattle.time_table.proofs.KeyTests.{from_T}
use Rattle.cube_store.proofs.PairOrder.{rises-tail, rises_from_test}
use Rattle.cube_image.specs.Order.{moved_child}
use Rattle.cube_image.specs.Rest.{below_number, byte_children, word_rows}

-- the numbers are b or greater, and rise
abbrev pub Rises : {X : Type 0} → ℕ → List (ℕ × X) → Type 0
Rises b [] = Unit {0}
Rises b (x ∷ xs) = (b ≤ x.0) × Rises (x.0 + 1) xs

module _ {X : Type 0} where
  rises-above : (b : ℕ) (xs : List (ℕ × X)) → AllPairs (λ (x y : ℕ × X). x.0 < y.0) xs → ((i : ℕ) (d : ℕ × X) → i < length xs → b ≤ (get_or xs i d).0) → Rises b xs
  rises-above b [] R low = tt
  rises-above b (x ∷ xs) R low =
      (low 0 x (omega arith), rises-above (x.0 + 1) xs (rises-tail x xs R) (λ i d lt. let r = R 0 (suc i) d (omega arith) (omega arith) in omega arith))

  pub taken : (m : ℕ) (x : ℕ × X) (xs : List (ℕ × X)) → x.0 < m → below_number m (x ∷ xs) ≡ x ∷ below_number m xs
  taken m x xs lt = ap (λ (b : Bool). cond b (x ∷ below_number m xs) (below_number m xs)) (lt-ltb x.0 m lt)

  pub dropped : (m : ℕ) (x : ℕ × X) (xs : List (ℕ × X)) → m ≤ x.0 → below_number m (x ∷ xs) ≡ below_number m xs
  dropped m x xs le = ap (λ (b : Bool). cond b (x ∷ below_number m xs) (below_number m xs)) (le-ltb x.0 m le)

  rises-weaker : (b c : ℕ) (xs : List (ℕ × X)) → Rises c xs → b ≤ c → Rises b xs
  rises-weaker b c [] R le = tt
  rises-weaker b c (x ∷ xs) R le = let low = R.0 in (omega arith, R.1)

  -- the pairs below a number rise too
  pub below-rises : (b m : ℕ) (xs : List (ℕ × X)) → Rises b xs → Rises b (below_number m xs)
  below-rises b m [] R = tt
  below-rises b m (x ∷ xs) R = go (cases_lt x.0 m) (below-rises (x.0 + 1) m xs R.1)
    where
      go : (x.0 < m) ⊎ (m ≤ x.0) → Rises (x.0 + 1) (below_number m xs) → Rises b (below_number m (x ∷ xs))
      go (inl lt) r = subst (Rises b) (sym (taken m x xs lt)) (R.0, r)
      go (inr le) r = let low = R.0 in subst (Rises b) (sym (dropped m x xs le)) (rises-weaker b (x.0 + 1) (below_number m xs) r (omega arith))

  -- no pair is left out where all numbers are less
  below-all : (m : ℕ) (xs : List (ℕ × X)) → ((i : ℕ) (d : ℕ × X) → i < length xs → (get_or xs i d).0 < m) → below_number m xs ≡ xs
  below-all m [] small = refl
  below-all m (x ∷ xs) small = taken m x xs (small 0 x (omega arith)) ∙ ap (λ (ys : List (ℕ × X)). x ∷ ys) (below-all m xs (λ i d lt. small (suc i) d (omega (arith, lt))))

  -- as many numbers rise as there are from the least to the greatest, at most
  rises-few : (b m : ℕ) (xs : List (ℕ × X)) → Rises b xs → b ≤ m → ((i : ℕ) (d : ℕ × X) → i < length xs → (get_or xs i d).0 < m) → b + length xs ≤ m
  rises-few b m [] R le small = omega (arith, le)
  rises-few b m (x ∷ xs) R le small =
      let low = R.0 in
      let first : x.0 < m = small 0 x (omega arith) in
      let rest = rises-few (x.0 + 1) m xs R.1 (omega (arith, first)) (λ i d lt. small (suc i) d (omega (arith, lt))) in
      omega (arith, low, rest)

  -- the last of numbers that rise is the greatest
  last-greatest : (m last : ℕ) (xs : List (ℕ × X)) (x : ℕ × X) → AllPairs (λ (a b : ℕ × X). a.0 < b.0) xs → last + 1 ≡ length xs → x ≡ get_or xs last x → x.0 < m → (i : ℕ) (d : ℕ × X) → i < length xs → (get_or xs i d).0 < m
  last-greatest m last xs x R size is less i d within =
      let here : (get_or xs last d).0 ≡ x.0 = ap (λ (y : ℕ × X). y.0) (get_or_default xs last d x (omega (arith, size)) ∙ sym is) in
      elim (cases_lt i last) [
        | inl low ↦ let up : (get_or xs i d).0 < (get_or xs last d).0 = R i last d low (omega (arith, size)) in omega (arith, up, here, less)
        | inr high ↦ let same : (get_or xs i d).0 ≡ (get_or xs last d).0 = ap (λ n. (get_or xs n d).0) (omega (arith, high, size, within)) in omega (arith, same, here, less)
      ]

  -- where it is less than a number, no pair is left out, and there are few
  below-last : (m last : ℕ) (xs : List (ℕ × X)) (x : ℕ × X) → AllPairs (λ (a b : ℕ × X). a.0 < b.0) xs → last + 1 ≡ length xs → x ≡ get_or xs last x → x.0 < m → (below_number m xs ≡ xs) × (length xs ≤ m)
  below-last m last xs x R size is less =
      let small = last-greatest m last xs x R size is less in
      let few = rises-few 0 m xs (rises-above 0 xs R (λ i d lt. omega arith)) (omega arith) small in
      (below-all m xs small, omega (arith, few))

  below-none : (m : ℕ) (xs : List (ℕ × X)) → length xs ≡ 0 → below_number m xs ≡ xs
  below-none m [] none = refl
  below-none m (x ∷ xs) none = absurd (omega (arith, none))

-- children

-- the label of the last child is a byte, so all are
pub children-last : (children : Children) (count : ℕ) (c : ℕ × Link) → IsRising children → (count ≡ 0 → ⊥) → count ≡ length children → c ≡ get_or children (count - 1) c → c.0 < 256 → (byte_children children ≡ children) × (length children ≤ 256)
children-last children count c R some size is less = below-last 256 (count - 1) children c R (omega (arith, some, size)) is less

pub children-none : (children : Children) → length children ≡ 0 → byte_children children ≡ children
children-none children none = below-none 256 children none

pub rises : (children : Children) → IsRising children → Rises 0 children
rises children R = rises-above 0 children R (λ i d lt. omega arith)

-- a label whose child is there isn't less than the least
pub child-low : (b : ℕ) (children : Children) (label : ℕ) (l : Link) → Rises b children → child children label ≡ Some l → b ≤ label
child-low b [] label l R is = absurd cc
child-low b (x ∷ children) label l R is = go (cases_eq x.0 label) (λ r. child-low (x.0 + 1) children label l R.1 r)
  where
    go : (x.0 ≡ label) ⊎ (x.0 ≡ label → ⊥) → (child children label ≡ Some l → x.0 + 1 ≤ label) → b ≤ label
    go (inl e) rest = let low = R.0 in omega arith
    go (inr n) rest =
        let r = rest (sym (ap (λ (t : Bool). cond t (Some x.1) (child children label)) (ne_eqb x.0 label n)) ∙ is) in
        let low = R.0 in omega arith

-- a child whose label is a byte is one of all children
pub child-below : (m b : ℕ) (children : Children) (label : ℕ) (l : Link) → Rises b children → child (below_number m children) label ≡ Some l → child children label ≡ Some l
child-below m b [] label l R is = is
child-below m b (x ∷ children) label l R is = go (cases_lt x.0 m) (λ r. child-below m (x.0 + 1) children label l R.1 r)
  where
    go : (x.0 < m) ⊎ (m ≤ x.0) → (child (below_number m children) label ≡ Some l → child children label ≡ Some l) → child (x ∷ children) label ≡ Some l
    go (inr le) rest =
        let at = rest (ap (λ (cs : Children). child cs label) (sym (dropped m x children le)) ∙ is) in
        let low = child-low (x.0 + 1) children label l R.1 at in
        ap (λ (t : Bool). cond t (Some x.1) (child children label)) (ne_eqb x.0 label (λ e. omega arith)) ∙ at
    go (inl lt) rest = same (cases_eq x.0 label)
      where
        at : child (x ∷ below_number m children) label ≡ Some l
        at = ap (λ (cs : Children). child cs label) (sym (taken m x children lt)) ∙ is

        same : (x.0 ≡ label) ⊎ (x.0 ≡ label → ⊥) → child (x ∷ children) label ≡ Some l
        same (inl e) =
            ap (λ (t : Bool). cond t (Some x.1) (child children label)) (eq-eqb x.0 label e)
            ∙ (sym (ap (λ (t : Bool). cond t (Some x.1) (child (below_number m children) label)) (eq-eqb x.0 label e)) ∙ at)
        same (inr n) =
            ap (λ (t : Bool). cond t (Some x.1) (child children label)) (ne_eqb x.0 label n)
            ∙ rest (sym (ap (λ (t : Bool). cond t (Some x.1) (child (below_number m children) label)) (ne_eqb x.0 label n)) ∙ at)

-- rows

bins-rise : (m : BinCounts) → AllPairs (λ (a b : ℕ × ℕ). a.0 < b.0) (entries m)
bins-rise m = rises_from_test (entries m) (from_T (is_sorted nat_cmp (entries m)) (entries_sorted m))

pub rows-rise : (m : BinCounts) → Rises 0 (entries m)
rows-rise m = rises-above 0 (entries m) (bins-rise m) (λ i d lt. omega arith)

-- the bin of the last row has 32 bits, so all have
pub rows-last : (m : BinCounts) (rows : List (ℕ × ℕ)) (n : ℕ) (row : ℕ × ℕ) → rows ≡ entries m → (n ≡ 0 → ⊥) → n ≡ length rows → row ≡ get_or rows (n - 1) row → row.0 < 2 ^ 32 → (rows ≡ word_rows m) × (length rows ≤ 2 ^ 32)
rows-last m rows n row at some size is less =
    let long = ap length at in
    let all = below-last (2 ^ 32) (n - 1) (entries m) row (bins-rise m) (omega (arith, some, size, long)) (is ∙ ap (λ (xs : List (ℕ × ℕ)). get_or xs (n - 1) row) at) less in
    let few = all.1 in
    (at ∙ sym all.0, omega (arith, few, long))

pub rows-none : (m : BinCounts) (rows : List (ℕ × ℕ)) → rows ≡ entries m → length rows ≡ 0 → rows ≡ word_rows m
rows-none m rows at none = at ∙ sym (below-none (2 ^ 32) (entries m) (sym (ap length at) ∙ none))

-- links that are moved keep their labels
pub byte_children-map : (places : List ℕ) (children : Children) → byte_children (map (moved_child places) children) ≡ map (moved_child places) (byte_children children)
byte_children-map places [] = refl
byte_children-map places (c ∷ children) =
    let r = byte_children-map places children in
    elim (ltb c.0 256) as (λ (b : Bool). cond b (moved_child places c ∷ byte_children (map (moved_child places) children)) (byte_children (map (moved_child places) children)) ≡ map (moved_child places) (cond b (c ∷ byte_children children) (byte_children children))) [
      | true ↦ ap (λ (cs : Children). moved_child places c ∷ cs) r
      | false ↦ r
    ]
