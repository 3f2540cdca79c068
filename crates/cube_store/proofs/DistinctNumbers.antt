-- How many different numbers lists have that have the same numbers, and which numbers stand in lists of points and of
-- entries.
use Rattle.std.proofs.Common.{◌≡◌, ℕ, suc, ◌+◌, ◌<◌, ◌≤◌, Bool, true, false, cond, ◌&&◌, ◌||◌, eqb, ltb, List, [], ◌∷◌, All, map, filter, Option, Some, is_some, unwrap_or, refl, sym, ◌∙◌, ap, ap₂, arith}
use Rattle.std.specs.FinMap.Entries.{find}
use Rattle.std.specs.FinMap.{entries, get-entries, entries_sorted}
use Rattle.std.specs.Cmp.{unsigned_tied}
use Rattle.std.specs.List.{IsDistinct}
use Rattle.std.specs.Ordering.{nat_cmp}
use Rattle.std.specs.Set.{distinct_count, is_member, unique_keys}
use Rattle.std.proofs.lemmas.Bool.{or_parts, eqb-true, lt-ltb, ltb-true, ltb-false, ne_eqb}
use Rattle.std.proofs.lemmas.Cmp.{nat_eq_equiv}
use Rattle.std.proofs.lemmas.List.Elements.{All-nil, All-cons, All-tail, recursion_from_All}
use Rattle.std.proofs.lemmas.Map.Keys.{IsDistinct-cons}
use Rattle.std.proofs.lemmas.Map.Made.{length-from_keys, IsDistinct-from_count}
use Rattle.std.proofs.lemmas.Map.Steps.{length-le_from_distinct_below}
use Rattle.cube_view.specs.Bag.{amount, gives}
use Rattle.cube_view.specs.Points.{Point, spot_of, weight_of_point}
use Rattle.cube_view.specs.declared.spot.Spot.{Spot}
use Rattle.cube_view.proofs.Amounts.{amount-nil, amount-cons}
use Rattle.time_table.specs.Counts.{BinCounts, count_of}
use Rattle.node_arena.specs.Slots.{Children, child, child_label}
use Rattle.proper_path.proofs.SpotRemainders.{turned}
use Rattle.time_table.proofs.KeyTests.{from_T}
use Rattle.cube_store.proofs.PairOrder.{Rises, rises_from_test}

-- Lists with the same numbers have as many different ones

same_member : (xs : List ℕ) (q x : ℕ) → is_member eqb xs x ≡ true → (eqb q x || is_member eqb xs q) ≡ is_member eqb xs q
same_member xs q x there = go (eqb q x) (eqb-true q x)
  where
    go : (b : Bool) → (b ≡ true → q ≡ x) → (b || is_member eqb xs q) ≡ is_member eqb xs q
    go true t = sym (ap (is_member eqb xs) (t refl) ∙ there)
    go false t = refl

member_unique : (xs : List ℕ) (q : ℕ) → is_member eqb (unique_keys eqb xs) q ≡ is_member eqb xs q
member_unique [] q = refl
member_unique (x ∷ xs) q = go (is_member eqb xs x) refl (member_unique xs q)
  where
    go : (b : Bool) → is_member eqb xs x ≡ b → is_member eqb (unique_keys eqb xs) q ≡ is_member eqb xs q → is_member eqb (cond b (unique_keys eqb xs) (x ∷ unique_keys eqb xs)) q ≡ (eqb q x || is_member eqb xs q)
    go true e rest = rest ∙ sym (same_member xs q x e)
    go false e rest = ap (λ t. eqb q x || t) rest

all_others : (ys : List ℕ) (x : ℕ) → is_member eqb ys x ≡ false → All (λ y. eqb x y ≡ false) ys
all_others [] x e = All-nil (λ y. eqb x y ≡ false)
all_others (y ∷ ys) x e = let parts = or_parts (eqb x y) (is_member eqb ys x) e in All-cons (λ z. eqb x z ≡ false) y ys parts.0 (all_others ys x parts.1)

distinct_unique : (xs : List ℕ) → IsDistinct eqb (unique_keys eqb xs)
distinct_unique [] = IsDistinct-from_count nat_eq_equiv [] refl
distinct_unique (x ∷ xs) = go (is_member eqb xs x) refl (distinct_unique xs)
  where
    go : (b : Bool) → is_member eqb xs x ≡ b → IsDistinct eqb (unique_keys eqb xs) → IsDistinct eqb (cond b (unique_keys eqb xs) (x ∷ unique_keys eqb xs))
    go true e rest = rest
    go false e rest = IsDistinct-cons eqb x (unique_keys eqb xs) (recursion_from_All (λ y. eqb x y ≡ false) (unique_keys eqb xs) (all_others (unique_keys eqb xs) x (member_unique xs x ∙ e))) rest

pub distinct_count-same : (xs ys : List ℕ) → ((q : ℕ) → is_member eqb xs q ≡ is_member eqb ys q) → distinct_count eqb xs ≡ distinct_count eqb ys
distinct_count-same xs ys same = length-from_keys nat_eq_equiv (unique_keys eqb xs) ys (distinct_unique xs) (λ q. member_unique xs q ∙ same q)

member_below : (xs : List ℕ) (n q : ℕ) → All (λ x. x < n) xs → is_member eqb xs q ≡ true → q < n
member_below [] n q all there = absurd cc
member_below (x ∷ xs) n q all there = go (eqb q x) refl there (member_below xs n q (All-tail (λ y. y < n) x xs all))
  where
    go : (b : Bool) → eqb q x ≡ b → (b || is_member eqb xs q) ≡ true → (is_member eqb xs q ≡ true → q < n) → q < n
    go true e rest later = let same = eqb-true q x e in let first : x < n = all 0 x (omega arith) in omega (arith, same, first)
    go false e rest later = later rest

-- numbers under n are at most n different ones
pub distinct_count-below : (xs : List ℕ) (n : ℕ) → All (λ x. x < n) xs → distinct_count eqb xs ≤ n
distinct_count-below xs n all = length-le_from_distinct_below (unique_keys eqb xs) n (distinct_unique xs) (λ q there. member_below xs n q all (sym (member_unique xs q) ∙ there))

-- what all of a list's numbers are under, those of a part of it are under too
pub below-kept : {A : Type 0} (f : A → ℕ) (t : A → Bool) (n : ℕ) (h : List A) → All (λ a. f a < n) h → All (λ x. x < n) (map f (filter t h))
below-kept f t n [] all = All-nil (λ x. x < n)
below-kept f t n (a ∷ h) all = go (t a) (below-kept f t n h (All-tail (λ b. f b < n) a h all))
  where
    go : (b : Bool) → All (λ x. x < n) (map f (filter t h)) → All (λ x. x < n) (map f (cond b (a ∷ filter t h) (filter t h)))
    go true rest = All-cons (λ x. x < n) (f a) (map f (filter t h)) (all 0 a (omega arith)) rest
    go false rest = rest

-- Numbers of the points that pass and weigh something

more_there : (e : Bool) (w n : ℕ) → 0 < w → (e || ltb 0 n) ≡ ltb 0 (cond e w 0 + n)
more_there true w n some = sym (lt-ltb 0 (w + n) (omega (arith, some)))
more_there false w n some = ap (ltb 0) (omega arith)

module _ (f : Spot → ℕ) (t : Spot → Bool) where
  abbrev has_weight : Point → Bool
  has_weight p = t (spot_of p) && ltb 0 (weight_of_point p)

  abbrev has_number : ℕ → Spot → Bool
  has_number q s = t s && eqb (f s) q

  -- a number is one of them exactly where the list has an amount at its spots
  pub member-weighing : (h : List Point) (q : ℕ) → is_member eqb (map (λ p. f (spot_of p)) (filter has_weight h)) q ≡ ltb 0 (amount (has_number q) h)
  member-weighing [] q = ap (ltb 0) (sym (amount-nil (has_number q)))
  member-weighing (p ∷ h) q = go (t (spot_of p)) (ltb 0 (weight_of_point p)) refl refl (member-weighing h q) (amount-cons (has_number q) p h)
    where
      go : (b w : Bool) → t (spot_of p) ≡ b → ltb 0 (weight_of_point p) ≡ w → is_member eqb (map (λ r. f (spot_of r)) (filter has_weight h)) q ≡ ltb 0 (amount (has_number q) h)
          → amount (has_number q) (p ∷ h) ≡ gives (has_number q) p + amount (has_number q) h
          → is_member eqb (map (λ r. f (spot_of r)) (cond (b && w) (p ∷ filter has_weight h) (filter has_weight h))) q ≡ ltb 0 (amount (has_number q) (p ∷ h))
      go true true e some rest c =
          let first : gives (has_number q) p ≡ cond (eqb (f (spot_of p)) q) (weight_of_point p) 0 = ap (λ (b : Bool). cond (b && eqb (f (spot_of p)) q) (weight_of_point p) 0) e in
          ap₂ ◌||◌ (turned q (f (spot_of p))) rest
          ∙ (more_there (eqb (f (spot_of p)) q) (weight_of_point p) (amount (has_number q) h) (ltb-true 0 _ some)
          ∙ ap (ltb 0) (sym (c ∙ ap (λ n. n + amount (has_number q) h) first)))
      go true false e none rest c =
          let w = ltb-false 0 (weight_of_point p) none in
          let first : gives (has_number q) p ≡ 0 = nothing (has_number q (spot_of p)) (weight_of_point p) w in
          rest ∙ ap (ltb 0) (omega (arith, c, first))
        where
          nothing : (b : Bool) (w : ℕ) → w ≤ 0 → cond b w 0 ≡ 0
          nothing true w le = omega (arith, le)
          nothing false w le = refl
      go false w e some rest c =
          let first : gives (has_number q) p ≡ 0 = ap (λ (b : Bool). cond (b && eqb (f (spot_of p)) q) (weight_of_point p) 0) e in
          rest ∙ ap (ltb 0) (omega (arith, c, first))

-- The labels of children

pub member-children : (children : Children) (l : ℕ) → is_member eqb (map child_label children) l ≡ is_some (child children l)
member-children [] l = refl
member-children (k ∷ children) l = ap₂ ◌||◌ (turned l k.0) (member-children children l) ∙ found (eqb k.0 l)
  where
    found : (b : Bool) → (b || is_some (child children l)) ≡ is_some (cond b (Some k.1) (child children l))
    found true = refl
    found false = refl

-- The bins of a table that have a record

not_below : (n : ℕ) (es : List (ℕ × ℕ)) → All (λ (e : ℕ × ℕ). n < e.0) es → is_member eqb (map (λ (e : ℕ × ℕ). e.0) (filter (λ (e : ℕ × ℕ). ltb 0 e.1) es)) n ≡ false
not_below n [] all = refl
not_below n (e ∷ es) all = go (ltb 0 e.1) (not_below n es (λ i d lt. all (suc i) d (omega (arith, lt))))
  where
    go : (b : Bool) → is_member eqb (map (λ (e : ℕ × ℕ). e.0) (filter (λ (e : ℕ × ℕ). ltb 0 e.1) es)) n ≡ false → is_member eqb (map (λ (e : ℕ × ℕ). e.0) (cond b (e ∷ filter (λ (e : ℕ × ℕ). ltb 0 e.1) es) (filter (λ (e : ℕ × ℕ). ltb 0 e.1) es))) n ≡ false
    go true rest = let first = all 0 e (omega arith) in ap₂ ◌||◌ (ne_eqb n e.0 (λ x. omega (arith, first, x))) rest
    go false rest = rest

member-found : (es : List (ℕ × ℕ)) → Rises es → (q : ℕ) → is_member eqb (map (λ (e : ℕ × ℕ). e.0) (filter (λ (e : ℕ × ℕ). ltb 0 e.1) es)) q ≡ ltb 0 (unwrap_or (find nat_cmp q es) 0)
member-found [] R q = refl
member-found (e ∷ es) R q =
    go (eqb q e.0) (ltb 0 e.1) refl refl (member-found es (λ i j d lt lj. R (suc i) (suc j) d (omega (arith, lt)) (omega (arith, lj))) q)
    ∙ ap (λ b. ltb 0 (unwrap_or (cond b (Some e.1) (find nat_cmp q es)) 0)) (sym (unsigned_tied q e.0))
  where
    go : (b w : Bool) → eqb q e.0 ≡ b → ltb 0 e.1 ≡ w → is_member eqb (map (λ (e : ℕ × ℕ). e.0) (filter (λ (e : ℕ × ℕ). ltb 0 e.1) es)) q ≡ ltb 0 (unwrap_or (find nat_cmp q es) 0)
        → is_member eqb (map (λ (e : ℕ × ℕ). e.0) (cond w (e ∷ filter (λ (e : ℕ × ℕ). ltb 0 e.1) es) (filter (λ (e : ℕ × ℕ). ltb 0 e.1) es))) q ≡ ltb 0 (unwrap_or (cond b (Some e.1) (find nat_cmp q es)) 0)
    go true true t some rest = ap (λ b. b || is_member eqb (map (λ (e : ℕ × ℕ). e.0) (filter (λ (e : ℕ × ℕ). ltb 0 e.1) es)) q) t ∙ sym some
    go true false t none rest = ap (is_member eqb (map (λ (e : ℕ × ℕ). e.0) (filter (λ (e : ℕ × ℕ). ltb 0 e.1) es))) (eqb-true q e.0 t) ∙ (not_below e.0 es (λ i d lt. R 0 (suc i) d (omega arith) (omega (arith, lt))) ∙ sym none)
    go false true t some rest = ap (λ b. b || is_member eqb (map (λ (e : ℕ × ℕ). e.0) (filter (λ (e : ℕ × ℕ). ltb 0 e.1) es)) q) t ∙ rest
    go false false t none rest = rest

pub member-bins : (m : BinCounts) (q : ℕ) → is_member eqb (map (λ (e : ℕ × ℕ). e.0) (filter (λ (e : ℕ × ℕ). ltb 0 e.1) (entries m))) q ≡ ltb 0 (count_of m q)
member-bins m q = member-found (entries m) (rises_from_test (entries m) (from_T _ (entries_sorted m))) q ∙ ap (λ (o : Option ℕ). ltb 0 (unwrap_or o 0)) (sym (get-entries m q))
