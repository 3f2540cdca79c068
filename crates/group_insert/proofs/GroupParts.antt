-- The points of a group that an address holds, and those that its next steps hold.
use Rattle.std.proofs.Common.{◌≡◌, ℕ, ◌+◌, ◌<◌, Bool, true, false, cond, eqb, ◌⊎◌, inl, inr, List, [], ◌∷◌, Contains, filter, refl, sym, ap, ◌∙◌, subst, arith, true≢false}
use Rattle.cube_view.specs.Paths.{spot_path}
use Rattle.cube_view.specs.Places.{time_dim, deepest}
use Rattle.cube_view.specs.Points.{Point, spot_of}
use Rattle.cube_view.specs.Walks.{Step, down, across, Walk, SpotPath, under, Under, dimension}
use Rattle.cube_view.specs.declared.schema.Schema.{Schema}
use Rattle.cube_view.proofs.FinerWalks.{under_before, Contains-head, Contains-cons, Contains-cases}
use Rattle.node_arena.specs.Amounts.{spots_in}
use Rattle.group_insert.specs.Labels.{label_at, points_at}
use Rattle.group_insert.specs.Parts.{part_of}
use Rattle.proper_path.proofs.SpotRemainders.{under-down, under-across}
use Rattle.proper_path.specs.Paths.{level_of, paths_of}

-- a filter of a filter, where the finer test says so
filter_twice : {X : Type 0} (p r s : X → Bool) (xs : List X) → ((x : X) → r x ≡ true → s x ≡ p x) → ((x : X) → r x ≡ false → p x ≡ false) → filter s (filter r xs) ≡ filter p xs
filter_twice p r s [] f g = refl
filter_twice p r s (x ∷ xs) f g = go (filter_twice p r s xs f g) (r x) refl
  where
    go : filter s (filter r xs) ≡ filter p xs → (b : Bool) → r x ≡ b → filter s (cond b (x ∷ filter r xs) (filter r xs)) ≡ cond (p x) (x ∷ filter p xs) (filter p xs)
    go rest true e = ap (λ (b : Bool). cond b (x ∷ filter s (filter r xs)) (filter s (filter r xs))) (f x e) ∙ ap (λ l. cond (p x) (x ∷ l) l) rest
    go rest false e = rest ∙ ap (λ (b : Bool). cond b (x ∷ filter p xs) (filter p xs)) (sym (g x e))

not_below : (z : Schema) (p : Point) (e : Step) (a : Walk) → under (spot_path z (spot_of p)) a ≡ false → under (spot_path z (spot_of p)) (e ∷ a) ≡ false
not_below z p e a n = go (under (spot_path z (spot_of p)) (e ∷ a)) refl
  where
    go : (b : Bool) → under (spot_path z (spot_of p)) (e ∷ a) ≡ b → b ≡ false
    go true u = absurd (true≢false (sym (under_before (spot_path z (spot_of p)) e a u) ∙ n))
    go false u = refl

-- the points of a label are those that the step down holds
pub part_down : (z : Schema) (group : List Point) (a : Walk) (l : ℕ) → level_of a < deepest z (dimension a) → points_at z (dimension a) (level_of a + 1) l (part_of z group a) ≡ part_of z group (down l ∷ a)
part_down z group a l lt = filter_twice (λ p. under (spot_path z (spot_of p)) (down l ∷ a)) (λ p. under (spot_path z (spot_of p)) a) (λ p. eqb (label_at z (dimension a) (level_of a + 1) p) l) group
    (λ p u. sym (under-down z (spot_of p) a l u lt)) (λ p n. not_below z p (down l) a n)

filter_same : {X : Type 0} (p r : X → Bool) (xs : List X) → ((x : X) → p x ≡ r x) → filter p xs ≡ filter r xs
filter_same p r [] f = refl
filter_same p r (x ∷ xs) f = ap (λ (b : Bool). cond b (x ∷ filter p xs) (filter p xs)) (f x) ∙ ap (λ l. cond (r x) (x ∷ l) l) (filter_same p r xs f)

-- all points of a node go across, before time
pub part_across : (z : Schema) (group : List Point) (a : Walk) → dimension a < time_dim z → part_of z group a ≡ part_of z group (across ∷ a)
part_across z group a lt = filter_same (λ p. under (spot_path z (spot_of p)) a) (λ p. under (spot_path z (spot_of p)) (across ∷ a)) group same
  where
    same : (p : Point) → under (spot_path z (spot_of p)) a ≡ under (spot_path z (spot_of p)) (across ∷ a)
    same p = go (under (spot_path z (spot_of p)) a) refl
      where
        go : (b : Bool) → under (spot_path z (spot_of p)) a ≡ b → b ≡ under (spot_path z (spot_of p)) (across ∷ a)
        go true u = sym (under-across z (spot_of p) a u lt)
        go false n = sym (not_below z p across a n)

-- a point of the part is one of the group under the address
pub of_part : (z : Schema) (group : List Point) (a : Walk) (p : Point) → Contains (part_of z group a) p → Contains group p × Under (spot_path z (spot_of p)) a
of_part z [] a p c = let l = c.1 in absurd (omega (arith, l))
of_part z (x ∷ group) a p c = go (λ d. of_part z group a p d) (under (spot_path z (spot_of x)) a) refl c
  where
    pick : Under (spot_path z (spot_of x)) a → (Contains (part_of z group a) p → Contains group p × Under (spot_path z (spot_of p)) a) → (x ≡ p) ⊎ Contains (part_of z group a) p → Contains (x ∷ group) p × Under (spot_path z (spot_of p)) a
    pick u rest (inl e) = (subst (λ y. Contains (x ∷ group) y) e (Contains-head group x), subst (λ (y : Point). Under (spot_path z (spot_of y)) a) e u)
    pick u rest (inr r) = let k = rest r in (Contains-cons group x p k.0, k.1)

    go : (Contains (part_of z group a) p → Contains group p × Under (spot_path z (spot_of p)) a) → (b : Bool) → under (spot_path z (spot_of x)) a ≡ b → Contains (cond b (x ∷ part_of z group a) (part_of z group a)) p → Contains (x ∷ group) p × Under (spot_path z (spot_of p)) a
    go rest true u d = pick u rest (Contains-cases (part_of z group a) x p d)
    go rest false n d = let k = rest d in (Contains-cons group x p k.0, k.1)

-- and each point of the group under the address is in it
pub in_part : (z : Schema) (group : List Point) (a : Walk) (p : Point) → Contains group p → Under (spot_path z (spot_of p)) a → Contains (part_of z group a) p
in_part z [] a p c u = let l = c.1 in absurd (omega (arith, l))
in_part z (x ∷ group) a p c u = go (λ d. in_part z group a p d u) (under (spot_path z (spot_of x)) a) refl (Contains-cases group x p c)
  where
    go : (Contains group p → Contains (part_of z group a) p) → (b : Bool) → under (spot_path z (spot_of x)) a ≡ b → (x ≡ p) ⊎ Contains group p → Contains (cond b (x ∷ part_of z group a) (part_of z group a)) p
    go rest true e (inl y) = subst (λ t. Contains (x ∷ part_of z group a) t) y (Contains-head (part_of z group a) x)
    go rest true e (inr d) = Contains-cons (part_of z group a) x p (rest d)
    go rest false e (inl y) = absurd (true≢false (sym (subst (λ (t : Point). Under (spot_path z (spot_of t)) a) (sym y) u) ∙ e))
    go rest false e (inr d) = rest d

-- a spot of the group is that of a point
pub spot_is_of : (z : Schema) (group : List Point) (q : SpotPath) → Contains (spots_in (paths_of z group)) q → (p : Point) × Contains group p × (spot_path z (spot_of p) ≡ q)
spot_is_of z [] q c = let l = c.1 in absurd (omega (arith, l))
spot_is_of z (x ∷ group) q c = go (λ d. spot_is_of z group q d) (Contains-cases (spots_in (paths_of z group)) (spot_path z (spot_of x)) q c)
  where
    go : (Contains (spots_in (paths_of z group)) q → (p : Point) × Contains group p × (spot_path z (spot_of p) ≡ q)) → (spot_path z (spot_of x) ≡ q) ⊎ Contains (spots_in (paths_of z group)) q → (p : Point) × Contains (x ∷ group) p × (spot_path z (spot_of p) ≡ q)
    go rest (inl e) = (x, Contains-head group x, e)
    go rest (inr d) = let r = rest d in (r.0, Contains-cons group x r.0 r.1, r.2)

pub spot_of_point : (z : Schema) (group : List Point) (p : Point) → Contains group p → Contains (spots_in (paths_of z group)) (spot_path z (spot_of p))
spot_of_point z [] p c = let l = c.1 in absurd (omega (arith, l))
spot_of_point z (x ∷ group) p c = go (λ d. spot_of_point z group p d) (Contains-cases group x p c)
  where
    go : (Contains group p → Contains (spots_in (paths_of z group)) (spot_path z (spot_of p))) → (x ≡ p) ⊎ Contains group p → Contains (spots_in (paths_of z (x ∷ group))) (spot_path z (spot_of p))
    go rest (inl e) = subst (λ (t : Point). Contains (spots_in (paths_of z (x ∷ group))) (spot_path z (spot_of t))) e (Contains-head (spots_in (paths_of z group)) (spot_path z (spot_of x)))
    go rest (inr d) = Contains-cons (spots_in (paths_of z group)) (spot_path z (spot_of x)) (spot_path z (spot_of p)) (rest d)
