-- The changes of an insertion add up to no more than is allowed.
use Rattle.std.proofs.Common.{◌≡◌, ℕ, zero, suc, ◌+◌, ◌-◌, ◌*◌, ◌^◌, ◌<◌, ◌≤◌, length, Bool, true, false, cond, eqb, refl, sym, ap, ◌∙◌, subst, arith}
use Rattle.std.proofs.lemmas.Bool.{eq-eqb, ne_eqb}
use Rattle.std.proofs.Math.Nat.{two-pow-succ, mul-le-mul_right}
use Rattle.std.proofs.Math.Pow.{pow_mono}
use Rattle.cube_view.proofs.SchemaBounds.{deepest_category, depth_bounds, few_categories}
use Rattle.cube_view.specs.Places.{deepest, time_dim}
use Rattle.cube_view.specs.declared.schema.Schema.{Schema}
use Rattle.arena_undo.specs.Worked.{Worked}
use Rattle.proper_path.specs.Stepped.{KeepsRoom}
use Rattle.point_insert.specs.Room.{visits_in, visits_from, visits, allowance}

-- the visits of a dimension, from those of the next one
pub visits-step : (z : Schema) (dim : ℕ) → dim < time_dim z → visits_from z dim ≡ (deepest z dim + 1) * (1 + visits_from z (dim + 1))
visits-step z dim less = ap (visits_in z dim) more
  where
    more : time_dim z - dim ≡ suc (time_dim z - (dim + 1))
    more = omega (arith, less)

-- one change is allowed in time
pub allowance-time : (z : Schema) (dim : ℕ) → dim ≡ time_dim z → allowance z dim ≡ 1
allowance-time z dim e = ap (λ (b : Bool). cond b 1 (5 * visits_from z dim)) (eq-eqb dim (time_dim z) e)

-- elsewhere five for each visit
pub allowance-other : (z : Schema) (dim : ℕ) → (dim ≡ time_dim z → ⊥) → allowance z dim ≡ 5 * visits_from z dim
allowance-other z dim n = ap (λ (b : Bool). cond b 1 (5 * visits_from z dim)) (ne_eqb dim (time_dim z) n)

-- so one and five for each visit are enough
pub allowance-le : (z : Schema) (dim : ℕ) → allowance z dim ≤ 1 + 5 * visits_from z dim
allowance-le z dim = go (eqb dim (time_dim z))
  where
    go : (b : Bool) → cond b 1 (5 * visits_from z dim) ≤ 1 + 5 * visits_from z dim
    go true = omega arith
    go false = omega arith

-- a trail of n levels and its n + 1 visits
pub trail_and_visits : (n v : ℕ) → 2 * n + (n + 1) * (3 + 5 * v) ≤ 5 * ((n + 1) * (1 + v))
trail_and_visits n v = omega arith

-- So many visits of a trail are left, and the changes so far leave enough for them.
pub record IsSpending (z : Schema) (dim left : ℕ) (old new : Worked) : Type 0 where
  pub start : new.start ≡ old.start
  pub room : new.room ≡ old.room
  pub made : new.made + left * (3 + 5 * visits_from z (dim + 1)) ≤ old.made + 5 * visits_from z dim

one_less : (m n r k : ℕ) → n ≡ r + 1 → m + n * k ≡ m + k + r * k
one_less m n r k e = ap (λ z. m + z * k) e ∙ omega arith

-- the trail is made
pub spending_starts : (z : Schema) (dim left : ℕ) (old new : Worked) → dim < time_dim z → left ≡ deepest z dim + 1 → KeepsRoom (2 * deepest z dim) old new → IsSpending z dim left old new
spending_starts z dim left old new less size K = record { start = K.start; room = K.room; made = made }
  where
    made : new.made + left * (3 + 5 * visits_from z (dim + 1)) ≤ old.made + 5 * visits_from z dim
    made =
        let v = visits_from z (dim + 1) in
        let t = trail_and_visits (deepest z dim) (visits_from z (dim + 1)) in
        let s : left * (3 + 5 * visits_from z (dim + 1)) ≡ (deepest z dim + 1) * (3 + 5 * visits_from z (dim + 1)) = ap (λ n. n * (3 + 5 * visits_from z (dim + 1))) size in
        let e : 5 * visits_from z dim ≡ 5 * ((deepest z dim + 1) * (1 + visits_from z (dim + 1))) = ap (λ n. 5 * n) (visits-step z dim less) in
        added_up (2 * deepest z dim) (left * (3 + 5 * visits_from z (dim + 1))) ((deepest z dim + 1) * (3 + 5 * visits_from z (dim + 1))) (5 * ((deepest z dim + 1) * (1 + visits_from z (dim + 1)))) (5 * visits_from z dim) old.made new.made K.made s t e
      where
        added_up : (a b c d f o n : ℕ) → n ≤ o + a → b ≡ c → a + c ≤ d → f ≡ d → n + b ≤ o + f
        added_up a b c d f o n x s t e = omega (arith, x, s, t, e)

-- one visit can be afforded
pub spending_room : (z : Schema) (dim left rest : ℕ) (old new : Worked) → IsSpending z dim left old new → left ≡ rest + 1 → old.made + 5 * visits_from z dim ≤ old.room → new.made + (3 + 5 * visits_from z (dim + 1)) ≤ new.room
spending_room z dim left rest old new S e enough = total new.made (left * (3 + 5 * visits_from z (dim + 1))) (3 + 5 * visits_from z (dim + 1)) (rest * (3 + 5 * visits_from z (dim + 1))) old.made (5 * visits_from z dim) old.room new.room S.made (one_less new.made left rest (3 + 5 * visits_from z (dim + 1)) e) enough S.room
  where
    total : (m l k r o f q p : ℕ) → m + l ≤ o + f → m + l ≡ m + k + r → o + f ≤ q → p ≡ q → m + k ≤ p
    total m l k r o f q p a b c d = omega (arith, a, b, c, d)

-- one visit was made
pub spending_more : (z : Schema) (dim left rest : ℕ) (old mid new : Worked) → IsSpending z dim left old mid → left ≡ rest + 1 → KeepsRoom (3 + 5 * visits_from z (dim + 1)) mid new → IsSpending z dim rest old new
spending_more z dim left rest old mid new S e K = record {
  start = K.start ∙ S.start;
  room = K.room ∙ S.room;
  made = total mid.made (left * (3 + 5 * visits_from z (dim + 1))) (3 + 5 * visits_from z (dim + 1)) (rest * (3 + 5 * visits_from z (dim + 1))) old.made (5 * visits_from z dim) new.made S.made (one_less mid.made left rest (3 + 5 * visits_from z (dim + 1)) e) K.made;
}
  where
    total : (m l k r o f n : ℕ) → m + l ≤ o + f → m + l ≡ m + k + r → n ≤ m + k → n + r ≤ o + f
    total m l k r o f n a b c = omega (arith, a, b, c)

-- and all of them
pub spending_ends : (z : Schema) (dim left : ℕ) (old new : Worked) → IsSpending z dim left old new → KeepsRoom (5 * visits_from z dim) old new
spending_ends z dim left old new S = record { start = S.start; room = S.room; made = total new.made (left * (3 + 5 * visits_from z (dim + 1))) (old.made + 5 * visits_from z dim) S.made }
  where
    total : (m l f : ℕ) → m + l ≤ f → m ≤ f
    total m l f a = omega (arith, a)

-- no more changes than are allowed
pub keeps_within : (few most : ℕ) (old new : Worked) → few ≤ most → KeepsRoom few old new → KeepsRoom most old new
keeps_within few most old new le K = record { start = K.start; room = K.room; made = let m = K.made in omega (arith, m, le) }

pub keeps_both : (few more most : ℕ) (old mid new : Worked) → few + more ≤ most → KeepsRoom few old mid → KeepsRoom more mid new → KeepsRoom most old new
keeps_both few more most old mid new le K M = record { start = M.start ∙ K.start; room = M.room ∙ K.room; made = let m = K.made in let n = M.made in omega (arith, m, n, le) }

-- a trail alone stays within the allowance
pub trail_within : (z : Schema) (dim : ℕ) → dim < time_dim z → 2 * deepest z dim ≤ 5 * visits_from z dim
trail_within z dim less = subst (λ n. 2 * deepest z dim ≤ 5 * n) (sym (visits-step z dim less)) (few (deepest z dim) (visits_from z (dim + 1)))
  where
    few : (n v : ℕ) → 2 * n ≤ 5 * ((n + 1) * (1 + v))
    few n v = omega arith

-- what is left after a content was made
pub update_room : (z : Schema) (dim : ℕ) (old mid : Worked) → KeepsRoom 2 old mid → old.made + (3 + 5 * visits_from z dim) ≤ old.room → mid.made + allowance z dim ≤ mid.room
update_room z dim old mid K enough = let m = K.made in let r = K.room in let a = allowance-le z dim in omega (arith, m, r, a, enough)

-- each category doubles the visits
doubled : (z : Schema) (dim n : ℕ) → 2 ≤ dim → dim + n ≡ time_dim z → visits_in z dim n + 2 ≡ 2 ^ (n + 1)
doubled z dim zero low e = refl
doubled z dim (suc n) low e =
    let one = deepest_category z dim low (omega (arith, e)) in
    let r = doubled z (dim + 1) n (omega (arith, low)) (omega (arith, e)) in
    ap (λ k. (k + 1) * (1 + visits_in z (dim + 1) n) + 2) one ∙ (twice (visits_in z (dim + 1) n) (2 ^ (n + 1)) r ∙ (sym (two-pow-succ (n + 1)) ∙ ap (λ k. 2 ^ k) more))
  where
    more : suc (n + 1) ≡ suc n + 1
    more = omega arith

    twice : (v k : ℕ) → v + 2 ≡ k → (1 + 1) * (1 + v) + 2 ≡ k + k
    twice v k r = omega (arith, r)

-- how many node addresses hold a point, from the doubling
pub visits-doubled : (z : Schema) (below : ℕ) → below + 2 ≡ 2 ^ (length z.categories + 1) → (z.depth + 1) * (1 + below) ≡ visits z
visits-doubled z below e =
    let d = doubled z 2 (length z.categories) (omega arith) (omega arith) in
    let same : below ≡ visits_in z 2 (length z.categories) = omega (arith, e, d) in
    ap (λ n. (z.depth + 1) * (1 + n)) same ∙ sym (ap (visits_in z 1) steps)
  where
    steps : time_dim z - 1 ≡ suc (length z.categories)
    steps = omega arith

-- the numbers are small
pub below_small : (z : Schema) (below i : ℕ) → i ≤ length z.categories → below + 2 ≡ 2 ^ (i + 1) → below ≤ 30
below_small z below i le e = let f = few_categories z in let m : 2 ^ (i + 1) ≤ 2 ^ 5 = pow_mono {i = i + 1} {j = 5} (omega (arith, le, f)) in omega (arith, e, m)

visits_small : (z : Schema) (below : ℕ) → below ≤ 30 → (z.depth + 1) * (1 + below) ≤ 651
visits_small z below le =
    let d = (depth_bounds z).1 in
    let a : (z.depth + 1) * (1 + below) ≤ 21 * (1 + below) = mul-le-mul_right {m = z.depth + 1} {n = 21} (1 + below) (omega (arith, d)) in
    omega (arith, a, le)

pub visits_within : (z : Schema) (below i : ℕ) → i ≤ length z.categories → below + 2 ≡ 2 ^ (i + 1) → (z.depth + 1) * (1 + below) ≤ 651
visits_within z below i le e = visits_small z below (below_small z below i le e)
