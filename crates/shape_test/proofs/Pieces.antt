-- How an amount is made of so many weights, each of them from 1 to the most.
use Rattle.std.proofs.Common.{◌≡◌, ◌⊎◌, inl, inr, ℕ, zero, suc, ◌+◌, ◌*◌, ◌-◌, ◌/◌, ◌<◌, ◌≤◌, List, [], ◌∷◌, length, All, sum, refl, arith}
use Rattle.std.proofs.lemmas.Bool.{cases_lt}
use Rattle.std.proofs.lemmas.List.Elements.{All-nil, All-cons}
use Rattle.std.proofs.lemmas.List.Sums.{sum_by-cons}
use Rattle.std.proofs.Math.Nat.{lt-div-mul-add, div-mul-le_self}

-- a weight from 1 to the most
abbrev pub IsWeight : ℕ → ℕ → Type 0
IsWeight most w = (0 < w) × (w ≤ most)

-- an amount is made of k weights
pub record IsMadeOf (most c k : ℕ) : Type 0 where
  pub weights : List ℕ
  pub number : length weights ≡ k
  pub total : sum weights ≡ c
  pub each : All (λ w. IsWeight most w) weights

times_more : (k most : ℕ) → suc k * most ≡ most + k * most
times_more k most = omega arith

times_le : (j k most : ℕ) → j ≤ k → j * most ≤ k * most
times_le zero k most l = omega arith
times_le (suc j) zero most l = absurd (omega (arith, l))
times_le (suc j) (suc k) most l = let r = times_le j k most (omega arith) in let a = times_more j most in let b = times_more k most in omega (arith, r, a, b)

times_one : (k most : ℕ) → 0 < most → k ≤ k * most
times_one zero most some = omega arith
times_one (suc k) most some = let r = times_one k most some in let t = times_more k most in omega (arith, r, t, some)

-- k weights make an amount where they are enough and not too many
pub pieces : (most k c : ℕ) → 0 < most → k ≤ c → c ≤ k * most → IsMadeOf most c k
pieces most zero c some few enough = record { weights = []; number = refl; total = omega (arith, enough); each = All-nil (λ (w : ℕ). IsWeight most w) }
pieces most (suc k) c some few enough =
    go (cases_lt (c - k) most) (λ w s l le keep short. with_first w s l le (pieces most k (c - w) some keep short))
  where
    with_first : (w : ℕ) → 0 < w → w ≤ most → w ≤ c → IsMadeOf most (c - w) k → IsMadeOf most c (suc k)
    with_first w s l le r = record { weights = w ∷ r.weights; number = let n = r.number in omega (arith, n); total = let t = r.total in let c = sum_by-cons (λ (x : ℕ). x) w r.weights in omega (arith, t, c, le); each = All-cons (λ (w : ℕ). IsWeight most w) w r.weights (s, l) r.each }

    go : (c - k < most) ⊎ (most ≤ c - k) → ((w : ℕ) → 0 < w → w ≤ most → w ≤ c → k ≤ c - w → c - w ≤ k * most → IsMadeOf most c (suc k)) → IsMadeOf most c (suc k)
    go (inl x) f = f (c - k) (omega (arith, few)) (omega (arith, x)) (omega arith) (omega (arith, few)) (let t = times_one k most some in omega (arith, t, few))
    go (inr x) f = f most some (omega arith) (omega (arith, x)) (omega (arith, x, few)) (let t = times_more k most in omega (arith, t, enough))

-- the fewest weights of which an amount can be made
abbrev pub least_by : ℕ → ℕ → ℕ
least_by most c = (c + (most - 1)) / most

-- so many are enough
least_enough : (most c : ℕ) → 0 < most → c ≤ least_by most c * most
least_enough most c some = let h = lt-div-mul-add {a = c + (most - 1)} {b = most} some in omega (arith, h, some)

pub enough : (most c k : ℕ) → 0 < most → least_by most c ≤ k → c ≤ k * most
enough most c k some le = let a = least_enough most c some in let b = times_le (least_by most c) k most le in omega (arith, a, b)

-- and not more than the amount
pub least_few : (most c : ℕ) → 0 < most → least_by most c ≤ c
least_few most c some = go (cases_lt c (least_by most c))
  where
    go : (c < least_by most c) ⊎ (least_by most c ≤ c) → least_by most c ≤ c
    go (inr x) = x
    go (inl x) =
        let a = times_le (suc c) (least_by most c) most (omega (arith, x)) in
        let b = times_more c most in
        let d = times_one c most some in
        let q : least_by most c * most ≤ c + (most - 1) = div-mul-le_self (c + (most - 1)) most in
        absurd (omega (arith, a, b, d, q, some))

-- without weights each is one
pub least_one : (c : ℕ) → least_by 1 c ≡ c
least_one c = omega arith
