-- Where items of a list stand that has each of them once.
use Rattle.std.proofs.Common.{◌≡◌, ℕ, zero, suc, ◌+◌, ◌<◌, ◌≤◌, Bool, cond, not, ◌⊎◌, inl, inr, eqb, eq-eqb, ne_eqb, List, [], ◌∷◌, length, get_or, refl, sym, ap, ◌∙◌, arith}
use Rattle.std.proofs.lemmas.Bool.{cases_eq, cases_lt}
use Rattle.cube_image.specs.Order.{order_number}
use Rattle.cube_image.proofs.OwnedHits.{hits, hits-at, StandOnce, few_once}

first-number : (x i : ℕ) (xs : List ℕ) → x ≡ i → order_number (x ∷ xs) i ≡ 0
first-number x i xs e = ap (λ (b : Bool). cond {A = ℕ} (not b) (1 + order_number xs i) 0) (eq-eqb x i e)

next-number : (x i : ℕ) (xs : List ℕ) → (x ≡ i → ⊥) → order_number (x ∷ xs) i ≡ suc (order_number xs i)
next-number x i xs n = ap (λ (b : Bool). cond {A = ℕ} (not b) (1 + order_number xs i) 0) (ne_eqb x i n) ∙ omega arith

first-hits : (x i : ℕ) → x ≡ i → cond {A = ℕ} (eqb x i) 1 0 ≡ 1
first-hits x i e = ap (λ (b : Bool). cond {A = ℕ} b 1 0) (eq-eqb x i e)

next-hits : (x i : ℕ) → (x ≡ i → ⊥) → cond {A = ℕ} (eqb x i) 1 0 ≡ 0
next-hits x i n = ap (λ (b : Bool). cond {A = ℕ} b 1 0) (ne_eqb x i n)

-- an item of the list stands where it is found
pub number-found : (i : ℕ) (xs : List ℕ) → 0 < hits i xs → (order_number xs i < length xs) × (get_or xs (order_number xs i) 0 ≡ i)
number-found i [] some = absurd (omega (arith, some))
number-found i (x ∷ xs) some = go (cases_eq x i) (λ r. number-found i xs r)
  where
    go : (x ≡ i) ⊎ (x ≡ i → ⊥) → (0 < hits i xs → (order_number xs i < length xs) × (get_or xs (order_number xs i) 0 ≡ i)) → (order_number (x ∷ xs) i < length (x ∷ xs)) × (get_or (x ∷ xs) (order_number (x ∷ xs) i) 0 ≡ i)
    go (inl e) rest = let z = first-number x i xs e in (omega (arith, z), ap (λ (n : ℕ). get_or (x ∷ xs) n 0) z ∙ e)
    go (inr n) rest =
        let h = next-hits x i n in
        let r = rest (omega (arith, some, h)) in
        let z = next-number x i xs n in
        let low = r.0 in
        (omega (arith, z, low), ap (λ (n : ℕ). get_or (x ∷ xs) n 0) z ∙ r.1)

-- in a list that has each item once an item is found where it stands
pub found-again : (xs : List ℕ) → ((j : ℕ) → hits j xs ≤ 1) → (k : ℕ) → k < length xs → order_number xs (get_or xs k 0) ≡ k
found-again [] once k lt = absurd (omega (arith, lt))
found-again (x ∷ xs) once zero lt = first-number x x xs refl
found-again (x ∷ xs) once (suc k) lt =
    let some = hits-at xs k 0 (omega (arith, lt)) in
    let o = once (get_or xs k 0) in
    let other : x ≡ get_or xs k 0 → ⊥ = λ e. let h = first-hits x (get_or xs k 0) e in omega (arith, h, o, some) in
    let r = found-again xs (λ j. let p = once j in omega (arith, p)) k (omega (arith, lt)) in
    next-number x (get_or xs k 0) xs other ∙ ap (λ (n : ℕ). suc n) r

-- a list of n numbers below n that has each once has all
pub has-all : (xs : List ℕ) (n : ℕ) → length xs ≡ n → StandOnce n xs → (j : ℕ) → j < n → 0 < hits j xs
has-all xs n size S j lt = go (cases_lt 0 (hits j xs))
  where
    go : (0 < hits j xs) ⊎ (hits j xs ≤ 0) → 0 < hits j xs
    go (inl some) = some
    go (inr none) = let few = few_once (j ∷ xs) n more in absurd (omega (arith, few, size))
      where
        once_in : (q : ℕ) → (j ≡ q) ⊎ (j ≡ q → ⊥) → hits q (j ∷ xs) ≤ 1
        once_in q (inl e) = let h = first-hits j q e in let z : hits q xs ≡ hits j xs = ap (λ (i : ℕ). hits i xs) (sym e) in omega (arith, h, z, none)
        once_in q (inr m) = let h = next-hits j q m in let o = S.once q in omega (arith, h, o)

        below_in : (q : ℕ) → 0 < hits q (j ∷ xs) → (j ≡ q) ⊎ (j ≡ q → ⊥) → q < n
        below_in q some (inl e) = omega (arith, lt, e)
        below_in q some (inr m) = let h = next-hits j q m in S.below q (omega (arith, some, h))

        more : StandOnce n (j ∷ xs)
        more = record { once = λ q. once_in q (cases_eq j q); below = λ q some. below_in q some (cases_eq j q) }
