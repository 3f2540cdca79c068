-- Places that are led one by one to places of another list are no more than these.
use Rattle.std.proofs.Common.{◌≡◌, ◌≢◌, ℕ, zero, suc, ◌+◌, ◌<◌, ◌≤◌, Bool, true, false, cond, eqb, ◌⊎◌, inl, inr, List, [], ◌∷◌, length, count_by, slice_index_or, refl, sym, ap, ◌∙◌, subst, arith, ap₂, eq-eqb, ne_eqb}
use Rattle.std.proofs.lemmas.List.Sums.{sum_by-cons}
use Rattle.std.proofs.lemmas.Bool.{cases_eq}

-- the sum of f over the numbers below n
abbrev pub sum_to : (ℕ → ℕ) → ℕ → ℕ
sum_to f zero = 0
sum_to f (suc n) = sum_to f n + f n

-- f without its value at k
abbrev without : ℕ → (ℕ → ℕ) → ℕ → ℕ
without k f j = cond (eqb j k) 0 (f j)

without-at : (k : ℕ) (f : ℕ → ℕ) → without k f k ≡ 0
without-at k f = ap (λ (b : Bool). cond {A = ℕ} b 0 (f k)) (eq-eqb k k refl)

without-other : (k : ℕ) (f : ℕ → ℕ) (j : ℕ) → j ≢ k → without k f j ≡ f j
without-other k f j d = ap (λ (b : Bool). cond {A = ℕ} b 0 (f j)) (ne_eqb j k d)

-- before the place nothing changes
sum_to-before : (f : ℕ → ℕ) (k m : ℕ) → m ≤ k → sum_to (without k f) m ≡ sum_to f m
sum_to-before f k zero l = refl
sum_to-before f k (suc m) l = ap₂ ◌+◌ (sum_to-before f k m (omega arith)) (without-other k f m (λ h. omega arith))

-- the sum without a value that is in it
sum_to-without : (f : ℕ → ℕ) (k m : ℕ) → k < m → sum_to (without k f) m + f k ≡ sum_to f m
sum_to-without f k zero l = absurd (omega arith)
sum_to-without f k (suc m) l = go (cases_eq k m) (sum_to-without f k m)
  where
    go : (k ≡ m) ⊎ (k ≡ m → ⊥) → (k < m → sum_to (without k f) m + f k ≡ sum_to f m) → sum_to (without k f) (suc m) + f k ≡ sum_to f (suc m)
    go (inl e) step =
        let at : without k f m ≡ 0 = subst (λ z. without k f z ≡ 0) e (without-at k f) in
        let v : f k ≡ f m = ap f e in
        let others = sum_to-before f k m (omega arith) in
        omega arith
    go (inr d) step =
        let r = step (omega arith) in
        let at = without-other k f m (λ h. d (sym h)) in
        omega arith

-- values at places below n that are led to values no less, each to a place of its own below m
pub sum_to-led : (n m : ℕ) (led : ℕ → ℕ) (f g : ℕ → ℕ) → ((j : ℕ) → j < n → led j < m) → ((i j : ℕ) → i < n → j < n → led i ≡ led j → i ≡ j) → ((j : ℕ) → j < n → f j ≤ g (led j)) → sum_to f n ≤ sum_to g m
sum_to-led zero m led f g below apart less = omega arith
sum_to-led (suc n) m led f g below apart less =
    let own = λ (j : ℕ) (l : j < n) (h : led j ≡ led n). let e = apart j n (omega arith) (omega arith) h in let x : ⊥ = omega arith in x in
    let r = sum_to-led n m led f (without (led n) g) (λ j l. below j (omega arith)) (λ i j k l h. apart i j (omega arith) (omega arith) h) (λ j l. subst (λ z. f j ≤ z) (sym (without-other (led n) g (led j) (own j l))) (less j (omega arith))) in
    let s = sum_to-without g (led n) m (below n (omega arith)) in
    let t = less n (omega arith) in
    omega arith

-- the sum with its first value apart
sum_to-first : (f : ℕ → ℕ) (n : ℕ) → sum_to f (suc n) ≡ f 0 + sum_to (λ j. f (suc j)) n
sum_to-first f zero = omega arith
sum_to-first f (suc n) = let r = sum_to-first f n in omega arith

-- how many items pass a test, place by place
pub count_by-places : {A : Type 0} (p : A → Bool) (xs : List A) (d : A) → count_by p xs ≡ sum_to (λ j. cond (p (slice_index_or xs j d)) 1 0) (length xs)
count_by-places p [] d = refl
count_by-places p (x ∷ xs) d =
    let r = count_by-places p xs d in
    let f = sum_to-first (λ j. cond (p (slice_index_or (x ∷ xs) j d)) 1 0) (length xs) in
    let c = sum_by-cons (λ y. cond (p y) 1 0) x xs in
    omega arith

-- all places counted once
pub sum_to-ones : (n : ℕ) → sum_to (λ j. 1) n ≡ n
sum_to-ones zero = refl
sum_to-ones (suc n) = let r = sum_to-ones n in omega arith
