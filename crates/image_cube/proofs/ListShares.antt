-- What a list comes to, shared out among places of which each item has one.
use Rattle.std.proofs.Common.{◌≡◌, ◌⊎◌, inl, inr, ℕ, zero, suc, ◌+◌, ◌<◌, ◌≤◌, Bool, true, false, cond, List, [], ◌∷◌, All, sum_by, refl, ap, ◌∙◌, arith}
use Rattle.std.proofs.lemmas.Bool.{cases_eq}
use Rattle.std.proofs.lemmas.List.Elements.{All-head, All-tail}
use Rattle.std.proofs.lemmas.List.Sums.{sum_by-cons}

-- the sum over the first n numbers
abbrev pub sum_upto : (ℕ → ℕ) → ℕ → ℕ
sum_upto f zero = 0
sum_upto f (suc n) = sum_upto f n + f n

pub upto-le : (f g : ℕ → ℕ) (n : ℕ) → ((i : ℕ) → i < n → f i ≤ g i) → sum_upto f n ≤ sum_upto g n
upto-le f g zero le = omega arith
upto-le f g (suc n) le = let r = upto-le f g n (λ i l. le i (omega (arith, l))) in let o = le n (omega arith) in omega (arith, r, o)

pub upto-same : (f g : ℕ → ℕ) (n : ℕ) → ((i : ℕ) → i < n → f i ≡ g i) → sum_upto f n ≡ sum_upto g n
upto-same f g zero same = refl
upto-same f g (suc n) same = let r = upto-same f g n (λ i l. same i (omega (arith, l))) in let o = same n (omega arith) in omega (arith, r, o)

upto-plus : (f g : ℕ → ℕ) (n : ℕ) → sum_upto (λ i. f i + g i) n ≡ sum_upto f n + sum_upto g n
upto-plus f g zero = refl
upto-plus f g (suc n) = let r = upto-plus f g n in omega (arith, r)

upto-none : (f : ℕ → ℕ) (n : ℕ) → ((i : ℕ) → i < n → f i ≡ 0) → sum_upto f n ≡ 0
upto-none f zero none = refl
upto-none f (suc n) none = let r = upto-none f n (λ i l. none i (omega (arith, l))) in let o = none n (omega arith) in omega (arith, r, o)

upto-one : (f : ℕ → ℕ) (t n : ℕ) → t < n → ((i : ℕ) → i < n → (i ≡ t → ⊥) → f i ≡ 0) → sum_upto f n ≡ f t
upto-one f t zero lt other = absurd (omega (arith, lt))
upto-one f t (suc n) lt other = go (cases_eq n t) (λ l. upto-one f t n l (λ i k ne. other i (omega (arith, k)) ne))
  where
    go : (n ≡ t) ⊎ (n ≡ t → ⊥) → (t < n → sum_upto f n ≡ f t) → sum_upto f (suc n) ≡ f t
    go (inl e) rest =
        let z = upto-none f n (λ i l. other i (omega (arith, l)) (λ x. omega (arith, x, e, l))) in
        let o : f n ≡ f t = ap f e in
        omega (arith, z, o)
    go (inr ne) rest =
        let r = rest (omega (arith, ne, lt)) in
        let o = other n (omega arith) ne in
        omega (arith, r, o)

module _ {X : Type 0} where
  -- an item has one of the first n places
  pub record HasPlace (here : ℕ → X → Bool) (n : ℕ) (x : X) : Type 0 where
    pub place : ℕ
    pub within : place < n
    pub is : here place x ≡ true
    pub only : (i : ℕ) → i < n → here i x ≡ true → i ≡ place

  -- what the items that pass a test come to
  abbrev pub part : (X → Bool) → (X → ℕ) → List X → ℕ
  part p g xs = sum_by (λ x. cond {A = ℕ} (p x) (g x) 0) xs

  pub part-cons : (p : X → Bool) (g : X → ℕ) (x : X) (xs : List X) → part p g (x ∷ xs) ≡ cond {A = ℕ} (p x) (g x) 0 + part p g xs
  part-cons p g x xs = sum_by-cons (λ (x : X). cond {A = ℕ} (p x) (g x) 0) x xs

  pub part-none : (p : X → Bool) (g : X → ℕ) (xs : List X) → ((x : X) → p x ≡ false) → part p g xs ≡ 0
  part-none p g [] none = refl
  part-none p g (x ∷ xs) none =
      let c = part-cons p g x xs in
      let o : cond {A = ℕ} (p x) (g x) 0 ≡ 0 = ap (λ (b : Bool). cond {A = ℕ} b (g x) 0) (none x) in
      let r = part-none p g xs none in
      omega (arith, c, o, r)

  module _ (here : ℕ → X → Bool) (g : X → ℕ) (n : ℕ) where
    own-part : (x : X) → HasPlace here n x → sum_upto (λ i. cond {A = ℕ} (here i x) (g x) 0) n ≡ g x
    own-part x P =
        upto-one (λ i. cond {A = ℕ} (here i x) (g x) 0) P.place n P.within (λ i l ne. none i l ne (here i x) refl)
        ∙ ap (λ (b : Bool). cond {A = ℕ} b (g x) 0) P.is
      where
        none : (i : ℕ) → i < n → (i ≡ P.place → ⊥) → (b : Bool) → here i x ≡ b → cond {A = ℕ} (here i x) (g x) 0 ≡ 0
        none i l ne true e = absurd (ne (P.only i l e))
        none i l ne false e = ap (λ (b : Bool). cond {A = ℕ} b (g x) 0) e

    -- the parts of all places come to the whole
    pub parted : (xs : List X) → All (HasPlace here n) xs → sum_upto (λ i. part (here i) g xs) n ≡ sum_by g xs
    parted [] A = upto-none (λ i. part (here i) g []) n (λ i l. refl)
    parted (x ∷ xs) A =
        let s = upto-same (λ i. part (here i) g (x ∷ xs)) (λ i. cond {A = ℕ} (here i x) (g x) 0 + part (here i) g xs) n (λ i l. part-cons (here i) g x xs) in
        let p = upto-plus (λ i. cond {A = ℕ} (here i x) (g x) 0) (λ i. part (here i) g xs) n in
        let o = own-part x (All-head (HasPlace here n) x xs A) in
        let r = parted xs (All-tail (HasPlace here n) x xs A) in
        let c = sum_by-cons g x xs in
        omega (arith, s, p, o, r, c)
