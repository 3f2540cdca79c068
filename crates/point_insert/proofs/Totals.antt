-- A time table whose counts are those of a list has the list's total.
use Rattle.std.proofs.Common.{◌≡◌, ◌⊎◌, inl, inr, ℕ, ◌+◌, ◌<◌, Bool, true, false, cond, T, List, [], ◌∷◌, None, unwrap_or, sum_by, eqb, refl, sym, ap, ◌∙◌, subst, arith, nat_cmp}
use Rattle.std.specs.FinMap.{entries, entries_sorted, get-entries, find, is_sorted}
use Rattle.std.specs.FinMap.Entries.{below_all}
use Rattle.std.proofs.lemmas.Bool.{cases_order, eq-eqb, ne_eqb, eqb-true}
use Rattle.std.proofs.lemmas.List.Sums.{sum_by-cons, sum-map}
use Rattle.time_table.specs.Counts.{BinCounts, count_of, total_count}
use Rattle.time_table.proofs.Entries.{find_here, find_later, find_before}
use Rattle.time_table.proofs.KeySums.{first_part, second_part, below}

abbrev count_at : ℕ → List (ℕ × ℕ) → ℕ
count_at k es = unwrap_or (find nat_cmp k es) 0

module _ {X : Type 0} (key w : X → ℕ) where
  -- what an item adds at a key
  abbrev pub adds_at : ℕ → X → ℕ
  adds_at k x = cond (eqb (key x) k) (w x) 0

  -- the items of other keys
  abbrev others : ℕ → List X → List X
  others k [] = []
  others k (x ∷ xs) = cond (eqb (key x) k) (others k xs) (x ∷ others k xs)

  here_and_others : (k : ℕ) (xs : List X) → sum_by w xs ≡ sum_by (adds_at k) xs + sum_by w (others k xs)
  here_and_others k [] = refl
  here_and_others k (x ∷ xs) = go (eqb (key x) k) refl (here_and_others k xs)
    where
      go : (t : Bool) → eqb (key x) k ≡ t → sum_by w xs ≡ sum_by (adds_at k) xs + sum_by w (others k xs) → sum_by w (x ∷ xs) ≡ sum_by (adds_at k) (x ∷ xs) + sum_by w (cond t (others k xs) (x ∷ others k xs))
      go true e r =
          let a = sum_by-cons w x xs in let b = sum_by-cons (adds_at k) x xs in
          let z : adds_at k x ≡ w x = ap (λ (t : Bool). cond t (w x) 0) e in omega (arith, a, b, r, z)
      go false e r =
          let a = sum_by-cons w x xs in let b = sum_by-cons (adds_at k) x xs in let c = sum_by-cons w x (others k xs) in
          let z : adds_at k x ≡ 0 = ap (λ (t : Bool). cond t (w x) 0) e in omega (arith, a, b, c, r, z)

  none_here : (k : ℕ) (xs : List X) → sum_by (adds_at k) (others k xs) ≡ 0
  none_here k [] = refl
  none_here k (x ∷ xs) = go (eqb (key x) k) refl (none_here k xs)
    where
      go : (t : Bool) → eqb (key x) k ≡ t → sum_by (adds_at k) (others k xs) ≡ 0 → sum_by (adds_at k) (cond t (others k xs) (x ∷ others k xs)) ≡ 0
      go true e r = r
      go false e r =
          let a = sum_by-cons (adds_at k) x (others k xs) in
          let z : adds_at k x ≡ 0 = ap (λ (t : Bool). cond t (w x) 0) e in omega (arith, a, r, z)

  others_stay : (k q : ℕ) (xs : List X) → (q ≡ k → ⊥) → sum_by (adds_at q) (others k xs) ≡ sum_by (adds_at q) xs
  others_stay k q [] n = refl
  others_stay k q (x ∷ xs) n = go (eqb (key x) k) refl (others_stay k q xs n)
    where
      go : (t : Bool) → eqb (key x) k ≡ t → sum_by (adds_at q) (others k xs) ≡ sum_by (adds_at q) xs → sum_by (adds_at q) (cond t (others k xs) (x ∷ others k xs)) ≡ sum_by (adds_at q) (x ∷ xs)
      go true e r =
          let f : eqb (key x) q ≡ false = ne_eqb (key x) q (λ y. n (sym y ∙ eqb-true (key x) k e)) in
          let a = sum_by-cons (adds_at q) x xs in
          let z : adds_at q x ≡ 0 = ap (λ (t : Bool). cond t (w x) 0) f in omega (arith, a, r, z)
      go false e r =
          let a = sum_by-cons (adds_at q) x xs in let b = sum_by-cons (adds_at q) x (others k xs) in omega (arith, a, b, r)

  nothing_at : (xs : List X) → ((q : ℕ) → 0 ≡ sum_by (adds_at q) xs) → 0 ≡ sum_by w xs
  nothing_at [] none = refl
  nothing_at (x ∷ xs) none =
      let a = sum_by-cons w x xs in
      let b = sum_by-cons (adds_at (key x)) x xs in
      let z : adds_at (key x) x ≡ w x = ap (λ (t : Bool). cond t (w x) 0) (eq-eqb (key x) (key x) refl) in
      let h = none (key x) in
      let r = nothing_at xs (λ q. let c = sum_by-cons (adds_at q) x xs in let n = none q in omega (arith, c, n)) in
      omega (arith, a, b, z, h, r)

  all_at : (es : List (ℕ × ℕ)) (xs : List X) → T (is_sorted nat_cmp es) → ((q : ℕ) → count_at q es ≡ sum_by (adds_at q) xs) → sum_by (λ (e : ℕ × ℕ). e.1) es ≡ sum_by w xs
  all_at [] xs sorted same = nothing_at xs same
  all_at (e ∷ es) xs sorted same =
      let here : e.1 ≡ sum_by (adds_at e.0) xs = sym (ap (λ o. unwrap_or o 0) (find_here e.0 e.0 e.1 es refl)) ∙ same e.0 in
      let rest : sum_by (λ (e : ℕ × ℕ). e.1) es ≡ sum_by w (others e.0 xs) = all_at es (others e.0 xs) (second_part _ _ sorted) (λ q. later q (cases_order q e.0)) in
      let split = here_and_others e.0 xs in
      let c = sum_by-cons (λ (e : ℕ × ℕ). e.1) e es in
      omega (arith, here, rest, split, c)
    where
      none : find nat_cmp e.0 es ≡ None
      none = itself es (first_part _ _ sorted)
        where
          itself : (ys : List (ℕ × ℕ)) → T (below_all nat_cmp e.0 ys) → find nat_cmp e.0 ys ≡ None
          itself [] h = refl
          itself (y ∷ ys) h = let less : e.0 < y.0 = below e.0 y.0 (first_part _ _ h) in find_before e.0 y.0 y.1 ys less ∙ itself ys (second_part _ _ h)

      later : (q : ℕ) → (q ≡ e.0) ⊎ ((q < e.0) ⊎ (e.0 < q)) → count_at q es ≡ sum_by (adds_at q) (others e.0 xs)
      later q (inl x) = subst (λ z. count_at z es ≡ sum_by (adds_at z) (others e.0 xs)) (sym x) (ap (λ o. unwrap_or o 0) none ∙ sym (none_here e.0 xs))
      later q (inr (inl x)) = sym (ap (λ o. unwrap_or o 0) (find_before q e.0 e.1 es x)) ∙ (same q ∙ sym (others_stay e.0 q xs (λ y. omega (arith, x, y))))
      later q (inr (inr x)) = sym (ap (λ o. unwrap_or o 0) (find_later q e.0 e.1 es x)) ∙ (same q ∙ sym (others_stay e.0 q xs (λ y. omega (arith, x, y))))

  -- the total of a table whose counts are the sums of a list's items
  pub total_count-sums : (m : BinCounts) (xs : List X) → ((q : ℕ) → count_of m q ≡ sum_by (adds_at q) xs) → total_count m ≡ sum_by w xs
  total_count-sums m xs same =
      sum-map (λ (e : ℕ × ℕ). e.1) (entries m)
      ∙ all_at (entries m) xs (entries_sorted m) (λ q. sym (ap (λ o. unwrap_or o 0) (get-entries m q)) ∙ same q)
