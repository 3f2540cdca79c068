-- Slots with homes have one order, and so one image.
use Rattle.std.proofs.Common.{◌≡◌, ℕ, zero, suc, ◌+◌, ◌<◌, ◌≤◌, ◌⊎◌, inl, inr, cond, eqb, Bool, eq-eqb, List, [], ◌∷◌, ◌++◌, length, take, drop, Some, refl, sym, ap, ◌∙◌, subst, arith}
use Rattle.std.proofs.Math.Seq.{drop-append_seam}
use Rattle.std.proofs.lemmas.Bool.{cases_lt}
use Rattle.std.proofs.lemmas.List.{take-append-drop, take-append-le, length-drop}
use Rattle.std.proofs.lemmas.Grind.{flat_map-append}
use Rattle.std.specs.List.{flat_map}
use Rattle.cube_view.specs.Walks.{Step, Walk}
use Rattle.node_arena.specs.Shape.{home_of, HasHomes}
use Rattle.node_arena.specs.Slots.{proper, Slot, link_of}
use Rattle.node_arena.specs.Stats.{AllRising}
use Rattle.cube_image.specs.Bytes.{image_bytes}
use Rattle.cube_image.specs.Conditions.{HasSomeHomes}
use Rattle.cube_image.specs.Image.{IsImageOf}
use Rattle.cube_image.specs.Order.{IsOrder, in_order}
use Rattle.cube_image.proofs.OwnedHits.{hits, hits-append}
use Rattle.cube_image.proofs.OrderFronts.{owned_at, owned}

hits-here : (x : ℕ) (xs : List ℕ) → 0 < hits x (x ∷ xs)
hits-here x xs = let h : cond {A = ℕ} (eqb x x) 1 0 ≡ 1 = ap (λ (b : Bool). cond {A = ℕ} b 1 0) (eq-eqb x x refl) in omega arith

-- what stands in a list after some of its items stands in it after fewer
hits-drop : (j k n : ℕ) (xs : List ℕ) → k ≤ n → hits j (drop n xs) ≤ hits j (drop k xs)
hits-drop j zero zero xs le = omega arith
hits-drop j zero (suc n) [] le = omega arith
hits-drop j zero (suc n) (x ∷ xs) le = let r = hits-drop j zero n xs (omega arith) in omega arith
hits-drop j (suc k) zero xs le = absurd (omega arith)
hits-drop j (suc k) (suc n) [] le = omega arith
hits-drop j (suc k) (suc n) (x ∷ xs) le = hits-drop j k n xs (omega arith)

no_items : (r : List ℕ) → ((j : ℕ) → 0 < hits j r → ⊥) → r ≡ []
no_items [] none = refl
no_items (x ∷ r) none = absurd (none x (hits-here x r))

drop-none : (k : ℕ) (xs : List ℕ) → drop k xs ≡ [] → length xs ≤ k
drop-none k xs e = let d = length-drop k xs in let z = ap length e in omega arith

take-all : (n : ℕ) (xs : List ℕ) → length xs ≤ n → take n xs ≡ xs
take-all zero [] le = refl
take-all zero (x ∷ xs) le = absurd (omega arith)
take-all (suc n) [] le = refl
take-all (suc n) (x ∷ xs) le = ap (λ (ys : List ℕ). x ∷ ys) (take-all n xs (omega arith))

module _ (slots : List Slot) (homes : List Walk) (H : HasHomes slots homes) (R : AllRising slots) where
  -- what some slots own, one of them owns
  owner_in : (j : ℕ) (s : List ℕ) → 0 < hits j (flat_map (owned_at slots) s) → (y : ℕ) × (0 < hits y s) × ((e : Step) × (link_of slots y e ≡ Some (proper j)))
  owner_in j [] some = absurd (omega arith)
  owner_in j (x ∷ s) some = go (owned slots homes H R x j) (λ p. owner_in j s p)
    where
      go : (hits j (owned_at slots x) ≡ 0) ⊎ ((hits j (owned_at slots x) ≡ 1) × ((e : Step) × (link_of slots x e ≡ Some (proper j)))) → (0 < hits j (flat_map (owned_at slots) s) → (y : ℕ) × (0 < hits y s) × ((e : Step) × (link_of slots y e ≡ Some (proper j)))) → (y : ℕ) × (0 < hits y (x ∷ s)) × ((e : Step) × (link_of slots y e ≡ Some (proper j)))
      go (inr a) rest = (x, hits-here x s, a.1)
      go (inl a) rest =
          let sum = hits-append j (owned_at slots x) (flat_map (owned_at slots) s) in
          let w = rest (omega arith) in
          let more = w.1 in
          (w.0, omega arith, w.2)

  -- no slots are owned by some of themselves
  none_left : (r s : List ℕ) → r ≡ flat_map (owned_at slots) s → ((y : ℕ) → hits y s ≤ hits y r) → (m j : ℕ) → length (home_of homes j) < m → 0 < hits j r → ⊥
  none_left r s is part zero j lt some = omega arith
  none_left r s is part (suc m) j lt some =
      let o = owner_in j s (subst (λ (q : List ℕ). 0 < hits j q) is some) in
      let inside = o.1 in
      let within = part o.0 in
      let home : suc (length (home_of homes o.0)) ≡ length (home_of homes j) = ap length (sym (H.at_home o.0 j o.2.0 o.2.1).1) in
      none_left r s is part m o.0 (omega arith) (omega arith)

  parted : (o : List ℕ) (n : ℕ) → flat_map (owned_at slots) o ≡ flat_map (owned_at slots) (take n o) ++ flat_map (owned_at slots) (drop n o)
  parted o n = ap (flat_map (owned_at slots)) (sym (take-append-drop n o)) ∙ flat_map-append (owned_at slots) (take n o) (drop n o)

  -- where the first n places bring in fewer than n, there are no more
  order-short : (o : List ℕ) (n : ℕ) → IsOrder slots o → length (flat_map (owned_at slots) (take n o)) < n → length o ≤ n
  order-short o n O few =
      let k : ℕ = suc (length (flat_map (owned_at slots) (take n o))) in
      let is : o ≡ 0 ∷ (flat_map (owned_at slots) (take n o) ++ flat_map (owned_at slots) (drop n o)) = O ∙ ap (λ (q : List ℕ). 0 ∷ q) (parted o n) in
      let rest : drop (suc (length (flat_map (owned_at slots) (take n o)))) o ≡ flat_map (owned_at slots) (drop n o) =
      ap (drop (suc (length (flat_map (owned_at slots) (take n o))))) is ∙ drop-append_seam (flat_map (owned_at slots) (take n o)) (flat_map (owned_at slots) (drop n o)) in
      let empty = no_items (drop (suc (length (flat_map (owned_at slots) (take n o)))) o) (λ j some. none_left (drop (suc (length (flat_map (owned_at slots) (take n o)))) o) (drop n o) rest (λ y. hits-drop y (suc (length (flat_map (owned_at slots) (take n o)))) n o (omega arith)) (suc (length (home_of homes j))) j (omega arith) some) in
      let l = drop-none (suc (length (flat_map (owned_at slots) (take n o)))) o empty in
      omega arith

  -- where they bring in as many, they say what the first n + 1 are
  order-next : (o : List ℕ) (n : ℕ) → IsOrder slots o → n ≤ length (flat_map (owned_at slots) (take n o)) → take (suc n) o ≡ 0 ∷ take n (flat_map (owned_at slots) (take n o))
  order-next o n O many =
      ap (take (suc n)) (O ∙ ap (λ (q : List ℕ). 0 ∷ q) (parted o n))
      ∙ ap (λ (q : List ℕ). 0 ∷ q) (take-append-le n (flat_map (owned_at slots) (take n o)) (flat_map (owned_at slots) (drop n o)) many)

  order-front : (o p : List ℕ) → IsOrder slots o → IsOrder slots p → (n : ℕ) → take n o ≡ take n p
  order-front o p O P zero = refl
  order-front o p O P (suc n) = go (cases_lt (length (flat_map (owned_at slots) (take n o))) n) (order-front o p O P n)
    where
      go : (length (flat_map (owned_at slots) (take n o)) < n) ⊎ (n ≤ length (flat_map (owned_at slots) (take n o))) → take n o ≡ take n p → take (suc n) o ≡ take (suc n) p
      go (inr many) same =
          order-next o n O many
          ∙ (ap (λ (q : List ℕ). 0 ∷ take n (flat_map (owned_at slots) q)) same
          ∙ sym (order-next p n P (subst (λ (q : List ℕ). n ≤ length (flat_map (owned_at slots) q)) same many)))
      go (inl few) same =
          let a = order-short o n O few in
          let b = order-short p n P (subst (λ (q : List ℕ). length (flat_map (owned_at slots) q) < n) same few) in
          take-all (suc n) o (omega arith) ∙ (sym (take-all n o a) ∙ (same ∙ (take-all n p b ∙ sym (take-all (suc n) p (omega arith)))))

  pub one_order : (o p : List ℕ) → IsOrder slots o → IsOrder slots p → o ≡ p
  one_order o p O P =
      sym (take-all (length o + length p) o (omega arith))
      ∙ (order-front o p O P (length o + length p) ∙ take-all (length o + length p) p (omega arith))

-- slots with homes have one image
pub one_image : (slots : List Slot) → HasSomeHomes slots → AllRising slots → (size : ℕ) (bytes again : List ℕ) → IsImageOf slots size bytes → IsImageOf slots size again → bytes ≡ again
one_image slots h R size bytes again B A =
    B.text ∙ (ap (λ (places : List ℕ). image_bytes size (in_order slots places)) (one_order slots h.homes h.has_homes R B.places A.places B.ordered A.ordered) ∙ sym A.text)
