-- Amounts under two addresses that have the same spots, and under one that has none.
use Rattle.std.proofs.Common.{◌≡◌, ℕ, ◌+◌, Bool, true, false, cond, ◌&&◌, eqb, ◌⊎◌, List, [], ◌∷◌, ◌++◌, Contains, refl, sym, subst, sum_by, ap₂, ◌∙◌}
use Rattle.std.proofs.lemmas.List.{map-append}
use Rattle.std.proofs.lemmas.List.Elements.{Contains-append_cases}
use Rattle.std.proofs.lemmas.List.Sums.{sum_by-cons}
use Rattle.cube_view.specs.Walks.{Walk, SpotPath, under, Under, HasSpot}
use Rattle.cube_view.proofs.FinerWalks.{Contains-cons, Contains-head, iff_same}
use Rattle.node_arena.specs.Amounts.{Weighted, spots_in, amount_under}

-- the sums of two functions that agree
pub sum_by-same : {X : Type 0} (f g : X → ℕ) (xs : List X) → ((x : X) → f x ≡ g x) → sum_by f xs ≡ sum_by g xs
sum_by-same f g [] same = refl
sum_by-same f g (x ∷ xs) same = sum_by-cons f x xs ∙ (ap₂ ◌+◌ (same x) (sum_by-same f g xs same) ∙ sym (sum_by-cons g x xs))

-- a spot of two lists is in one of them
pub spots_in-append_cases : (g h : List Weighted) (q : SpotPath) → Contains (spots_in (g ++ h)) q → Contains (spots_in g) q ⊎ Contains (spots_in h) q
spots_in-append_cases g h q c = Contains-append_cases (spots_in g) (spots_in h) q (subst (λ z. Contains z q) (map-append (λ (x : Weighted). x.spot) g h) c)

-- how much of one counts
abbrev part : Walk → ℕ → Weighted → ℕ
part a bin w = cond (under w.spot a && eqb w.spot.bin bin) w.amount 0

pub amount_along : (h : List Weighted) (a b : Walk) → ((q : SpotPath) → Contains (spots_in h) q → Under q a → Under q b) → ((q : SpotPath) → Contains (spots_in h) q → Under q b → Under q a) → (bin : ℕ) → amount_under h a bin ≡ amount_under h b bin
amount_along [] a b f g bin = refl
amount_along (w ∷ h) a b f g bin =
    let first : under w.spot a ≡ under w.spot b = iff_same (under w.spot a) (under w.spot b) (f w.spot (Contains-head (spots_in h) w.spot)) (g w.spot (Contains-head (spots_in h) w.spot)) in
    sum_by-cons (part a bin) w h
    ∙ (ap₂ (λ (x : Bool) (n : ℕ). cond (x && eqb w.spot.bin bin) w.amount 0 + n) first (amount_along h a b (λ q c. f q (Contains-cons (spots_in h) w.spot q c)) (λ q c. g q (Contains-cons (spots_in h) w.spot q c)) bin)
    ∙ sym (sum_by-cons (part b bin) w h))

pub amount-none : (h : List Weighted) (a : Walk) (bin : ℕ) → (HasSpot (spots_in h) a → ⊥) → amount_under h a bin ≡ 0
amount-none [] a bin none = refl
amount-none (w ∷ h) a bin none =
    sum_by-cons (part a bin) w h
    ∙ (ap₂ (λ (x : Bool) (n : ℕ). cond (x && eqb w.spot.bin bin) w.amount 0 + n) (outside (under w.spot a) refl) (amount-none h a bin (λ s. none (record { spot = s.spot; is_in = Contains-cons (spots_in h) w.spot s.spot s.is_in; lies = s.lies })))
    ∙ refl)
  where
    outside : (t : Bool) → under w.spot a ≡ t → under w.spot a ≡ false
    outside false e = e
    outside true e = absurd (none (record { spot = w.spot; is_in = Contains-head (spots_in h) w.spot; lies = e }))
