-- What a scan of the kept list says of any list that the bag counts.
use Rattle.std.proofs.Common.{◌≡◌, ℕ, ◌+◌, ◌<◌, ◌≤◌, Bool, true, false, cond, ◌&&◌, eqb, ltb, leb, List, [], ◌∷◌, ◌++◌, IsTrue, All, length, take, get_or, Option, Some, None, refl, sym, ◌∙◌, ap, subst, arith}
use Rattle.std.proofs.lemmas.Grind.{take_at_read}
use Rattle.std.proofs.lemmas.Bool.{ltb-true, ltb-false, eqb-true, eq-eqb, ne_eqb, le-leb, lt-leb, lt-ltb, le-ltb, and_parts, and_from}
use Rattle.cube_view.specs.declared.spot.Spot.{Spot}
use Rattle.cube_view.specs.declared.address.Address.{Address}
use Rattle.cube_view.specs.declared.schema.Schema.{Schema}
use Rattle.cube_view.specs.Points.{Point, spot_of, weight_of_point}
use Rattle.cube_view.specs.Bag.{amount, anywhere, Counts}
use Rattle.cube_view.specs.Places.{is_under, is_below, is_below_from, is_before, label_of}
use Rattle.cube_view.specs.Validity.{sound}
use Rattle.cube_view.proofs.Alike.{Counts-same}
use Rattle.cube_view.proofs.Amounts.{amount-nil, amount-push, amount-gain, amount-skip, gives-yes, gives-no, none-less}
use Rattle.cube_view.proofs.PointWeights.{amount-some, amount-least}
use Rattle.plain_cube.specs.Listed.{bag_of}
use Rattle.plain_cube.specs.Owned.{Counts-own}
use Rattle.cube_view.specs.Found.{IsNextLabel}
use Rattle.plain_cube.specs.Least.{nearer_of, nearer_at}

and_false : (b : Bool) → b && false ≡ false
and_false true = refl
and_false false = refl

pub empty_bag : (items h : List Point) → Counts (bag_of items) (length items) h → length items ≡ 0 → amount anywhere h ≡ 0
empty_bag items [] counts none = amount-nil anywhere
empty_bag items (p ∷ h) counts none = absurd (let n = counts.number in omega (arith, n, none))

pub some_bag : (z : Schema) (items h : List Point) → All (λ p. IsTrue (sound z p)) items → Counts (bag_of items) (length items) h → 0 < length items → 0 < amount anywhere h
some_bag z items h all counts some =
    let e = Counts-same (bag_of items) (length items) h items counts (Counts-own items) anywhere in
    let m = amount-least z items all in
    omega (arith, e, m, some)

module _ (items slice h : List Point) (e : slice ≡ items) (counts : Counts (bag_of items) (length items) h) where
  pub same_count : (p : Spot → Bool) → amount p slice ≡ amount p h
  same_count p = ap (λ (l : List Point). amount p l) e ∙ Counts-same (bag_of items) (length items) items h (Counts-own items) counts p

  pub same_least : (z : Schema) (a : Address) (from : ℕ) (best : Option ℕ) → IsNextLabel z a from best slice → IsNextLabel z a from best h
  same_least z a from None least = sym (same_count (is_below_from z a from)) ∙ least
  same_least z a from (Some l) least = (
    least.0,
    subst (λ n. 0 < n) (same_count (is_below z a l)) least.1,
    λ k low high. sym (same_count (is_below z a k)) ∙ least.2 k low high,
  )

module _ (z : Schema) (a : Address) (points : List Point) (i : ℕ) (d : Point) (lt : i < length points) where
  abbrev here : Spot
  here = spot_of (get_or points i d)

  pub below_some : (label l : ℕ) → All (λ p. 0 < weight_of_point p) points → is_under z a here ≡ true → l ≡ label_of z here a.dim (a.level + 1) → l ≡ label → 0 < amount (is_below z a label) points
  below_some label l all u e same = amount-some (is_below z a label) points i d lt (all i d lt) (and_from _ _ u (eq-eqb _ label (sym e ∙ same)))

  pub below_over : (label : ℕ) → is_under z a here ≡ false → amount (is_below z a label) (take i points) ≡ 0 → amount (is_below z a label) (take (i + 1) points) ≡ 0
  below_over label u none = amount-skip (is_below z a label) points i d lt (ap (λ b. b && eqb (label_of z here a.dim (a.level + 1)) label) u) ∙ none

  pub below_other : (label l : ℕ) → l ≡ label_of z here a.dim (a.level + 1) → (l ≡ label → ⊥) → amount (is_below z a label) (take i points) ≡ 0 → amount (is_below z a label) (take (i + 1) points) ≡ 0
  below_other label l e apart none = amount-skip (is_below z a label) points i d lt (ap (λ b. is_under z a here && b) (ne_eqb _ label (λ same. apart (e ∙ same))) ∙ and_false (is_under z a here)) ∙ none

  pub before_yes : (end w : ℕ) → is_under z a here ≡ true → here.bin < end → w ≡ weight_of_point (get_or points i d) → amount (is_before z a end) (take (i + 1) points) ≡ amount (is_before z a end) (take i points) + w
  before_yes end w u low is = let g = amount-gain (is_before z a end) points i d lt (and_from _ _ u (lt-ltb here.bin end low)) in omega (arith, g, is)

  pub before_over : (end : ℕ) → is_under z a here ≡ false → amount (is_before z a end) (take (i + 1) points) ≡ amount (is_before z a end) (take i points)
  before_over end u = amount-skip (is_before z a end) points i d lt (ap (λ b. b && ltb here.bin end) u)

  pub before_late : (end : ℕ) → end ≤ here.bin → amount (is_before z a end) (take (i + 1) points) ≡ amount (is_before z a end) (take i points)
  before_late end late = amount-skip (is_before z a end) points i d lt (ap (λ b. is_under z a here && b) (le-ltb here.bin end late) ∙ and_false (is_under z a here))

module _ (z : Schema) (a : Address) (from : ℕ) (xs : List Point) (p : Point) (w : 0 < weight_of_point p) where
  abbrev l : ℕ
  l = label_of z (spot_of p) a.dim (a.level + 1)

  below_passes : (k : ℕ) → from ≤ k → (s : Spot) → is_below z a k s ≡ true → is_below_from z a from s ≡ true
  below_passes k low s e =
      let t = and_parts _ _ e in
      let is = eqb-true _ _ t.1 in
      and_from _ _ t.0 (le-leb from _ (omega (arith, is)))

  none_below : amount (is_below_from z a from) xs ≡ 0 → (k : ℕ) → from ≤ k → amount (is_below z a k) xs ≡ 0
  none_below none k low = none-less (is_below z a k) (is_below_from z a from) (below_passes k low) xs none

  -- the test of the new point, where it lies under the address
  below_at : (k : ℕ) → is_under z a (spot_of p) ≡ true → is_below z a k (spot_of p) ≡ eqb l k
  below_at k u = ap (λ b. b && eqb l k) u

  from_at : is_under z a (spot_of p) ≡ true → is_below_from z a from (spot_of p) ≡ leb from l
  from_at u = ap (λ b. b && leb from l) u

  apart_at : (k : ℕ) → is_under z a (spot_of p) ≡ true → (l ≡ k → ⊥) → amount (is_below z a k) xs ≡ 0 → amount (is_below z a k) (xs ++ p ∷ []) ≡ 0
  apart_at k u ne none = let c = amount-push (is_below z a k) xs p in let n = gives-no (is_below z a k) p (below_at k u ∙ ne_eqb l k ne) in omega (arith, c, n, none)

  here_at : is_under z a (spot_of p) ≡ true → 0 < amount (is_below z a l) (xs ++ p ∷ [])
  here_at u = let c = amount-push (is_below z a l) xs p in let n = gives-yes (is_below z a l) p (below_at l u ∙ eq-eqb l l refl) in omega (arith, c, n, w)

  more_at : (k : ℕ) → 0 < amount (is_below z a k) xs → 0 < amount (is_below z a k) (xs ++ p ∷ [])
  more_at k some = let c = amount-push (is_below z a k) xs p in omega (arith, c, some)

  under_not : (q : Spot → Bool) → (q (spot_of p) ≡ false) → amount q (xs ++ p ∷ []) ≡ amount q xs
  under_not q e = let c = amount-push q xs p in let n = gives-no q p e in omega (arith, c, n)

  takes_in : (best : Option ℕ) → is_under z a (spot_of p) ≡ true → IsNextLabel z a from best xs → IsNextLabel z a from (nearer_of best from l) (xs ++ p ∷ [])
  takes_in None u none = elim (ltb l from) as (λ b. ltb l from ≡ b → IsNextLabel z a from (cond b None (Some l)) (xs ++ p ∷ [])) [
    | true ↦ λ e. let lt = ltb-true l from e in let c = amount-push (is_below_from z a from) xs p in let n = gives-no (is_below_from z a from) p (from_at u ∙ lt-leb from l lt) in omega (arith, c, n, none)
    | false ↦ λ e. (ltb-false l from e, here_at u, λ k low high. apart_at k u (λ is. omega (arith, is, high)) (none_below none k low))
  ] refl
  takes_in (Some o) u least = elim (ltb l from) as (λ b. ltb l from ≡ b → IsNextLabel z a from (cond b (Some o) (cond (ltb o l) (Some o) (Some l))) (xs ++ p ∷ [])) [
    | true ↦ λ e. let lt = ltb-true l from e in (least.0, more_at o least.1, λ k low high. apart_at k u (λ is. omega (arith, is, low, lt)) (least.2 k low high))
    | false ↦ λ e. elim (ltb o l) as (λ b. ltb o l ≡ b → IsNextLabel z a from (cond b (Some o) (Some l)) (xs ++ p ∷ [])) [
      | true ↦ λ d. let lt = ltb-true o l d in (least.0, more_at o least.1, λ k low high. apart_at k u (λ is. omega (arith, is, high, lt)) (least.2 k low high))
      | false ↦ λ d. let le = ltb-false o l d in (ltb-false l from e, here_at u, λ k low high. apart_at k u (λ is. omega (arith, is, high)) (least.2 k low (omega (arith, high, le))))
    ] refl
  ] refl

  passes_over : (best : Option ℕ) → is_under z a (spot_of p) ≡ false → IsNextLabel z a from best xs → IsNextLabel z a from best (xs ++ p ∷ [])
  passes_over None u none = under_not (is_below_from z a from) (ap (λ b. b && leb from l) u) ∙ none
  passes_over (Some o) u least = (
    least.0,
    more_at o least.1,
    λ k low high. under_not (is_below z a k) (ap (λ b. b && eqb l k) u) ∙ least.2 k low high,
  )

  pub least_more : (best : Option ℕ) → IsNextLabel z a from best xs → IsNextLabel z a from (nearer_at z a from best (spot_of p)) (xs ++ p ∷ [])
  least_more best least = elim (is_under z a (spot_of p)) as (λ b. is_under z a (spot_of p) ≡ b → IsNextLabel z a from (cond b (nearer_of best from l) best) (xs ++ p ∷ [])) [
    | true ↦ λ u. takes_in best u least
    | false ↦ λ u. passes_over best u least
  ] refl

-- the same for one more point of a list that is gone through
pub least_step : (z : Schema) (a : Address) (from : ℕ) (points : List Point) (i : ℕ) (d : Point) (best next : Option ℕ) → next ≡ nearer_at z a from best (spot_of (get_or points i d)) → i < length points → All (λ p. 0 < weight_of_point p) points → IsNextLabel z a from best (take i points) → IsNextLabel z a from next (take (i + 1) points)
least_step z a from points i d best next is lt all least =
    let more = (take_at_read points i d lt).1 in
    rw (is, more) (least_more z a from (take i points) (get_or points i d) (all i d lt) best least)
