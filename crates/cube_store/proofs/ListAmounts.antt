-- Amounts of a list of points, by the points that pass.
use Rattle.std.proofs.Common.{◌≡◌, ◌<◌, Bool, true, false, All, List, [], ◌∷◌, Contains, sym, ◌∙◌, ap, subst, arith}
use Rattle.cube_view.specs.Bag.{amount}
use Rattle.cube_view.specs.Points.{Point, spot_of, weight_of_point}
use Rattle.cube_view.specs.declared.spot.Spot.{Spot}
use Rattle.cube_view.proofs.Amounts.{amount-nil, amount-cons, gives-no}
use Rattle.cube_view.proofs.FinerWalks.{Contains-cons, Contains-head}
use Rattle.cube_view.proofs.PointWeights.{amount-some}

-- a point of the list that passes and weighs something
pub amount-contained : (q : Spot → Bool) (h : List Point) (p : Point) → Contains h p → 0 < weight_of_point p → q (spot_of p) ≡ true → 0 < amount q h
amount-contained q h p c w e = amount-some q h c.0 p c.1 (subst (λ (r : Point). 0 < weight_of_point r) (sym c.2) w) (ap (λ (r : Point). q (spot_of r)) c.2 ∙ e)

-- no point of the list passes
pub amount-failing : (q : Spot → Bool) (h : List Point) → ((p : Point) → Contains h p → q (spot_of p) ≡ false) → amount q h ≡ 0
amount-failing q [] none = amount-nil q
amount-failing q (p ∷ h) none =
    let rest = amount-failing q h (λ r c. none r (Contains-cons h p r c)) in
    let a = amount-cons q p h in
    let g = gives-no q p (none p (Contains-head h p)) in
    omega (arith, rest, a, g)

-- what holds of all points of a list holds of each that it contains
pub All-contained : (P : Point → Type 0) (h : List Point) (p : Point) → All P h → Contains h p → P p
All-contained P h p all c = subst P c.2 (all c.0 p c.1)
