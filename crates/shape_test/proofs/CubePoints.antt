-- Slots that fit a schema are a cube of so many points.
use Rattle.std.proofs.Common.{◌≡◌, ◌⊎◌, inl, inr, ℕ, ◌+◌, ◌-◌, ◌<◌, ◌≤◌, Bool, true, false, cond, ◌&&◌, eqb, eq-eqb, nat_le, List, [], ◌∷◌, length, get_or, Option, Some, None, Contains, All, sum, sum_by, refl, sym, ap, ap₂, ◌∙◌, subst, arith}
use Rattle.std.proofs.lemmas.Bool.{cases_lt}
use Rattle.std.proofs.lemmas.List.Elements.{All-nil, All-cons, All-head, All-tail}
use Rattle.std.proofs.lemmas.List.Sums.{sum_by-cons}
use Rattle.cube_view.specs.Paths.{spot_path}
use Rattle.cube_view.specs.Places.{time_dim}
use Rattle.cube_view.specs.Points.{Point, spot_of, weight_of_point, heaviest}
use Rattle.cube_view.specs.Validity.{fits, weight_is_told, valid}
use Rattle.cube_view.specs.Walks.{Walk, SpotPath, under, HasSpot}
use Rattle.cube_view.specs.declared.schema.Schema.{Schema}
use Rattle.cube_view.specs.declared.spot.Spot.{Spot}
use Rattle.cube_view.proofs.FinerWalks.{Contains-cons, Contains-head, Contains-cases}
use Rattle.node_arena.specs.Amounts.{Weighted, spots_in, amount_under}
use Rattle.node_arena.specs.Shape.{home_of, HasShape}
use Rattle.node_arena.specs.Slots.{Slot}
use Rattle.shape_test.proofs.Core.{HasAmounts, one_under, amount-cons}
use Rattle.shape_test.specs.Fits.{bag_sum, slots_bag, Fits}
use Rattle.shape_test.specs.Sizes.{seen_points, IsOfPoints, TellsPoints}
use Rattle.shape_test.proofs.Pieces.{IsWeight, IsMadeOf, pieces, least_by, enough, least_few, least_one}
use Rattle.shape_test.proofs.PathSpots.{HasSpotOf, spot_with}

-- points at a spot with given weights, before others
abbrev points_at : Spot → List ℕ → List Point → List Point
points_at s [] ps = ps
points_at s (w ∷ ws) ps = record { spot = s; weight = w } ∷ points_at s ws ps

length-points : (s : Spot) (ws : List ℕ) (ps : List Point) → length (points_at s ws ps) ≡ length ws + length ps
length-points s [] ps = omega arith
length-points s (w ∷ ws) ps = let r = length-points s ws ps in omega (arith, r)

-- each point is at the spot, and has one of the weights
all_points : (P : Point → Type 0) (Q : ℕ → Type 0) (s : Spot) (ws : List ℕ) (ps : List Point) → ((w : ℕ) → Q w → P (record { spot = s; weight = w })) → All Q ws → All P ps → All P (points_at s ws ps)
all_points P Q s [] ps at A B = B
all_points P Q s (w ∷ ws) ps at A B = All-cons P (record { spot = s; weight = w }) (points_at s ws ps) (at w (All-head Q w ws A)) (all_points P Q s ws ps at (All-tail Q w ws A) B)

-- lists with the same spots, which have the same amounts at each address
pub record AreOneBag (h k : List Weighted) : Type 0 where
  pub forth : (q : SpotPath) → Contains (spots_in h) q → Contains (spots_in k) q
  pub back : (q : SpotPath) → Contains (spots_in k) q → Contains (spots_in h) q
  pub amounts : (a : Walk) (bin : ℕ) → amount_under k a bin ≡ amount_under h a bin

module _ (schema : Schema) where
  points_amount : (s : Spot) (c : ℕ) (ws : List ℕ) (ps : List Point) (a : Walk) (bin : ℕ) → sum ws ≡ c → amount_under (seen_points schema (points_at s ws ps)) a bin ≡ one_under (record { spot = spot_path schema s; amount = c }) a bin + amount_under (seen_points schema ps) a bin
  points_amount s c [] ps a bin e =
      let z : one_under (record { spot = spot_path schema s; amount = c }) a bin ≡ 0 = nothing (under (spot_path schema s) a && eqb s.bin bin) c (sym e) in
      omega (arith, z)
    where
      nothing : (b : Bool) (c : ℕ) → c ≡ 0 → cond {A = ℕ} b c 0 ≡ 0
      nothing true c e = e
      nothing false c e = refl
  points_amount s c (w ∷ ws) ps a bin e =
      let t = amount-cons (record { spot = spot_path schema s; amount = w }) (seen_points schema (points_at s ws ps)) a bin in
      let r = points_amount s (sum ws) ws ps a bin refl in
      let j : one_under (record { spot = spot_path schema s; amount = c }) a bin ≡ one_under (record { spot = spot_path schema s; amount = w }) a bin + one_under (record { spot = spot_path schema s; amount = sum ws }) a bin = joined (under (spot_path schema s) a && eqb s.bin bin) c w (sum ws) (sym e ∙ sum_by-cons (λ (x : ℕ). x) w ws) in
      omega (arith, t, r, j)
    where
      joined : (b : Bool) (c w n : ℕ) → c ≡ w + n → cond {A = ℕ} b c 0 ≡ cond {A = ℕ} b w 0 + cond {A = ℕ} b n 0
      joined true c w n e = e
      joined false c w n e = omega arith

  points_forth : (s : Spot) (ws : List ℕ) (ps : List Point) (q : SpotPath) → Contains (spots_in (seen_points schema ps)) q → Contains (spots_in (seen_points schema (points_at s ws ps))) q
  points_forth s [] ps q c = c
  points_forth s (w ∷ ws) ps q c = Contains-cons (spots_in (seen_points schema (points_at s ws ps))) (spot_path schema s) q (points_forth s ws ps q c)

  points_own : (s : Spot) (ws : List ℕ) (ps : List Point) → 0 < sum ws → Contains (spots_in (seen_points schema (points_at s ws ps))) (spot_path schema s)
  points_own s [] ps some = absurd (omega (arith, some))
  points_own s (w ∷ ws) ps some = Contains-head (spots_in (seen_points schema (points_at s ws ps))) (spot_path schema s)

  points_back : (s : Spot) (ws : List ℕ) (ps : List Point) (q : SpotPath) → Contains (spots_in (seen_points schema (points_at s ws ps))) q → (spot_path schema s ≡ q) ⊎ Contains (spots_in (seen_points schema ps)) q
  points_back s [] ps q c = inr c
  points_back s (w ∷ ws) ps q c = go (Contains-cases (spots_in (seen_points schema (points_at s ws ps))) (spot_path schema s) q c) (λ d. points_back s ws ps q d)
    where
      go : (spot_path schema s ≡ q) ⊎ Contains (spots_in (seen_points schema (points_at s ws ps))) q → (Contains (spots_in (seen_points schema (points_at s ws ps))) q → (spot_path schema s ≡ q) ⊎ Contains (spots_in (seen_points schema ps)) q) → (spot_path schema s ≡ q) ⊎ Contains (spots_in (seen_points schema ps)) q
      go (inl x) rest = inl x
      go (inr d) rest = rest d

  -- points that weigh from 1 to the most each, as many as a size says, have the bag
  pub record AreMade (most : ℕ) (h : List Weighted) (size : ℕ) : Type 0 where
    pub points : List Point
    pub bag : AreOneBag h (seen_points schema points)
    pub number : length points ≡ size
    pub fit : All (λ p. fits schema (spot_of p) ≡ true) points
    pub four : All (λ p. length (spot_of p).values ≡ 4) points
    pub weigh : All (λ p. IsWeight most (weight_of_point p)) points

  module _ (most : ℕ) (some : 0 < most) where
    -- the fewest points of a bag
    abbrev pub least_all : List Weighted → ℕ
    least_all h = sum_by (λ (w : Weighted). least_by most w.amount) h

    least_le : (h : List Weighted) → least_all h ≤ bag_sum h
    least_le [] = omega arith
    least_le (w ∷ h) =
        let a = sum_by-cons (λ (w : Weighted). least_by most w.amount) w h in
        let b = sum_by-cons (λ (w : Weighted). w.amount) w h in
        let f = least_few most w.amount some in
        let r = least_le h in
        omega (arith, a, b, f, r)

    -- k of the points at the first spot
    with_first : (w : Weighted) (h : List Weighted) (size k : ℕ) → HasSpotOf schema w.spot → 0 < w.amount → least_by most w.amount ≤ k → k ≤ w.amount → k ≤ size → AreMade most h (size - k) → AreMade most (w ∷ h) size
    with_first w h size k S heavy low high within R = record {
      points = points_at S.spot M.weights R.points;
      bag = record { forth = forth; back = back; amounts = amounts };
      number = let l = length-points S.spot M.weights R.points in let n = M.number in let m = R.number in omega (arith, l, n, m, within);
      fit = all_points (λ p. fits schema (spot_of p) ≡ true) (λ n. IsWeight most n) S.spot M.weights R.points (λ n x. S.fit) M.each R.fit;
      four = all_points (λ p. length (spot_of p).values ≡ 4) (λ n. IsWeight most n) S.spot M.weights R.points (λ n x. S.four) M.each R.four;
      weigh = all_points (λ p. IsWeight most (weight_of_point p)) (λ n. IsWeight most n) S.spot M.weights R.points (λ n x. x) M.each R.weigh;
    }
      where
        M : IsMadeOf most w.amount k
        M = pieces most k w.amount some high (enough most w.amount k some low)

        forth : (q : SpotPath) → Contains (spots_in (w ∷ h)) q → Contains (spots_in (seen_points schema (points_at S.spot M.weights R.points))) q
        forth q c = go (Contains-cases (spots_in h) w.spot q c)
          where
            go : (w.spot ≡ q) ⊎ Contains (spots_in h) q → Contains (spots_in (seen_points schema (points_at S.spot M.weights R.points))) q
            go (inl e) = subst (Contains (spots_in (seen_points schema (points_at S.spot M.weights R.points)))) (S.is ∙ e) (points_own S.spot M.weights R.points (let t = M.total in omega (arith, t, heavy)))
            go (inr d) = points_forth S.spot M.weights R.points q (R.bag.forth q d)

        back : (q : SpotPath) → Contains (spots_in (seen_points schema (points_at S.spot M.weights R.points))) q → Contains (spots_in (w ∷ h)) q
        back q c = go (points_back S.spot M.weights R.points q c)
          where
            go : (spot_path schema S.spot ≡ q) ⊎ Contains (spots_in (seen_points schema R.points)) q → Contains (spots_in (w ∷ h)) q
            go (inl e) = subst (Contains (spots_in (w ∷ h))) (sym S.is ∙ e) (Contains-head (spots_in h) w.spot)
            go (inr d) = Contains-cons (spots_in h) w.spot q (R.bag.back q d)

        amounts : (a : Walk) (bin : ℕ) → amount_under (seen_points schema (points_at S.spot M.weights R.points)) a bin ≡ amount_under (w ∷ h) a bin
        amounts a bin =
            let p = points_amount S.spot w.amount M.weights R.points a bin M.total in
            let o : one_under (record { spot = spot_path schema S.spot; amount = w.amount }) a bin ≡ one_under w a bin = ap (λ (q : SpotPath). one_under (record { spot = q; amount = w.amount }) a bin) S.is in
            let r = R.bag.amounts a bin in
            let c = amount-cons w h a bin in
            omega (arith, p, o, r, c)

    made : (h : List Weighted) (size : ℕ) → ((q : SpotPath) → Contains (spots_in h) q → HasSpotOf schema q) → HasAmounts h → least_all h ≤ size → size ≤ bag_sum h → AreMade most h size
    made [] size spots heavy low high = record {
      points = [];
      bag = record { forth = λ q c. c; back = λ q c. c; amounts = λ a bin. refl };
      number = omega (arith, high);
      fit = All-nil (λ p. fits schema (spot_of p) ≡ true);
      four = All-nil (λ p. length (spot_of p).values ≡ 4);
      weigh = All-nil (λ p. IsWeight most (weight_of_point p));
    }
    made (w ∷ h) size spots heavy low high = go (cases_lt w.amount (size - least_all h)) (λ k l m. made h (size - k) (λ q c. spots q (Contains-cons (spots_in h) w.spot q c)) (All-tail (λ (w : Weighted). 0 < w.amount) w h heavy) l m)
      where
        a : least_all (w ∷ h) ≡ least_by most w.amount + least_all h
        a = sum_by-cons (λ (w : Weighted). least_by most w.amount) w h

        b : bag_sum (w ∷ h) ≡ w.amount + bag_sum h
        b = sum_by-cons (λ (w : Weighted). w.amount) w h

        S : HasSpotOf schema w.spot
        S = spots w.spot (Contains-head (spots_in h) w.spot)

        first : 0 < w.amount
        first = All-head (λ (w : Weighted). 0 < w.amount) w h heavy

        go : (w.amount < size - least_all h) ⊎ (size - least_all h ≤ w.amount) → ((k : ℕ) → least_all h ≤ size - k → size - k ≤ bag_sum h → AreMade most h (size - k)) → AreMade most (w ∷ h) size
        go (inl x) rest = with_first w h size w.amount S first (least_few most w.amount some) (omega arith) (omega (arith, x)) (rest w.amount (omega (arith, x)) (omega (arith, high, b)))
        go (inr x) rest =
            let c = least_le h in
            with_first w h size (size - least_all h) S first (omega (arith, low, a)) x (omega arith) (rest (size - least_all h) (omega (arith, low, a)) (omega (arith, low, a, c)))

-- a shape is one of the bag alone
shape_over : (dims : ℕ) (slots : List Slot) (homes : List Walk) (h k : List Weighted) → AreOneBag h k → HasShape dims slots homes h → HasShape dims slots homes k
shape_over dims slots homes h k B S = record {
  shaped = record {
    has_homes = S.has_homes;
    has_tables = S.has_tables;
    holds = record {
      needed = λ i e l w. S.holds.needed i e l (turned k h B.back w);
      wanted = λ i e l x. turned h k B.forth (S.holds.wanted i e l x);
      agrees = λ i e l x q c u. S.holds.agrees i e l x q (B.back q c) u;
    };
    counted = record { counts = λ i bin l t. S.counted.counts i bin l t ∙ sym (B.amounts (home_of homes i) bin) };
  };
  shares = S.shares;
  alike = record { lengths = S.alike.lengths; all = S.alike.all; same = λ q c. S.alike.same q (B.back q c) };
}
  where
    turned : (h k : List Weighted) → ((q : SpotPath) → Contains (spots_in h) q → Contains (spots_in k) q) → {a : Walk} → HasSpot (spots_in h) a → HasSpot (spots_in k) a
    turned h k f w = record { spot = w.spot; is_in = f w.spot w.is_in; lies = w.lies }

le_test : (a b : ℕ) → a ≤ b → nat_le a b ≡ true
le_test a b l = grind arith

-- a point of the schema that weighs what it may
is_valid : (schema : Schema) (p : Point) → fits schema (spot_of p) ≡ true → 0 < weight_of_point p → weight_of_point p ≤ heaviest → weight_is_told schema.weight (weight_of_point p) ≡ true → valid schema p ≡ true
is_valid schema p f low high told = ap₂ ◌&&◌ (ap₂ ◌&&◌ f (ap₂ ◌&&◌ (le_test 1 (weight_of_point p) (omega (arith, low))) (le_test (weight_of_point p) heaviest high))) told

module _ (schema : Schema) (slots : List Slot) (size : ℕ) (few : length schema.categories ≤ 4) (F : Fits schema slots size) where
  of_points : (most : ℕ) → most ≤ heaviest → ((w : ℕ) → IsWeight most w → weight_is_told schema.weight w ≡ true) → AreMade schema most (slots_bag schema slots F.homes) size → IsOfPoints schema slots size
  of_points most le told M = record {
    homes = F.homes;
    points = M.points;
    shape = shape_over (time_dim schema) slots F.homes (slots_bag schema slots F.homes) (seen_points schema M.points) M.bag F.cube.cube.shape;
    all_valid = λ i d l. weighs (get_or M.points i d) (M.fit i d l) (M.weigh i d l);
    all_four = M.four;
    number = sym M.number;
    few = F.sized.few;
  }
    where
      weighs : (p : Point) → fits schema (spot_of p) ≡ true → IsWeight most (weight_of_point p) → valid schema p ≡ true
      weighs p f w = is_valid schema p f w.0 (let x = w.1 in omega (arith, x, le)) (told (weight_of_point p) w)

  spots : (q : SpotPath) → Contains (spots_in (slots_bag schema slots F.homes)) q → HasSpotOf schema q
  spots q c = spot_with schema few q (F.cube.cube.lengths q c) (F.cube.labels q c)

  all_ones : (h : List Weighted) → least_all schema 1 (omega arith) h ≡ bag_sum h
  all_ones [] = refl
  all_ones (w ∷ h) =
      let a = sum_by-cons (λ (w : Weighted). least_by 1 w.amount) w h in
      let b = sum_by-cons (λ (w : Weighted). w.amount) w h in
      let o = least_one w.amount in
      let r = all_ones h in
      omega (arith, a, b, o, r)

  pub fit_points : IsOfPoints schema slots size
  fit_points = go schema.weight refl
    where
      go : (o : Option (List ℕ)) → schema.weight ≡ o → IsOfPoints schema slots size
      go None e =
          let s : size ≡ bag_sum (slots_bag schema slots F.homes) = F.sized.unweighted e in
          let o = all_ones (slots_bag schema slots F.homes) in
          of_points 1 (omega arith) (λ w l. ap (λ (z : Option (List ℕ)). weight_is_told z w) e ∙ eq-eqb w 1 (let a = l.0 in let b = l.1 in omega (arith, a, b))) (made schema 1 (omega arith) (slots_bag schema slots F.homes) size spots F.cube.cube.amounts (omega (arith, s, o)) (omega (arith, s)))
      go (Some column) e = of_points heaviest (omega arith) (λ w l. ap (λ (z : Option (List ℕ)). weight_is_told z w) e) (made schema heaviest (omega arith) (slots_bag schema slots F.homes) size spots F.cube.cube.amounts F.sized.least F.sized.most)

pub tells_points : TellsPoints
tells_points schema slots size few F = fit_points schema slots size few F
