-- What a box counts with one value, and with two.
use Rattle.std.proofs.Common.{◌≡◌, ℕ, zero, suc, ◌+◌, ◌<◌, Bool, true, false, ◌&&◌, eqb, leb, ltb, List, [], ◌∷◌, length, cond, get_or, set, refl, sym, ◌∙◌, ap, arith, filter, zero-add}
use Rattle.std.proofs.Math.Bool.{and-true, and-false}
use Rattle.std.proofs.lemmas.List.{length-map, length-set}
use Rattle.cube_view.proofs.Amounts.{amount-nil, amount-cons, amount-same}
use Rattle.cube_view.proofs.OneWeight.{weigh}
use Rattle.cube_view.proofs.SchemaBounds.{few_categories}
use Rattle.cube_view.specs.Bag.{amount, gives}
use Rattle.cube_view.specs.Places.{in_tile}
use Rattle.cube_view.specs.Points.{Point, spot_of, weight_of_point}
use Rattle.cube_view.specs.declared.schema.Schema.{Schema}
use Rattle.cube_view.specs.declared.spot.Spot.{Spot}
use Rattle.cross_table.specs.Values.{IsValue}
use Rattle.query_syntax.proofs.SchemaLimits.{few_values}
use Rattle.query_syntax.proofs.TableLaws.{box_value, box_value_out}
use Rattle.query_syntax.specs.Boxes.{Box, box, chosen, are_in_sets, inside, total}
use Rattle.query_syntax.specs.CrossTables.{pair_total}
use Rattle.query_syntax.specs.Narrowing.{any_value, with_value}
use Rattle.query_syntax.specs.Parts.{with_one_value}
use Rattle.query_syntax.specs.declared.query.Choice.{Choice}
use Rattle.query_syntax.specs.declared.query.Query.{Query}
use Rattle.query_walk.specs.Walks.{HasBox}
use Rattle.query_walk.proofs.OneValue.{chosen_at}

-- Tests in another order

and_behind : (a b c : Bool) → ((a && b) && c) ≡ ((a && c) && b)
and_behind true true true = refl
and_behind true true false = refl
and_behind true false true = refl
and_behind true false false = refl
and_behind false b c = refl

and_apart : (a b c : Bool) → (a && (b && c)) ≡ ((a && b) && c)
and_apart true b c = refl
and_apart false b c = refl

and_last : (t s e a b : Bool) → (((t && (s && e)) && a) && b) ≡ ((((t && s) && a) && b) && e)
and_last false s e a b = refl
and_last true false e a b = refl
and_last true true true a b = sym (and-true (a && b))
and_last true true false a b = sym (and-false (a && b))

-- Of sets one is met with a value: the value in its place is that one

abbrev met_with : List (ℕ → Bool) → ℕ → ℕ → List (ℕ → Bool)
met_with sets k v = set sets k (λ w. get_or sets k any_value w && eqb w v)

sets_met : (sets : List (ℕ → Bool)) (values : List ℕ) (k v : ℕ) → k < length sets → are_in_sets (met_with sets k v) values ≡ (are_in_sets sets values && eqb (get_or values k 0) v)
sets_met [] values k v lt = absurd (omega (arith, lt))
sets_met (s ∷ sets) [] zero v lt = and_behind (s 0) (eqb 0 v) (are_in_sets sets [])
sets_met (s ∷ sets) (w ∷ values) zero v lt = and_behind (s w) (eqb w v) (are_in_sets sets values)
sets_met (s ∷ sets) [] (suc k) v lt = ap (λ b. s 0 && b) (sets_met sets [] k v (omega (arith, lt))) ∙ and_apart (s 0) (are_in_sets sets []) (eqb 0 v)
sets_met (s ∷ sets) (w ∷ values) (suc k) v lt = ap (λ b. s w && b) (sets_met sets values k v (omega (arith, lt))) ∙ and_apart (s w) (are_in_sets sets values) (eqb (get_or values k 0) v)

-- the value of category k at a spot; one that is not there counts as 0
abbrev pub value_at : ℕ → Spot → ℕ
value_at k s = get_or s.values k 0

-- the spot has that value of category k
abbrev pub has_value : ℕ → ℕ → Spot → Bool
has_value k v s = eqb (value_at k s) v

-- a spot is inside a box with a value where it is inside the box and has the value
pub inside_value : (z : Schema) (b : Box) (k v : ℕ) (s : Spot) → k < length b.sets → inside z (with_value b k v) s ≡ (inside z b s && has_value k v s)
unfolding inside
inside_value z b k v s lt =
    ap (λ t. ((in_tile z.depth b.tile s && t) && leb b.from s.bin) && ltb s.bin b.to) (sets_met b.sets s.values k v lt)
    ∙ and_last (in_tile z.depth b.tile s) (are_in_sets b.sets s.values) (has_value k v s) (leb b.from s.bin) (ltb s.bin b.to)

-- Two tests of spots are one test of the points that pass the other

kept_point : (p : Spot → Bool) (x : Point) (h : List Point) (t : Bool) → amount p (cond t (x ∷ h) h) ≡ weigh (p (spot_of x) && t) (weight_of_point x) + amount p h
kept_point p x h true = amount-cons p x h ∙ ap (λ b. weigh b (weight_of_point x) + amount p h) (sym (and-true (p (spot_of x))))
kept_point p x h false = sym (ap (λ b. weigh b (weight_of_point x) + amount p h) (and-false (p (spot_of x))) ∙ zero-add (amount p h))

kept_amount : (p t : Spot → Bool) (h : List Point) → amount (λ s. p s && t s) h ≡ amount p (filter (λ x. t (spot_of x)) h)
kept_amount p t [] = amount-nil (λ s. p s && t s) ∙ sym (amount-nil p)
kept_amount p t (x ∷ h) =
    amount-cons (λ s. p s && t s) x h
    ∙ (ap (λ n. gives (λ s. p s && t s) x + n) (kept_amount p t h) ∙ sym (kept_point p x (filter (λ y. t (spot_of y)) h) (t (spot_of x))))

-- the points of a list that have a value
abbrev pub having : ℕ → ℕ → List Point → List Point
having k v h = filter (λ x. has_value k v (spot_of x)) h

-- a box with a value counts of a list what the box counts of the points with the value
pub total_value : (z : Schema) (b : Box) (k v : ℕ) (h : List Point) → k < length b.sets → total z (with_value b k v) h ≡ total z b (having k v h)
unfolding total
total_value z b k v h lt = amount-same (inside z (with_value b k v)) (λ s. inside z b s && has_value k v s) (λ s. inside_value z b k v s lt) h ∙ kept_amount (inside z b) (has_value k v) h

-- how many sets a box has
pub box_wide : (q : Query) → length q.sets ≡ 4 → length (box q).sets ≡ 4
box_wide q wide = length-map q.sets chosen ∙ wide

pub value_wide : (b : Box) (k v : ℕ) → length b.sets ≡ 4 → length (with_value b k v).sets ≡ 4
value_wide b k v wide = length-set b.sets k _ ∙ wide

-- a value's number is one of a set
pub value_small : (z : Schema) (k v : ℕ) → IsValue z k v → v < 256
value_small z k v known = let few = few_values z k known.0 in let lt = known.1 in omega (arith, few, lt)

module _ (z : Schema) (q : Query) (h : List Point) (k l v w : ℕ) (has : HasBox z q) (first : IsValue z k v) (second : IsValue z l w) where
  -- the points with the second value
  abbrev rest : List Point
  rest = having l w h

  pair_kept : pair_total z q h k l v w ≡ total z (with_value (box q) k v) rest
  pair_kept =
      let four = value_wide (box q) k v (box_wide q has.wide) in
      let few = few_categories z in
      let other = second.0 in
      total_value z (with_value (box q) k v) l w h (omega (arith, four, few, other))

  -- a first value that the query asks for, where its choice was looked up: the query with it alone, and the second
  -- value
  pub pair_asked : (d : Choice) → chosen (get_or q.sets k d) v ≡ true → total z (with_value (box (with_one_value q k v)) l w) h ≡ pair_total z q h k l v w
  pair_asked d found =
      let alone = with_one_value q k v in
      let four = box_wide alone (length-set q.sets k _ ∙ has.wide) in
      let few = few_categories z in
      let one = first.0 in
      let other = second.0 in
      let wide = has.wide in
      let is = chosen_at z q k v d true has one found in
      total_value z (box alone) l w h (omega (arith, four, few, other)) ∙ (sym (box_value z q rest k v (omega (arith, wide, few, one)) (value_small z k v first) is) ∙ sym pair_kept)

  -- another has nothing
  pub pair_not_asked : (d : Choice) → chosen (get_or q.sets k d) v ≡ false → 0 ≡ pair_total z q h k l v w
  pair_not_asked d found = sym (pair_kept ∙ box_value_out z q rest k v (chosen_at z q k v d false has first.0 found))
