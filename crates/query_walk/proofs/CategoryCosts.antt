-- The cost of the one walk, category by category.
use Rattle.std.proofs.Common.{◌≡◌, ℕ, suc, ◌+◌, ◌<◌, ◌≤◌, Bool, true, false, cond, ltb, List, [], ◌∷◌, take, drop, length, get_or, sym, ◌∙◌, ap, arith, add-one, drop-cons}
use Rattle.std.proofs.lemmas.Bool.{lt-ltb}
use Rattle.std.proofs.lemmas.List.{get_or-take, length-take, drop_all}
use Rattle.cube_view.proofs.Amounts.{amount-same}
use Rattle.cube_view.proofs.StepCosts.{cost_if-true}
use Rattle.cube_view.specs.Bag.{amount, anywhere}
use Rattle.cube_view.specs.Costs.{ViewCosts, has_spot}
use Rattle.cube_view.specs.Places.{is_below, is_under, longer, next_dim, region_address}
use Rattle.cube_view.specs.Points.{Point}
use Rattle.cube_view.specs.declared.address.Address.{Address}
use Rattle.cube_view.specs.declared.address.Tile.{Tile}
use Rattle.cube_view.specs.declared.schema.Schema.{Schema}
use Rattle.query_syntax.specs.declared.query.Choice.{Choice}
use Rattle.query_syntax.specs.declared.query.Choice.TheVariants.{All, Only}
use Rattle.query_syntax.specs.declared.query.Query.{Query}
use Rattle.query_walk.specs.Costs.{choices_from, onward_cost, rest_cost, sum_upto, two_totals, choice_value_cost, value_walk_cost, walk_cost}
use Rattle.query_walk.specs.Walks.{IsAtCategory}
use Rattle.query_walk.proofs.Sets.{below_is_longer}
use Rattle.query_walk.proofs.Sums.{sum_over-within}
use Rattle.query_walk.proofs.Valid.{AsksFor}

-- the choice of a category, and those after it
pub next_choice : (z : Schema) (q : Query) (k : ℕ) {c : Choice} → AsksFor z q.sets k c → choices_from z q k ≡ c ∷ choices_from z q (k + 1)
next_choice z q k {c = c} asks =
    let n = length z.categories in
    let lt = asks.category in
    let within = asks.within in
    let long = length-take n q.sets in
    let first = drop-cons (take n q.sets) k All (omega (arith, long, lt, within)) in
    let here : get_or (take n q.sets) k All ≡ c = get_or-take n q.sets k All lt ∙ asks.choice in
    first ∙ ((λ i. here i ∷ drop (suc k) (take n q.sets)) ∙ ap (λ j. c ∷ drop j (take n q.sets)) (sym (add-one k)))

-- past the categories there are none
pub no_choices : (z : Schema) (q : Query) (k : ℕ) → k ≡ length z.categories → choices_from z q k ≡ []
no_choices z q k end = let long = length-take (length z.categories) q.sets in drop_all k (take (length z.categories) q.sets) (omega (arith, long, end))

module _ (costs : ViewCosts) (z : Schema) (h : List Point) where
  -- a value that is found
  pub value_walk_is : (end : Address → ℕ) (cs : List Choice) (a : Address) (k v : ℕ) → k < 4 → IsAtCategory a k → 0 < amount (is_below z a v) h → value_walk_cost costs z h end cs a v ≡ costs.down_cost a + (1 + walk_cost costs z h end cs (next_dim (longer a v)))
  value_walk_is end cs a k v lt free some =
      let same = amount-same (is_under z (longer a v)) (is_below z a v) (λ s. below_is_longer z a k v s lt free) h in
      let has : has_spot z h (longer a v) ≡ true = lt-ltb 0 _ (omega (arith, same, some)) in
      ap (λ (n : ℕ). costs.down_cost a + n) (cost_if-true (has_spot z h (longer a v)) (1 + walk_cost costs z h end cs (next_dim (longer a v))) has)

  -- the same, of the walk of a total
  pub value_is : (cs : List Choice) (a : Address) (k v : ℕ) → k < 4 → IsAtCategory a k → 0 < amount (is_below z a v) h → choice_value_cost costs z h cs a v ≡ costs.down_cost a + (1 + rest_cost costs z h cs (next_dim (longer a v)))
  value_is cs a k v lt free some = value_walk_is (two_totals costs z h) cs a k v lt free some

  -- the values under n of a set of category k take no more than all that is left there
  pub set_within : (end : Address → ℕ) (q : Query) (a : Address) (k : ℕ) (set : List Bool) (n : ℕ) → AsksFor z q.sets k (Only set) → n ≤ length set → sum_upto (λ v. cond (get_or set v false) (value_walk_cost costs z h end (choices_from z q (k + 1)) a v) 0) n ≤ walk_cost costs z h end (choices_from z q k) a
  set_within end q a k set n only le =
      let all = ap (λ cs. walk_cost costs z h end cs a) (next_choice z q k only) in
      let within = sum_over-within set (value_walk_cost costs z h end (choices_from z q (k + 1)) a) n le in
      omega (arith, all, within)

  -- the walk from a tile on, where the step across finds something
  pub onward_is : (q : Query) (t : Tile) → 0 < amount anywhere h → onward_cost costs z h q t ≡ 1 + rest_cost costs z h (choices_from z q 0) (next_dim (region_address t))
  onward_is q t some = ap (λ (n : ℕ). 1 + n) (cost_if-true (ltb 0 (amount anywhere h)) (rest_cost costs z h (choices_from z q 0) (next_dim (region_address t))) (lt-ltb 0 _ some))
