-- The rows of a cross table add up.
use Rattle.std.proofs.Common.{◌≡◌, ℕ, zero, suc, ◌+◌, ◌<◌, Bool, true, false, ◌&&◌, eqb, ltb, leb, IsTrue, All, List, [], ◌∷◌, length, get_or, refl, sym, ◌∙◌, ap, subst, arith, add-one, ⊎_elim}
use Rattle.std.specs.List.{list_all, sum_by, AllByRecursion}
use Rattle.std.proofs.Math.Bool.{and-true, and-false}
use Rattle.std.proofs.lemmas.Bool.{and_parts, ltb-true, ltb-false, lt-ltb, le-ltb, leb-true, eq-eqb, ne_eqb, eqb-true, cases_eq}
use Rattle.std.proofs.lemmas.List.Elements.{recursion_from_All}
use Rattle.cube_view.proofs.Amounts.{amount-nil, amount-cons, amount-same, amount-none, amount-split}
use Rattle.cube_view.proofs.OneWeight.{one_if, weigh}
use Rattle.cube_view.proofs.SchemaBounds.{each_in_range, few_categories}
use Rattle.cube_view.specs.Bag.{amount}
use Rattle.cube_view.specs.Limits.{category_in_range, is_between, is_category_name, is_value}
use Rattle.cube_view.specs.Points.{Point, spot_of, weight_of_point}
use Rattle.cube_view.specs.Validity.{sound, fits, is_weight, tile_fits, values_fit}
use Rattle.cube_view.specs.declared.category.Category.{Category}
use Rattle.cube_view.specs.declared.schema.Schema.{Schema}
use Rattle.cube_view.specs.declared.spot.Spot.{Spot}
use Rattle.cross_table.proofs.Pairs.{value_at, has_value, inside_value, box_wide, value_wide}
use Rattle.cross_table.proofs.RowCosts.{cost_more, number_of_values, values_under}
use Rattle.cross_table.specs.Ranking.{total_of_row}
use Rattle.cross_table.specs.Sums.{CrossSum}
use Rattle.cross_table.specs.Verbs.{is_cross}
use Rattle.query_syntax.proofs.ValidParts.{valid_parts}
use Rattle.query_syntax.specs.Boxes.{Box, box, inside, total}
use Rattle.query_syntax.specs.CrossTables.{pair_row, rows_within, cross_rows, values_of_category}
use Rattle.query_syntax.specs.Items.{values_at}
use Rattle.query_syntax.specs.Narrowing.{with_value}
use Rattle.query_syntax.specs.Queries.{is_valid_query, verb_in_range}
use Rattle.query_syntax.specs.Tables.{rows_of_verb, table_rows}
use Rattle.query_syntax.specs.declared.query.Query.{Query}
use Rattle.query_syntax.specs.declared.query.Verb.{Verb}
use Rattle.query_syntax.specs.declared.query.Verb.TheVariants.{Count, Hist, Map, Series, Window, Cross, Best, Stat, Told, Quit}
use Rattle.query_walk.proofs.Addresses.{sum_by-map, sum_by-flat_map}

-- the schema has both categories of a cross table
cross_known : (z : Schema) (k l : ℕ) → verb_in_range z.depth (length z.categories) (Cross k l) ≡ true → (k < length z.categories) × (l < length z.categories)
cross_known z k l range =
    let both = and_parts _ _ (and_parts (ltb k (length z.categories) && ltb l (length z.categories)) _ range).0 in
    (ltb-true _ _ both.0, ltb-true _ _ both.1)

pub cross_valid : (z : Schema) (q : Query) (k l : ℕ) → is_valid_query z q ≡ true → q.verb ≡ Cross k l → (k < length z.categories) × (l < length z.categories)
cross_valid z q k l valid is = cross_known z k l (subst (λ (v : Verb). verb_in_range z.depth (length z.categories) v ≡ true) is (valid_parts z q valid).verb)

-- Values under a number

-- one that is under the next number is under this one or it
under_next : (i : Bool) (x n : ℕ) → one_if (i && ltb x (suc n)) ≡ one_if (i && ltb x n) + one_if (i && eqb x n)
under_next false x n = refl
under_next true x n = ⊎_elim
    (λ (e : x ≡ n). ap one_if (lt-ltb x (suc n) (omega (arith, e))) ∙ sym (λ i. one_if (le-ltb x n (omega (arith, e)) i) + one_if (eq-eqb x n e i)))
    (λ (ne : x ≡ n → ⊥). elim (ltb x n) as (λ t. ltb x n ≡ t → one_if (ltb x (suc n)) ≡ one_if t + one_if (eqb x n)) [
      | true ↦ λ e. let lt = ltb-true x n e in ap one_if (lt-ltb x (suc n) (omega (arith, lt))) ∙ sym (ap (λ b. 1 + one_if b) (ne_eqb x n ne))
      | false ↦ λ e. let le = ltb-false x n e in ap one_if (le-ltb x (suc n) (omega (arith, le, ne))) ∙ sym (ap (λ b. 0 + one_if b) (ne_eqb x n ne))
    ] refl)
    (cases_eq x n)

module _ (z : Schema) (b : Box) (k : ℕ) (h : List Point) (within : k < length b.sets) where
  -- how much the box counts with a value
  abbrev value_total : ℕ → ℕ
  value_total v = total z (with_value b k v) h

  -- how much it counts with a value under n
  abbrev under : ℕ → Spot → Bool
  under n s = inside z b s && ltb (value_at k s) n

  last_value : (n : ℕ) → total z (with_value b k n) h ≡ amount (λ s. inside z b s && has_value k n s) h
  unfolding total
  last_value n = amount-same (inside z (with_value b k n)) (λ s. inside z b s && has_value k n s) (λ s. inside_value z b k n s within) h

  values_added : (n : ℕ) → sum_by value_total (values_under n) ≡ amount (under n) h
  values_added zero = sym (amount-none (under 0) (λ s. ap (λ t. inside z b s && t) (le-ltb (value_at k s) 0 (omega arith)) ∙ and-false (inside z b s)) h)
  values_added (suc n) =
      let more = cost_more value_total n in
      let split = amount-split (under (suc n)) (under n) (λ s. inside z b s && has_value k n s) (λ s. under_next (inside z b s) (value_at k s) n) h in
      sym (ap (λ m. sum_by value_total (values_under m)) (add-one n)) ∙ (more ∙ ((λ i. values_added n i + last_value n i) ∙ sym split))

-- A point that is sound has a value of each category

some_values : (c : Category) → category_in_range c ≡ true → 0 < length c.values
some_values c e =
    let both = and_parts (is_category_name c.name && is_between 1 256 (length c.values)) (list_all is_value c.values) e in
    let count = and_parts (is_category_name c.name) (is_between 1 256 (length c.values)) both.0 in
    let some = leb-true 1 (length c.values) (and_parts (leb 1 (length c.values)) (leb (length c.values) 256) count.1).0 in
    omega (arith, some)

fitting_value : (cs : List Category) (vs : List ℕ) (k : ℕ) → list_all category_in_range cs ≡ true → values_fit cs vs ≡ true → k < length cs → get_or vs k 0 < length (values_at cs k)
fitting_value [] vs k all fit lt = absurd (omega (arith, lt))
fitting_value (c ∷ cs) [] zero all fit lt = some_values c (and_parts (category_in_range c) (list_all category_in_range cs) all).0
fitting_value (c ∷ cs) [] (suc k) all fit lt = fitting_value cs [] k (and_parts (category_in_range c) (list_all category_in_range cs) all).1 refl (omega (arith, lt))
fitting_value (c ∷ cs) (v ∷ vs) zero all fit lt = ltb-true v (length c.values) (and_parts (ltb v (length c.values)) (values_fit cs vs) fit).0
fitting_value (c ∷ cs) (v ∷ vs) (suc k) all fit lt = fitting_value cs vs k (and_parts (category_in_range c) (list_all category_in_range cs) all).1 (and_parts (ltb v (length c.values)) (values_fit cs vs) fit).1 (omega (arith, lt))

sound_value : (z : Schema) (k : ℕ) (x : Point) → k < length z.categories → IsTrue (sound z x) → value_at k (spot_of x) < number_of_values z k
sound_value z k x lt is =
    let s = spot_of x in
    let fit = and_parts (tile_fits z.depth s) (values_fit z.categories s.values) (and_parts (fits z s) (is_weight (weight_of_point x)) is).0 in
    fitting_value z.categories s.values k (each_in_range z) fit.1 lt

-- a test that each point of a list passes changes nothing
none_lost : (p t : Spot → Bool) (h : List Point) → AllByRecursion (λ x. t (spot_of x) ≡ true) h → amount (λ s. p s && t s) h ≡ amount p h
none_lost p t [] all = amount-nil (λ s. p s && t s) ∙ sym (amount-nil p)
none_lost p t (x ∷ h) (here, others) =
    let a = amount-cons (λ s. p s && t s) x h in
    let b = amount-cons p x h in
    let one = ap (λ c. weigh c (weight_of_point x)) (ap (λ c. p (spot_of x) && c) here ∙ and-true (p (spot_of x))) in
    let rest = none_lost p t h others in
    a ∙ ((λ i. one i + rest i) ∙ sym b)

-- what a box counts with each value of a category is together what it counts
pub category_added : (z : Schema) (b : Box) (k : ℕ) (h : List Point) → k < length b.sets → k < length z.categories → All (λ x. IsTrue (sound z x)) h → sum_by (λ v. total z (with_value b k v) h) (values_of_category z k) ≡ total z b h
unfolding total
category_added z b k h within lt all =
    let n = number_of_values z k in
    values_added z b k h within n
    ∙ none_lost (inside z b) (λ s. ltb (value_at k s) n) h (recursion_from_All (λ x. ltb (value_at k (spot_of x)) n ≡ true) h (λ i d below. lt-ltb _ _ (sound_value z k (get_or h i d) lt (all i d below))))

module _ (z : Schema) (q : Query) (k l : ℕ) (h : List Point) (wide : length q.sets ≡ 4) (one : k < length z.categories) (other : l < length z.categories) (all : All (λ x. IsTrue (sound z x)) h) where
  -- the rows within a value add up
  within_added : (v : ℕ) → sum_by total_of_row (rows_within z q h k l v) ≡ total z (with_value (box q) k v) h
  within_added v =
      let few = few_categories z in
      let four = value_wide (box q) k v (box_wide q wide) in
      sum_by-map total_of_row (pair_row z q h k l v) (values_of_category z l)
      ∙ category_added z (with_value (box q) k v) l h (omega (arith, four, few, other)) other all

  rows_added : sum_by total_of_row (cross_rows z q h k l) ≡ total z (box q) h
  unfolding cross_rows
  rows_added =
      let few = few_categories z in
      let four = box_wide q wide in
      sum_by-flat_map total_of_row (rows_within z q h k l) (values_of_category z k)
      ∙ ((λ i. sum_by (λ v. within_added v i) (values_of_category z k))
      ∙ category_added z (box q) k h (omega (arith, four, few, one)) one all)

-- the rows of a verb that asks for a cross table
verb_added : (z : Schema) (q : Query) (h : List Point) (v : Verb) → length q.sets ≡ 4 → All (λ x. IsTrue (sound z x)) h → verb_in_range z.depth (length z.categories) v ≡ true → is_cross v ≡ true
    → sum_by total_of_row (rows_of_verb z q h v) ≡ total z (box q) h
verb_added z q h Count wide all range is = absurd (cc)
verb_added z q h (Hist k) wide all range is = absurd (cc)
verb_added z q h (Map down) wide all range is = absurd (cc)
verb_added z q h (Series from bins rows) wide all range is = absurd (cc)
verb_added z q h (Window rect) wide all range is = absurd (cc)
verb_added z q h (Cross k l) wide all range is = let known = cross_known z k l range in rows_added z q k l h wide known.0 known.1 all
verb_added z q h (Best down rows) wide all range is = absurd (cc)
verb_added z q h Stat wide all range is = absurd (cc)
verb_added z q h Told wide all range is = absurd (cc)
verb_added z q h Quit wide all range is = absurd (cc)

pub rows_add_up : CrossSum
unfolding table_rows
rows_add_up z q h valid is all = let parts = valid_parts z q valid in verb_added z q h q.verb (eqb-true _ _ parts.places) all parts.verb is
