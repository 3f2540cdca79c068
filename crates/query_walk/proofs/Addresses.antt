-- The one walk costs no more than the walks to its addresses, one by one.
use Rattle.std.proofs.Common.{◌≡◌, ℕ, zero, suc, ◌+◌, ◌<◌, ◌≤◌, Bool, true, false, cond, ltb, List, [], ◌∷◌, map, take, length, get_or, Option, Some, None, refl, sym, ◌∙◌, ap, subst, arith, add-zero}
use Rattle.std.specs.List.{list_any, sum_by, flat_map}
use Rattle.std.proofs.lemmas.Bool.{and_parts}
use Rattle.std.proofs.lemmas.List.Sums.{sum_by-cons, sum_by-append, sum_by-le-sum_by}
use Rattle.cube_view.specs.Costs.{ViewCosts, has_spot, is_found, cost_if, space_cost, categories_cost, after_space_cost, address_cost}
use Rattle.cube_view.specs.Bag.{amount, anywhere}
use Rattle.cube_view.specs.Places.{longer, next_dim, region_address}
use Rattle.cube_view.specs.Points.{Point}
use Rattle.cube_view.specs.declared.address.Address.{Address}
use Rattle.cube_view.specs.declared.category.Category.{Category}
use Rattle.cube_view.specs.declared.schema.Schema.{Schema}
use Rattle.query_syntax.specs.Addresses.{members_below, asked_values, asked_lists, address_at}
use Rattle.query_syntax.specs.declared.query.Choice.{Choice}
use Rattle.query_syntax.specs.declared.query.Choice.TheVariants.{All, Only}
use Rattle.query_syntax.specs.declared.query.Query.{Query}
use Rattle.query_walk.specs.Costs.{sum_upto, sum_over, rest_cost, choice_value_cost, choices_from, search_cost, region_cost, from_region_cost}
use Rattle.query_walk.specs.Walks.{is_walkable, are_walkable, HasBox}

abbrev pub Values : Type 0
Values = List (Option ℕ)

-- Sums over lists

pub sum_by-map : {A B : Type 0} (f : B → ℕ) (g : A → B) (xs : List A) → sum_by f (map g xs) ≡ sum_by (λ x. f (g x)) xs
sum_by-map f g [] = refl
sum_by-map f g (x ∷ xs) = sum_by-cons f (g x) (map g xs) ∙ (ap (λ n. f (g x) + n) (sum_by-map f g xs) ∙ sym (sum_by-cons (λ y. f (g y)) x xs))

pub sum_by-flat_map : {A B : Type 0} (f : B → ℕ) (g : A → List B) (xs : List A) → sum_by f (flat_map g xs) ≡ sum_by (λ x. sum_by f (g x)) xs
sum_by-flat_map f g [] = refl
sum_by-flat_map f g (x ∷ xs) = sum_by-append f (g x) (flat_map g xs) ∙ (ap (λ n. sum_by f (g x) + n) (sum_by-flat_map f g xs) ∙ sym (sum_by-cons (λ y. sum_by f (g y)) x xs))

-- the asked lists of one choice more
pub lists_more : (F : Values → ℕ) (c : Choice) (cs : List Choice) → sum_by F (asked_lists (c ∷ cs)) ≡ sum_by (λ v. sum_by (λ vs. F (v ∷ vs)) (asked_lists cs)) (asked_values c)
lists_more F c cs = sum_by-flat_map F (λ v. map (λ vs. v ∷ vs) (asked_lists cs)) (asked_values c) ∙ go (asked_values c)
  where
    go : (xs : Values) → sum_by (λ v. sum_by F (map (λ vs. v ∷ vs) (asked_lists cs))) xs ≡ sum_by (λ v. sum_by (λ vs. F (v ∷ vs)) (asked_lists cs)) xs
    go [] = refl
    go (x ∷ xs) =
        sum_by-cons (λ v. sum_by F (map (λ vs. v ∷ vs) (asked_lists cs))) x xs
        ∙ ((λ i. sum_by-map F (λ vs. x ∷ vs) (asked_lists cs) i + go xs i)
        ∙ sym (sum_by-cons (λ v. sum_by (λ vs. F (v ∷ vs)) (asked_lists cs)) x xs))

-- the members of a set, one by one
members_sum : (G : Option ℕ → ℕ) (set : List Bool) (n : ℕ) → sum_by G (members_below set n) ≡ sum_upto (λ v. cond (get_or set v false) (G (Some v)) 0) n
members_sum G set zero = refl
members_sum G set (suc n) = sum_by-append G (members_below set n) (cond (get_or set n false) (Some n ∷ []) []) ∙ (λ i. members_sum G set n i + last (get_or set n false) i)
  where
    last : (b : Bool) → sum_by G (cond b (Some n ∷ []) []) ≡ cond b (G (Some n)) 0
    last true = sum_by-cons G (Some n) [] ∙ add-zero (G (Some n))
    last false = refl

-- the one value of an open choice
open_sum : (G : Option ℕ → ℕ) → sum_by G (asked_values All) ≡ G None
open_sum G = sum_by-cons G None [] ∙ add-zero (G None)

-- Sets that can be walked have a member

abbrev has_member : List Bool → Type 0
has_member set = list_any (λ b. b) set ≡ true

abbrev AllHave : List Choice → Type 0
AllHave cs = (k : ℕ) (set : List Bool) → get_or cs k All ≡ Only set → has_member set

choice_has : (x : Choice) (set : List Bool) → is_walkable x ≡ true → x ≡ Only set → has_member set
choice_has x set e is =
    let only : is_walkable (Only set) ≡ true = subst (λ (y : Choice). is_walkable y ≡ true) is e in
    (and_parts _ (list_any (λ b. b) set) only).1

choices_have : (cs : List Category) (qs : List Choice) → are_walkable cs qs ≡ true → AllHave qs
choices_have cs [] e k set is = absurd (cc)
choices_have [] (All ∷ qs) e zero set is = absurd (cc)
choices_have [] (Only other ∷ qs) e k set is = absurd (cc)
choices_have [] (All ∷ qs) e (suc k) set is = choices_have [] qs e k set is
choices_have (c ∷ cs) (x ∷ qs) e zero set is = choice_has x set (and_parts (is_walkable x) (are_walkable cs qs) e).0 is
choices_have (c ∷ cs) (x ∷ qs) e (suc k) set is = choices_have cs qs (and_parts (is_walkable x) (are_walkable cs qs) e).1 k set is

take_have : (n : ℕ) (qs : List Choice) → AllHave qs → AllHave (take n qs)
take_have zero qs have k set is = absurd (cc)
take_have (suc n) [] have k set is = absurd (cc)
take_have (suc n) (x ∷ qs) have zero set is = have zero set is
take_have (suc n) (x ∷ qs) have (suc k) set is = take_have n qs (λ j s e. have (suc j) s e) k set is

member_at : (set : List Bool) → has_member set → (i : ℕ) × (i < length set) × (get_or set i false ≡ true)
member_at [] e = absurd (cc)
member_at (true ∷ set) e = (0, omega arith, e)
member_at (false ∷ set) e = let rest = member_at set e in let lt = rest.1 in (suc rest.0, omega (arith, lt), rest.2)

-- Sums over a set

module _ (set : List Bool) (c : ℕ) (f g : ℕ → ℕ) (each : (v : ℕ) → c + f v ≤ g v) where
  abbrev low : ℕ → ℕ
  low v = cond (get_or set v false) (f v) 0

  abbrev high : ℕ → ℕ
  high v = cond (get_or set v false) (g v) 0

  low_high : (v : ℕ) → low v ≤ high v
  low_high v = elim (get_or set v false) as (λ (b : Bool). cond b (f v) 0 ≤ cond b (g v) 0) [
    | true ↦ (let e = each v in omega (arith, e))
    | false ↦ omega arith
  ]

  sum_le : (n : ℕ) → sum_upto low n ≤ sum_upto high n
  sum_le zero = omega arith
  sum_le (suc n) = let rest = sum_le n in let here = low_high n in omega (arith, rest, here)

  sum_apart : (n i : ℕ) → i < n → get_or set i false ≡ true → c + sum_upto low n ≤ sum_upto high n
  sum_apart zero i lt is = absurd (omega (arith, lt))
  sum_apart (suc n) i lt is = elim (get_or set n false) as (λ (b : Bool). get_or set n false ≡ b → c + (sum_upto low n + cond b (f n) 0) ≤ sum_upto high n + cond b (g n) 0) [
    | true ↦ λ e. let rest = sum_le n in let here = each n in omega (arith, rest, here)
    | false ↦ λ e. let ne : i ≡ n → ⊥ = λ (same : i ≡ n). (let two : true ≡ false = sym is ∙ (ap (λ j. get_or set j false) same ∙ e) in cc) in let rest = sum_apart n i (omega (arith, lt, ne)) is in omega (arith, rest)
  ] refl

  pub over_apart : has_member set → c + sum_over set f ≤ sum_over set g
  over_apart has = let m = member_at set has in sum_apart (length set) m.0 m.1 m.2

-- Something that each asked list has is within their sum
some_list : (F : Values → ℕ) (c : ℕ) → ((vs : Values) → c ≤ F vs) → (cs : List Choice) → AllHave cs → c ≤ sum_by F (asked_lists cs)
some_list F c le [] have = let e = sum_by-cons F [] [] in let l = le [] in omega (arith, e, l)
some_list F c le (All ∷ cs) have =
    let rest = some_list (λ vs. F (None ∷ vs)) c (λ vs. le (None ∷ vs)) cs (λ k set is. have (suc k) set is) in
    let m = lists_more F All cs in
    let o = open_sum (λ v. sum_by (λ vs. F (v ∷ vs)) (asked_lists cs)) in
    omega (arith, rest, m, o)
some_list F c le (Only set ∷ cs) have =
    let G = λ (v : Option ℕ). sum_by (λ vs. F (v ∷ vs)) (asked_lists cs) in
    let m = lists_more F (Only set) cs in
    let s = members_sum G set (length set) in
    let w = over_apart set c (λ v. 0) (λ v. G (Some v)) (λ v. let rest = some_list (λ vs. F (Some v ∷ vs)) c (λ vs. le (Some v ∷ vs)) cs (λ k more is. have (suc k) more is) in omega (arith, rest)) (have 0 set refl) in
    omega (arith, m, s, w)

module _ (costs : ViewCosts) (z : Schema) (h : List Point) where
  abbrev each_cost : ℕ → Address → Values → ℕ
  each_cost c a vs = c + categories_cost costs z h vs a

  -- what holds of the walk by these choices
  abbrev Within : List Choice → Type 0
  Within cs = (c : ℕ) (a : Address) → c + rest_cost costs z h cs a ≤ sum_by (each_cost c a) (asked_lists cs)

  -- one value of a set, found or not
  value_within : (cs : List Choice) → AllHave cs → Within cs → (c : ℕ) (a : Address) (v : ℕ) (found : Bool) → c + (costs.down_cost a + cost_if found (1 + rest_cost costs z h cs (next_dim (longer a v)))) ≤ sum_by (λ vs. c + (costs.down_cost a + cost_if found (1 + categories_cost costs z h vs (next_dim (longer a v))))) (asked_lists cs)
  value_within cs have within c a v true =
      let rest = within (c + (costs.down_cost a + 1)) (next_dim (longer a v)) in
      let le = sum_by-le-sum_by (each_cost (c + (costs.down_cost a + 1)) (next_dim (longer a v))) (λ vs. c + (costs.down_cost a + (1 + categories_cost costs z h vs (next_dim (longer a v))))) (asked_lists cs) (λ vs. omega arith) in
      omega (arith, rest, le)
  value_within cs have within c a v false = some_list (λ vs. c + (costs.down_cost a + 0)) (c + (costs.down_cost a + 0)) (λ vs. omega arith) cs have

  pub rest_within : (cs : List Choice) → AllHave cs → Within cs
  rest_within [] have c a = let e = sum_by-cons (each_cost c a) [] [] in omega (arith, e)
  rest_within (All ∷ cs) have c a =
      let rest = rest_within cs (λ k set is. have (suc k) set is) (c + 1) (next_dim a) in
      let m = lists_more (each_cost c a) All cs in
      let o = open_sum (λ v. sum_by (λ vs. each_cost c a (v ∷ vs)) (asked_lists cs)) in
      let le = sum_by-le-sum_by (each_cost (c + 1) (next_dim a)) (λ vs. each_cost c a (None ∷ vs)) (asked_lists cs) (λ vs. omega arith) in
      omega (arith, rest, m, o, le)
  rest_within (Only set ∷ cs) have c a =
      let G = λ (v : Option ℕ). sum_by (λ vs. each_cost c a (v ∷ vs)) (asked_lists cs) in
      let later : AllHave cs = λ k more is. have (suc k) more is in
      let m = lists_more (each_cost c a) (Only set) cs in
      let s = members_sum G set (length set) in
      let w = over_apart set c (choice_value_cost costs z h cs a) (λ v. G (Some v)) (λ v. value_within cs later (rest_within cs later) c a v (has_spot z h (longer a v))) (have 0 set refl) in
      omega (arith, m, s, w)

-- Past the categories nothing is asked for
lists_cut : (F : Values → ℕ) (cs : List Category) (qs : List Choice) → are_walkable cs qs ≡ true → sum_by (λ vs. F (take (length cs) vs)) (asked_lists qs) ≡ sum_by F (asked_lists (take (length cs) qs))
lists_cut F [] [] e = refl
lists_cut F [] (All ∷ qs) e =
    lists_more (λ vs. F (take 0 vs)) All qs
    ∙ (open_sum (λ v. sum_by (λ vs. F (take 0 (v ∷ vs))) (asked_lists qs))
    ∙ lists_cut F [] qs e)
lists_cut F [] (Only set ∷ qs) e = absurd (cc)
lists_cut F (c ∷ cs) [] e = refl
lists_cut F (c ∷ cs) (x ∷ qs) e =
    lists_more (λ vs. F (take (length (c ∷ cs)) vs)) x qs
    ∙ ((λ i. sum_by (λ v. lists_cut (λ ws. F (v ∷ ws)) cs qs (and_parts (is_walkable x) (are_walkable cs qs) e).1 i) (asked_values x))
    ∙ sym (lists_more F x (take (length cs) qs)))

-- The whole walk of a query whose box can be walked
module _ (costs : ViewCosts) (z : Schema) (h : List Point) (q : Query) (has : HasBox z q) where
  abbrev cut : List Choice
  cut = take (length z.categories) q.sets

  abbrev from_region : Values → ℕ
  from_region vs = space_cost costs z h q.region q.region.z + cost_if (is_found z h q.region) (after_space_cost costs z h vs q.region)

  have_all : AllHave cut
  have_all = take_have (length z.categories) q.sets (choices_have z.categories q.sets has.choices)

  search_is : search_cost costs z h q ≡ sum_by from_region (asked_lists cut)
  search_is = sum_by-map (address_cost costs z h) (address_at z q.region) (asked_lists q.sets) ∙ lists_cut from_region z.categories q.sets has.choices

  abbrev walk_cost : Bool → Bool → ℕ
  walk_cost found any = space_cost costs z h q.region q.region.z + cost_if found (1 + cost_if any (rest_cost costs z h (choices_from z q 0) (next_dim (region_address q.region))))

  bound : (found any : Bool) → walk_cost found any ≤ sum_by (λ vs. space_cost costs z h q.region q.region.z + cost_if found (1 + cost_if any (categories_cost costs z h vs (next_dim (region_address q.region))))) (asked_lists cut)
  bound false any = some_list (λ vs. space_cost costs z h q.region q.region.z + 0) _ (λ vs. omega arith) cut have_all
  bound true false = some_list (λ vs. space_cost costs z h q.region q.region.z + (1 + 0)) _ (λ vs. omega arith) cut have_all
  bound true true =
      let c = space_cost costs z h q.region q.region.z in
      let a = next_dim (region_address q.region) in
      let rest = rest_within costs z h cut have_all (c + 1) a in
      let le = sum_by-le-sum_by (each_cost costs z h (c + 1) a) (λ vs. c + (1 + categories_cost costs z h vs a)) (asked_lists cut) (λ vs. omega arith) in
      omega (arith, rest, le)

  -- the walk to the region and from there on is within the walks to all addresses
  pub walk_within : region_cost costs z h q + from_region_cost costs z h q ≤ search_cost costs z h q
  walk_within = let b = bound (is_found z h q.region) (ltb 0 (amount anywhere h)) in let e = search_is in omega (arith, b, e)
