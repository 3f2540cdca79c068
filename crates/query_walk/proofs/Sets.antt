-- How the values of a category share its spots.
use Rattle.std.proofs.Common.{◌≡◌, ℕ, zero, suc, ◌+◌, ◌-◌, ◌^◌, ◌<◌, ◌≤◌, Bool, true, false, cond, ◌&&◌, eqb, ltb, leb, List, [], ◌∷◌, length, map, drop, get_or, set, Option, Some, None, refl, sym, ◌∙◌, ap, subst, arith, ⊎_elim, add-one}
use Rattle.std.proofs.Math.Bool.{and_assoc, and_comm}
use Rattle.std.proofs.Math.Seq.{drop-nil}
use Rattle.std.proofs.lemmas.List.{get_or-set_same, get_or-set_other, drop_all}
use Rattle.std.proofs.lemmas.Bool.{and_parts, and_from, and_right, eq-eqb, ne_eqb, lt-ltb, le-ltb, cases_eq, cases_lt}
use Rattle.cube_view.proofs.Amounts.{amount-split, amount-same, none-less, amount-none, amount-within}
use Rattle.cube_view.proofs.OneWeight.{one_if}
use Rattle.cube_view.specs.Bag.{anywhere, amount}
use Rattle.cube_view.specs.Places.{in_tile, is_under, is_below, label_of, longer, longer_tile, longer_values, next_dim, agrees, agrees_with, quadrant_at, region_address}
use Rattle.cube_view.specs.Points.{Point}
use Rattle.cube_view.specs.declared.address.Address.{Address}
use Rattle.cube_view.specs.declared.address.Tile.{Tile}
use Rattle.cube_view.specs.declared.schema.Schema.{Schema}
use Rattle.cube_view.specs.declared.spot.Spot.{Spot}
use Rattle.query_syntax.specs.Boxes.{chosen, are_in_sets, inside, box, total}
use Rattle.query_syntax.specs.Items.{HasNoneFrom}
use Rattle.query_syntax.specs.declared.query.Choice.{Choice}
use Rattle.query_syntax.specs.declared.query.Choice.TheVariants.{All, Only}
use Rattle.query_syntax.specs.declared.query.Query.{Query}
use Rattle.query_walk.specs.Walks.{is_in_span, is_under_in, meets_from, is_left, is_left_in_set, are_walkable, IsAtCategory, HasChoicesFrom}
use Rattle.query_walk.proofs.Valid.{AsksFor}

abbrev in_set : List Bool → ℕ → Bool
in_set set x = get_or set x false

abbrev value_of : Spot → ℕ → ℕ
value_of s k = get_or s.values k 0

-- one of those under the address that are left in the set, with a value below v
abbrev pub is_left_below : Schema → Query → Address → ℕ → List Bool → ℕ → Spot → Bool
is_left_below z q a k set v s = is_under z a s && ((in_set set (value_of s k) && ltb (value_of s k) v) && meets_from q (k + 1) s)

-- one of those under the address that have the value v, and are left after it
abbrev is_left_at : Schema → Query → Address → ℕ → ℕ → Spot → Bool
is_left_at z q a k v s = is_under z a s && (eqb (value_of s k) v && meets_from q (k + 1) s)

and_true : (b : Bool) → b && true ≡ b
and_true true = refl
and_true false = refl

-- One value after the other

here : (u r : Bool) → one_if (u && r) ≡ one_if (u && false) + one_if (u && r)
here true true = refl
here true false = refl
here false true = refl
here false false = refl

there : (u r b : Bool) → one_if (u && (b && r)) ≡ one_if (u && (b && r)) + one_if (u && false)
there true true true = refl
there true true false = refl
there true false true = refl
there true false false = refl
there false r b = refl

-- a number that is not the bound lies below it or not, with one more or without
pub below_same : (x v : ℕ) → (x ≡ v → ⊥) → ltb x (v + 1) ≡ ltb x v
below_same x v ne = ⊎_elim
    (λ (lt : x < v). lt-ltb x (v + 1) (omega (arith, lt)) ∙ sym (lt-ltb x v lt))
    (λ (ge : v ≤ x). le-ltb x (v + 1) (omega (arith, ge, ne)) ∙ sym (le-ltb x v ge))
    (cases_lt x v)

-- one value more, where it is in the set
step_yes : (set : List Bool) (x v : ℕ) (u r : Bool) → in_set set v ≡ true → one_if (u && ((in_set set x && ltb x (v + 1)) && r)) ≡ one_if (u && ((in_set set x && ltb x v) && r)) + one_if (u && (eqb x v && r))
step_yes set x v u r is_in = ⊎_elim
    (λ (e : x ≡ v). let s : in_set set x ≡ true = ap (in_set set) e ∙ is_in in
    let F : Bool → Bool → Bool → Bool → Type 0 = λ i j k l. one_if (u && ((i && j) && r)) ≡ one_if (u && ((i && k) && r)) + one_if (u && (l && r)) in
    subst (λ i. F i (ltb x (v + 1)) (ltb x v) (eqb x v)) (sym s) (subst (λ j. F true j (ltb x v) (eqb x v)) (sym (lt-ltb x (v + 1) (omega (arith, e)))) (subst (λ k. F true true k (eqb x v)) (sym (le-ltb x v (omega (arith, e)))) (subst (λ l. F true true false l) (sym (eq-eqb x v e)) (here u r)))))
    (λ (ne : x ≡ v → ⊥).
    let F : Bool → Bool → Type 0 = λ j l. one_if (u && ((in_set set x && j) && r)) ≡ one_if (u && ((in_set set x && ltb x v) && r)) + one_if (u && (l && r)) in
    subst (λ j. F j (eqb x v)) (sym (below_same x v ne)) (subst (λ l. F (ltb x v) l) (sym (ne_eqb x v ne)) (there u r (in_set set x && ltb x v))))
    (cases_eq x v)

-- one value more, where it isn't
step_no : (set : List Bool) (x v : ℕ) → in_set set v ≡ false → (in_set set x && ltb x (v + 1)) ≡ (in_set set x && ltb x v)
step_no set x v is_out = ⊎_elim
    (λ (e : x ≡ v). let s : in_set set x ≡ false = ap (in_set set) e ∙ is_out in ap (λ b. b && ltb x (v + 1)) s ∙ sym (ap (λ b. b && ltb x v) s))
    (λ (ne : x ≡ v → ⊥). ap (λ b. in_set set x && b) (below_same x v ne))
    (cases_eq x v)

-- each member is below an end behind all of them
all_below : (set : List Bool) (x v : ℕ) → HasNoneFrom set v → (in_set set x && ltb x v) ≡ in_set set x
all_below set x v none = ⊎_elim
    (λ (lt : x < v). ap (λ b. in_set set x && b) (lt-ltb x v lt) ∙ and_true (in_set set x))
    (λ (ge : v ≤ x). let out : in_set set x ≡ false = none x ge in ap (λ b. b && ltb x v) out ∙ sym out)
    (cases_lt x v)

-- One category after the other

sets_next : (cs : List Choice) (vs : List ℕ) (k : ℕ) → k < length cs → are_in_sets (map chosen (drop k cs)) (drop k vs) ≡ (chosen (get_or cs k All) (get_or vs k 0) && are_in_sets (map chosen (drop (suc k) cs)) (drop (suc k) vs))
sets_next [] vs k lt = absurd (omega (arith, lt))
sets_next (c ∷ cs) [] zero lt = refl
sets_next (c ∷ cs) (v ∷ vs) zero lt = refl
sets_next (c ∷ cs) [] (suc k) lt = ap (λ (l : List ℕ). are_in_sets (map chosen (drop k cs)) l) (sym (drop-nil k)) ∙ sets_next cs [] k (omega (arith, lt))
sets_next (c ∷ cs) (v ∷ vs) (suc k) lt = sets_next cs vs k (omega (arith, lt))

-- what a spot has to meet at category k and after it
meets_next : (q : Query) (k : ℕ) (s : Spot) (c : Choice) → k < length q.sets → get_or q.sets k All ≡ c → meets_from q k s ≡ (chosen c (value_of s k) && meets_from q (k + 1) s)
meets_next q k s c lt is =
    let more : are_in_sets (map chosen (drop (suc k) q.sets)) (drop (suc k) s.values) ≡ are_in_sets (map chosen (drop (k + 1) q.sets)) (drop (k + 1) s.values) = ap (λ j. are_in_sets (map chosen (drop j q.sets)) (drop j s.values)) (sym (add-one k)) in
    ap (λ b. b && is_in_span q.time s.bin) (sets_next q.sets s.values k lt ∙ (ap (λ (x : Choice). chosen x (value_of s k) && are_in_sets (map chosen (drop (suc k) q.sets)) (drop (suc k) s.values)) is ∙ ap (λ b. chosen c (value_of s k) && b) more))
    ∙ and_assoc (chosen c (value_of s k)) (are_in_sets (map chosen (drop (k + 1) q.sets)) (drop (k + 1) s.values)) (is_in_span q.time s.bin)

-- choices past the categories take every value
open_past : (cs : List Choice) (vs : List ℕ) → are_walkable [] cs ≡ true → are_in_sets (map chosen cs) vs ≡ true
open_past [] vs e = refl
open_past (All ∷ cs) [] e = open_past cs [] e
open_past (All ∷ cs) (v ∷ vs) e = open_past cs vs e
open_past (Only set ∷ cs) vs e = absurd (cc)

-- Addresses of categories

dims : (d k : ℕ) → d ≡ k + 2 → eqb d 1 ≡ false
dims d k e = ne_eqb d 1 (λ (is : d ≡ 1). omega (arith, e, is))

label_is : (z : Schema) (a : Address) (s : Spot) (k : ℕ) → a.dim ≡ k + 2 → label_of z s a.dim (a.level + 1) ≡ value_of s k
label_is z a s k dim =
    let i : a.dim - 2 ≡ k = omega (arith, dim) in
    ap (λ b. cond b (quadrant_at z.depth (a.level + 1) s.x s.y) (get_or s.values (a.dim - 2) 0)) (dims a.dim k dim) ∙ ap (λ j. get_or s.values j 0) i

-- the tests of the values at four places, of which one is new
first_new : (x a b c d : Bool) → a ≡ true → ((x && b) && c) && d ≡ (((a && b) && c) && d) && x
first_new true true b c d e = sym (and_true ((b && c) && d))
first_new false true b c d e = and_comm false ((b && c) && d)
first_new x false b c d e = absurd (cc)

second_new : (x a b c d : Bool) → b ≡ true → ((a && x) && c) && d ≡ (((a && b) && c) && d) && x
second_new x false b c d e = refl
second_new true true true c d e = sym (and_true (c && d))
second_new false true true c d e = and_comm false (c && d)
second_new x true false c d e = absurd (cc)

third_new : (x a b c d : Bool) → c ≡ true → ((a && b) && x) && d ≡ (((a && b) && c) && d) && x
third_new x false b c d e = refl
third_new x true false c d e = refl
third_new true true true true d e = sym (and_true d)
third_new false true true true d e = and_comm false d
third_new x true true false d e = absurd (cc)

fourth_new : (x a b c d : Bool) → d ≡ true → ((a && b) && c) && x ≡ (((a && b) && c) && d) && x
fourth_new x a b c true e = ap (λ t. t && x) (sym (and_true ((a && b) && c)))
fourth_new x a b c false e = absurd (cc)

module _ (os : List (Option ℕ)) (xs : List ℕ) (v : ℕ) (wide : length os ≡ 4) where
  abbrev at : List (Option ℕ) → ℕ → Bool
  at ps i = agrees_with (get_or ps i None) (get_or xs i 0)

  same_at : (k i : ℕ) → (i ≡ k → ⊥) → at (set os k (Some v)) i ≡ at os i
  same_at k i ne = ap (λ (o : Option ℕ). agrees_with o (get_or xs i 0)) (get_or-set_other os k i (Some v) None ne)

  new_at : (k : ℕ) → k < 4 → at (set os k (Some v)) k ≡ eqb (get_or xs k 0) v
  new_at k lt = ap (λ (o : Option ℕ). agrees_with o (get_or xs k 0)) (get_or-set_same os k (Some v) None (omega (arith, wide, lt)))

  open_at : (k : ℕ) → get_or os k None ≡ None → at os k ≡ true
  open_at k none = ap (λ (o : Option ℕ). agrees_with o (get_or xs k 0)) none

  -- values that are open at k, and then v there
  agrees_set : (k : ℕ) → k < 4 → get_or os k None ≡ None → agrees (set os k (Some v)) xs ≡ (agrees os xs && eqb (get_or xs k 0) v)
  agrees_set zero lt none =
      let n = set os 0 (Some v) in
      rw (new_at 0 lt, same_at 0 1 (λ e. omega (arith, e)), same_at 0 2 (λ e. omega (arith, e)), same_at 0 3 (λ e. omega (arith, e))) (first_new (eqb (get_or xs 0 0) v) (at os 0) (at os 1) (at os 2) (at os 3) (open_at 0 none))
  agrees_set (suc zero) lt none =
      rw (new_at 1 lt, same_at 1 0 (λ e. omega (arith, e)), same_at 1 2 (λ e. omega (arith, e)), same_at 1 3 (λ e. omega (arith, e))) (second_new (eqb (get_or xs 1 0) v) (at os 0) (at os 1) (at os 2) (at os 3) (open_at 1 none))
  agrees_set (suc (suc zero)) lt none =
      rw (new_at 2 lt, same_at 2 0 (λ e. omega (arith, e)), same_at 2 1 (λ e. omega (arith, e)), same_at 2 3 (λ e. omega (arith, e))) (third_new (eqb (get_or xs 2 0) v) (at os 0) (at os 1) (at os 2) (at os 3) (open_at 2 none))
  agrees_set (suc (suc (suc zero))) lt none =
      rw (new_at 3 lt, same_at 3 0 (λ e. omega (arith, e)), same_at 3 1 (λ e. omega (arith, e)), same_at 3 2 (λ e. omega (arith, e))) (fourth_new (eqb (get_or xs 3 0) v) (at os 0) (at os 1) (at os 2) (at os 3) (open_at 3 none))
  agrees_set (suc (suc (suc (suc k)))) lt none = absurd (omega (arith, lt))

under_longer : (z : Schema) (a : Address) (k v : ℕ) (s : Spot) → k < 4 → IsAtCategory a k → is_under z (longer a v) s ≡ (is_under z a s && eqb (value_of s k) v)
under_longer z a k v s lt free =
    let e = dims a.dim k free.dim in
    let i : a.dim - 2 ≡ k = omega (arith, free.dim) in
    let tile : longer_tile a.dim a.tile v ≡ a.tile = ap (λ b. cond b (longer_tile 1 a.tile v) a.tile) e in
    let values : longer_values a.dim a.values v ≡ set a.values k (Some v) = ap (λ b. cond b a.values (set a.values (a.dim - 2) (Some v))) e ∙ ap (λ j. set a.values j (Some v)) i in
    ap (λ (t : Tile). in_tile z.depth t s && agrees (longer_values a.dim a.values v) s.values) tile
    ∙ (ap (λ (os : List (Option ℕ)). in_tile z.depth a.tile s && agrees os s.values) values
    ∙ (ap (λ b. in_tile z.depth a.tile s && b) (agrees_set a.values s.values v free.wide k lt (free.open_from k (omega arith)))
    ∙ sym (and_assoc (in_tile z.depth a.tile s) (agrees a.values s.values) (eqb (value_of s k) v))))

-- a spot goes on by a value exactly where it lies under the address that is longer by it
pub below_is_longer : (z : Schema) (a : Address) (k v : ℕ) (s : Spot) → k < 4 → IsAtCategory a k → is_under z (longer a v) s ≡ is_below z a v s
below_is_longer z a k v s lt free = under_longer z a k v s lt free ∙ ap (λ l. is_under z a s && eqb l v) (sym (label_is z a s k free.dim))

-- Amounts of what is left to count

module _ (z : Schema) (q : Query) (a : Address) (k : ℕ) (h : List Point) where
  pub below_none : (set : List Bool) → 0 ≡ amount (is_left_below z q a k set 0) h
  below_none set = sym (amount-none (is_left_below z q a k set 0) (λ s. and_right _ _ (ap (λ b. b && meets_from q (k + 1) s) (and_right _ _ (le-ltb (value_of s k) 0 (omega arith))))) h)

  -- the value, further on
  at_value : (v : ℕ) → k < 4 → IsAtCategory a k → amount (is_left z q (next_dim (longer a v)) (k + 1)) h ≡ amount (is_left_at z q a k v) h
  at_value v lt free = amount-same (is_left z q (next_dim (longer a v)) (k + 1)) (is_left_at z q a k v) (λ s.
      ap (λ b. b && meets_from q (k + 1) s) (under_longer z a k v s lt free)
      ∙ and_assoc (is_under z a s) (eqb (value_of s k) v) (meets_from q (k + 1) s)) h

  -- one value more, where it is in the set
  pub below_yes : (set : List Bool) (v : ℕ) → k < 4 → IsAtCategory a k → in_set set v ≡ true → amount (is_left_below z q a k set (v + 1)) h ≡ amount (is_left_below z q a k set v) h + amount (is_left z q (next_dim (longer a v)) (k + 1)) h
  below_yes set v lt free is_in =
      let e = amount-split (is_left_below z q a k set (v + 1)) (is_left_below z q a k set v) (is_left_at z q a k v) (λ s. step_yes set (value_of s k) v (is_under z a s) (meets_from q (k + 1) s) is_in) h in
      let f = at_value v lt free in
      omega (arith, e, f)

  -- and where it isn't
  pub below_no : (set : List Bool) (v : ℕ) → in_set set v ≡ false → amount (is_left_below z q a k set (v + 1)) h ≡ amount (is_left_below z q a k set v) h
  below_no set v is_out = amount-same (is_left_below z q a k set (v + 1)) (is_left_below z q a k set v) (λ s. ap (λ b. is_under z a s && (b && meets_from q (k + 1) s)) (step_no set (value_of s k) v is_out)) h

  -- all values of the set
  pub below_all : (set : List Bool) (v : ℕ) → HasNoneFrom set v → amount (is_left_below z q a k set v) h ≡ amount (is_left_in_set z q a k set) h
  below_all set v end = amount-same (is_left_below z q a k set v) (is_left_in_set z q a k set) (λ s. ap (λ b. is_under z a s && (b && meets_from q (k + 1) s)) (all_below set (value_of s k) v end)) h

  -- the set of category k
  pub set_left : (set : List Bool) → AsksFor z q.sets k (Only set) → amount (is_left_in_set z q a k set) h ≡ amount (is_left z q a k) h
  set_left set only = amount-same (is_left_in_set z q a k set) (is_left z q a k) (λ s. ap (λ b. is_under z a s && b) (sym (meets_next q k s (Only set) only.within only.choice))) h

  -- any value of category k
  pub any_value : (b : Address) → b ≡ next_dim a → AsksFor z q.sets k All → amount (is_left z q b (k + 1)) h ≡ amount (is_left z q a k) h
  any_value b next all =
      ap (λ (x : Address). amount (is_left z q x (k + 1)) h) next
      ∙ amount-same (is_left z q (next_dim a) (k + 1)) (is_left z q a k) (λ s. ap (λ b. is_under z a s && b) (sym (meets_next q k s All all.within all.choice))) h

  -- nothing below the value
  pub none_at : (v : ℕ) → k < 4 → IsAtCategory a k → amount (is_below z a v) h ≡ 0 → 0 ≡ amount (is_left z q (next_dim (longer a v)) (k + 1)) h
  none_at v lt free none = sym (none-less (is_left z q (next_dim (longer a v)) (k + 1)) (is_below z a v) (λ s e.
      let parts = and_parts _ _ e in
      let under = and_parts _ _ (sym (under_longer z a k v s lt free) ∙ parts.0) in
      and_from _ _ under.0 (ap (λ l. eqb l v) (label_is z a s k free.dim) ∙ under.1)) h none)

  -- where no category is left
  pub time_left : HasChoicesFrom z q k → k ≡ length z.categories → amount (is_under_in z a q.time) h ≡ amount (is_left z q a k) h
  time_left has end = amount-same (is_under_in z a q.time) (is_left z q a k) (λ s.
      let gone : are_walkable [] (drop k q.sets) ≡ true = subst (λ cs. are_walkable cs (drop k q.sets) ≡ true) (drop_all k z.categories (omega (arith, end))) has.choices in
      ap (λ b. is_under z a s && (b && is_in_span q.time s.bin)) (sym (open_past (drop k q.sets) (drop k s.values) gone))) h

regroup : (t c f u : Bool) → (((t && c) && f) && u) ≡ ((t && true) && (c && (f && u)))
regroup true c f u = and_assoc c f u
regroup false c f u = refl

-- the box is what is left to count under its region
pub box_is : (z : Schema) (q : Query) (h : List Point) (a b : Address) → b ≡ region_address q.region → a ≡ next_dim b → amount (is_left z q a 0) h ≡ total z (box q) h
unfolding total inside
box_is z q h a b region next =
    ap (λ (x : Address). amount (is_left z q x 0) h) (next ∙ ap next_dim region)
    ∙ amount-same (is_left z q (next_dim (region_address q.region)) 0) (inside z (box q)) (λ s. sym (regroup (in_tile z.depth q.region s) (are_in_sets (map chosen q.sets) s.values) (leb q.time.from s.bin) (ltb s.bin q.time.to))) h

-- a box is within its region
pub none_in_region : (z : Schema) (q : Query) (h : List Point) → amount (is_under z (region_address q.region)) h ≡ 0 → 0 ≡ total z (box q) h
none_in_region z q h none =
    let within = none-less (is_left z q (next_dim (region_address q.region)) 0) (is_under z (region_address q.region)) (λ s e. (and_parts _ _ e).0) h none in
    sym within ∙ box_is z q h (next_dim (region_address q.region)) (region_address q.region) refl refl

-- and within the bag
pub none_in_bag : (z : Schema) (q : Query) (h : List Point) → amount anywhere h ≡ 0 → 0 ≡ total z (box q) h
none_in_bag z q h none = none_in_region z q h (let le = amount-within (is_under z (region_address q.region)) h in omega (arith, le, none))

-- a sum of amounts of the bag is within the bag's
pub sum_fits : (p : Spot → Bool) (h : List Point) (a b : ℕ) → amount p h ≡ a + b → amount anywhere h < 2 ^ 63 → a + b < 2 ^ 64
sum_fits p h a b e small = let le = amount-within p h in omega (arith, le, e, small)
