-- What the count of one value costs in a cube of the schema of kinds, by the number of its bins.
use Rattle.std.proofs.Common.{◌≡◌, ℕ, zero, suc, ◌+◌, ◌*◌, ◌≤◌, Bool, true, false, cond, ltb, IsTrue, All, List, [], ◌∷◌, Option, Some, None, slice_index_or, refl, sym, subst, arith, lit<}
use Rattle.probe_core.specs.Bits.{bits}
use Rattle.probe_core.proofs.BitLaws.{bits-mono}
use Rattle.cube_view.specs.Bag.{amount, anywhere}
use Rattle.cube_view.specs.Costs.{ViewCosts, has_spot, address_cost}
use Rattle.cube_view.specs.Places.{longer}
use Rattle.cube_view.specs.Points.{Point}
use Rattle.cube_view.specs.declared.address.Address.{Address}
use Rattle.cube_view.specs.declared.address.Tile.{Tile}
use Rattle.cube_view.specs.declared.schema.Schema.{Schema}
use Rattle.example_schemas.specs.Examples.{kinds}
use Rattle.query_syntax.specs.Queries.{is_valid_query}
use Rattle.query_syntax.specs.declared.query.Query.{Query}
use Rattle.query_walk.specs.Costs.{search_cost}
use Rattle.cube_callers.specs.Records.{count_of_a, IsFew}
use Rattle.cube_store.specs.BagCosts.{bag_costs, bins_under, labels_below}
use Rattle.cube_store.specs.Holding.{BoundsBagCosts}
use Rattle.cube_store.specs.Reading.{IsWalkAddress}

abbrev everywhere : Tile
everywhere = record { z = 0; x = 0; y = 0 }

-- where the value is asked for, and where its records are counted
abbrev at_kind : Address
at_kind = record { dim = 2; level = 0; tile = everywhere; values = None ∷ None ∷ None ∷ None ∷ [] }

abbrev at_time : Address
at_time = record { dim = 3; level = 0; tile = everywhere; values = Some 0 ∷ None ∷ None ∷ None ∷ [] }

count_is : IsTrue (is_valid_query kinds count_of_a)
unfolding is_valid_query
count_is = refl

pub count_valid : (z : Schema) (q : Query) → z ≡ kinds → q ≡ count_of_a → IsTrue (is_valid_query z q)
count_valid z q e f = subst (λ (y : Schema). IsTrue (is_valid_query y q)) (sym e) (subst (λ (p : Query). IsTrue (is_valid_query kinds p)) (sym f) count_is)

abbrev later : List (Option ℕ)
later = None ∷ None ∷ None ∷ []

open_from : (k : ℕ) → slice_index_or later k None ≡ None
open_from zero = refl
open_from (suc zero) = refl
open_from (suc (suc zero)) = refl
open_from (suc (suc (suc k))) = refl

pub walked : IsWalkAddress kinds at_time
walked = record {
  placed = record {
    dim = (omega arith, omega arith);
    level = omega arith;
    space = λ e. absurd (omega (arith, e));
    depth = omega arith;
    tile = (lit< tt, lit< tt);
  };
  four = refl;
  beyond = record { past = open_past; later = open_later };
  fresh = λ two none. refl;
}
  where
    open_past : (k : ℕ) → 1 ≤ k → slice_index_or at_time.values k None ≡ None
    open_past zero le = absurd (omega (arith, le))
    open_past (suc k) le = open_from k

    open_later : (k : ℕ) → 3 ≤ k + 1 → slice_index_or at_time.values k None ≡ None
    open_later zero le = absurd (omega (arith, le))
    open_later (suc k) le = open_from k

two_bits : bits 2 ≡ 2
unfolding bits
two_bits = refl

module _ (n : ℕ) (costs : ViewCosts) (h : List Point) (all : All (IsFew n) h) (bounds : BoundsBagCosts) where
  bins_few : bins_under kinds at_time h ≤ n
  bins_few = (bounds kinds h at_time n).0 (λ i d lt. (all i d lt).0)

  labels_few : labels_below kinds at_kind h ≤ 2
  labels_few = (bounds kinds h at_kind 2).1 (λ i d lt. (all i d lt).1)

  within : (b c : Bool) (down before : ℕ) → down ≤ 3 → before ≤ 2 + bits n → 1 + cond b (down + cond c (1 + 2 * before) 0) 0 ≤ 9 + 2 * bits n
  within true true down before d e = omega (arith, d, e)
  within true false down before d e = omega (arith, d, e)
  within false c down before d e = omega arith

  bag_few : address_cost (bag_costs kinds h) kinds h at_time ≤ 9 + 2 * bits n
  bag_few =
      let labels = bits-mono _ _ labels_few in
      let bins = bits-mono _ _ bins_few in
      let all_in = within (ltb 0 (amount anywhere h)) (has_spot kinds h (longer at_kind 0)) (1 + bits (labels_below kinds at_kind h)) (2 + bits (bins_under kinds at_time h)) (omega (arith, labels, two_bits)) (omega (arith, bins)) in
      omega (arith, all_in)

  pub count_few : (z : Schema) (q : Query) → z ≡ kinds → q ≡ count_of_a → ((a : Address) → IsWalkAddress z a → address_cost costs z h a ≡ address_cost (bag_costs z h) z h a) → search_cost costs z h q ≤ 9 + 2 * bits n
  count_few z q e f walk =
      let here = subst (λ (y : Schema). (a : Address) → IsWalkAddress y a → address_cost costs y h a ≡ address_cost (bag_costs y h) y h a) e walk at_time walked in
      let few : search_cost costs kinds h count_of_a ≤ 9 + 2 * bits n = omega (arith, here, bag_few) in
      subst (λ (y : Schema). search_cost costs y h q ≤ 9 + 2 * bits n) (sym e) (subst (λ (p : Query). search_cost costs kinds h p ≤ 9 + 2 * bits n) (sym f) few)

pub bits_1 : bits 1 ≡ 1
unfolding bits
bits_1 = refl

pub bits_1024 : bits 1024 ≡ 11
unfolding bits
bits_1024 = refl
