-- Where a walk to a query's region has ended.
use Rattle.std.proofs.Common.{◌≡◌, ℕ, ◌<◌, length, subst}
use Rattle.std.specs.Prelude.{Option, Some, None, IfSome, IfNone, IsTrue}
use Rattle.cube_view.specs.Bag.{EachCounted}
use Rattle.cube_view.specs.Costs.{is_found}
use Rattle.cube_view.specs.Places.{region_address}
use Rattle.cube_view.specs.declared.address.Address.{Address}
use Rattle.cube_view.specs.declared.schema.Schema.{Schema}
use Rattle.cube_view.specs.declared.spot.Spot.{Spot}
use Rattle.query_syntax.specs.Parts.{with_one_value}
use Rattle.query_syntax.specs.declared.query.Query.{Query}
use Rattle.query_walk.specs.Walks.{HasNone, HasWalked}
use Rattle.query_walk.proofs.OneValue.{value_has_box}

module _ {C : Type 0} (at : Spot → ℕ) (seen : ℕ) (z : Schema) (q : Query) (stands : C → Type 0) (address : C → Address) (end : Option C) (walked : HasWalked at seen z q stands address end) where
  module _ (c : C) (is : end ≡ Some c) where
    -- the cursor stands at the region
    pub walked_place : stands c × (address c ≡ region_address q.region)
    walked_place = subst (λ (o : Option C). IfSome o (λ d. stands d × (address d ≡ region_address q.region))) is walked.place

    -- which is found
    pub walked_found : EachCounted at seen (λ h. IsTrue (is_found z h q.region))
    walked_found = subst (λ (o : Option C). IfSome o (λ _. EachCounted at seen (λ h. IsTrue (is_found z h q.region)))) is walked.found

  -- where there is no cursor, the region has nothing
  pub walked_none : end ≡ None → EachCounted at seen (HasNone z (region_address q.region))
  walked_none is = subst (λ (o : Option C). IfNone o (EachCounted at seen (HasNone z (region_address q.region)))) is walked.none

  -- the same walk, for the query with one value of a category alone
  pub walked_value : (k v : ℕ) → k < length z.categories → v < 256 → HasWalked at seen z (with_one_value q k v) stands address end
  walked_value k v lt small = record { has_box = value_has_box z q k v walked.has_box lt small; place = walked.place; found = walked.found; none = walked.none }
