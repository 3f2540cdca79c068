use Rattle.std.proofs.Common.{◌≡◌, ◌++◌, drop, option_map}
use Rattle.serde_json.specs.View.{items_view}
use Rattle.cube_schema.specs.Kinds.{items_as, category_of}
use Rattle.cube_schema.proofs.kinds.categories_of.Given as goal

-- the items read so far and those to come make all of them
abbrev pub invariant-loop-item : goal.invariant-loop-item
invariant-loop-item l = option_map (λ others. l.categories ++ others) (items_as category_of (items_view (drop l.item-index l.items))) ≡ items_as category_of (items_view l.items)
