use Rattle.std.proofs.Common.{◌≡◌, ◌++◌, drop, option_map}
use Rattle.serde_json.specs.Find.{as_str}
use Rattle.serde_json.specs.View.{items_view}
use Rattle.cube_schema.specs.Kinds.{items_as}
use Rattle.cube_schema.proofs.kinds.texts_of.Given as goal

-- the items read so far and those to come make all of them
abbrev pub invariant-loop-item : goal.invariant-loop-item
invariant-loop-item l = option_map (λ others. l.texts ++ others) (items_as as_str (items_view (drop l.item-index l.items))) ≡ items_as as_str (items_view l.items)
