use Rattle.cube_store.proofs.CubeBags.{IsBag-cube}
use Rattle.cube_store.proofs.Numbers.{OwnsAllButRoot-cube}
use Rattle.cube_store.proofs.cube.Cube.of_slots.Goals as goal

pub invariant_of-result : goal.invariant_of-result
invariant_of-result c = record {
  counted = c.requires.counted;
  bag = IsBag-cube _ _ _ _ c.requires.counted c.requires.few;
  owned = OwnsAllButRoot-cube _ _ _ _ c.requires.counted;
}
