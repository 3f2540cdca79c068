-- The cube of an image counts exactly the lists of whose cubes it is the image.
use Rattle.std.proofs.Common.{◌≡◌, ◌↔◌, ℕ, List, length, sym, subst}
use Rattle.cube_view.specs.Points.{Point}
use Rattle.cube_view.specs.declared.schema.Schema.{Schema}
use Rattle.node_arena.specs.Slots.{Slot}
use Rattle.node_arena.specs.declared.link.SlotId.{SlotId}
use Rattle.cube_store.specs.Counted.{CountsPoints}
use Rattle.cube_store.specs.declared.cube.Cube.{Cube}
use Rattle.image_parse.specs.Laws.{TellsOneMeaning}
use Rattle.image_cube.specs.Read.{IsFitImage}
use Rattle.image_cube.specs.CubeImages.{IsCubeImage, IsCubeOfImage}

module _ (one : TellsOneMeaning) (schema : Schema) (bytes : List ℕ) (slots : List Slot) (root size : ℕ) (F : IsFitImage schema bytes slots size) (top : root ≡ 0) (h : List Point) where
  counts-image : CountsPoints schema slots root size h → IsCubeImage schema bytes h
  counts-image C = record {
    slots = slots;
    fit = subst (λ (n : ℕ). IsFitImage schema bytes slots n) C.number F;
    counted = subst (λ (n : ℕ). CountsPoints schema slots 0 n h) C.number (subst (λ (r : ℕ). CountsPoints schema slots r size h) top C);
  }

  image-counts : IsCubeImage schema bytes h → CountsPoints schema slots root size h
  image-counts I =
      let m = one bytes (length h) size I.slots slots I.fit.image F.image in
      subst (λ (r : ℕ). CountsPoints schema slots r size h) (sym top)
      (subst (λ (n : ℕ). CountsPoints schema slots 0 n h) m.0 (subst (λ (s : List Slot). CountsPoints schema s 0 (length h) h) m.1 I.counted))

  pub counts-same : CountsPoints schema slots root size h ↔ IsCubeImage schema bytes h
  counts-same = (counts-image, image-counts)

-- so does a cube of those parts
pub cube-of-image : TellsOneMeaning → (schema : Schema) (bytes : List ℕ) (slots : List Slot) (root : SlotId) (size : ℕ) → IsFitImage schema bytes slots size → root.0 ≡ 0 → (cube : Cube) → cube.schema ≡ schema → (cube.arena ≡ slots) × (cube.root ≡ root) × (cube.size ≡ size) → IsCubeOfImage schema bytes cube
cube-of-image one schema bytes slots root size F top cube of parts = record {
  of_schema = of;
  fit = subst (λ (a : List Slot). IsFitImage schema bytes a cube.size) (sym parts.0) (subst (IsFitImage schema bytes slots) (sym parts.2) F);
  counts = λ h.
      subst (λ (z : Schema). CountsPoints z cube.arena cube.root.0 cube.size h ↔ IsCubeImage schema bytes h) (sym of)
      (subst (λ (a : List Slot). CountsPoints schema a cube.root.0 cube.size h ↔ IsCubeImage schema bytes h) (sym parts.0)
      (subst (λ (r : SlotId). CountsPoints schema slots r.0 cube.size h ↔ IsCubeImage schema bytes h) (sym parts.1)
      (subst (λ (n : ℕ). CountsPoints schema slots root.0 n h ↔ IsCubeImage schema bytes h) (sym parts.2)
      (counts-same one schema bytes slots root.0 size F top h))));
}
