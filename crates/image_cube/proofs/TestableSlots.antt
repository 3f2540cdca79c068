-- What an image tells of its slots, so that they can be tested one by one.
use Rattle.std.proofs.Common.{◌≡◌, ℕ, zero, suc, ◌+◌, ◌<◌, ◌≤◌, ◌^◌, ◌&&◌, Bool, true, false, cond, eqb, eqb-true, List, [], ◌∷◌, map, length, Some, Result, Ok, Err, refl, sym, subst, arith}
use Rattle.std.specs.FinMap.{entries}
use Rattle.std.specs.List.{AllByRecursion}
use Rattle.std.proofs.lemmas.Bool.{and_parts}
use Rattle.cube_view.specs.Walks.{under}
use Rattle.cube_view.specs.declared.schema.Schema.{Schema}
use Rattle.time_table.specs.Rows.{AreRows}
use Rattle.image_parse.specs.Images.{AreChildren, IsImageSlot, IsImage, AllLight, IsHeavyImage}
use Rattle.image_parse.specs.Laws.{IsOrderly, TellsOrderly}
use Rattle.shape_test.specs.Wholes.{spot_at}
use Rattle.shape_test.proofs.Core.{amount-cons}
use Rattle.shape_test.proofs.BinRows.{table_rows}
use Rattle.node_arena.specs.Amounts.{amount_under}
use Rattle.node_arena.specs.declared.link.Link.{Link}
use Rattle.node_arena.specs.Slots.{Children, Slot, node, table, child, slot_of, counts_of}
use Rattle.shape_test.specs.Filled.{HasSmallBins}
use Rattle.shape_test.specs.Links.{HasSmallLabels}
use Rattle.shape_test.specs.Sizes.{TellsLight}
use Rattle.shape_test.specs.Testable.{AreTestable}
use Rattle.time_table.specs.Counts.{BinCounts, count_of, total_count}
use Rattle.time_table.proofs.AddLaws.{count_of-empty}
use Rattle.image_cube.specs.Read.{ReadSlots, IsFitImage, IsUnfitImage, ReadsImage, FitsSlots}
use Rattle.image_cube.specs.declared.fault.ImageFault.{ImageFault}
use Rattle.image_cube.specs.declared.fault.ImageFault.TheVariants.{TooLong, NotImage, NotShape, NoMemory}

-- labels are bytes
children_small : (n from : ℕ) (cs : Children) (label : ℕ) (l : Link) → AreChildren n from cs → child cs label ≡ Some l → label < 256
children_small n from [] label l A e = absurd cc
children_small n from (c ∷ cs) label l A e = go (eqb c.0 label) refl e (λ f. children_small n (c.0 + 1) cs label l A.3 f)
  where
    go : (b : Bool) → eqb c.0 label ≡ b → cond b (Some c.1) (child cs label) ≡ Some l → (child cs label ≡ Some l → label < 256) → label < 256
    go true f g rest = let s = eqb-true c.0 label f in let b = A.1 in omega (arith, s, b)
    go false f g rest = rest g

pub labels_small : (n : ℕ) (slots : List Slot) → AllByRecursion (IsImageSlot n) slots → HasSmallLabels slots
labels_small n [] A i label l e = absurd cc
labels_small n (node cs content ∷ slots) A zero label l e = children_small n 0 cs label l A.0.0 e
labels_small n (table counts ∷ slots) A zero label l e = absurd cc
labels_small n (s ∷ slots) A (suc i) label l e = labels_small n slots A.1 i label l e

-- bins have 32 bits
rows_small : (from bin : ℕ) (es : List (ℕ × ℕ)) → AreRows from es → 0 < amount_under (map (spot_at []) es) [] bin → bin < 2 ^ 32
rows_small from bin [] A some = absurd (omega (arith, some))
rows_small from bin (e ∷ es) A some = go (under (spot_at [] e).spot [] && eqb e.0 bin) refl (amount-cons (spot_at [] e) (map (spot_at []) es) [] bin) (rows_small (e.0 + 1) bin es A.4)
  where
    go : (b : Bool) → (under (spot_at [] e).spot [] && eqb e.0 bin) ≡ b → amount_under (map (spot_at []) (e ∷ es)) [] bin ≡ cond {A = ℕ} b e.1 0 + amount_under (map (spot_at []) es) [] bin → (0 < amount_under (map (spot_at []) es) [] bin → bin < 2 ^ 32) → bin < 2 ^ 32
    go true f s rest = let t = eqb-true e.0 bin (and_parts (under (spot_at [] e).spot []) (eqb e.0 bin) f).1 in let b = A.1 in omega (arith, t, b)
    go false f s rest = rest (omega (arith, s, some))

table_small : (m : BinCounts) (bin : ℕ) → AreRows 0 (entries m) → 0 < count_of m bin → bin < 2 ^ 32
table_small m bin A some = let t = table_rows [] [] m bin in rows_small 0 bin (entries m) A (omega (arith, t, some))

pub bins_small : (n : ℕ) (slots : List Slot) → AllByRecursion (IsImageSlot n) slots → HasSmallBins slots
bins_small n [] A i bin some = let z = count_of-empty bin in absurd (omega (arith, z, some))
bins_small n (node cs content ∷ slots) A zero bin some = let z = count_of-empty bin in absurd (omega (arith, z, some))
bins_small n (table counts ∷ slots) A zero bin some = table_small counts bin A.0 some
bins_small n (s ∷ slots) A (suc i) bin some = bins_small n slots A.1 i bin some

-- so the slots of an image can be tested
pub image_testable : (bytes : List ℕ) (size : ℕ) (slots : List Slot) → IsOrderly bytes size slots → IsImage bytes size slots → AreTestable slots
image_testable bytes size slots O I = record {
  rising = O.readable.rising;
  readable = record {
    linked = record { within = O.readable.targets; labels = labels_small (length slots) slots I.fit };
    bins = bins_small (length slots) slots I.fit;
  };
  counted = O.counted;
}

all_light : (slots : List Slot) → ((i : ℕ) → i < length slots → total_count (counts_of (slot_of slots i)) ≤ 2 ^ 63) → AllLight slots
all_light [] f = tt
all_light (s ∷ slots) f = (f 0 (omega arith), all_light slots (λ i l. f (suc i) (omega (arith, l))))

-- an image with a table that counts too many does not fit
pub heavy_unfit : (schema : Schema) (bytes : List ℕ) → TellsOrderly → TellsLight → length bytes ≤ 2 ^ 30 → IsHeavyImage bytes → IsUnfitImage schema bytes
heavy_unfit schema bytes orderly light short H = record {
  short = short;
  size = H.size;
  slots = H.slots;
  image = H.image;
  unfit = λ F. H.heavy (all_light H.slots (light schema H.slots H.size (orderly bytes H.size H.slots H.image).counted F));
}

-- what is answered of the slots of an image is what is answered of its bytes
pub image_read : (schema : Schema) (bytes : List ℕ) (slots : List Slot) (size : ℕ) → TellsOrderly → length bytes ≤ 2 ^ 30 → IsImage bytes size slots → (r : Result ReadSlots ImageFault) → FitsSlots schema slots size r → ReadsImage schema bytes r
image_read schema bytes slots size orderly short I (Ok x) F = (
  F.1,
  subst (λ (s : List Slot). IsFitImage schema bytes s x.2) (sym F.0) (subst (IsFitImage schema bytes slots) (sym F.2) (record {
    short = short;
    image = I;
    written = (orderly bytes size slots I).image;
    fits = F.3;
  })),
)
image_read schema bytes slots size orderly short I (Err NotShape) F = record { short = short; size = size; slots = slots; image = I; unfit = F }
image_read schema bytes slots size orderly short I (Err NoMemory) F = short
image_read schema bytes slots size orderly short I (Err TooLong) F = absurd F
image_read schema bytes slots size orderly short I (Err NotImage) F = absurd F
