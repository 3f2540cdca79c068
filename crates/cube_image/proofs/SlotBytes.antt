-- The bytes of slots and of an image, put piece by piece.
use Rattle.std.proofs.Common.{◌≡◌, ℕ, ◌+◌, ◌<◌, ◌≤◌, List, [], ◌∷◌, ◌++◌, length, map, Option, refl, sym, ap, ◌∙◌, arith, append_assoc, length-append, true≢false, take, drop, get_or}
use Rattle.std.specs.Coded.{le_prop}
use Rattle.std.proofs.Math.Logic.{∥∥₁_elim}
use Rattle.std.proofs.lemmas.List.{length-map, get_or-map, take-append-drop}
use Rattle.std.proofs.lemmas.Grind.{flat_map-append}
use Rattle.std.proofs.lemmas.List.Folds.{flat_map-map}
use Rattle.std.specs.Int.{to_be_bytes, w16}
use Rattle.std.specs.List.{flat_map}
use Rattle.cube_view.specs.Walks.{across}
use Rattle.time_table.specs.Counts.{BinCounts}
use Rattle.node_arena.specs.declared.link.Link.{Link}
use Rattle.node_arena.specs.Slots.{Children, Slot, node, table, IsNode, IsTable, children_of, counts_of, link, slot_of}
use Rattle.node_arena.specs.Stats.{AllRising}
use Rattle.node_arena.proofs.Walks.{target-lt}
use Rattle.cube_image.specs.Bytes.{child_bytes, content_bytes, table_bytes, slot_bytes, head_bytes, image_bytes}
use Rattle.cube_image.specs.Conditions.{HasSomeHomes, IsReadable}
use Rattle.cube_image.specs.Image.{most_bytes, IsWritten, HasLongImage}
use Rattle.cube_image.specs.Order.{moved, moved_child, moved_content, IsOrder, in_order}
use Rattle.cube_image.specs.Rest.{byte_children, word_rows}
use Rattle.cube_image.proofs.ListPieces.{put_more}
use Rattle.cube_image.proofs.Rests.{byte_children-map}

-- what is known of slots with homes
pub readable : (slots : List Slot) → ∥ HasSomeHomes slots ∥₁ → AllRising slots → IsReadable slots
readable slots some R = record {
  rising = R;
  targets = λ i e l h. ∥∥₁_elim some le_prop (λ (k : HasSomeHomes slots). target-lt slots k.homes k.has_homes i e l h);
}

-- a node is put: its number of children, the children, and the content
pub node_put : (places : List ℕ) (s : Slot) (content : Option Link) (out b c new : List ℕ) → IsNode s → content ≡ link s across → b ≡ out ++ (1 ∷ to_be_bytes w16 (length (byte_children (children_of s)))) → c ≡ b ++ flat_map (λ k. child_bytes (moved_child places k)) (byte_children (children_of s)) → new ≡ c ++ content_bytes (moved_content places content) → new ≡ out ++ slot_bytes (moved places s)
node_put places (table counts) content out b c new is at two three four = absurd (true≢false is)
node_put places (node children own) content out b c new is at two three four =
    let same = byte_children-map places children in
    let kids : flat_map (λ k. child_bytes (moved_child places k)) (byte_children children) ≡ flat_map child_bytes (byte_children (map (moved_child places) children)) = sym (flat_map-map child_bytes (moved_child places) (byte_children children)) ∙ ap (λ (cs : Children). flat_map child_bytes cs) (sym same) in
    let count : to_be_bytes w16 (length (byte_children children)) ≡ to_be_bytes w16 (length (byte_children (map (moved_child places) children))) = ap (λ n. to_be_bytes w16 n) (sym (ap length same ∙ length-map (byte_children children) (moved_child places))) in
    let last : content_bytes (moved_content places content) ≡ content_bytes (moved_content places own) = ap (λ o. content_bytes (moved_content places o)) at in
    joined out b c new (to_be_bytes w16 (length (byte_children (map (moved_child places) children)))) (flat_map child_bytes (byte_children (map (moved_child places) children))) (content_bytes (moved_content places own)) (two ∙ ap (λ (t : List ℕ). out ++ (1 ∷ t)) count) (three ∙ ap (λ (t : List ℕ). b ++ t) kids) (four ∙ ap (λ (t : List ℕ). c ++ t) last)
  where
    joined : (out b c new count kids last : List ℕ) → b ≡ out ++ (1 ∷ count) → c ≡ b ++ kids → new ≡ c ++ last → new ≡ out ++ ((1 ∷ []) ++ count ++ kids ++ last)
    joined out b c new count kids last two three four =
        let first : b ≡ out ++ ((1 ∷ []) ++ count) = two in
        let second : c ≡ out ++ ((1 ∷ []) ++ count ++ kids) = three ∙ (ap (λ (t : List ℕ). t ++ kids) first ∙ append_assoc out ((1 ∷ []) ++ count) kids) in
        four ∙ (ap (λ (t : List ℕ). t ++ last) second ∙ append_assoc out ((1 ∷ []) ++ count ++ kids) last)

-- a time table is put as a slot
pub table_put : (places : List ℕ) (s : Slot) (m : BinCounts) (out new : List ℕ) → IsTable s → m ≡ counts_of s → new ≡ out ++ table_bytes (word_rows m) → new ≡ out ++ slot_bytes (moved places s)
table_put places (node children content) m out new is at put = absurd (true≢false (sym is))
table_put places (table counts) m out new is at put = put ∙ ap (λ (k : BinCounts). out ++ table_bytes (word_rows k)) at

-- the image is written
pub image_written : (slots : List Slot) (size : ℕ) (places bytes : List ℕ) → IsOrder slots places → length bytes ≤ most_bytes → bytes ≡ image_bytes size (in_order slots places) → IsWritten slots size bytes
image_written slots size places bytes O fits is = record {
  image = record { places = places; ordered = O; text = is };
  fits = fits;
}

-- the image is too long
pub image_long : (slots : List Slot) (size : ℕ) (places bytes : List ℕ) → IsOrder slots places → most_bytes < length bytes → bytes ≡ image_bytes size (in_order slots places) → HasLongImage slots size
image_long slots size places bytes O long is = record {
  bytes = bytes;
  image = record { places = places; ordered = O; text = is };
  long = long;
}

-- a slot more is put
pub slot_put : (slots : List Slot) (places start out room new : List ℕ) (i place : ℕ) → i < length places → place ≡ get_or places i place → out ≡ start ++ flat_map slot_bytes (take i (in_order slots places)) → room ≡ out → new ≡ room ++ slot_bytes (moved places (slot_of slots place)) → new ≡ start ++ flat_map slot_bytes (take (i + 1) (in_order slots places))
slot_put slots places start out room new i place lt here before same put =
    let size = length-map places (λ (k : ℕ). moved places (slot_of slots k)) in
    let at : get_or (in_order slots places) i (slot_of slots 0) ≡ moved places (slot_of slots (get_or places i place)) = get_or-map (λ (k : ℕ). moved places (slot_of slots k)) places i place (slot_of slots 0) lt in
    put_more slot_bytes start out new (in_order slots places) i (slot_of slots 0) (omega (arith, lt, size)) before
    (put ∙ (ap (λ (t : List ℕ). t ++ slot_bytes (moved places (slot_of slots place))) same ∙ ap (λ (s : Slot). out ++ slot_bytes s) (ap (λ (k : ℕ). moved places (slot_of slots k)) here ∙ sym at)))

-- all slots have at least as many bytes as some first ones
pub slots_long : (slots : List Slot) (places start out : List ℕ) (i : ℕ) → out ≡ start ++ flat_map slot_bytes (take i (in_order slots places)) → most_bytes < length out → most_bytes < length (start ++ flat_map slot_bytes (in_order slots places))
slots_long slots places start out i is long =
    let first = flat_map slot_bytes (take i (in_order slots places)) in
    let rest = flat_map slot_bytes (drop i (in_order slots places)) in
    let all : first ++ rest ≡ flat_map slot_bytes (in_order slots places) = sym (flat_map-append slot_bytes (take i (in_order slots places)) (drop i (in_order slots places))) ∙ ap (flat_map slot_bytes) (take-append-drop i (in_order slots places)) in
    let size = sym (length-append first rest) ∙ ap length all in
    let some = ap length is ∙ length-append start first in
    let whole = length-append start (flat_map slot_bytes (in_order slots places)) in
    omega (arith, size, some, whole, long)

-- the head has few bytes
pub head_few : (size n : ℕ) (out a : List ℕ) → out ≡ [] → a ≡ out ++ head_bytes size n → length a ≤ most_bytes
head_few size n out a none is =
    let head : length (head_bytes size n) ≡ 24 = refl in
    let all : length a ≡ length (head_bytes size n) = ap length (is ∙ ap (λ (t : List ℕ). t ++ head_bytes size n) none) in
    omega (arith, head, all)

-- the head and the slots are put into a list that was empty
pub image_put : (slots : List Slot) (size n : ℕ) (places out a b bytes : List ℕ) → out ≡ [] → a ≡ out ++ head_bytes size n → n ≡ length places → b ≡ a ++ flat_map slot_bytes (in_order slots places) → bytes ≡ b → bytes ≡ image_bytes size (in_order slots places)
image_put slots size n places out a b bytes none one count two is =
    let number : n ≡ length (in_order slots places) = count ∙ sym (length-map places (λ (k : ℕ). moved places (slot_of slots k))) in
    is ∙ (two ∙ ap (λ (t : List ℕ). t ++ flat_map slot_bytes (in_order slots places)) (one ∙ (ap (λ (t : List ℕ). t ++ head_bytes size n) none ∙ ap (λ (k : ℕ). head_bytes size k) number)))
