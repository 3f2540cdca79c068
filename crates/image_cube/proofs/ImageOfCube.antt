-- What is written of a cube is the image of a cube of its records.
use Rattle.std.proofs.Common.{◌≡◌, ℕ, ◌^◌, ◌<◌, ◌≤◌, List, length, get_or, map, Result, Ok, Err, IfOk, refl, sym, ap, ◌∙◌, subst, arith, length-append}
use Rattle.std.proofs.lemmas.List.{length-map, get_or-map}
use Rattle.std.specs.List.{flat_map}
use Rattle.cube_view.specs.Bag.{most_points}
use Rattle.cube_view.specs.Places.{time_dim}
use Rattle.cube_view.specs.Points.{Point}
use Rattle.cube_view.specs.declared.schema.Schema.{Schema}
use Rattle.time_table.specs.Counts.{AllCounted}
use Rattle.node_arena.specs.declared.link.Link.{Link}
use Rattle.node_arena.specs.Slots.{proper, Children, Slot, node, table, empty_node, IsRising, children_of, counts_of, slot_of}
use Rattle.node_arena.specs.Stats.{AllRising, stat_of}
use Rattle.cube_store.specs.Counted.{CountsPoints}
use Rattle.cube_image.specs.Bytes.{head_bytes, slot_bytes}
use Rattle.cube_image.specs.Conditions.{HasSomeHomes}
use Rattle.cube_image.specs.Image.{IsWritten, HasLongImage}
use Rattle.cube_image.specs.declared.fault.SaveFault.{SaveFault}
use Rattle.cube_image.specs.Order.{moved, moved_child, in_order}
use Rattle.cube_image.proofs.Labels.{label-byte}
use Rattle.cube_image.proofs.TargetNumbers.{numbered}
use Rattle.cube_image.proofs.OwnImage.{own_image}
use Rattle.cube_image.proofs.WholeOrder.{all_in_order}
use Rattle.image_parse.specs.Images.{IsImage}
use Rattle.image_parse.proofs.Readable.{orderly}
use Rattle.image_parse.proofs.ImageReads.{slots_few, one_meaning}
use Rattle.image_cube.specs.Read.{IsFitImage}
use Rattle.shape_test.specs.Laws.{AllTablesCounted}
use Rattle.image_cube.specs.CubeImages.{AreRecords, IsCubeImage, HasLongCubeImage, KeepsNumbers}
use Rattle.image_cube.proofs.FitRecords.{counted-fits}
use Rattle.image_cube.proofs.ImageSlots.{slots-fit}
use Rattle.image_cube.proofs.ShapeInOrder.{moved_homes, in-places, places-once, each-one, old-lt, shape-again}
use Rattle.image_cube.proofs.NumbersInOrder.{stat-again}
use Rattle.proper_path.specs.Paths.{paths_of}

-- a slot has its labels and its counts, moved or not

children-moved : (places : List ℕ) (s : Slot) → children_of (moved places s) ≡ map (moved_child places) (children_of s)
children-moved places (node cs content) = refl
children-moved places (table counts) = refl

counts-moved : (places : List ℕ) (s : Slot) → counts_of (moved places s) ≡ counts_of s
counts-moved places (node cs content) = refl
counts-moved places (table counts) = refl

rising-moved : (places : List ℕ) (cs : Children) → IsRising cs → IsRising (map (moved_child places) cs)
rising-moved places cs R i j d lt end =
    let size = length-map cs (moved_child places) in
    let a : get_or (map (moved_child places) cs) i d ≡ moved_child places (get_or cs i (0, proper 0)) = get_or-map (moved_child places) cs i (0, proper 0) d (omega (arith, lt, end, size)) in
    let b : get_or (map (moved_child places) cs) j d ≡ moved_child places (get_or cs j (0, proper 0)) = get_or-map (moved_child places) cs j (0, proper 0) d (omega (arith, end, size)) in
    let r = R i j (0, proper 0) lt (omega (arith, end, size)) in
    let c = ap (λ (x : ℕ × Link). x.0) a in
    let e = ap (λ (x : ℕ × Link). x.0) b in
    omega (arith, r, c, e)

module _ (schema : Schema) (slots : List Slot) (size : ℕ) (h : List Point) (C : CountsPoints schema slots 0 size h) (R : AllRising slots) (bytes : List ℕ) (W : IsWritten slots size bytes) where
  abbrev places : List ℕ
  places = W.image.places

  abbrev again : List Slot
  again = in_order slots places

  known : HasSomeHomes slots
  known = record { homes = C.homes; has_homes = C.shape.has_homes }

  whole : length again ≡ length slots
  whole = all_in_order slots known R (λ i label l is. label-byte schema slots 0 size h C i label l is) places W.image.ordered

  places-size : length places ≡ length slots
  places-size = sym (length-map places (λ (i : ℕ). moved places (slot_of slots i))) ∙ whole

  -- slots that were written are few
  pub written-few : length slots ≤ 2 ^ 30
  written-few =
      let t = ap length W.image.text in
      let f = W.fits in
      let s = slots_few again in
      let a = length-append (head_bytes size (length again)) (flat_map slot_bytes again) in
      let w = whole in
      omega (arith, t, f, s, a, w)

  old-at : (k : ℕ) → k < length again → get_or places k 0 < length slots
  old-at k lt = old-lt slots C.homes C.shape.has_homes R places W.image.ordered places-size k (in-places slots C.homes C.shape.has_homes R places W.image.ordered places-size k lt)

  slot-again : (k : ℕ) (d : Slot) → k < length again → get_or again k d ≡ moved places (slot_of slots (get_or places k 0))
  slot-again k d lt = get_or-map (λ (i : ℕ). moved places (slot_of slots i)) places k 0 d (in-places slots C.homes C.shape.has_homes R places W.image.ordered places-size k lt)

  rising-again : AllRising again
  rising-again k d lt =
      subst (λ (s : Slot). IsRising (children_of s)) (sym (slot-again k d lt))
      (subst IsRising (sym (children-moved places (slot_of slots (get_or places k 0)))) (rising-moved places (children_of (slot_of slots (get_or places k 0))) (R (get_or places k 0) empty_node (old-at k lt))))

  tables-again : AllTablesCounted slots → AllTablesCounted again
  tables-again A k d lt =
      subst (λ (s : Slot). AllCounted (counts_of s)) (sym (slot-again k d lt))
      (subst AllCounted (sym (counts-moved places (slot_of slots (get_or places k 0)))) (A (get_or places k 0) empty_node (old-at k lt)))

  counted-again : CountsPoints schema again 0 size h
  counted-again = record {
    homes = moved_homes slots C.homes C.shape.has_homes R places W.image.ordered places-size;
    shape = shape-again slots C.homes C.shape.has_homes R places W.image.ordered places-size (time_dim schema) (paths_of schema h) C.shape;
    at_top = refl;
    all_sound = C.all_sound;
    all_four = C.all_four;
    number = C.number;
  }

  module _ (few : size ≤ most_points) (A : AllTablesCounted slots) (V : AreRecords schema h) where
    image-again : IsImage bytes size again
    image-again = record {
      size_fits = omega (arith, few);
      number_fits = let w = whole in let f = written-few in omega (arith, w, f);
      fit = slots-fit schema again size h counted-again few V.small_bins rising-again (tables-again A);
      numbered = numbered slots known R places W.image.ordered;
      text = W.image.text;
    }

    fit-again : IsFitImage schema bytes again size
    fit-again = record {
      short = W.fits;
      image = image-again;
      written = (orderly own_image bytes size again image-again).image;
      fits = counted-fits schema again size h counted-again rising-again (tables-again A) few V.valid_points;
    }

    -- THE BYTES ARE THE IMAGE OF A CUBE OF THE POINTS
    pub saved-image : IsCubeImage schema bytes h
    saved-image = record {
      slots = again;
      fit = subst (λ (n : ℕ). IsFitImage schema bytes again n) C.number fit-again;
      counted = subst (λ (n : ℕ). CountsPoints schema again 0 n h) C.number counted-again;
    }

    -- and whatever slots the bytes are the image of have the numbers of the cube's
    pub kept-numbers : KeepsNumbers bytes schema slots
    kept-numbers other n F =
        let m = one_meaning bytes n size other again F.image image-again in
        ap stat_of m.1
        ∙ stat-again slots places (places-once slots C.homes C.shape.has_homes R places W.image.ordered places-size).below (each-one slots C.homes C.shape.has_homes R places W.image.ordered places-size)

-- a cube's image that is too long is one of its points
pub long-image : (schema : Schema) (slots : List Slot) (root size : ℕ) (h : List Point) → CountsPoints schema slots root size h → HasLongImage slots size → HasLongCubeImage schema h
long-image schema slots root size h C L = record {
  slots = slots;
  counted = subst (λ (n : ℕ). CountsPoints schema slots 0 n h) C.number (subst (λ (r : ℕ). CountsPoints schema slots r size h) C.at_top C);
  long = subst (λ (n : ℕ). HasLongImage slots n) C.number L;
}

-- of the one who writes it

module _ (schema : Schema) (slots : List Slot) (root size : ℕ) (few : size ≤ most_points) (R : AllRising slots) (A : length slots ≤ 2 ^ 32 → AllTablesCounted slots) where
  at-top : (h : List Point) → CountsPoints schema slots root size h → CountsPoints schema slots 0 size h
  at-top h C = subst (λ (r : ℕ). CountsPoints schema slots r size h) C.at_top C

  pub counted-tables : (bytes : List ℕ) → IsWritten slots size bytes → (h : List Point) → CountsPoints schema slots root size h → AllTablesCounted slots
  counted-tables bytes W h C = A (let f = written-few schema slots size h (at-top h C) R bytes W in omega (arith, f))

  pub each-saved : (r : Result (List ℕ) SaveFault) → IfOk r (IsWritten slots size) → IfOk r (λ bytes. (h : List Point) → CountsPoints schema slots root size h → AreRecords schema h → IsCubeImage schema bytes h × KeepsNumbers bytes schema slots)
  each-saved (Ok bytes) W = λ h C V. (
    saved-image schema slots size h (at-top h C) R bytes W few (counted-tables bytes W h C) V,
    kept-numbers schema slots size h (at-top h C) R bytes W few (counted-tables bytes W h C) V,
  )
  each-saved (Err fault) W = tt
