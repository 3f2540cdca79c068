-- Slots that are numbered as they appear are their own image's.
use Rattle.std.proofs.Common.{◌≡◌, ℕ, zero, suc, ◌+◌, ◌<◌, Bool, cond, not, eq-eqb, ne_eqb, List, [], ◌∷◌, ◌++◌, length, get_or, map, Option, Some, None, refl, sym, ap, ap₂, ◌∙◌, arith, append_assoc, length-append}
use Rattle.std.specs.List.{flat_map, range_with_len}
use Rattle.cube_view.specs.Walks.{Step, down, across}
use Rattle.node_arena.specs.declared.link.Link.{Link}
use Rattle.node_arena.specs.Slots.{target, Children, Slot, node, table, empty_node, slot_of, children_of, child, link}
use Rattle.cube_image.specs.Bytes.{image_bytes}
use Rattle.cube_image.specs.Conditions.{IsReadable}
use Rattle.cube_image.specs.Image.{IsImageOf}
use Rattle.cube_image.specs.Order.{owned_by, IsNumbered, order_number, moved, moved_child, moved_link, moved_content}
use Rattle.cube_image.proofs.Rests.{Rises, rises, child-low}

-- a number stands in a range where it says
number-in_range : (a n k : ℕ) → k < n → order_number (range_with_len a n) (a + k) ≡ k
number-in_range a zero k lt = absurd (omega arith)
number-in_range a (suc n) zero lt =
    let e : a ≡ a + 0 = omega arith in
    ap (λ (b : Bool). cond {A = ℕ} (not b) (1 + order_number (range_with_len (a + 1) n) (a + 0)) 0) (eq-eqb a (a + 0) e)
number-in_range a (suc n) (suc k) lt =
    let r = number-in_range (a + 1) n k (omega arith) in
    let s : a + suc k ≡ (a + 1) + k = omega arith in
    ap (λ (b : Bool). cond {A = ℕ} (not b) (1 + order_number (range_with_len (a + 1) n) (a + suc k)) 0) (ne_eqb a (a + suc k) (λ e. omega arith))
    ∙ (ap (λ (m : ℕ). 1 + order_number (range_with_len (a + 1) n) m) s ∙ omega (arith, r))

link-same : (n : ℕ) (l : Link) → target l < n → moved_link (range_with_len 0 n) l ≡ l
link-same n l lt =
    let e : target l ≡ 0 + target l = omega arith in
    let number : order_number (range_with_len 0 n) (target l) ≡ target l = ap (order_number (range_with_len 0 n)) e ∙ number-in_range 0 n (target l) lt in
    ap (λ (t : ℕ). record { to = record { 0 = t }; kind = l.kind }) number

-- each child is the child of its label
child_each : (b : ℕ) (children : Children) (i : ℕ) (d : ℕ × Link) → Rises b children → i < length children → child children (get_or children i d).0 ≡ Some (get_or children i d).1
child_each b [] i d R lt = absurd (omega arith)
child_each b (x ∷ children) zero d R lt = ap (λ (t : Bool). cond t (Some x.1) (child children x.0)) (eq-eqb x.0 x.0 refl)
child_each b (x ∷ children) (suc i) d R lt =
    let at = child_each (x.0 + 1) children i d R.1 (omega arith) in
    let low = child-low (x.0 + 1) children (get_or children i d).0 (get_or children i d).1 R.1 at in
    ap (λ (t : Bool). cond t (Some x.1) (child children (get_or children i d).0)) (ne_eqb x.0 (get_or children i d).0 (λ e. omega arith)) ∙ at

children-same : (n : ℕ) (children : Children) → ((i : ℕ) (d : ℕ × Link) → i < length children → target (get_or children i d).1 < n) → map (moved_child (range_with_len 0 n)) children ≡ children
children-same n [] all = refl
children-same n (c ∷ children) all =
    ap₂ (λ (l : Link) (cs : Children). (c.0, l) ∷ cs) (link-same n c.1 (all 0 c (omega arith))) (children-same n children (λ i d lt. all (suc i) d (omega arith)))

content-same : (n : ℕ) (content : Option Link) → ((l : Link) → content ≡ Some l → target l < n) → moved_content (range_with_len 0 n) content ≡ content
content-same n None all = refl
content-same n (Some l) all = ap Some (link-same n l (all l refl))

-- links whose targets stand in a range lead where they led
slot-same : (n : ℕ) (s : Slot) → Rises 0 (children_of s) → ((e : Step) (l : Link) → link s e ≡ Some l → target l < n) → moved (range_with_len 0 n) s ≡ s
slot-same n (table counts) R all = refl
slot-same n (node children content) R all =
    ap₂ node (children-same n children (λ i d lt. all (down (get_or children i d).0) (get_or children i d).1 (child_each 0 children i d R lt))) (content-same n content (λ l e. all across l e))

-- a list, place by place

at-past : (front : List Slot) (s : Slot) (rest : List Slot) → slot_of (front ++ s ∷ rest) (length front) ≡ s
at-past [] s rest = refl
at-past (x ∷ front) s rest = at-past front s rest

module _ {A : Type 0} (f : Slot → List A) where
  flat-places : (slots front rest : List Slot) → slots ≡ front ++ rest → flat_map (λ i. f (slot_of slots i)) (range_with_len (length front) (length rest)) ≡ flat_map f rest
  flat-places slots front [] is = refl
  flat-places slots front (s ∷ rest) is =
      let at : slot_of slots (length front) ≡ s = ap (λ (ss : List Slot). slot_of ss (length front)) is ∙ at-past front s rest in
      let more : length (front ++ s ∷ []) ≡ length front + 1 = length-append front (s ∷ []) in
      let r = flat-places slots (front ++ s ∷ []) rest (is ∙ sym (append_assoc front (s ∷ []) rest)) in
      ap₂ (λ (x : List A) (y : List A). x ++ y) (ap f at) (ap (λ (n : ℕ). flat_map (λ i. f (slot_of slots i)) (range_with_len n (length rest))) (sym more) ∙ r)

moved-places : (n : ℕ) (slots front rest : List Slot) → slots ≡ front ++ rest → ((i : ℕ) → i < length slots → moved (range_with_len 0 n) (slot_of slots i) ≡ slot_of slots i) → map (λ i. moved (range_with_len 0 n) (slot_of slots i)) (range_with_len (length front) (length rest)) ≡ rest
moved-places n slots front [] is same = refl
moved-places n slots front (s ∷ rest) is same =
    let at : slot_of slots (length front) ≡ s = ap (λ (ss : List Slot). slot_of ss (length front)) is ∙ at-past front s rest in
    let more : length (front ++ s ∷ []) ≡ length front + 1 = length-append front (s ∷ []) in
    let size = ap length is ∙ length-append front (s ∷ rest) in
    let r = moved-places n slots (front ++ s ∷ []) rest (is ∙ sym (append_assoc front (s ∷ []) rest)) same in
    ap₂ (λ (x : Slot) (y : List Slot). x ∷ y) (same (length front) (omega (arith, size)) ∙ at)
    (ap (λ (m : ℕ). map (λ i. moved (range_with_len 0 n) (slot_of slots i)) (range_with_len m (length rest))) (sym more) ∙ r)

-- numbered slots stand in the order of their image, as they are
pub own_image : (slots : List Slot) → IsReadable slots → IsNumbered slots → (size : ℕ) → IsImageOf slots size (image_bytes size slots)
own_image slots C N size =
    let same : (i : ℕ) → i < length slots → moved (range_with_len 0 (length slots)) (slot_of slots i) ≡ slot_of slots i = λ i lt. slot-same (length slots) (slot_of slots i) (rises (children_of (slot_of slots i)) (C.rising i empty_node lt)) (λ e l h. C.targets i e l h) in
    record {
      places = range_with_len 0 (length slots);
      ordered = sym N ∙ ap (λ (t : List ℕ). 0 ∷ t) (sym (flat-places owned_by slots [] slots refl));
      text = ap (image_bytes size) (sym (moved-places (length slots) slots [] slots refl same));
    }
