-- Lists of parts, one part more at a time.
use Rattle.std.proofs.Common.{◌≡◌, ℕ, zero, suc, ◌+◌, ◌<◌, ◌≤◌, ◌-◌, inl, inr, List, [], ◌∷◌, ◌++◌, length, map, take, drop, get_or, Option, Some, None, refl, sym, ap, ◌∙◌, subst, arith}
use Rattle.std.specs.Option.{option_to_list}
use Rattle.std.specs.List.Sorted.{IsNonDecreasingBy}
use Rattle.std.proofs.lemmas.Bool.{cases_lt, cases_eq}
use Rattle.std.proofs.lemmas.List.{append-nil, append_assoc, get_or_default, get_or-take, get_or-drop, length-map, length-take-le, length-drop}
use Rattle.std.proofs.lemmas.List.Elements.{All-append, All-nil, All-cons}
use Rattle.cube_view.specs.Walks.{down, across}
use Rattle.node_arena.specs.declared.link.Link.{Link}
use Rattle.node_arena.specs.Slots.{Children, IsRising, IsTable, Slot, target, node, table, child, children_of, slot_of, link_of}
use Rattle.node_arena.proofs.Labels.{link_down, child_past, child_here, rising-tail}
use Rattle.probe_core.specs.Places.{IsPlace}
use Rattle.shape_test.specs.Parts.{ArePartsIn, HaveCome, IsLeastLabel, content_part, link_part, part_label, part_slot, parts_in, parts_of, parts_under}
use Rattle.shape_test.specs.Sharing.{LeadsWithin}
use Rattle.shape_test.specs.declared.parts.Part.{Part}

-- ---- the contents of one child, or of one part, more

-- the child at a place is the one that its label leads to
pub child_link : (slots : List Slot) (i at : ℕ) (k : ℕ × Link) → IsRising (children_of (slot_of slots i)) → at < length (children_of (slot_of slots i)) → get_or (children_of (slot_of slots i)) at k ≡ k → link_of slots i (down k.0) ≡ Some k.1
child_link slots i at k R less is = link_down (slot_of slots i) k.0 ∙ found (children_of (slot_of slots i)) at R less (sym is)
  where
    found : (children : Children) (at : ℕ) → IsRising children → at < length children → k ≡ get_or children at k → child children k.0 ≡ Some k.1
    found [] at R less is = absurd (omega (arith, less))
    found (x ∷ children) zero R less is = subst (λ (z : ℕ × Link). child (x ∷ children) z.0 ≡ Some z.1) (sym is) (child_here x children)
    found (x ∷ children) (suc at) R less is =
        let up : x.0 < (get_or children at k).0 = R 0 (suc at) k (omega arith) less in
        let up2 : x.0 < k.0 = subst (λ (z : ℕ × Link). x.0 < z.0) (sym is) up in
        child_past x children k.0 (λ e. omega (arith, e, up2)) ∙ found children at (rising-tail x children R) (omega (arith, less)) is

pub parts_in_push : (slots : List Slot) (children : Children) (c : ℕ × Link) → parts_in slots (children ++ c ∷ []) ≡ parts_in slots children ++ option_to_list (content_part slots c.0 (target c.1))
parts_in_push slots [] c = append-nil (option_to_list (content_part slots c.0 (target c.1)))
parts_in_push slots (x ∷ children) c =
    ap (λ (ps : List Part). option_to_list (content_part slots x.0 (target x.1)) ++ ps) (parts_in_push slots children c) ∙ sym (append_assoc (option_to_list (content_part slots x.0 (target x.1))) (parts_in slots children) (option_to_list (content_part slots c.0 (target c.1))))

pub parts_under_push : (slots : List Slot) (parts : List Part) (p : Part) → parts_under slots (parts ++ p ∷ []) ≡ parts_under slots parts ++ parts_of slots (part_slot p)
parts_under_push slots [] p = append-nil (parts_of slots (part_slot p))
parts_under_push slots (x ∷ parts) p =
    ap (λ (ps : List Part). parts_of slots (part_slot x) ++ ps) (parts_under_push slots parts p) ∙ sym (append_assoc (parts_of slots (part_slot x)) (parts_under slots parts) (parts_of slots (part_slot p)))

pub table_children : (s : Slot) → IsTable s → children_of s ≡ []
table_children (node children content) is = absurd cc
table_children (table counts) is = refl

pub table_parts : (slots : List Slot) (i : ℕ) → IsTable (slot_of slots i) → parts_of slots i ≡ []
table_parts slots i is = ap (parts_in slots) (table_children (slot_of slots i) is)

pub table_rising : (slots : List Slot) (i : ℕ) → IsTable (slot_of slots i) → IsRising (children_of (slot_of slots i))
table_rising slots i is = subst IsRising (sym (table_children (slot_of slots i) is)) (λ a b d less short. absurd (omega (arith, short)))

-- ---- parts are slots of the arena

module _ (slots : List Slot) (W : LeadsWithin slots) where
  pub content_within : (label i : ℕ) → ArePartsIn slots (option_to_list (content_part slots label i))
  content_within label i = go (link_of slots i across) refl
    where
      go : (o : Option Link) → link_of slots i across ≡ o → ArePartsIn slots (option_to_list (link_part label o))
      go None e = All-nil (λ (p : Part). part_slot p < length slots)
      go (Some l) e = All-cons (λ (p : Part). part_slot p < length slots) (record { label = label; content = l.to }) [] (W i across l e) (All-nil (λ (p : Part). part_slot p < length slots))

  children_within : (children : Children) → ArePartsIn slots (parts_in slots children)
  children_within [] = All-nil (λ (p : Part). part_slot p < length slots)
  children_within (c ∷ children) = All-append (λ (p : Part). part_slot p < length slots) (option_to_list (content_part slots c.0 (target c.1))) (parts_in slots children) (content_within c.0 (target c.1)) (children_within children)

  pub parts_within : (i : ℕ) → ArePartsIn slots (parts_of slots i)
  parts_within i = children_within (children_of (slot_of slots i))

  pub under_within : (parts : List Part) → ArePartsIn slots (parts_under slots parts)
  under_within [] = All-nil (λ (p : Part). part_slot p < length slots)
  under_within (p ∷ parts) = All-append (λ (q : Part). part_slot q < length slots) (parts_of slots (part_slot p)) (parts_under slots parts) (parts_within (part_slot p)) (under_within parts)

-- a child leads to a slot of the arena
pub child_within : (slots : List Slot) (i at : ℕ) (k : ℕ × Link) → LeadsWithin slots → IsRising (children_of (slot_of slots i)) → at < length (children_of (slot_of slots i)) → k ≡ get_or (children_of (slot_of slots i)) at k → target k.1 < length slots
child_within slots i at k W R less is = W i (down k.0) k.1 (child_link slots i at k R less (sym is))

-- ---- the same slots, one by one

pub same_slots : (whole parts : List Part) → length whole ≡ length parts → ((k : ℕ) (d : Part) → k < length whole → part_slot (get_or whole k d) ≡ part_slot (get_or parts k d)) → map part_slot whole ≡ map part_slot parts
same_slots [] [] e same = refl
same_slots [] (p ∷ parts) e same = absurd (omega (arith, e))
same_slots (p ∷ whole) [] e same = absurd (omega (arith, e))
same_slots (p ∷ whole) (q ∷ parts) e same =
    ap (λ (n : ℕ). n ∷ map part_slot whole) (same 0 p (omega arith)) ∙ ap (λ (ns : List ℕ). part_slot q ∷ ns) (same_slots whole parts (omega (arith, e)) (λ k d less. same (suc k) d (omega (arith, less))))

pub slots_of_same : (whole parts : List Part) (k : ℕ) (d : Part) → map part_slot whole ≡ map part_slot parts → k < length whole → part_slot (get_or whole k d) ≡ part_slot (get_or parts k d)
slots_of_same [] parts k d e less = absurd (omega (arith, less))
slots_of_same (p ∷ whole) [] k d e less = absurd cc
slots_of_same (p ∷ whole) (q ∷ parts) zero d e less = cc
slots_of_same (p ∷ whole) (q ∷ parts) (suc k) d e less = slots_of_same whole parts k d (let r : map part_slot whole ≡ map part_slot parts = cc in r) (omega (arith, less))

pub length_of_same : (whole parts : List Part) → map part_slot whole ≡ map part_slot parts → length whole ≡ length parts
length_of_same whole parts e = sym (length-map whole part_slot) ∙ (ap length e ∙ length-map parts part_slot)

-- ---- places of labels

-- at the place of the first part from a label on, up to its own label
pub place_up : (ps : List Part) (from at l : ℕ) → IsNonDecreasingBy part_label ps → IsPlace part_label from ps at → from ≤ l → ((d : Part) → at < length ps → l ≤ (get_or ps at d).label) → IsPlace part_label l ps at
place_up ps from at l S P low here = record {
  within = P.within;
  lesser = λ k d less. let x = P.lesser k d less in omega (arith, x, low);
  others = λ k d less.
      let n = length-drop at ps in
      let w = P.within in
      let g : (get_or (drop at ps) k d).label ≡ (get_or ps (at + k) d).label = ap part_label (get_or-drop at ps k d) in
      let x = here d (omega (arith, less, n, w)) in
      let y = S at (at + k) d (omega arith) (omega (arith, less, n, w)) in
      omega (arith, g, x, y);
}

-- behind the parts of a label
pub place_past : (ps : List Part) (l at end : ℕ) → IsNonDecreasingBy part_label ps → IsPlace part_label l ps at → at ≤ end → end ≤ length ps → ((k : ℕ) (d : Part) → at ≤ k → k < end → (get_or ps k d).label ≡ l) → ((d : Part) → end < length ps → (get_or ps end d).label ≡ l → ⊥) → IsPlace part_label (l + 1) ps end
place_past ps l at end S P le within same other = record {
  within = within;
  lesser = λ k d less.
      let n = length-take-le end ps within in
      let g : (get_or (take end ps) k d).label ≡ (get_or ps k d).label = ap part_label (get_or-take end ps k d (omega (arith, less, n))) in
      elim (cases_lt k at) [
        | inl low ↦
            let w = P.within in
            let m = length-take-le at ps w in
            let x = P.lesser k d (omega (arith, low, m)) in
            let h : (get_or (take at ps) k d).label ≡ (get_or ps k d).label = ap part_label (get_or-take at ps k d low) in
            omega (arith, g, h, x)
        | inr high ↦ let s = same k d high (omega (arith, less, n)) in omega (arith, g, s)
      ];
  others = λ k d less.
      let n = length-drop end ps in
      let g : (get_or (drop end ps) k d).label ≡ (get_or ps (end + k) d).label = ap part_label (get_or-drop end ps k d) in
      let there : end < length ps = omega (arith, less, n, within) in
      let y = S end (end + k) d (omega arith) (omega (arith, less, n, within)) in
      let m = length-drop at ps in
      let x = P.others (end - at) d (omega (arith, m, there, le)) in
      let h : (get_or (drop at ps) (end - at) d).label ≡ (get_or ps (at + (end - at)) d).label = ap part_label (get_or-drop at ps (end - at) d) in
      let j : at + (end - at) ≡ end = omega (arith, le) in
      let i : (get_or ps (at + (end - at)) d).label ≡ (get_or ps end d).label = ap (λ (q : ℕ). (get_or ps q d).label) j in
      elim (cases_eq (get_or ps end d).label l) [
        | inl e ↦ absurd (other d there e)
        | inr e ↦ omega (arith, g, h, i, x, y, e)
      ];
}

-- the lesser label of the next parts is the next one
pub next_told : (from i at l : ℕ) (own below : List Part) → IsNonDecreasingBy part_label own → IsNonDecreasingBy part_label below → HaveCome from own i below at → from ≤ l → ((d : Part) → i < length own → l ≤ (get_or own i d).label) → ((d : Part) → at < length below → l ≤ (get_or below at d).label) → IsLeastLabel from own i below at l
next_told from i at l own below S T C low first second = record {
  low = low;
  come = record {
    own_place = place_up own from i l S C.own_place low first;
    below_place = place_up below from at l T C.below_place low second;
  };
}

-- the label at a place is not less than the one that it is the place of
pub label_from : (ps : List Part) (from at : ℕ) (d : Part) → IsPlace part_label from ps at → at < length ps → from ≤ (get_or ps at d).label
label_from ps from at d P less =
    let n = length-drop at ps in
    let x = P.others 0 d (omega (arith, n, less)) in
    let g : (get_or (drop at ps) 0 d).label ≡ (get_or ps (at + 0) d).label = ap part_label (get_or-drop at ps 0 d) in
    let h : (get_or ps (at + 0) d).label ≡ (get_or ps at d).label = ap (λ (k : ℕ). (get_or ps k d).label) (omega arith) in
    omega (arith, x, g, h)

pub same_label : (ps : List Part) (at : ℕ) (d e : Part) → at < length ps → (get_or ps at d).label ≡ (get_or ps at e).label
same_label ps at d e less = ap part_label (get_or_default ps at d e less)
