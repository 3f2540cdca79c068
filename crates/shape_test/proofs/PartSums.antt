-- What the parts of one label count, and the parts under others.
use Rattle.std.proofs.Common.{◌≡◌, ℕ, suc, ◌+◌, ◌-◌, ◌<◌, ◌≤◌, Bool, true, false, cond, eqb, eqb-true, eq-eqb, ne_eqb, List, [], ◌∷◌, length, take, drop, get_or, Option, Some, None, sum_by, refl, sym, ap, ◌∙◌, subst, arith}
use Rattle.std.specs.Option.{option_to_list}
use Rattle.std.specs.List.{slice_range}
use Rattle.std.proofs.lemmas.List.{take-append-drop, get_or-take, get_or-drop, length-take-le, length-drop}
use Rattle.std.proofs.lemmas.List.Folds.{drop_split}
use Rattle.std.proofs.lemmas.List.Sorted.{sum_by-IsPermutation}
use Rattle.std.proofs.lemmas.List.Sums.{sum_by-cons, sum_by-append}
use Rattle.cube_view.specs.Walks.{down, across}
use Rattle.node_arena.specs.declared.link.Link.{Link}
use Rattle.node_arena.specs.Slots.{Children, IsRising, Slot, target, child, children_of, slot_of, link_of}
use Rattle.node_arena.proofs.Labels.{link_down, rising-tail, none_before}
use Rattle.probe_core.specs.Places.{IsPlace}
use Rattle.shape_test.specs.Ways.{Way, count_below}
use Rattle.shape_test.proofs.Core.{no_step, step_first}
use Rattle.shape_test.specs.Parts.{AreUnder, HaveRising, content_part, count_along, link_part, part_label, part_slot, parts_in, parts_of, parts_under}
use Rattle.shape_test.specs.declared.parts.Part.{Part}

-- what a number of each part's slot gives together for the parts of a label
abbrev pub one_of : (ℕ → ℕ) → ℕ → Part → ℕ
one_of f l p = cond {A = ℕ} (eqb l p.label) (f (part_slot p)) 0

abbrev pub label_sum : (ℕ → ℕ) → ℕ → List Part → ℕ
label_sum f l parts = sum_by (one_of f l) parts

abbrev pub slot_sum : (ℕ → ℕ) → List Part → ℕ
slot_sum f parts = sum_by (λ p. f (part_slot p)) parts

one_here : (f : ℕ → ℕ) (l : ℕ) (p : Part) → l ≡ p.label → one_of f l p ≡ f (part_slot p)
one_here f l p e = ap (λ (t : Bool). cond {A = ℕ} t (f (part_slot p)) 0) (eq-eqb l p.label e)

one_away : (f : ℕ → ℕ) (l : ℕ) (p : Part) → (l ≡ p.label → ⊥) → one_of f l p ≡ 0
one_away f l p e = ap (λ (t : Bool). cond {A = ℕ} t (f (part_slot p)) 0) (ne_eqb l p.label e)

-- none is of the label
none_sum : (f : ℕ → ℕ) (l : ℕ) (parts : List Part) → ((k : ℕ) (d : Part) → k < length parts → l ≡ (get_or parts k d).label → ⊥) → label_sum f l parts ≡ 0
none_sum f l [] none = refl
none_sum f l (p ∷ parts) none =
    let a = sum_by-cons (one_of f l) p parts in
    let b = one_away f l p (none 0 p (omega arith)) in
    let r = none_sum f l parts (λ k d less. none (suc k) d (omega (arith, less))) in
    omega (arith, a, b, r)

-- all are
all_sum : (f : ℕ → ℕ) (l : ℕ) (parts : List Part) → ((k : ℕ) (d : Part) → k < length parts → l ≡ (get_or parts k d).label) → label_sum f l parts ≡ slot_sum f parts
all_sum f l [] all = refl
all_sum f l (p ∷ parts) all =
    let a = sum_by-cons (one_of f l) p parts in
    let s = sum_by-cons (λ (q : Part). f (part_slot q)) p parts in
    let b = one_here f l p (all 0 p (omega arith)) in
    let r = all_sum f l parts (λ k d less. all (suc k) d (omega (arith, less))) in
    omega (arith, a, s, b, r)

module _ (parts : List Part) where
  -- a label that all parts before a place have less than
  before : (from at k : ℕ) (d : Part) → IsPlace part_label from parts at → k < at → (get_or parts k d).label < from
  before from at k d P less =
      let w = P.within in
      let n = length-take-le at parts w in
      let x = P.lesser k d (omega (arith, less, n)) in
      let e : (get_or (take at parts) k d).label ≡ (get_or parts k d).label = ap part_label (get_or-take at parts k d less) in
      omega (arith, x, e)

  behind : (from at k : ℕ) (d : Part) → IsPlace part_label from parts at → at ≤ k → k < length parts → from ≤ (get_or parts k d).label
  behind from at k d P le less =
      let n = length-drop at parts in
      let x = P.others (k - at) d (omega (arith, less, le, n)) in
      let e : (get_or (drop at parts) (k - at) d).label ≡ (get_or parts (at + (k - at)) d).label = ap part_label (get_or-drop at parts (k - at) d) in
      let m : at + (k - at) ≡ k = omega (arith, le) in
      let g : (get_or parts (at + (k - at)) d).label ≡ (get_or parts k d).label = ap (λ (j : ℕ). (get_or parts j d).label) m in
      omega (arith, x, e, g)

  -- the parts of a label stand between the places of it and of the next
  pub run_sum : (f : ℕ → ℕ) (l at end : ℕ) → at ≤ end → IsPlace part_label l parts at → IsPlace part_label (l + 1) parts end → label_sum f l parts ≡ slot_sum f (slice_range parts at end)
  run_sum f l at end le P Q =
      let in_all = Q.within in
      let front = none_sum f l (take at parts) (λ k d less e.
      let w = P.within in
      let n = length-take-le at parts w in
      let x = before l at k d P (omega (arith, less, n)) in
      let g : (get_or (take at parts) k d).label ≡ (get_or parts k d).label = ap part_label (get_or-take at parts k d (omega (arith, less, n))) in
      omega (arith, x, g, e)) in
      let back = none_sum f l (drop end parts) (λ k d less e.
      let n = length-drop end parts in
      let x = behind (l + 1) end (end + k) d Q (omega arith) (omega (arith, less, n, in_all)) in
      let g : (get_or (drop end parts) k d).label ≡ (get_or parts (end + k) d).label = ap part_label (get_or-drop end parts k d) in
      omega (arith, x, g, e)) in
      let mid = all_sum f l (slice_range parts at end) (λ k d less. run_label l at end k d le P Q less) in
      let a = ap (λ (ps : List Part). label_sum f l ps) (sym (take-append-drop at parts)) in
      let b = sum_by-append (one_of f l) (take at parts) (drop at parts) in
      let c = ap (λ (ps : List Part). label_sum f l ps) (drop_split parts at end le) in
      let e = sum_by-append (one_of f l) (slice_range parts at end) (drop end parts) in
      omega (arith, front, back, mid, a, b, c, e)
    where
      run_label : (l at end k : ℕ) (d : Part) → at ≤ end → IsPlace part_label l parts at → IsPlace part_label (l + 1) parts end → k < length (slice_range parts at end) → l ≡ (get_or (slice_range parts at end) k d).label
      run_label l at end k d le P Q less =
          let w = Q.within in
          let n = length-drop at parts in
          let m = length-take-le (end - at) (drop at parts) (omega (arith, n, w, le)) in
          let short : k < end - at = omega (arith, m, less) in
          let g : (get_or (slice_range parts at end) k d).label ≡ (get_or (drop at parts) k d).label = ap part_label (get_or-take (end - at) (drop at parts) k d short) in
          let h : (get_or (drop at parts) k d).label ≡ (get_or parts (at + k) d).label = ap part_label (get_or-drop at parts k d) in
          let x = behind l at (at + k) d P (omega arith) (omega (arith, short, w)) in
          let y = before (l + 1) end (at + k) d Q (omega (arith, short)) in
          omega (arith, g, h, x, y)

  -- a place of a label is that of an earlier one that no part has between
  pub place_between : (from m l at : ℕ) → from ≤ m → m ≤ l → IsPlace part_label from parts at → IsPlace part_label l parts at → IsPlace part_label m parts at
  place_between from m l at low high P Q = record {
    within = P.within;
    lesser = λ k d less. let x = P.lesser k d less in omega (arith, x, low);
    others = λ k d less. let x = Q.others k d less in omega (arith, x, high);
  }

-- ---- the contents of children

-- what a number of the content of a child gives, if there is one
abbrev pub part_value : (ℕ → ℕ) → Option Part → ℕ
part_value f None = 0
part_value f (Some p) = f (part_slot p)

abbrev pub link_value : List Slot → (ℕ → ℕ) → Option Link → ℕ
link_value slots f None = 0
link_value slots f (Some k) = part_value f (content_part slots 0 (target k))

-- no later child has the first one's label
later_none : (ks : Children) (k : ℕ × Link) → IsRising (k ∷ ks) → child ks k.0 ≡ None
later_none [] k R = refl
later_none (x ∷ ks) k R = none_before x ks k.0 (rising-tail k (x ∷ ks) R) (R 0 1 k (omega arith) (omega arith))

module _ (slots : List Slot) (f : ℕ → ℕ) where
  same_value : (a b : ℕ) (o : Option Link) → part_value f (link_part a o) ≡ part_value f (link_part b o)
  same_value a b None = refl
  same_value a b (Some l) = refl

  one_part : (l c : ℕ) (o : Option Link) → label_sum f l (option_to_list (link_part c o)) ≡ cond {A = ℕ} (eqb l c) (part_value f (link_part c o)) 0
  one_part l c None = none (eqb l c)
    where
      none : (t : Bool) → 0 ≡ cond {A = ℕ} t 0 0
      none true = refl
      none false = refl
  one_part l c (Some k) = let a = sum_by-cons (one_of f l) (record { label = c; content = k.to }) [] in omega (arith, a)

  -- one of the children at most has the label
  pub children_sum : (children : Children) (l : ℕ) → IsRising children → label_sum f l (parts_in slots children) ≡ link_value slots f (child children l)
  children_sum [] l R = refl
  children_sum (c ∷ cs) l R = go (eqb c.0 l) refl (children_sum cs l (rising-tail c cs R))
    where
      first : label_sum f l (parts_in slots (c ∷ cs)) ≡ cond {A = ℕ} (eqb l c.0) (part_value f (content_part slots c.0 (target c.1))) 0 + label_sum f l (parts_in slots cs)
      first =
          let a = sum_by-append (one_of f l) (option_to_list (content_part slots c.0 (target c.1))) (parts_in slots cs) in
          let b = one_part l c.0 (link_of slots (target c.1) across) in
          omega (arith, a, b)

      go : (t : Bool) → eqb c.0 l ≡ t → label_sum f l (parts_in slots cs) ≡ link_value slots f (child cs l) → label_sum f l (parts_in slots (c ∷ cs)) ≡ link_value slots f (cond t (Some c.1) (child cs l))
      go true e rest =
          let same : c.0 ≡ l = eqb-true c.0 l e in
          let here = ap (λ (t : Bool). cond {A = ℕ} t (part_value f (content_part slots c.0 (target c.1))) 0) (eq-eqb l c.0 (sym same)) in
          let value = same_value c.0 0 (link_of slots (target c.1) across) in
          let none : link_value slots f (child cs l) ≡ 0 = ap (link_value slots f) (subst (λ (n : ℕ). child cs n ≡ None) same (later_none cs c R)) in
          omega (arith, first, rest, here, value, none)
      go false e rest =
          let away = ap (λ (t : Bool). cond {A = ℕ} t (part_value f (content_part slots c.0 (target c.1))) 0) (ne_eqb l c.0 (λ s. let z = eq-eqb c.0 l (sym s) in let w : true ≡ false = sym z ∙ e in absurd cc)) in
          omega (arith, first, rest, away)

  -- so of all parts together
  pub under_sum : (parts : List Part) (l : ℕ) → HaveRising slots parts → label_sum f l (parts_under slots parts) ≡ sum_by (λ p. link_value slots f (child (children_of (slot_of slots (part_slot p))) l)) parts
  under_sum [] l H = refl
  under_sum (p ∷ parts) l H =
      let a = sum_by-append (one_of f l) (parts_of slots (part_slot p)) (parts_under slots parts) in
      let b = children_sum (children_of (slot_of slots (part_slot p))) l (H 0 p (omega arith)) in
      let s = sum_by-cons (λ (q : Part). link_value slots f (child (children_of (slot_of slots (part_slot q))) l)) p parts in
      let r = under_sum parts l (λ k d less. H (suc k) d (omega (arith, less))) in
      omega (arith, a, b, s, r)

-- a step down and across
value_step : (slots : List Slot) (i l : ℕ) (way : Way) (bin : ℕ) → link_value slots (λ e. count_below slots e way bin) (child (children_of (slot_of slots i)) l) ≡ count_below slots i (down l ∷ across ∷ way) bin
value_step slots i l way bin = go (link_of slots i (down l)) refl
  where
    from_child : (o : Option Link) → link_of slots i (down l) ≡ o → link_value slots (λ e. count_below slots e way bin) (child (children_of (slot_of slots i)) l) ≡ link_value slots (λ e. count_below slots e way bin) o
    from_child o e = ap (link_value slots (λ e. count_below slots e way bin)) (sym (link_down (slot_of slots i) l) ∙ e)

    over : (k : Link) (o : Option Link) → link_of slots (target k) across ≡ o → part_value (λ e. count_below slots e way bin) (link_part 0 o) ≡ count_below slots (target k) (across ∷ way) bin
    over k None e = sym (no_step slots (target k) across way bin e)
    over k (Some c) e = sym (step_first slots (target k) across c way bin e)

    go : (o : Option Link) → link_of slots i (down l) ≡ o → link_value slots (λ e. count_below slots e way bin) (child (children_of (slot_of slots i)) l) ≡ count_below slots i (down l ∷ across ∷ way) bin
    go None e = from_child None e ∙ sym (no_step slots i (down l) (across ∷ way) bin e)
    go (Some k) e = from_child (Some k) e ∙ (over k (link_of slots (target k) across) refl ∙ sym (step_first slots i (down l) k (across ∷ way) bin e))

same_steps : (slots : List Slot) (parts : List Part) (l : ℕ) (way : Way) (bin : ℕ) → sum_by (λ p. link_value slots (λ e. count_below slots e way bin) (child (children_of (slot_of slots (part_slot p))) l)) parts ≡ count_along slots parts (down l ∷ across ∷ way) bin
same_steps slots [] l way bin = refl
same_steps slots (p ∷ parts) l way bin =
    let a = sum_by-cons (λ (q : Part). link_value slots (λ e. count_below slots e way bin) (child (children_of (slot_of slots (part_slot q))) l)) p parts in
    let b = sum_by-cons (λ (q : Part). count_below slots (part_slot q) (down l ∷ across ∷ way) bin) p parts in
    let v = value_step slots (part_slot p) l way bin in
    let r = same_steps slots parts l way bin in
    omega (arith, a, b, v, r)

-- the parts under others count behind a label what these count along it
pub under_counts : (slots : List Slot) (parts below : List Part) (l : ℕ) (way : Way) (bin : ℕ) → AreUnder slots parts below → label_sum (λ e. count_below slots e way bin) l below ≡ count_along slots parts (down l ∷ across ∷ way) bin
under_counts slots parts below l way bin U =
    sum_by-IsPermutation (one_of (λ e. count_below slots e way bin) l) (parts_under slots parts) below U.same ∙ (under_sum slots (λ e. count_below slots e way bin) parts l U.rising ∙ same_steps slots parts l way bin)

-- under one slot at most one part has a label
one_value : (slots : List Slot) (o : Option Link) → link_value slots (λ e. 1) o ≤ 1
one_value slots None = omega arith
one_value slots (Some k) = go (link_of slots (target k) across)
  where
    go : (c : Option Link) → part_value (λ e. 1) (link_part 0 c) ≤ 1
    go None = omega arith
    go (Some c) = omega arith

slot_ones : (parts : List Part) → slot_sum (λ e. 1) parts ≡ length parts
slot_ones [] = refl
slot_ones (p ∷ parts) =
    let a = sum_by-cons (λ (q : Part). 1) p parts in
    let r = slot_ones parts in
    omega (arith, a, r)

under_one : (slots : List Slot) (parts below : List Part) (l : ℕ) → AreUnder slots parts below → length parts ≤ 1 → label_sum (λ e. 1) l below ≤ 1
under_one slots parts below l U one =
    let a = sum_by-IsPermutation (one_of (λ e. 1) l) (parts_under slots parts) below U.same in
    let b = under_sum slots (λ e. 1) parts l U.rising in
    let c = go parts one in
    omega (arith, a, b, c)
  where
    go : (ps : List Part) → length ps ≤ 1 → sum_by (λ p. link_value slots (λ e. 1) (child (children_of (slot_of slots (part_slot p))) l)) ps ≤ 1
    go [] short = omega arith
    go (p ∷ []) short =
        let s = sum_by-cons (λ (q : Part). link_value slots (λ e. 1) (child (children_of (slot_of slots (part_slot q))) l)) p [] in
        let v = one_value slots (child (children_of (slot_of slots (part_slot p))) l) in
        omega (arith, s, v)
    go (p ∷ q ∷ ps) short = absurd (omega (arith, short))

pub run_one : (slots : List Slot) (parts below : List Part) (l at end : ℕ) → AreUnder slots parts below → length parts ≤ 1 → at ≤ end → IsPlace part_label l below at → IsPlace part_label (l + 1) below end → length (slice_range below at end) ≤ 1
run_one slots parts below l at end U one le P Q =
    let a = run_sum below (λ e. 1) l at end le P Q in
    let b = slot_ones (slice_range below at end) in
    let c = under_one slots parts below l U one in
    omega (arith, a, b, c)
