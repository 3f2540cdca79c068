-- What a node's content and the contents of its children count as parts.
use Rattle.std.proofs.Common.{◌≡◌, ℕ, suc, ◌<◌, ◌≤◌, List, [], ◌∷◌, length, get_or, Option, Some, None, sum_by, refl, sym, ap, ◌∙◌, arith}
use Rattle.std.specs.Option.{option_to_list}
use Rattle.std.proofs.lemmas.List.{get_or_default}
use Rattle.std.proofs.lemmas.List.Sums.{sum_by-cons, sum_by-append}
use Rattle.cube_view.specs.Walks.{down, across}
use Rattle.node_arena.specs.declared.link.Link.{Link}
use Rattle.node_arena.specs.Slots.{Children, IsRising, Slot, target, children_of, slot_of, link_of}
use Rattle.shape_test.specs.Ways.{Way, count_below}
use Rattle.shape_test.specs.Agreeing.{MergesOver}
use Rattle.shape_test.specs.Parts.{PartsAgree, content_part, count_along, link_part, part_slot, parts_in, parts_of}
use Rattle.shape_test.specs.declared.parts.Part.{Part}
use Rattle.shape_test.proofs.Core.{no_step, step_first}
use Rattle.shape_test.proofs.PartLists.{child_link}

pub one_at_most : (o : Option Part) → length (option_to_list o) ≤ 1
one_at_most None = omega arith
one_at_most (Some p) = omega arith

module _ (slots : List Slot) (way : Way) (bin : ℕ) where
  -- the content as a part
  pub content_along : (label i : ℕ) → count_along slots (option_to_list (content_part slots label i)) way bin ≡ count_below slots i (across ∷ way) bin
  content_along label i = go (link_of slots i across) refl
    where
      go : (o : Option Link) → link_of slots i across ≡ o → count_along slots (option_to_list (link_part label o)) way bin ≡ count_below slots i (across ∷ way) bin
      go None e = sym (no_step slots i across way bin e)
      go (Some l) e =
          let a = sum_by-cons (λ (p : Part). count_below slots (part_slot p) way bin) (record { label = label; content = l.to }) [] in
          let s = step_first slots i across l way bin e in
          omega (arith, a, s)

  in_along : (children : Children) → count_along slots (parts_in slots children) way bin ≡ sum_by (λ (k : ℕ × Link). count_below slots (target k.1) (across ∷ way) bin) children
  in_along [] = refl
  in_along (c ∷ children) =
      let a = sum_by-append (λ (p : Part). count_below slots (part_slot p) way bin) (option_to_list (content_part slots c.0 (target c.1))) (parts_in slots children) in
      let b = content_along c.0 (target c.1) in
      let s = sum_by-cons (λ (k : ℕ × Link). count_below slots (target k.1) (across ∷ way) bin) c children in
      let r = in_along children in
      omega (arith, a, b, s, r)

same_sum : (f g : ℕ × Link → ℕ) (children : Children) → ((j : ℕ) (d : ℕ × Link) → j < length children → f (get_or children j d) ≡ g (get_or children j d)) → sum_by f children ≡ sum_by g children
same_sum f g [] same = refl
same_sum f g (c ∷ children) same =
    let a = sum_by-cons f c children in
    let b = sum_by-cons g c children in
    let h = same 0 c (omega arith) in
    let r = same_sum f g children (λ j d less. same (suc j) d (omega (arith, less))) in
    omega (arith, a, b, h, r)

-- those of the children
pub children_along : (slots : List Slot) (i : ℕ) (way : Way) (bin : ℕ) → IsRising (children_of (slot_of slots i)) → count_along slots (parts_of slots i) way bin ≡ sum_by (λ (k : ℕ × Link). count_below slots i (down k.0 ∷ across ∷ way) bin) (children_of (slot_of slots i))
children_along slots i way bin R =
    in_along slots way bin (children_of (slot_of slots i)) ∙ same_sum (λ k. count_below slots (target k.1) (across ∷ way) bin) (λ k. count_below slots i (down k.0 ∷ across ∷ way) bin) (children_of (slot_of slots i)) (λ j d less.
    let k : ℕ × Link = get_or (children_of (slot_of slots i)) j d in
    sym (step_first slots i (down k.0) k.1 (across ∷ way) bin (child_link slots i j k R less (sym (get_or_default (children_of (slot_of slots i)) j d k less)))))

-- what a node's content counts as a part, and what its children's contents do
module _ (slots : List Slot) (i n : ℕ) (whole parts : List Part) (R : IsRising (children_of (slot_of slots i))) (e : whole ≡ option_to_list (content_part slots 0 i)) (f : parts ≡ parts_of slots i) where
  whole_along : (way : Way) (bin : ℕ) → count_along slots whole way bin ≡ count_below slots i (across ∷ way) bin
  whole_along way bin = ap (λ (ps : List Part). count_along slots ps way bin) e ∙ content_along slots way bin 0 i

  parts_along : (way : Way) (bin : ℕ) → count_along slots parts way bin ≡ sum_by (λ (k : ℕ × Link). count_below slots i (down k.0 ∷ across ∷ way) bin) (children_of (slot_of slots i))
  parts_along way bin = ap (λ (ps : List Part). count_along slots ps way bin) f ∙ children_along slots i way bin R

  pub merged_sums : PartsAgree slots whole parts n → MergesOver slots i n
  merged_sums S way o bin = sym (whole_along way bin) ∙ (S way o bin ∙ parts_along way bin)

  pub sums_merged : MergesOver slots i n → PartsAgree slots whole parts n
  sums_merged S way o bin = whole_along way bin ∙ (S way o bin ∙ sym (parts_along way bin))
