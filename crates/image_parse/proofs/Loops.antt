-- Reading children, and rows, one after another, as loops do.
use Rattle.std.proofs.Common.{◌≡◌, ℕ, suc, ◌-◌, ◌+◌, ◌≤◌, ◌<◌, List, [], ◌∷◌, ◌++◌, Option, Some, None, refl, sym, ap, ◌∙◌, append_assoc, arith, option_and_then}
use Rattle.std.proofs.lemmas.List.{append-nil}
use Rattle.node_arena.specs.declared.link.Link.{Link}
use Rattle.node_arena.specs.Slots.{Children, Slot}
use Rattle.image_parse.specs.declared.fault.ImageParseFault.{ImageParseFault}
use Rattle.image_parse.specs.declared.fault.ImageParseFault.TheVariants.{NotImage, NoMemory}
use Rattle.image_parse.specs.Reading.{Front, Linked, child_at, children_at, row_at, table_rows_at, slot_at, slots_at}
use Rattle.image_parse.specs.Views.{Fails, KeepsLight, HasSlots}

-- what was read before, and what is still read
abbrev pub with_front : {X : Type 0} → List X → Option (Front (List X)) → Option (Front (List X))
with_front front read = option_and_then (λ x. Some (front ++ x.0, x.1)) read

-- the same of what has links
abbrev pub with_linked : {X : Type 0} → List X → Option (Linked (List X)) → Option (Linked (List X))
with_linked front read = option_and_then (λ x. Some (front ++ x.0, x.1, x.2)) read

regroup_front : {X : Type 0} (front : List X) (first : X) (read : Option (Front (List X))) → with_front front (option_and_then (λ x. Some (first ∷ x.0, x.1)) read) ≡ with_front (front ++ first ∷ []) read
regroup_front front first (Some x) = ap (λ xs. Some (xs, x.1)) (simp append_assoc)
regroup_front front first None = refl

regroup_linked : {X : Type 0} (front : List X) (first : X) (read : Option (Linked (List X))) → with_linked front (option_and_then (λ x. Some (first ∷ x.0, x.1, x.2)) read) ≡ with_linked (front ++ first ∷ []) read
regroup_linked front first (Some x) = ap (λ xs. Some (xs, x.1, x.2)) (simp append_assoc)
regroup_linked front first None = refl

-- a child more is read
pub child_goes : (front : Children) (count i n from next : ℕ) (bytes : List ℕ) (c : ℕ × Link) (later : ℕ) (after : List ℕ) (total : Option (Linked Children)) → i < count → child_at n from next bytes ≡ Some (c, later, after)
    → with_linked front (children_at (count - i) n from next bytes) ≡ total → with_linked (front ++ c ∷ []) (children_at (count - (i + 1)) n (c.0 + 1) later after) ≡ total
unfolding children_at
child_goes front count i n from next bytes c later after total lt h so_far =
    let k : count - i ≡ suc (count - (i + 1)) = omega arith in
    let one : with_linked front (children_at (count - i) n from next bytes) ≡ with_linked (front ++ c ∷ []) (children_at (count - (i + 1)) n (c.0 + 1) later after) = rw (k, h) (regroup_linked front c (children_at (count - (i + 1)) n (c.0 + 1) later after)) in
    sym one ∙ so_far

-- no child more is read
pub child_ends : (fault : ImageParseFault) (front : Children) (count i n from next : ℕ) (bytes : List ℕ) (total : Option (Linked Children)) → i < count → Fails fault (child_at n from next bytes)
    → with_linked front (children_at (count - i) n from next bytes) ≡ total → Fails fault total
unfolding children_at
child_ends NoMemory front count i n from next bytes total lt h so_far = tt
child_ends NotImage front count i n from next bytes total lt h so_far =
    let k : count - i ≡ suc (count - (i + 1)) = omega arith in
    let one : with_linked front (children_at (count - i) n from next bytes) ≡ None = rw (k, h) refl in
    sym so_far ∙ one

-- all children were read
pub children_done : (front : Children) (count i n from next : ℕ) (bytes : List ℕ) (total : Option (Linked Children)) → count ≤ i → with_linked front (children_at (count - i) n from next bytes) ≡ total → total ≡ Some (front, next, bytes)
unfolding children_at
children_done front count i n from next bytes total le so_far =
    let k : count - i ≡ 0 = omega arith in
    let one : with_linked front (children_at (count - i) n from next bytes) ≡ Some (front, next, bytes) = rw k (ap (λ (cs : Children). Some (cs, next, bytes)) (append-nil front)) in
    sym so_far ∙ one

-- a row more is read
pub row_goes : (front : List (ℕ × ℕ)) (count i from : ℕ) (bytes : List ℕ) (e : ℕ × ℕ) (after : List ℕ) (total : Option (Front (List (ℕ × ℕ)))) → i < count → row_at from bytes ≡ Some (e, after)
    → with_front front (table_rows_at (count - i) from bytes) ≡ total → with_front (front ++ e ∷ []) (table_rows_at (count - (i + 1)) (e.0 + 1) after) ≡ total
unfolding table_rows_at
row_goes front count i from bytes e after total lt h so_far =
    let k : count - i ≡ suc (count - (i + 1)) = omega arith in
    let one : with_front front (table_rows_at (count - i) from bytes) ≡ with_front (front ++ e ∷ []) (table_rows_at (count - (i + 1)) (e.0 + 1) after) = rw (k, h) (regroup_front front e (table_rows_at (count - (i + 1)) (e.0 + 1) after)) in
    sym one ∙ so_far

-- no row more is read
pub row_ends : (fault : ImageParseFault) (front : List (ℕ × ℕ)) (count i from : ℕ) (bytes : List ℕ) (total : Option (Front (List (ℕ × ℕ)))) → i < count → Fails fault (row_at from bytes)
    → with_front front (table_rows_at (count - i) from bytes) ≡ total → Fails fault total
unfolding table_rows_at
row_ends NoMemory front count i from bytes total lt h so_far = tt
row_ends NotImage front count i from bytes total lt h so_far =
    let k : count - i ≡ suc (count - (i + 1)) = omega arith in
    let one : with_front front (table_rows_at (count - i) from bytes) ≡ None = rw (k, h) refl in
    sym so_far ∙ one

-- all rows were read
pub rows_done : (front : List (ℕ × ℕ)) (count i from : ℕ) (bytes : List ℕ) (total : Option (Front (List (ℕ × ℕ)))) → count ≤ i → with_front front (table_rows_at (count - i) from bytes) ≡ total → total ≡ Some (front, bytes)
unfolding table_rows_at
rows_done front count i from bytes total le so_far =
    let k : count - i ≡ 0 = omega arith in
    let one : with_front front (table_rows_at (count - i) from bytes) ≡ Some (front, bytes) = rw k (ap (λ (es : List (ℕ × ℕ)). Some (es, bytes)) (append-nil front)) in
    sym so_far ∙ one

-- Slots that were read are kept, and with those that are still read they are all.
pub record ReadsOn (all : Option (Linked (List Slot))) (kept : Option (List Slot)) (read : Option (Linked (List Slot))) : Type 0 where
  pub done : List Slot
  pub so_far : with_linked done read ≡ all
  pub keeps : KeepsLight kept done

-- nothing was read before
pub reads_first : (read : Option (Linked (List Slot))) → ReadsOn read (Some []) read
reads_first read = record { done = []; so_far = whole read; keeps = (refl, tt) }
  where
    whole : (r : Option (Linked (List Slot))) → with_linked [] r ≡ r
    whole (Some x) = refl
    whole None = refl

-- a slot more is read, and kept
pub slot_goes : (count i n next : ℕ) (bytes : List ℕ) (s : Slot) (later : ℕ) (after : List ℕ) (all : Option (Linked (List Slot))) (kept now : Option (List Slot)) → i < count → slot_at n next bytes ≡ Some (s, later, after)
    → ((slots : List Slot) → KeepsLight kept slots → KeepsLight now (slots ++ s ∷ [])) → ReadsOn all kept (slots_at (count - i) n next bytes) → ReadsOn all now (slots_at (count - (i + 1)) n later after)
unfolding slots_at
slot_goes count i n next bytes s later after all kept now lt h adds R =
    let k : count - i ≡ suc (count - (i + 1)) = omega arith in
    let one : with_linked R.done (slots_at (count - i) n next bytes) ≡ with_linked (R.done ++ s ∷ []) (slots_at (count - (i + 1)) n later after) = rw (k, h) (regroup_linked R.done s (slots_at (count - (i + 1)) n later after)) in
    record { done = R.done ++ s ∷ []; so_far = sym one ∙ R.so_far; keeps = adds R.done R.keeps }

-- no slot more is read
pub slot_ends : (fault : ImageParseFault) (count i n next : ℕ) (bytes : List ℕ) (all : Option (Linked (List Slot))) (kept : Option (List Slot)) → i < count → Fails fault (slot_at n next bytes) → ReadsOn all kept (slots_at (count - i) n next bytes) → Fails fault all
unfolding slots_at
slot_ends NoMemory count i n next bytes all kept lt h R = tt
slot_ends NotImage count i n next bytes all kept lt h R =
    let k : count - i ≡ suc (count - (i + 1)) = omega arith in
    let one : with_linked R.done (slots_at (count - i) n next bytes) ≡ None = rw (k, h) refl in
    sym R.so_far ∙ one

-- all slots were read
pub slots_done : (count i n next : ℕ) (bytes : List ℕ) (all : Option (Linked (List Slot))) (kept : Option (List Slot)) → count ≤ i → ReadsOn all kept (slots_at (count - i) n next bytes) → HasSlots all kept next bytes
unfolding slots_at
slots_done count i n next bytes all kept le R =
    let k : count - i ≡ 0 = omega arith in
    let one : with_linked R.done (slots_at (count - i) n next bytes) ≡ Some (R.done, next, bytes) = rw k (ap (λ (slots : List Slot). Some (slots, next, bytes)) (append-nil R.done)) in
    record { slots = R.done; read_is = sym R.so_far ∙ one; keeps = R.keeps }
