-- Slots that are read, and that are read again.
use Rattle.std.proofs.Common.{◌≡◌, ℕ, zero, suc, ◌+◌, ◌^◌, ◌<◌, cond, eqb, List, [], ◌∷◌, ◌++◌, length, Some, None, refl, sym, ap, subst, ◌∙◌, append_assoc, arith, inl, inr, option_and_then}
use Rattle.std.specs.List.{flat_map, AllByRecursion}
use Rattle.std.proofs.lemmas.Bool.{eqb-true}
use Rattle.std.proofs.lemmas.List.{length-append}
use Rattle.std.proofs.lemmas.Option.{same_Some}
use Rattle.time_table.specs.Counts.{BinCounts}
use Rattle.node_arena.specs.Slots.{Slot, node, table}
use Rattle.cube_image.specs.Bytes.{slot_bytes}
use Rattle.cube_image.specs.Order.{owned_by}
use Rattle.image_parse.specs.Images.{IsImageSlot}
use Rattle.image_parse.specs.Reading.{Linked, byte_at, node_at, table_at, slot_at, slots_at}
use Rattle.image_parse.proofs.Fields.{IsBytes, bind_some, chosen, passes_some, Takes, Takes-then, byte_takes}
use Rattle.image_parse.proofs.LinkReads.{CountsUp, CountsUp-split, Numbers, Numbers-then, Numbers-none}
use Rattle.image_parse.proofs.NodeReads.{node_takes, node_again}
use Rattle.image_parse.proofs.TableReads.{table_takes, table_again}

-- a slot that was read
pub record IsWholeSlot (n next : ℕ) (bytes : List ℕ) (x : Linked Slot) : Type 0 where
  pub takes : Takes bytes (slot_bytes x.0) x.2
  pub fit : IsImageSlot n x.0
  pub numbers : Numbers next (owned_by x.0) x.1

-- a table owns nothing
table_owns : (s : Slot) (counts : BinCounts) → s ≡ table counts → (next : ℕ) → Numbers next (owned_by s) next
table_owns s counts e next = subst (λ (t : Slot). Numbers next (owned_by t) next) (sym e) (Numbers-none next)

pub slot_takes : (n next : ℕ) (bytes : List ℕ) (x : Linked Slot) → IsBytes bytes → slot_at n next bytes ≡ Some x → IsWholeSlot n next bytes x
unfolding slot_at
slot_takes n next bytes x fits e =
    let a = bind_some (byte_at bytes) (λ kind. cond (eqb kind.0 1) (node_at n next kind.1) (cond (eqb kind.0 2) (option_and_then (λ t. Some (t.0, next, t.1)) (table_at kind.1)) None)) x e in
    let t = byte_takes bytes a.0 fits a.1 in
    let front : (k : ℕ) → a.0.0 ≡ k → bytes ≡ k ∷ a.0.1 = λ k f. t.0.parts ∙ ap (λ (b : ℕ). b ∷ a.0.1) f in
    elim (chosen (eqb a.0.0 1) (node_at n next a.0.1) (cond (eqb a.0.0 2) (option_and_then (λ t. Some (t.0, next, t.1)) (table_at a.0.1)) None) (Some x) a.2) [
      | inl p ↦
          let k = node_takes n next a.0.1 x t.0.rest_fits p.1 in
          record { takes = subst (λ (bs : List ℕ). Takes bs (slot_bytes x.0) x.2) (sym (front 1 (eqb-true _ _ p.0))) k.takes; fit = k.fit; numbers = k.numbers }
      | inr p ↦
          let q = passes_some (eqb a.0.0 2) (option_and_then (λ t. Some (t.0, next, t.1)) (table_at a.0.1)) x p.1 in
          let b = bind_some (table_at a.0.1) (λ t. Some (t.0, next, t.1)) x q.1 in
          let k = table_takes a.0.1 b.0 t.0.rest_fits b.1 in
          let made : Linked Slot = (b.0.0, next, b.0.1) in
          let found : IsWholeSlot n next bytes made = record {
            takes = subst (λ (bs : List ℕ). Takes bs (slot_bytes b.0.0) b.0.1) (sym (front 2 (eqb-true _ _ q.0))) k.takes;
            fit = k.fit n;
            numbers = table_owns b.0.0 _ k.is next;
          } in
          subst (IsWholeSlot n next bytes) (same_Some made x b.2) found
    ]

pub slot_again : (n next : ℕ) (s : Slot) (rest : List ℕ) → IsImageSlot n s → n < 2 ^ 64 → CountsUp next (owned_by s) → slot_at n next (slot_bytes s ++ rest) ≡ Some (s, next + length (owned_by s), rest)
unfolding slot_at
slot_again n next (node cs content) rest fit small counts = node_again n next cs content rest _ fit.0 fit.1 small counts refl
slot_again n next (table es) rest fit small counts =
    let none : next ≡ next + 0 = omega arith in
    rw (table_again es rest _ fit refl) (ap (λ (k : ℕ). Some (table es, k, rest)) none)

-- slots that were read
pub record AreSlotsAt (k n next : ℕ) (bytes : List ℕ) (x : Linked (List Slot)) : Type 0 where
  pub takes : Takes bytes (flat_map slot_bytes x.0) x.2
  pub count : length x.0 ≡ k
  pub fit : AllByRecursion (IsImageSlot n) x.0
  pub numbers : Numbers next (flat_map owned_by x.0) x.1

pub slots_take : (k n next : ℕ) (bytes : List ℕ) (x : Linked (List Slot)) → IsBytes bytes → slots_at k n next bytes ≡ Some x → AreSlotsAt k n next bytes x
unfolding slots_at
slots_take zero n next bytes x fits e =
    subst (AreSlotsAt 0 n next bytes) (same_Some ([], next, bytes) x e) (record { takes = record { parts = refl; rest_fits = fits }; count = refl; fit = tt; numbers = Numbers-none next })
slots_take (suc k) n next bytes x fits e =
    let a = bind_some (slot_at n next bytes) (λ first. option_and_then (λ others. Some (first.0 ∷ others.0, others.1, others.2)) (slots_at k n first.1 first.2)) x e in
    let b = bind_some (slots_at k n a.0.1 a.0.2) (λ others. Some (a.0.0 ∷ others.0, others.1, others.2)) x a.2 in
    let first = slot_takes n next bytes a.0 fits a.1 in
    let others = slots_take k n a.0.1 a.0.2 b.0 first.takes.rest_fits b.1 in
    let made : Linked (List Slot) = (a.0.0 ∷ b.0.0, b.0.1, b.0.2) in
    subst (AreSlotsAt (suc k) n next bytes) (same_Some made x b.2) (record {
      takes = Takes-then bytes (slot_bytes a.0.0) a.0.2 (flat_map slot_bytes b.0.0) b.0.2 first.takes others.takes;
      count = ap suc others.count;
      fit = (first.fit, others.fit);
      numbers = Numbers-then next (owned_by a.0.0) a.0.1 (flat_map owned_by b.0.0) b.0.1 first.numbers others.numbers;
    })

pub slots_again : (n next : ℕ) (slots : List Slot) (rest : List ℕ) → AllByRecursion (IsImageSlot n) slots → n < 2 ^ 64 → CountsUp next (flat_map owned_by slots) → slots_at (length slots) n next (flat_map slot_bytes slots ++ rest) ≡ Some (slots, next + length (flat_map owned_by slots), rest)
unfolding slots_at
slots_again n next [] rest fit small counts = let none : next ≡ next + 0 = omega arith in ap (λ (k : ℕ). Some ([], k, rest)) none
slots_again n next (s ∷ slots) rest fit small counts =
    let regrouped : flat_map slot_bytes (s ∷ slots) ++ rest ≡ slot_bytes s ++ (flat_map slot_bytes slots ++ rest) = append_assoc (slot_bytes s) (flat_map slot_bytes slots) rest in
    let parts = CountsUp-split next (owned_by s) (flat_map owned_by slots) counts in
    let sum : (next + length (owned_by s)) + length (flat_map owned_by slots) ≡ next + length (flat_map owned_by (s ∷ slots)) = omega (arith, length-append (owned_by s) (flat_map owned_by slots)) in
    ap (slots_at (suc (length slots)) n next) regrouped
    ∙ (rw (slot_again n next s (flat_map slot_bytes slots ++ rest) fit.0 small parts.0, slots_again n (next + length (owned_by s)) slots rest fit.1 small parts.1) refl
    ∙ ap (λ (k : ℕ). Some (s ∷ slots, k, rest)) sum)
