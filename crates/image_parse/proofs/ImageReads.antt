-- Whole images that are read, and that are read again.
use Rattle.std.proofs.Common.{◌≡◌, ◌≢◌, ℕ, zero, suc, ◌+◌, ◌^◌, ◌<◌, ◌≤◌, true, false, cond, eqb, ltb, nat_eq, List, [], ◌∷◌, ◌++◌, length, take, drop, codes, Option, Some, None, Result, Ok, Err, MatchResult, MatchOption, IfOk, refl, sym, ap, subst, ◌∙◌, append_assoc, arith, eq-eqb, option_and_then}
use Rattle.std.specs.Int.{w64, to_be_bytes}
use Rattle.std.specs.List.{flat_map, range_with_len, starts_with, AllByRecursion}
use Rattle.std.specs.Cmp.Lexicographic.{same_text}
use Rattle.std.proofs.lemmas.Bool.{eqb-true, le-ltb, ne_eqb}
use Rattle.std.proofs.lemmas.List.{append-nil, nil_from_length, take-append-drop, length-append}
use Rattle.std.proofs.lemmas.List.FromFn.{length-range_with_len}
use Rattle.std.proofs.lemmas.Option.{same_Some}
use Rattle.node_arena.specs.Slots.{Slot, node, table}
use Rattle.cube_image.specs.Bytes.{head_bytes, slot_bytes}
use Rattle.cube_image.specs.Order.{owned_by, IsNumbered}
use Rattle.image_parse.specs.declared.fault.ImageParseFault.{ImageParseFault}
use Rattle.image_parse.specs.declared.fault.ImageParseFault.TheVariants.{NotImage, NoMemory}
use Rattle.image_parse.specs.declared.image.ParsedImage.{ParsedImage}
use Rattle.image_parse.specs.Images.{IsImageSlot, IsImage, IsLightImage, IsHeavyImage, IsNoImage}
use Rattle.image_parse.specs.Laws.{TellsOneMeaning}
use Rattle.image_parse.specs.Reading.{Front, Linked, width_number_at, slots_at, form_name_at, head_at, end_at, all_at, image_at}
use Rattle.image_parse.specs.Views.{Fails, KeepsLight, HasSlots, HasImage}
use Rattle.image_parse.proofs.Fields.{IsBytes, bind_some, fails_some, passes_some, Takes, Takes-then, wide64, number_takes, number_again, IsBytes-drop}
use Rattle.image_parse.proofs.LinkReads.{CountsUp, Numbers}
use Rattle.image_parse.proofs.SlotReads.{slots_take, slots_again}

-- ---- the head

name_takes : (bytes rest : List ℕ) → IsBytes bytes → form_name_at bytes ≡ Some rest → Takes bytes (codes "NANOCUB1") rest
unfolding form_name_at
name_takes bytes rest fits e =
    let g = passes_some (starts_with nat_eq bytes (codes "NANOCUB1")) (Some (drop 8 bytes)) rest e in
    let front : codes "NANOCUB1" ≡ take 8 bytes = same_text (codes "NANOCUB1") (take 8 bytes) (sym g.0) in
    let parts : bytes ≡ codes "NANOCUB1" ++ drop 8 bytes = sym (take-append-drop 8 bytes) ∙ ap (λ (t : List ℕ). t ++ drop 8 bytes) (sym front) in
    subst (λ (r : List ℕ). Takes bytes (codes "NANOCUB1") r) (same_Some (drop 8 bytes) rest g.1) (record { parts = parts; rest_fits = IsBytes-drop 8 bytes fits })

name_again : (rest : List ℕ) → form_name_at (codes "NANOCUB1" ++ rest) ≡ Some rest
unfolding form_name_at
name_again rest = refl

-- the head of an image
record IsHead (bytes : List ℕ) (x : Front (ℕ × ℕ)) : Type 0 where
  takes : Takes bytes (head_bytes x.0.0 x.0.1) x.1
  size : x.0.0 < 2 ^ 64
  slots : x.0.1 < 2 ^ 64

head_takes : (bytes : List ℕ) (x : Front (ℕ × ℕ)) → IsBytes bytes → head_at bytes ≡ Some x → IsHead bytes x
unfolding head_at
head_takes bytes x fits e =
    let a = bind_some (form_name_at bytes) (λ rest. option_and_then (λ size. option_and_then (λ slots. Some ((size.0, slots.0), slots.1)) (width_number_at w64 size.1)) (width_number_at w64 rest)) x e in
    let b = bind_some (width_number_at w64 a.0) (λ size. option_and_then (λ slots. Some ((size.0, slots.0), slots.1)) (width_number_at w64 size.1)) x a.2 in
    let c = bind_some (width_number_at w64 b.0.1) (λ slots. Some ((b.0.0, slots.0), slots.1)) x b.2 in
    let t = name_takes bytes a.0 fits a.1 in
    let u = number_takes w64 (2 ^ 64) wide64 a.0 b.0 t.rest_fits b.1 in
    let v = number_takes w64 (2 ^ 64) wide64 b.0.1 c.0 u.0.rest_fits c.1 in
    let second = Takes-then bytes (codes "NANOCUB1") a.0 (to_be_bytes w64 b.0.0) b.0.1 t u.0 in
    let made : Front (ℕ × ℕ) = ((b.0.0, c.0.0), c.0.1) in
    subst (IsHead bytes) (same_Some made x c.2) (record { takes = Takes-then bytes (codes "NANOCUB1" ++ to_be_bytes w64 b.0.0) b.0.1 (to_be_bytes w64 c.0.0) c.0.1 second v.0; size = u.1; slots = v.1 })

head_again : (size n : ℕ) (rest : List ℕ) → size < 2 ^ 64 → n < 2 ^ 64 → head_at (head_bytes size n ++ rest) ≡ Some ((size, n), rest)
unfolding head_at
head_again size n rest small few =
    let grouped : head_bytes size n ++ rest ≡ codes "NANOCUB1" ++ (to_be_bytes w64 size ++ (to_be_bytes w64 n ++ rest)) = append_assoc (codes "NANOCUB1" ++ to_be_bytes w64 size) (to_be_bytes w64 n) rest ∙ append_assoc (codes "NANOCUB1") (to_be_bytes w64 size) (to_be_bytes w64 n ++ rest) in
    ap head_at grouped
    ∙ rw (name_again (to_be_bytes w64 size ++ (to_be_bytes w64 n ++ rest)), number_again w64 (2 ^ 64) wide64 size (to_be_bytes w64 n ++ rest) small, number_again w64 (2 ^ 64) wide64 n rest few) refl

-- ---- the numbers of slots

range_from : (a : ℕ) (xs : List ℕ) → CountsUp a xs → xs ≡ range_with_len a (length xs)
range_from a [] counts = refl
range_from a (x ∷ xs) counts = ap (λ (y : ℕ). y ∷ xs) counts.0 ∙ ap (λ (ys : List ℕ). a ∷ ys) (range_from (a + 1) xs counts.1)

range_counts : (a n : ℕ) → CountsUp a (range_with_len a n)
range_counts a zero = tt
range_counts a (suc n) = (refl, range_counts (a + 1) n)

numbered_from : (slots : List Slot) (n : ℕ) → length slots ≡ n → Numbers 1 (flat_map owned_by slots) n → IsNumbered slots
numbered_from slots n size N =
    let owned = flat_map owned_by slots in
    let e : length slots ≡ suc (length owned) = omega (arith, size, N.next_is) in
    ap (λ (xs : List ℕ). 0 ∷ xs) (range_from 1 owned N.counts) ∙ ap (range_with_len 0) (sym e)

-- slots in an image's order are numbered so, and all but the root
record AreNumbered (owned : List ℕ) (n : ℕ) : Type 0 where
  counts : CountsUp 1 owned
  number : 1 + length owned ≡ n

numbers_in : (owned : List ℕ) (n : ℕ) → 0 ∷ owned ≡ range_with_len 0 n → AreNumbered owned n
numbers_in owned zero e = absurd cc
numbers_in owned (suc n) e =
    let f : owned ≡ range_with_len 1 n = cc in
    let size : length owned ≡ n = ap length f ∙ length-range_with_len 1 n in
    record { counts = subst (CountsUp 1) (sym f) (range_counts 1 n); number = omega (arith, size) }

-- ---- all slots

-- the end
record IsEnd (n : ℕ) (slots : Linked (List Slot)) (all : List Slot) : Type 0 where
  next : slots.1 ≡ n
  nothing : slots.2 ≡ []
  same : slots.0 ≡ all

end_takes : (n : ℕ) (slots : Linked (List Slot)) (all : List Slot) → end_at n slots ≡ Some all → IsEnd n slots all
unfolding end_at
end_takes n slots all e =
    let a = passes_some (eqb slots.1 n) (cond (eqb (length slots.2) 0) (Some slots.0) None) all e in
    let b = passes_some (eqb (length slots.2) 0) (Some slots.0) all a.1 in
    record { next = eqb-true _ _ a.0; nothing = nil_from_length slots.2 (eqb-true _ _ b.0); same = same_Some slots.0 all b.1 }

-- slots behind a head
record AreAll (n size : ℕ) (bytes : List ℕ) (x : ℕ × List Slot) : Type 0 where
  size_is : x.0 ≡ size
  text : bytes ≡ flat_map slot_bytes x.1
  number : length x.1 ≡ n
  fit : AllByRecursion (IsImageSlot n) x.1
  numbered : IsNumbered x.1

all_take : (n size : ℕ) (bytes : List ℕ) (x : ℕ × List Slot) → IsBytes bytes → all_at n size bytes ≡ Some x → AreAll n size bytes x
unfolding all_at
all_take n size bytes x fits e =
    let a = bind_some (slots_at n n 1 bytes) (λ slots. option_and_then (λ all. Some (size, all)) (end_at n slots)) x e in
    let b = bind_some (end_at n a.0) (λ all. Some (size, all)) x a.2 in
    let s = slots_take n n 1 bytes a.0 fits a.1 in
    let E = end_takes n a.0 b.0 b.1 in
    let made : ℕ × List Slot = (size, a.0.0) in
    let same : made ≡ x = ap (λ (all : List Slot). (size, all)) E.same ∙ same_Some (size, b.0) x b.2 in
    let text : bytes ≡ flat_map slot_bytes a.0.0 = s.takes.parts ∙ (ap (λ (r : List ℕ). flat_map slot_bytes a.0.0 ++ r) E.nothing ∙ append-nil (flat_map slot_bytes a.0.0)) in
    let N : Numbers 1 (flat_map owned_by a.0.0) n = subst (Numbers 1 (flat_map owned_by a.0.0)) E.next s.numbers in
    subst (AreAll n size bytes) same (record { size_is = refl; text = text; number = s.count; fit = s.fit; numbered = numbered_from a.0.0 n s.count N })

all_again : (size : ℕ) (slots : List Slot) → length slots < 2 ^ 64 → AllByRecursion (IsImageSlot (length slots)) slots → IsNumbered slots → all_at (length slots) size (flat_map slot_bytes slots) ≡ Some (size, slots)
unfolding all_at end_at
all_again size slots few fit numbered =
    let n = length slots in
    let N = numbers_in (flat_map owned_by slots) n numbered in
    let read : slots_at n n 1 (flat_map slot_bytes slots) ≡ Some (slots, 1 + length (flat_map owned_by slots), []) = ap (slots_at n n 1) (sym (append-nil (flat_map slot_bytes slots))) ∙ slots_again n 1 slots [] fit few N.counts in
    rw (read, eq-eqb (1 + length (flat_map owned_by slots)) n N.number) refl

-- nothing is read where no slots are
pub all_ends : (fault : ImageParseFault) (n size : ℕ) (bytes : List ℕ) → Fails fault (slots_at n n 1 bytes) → Fails fault (all_at n size bytes)
unfolding all_at
all_ends NoMemory n size bytes h = tt
all_ends NotImage n size bytes h = rw h refl

-- nor where some slot has no proper link to it, or bytes are left
pub all_other : (n size next : ℕ) (bytes rest : List ℕ) (kept : Option (List Slot)) → HasSlots (slots_at n n 1 bytes) kept next rest → next ≢ n → all_at n size bytes ≡ None
unfolding all_at end_at
all_other n size next bytes rest kept H other = rw (H.read_is, ne_eqb next n other) refl

pub all_longer : (n size next : ℕ) (bytes rest : List ℕ) (kept : Option (List Slot)) → HasSlots (slots_at n n 1 bytes) kept next rest → next ≡ n → eqb (length rest) 0 ≡ false → all_at n size bytes ≡ None
unfolding all_at end_at
all_longer n size next bytes rest kept H same left = rw (H.read_is, eq-eqb next n same, left) refl

all_read : (n size next : ℕ) (bytes rest : List ℕ) (kept : Option (List Slot)) → (H : HasSlots (slots_at n n 1 bytes) kept next rest) → next ≡ n → eqb (length rest) 0 ≡ true → all_at n size bytes ≡ Some (size, H.slots)
unfolding all_at end_at
all_read n size next bytes rest kept H same none = rw (H.read_is, eq-eqb next n same, none) refl

-- else the slots that were read are all
pub all_some : (n size next : ℕ) (bytes rest : List ℕ) (kept : Option (List Slot)) (arena : List Slot) → HasSlots (slots_at n n 1 bytes) kept next rest → next ≡ n → eqb (length rest) 0 ≡ true → kept ≡ Some arena → HasImage (all_at n size bytes) (Some (record { arena = arena; size = size }))
all_some n size next bytes rest kept arena H same none is =
    let K : KeepsLight (Some arena) H.slots = subst (λ (k : Option (List Slot)). KeepsLight k H.slots) is H.keeps in
    record { size = size; slots = H.slots; read_is = all_read n size next bytes rest kept H same none; keeps = (refl, K.0, K.1) }

pub all_none : (n size next : ℕ) (bytes rest : List ℕ) (kept : Option (List Slot)) → HasSlots (slots_at n n 1 bytes) kept next rest → next ≡ n → eqb (length rest) 0 ≡ true → kept ≡ None → HasImage (all_at n size bytes) None
all_none n size next bytes rest kept H same none is =
    record { size = size; slots = H.slots; read_is = all_read n size next bytes rest kept H same none; keeps = subst (λ (k : Option (List Slot)). KeepsLight k H.slots) is H.keeps }

-- ---- images

slot_some : (s : Slot) → 1 ≤ length (slot_bytes s)
slot_some (node cs content) = omega arith
slot_some (table counts) = omega arith

pub slots_few : (slots : List Slot) → length slots ≤ length (flat_map slot_bytes slots)
slots_few [] = omega arith
slots_few (s ∷ slots) = let r = slots_few slots in let one = slot_some s in omega (arith, length-append (slot_bytes s) (flat_map slot_bytes slots), r, one)

pub image_takes : (bytes : List ℕ) (x : ℕ × List Slot) → IsBytes bytes → image_at bytes ≡ Some x → IsImage bytes x.0 x.1
unfolding image_at
image_takes bytes x fits e =
    let a = bind_some (head_at bytes) (λ head. cond (ltb (length head.1) head.0.1) None (all_at head.0.1 head.0.0 head.1)) x e in
    let g = fails_some (ltb (length a.0.1) a.0.0.1) (all_at a.0.0.1 a.0.0.0 a.0.1) x a.2 in
    let H = head_takes bytes a.0 fits a.1 in
    let A = all_take a.0.0.1 a.0.0.0 a.0.1 x H.takes.rest_fits g.1 in
    record {
      size_fits = subst (λ (n : ℕ). n < 2 ^ 64) (sym A.size_is) H.size;
      number_fits = subst (λ (n : ℕ). n < 2 ^ 64) (sym A.number) H.slots;
      fit = subst (λ (n : ℕ). AllByRecursion (IsImageSlot n) x.1) (sym A.number) A.fit;
      numbered = A.numbered;
      text = H.takes.parts ∙ (ap (λ (t : List ℕ). head_bytes a.0.0.0 a.0.0.1 ++ t) A.text ∙ (ap (λ (n : ℕ). head_bytes n a.0.0.1 ++ flat_map slot_bytes x.1) (sym A.size_is) ∙ ap (λ (n : ℕ). head_bytes x.0 n ++ flat_map slot_bytes x.1) (sym A.number)));
    }

pub image_again : (bytes : List ℕ) (size : ℕ) (slots : List Slot) → IsImage bytes size slots → image_at bytes ≡ Some (size, slots)
unfolding image_at
image_again bytes size slots I =
    ap image_at I.text
    ∙ rw (head_again size (length slots) (flat_map slot_bytes slots) I.size_fits I.number_fits, le-ltb (length (flat_map slot_bytes slots)) (length slots) (slots_few slots), all_again size slots I.number_fits I.fit I.numbered) refl

-- bytes have one meaning
pub one_meaning : TellsOneMeaning
one_meaning bytes size again slots others I J =
    let e : Some (size, slots) ≡ Some (again, others) = sym (image_again bytes size slots I) ∙ image_again bytes again others J in
    let f = same_Some (size, slots) (again, others) e in
    (ap (λ (p : ℕ × List Slot). p.0) f, ap (λ (p : ℕ × List Slot). p.1) f)

-- what the answers of reading mean
pub image_found : (bytes : List ℕ) (r : Result (Option ParsedImage) ImageParseFault) → IsBytes bytes → MatchResult r (HasImage (image_at bytes)) (λ fault. Fails fault (image_at bytes))
    → IfOk r (λ image. MatchOption image (IsHeavyImage bytes) (λ found. IsLightImage bytes found.size found.arena))
image_found bytes (Ok None) fits H = record { size = H.size; slots = H.slots; image = image_takes bytes (H.size, H.slots) fits H.read_is; heavy = H.keeps }
image_found bytes (Ok (Some found)) fits H =
    let I : IsLightImage bytes H.size H.slots = record { image = image_takes bytes (H.size, H.slots) fits H.read_is; light = H.keeps.2 } in
    subst (λ (n : ℕ). IsLightImage bytes n found.arena) (sym H.keeps.0) (subst (IsLightImage bytes H.size) (sym H.keeps.1) I)
image_found bytes (Err fault) fits H = tt

pub image_none : (bytes : List ℕ) (r : Result (Option ParsedImage) ImageParseFault) → MatchResult r (HasImage (image_at bytes)) (λ fault. Fails fault (image_at bytes)) → r ≡ Err NotImage → IsNoImage bytes
image_none bytes (Ok image) H e = absurd cc
image_none bytes (Err NoMemory) H e = absurd cc
image_none bytes (Err NotImage) H e = λ size slots I. let again = image_again bytes size slots I in absurd cc
