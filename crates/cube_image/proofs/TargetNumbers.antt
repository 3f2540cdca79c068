-- In the order of an image the slots that own each other are numbered as they appear.
use Rattle.std.proofs.Common.{◌≡◌, ℕ, ◌+◌, ◌≤◌, Bool, true, false, cond, not, eqb, eq-eqb, ne_eqb, List, [], ◌∷◌, ◌++◌, length, map, Option, Some, None, refl, sym, ap, ◌∙◌, arith, append_assoc, length-append}
use Rattle.std.proofs.Math.Seq.{take-length}
use Rattle.std.proofs.lemmas.List.{length-map, map-append}
use Rattle.std.specs.List.{flat_map, range_with_len}
use Rattle.node_arena.specs.declared.link.Link.{Link}
use Rattle.node_arena.specs.Slots.{target, Children, Slot, node, table, slot_of}
use Rattle.node_arena.specs.Stats.{is_proper, AllRising}
use Rattle.cube_image.specs.Conditions.{HasSomeHomes}
use Rattle.cube_image.specs.Order.{proper_target, owned_children, owned_content, owned_by, IsOrder, IsNumbered, order_number, moved, moved_child, moved_link, moved_content, in_order}
use Rattle.cube_image.specs.Rest.{byte_children}
use Rattle.cube_image.proofs.OwnedHits.{hits, hits-append}
use Rattle.cube_image.proofs.OrderFronts.{IsFront, owned_at, stand_once}
use Rattle.cube_image.proofs.Rests.{byte_children-map}

-- links that are moved lead to the numbers of what they owned

target-moved : (places : List ℕ) (l : Link) → proper_target (moved_link places l) ≡ map (order_number places) (proper_target l)
target-moved places l = elim (is_proper l) as (λ (b : Bool). cond b (order_number places (target l) ∷ []) [] ≡ map (order_number places) (cond b (target l ∷ []) [])) [ true ↦ refl | false ↦ refl ]

children-moved : (places : List ℕ) (children : Children) → owned_children (map (moved_child places) children) ≡ map (order_number places) (owned_children children)
children-moved places [] = refl
children-moved places (c ∷ children) =
    ap (λ (t : List ℕ). t ++ owned_children (map (moved_child places) children)) (target-moved places c.1)
    ∙ (ap (λ (t : List ℕ). map (order_number places) (proper_target c.1) ++ t) (children-moved places children)
    ∙ sym (map-append (order_number places) (proper_target c.1) (owned_children children)))

content-moved : (places : List ℕ) (content : Option Link) → owned_content (moved_content places content) ≡ map (order_number places) (owned_content content)
content-moved places None = refl
content-moved places (Some l) = target-moved places l

owned_by-moved : (places : List ℕ) (s : Slot) → owned_by (moved places s) ≡ map (order_number places) (owned_by s)
owned_by-moved places (table counts) = refl
owned_by-moved places (node children content) =
    ap (λ (t : List ℕ). t ++ owned_content (moved_content places content)) (ap owned_children (byte_children-map places children) ∙ children-moved places (byte_children children))
    ∙ (ap (λ (t : List ℕ). map (order_number places) (owned_children (byte_children children)) ++ t) (content-moved places content)
    ∙ sym (map-append (order_number places) (owned_children (byte_children children)) (owned_content content)))

owned-in_order : (slots : List Slot) (places some : List ℕ) → flat_map owned_by (map (λ i. moved places (slot_of slots i)) some) ≡ map (order_number places) (flat_map (owned_at slots) some)
owned-in_order slots places [] = refl
owned-in_order slots places (i ∷ some) =
    ap (λ (t : List ℕ). t ++ flat_map owned_by (map (λ k. moved places (slot_of slots k)) some)) (owned_by-moved places (slot_of slots i))
    ∙ (ap (λ (t : List ℕ). map (order_number places) (owned_at slots i) ++ t) (owned-in_order slots places some)
    ∙ sym (map-append (order_number places) (owned_at slots i) (flat_map (owned_at slots) some)))

-- a number stands where it first stands
number-past : (y : ℕ) (xs ys : List ℕ) → hits y xs ≡ 0 → order_number (xs ++ y ∷ ys) y ≡ length xs
number-past y [] ys none = ap (λ (b : Bool). cond {A = ℕ} (not b) (1 + order_number ys y) 0) (eq-eqb y y refl)
number-past y (x ∷ xs) ys none =
    let other : x ≡ y → ⊥ = λ e. let h : cond {A = ℕ} (eqb x y) 1 0 ≡ 1 = ap (λ (b : Bool). cond {A = ℕ} b 1 0) (eq-eqb x y e) in omega arith in
    let r = number-past y xs ys (omega arith) in
    ap (λ (b : Bool). cond {A = ℕ} (not b) (1 + order_number (xs ++ y ∷ ys) y) 0) (ne_eqb x y other) ∙ omega (arith, r)

numbers-in_turn : (places xs ys : List ℕ) → places ≡ xs ++ ys → ((j : ℕ) → hits j places ≤ 1) → map (order_number places) ys ≡ range_with_len (length xs) (length ys)
numbers-in_turn places xs [] is once = refl
numbers-in_turn places xs (y ∷ ys) is once =
    let all = ap (hits y) is ∙ hits-append y xs (y ∷ ys) in
    let h : cond {A = ℕ} (eqb y y) 1 0 ≡ 1 = ap (λ (b : Bool). cond {A = ℕ} b 1 0) (eq-eqb y y refl) in
    let o = once y in
    let none : hits y xs ≡ 0 = omega arith in
    let first : order_number places y ≡ length xs = ap (λ (ps : List ℕ). order_number ps y) is ∙ number-past y xs ys none in
    let more : length (xs ++ y ∷ []) ≡ length xs + 1 = length-append xs (y ∷ []) in
    let rest = numbers-in_turn places (xs ++ y ∷ []) ys (is ∙ sym (append_assoc xs (y ∷ []) ys)) once in
    ap (λ (n : ℕ). n ∷ map (order_number places) ys) first
    ∙ ap (λ (t : List ℕ). length xs ∷ t) (rest ∙ ap (λ (n : ℕ). range_with_len n (length ys)) more)

-- the slots of an image are numbered as they appear
pub numbered : (slots : List Slot) → HasSomeHomes slots → AllRising slots → (places : List ℕ) → IsOrder slots places → IsNumbered (in_order slots places)
numbered slots h R places O =
    let front : IsFront slots places (length places) = record { within = omega arith; is = O ∙ ap (λ (ps : List ℕ). 0 ∷ flat_map (owned_at slots) ps) (sym (take-length places)) } in
    let each = stand_once slots h.homes h.has_homes R places (length places) front in
    let turn = numbers-in_turn places [] places refl each.once in
    let size : length (in_order slots places) ≡ length places = length-map places (λ (i : ℕ). moved places (slot_of slots i)) in
    let root : order_number places 0 ≡ 0 = ap (λ (ps : List ℕ). order_number ps 0) O ∙ number-past 0 [] (flat_map (owned_at slots) places) refl in
    ap (λ (t : List ℕ). 0 ∷ t) (owned-in_order slots places places)
    ∙ (ap (λ (n : ℕ). n ∷ map (order_number places) (flat_map (owned_at slots) places)) (sym root)
    ∙ (ap (map (order_number places)) (sym O)
    ∙ (turn ∙ ap (λ (n : ℕ). range_with_len 0 n) (sym size))))
