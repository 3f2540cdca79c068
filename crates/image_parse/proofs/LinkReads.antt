-- Links that are read, the numbers that their proper ones give to slots, and links that are read again.
use Rattle.std.proofs.Common.{◌≡◌, ℕ, suc, ◌+◌, ◌^◌, ◌<◌, ◌≤◌, false, cond, eqb, ltb, List, [], ◌∷◌, ◌++◌, length, Option, Some, None, refl, ap, subst, arith, inl, inr, eq-eqb, option_and_then}
use Rattle.std.specs.Int.{w64, to_be_bytes}
use Rattle.std.proofs.lemmas.Bool.{eqb-true, ltb-true, ltb-false, lt-ltb, le-ltb}
use Rattle.std.proofs.lemmas.List.{length-append}
use Rattle.std.proofs.lemmas.Option.{same_Some}
use Rattle.node_arena.specs.declared.link.Link.{Link}
use Rattle.node_arena.specs.declared.link.LinkKind.{LinkKind}
use Rattle.node_arena.specs.declared.link.LinkKind.TheVariants.{Proper, Shared}
use Rattle.node_arena.specs.Slots.{id_of, proper, shared, target}
use Rattle.cube_image.specs.Bytes.{kind_byte, link_bytes, content_bytes, child_bytes}
use Rattle.cube_image.specs.Order.{proper_target, owned_content}
use Rattle.image_parse.specs.Images.{IsContent}
use Rattle.image_parse.specs.Reading.{Linked, byte_at, width_number_at, link_to, link_at, content_at, child_at}
use Rattle.image_parse.proofs.Fields.{IsBytes, bind_some, chosen, fails_some, passes_some, Takes, Takes-then, byte_takes, wide64, number_takes, number_again}

-- the numbers are those from a number on
abbrev pub CountsUp : ℕ → List ℕ → Type 0
CountsUp next [] = Unit {0}
CountsUp next (x ∷ xs) = (x ≡ next) × CountsUp (next + 1) xs

-- the numbers are those from one number up to another
pub record Numbers (next : ℕ) (owned : List ℕ) (later : ℕ) : Type 0 where
  pub counts : CountsUp next owned
  pub next_is : later ≡ next + length owned

pub CountsUp-append : (next : ℕ) (xs ys : List ℕ) → CountsUp next xs → CountsUp (next + length xs) ys → CountsUp next (xs ++ ys)
CountsUp-append next [] ys p q = let e : next + 0 ≡ next = omega arith in subst (λ (k : ℕ). CountsUp k ys) e q
CountsUp-append next (x ∷ xs) ys p q = let e : next + suc (length xs) ≡ (next + 1) + length xs = omega arith in (p.0, CountsUp-append (next + 1) xs ys p.1 (subst (λ (k : ℕ). CountsUp k ys) e q))

pub CountsUp-split : (next : ℕ) (xs ys : List ℕ) → CountsUp next (xs ++ ys) → CountsUp next xs × CountsUp (next + length xs) ys
CountsUp-split next [] ys p = let e : next ≡ next + 0 = omega arith in (tt, subst (λ (k : ℕ). CountsUp k ys) e p)
CountsUp-split next (x ∷ xs) ys p =
    let r = CountsUp-split (next + 1) xs ys p.1 in
    let e : (next + 1) + length xs ≡ next + suc (length xs) = omega arith in
    ((p.0, r.0), subst (λ (k : ℕ). CountsUp k ys) e r.1)

pub Numbers-then : (a : ℕ) (xs : List ℕ) (b : ℕ) (ys : List ℕ) (c : ℕ) → Numbers a xs b → Numbers b ys c → Numbers a (xs ++ ys) c
Numbers-then a xs b ys c p q = record {
  counts = CountsUp-append a xs ys p.counts (subst (λ (k : ℕ). CountsUp k ys) p.next_is q.counts);
  next_is = omega (arith, length-append xs ys, p.next_is, q.next_is);
}

pub Numbers-none : (a : ℕ) → Numbers a [] a
Numbers-none a = record { counts = tt; next_is = omega arith }

-- a link that is read: its kind and target, where it may lead, and the number that it gives
pub record IsLinkTo (n next kind to : ℕ) (x : Link × ℕ) : Type 0 where
  pub kind_is : kind ≡ kind_byte x.0.kind
  pub to_is : to ≡ target x.0
  pub within : target x.0 < n
  pub numbers : Numbers next (proper_target x.0) x.1

link_to_takes : (n next kind to : ℕ) (x : Link × ℕ) → link_to n next kind to ≡ Some x → IsLinkTo n next kind to x
unfolding link_to
link_to_takes n next kind to x e =
    let a = passes_some (ltb to n) (cond (eqb kind 1) (cond (eqb to next) (Some (proper to, next + 1)) None) (cond (eqb kind 2) (Some (shared to, next)) None)) x e in
    let lt : to < n = ltb-true _ _ a.0 in
    elim (chosen (eqb kind 1) (cond (eqb to next) (Some (proper to, next + 1)) None) (cond (eqb kind 2) (Some (shared to, next)) None) (Some x) a.1) [
      | inl p ↦
          let b = passes_some (eqb to next) (Some (proper to, next + 1)) x p.1 in
          let found : IsLinkTo n next kind to (proper to, next + 1) = record { kind_is = eqb-true _ _ p.0; to_is = refl; within = lt; numbers = record { counts = (eqb-true _ _ b.0, tt); next_is = refl } } in
          subst (IsLinkTo n next kind to) (same_Some _ x b.1) found
      | inr p ↦
          let b = passes_some (eqb kind 2) (Some (shared to, next)) x p.1 in
          let found : IsLinkTo n next kind to (shared to, next) = record { kind_is = eqb-true _ _ b.0; to_is = refl; within = lt; numbers = Numbers-none next } in
          subst (IsLinkTo n next kind to) (same_Some _ x b.1) found
    ]

link_to_again : (n next : ℕ) (kind : LinkKind) (to : ℕ) → to < n → let l : Link = record { to = id_of to; kind = kind } in CountsUp next (proper_target l) → link_to n next (kind_byte kind) to ≡ Some (l, next + length (proper_target l))
unfolding link_to
link_to_again n next Proper to lt counts = rw (lt-ltb to n lt, eq-eqb to next counts.0) refl
link_to_again n next Shared to lt counts =
    let none : next + 0 ≡ next = omega arith in
    rw (lt-ltb to n lt, none) refl

-- a link that was read after its kind
pub record IsLink (n next kind : ℕ) (bytes : List ℕ) (x : Linked Link) : Type 0 where
  pub kind_is : kind ≡ kind_byte x.0.kind
  pub takes : Takes bytes (to_be_bytes w64 (target x.0)) x.2
  pub within : target x.0 < n
  pub numbers : Numbers next (proper_target x.0) x.1

pub link_takes : (n next kind : ℕ) (bytes : List ℕ) (x : Linked Link) → IsBytes bytes → link_at n next kind bytes ≡ Some x → IsLink n next kind bytes x
unfolding link_at
link_takes n next kind bytes x fits e =
    let a = bind_some (width_number_at w64 bytes) (λ to. option_and_then (λ l. Some (l.0, l.1, to.1)) (link_to n next kind to.0)) x e in
    let b = bind_some (link_to n next kind a.0.0) (λ l. Some (l.0, l.1, a.0.1)) x a.2 in
    let t = number_takes w64 (2 ^ 64) wide64 bytes a.0 fits a.1 in
    let k = link_to_takes n next kind a.0.0 b.0 b.1 in
    let made : Linked Link = (b.0.0, b.0.1, a.0.1) in
    subst (IsLink n next kind bytes) (same_Some made x b.2) (record {
      kind_is = k.kind_is;
      takes = subst (λ (to : ℕ). Takes bytes (to_be_bytes w64 to) a.0.1) k.to_is t.0;
      within = k.within;
      numbers = k.numbers;
    })

pub link_again : (n next : ℕ) (l : Link) (rest : List ℕ) → target l < n → n < 2 ^ 64 → CountsUp next (proper_target l) → link_at n next (kind_byte l.kind) (to_be_bytes w64 (target l) ++ rest) ≡ Some (l, next + length (proper_target l), rest)
unfolding link_at
link_again n next l rest lt small counts =
    rw (number_again w64 (2 ^ 64) wide64 (target l) rest (omega arith), link_to_again n next l.kind (target l) lt counts) refl

-- a content that was read
pub record IsContentAt (n next : ℕ) (bytes : List ℕ) (x : Linked (Option Link)) : Type 0 where
  pub takes : Takes bytes (content_bytes x.0) x.2
  pub within : IsContent n x.0
  pub numbers : Numbers next (owned_content x.0) x.1

pub content_takes : (n next : ℕ) (bytes : List ℕ) (x : Linked (Option Link)) → IsBytes bytes → content_at n next bytes ≡ Some x → IsContentAt n next bytes x
unfolding content_at
content_takes n next bytes x fits e =
    let a = bind_some (byte_at bytes) (λ kind. cond (eqb kind.0 0) (Some (None, next, kind.1)) (option_and_then (λ l. Some (Some l.0, l.1, l.2)) (link_at n next kind.0 kind.1))) x e in
    let t = byte_takes bytes a.0 fits a.1 in
    elim (chosen (eqb a.0.0 0) (Some (None, next, a.0.1)) (option_and_then (λ l. Some (Some l.0, l.1, l.2)) (link_at n next a.0.0 a.0.1)) (Some x) a.2) [
      | inl p ↦
          let made : Linked (Option Link) = (None, next, a.0.1) in
          let found : IsContentAt n next bytes made = record {
            takes = subst (λ (b : ℕ). Takes bytes (b ∷ []) a.0.1) (eqb-true _ _ p.0) t.0;
            within = tt;
            numbers = Numbers-none next;
          } in
          subst (IsContentAt n next bytes) (same_Some made x p.1) found
      | inr p ↦
          let b = bind_some (link_at n next a.0.0 a.0.1) (λ l. Some (Some l.0, l.1, l.2)) x p.1 in
          let k = link_takes n next a.0.0 a.0.1 b.0 t.0.rest_fits b.1 in
          let made : Linked (Option Link) = (Some b.0.0, b.0.1, b.0.2) in
          let found : IsContentAt n next bytes made = record {
            takes = Takes-then bytes (kind_byte b.0.0.kind ∷ []) a.0.1 (to_be_bytes w64 (target b.0.0)) b.0.2 (subst (λ (c : ℕ). Takes bytes (c ∷ []) a.0.1) k.kind_is t.0) k.takes;
            within = k.within;
            numbers = k.numbers;
          } in
          subst (IsContentAt n next bytes) (same_Some made x b.2) found
    ]

kind-not_0 : (kind : LinkKind) → eqb (kind_byte kind) 0 ≡ false
kind-not_0 Proper = refl
kind-not_0 Shared = refl

pub content_again : (n next : ℕ) (o : Option Link) (rest : List ℕ) → IsContent n o → n < 2 ^ 64 → CountsUp next (owned_content o) → content_at n next (content_bytes o ++ rest) ≡ Some (o, next + length (owned_content o), rest)
unfolding content_at
content_again n next None rest within small counts = let none : next ≡ next + 0 = omega arith in ap (λ (k : ℕ). Some (None, k, rest)) none
content_again n next (Some l) rest within small counts = rw (kind-not_0 l.kind, link_again n next l rest within small counts) refl

-- a child that was read
pub record IsChildAt (n from next : ℕ) (bytes : List ℕ) (x : Linked (ℕ × Link)) : Type 0 where
  pub takes : Takes bytes (child_bytes x.0) x.2
  pub later : from ≤ x.0.0
  pub label : x.0.0 < 256
  pub within : target x.0.1 < n
  pub numbers : Numbers next (proper_target x.0.1) x.1

pub child_takes : (n from next : ℕ) (bytes : List ℕ) (x : Linked (ℕ × Link)) → IsBytes bytes → child_at n from next bytes ≡ Some x → IsChildAt n from next bytes x
unfolding child_at
child_takes n from next bytes x fits e =
    let a = bind_some (byte_at bytes) (λ label. option_and_then (λ kind. option_and_then (λ l. cond (ltb label.0 from) None (Some ((label.0, l.0), l.1, l.2))) (link_at n next kind.0 kind.1)) (byte_at label.1)) x e in
    let b = bind_some (byte_at a.0.1) (λ kind. option_and_then (λ l. cond (ltb a.0.0 from) None (Some ((a.0.0, l.0), l.1, l.2))) (link_at n next kind.0 kind.1)) x a.2 in
    let c = bind_some (link_at n next b.0.0 b.0.1) (λ l. cond (ltb a.0.0 from) None (Some ((a.0.0, l.0), l.1, l.2))) x b.2 in
    let g = fails_some (ltb a.0.0 from) (Some ((a.0.0, c.0.0), c.0.1, c.0.2)) x c.2 in
    let t = byte_takes bytes a.0 fits a.1 in
    let u = byte_takes a.0.1 b.0 t.0.rest_fits b.1 in
    let k = link_takes n next b.0.0 b.0.1 c.0 u.0.rest_fits c.1 in
    let link : Takes a.0.1 (link_bytes c.0.0) c.0.2 = Takes-then a.0.1 (kind_byte c.0.0.kind ∷ []) b.0.1 (to_be_bytes w64 (target c.0.0)) c.0.2 (subst (λ (d : ℕ). Takes a.0.1 (d ∷ []) b.0.1) k.kind_is u.0) k.takes in
    let made : Linked (ℕ × Link) = ((a.0.0, c.0.0), c.0.1, c.0.2) in
    let found : IsChildAt n from next bytes made = record {
      takes = Takes-then bytes (a.0.0 ∷ []) a.0.1 (link_bytes c.0.0) c.0.2 t.0 link;
      later = ltb-false _ _ g.0;
      label = t.1;
      within = k.within;
      numbers = k.numbers;
    } in
    subst (IsChildAt n from next bytes) (same_Some made x g.1) found

pub child_again : (n from next : ℕ) (c : ℕ × Link) (rest : List ℕ) → from ≤ c.0 → target c.1 < n → n < 2 ^ 64 → CountsUp next (proper_target c.1) → child_at n from next (child_bytes c ++ rest) ≡ Some (c, next + length (proper_target c.1), rest)
unfolding child_at
child_again n from next c rest le within small counts = rw (link_again n next c.1 rest within small counts, le-ltb c.0 from le) refl
