-- Nodes that are read, and that are read again.
use Rattle.std.proofs.Common.{◌≡◌, ℕ, zero, suc, ◌+◌, ◌^◌, ◌<◌, ◌≤◌, Bool, cond, List, [], ◌∷◌, ◌++◌, length, Option, Some, refl, sym, ap, subst, ◌∙◌, append_assoc, arith, option_and_then}
use Rattle.std.specs.Int.{w16, to_be_bytes}
use Rattle.std.specs.List.{flat_map}
use Rattle.std.proofs.lemmas.Bool.{lt-ltb}
use Rattle.std.proofs.lemmas.List.{length-append}
use Rattle.std.proofs.lemmas.Option.{same_Some}
use Rattle.node_arena.specs.declared.link.Link.{Link}
use Rattle.node_arena.specs.Slots.{Children, Slot, node}
use Rattle.cube_image.specs.Bytes.{child_bytes, content_bytes, slot_bytes}
use Rattle.cube_image.specs.Order.{proper_target, owned_children, owned_content, owned_by}
use Rattle.cube_image.specs.Rest.{byte_children}
use Rattle.image_parse.specs.Images.{AreChildren, IsContent, IsImageSlot}
use Rattle.image_parse.specs.Reading.{Linked, width_number_at, child_at, children_at, content_at, node_at}
use Rattle.image_parse.specs.Views.{AreImageChildren}
use Rattle.image_parse.proofs.Fields.{IsBytes, bind_some, Takes, Takes-then, wide16, number_takes, number_again}
use Rattle.image_parse.proofs.LinkReads.{CountsUp, CountsUp-split, Numbers, Numbers-then, Numbers-none, child_takes, child_again, content_takes, content_again}

-- children that were read
pub record AreChildrenAt (k n from next : ℕ) (bytes : List ℕ) (x : Linked Children) : Type 0 where
  pub takes : Takes bytes (flat_map child_bytes x.0) x.2
  pub count : length x.0 ≡ k
  pub fit : AreChildren n from x.0
  pub numbers : Numbers next (owned_children x.0) x.1

children_take : (k n from next : ℕ) (bytes : List ℕ) (x : Linked Children) → IsBytes bytes → children_at k n from next bytes ≡ Some x → AreChildrenAt k n from next bytes x
unfolding children_at
children_take zero n from next bytes x fits e =
    subst (AreChildrenAt 0 n from next bytes) (same_Some ([], next, bytes) x e) (record { takes = record { parts = refl; rest_fits = fits }; count = refl; fit = tt; numbers = Numbers-none next })
children_take (suc k) n from next bytes x fits e =
    let a = bind_some (child_at n from next bytes) (λ first. option_and_then (λ others. Some (first.0 ∷ others.0, others.1, others.2)) (children_at k n (first.0.0 + 1) first.1 first.2)) x e in
    let b = bind_some (children_at k n (a.0.0.0 + 1) a.0.1 a.0.2) (λ others. Some (a.0.0 ∷ others.0, others.1, others.2)) x a.2 in
    let first = child_takes n from next bytes a.0 fits a.1 in
    let others = children_take k n (a.0.0.0 + 1) a.0.1 a.0.2 b.0 first.takes.rest_fits b.1 in
    let made : Linked Children = (a.0.0 ∷ b.0.0, b.0.1, b.0.2) in
    subst (AreChildrenAt (suc k) n from next bytes) (same_Some made x b.2) (record {
      takes = Takes-then bytes (child_bytes a.0.0) a.0.2 (flat_map child_bytes b.0.0) b.0.2 first.takes others.takes;
      count = ap suc others.count;
      fit = (first.later, first.label, first.within, others.fit);
      numbers = Numbers-then next (proper_target a.0.0.1) a.0.1 (owned_children b.0.0) b.0.1 first.numbers others.numbers;
    })

pub children_found : (k n next : ℕ) (bytes : List ℕ) (cs : Children) (later : ℕ) (rest : List ℕ) → IsBytes bytes → children_at k n 0 next bytes ≡ Some (cs, later, rest) → AreImageChildren cs
children_found k n next bytes cs later rest fits e = record { number = n; fit = (children_take k n 0 next bytes (cs, later, rest) fits e).fit }

children_again : (n from next : ℕ) (cs : Children) (rest : List ℕ) → AreChildren n from cs → n < 2 ^ 64 → CountsUp next (owned_children cs) → children_at (length cs) n from next (flat_map child_bytes cs ++ rest) ≡ Some (cs, next + length (owned_children cs), rest)
unfolding children_at
children_again n from next [] rest fit small counts = let none : next ≡ next + 0 = omega arith in ap (λ (k : ℕ). Some ([], k, rest)) none
children_again n from next (c ∷ cs) rest fit small counts =
    let regrouped : flat_map child_bytes (c ∷ cs) ++ rest ≡ child_bytes c ++ (flat_map child_bytes cs ++ rest) = append_assoc (child_bytes c) (flat_map child_bytes cs) rest in
    let parts = CountsUp-split next (proper_target c.1) (owned_children cs) counts in
    let sum : (next + length (proper_target c.1)) + length (owned_children cs) ≡ next + length (owned_children (c ∷ cs)) = omega (arith, length-append (proper_target c.1) (owned_children cs)) in
    ap (children_at (suc (length cs)) n from next) regrouped
    ∙ (rw (child_again n from next c (flat_map child_bytes cs ++ rest) fit.0 fit.2 small parts.0, children_again n (c.0 + 1) (next + length (proper_target c.1)) cs rest fit.3 small parts.1) refl
    ∙ ap (λ (k : ℕ). Some (c ∷ cs, k, rest)) sum)

-- all of them have bytes for labels
pub children-all : (n from : ℕ) (cs : Children) → AreChildren n from cs → byte_children cs ≡ cs
children-all n from [] fit = refl
children-all n from (c ∷ cs) fit = ap (λ (b : Bool). cond b (c ∷ byte_children cs) (byte_children cs)) (lt-ltb c.0 256 fit.1) ∙ ap (λ (t : Children). c ∷ t) (children-all n (c.0 + 1) cs fit.3)

-- so there are at most 256 of them
children-few : (n from : ℕ) (cs : Children) → AreChildren n from cs → from ≤ 256 → length cs + from ≤ 256
children-few n from [] fit le = omega arith
children-few n from (c ∷ cs) fit le =
    let low : from ≤ c.0 = fit.0 in
    let high : c.0 < 256 = fit.1 in
    let r = children-few n (c.0 + 1) cs fit.3 (omega arith) in
    omega arith

-- a slot that was read, behind the byte of its kind
pub record IsSlotAt (n next kind : ℕ) (bytes : List ℕ) (x : Linked Slot) : Type 0 where
  pub takes : Takes (kind ∷ bytes) (slot_bytes x.0) x.2
  pub fit : IsImageSlot n x.0
  pub numbers : Numbers next (owned_by x.0) x.1

pub node_takes : (n next : ℕ) (bytes : List ℕ) (x : Linked Slot) → IsBytes bytes → node_at n next bytes ≡ Some x → IsSlotAt n next 1 bytes x
unfolding node_at
node_takes n next bytes x fits e =
    let a = bind_some (width_number_at w16 bytes) (λ count. option_and_then (λ children. option_and_then (λ content. Some (node children.0 content.0, content.1, content.2)) (content_at n children.1 children.2)) (children_at count.0 n 0 next count.1)) x e in
    let b = bind_some (children_at a.0.0 n 0 next a.0.1) (λ children. option_and_then (λ content. Some (node children.0 content.0, content.1, content.2)) (content_at n children.1 children.2)) x a.2 in
    let c = bind_some (content_at n b.0.1 b.0.2) (λ content. Some (node b.0.0 content.0, content.1, content.2)) x b.2 in
    let t = number_takes w16 (2 ^ 16) wide16 bytes a.0 fits a.1 in
    let u = children_take a.0.0 n 0 next a.0.1 b.0 t.0.rest_fits b.1 in
    let v = content_takes n b.0.1 b.0.2 c.0 u.takes.rest_fits c.1 in
    let all = children-all n 0 b.0.0 u.fit in
    let first : Takes (1 ∷ bytes) ((1 ∷ []) ++ to_be_bytes w16 (length b.0.0)) a.0.1 = record { parts = ap (λ (t : List ℕ). 1 ∷ t) (t.0.parts ∙ ap (λ (k : ℕ). to_be_bytes w16 k ++ a.0.1) (sym u.count)); rest_fits = t.0.rest_fits } in
    let second = Takes-then (1 ∷ bytes) ((1 ∷ []) ++ to_be_bytes w16 (length b.0.0)) a.0.1 (flat_map child_bytes b.0.0) b.0.2 first u.takes in
    let third = Takes-then (1 ∷ bytes) ((1 ∷ []) ++ to_be_bytes w16 (length b.0.0) ++ flat_map child_bytes b.0.0) b.0.2 (content_bytes c.0.0) c.0.2 second v.takes in
    let made : Linked Slot = (node b.0.0 c.0.0, c.0.1, c.0.2) in
    subst (IsSlotAt n next 1 bytes) (same_Some made x c.2) (record {
      takes = subst (λ (cs : Children). Takes (1 ∷ bytes) ((1 ∷ []) ++ to_be_bytes w16 (length cs) ++ flat_map child_bytes cs ++ content_bytes c.0.0) c.0.2) (sym all) third;
      fit = (u.fit, v.within);
      numbers = subst (λ (cs : Children). Numbers next (owned_children cs ++ owned_content c.0.0) c.0.1) (sym all) (Numbers-then next (owned_children b.0.0) b.0.1 (owned_content c.0.0) c.0.1 u.numbers v.numbers);
    })

-- the bytes of a node behind its kind
node_rest : Children → Option Link → List ℕ → List ℕ
node_rest cs content rest = to_be_bytes w16 (length cs) ++ (flat_map child_bytes cs ++ (content_bytes content ++ rest))

node_again-all : (n next : ℕ) (cs : Children) (content : Option Link) (rest : List ℕ) → AreChildren n 0 cs → IsContent n content → n < 2 ^ 64 → CountsUp next (owned_children cs ++ owned_content content) → node_at n next (node_rest cs content rest) ≡ Some (node cs content, next + length (owned_children cs ++ owned_content content), rest)
unfolding node_at node_rest
node_again-all n next cs content rest fit within small counts =
    let few = children-few n 0 cs fit (omega arith) in
    let parts = CountsUp-split next (owned_children cs) (owned_content content) counts in
    let sum : (next + length (owned_children cs)) + length (owned_content content) ≡ next + length (owned_children cs ++ owned_content content) = omega (arith, length-append (owned_children cs) (owned_content content)) in
    rw (number_again w16 (2 ^ 16) wide16 (length cs) (flat_map child_bytes cs ++ (content_bytes content ++ rest)) (omega arith), children_again n 0 next cs (content_bytes content ++ rest) fit small parts.0, content_again n (next + length (owned_children cs)) content rest within small parts.1) (ap (λ (k : ℕ). Some (node cs content, k, rest)) sum)

pub node_again : (n next : ℕ) (cs : Children) (content : Option Link) (rest bytes : List ℕ) → AreChildren n 0 cs → IsContent n content → n < 2 ^ 64 → CountsUp next (owned_by (node cs content)) → 1 ∷ bytes ≡ slot_bytes (node cs content) ++ rest → node_at n next bytes ≡ Some (node cs content, next + length (owned_by (node cs content)), rest)
unfolding node_rest
node_again n next cs content rest bytes fit within small counts text =
    let all = children-all n 0 cs fit in
    let plain : slot_bytes (node cs content) ≡ (1 ∷ []) ++ to_be_bytes w16 (length cs) ++ flat_map child_bytes cs ++ content_bytes content = ap (λ (ds : Children). (1 ∷ []) ++ to_be_bytes w16 (length ds) ++ flat_map child_bytes ds ++ content_bytes content) all in
    let owned : owned_by (node cs content) ≡ owned_children cs ++ owned_content content = ap (λ (ds : Children). owned_children ds ++ owned_content content) all in
    let grouped : (((1 ∷ []) ++ to_be_bytes w16 (length cs) ++ flat_map child_bytes cs) ++ content_bytes content) ++ rest ≡ 1 ∷ node_rest cs content rest = append_assoc ((1 ∷ []) ++ to_be_bytes w16 (length cs) ++ flat_map child_bytes cs) (content_bytes content) rest ∙ append_assoc ((1 ∷ []) ++ to_be_bytes w16 (length cs)) (flat_map child_bytes cs) (content_bytes content ++ rest) in
    let whole : 1 ∷ bytes ≡ 1 ∷ node_rest cs content rest = text ∙ (ap (λ (t : List ℕ). t ++ rest) plain ∙ grouped) in
    let same : bytes ≡ node_rest cs content rest = cc in
    ap (node_at n next) same
    ∙ (node_again-all n next cs content rest fit within small (subst (CountsUp next) owned counts)
    ∙ ap (λ (xs : List ℕ). Some (node cs content, next + length xs, rest)) (sym owned))
