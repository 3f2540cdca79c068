-- The entries that visits put off at and below an address.
use Rattle.std.proofs.Common.{◌≡◌, ℕ, zero, suc, ◌+◌, ◌<◌, List, [], ◌∷◌, ◌++◌, All, length, get_or, refl, sym, ap, ap₂, ◌∙◌, subst, arith, append_assoc, length-append}
use Rattle.std.proofs.lemmas.List.{append-nil, get_or_append_left, get_or-append-add}
use Rattle.std.proofs.lemmas.List.Elements.{All-append}
use Rattle.cube_view.specs.Walks.{Step, down, Walk}
use Rattle.node_arena.specs.Amounts.{Weighted}
use Rattle.node_arena.specs.Shape.{home_of}
use Rattle.node_arena.specs.Slots.{Slot}
use Rattle.proper_path.specs.Order.{IsAbove, itself, further}
use Rattle.proper_path.proofs.Order.{above-trans}
use Rattle.group_insert.specs.Halfway.{IsHalfwayBefore}
use Rattle.group_insert.specs.Later.{PutOff, link_address, IsPutOff, IsPut}
use Rattle.group_insert.specs.Turns.{IsEarlier}
use Rattle.group_insert.specs.Visits.{PutsBelow}
use Rattle.group_insert.proofs.Earlier.{earlier_not_below}

-- no entry more
pub no_more : (homes : List Walk) (a : Walk) (put : List PutOff) → PutsBelow homes a put put
no_more homes a put = record { more = []; is = sym (append-nil put); below = λ n k lt. absurd (omega (arith, lt)) }

-- one entry more
pub one_more : (homes : List Walk) (k : PutOff) (put : List PutOff) → PutsBelow homes (home_of homes k.node) put (put ++ k ∷ [])
one_more homes k put = record { more = k ∷ []; is = refl; below = λ n d lt. one n d lt }
  where
    one : (n : ℕ) (d : PutOff) → n < length (k ∷ []) → IsAbove (home_of homes k.node) (home_of homes (get_or (k ∷ []) n d).node)
    one zero d lt = itself
    one (suc n) d lt = absurd (omega (arith, lt))

-- what stands further up has those entries below it too
pub puts_less : (homes : List Walk) (a b : Walk) (before after : List PutOff) → IsAbove b a → PutsBelow homes a before after → PutsBelow homes b before after
puts_less homes a b before after f P = record { more = P.more; is = P.is; below = λ n k lt. above-trans f (P.below n k lt) }

-- the entries of one stretch and of the next, as slots are added
pub puts_on : (slots : List Slot) (homes homes' : List Walk) (h g : List Weighted) (a : Walk) (before mid after : List PutOff) → All (IsPutOff slots homes h g) mid → ((j : ℕ) → j < length slots → home_of homes' j ≡ home_of homes j) → PutsBelow homes a before mid → PutsBelow homes' a mid after → PutsBelow homes' a before after
puts_on slots homes homes' h g a before mid after A same P Q = record {
  more = P.more ++ Q.more;
  is = Q.is ∙ (ap (λ z. z ++ Q.more) P.is ∙ append_assoc before P.more Q.more);
  below = All-append (λ k. IsAbove a (home_of homes' k.node)) P.more Q.more (λ n k lt. subst (IsAbove a) (sym (same (get_or P.more n k).node (in_range n k lt))) (P.below n k lt)) Q.below;
}
  where
    in_range : (n : ℕ) (k : PutOff) → n < length P.more → (get_or P.more n k).node < length slots
    in_range n k lt =
        let r = subst (λ z. All (IsPutOff slots homes h g) z) P.is A (length before + n) k (omega (arith, lt, length-append before P.more)) in
        subst (λ z. z.node < length slots) (get_or-append-add before P.more n k) r.in_range.0

-- an entry stays one
pub put_stays : (homes : List Walk) (a : Walk) (before after : List PutOff) (i : ℕ) (e : Step) → PutsBelow homes a before after → IsPut before i e → IsPut after i e
put_stays homes a before after i e P (n, k, lt, at, same) = subst (λ z. IsPut z i e) (sym P.is) (n, k, omega (arith, lt, length-append before P.more), get_or_append_left before P.more k n lt ∙ at, same)

-- before the visit of a node no link of it is put off
pub none_at : (dims : ℕ) (slots : List Slot) (homes : List Walk) (h g : List Weighted) (put : List PutOff) (i : ℕ) → IsHalfwayBefore dims slots homes h g put (home_of homes i) → (m : ℕ) → IsPut put i (down m) → ⊥
none_at dims slots homes h g put i M m (n, k, lt, at, same) = earlier_not_below (subst (λ z. IsEarlier z (home_of homes i)) address (M.later.ended n k lt).1) (further itself)
  where
    address : link_address homes (get_or put n k) ≡ down m ∷ home_of homes i
    address = ap (link_address homes) at ∙ ap₂ (λ a b. a ∷ home_of homes b) same.1 same.0
