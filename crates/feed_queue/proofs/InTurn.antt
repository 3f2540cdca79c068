-- Ends that stand in the order of their numbers.
use Rattle.std.proofs.Common.{◌≡◌, ℕ, zero, suc, ◌+◌, ◌-◌, ◌≤◌, ◌<◌, eqb, eq-eqb, ne_eqb, true, false, cond, List, [], ◌∷◌, ◌++◌, length, length-append, map, get_or, refl, sym, ap, ◌∙◌, arith}
use Rattle.std.proofs.lemmas.List.{map-append}
use Rattle.std.specs.List.{range_with_len}
use Rattle.atomic_table.specs.Seated.{TableId}
use Rattle.cube_view.specs.declared.schema.Schema.{Schema}
use Rattle.world_core.specs.Interleaving.{numbered, list_of, IsInterleaving}
use Rattle.world_core.specs.declared.entry.Entry.{Entry}
use Rattle.world_core.proofs.Lists.{cons-parts}
use Rattle.feed_queue.specs.Ends.{FeedState, feed_state, new_feeds, sent_by, is_among, sent_lists, AreInTurn, EndsInTurn, NewFeedsInTurn}

not_empty : (a : ℕ) (xs : List ℕ) → [] ≡ a ∷ xs → ⊥
not_empty a xs e = cc

-- of ends that stand in turn from number k on, the one in place j has number k + j
found : (ends : List FeedState) (k n j : ℕ) → map (λ (end : FeedState). end.feeder) ends ≡ range_with_len k n → j < n
    → (is_among ends (k + j) ≡ true) × (sent_by ends (k + j) ≡ get_or (sent_lists ends) j [])
found ends k zero j e low = absurd (omega arith)
found [] k (suc n) j e low = absurd (not_empty k (range_with_len (k + 1) n) e)
found (end ∷ ends) k (suc n) zero e low =
    let own = (cons-parts end.feeder k (map (λ (it : FeedState). it.feeder) ends) (range_with_len (k + 1) n) e).0 in
    let same : eqb end.feeder (k + 0) ≡ true = eq-eqb end.feeder (k + 0) (omega arith) in
    (ap (λ b. cond b true (is_among ends (k + 0))) same, ap (λ b. cond b end.points (sent_by ends (k + 0))) same)
found (end ∷ ends) k (suc n) (suc j) e low =
    let parts = cons-parts end.feeder k (map (λ (it : FeedState). it.feeder) ends) (range_with_len (k + 1) n) e in
    let own = parts.0 in
    let other = ne_eqb end.feeder (k + suc j) (λ (s : end.feeder ≡ k + suc j). omega (arith, own)) in
    let at : k + 1 + j ≡ k + suc j = omega arith in
    let rest = found ends (k + 1) n j parts.1 (omega arith) in (
      ap (λ b. cond b true (is_among ends (k + suc j))) other ∙ ap (is_among ends) (sym at) ∙ rest.0,
      ap (λ b. cond b end.points (sent_by ends (k + suc j))) other ∙ ap (sent_by ends) (sym at) ∙ rest.1,
    )

pub ends_in_turn : EndsInTurn
ends_in_turn ends n turn f low high =
    let at : 1 + (f - 1) ≡ f = omega (arith, low) in
    ap (is_among ends) (sym at) ∙ (found ends 1 n (f - 1) turn (omega (arith, low, high))).0

-- what each has sent is its list among those of all
sent_in_turn : (ends : List FeedState) (n f : ℕ) → AreInTurn ends n → 1 ≤ f → f ≤ n → sent_by ends f ≡ list_of (sent_lists ends) f
sent_in_turn ends n f turn low high =
    let at : 1 + (f - 1) ≡ f = omega (arith, low) in
    ap (sent_by ends) (sym at) ∙ (found ends 1 n (f - 1) turn (omega (arith, low, high))).1

pub interleaves_in_turn : (ends : List FeedState) (n : ℕ) (entries : List Entry) → IsInterleaving n (sent_by ends) entries → AreInTurn ends n → IsInterleaving n (list_of (sent_lists ends)) entries
interleaves_in_turn ends n entries is turn = record {
  known = is.known;
  each = λ f low high. is.each f low high ∙ ap (numbered f 0) (sent_in_turn ends n f turn low high);
}

-- a range with one number more
range_more : (a n : ℕ) → range_with_len a (suc n) ≡ range_with_len a n ++ (a + n) ∷ []
range_more a zero = let e : a ≡ a + 0 = omega arith in ap (λ k. k ∷ []) e
range_more a (suc n) = let e : a + 1 + n ≡ a + suc n = omega arith in ap (λ l. a ∷ l) (range_more (a + 1) n ∙ ap (λ k. range_with_len (a + 1) n ++ k ∷ []) e)

pub new_feeds_in_turn : NewFeedsInTurn
new_feeds_in_turn lane schema zero = refl
new_feeds_in_turn lane schema (suc n) =
    let number : FeedState → ℕ = λ end. end.feeder in
    let e : n + 1 ≡ 1 + n = omega arith in
    map-append number (new_feeds lane schema n) (feed_state lane schema (n + 1) [] false ∷ [])
    ∙ (λ i. new_feeds_in_turn lane schema n i ++ e i ∷ [])
    ∙ sym (range_more 1 n)

-- there is an end for each feeder
pub length-new_feeds : (lane : TableId) (schema : Schema) (n : ℕ) → length (new_feeds lane schema n) ≡ n
length-new_feeds lane schema zero = refl
length-new_feeds lane schema (suc n) =
    let l = length-append (new_feeds lane schema n) (feed_state lane schema (n + 1) [] false ∷ []) in
    let rest = length-new_feeds lane schema n in
    omega (arith, l, rest)
