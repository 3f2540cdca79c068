-- A trail grows by a step, outlasts what happens below it, and makes its nodes ready to be visited.
use Rattle.std.proofs.Common.{◌≡◌, ℕ, zero, suc, ◌+◌, ◌<◌, ◌≤◌, false, ◌⊎◌, inl, inr, List, [], ◌∷◌, ◌++◌, length, get_or, refl, sym, ap, ◌∙◌, subst, arith, subst₂}
use Rattle.std.proofs.lemmas.List.{get_or_append_left, get_or_push, length_push}
use Rattle.std.proofs.lemmas.Bool.{cases_lt}
use Rattle.cube_view.specs.Walks.{down, Walk, Under}
use Rattle.node_arena.specs.Slots.{slot_of, is_table}
use Rattle.proper_path.specs.Making.{State, home, Keeps}
use Rattle.proper_path.specs.Trails.{IsTrailLink, IsOnTrail}
use Rattle.proper_path.proofs.Order.{above-length}
use Rattle.proper_path.proofs.Steps.{IsPlaced}
use Rattle.node_arena.specs.Amounts.{Weighted}

-- the root alone
pub trail_starts : (a : State) (p : Weighted) (root : ℕ) → root < length a.slots → is_table (slot_of a.slots root) ≡ false → IsOnTrail a p root (root ∷ [])
trail_starts a p root lt nd = record {
  first = refl;
  inside = λ n l. at n l (λ k. k < length a.slots) lt;
  nodes = λ n l. at n l (λ k. is_table (slot_of a.slots k) ≡ false) nd;
  deep = λ n l. deep n l;
  links = λ n l. absurd (omega arith);
}
  where
    at : (n : ℕ) → n < 1 → (P : ℕ → Type 0) → P root → P (get_or (root ∷ []) n 0)
    at zero l P x = x
    at (suc n) l P x = absurd (omega arith)

    deep : (n : ℕ) → n < 1 → length (home a (get_or (root ∷ []) n 0)) ≡ length (home a root) + n
    deep zero l = omega arith
    deep (suc n) l = absurd (omega arith)

-- what keeps everything outside an address keeps the part of a trail above it
pub trail_kept : (a b : State) (p : Weighted) (root : ℕ) (stack : List ℕ) (x : Walk) → Keeps a b x → 0 < length stack → IsOnTrail a p root stack → length (home a root) + length stack ≤ length x → IsOnTrail b p root stack
trail_kept a b p root stack x K some T short = record {
  first = T.first;
  inside = λ n l. omega (arith, T.inside n l, K.size);
  nodes = λ n l. K.kinds (get_or stack n 0) (T.inside n l) ∙ T.nodes n l;
  deep = λ n l. ap length (K.homes (get_or stack n 0) (T.inside n l)) ∙ (T.deep n l ∙ ap (λ z. length z + n) (sym at_root));
  links = links;
}
  where
    at_root : home b root ≡ home a root
    at_root = K.homes root (subst (λ z. z < length a.slots) T.first (T.inside 0 some))

    links : (n : ℕ) → suc n < length stack → IsTrailLink b p (get_or stack n 0) (get_or stack (suc n) 0)
    links n l =
        let t = T.links n l in
        let i = T.inside n (omega arith) in
        let h = K.homes (get_or stack n 0) i in
        record {
          label = t.label;
          lies = subst (λ z. Under p.spot (down t.label ∷ z)) (sym h) t.lies;
          is = K.links (get_or stack n 0) (down t.label) i (λ f. let s = above-length f in let d = T.deep n (omega arith) in omega arith) ∙ t.is;
        }

-- one step further down
pub trail_steps : (dims : ℕ) (p : Weighted) (a b : State) (root i l j : ℕ) (stack : List ℕ) → IsOnTrail a p root stack → 0 < length stack → (n : ℕ) → suc n ≡ length stack → get_or stack n 0 ≡ i → Under p.spot (down l ∷ home a i) → IsPlaced dims a i (down l) j b → is_table (slot_of b.slots j) ≡ false → IsOnTrail b p root (stack ++ j ∷ [])
trail_steps dims p a b root i l j stack T some n e at u m nd = record {
  first = get_or_append_left stack (j ∷ []) 0 0 some ∙ T.first;
  inside = λ k lt. inside k (cases k lt);
  nodes = λ k lt. nodes k (cases k lt);
  deep = λ k lt. deep k (cases k lt);
  links = λ k lt. links k (cases_lt (suc k) (length stack)) (omega (arith, length_push stack j));
}
  where
    next : List ℕ
    next = stack ++ j ∷ []

    i_in : i < length a.slots
    i_in = subst (λ z. z < length a.slots) at (T.inside n (omega arith))

    root_in : root < length a.slots
    root_in = subst (λ z. z < length a.slots) T.first (T.inside 0 some)

    cases : (k : ℕ) → k < length (stack ++ j ∷ []) → (k < length stack) ⊎ (k ≡ length stack)
    cases k lt = go (cases_lt k (length stack))
      where
        go : (k < length stack) ⊎ (length stack ≤ k) → (k < length stack) ⊎ (k ≡ length stack)
        go (inl x) = inl x
        go (inr x) = inr (omega (arith, length_push stack j))

    old : (k : ℕ) → k < length stack → get_or (stack ++ j ∷ []) k 0 ≡ get_or stack k 0
    old k lt = get_or_append_left stack (j ∷ []) 0 k lt

    new : (k : ℕ) → k ≡ length stack → get_or (stack ++ j ∷ []) k 0 ≡ j
    new k x = get_or_push stack j 0 k (sym x)

    inside : (k : ℕ) → (k < length stack) ⊎ (k ≡ length stack) → get_or (stack ++ j ∷ []) k 0 < length b.slots
    inside k (inl lt) = subst (λ z. z < length b.slots) (sym (old k lt)) (omega (arith, T.inside k lt, m.keeps.size))
    inside k (inr x) = subst (λ z. z < length b.slots) (sym (new k x)) m.in_range

    nodes : (k : ℕ) → (k < length stack) ⊎ (k ≡ length stack) → is_table (slot_of b.slots (get_or (stack ++ j ∷ []) k 0)) ≡ false
    nodes k (inl lt) = ap (λ z. is_table (slot_of b.slots z)) (old k lt) ∙ (m.keeps.kinds (get_or stack k 0) (T.inside k lt) ∙ T.nodes k lt)
    nodes k (inr x) = ap (λ z. is_table (slot_of b.slots z)) (new k x) ∙ nd

    deep : (k : ℕ) → (k < length stack) ⊎ (k ≡ length stack) → length (home b (get_or (stack ++ j ∷ []) k 0)) ≡ length (home b root) + k
    deep k (inl lt) = ap (λ z. length (home b z)) (old k lt) ∙ (ap length (m.keeps.homes (get_or stack k 0) (T.inside k lt)) ∙ (T.deep k lt ∙ ap (λ z. length z + k) (sym (m.keeps.homes root root_in))))
    deep k (inr x) =
        let d = T.deep n (omega arith) in
        let f : length (home b j) ≡ suc (length (home a i)) = ap length m.at_home in
        let g : length (home a (get_or stack n 0)) ≡ length (home a i) = ap (λ z. length (home a z)) at in
        let r = ap length (m.keeps.homes root root_in) in
        ap (λ z. length (home b z)) (new k x) ∙ omega arith

    links : (k : ℕ) → (suc k < length stack) ⊎ (length stack ≤ suc k) → suc k ≤ length stack → IsTrailLink b p (get_or (stack ++ j ∷ []) k 0) (get_or (stack ++ j ∷ []) (suc k) 0)
    links k (inl lt) le =
        let t = T.links k lt in
        let i' = T.inside k (omega arith) in
        let hm = m.keeps.homes (get_or stack k 0) i' in
        subst₂ (λ x y. IsTrailLink b p x y) (sym (old k (omega arith))) (sym (old (suc k) lt)) (record {
          label = t.label;
          lies = subst (λ z. Under p.spot (down t.label ∷ z)) (sym hm) t.lies;
          is = m.keeps.links (get_or stack k 0) (down t.label) i' (λ f. let s = above-length f in let d = T.deep k (omega arith) in let d2 = T.deep n (omega arith) in let g : length (home a (get_or stack n 0)) ≡ length (home a i) = ap (λ z. length (home a z)) at in omega arith) ∙ t.is;
        })
    links k (inr ge) le =
        let kn : k ≡ n = omega arith in
        let x : get_or (stack ++ j ∷ []) k 0 ≡ i = old k (omega arith) ∙ (ap (λ z. get_or stack z 0) kn ∙ at) in
        subst₂ (λ y z. IsTrailLink b p y z) (sym x) (sym (new (suc k) (omega arith))) (record {
          label = l;
          lies = subst (λ z. Under p.spot (down l ∷ z)) (sym (m.keeps.homes i i_in)) u;
          is = m.link;
        })
