-- Two addresses that are finer than one, and that share a spot, have an address that is finer than both.
use Rattle.std.proofs.Common.{◌≡◌, ◌≢◌, ℕ, zero, suc, ◌+◌, ◌<◌, ◌≤◌, max, Bool, true, false, cond, eqb, eqb-true, ◌⊎◌, inl, inr, List, [], ◌∷◌, Option, Some, None, is_some, length, refl, sym, ap, ◌∙◌, subst, arith}
use Rattle.std.proofs.lemmas.Bool.{cases_eq, cases_lt}
use Rattle.cube_view.specs.Walks.{Step, down, across, Walk, SpotPath, Cursor, after_down, after_across, after_step, then_step, cursor, under, Under, Finer, top, by_down, by_across, longer, IsCoarser}
use Rattle.least_cube.proofs.Levels.{level, level-finer, level-coarser}
use Rattle.cube_view.proofs.FinerWalks.{begun, finer_cursor, under-some, coarser_cursor, step_across_finer, under_before, loosen}

-- an address within another one that is just as far down keeps its last dimension
pub tighten : {a b : Walk} → Finer true a b → level a ≡ level b → Finer false a b
tighten top e = top
tighten (by_down f) e = by_down f
tighten (by_across f) e = by_across f
tighten (longer f) e = let r = level-finer f in absurd (omega arith)

-- an address within both, which is as far down as the further one, and under which each spot lies that lies under both
pub record IsJoin (b c : Walk) : Type 0 where
  pub to : Walk
  pub first : Finer true b to
  pub second : Finer true c to
  pub far : level to ≡ max (level b) (level c)
  pub both : (q : SpotPath) → Under q b → Under q c → Under q to

-- a label further down, where the join of what is above is as far down as one of both
step_further : (l : ℕ) (b c : Walk) → level c ≤ level b → IsJoin b c → IsJoin (down l ∷ b) c
step_further l b c less J =
    let tight = tighten J.first (let f = J.far in omega arith) in
    record {
      to = down l ∷ J.to;
      first = by_down tight;
      second = longer J.second;
      far = let f = J.far in omega arith;
      both = λ q u v. sym (step_across_finer tight q (down l) (J.both q (under_before q (down l) b u) v)) ∙ u;
    }

swap : {b c : Walk} → IsJoin b c → IsJoin c b
swap J = record { to = J.to; first = J.second; second = J.first; far = let f = J.far in omega arith; both = λ q u v. J.both q v u }

-- the label by which a spot goes on
label_of : (l k : ℕ) (c : Option Cursor) → is_some (then_step c (down l)) ≡ true → is_some (then_step c (down k)) ≡ true → l ≡ k
label_of l k None x y = absurd cc
label_of l k (Some c) x y = go c.rest x y
  where
    go : (rest : List ℕ) → is_some (after_down l rest c.later) ≡ true → is_some (after_down k rest c.later) ≡ true → l ≡ k
    go [] p r = absurd cc
    go (m ∷ rest) p r = same_label l m p ∙ sym (same_label k m r)
      where
        same_label : (i m : ℕ) → is_some (after_down i (m ∷ rest) c.later) ≡ true → i ≡ m
        same_label i m e = hit (eqb i m) refl e
          where
            hit : (b : Bool) → eqb i m ≡ b → is_some {T = Cursor} (cond b (Some (record { rest = rest; later = c.later })) None) ≡ true → i ≡ m
            hit true t e = eqb-true i m t
            hit false t e = absurd cc

-- the same label further down for both
step_both : (l k : ℕ) (b c : Walk) (q : SpotPath) → level b ≡ level c → Under q (down l ∷ b) → Under q (down k ∷ c) → IsJoin b c → IsJoin (down l ∷ b) (down k ∷ c)
step_both l k b c q even u v J =
    let first = tighten J.first (let f = J.far in omega arith) in
    let second = tighten J.second (let f = J.far in omega arith) in
    let at = J.both q (under_before q (down l) b u) (under_before q (down k) c v) in
    let same = label_of l k (cursor q J.to) (sym (step_across_finer first q (down l) at) ∙ u) (sym (step_across_finer second q (down k) at) ∙ v) in
    subst (λ m. IsJoin (down l ∷ b) (down m ∷ c)) same (record {
      to = down l ∷ J.to;
      first = by_down first;
      second = by_down second;
      far = let f = J.far in omega arith;
      both = λ p x y. sym (step_across_finer first p (down l) (J.both p (under_before p (down l) b x) (under_before p (down l) c y))) ∙ x;
    })

-- across from addresses of one dimension
across_both : (b c : Walk) → IsJoin b c → IsJoin (across ∷ b) (across ∷ c)
across_both b c J = record {
  to = across ∷ J.to;
  first = by_across J.first;
  second = by_across J.second;
  far = refl;
  both = λ q u v.
      let at = under-some q J.to (J.both q (under_before q across b u) (under_before q across c v)) in
      let r = finer_cursor J.first q at.0 at.1 in
      let x : is_some (then_step (Some r.here) across) ≡ true = ap (λ (o : Option Cursor). is_some (then_step o across)) (sym r.is) ∙ u in
      ap (λ (o : Option Cursor). is_some (then_step o across)) at.1 ∙ (ap (λ (later : List (List ℕ)). is_some (after_across later)) (sym r.same_later) ∙ x);
}

-- the further one of two addresses, or both, without its last label
further_of : (l k : ℕ) (b c : Walk) (q : SpotPath) → Under q (down l ∷ b) → Under q (down k ∷ c) → IsJoin b c → IsJoin (down l ∷ b) c → IsJoin b (down k ∷ c) → IsJoin (down l ∷ b) (down k ∷ c)
further_of l k b c q u v even second first = go (cases_eq (level b) (level c)) (cases_lt (level b) (level c))
  where
    go : (level b ≡ level c) ⊎ (level b ≡ level c → ⊥) → (level b < level c) ⊎ (level c ≤ level b) → IsJoin (down l ∷ b) (down k ∷ c)
    go (inl e) o = step_both l k b c q e u v even
    go (inr d) (inl o) = swap (step_further k c (down l ∷ b) (omega arith) (swap second))
    go (inr d) (inr o) = step_further l b (down k ∷ c) (go_less d o) first
      where
        go_less : (level b ≡ level c → ⊥) → level c ≤ level b → suc (level c) ≤ level b
        go_less d o = elim (cases_lt (level c) (level b)) [ inl x ↦ omega arith | inr x ↦ absurd (d (omega arith)) ]

-- the join of two addresses within one that share a spot; n bounds their lengths
joined : (n : ℕ) {a b c : Walk} → length b + length c ≤ n → Finer true a b → Finer true a c → (q : SpotPath) → Under q b → Under q c → IsJoin b c
joined n short top top q u v = record { to = []; first = top; second = top; far = refl; both = λ p x y. x }
joined zero short (by_down f) g q u v = absurd (omega arith)
joined zero short (by_across f) g q u v = absurd (omega arith)
joined zero short (longer f) g q u v = absurd (omega arith)
joined zero short top (longer g) q u v = absurd (omega arith)
joined (suc n) short (by_down {l = l} {b = b} f) (by_down {b = c} g) q u v =
    step_both l l b c q (sym (level-coarser f) ∙ level-coarser g) u v (joined n (omega arith) (loosen f) (loosen g) q (under_before q (down l) b u) (under_before q (down l) c v))
joined (suc n) short (by_across {b = b} f) (by_across {b = c} g) q u v =
    across_both b c (joined n (omega arith) f g q (under_before q across b u) (under_before q across c v))
joined (suc n) short (longer {l = l} {b = b} f) (longer {l = k} {b = c} g) q u v =
    further_of l k b c q u v (joined n (omega arith) f g q (under_before q (down l) b u) (under_before q (down k) c v)) (joined n (omega arith) (longer {l = l} f) g q u (under_before q (down k) c v)) (joined n (omega arith) f (longer {l = k} g) q (under_before q (down l) b u) v)
joined (suc n) short (longer {l = l} {b = b} f) top q u v = step_further l b [] (omega arith) (joined n (omega arith) f top q (under_before q (down l) b u) v)
joined (suc n) short (longer {l = l} {b = b} f) (by_down {l = k} {b = c} g) q u v =
    step_further l b (down k ∷ c) (let r = level-finer f in let s = level-coarser g in omega arith) (joined n (omega arith) f (by_down {loose = true} {l = k} g) q (under_before q (down l) b u) v)
joined (suc n) short (longer {l = l} {b = b} f) (by_across {b = c} g) q u v =
    step_further l b (across ∷ c) (omega arith) (joined n (omega arith) f (by_across {loose = true} g) q (under_before q (down l) b u) v)
joined (suc n) short top (longer {l = k} {b = c} g) q u v = swap (step_further k c [] (omega arith) (joined n (omega arith) g top q (under_before q (down k) c v) u))
joined (suc n) short (by_down {l = l} {b = b} f) (longer {l = k} {b = c} g) q u v =
    swap (step_further k c (down l ∷ b) (let r = level-finer g in let s = level-coarser f in omega arith) (joined n (omega arith) g (by_down {loose = true} {l = l} f) q (under_before q (down k) c v) u))
joined (suc n) short (by_across {b = b} f) (longer {l = k} {b = c} g) q u v =
    swap (step_further k c (across ∷ b) (omega arith) (joined n (omega arith) g (by_across {loose = true} f) q (under_before q (down k) c v) u))

-- the join of two addresses that are finer than one and share a spot
pub join_of : {a b c : Walk} → IsCoarser a b → IsCoarser a c → (q : SpotPath) → Under q b → Under q c → IsJoin b c
join_of {a} {b} {c} f g q u v = joined (length b + length c) (omega arith) (loosen f) (loosen g) q u v
