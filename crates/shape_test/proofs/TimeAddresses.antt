-- Which addresses are at time: those that go through all levels.
use Rattle.std.proofs.Common.{◌≡◌, ◌↔◌, ℕ, zero, suc, ◌+◌, ◌-◌, ◌≤◌, List, [], ◌∷◌, ◌++◌, length, get_or, Some, refl, sym, ap, ◌∙◌, arith, append_assoc, length-append}
use Rattle.std.proofs.lemmas.List.{nil_from_length}
use Rattle.cube_view.specs.Walks.{down, across, Walk, dimension}
use Rattle.shape_test.specs.Levels.{Levels, level_down, level_across, left, no_levels, EndsWithTime}
use Rattle.shape_test.proofs.Local.{level_begun}

-- where an address stands among the levels
pub record StandsIn (levels : List ℕ) (a : Walk) (c : Levels) : Type 0 where
  pub before : List ℕ
  pub here : ℕ
  pub is : levels ≡ before ++ here ∷ c.later
  pub within : c.rest ≤ here
  pub number : length before + 1 ≡ dimension a

pub stands : (levels : List ℕ) (a : Walk) (c : Levels) → left levels a ≡ Some c → StandsIn levels a c
stands [] [] c h = absurd cc
stands (n ∷ levels) [] c h =
    let e : record { rest = n; later = levels } ≡ c = cc in
    record { before = []; here = n; is = ap (λ (z : Levels). n ∷ z.later) e; within = (let f : n ≡ c.rest = ap (λ (z : Levels). z.rest) e in omega (arith, f)); number = refl }
stands levels (down l ∷ a) c h =
    let b = level_begun (left levels a) (down l) c h in
    let s = stands levels a b.0 b.1 in
    down_stands b.0 s b.2
  where
    down_stands : (b : Levels) → StandsIn levels a b → level_down b.rest b.later ≡ Some c → StandsIn levels (down l ∷ a) c
    down_stands b s k = go b.rest refl k
      where
        go : (n : ℕ) → b.rest ≡ n → level_down n b.later ≡ Some c → StandsIn levels (down l ∷ a) c
        go zero r x = absurd cc
        go (suc n) r x =
            let e : record { rest = n; later = b.later } ≡ c = cc in
            let f : n ≡ c.rest = ap (λ (z : Levels). z.rest) e in
            let g : b.later ≡ c.later = ap (λ (z : Levels). z.later) e in
            let w = s.within in
            record { before = s.before; here = s.here; is = s.is ∙ ap (λ (z : List ℕ). s.before ++ s.here ∷ z) g; within = omega (arith, f, r, w); number = s.number }
stands levels (across ∷ a) c h =
    let b = level_begun (left levels a) across c h in
    across_stands b.0 (stands levels a b.0 b.1) b.2
  where
    across_stands : (b : Levels) → StandsIn levels a b → level_across b.later ≡ Some c → StandsIn levels (across ∷ a) c
    across_stands b s k = go b.later refl k
      where
        go : (later : List ℕ) → b.later ≡ later → level_across later ≡ Some c → StandsIn levels (across ∷ a) c
        go [] r x = absurd cc
        go (n ∷ later) r x =
            let e : record { rest = n; later = later } ≡ c = cc in
            let f : n ≡ c.rest = ap (λ (z : Levels). z.rest) e in
            let g : later ≡ c.later = ap (λ (z : Levels). z.later) e in
            let size = length-append s.before (s.here ∷ []) in
            let number = s.number in
            record {
              before = s.before ++ s.here ∷ [];
              here = n;
              is = s.is ∙ (ap (λ (z : List ℕ). s.before ++ s.here ∷ z) (r ∙ ap (λ (z : List ℕ). n ∷ z) g) ∙ sym (append_assoc s.before (s.here ∷ []) (n ∷ c.later)));
              within = omega (arith, f);
              number = omega (arith, size, number);
            }

at_last : (before : List ℕ) (k n : ℕ) → n ≡ length before → get_or (before ++ k ∷ []) n 0 ≡ k
at_last [] k zero e = refl
at_last [] k (suc n) e = absurd (omega (arith, e))
at_last (x ∷ before) k zero e = absurd (omega (arith, e))
at_last (x ∷ before) k (suc n) e = at_last before k n (omega (arith, e))

-- time is where nothing is left
pub time_of : (dims : ℕ) (levels : List ℕ) → EndsWithTime dims levels → (a : Walk) (c : Levels) → left levels a ≡ Some c → (dimension a ≡ dims) ↔ (c ≡ no_levels)
time_of dims levels T a c h = (forth, back)
  where
    s : StandsIn levels a c
    s = stands levels a c h

    size : length s.before + suc (length c.later) ≡ dims
    size = let e = ap length s.is ∙ length-append s.before (s.here ∷ c.later) in let t = T.size in omega (arith, e, t)

    forth : dimension a ≡ dims → c ≡ no_levels
    forth d =
        let n = s.number in
        let none : c.later ≡ [] = nil_from_length c.later (omega (arith, size, n, d)) in
        let at : get_or (s.before ++ s.here ∷ []) (dims - 1) 0 ≡ s.here = at_last s.before s.here (dims - 1) (omega (arith, n, d)) in
        let last : get_or levels (dims - 1) 0 ≡ 0 = T.last in
        let there : get_or levels (dims - 1) 0 ≡ s.here = ap (λ (z : List ℕ). get_or z (dims - 1) 0) (s.is ∙ ap (λ (z : List ℕ). s.before ++ s.here ∷ z) none) ∙ at in
        let w = s.within in
        let zero_left : c.rest ≡ 0 = omega (arith, w, last, there) in
        λ i. record { rest = zero_left i; later = none i }

    back : c ≡ no_levels → dimension a ≡ dims
    back e =
        let none : length c.later ≡ 0 = ap (λ (z : Levels). length z.later) e in
        let n = s.number in
        omega (arith, size, n, none)
