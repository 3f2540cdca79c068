-- What a spot of the schema has left at an address of a dimension.
use Rattle.std.proofs.Common.{◌≡◌, ℕ, ◌-◌, zero, suc, ◌<◌, ◌≤◌, Bool, true, false, cond, eqb, List, [], ◌∷◌, Option, Some, None, get_or, drop, length, refl, sym, ap, ◌∙◌, subst, arith, is_some}
use Rattle.cube_view.specs.Walks.{Step, down, across, Walk, SpotPath, Cursor, after_down, after_across, then_step, cursor, Under, dimension}
use Rattle.proper_path.specs.Making.{IsSpotOf}
use Rattle.cube_view.proofs.FinerWalks.{begun, under-some}

drop_next : {X : Type 0} (xs ys : List X) (y d : X) (n : ℕ) → drop n xs ≡ y ∷ ys → (get_or xs n d ≡ y) × (drop (suc n) xs ≡ ys) × (n < length xs)
drop_next [] ys y d zero e = absurd cc
drop_next [] ys y d (suc n) e = absurd cc
drop_next (x ∷ xs) ys y d zero e = (cc, cc, omega arith)
drop_next (x ∷ xs) ys y d (suc n) e = let r = drop_next xs ys y d n e in (r.0, r.1, omega arith)

drop_some : {X : Type 0} (xs : List X) (n : ℕ) → n < length xs → (y : X) × (ys : List X) × (drop n xs ≡ y ∷ ys)
drop_some [] n l = absurd (omega arith)
drop_some (x ∷ xs) zero l = (x, xs, refl)
drop_some (x ∷ xs) (suc n) l = drop_some xs n (omega arith)

-- how many dimensions come before an address
abbrev pub before_of : Walk → ℕ
before_of [] = 0
before_of (down l ∷ a) = before_of a
before_of (across ∷ a) = suc (before_of a)

pub dimension-before : (a : Walk) → dimension a ≡ suc (before_of a)
dimension-before [] = refl
dimension-before (down l ∷ a) = dimension-before a
dimension-before (across ∷ a) = ap suc (dimension-before a)

pub record IsRestOf (p : SpotPath) (a : Walk) (c : Cursor) : Type 0 where
  pub later : c.later ≡ drop (suc (before_of a)) p.paths
  pub rest : length c.rest ≤ length (get_or p.paths (before_of a) [])
  pub inside : before_of a < length p.paths

left_at_start : (paths : List (List ℕ)) (c : Cursor) → after_across paths ≡ Some c → (c.later ≡ drop 1 paths) × (length c.rest ≤ length (get_or paths 0 [])) × (0 < length paths)
left_at_start [] c h = absurd cc
left_at_start (x ∷ paths) c h =
    let e : record { rest = x; later = paths } ≡ c = cc in
    (ap (λ (z : Cursor). z.later) (sym e), subst (λ (z : Cursor). length z.rest ≤ length x) e (omega arith), omega arith)

shorter : (l : ℕ) (rest : List ℕ) (later : List (List ℕ)) (c : Cursor) → after_down l rest later ≡ Some c → (c.later ≡ later) × (length c.rest < length rest)
shorter l [] later c h = absurd cc
shorter l (x ∷ rest) later c h = go (eqb l x) h
  where
    go : (b : Bool) → cond b (Some (record { rest = rest; later = later })) None ≡ Some c → (c.later ≡ later) × (length c.rest < suc (length rest))
    go true k = let e : record { rest = rest; later = later } ≡ c = cc in subst (λ (z : Cursor). (z.later ≡ later) × (length z.rest < suc (length rest))) e (refl, omega arith)
    go false k = absurd cc

opened : (later : List (List ℕ)) (c : Cursor) → after_across later ≡ Some c → later ≡ c.rest ∷ c.later
opened [] c h = absurd cc
opened (x ∷ later) c h = let e : record { rest = x; later = later } ≡ c = cc in ap (λ (z : Cursor). z.rest ∷ z.later) e

pub cursor_left : (p : SpotPath) (a : Walk) (c : Cursor) → cursor p a ≡ Some c → IsRestOf p a c
cursor_left p [] c h = let r = left_at_start p.paths c h in record { later = r.0; rest = r.1; inside = r.2 }
cursor_left p (down l ∷ a) c h =
    let b = begun (cursor p a) (down l) c h in let r = cursor_left p a b.0 b.1 in let s = shorter l b.0.rest b.0.later c b.2 in
    record { later = s.0 ∙ r.later; rest = omega (arith, r.rest, s.1); inside = r.inside }
cursor_left p (across ∷ a) c h =
    let b = begun (cursor p a) across c h in let r = cursor_left p a b.0 b.1 in
    let s = drop_next p.paths c.later c.rest [] (suc (before_of a)) (sym r.later ∙ opened b.0.later c b.2) in
    record { later = sym s.1; rest = subst (λ z. length c.rest ≤ length z) (sym s.0) (omega arith); inside = s.2 }

-- before time a spot goes across
pub goes_across : (dims : ℕ) (p : SpotPath) → IsSpotOf dims p → (a : Walk) → Under p a → (dimension a ≡ dims → ⊥) → Under p (across ∷ a)
goes_across dims p P a u n = ap (λ (o : Option Cursor). is_some (then_step o across)) c.1 ∙ ap (λ (x : List (List ℕ)). is_some (after_across x)) (r.later ∙ s.2)
  where
    c : (c : Cursor) × (cursor p a ≡ Some c)
    c = under-some p a u

    r : IsRestOf p a c.0
    r = cursor_left p a c.0 c.1

    s : (y : List ℕ) × (ys : List (List ℕ)) × (drop (suc (before_of a)) p.paths ≡ y ∷ ys)
    s = drop_some p.paths (suc (before_of a)) (let i = r.inside in let e = P.size in let b = dimension-before a in omega arith)

-- at time it goes nowhere
pub stops_at_time : (dims : ℕ) (p : SpotPath) → IsSpotOf dims p → (a : Walk) → dimension a ≡ dims → (e : Step) → Under p (e ∷ a) → ⊥
stops_at_time dims p P a d (down l) u =
    let c = under-some p (down l ∷ a) u in let b = begun (cursor p a) (down l) c.0 c.1 in let r = cursor_left p a b.0 b.1 in
    let s = shorter l b.0.rest b.0.later c.0 b.2 in
    let b = dimension-before a in
    let n : before_of a ≡ dims - 1 = omega arith in
    let t : length (get_or p.paths (before_of a) []) ≡ 0 = ap (λ z. length (get_or p.paths z [])) n ∙ ap length P.time in
    omega (arith, r.rest, s.1)
stops_at_time dims p P a d across u =
    let c = under-some p (across ∷ a) u in let r = cursor_left p (across ∷ a) c.0 c.1 in
    let i = r.inside in let e = P.size in let b = dimension-before a in omega arith

first_of_drop : (xs ys : List (List ℕ)) (y : List ℕ) (n : ℕ) → drop n xs ≡ y ∷ ys → get_or xs n [] ≡ y
first_of_drop [] ys y zero e = absurd cc
first_of_drop [] ys y (suc n) e = absurd cc
first_of_drop (x ∷ xs) ys y zero e = cc
first_of_drop (x ∷ xs) ys y (suc n) e = first_of_drop xs ys y n e

-- at a content's home the point's whole path of the dimension is left
pub content_rest : (p : SpotPath) (a : Walk) (c : Cursor) → cursor p (across ∷ a) ≡ Some c → c.rest ≡ get_or p.paths (dimension a) []
content_rest p a c e =
    let b = begun (cursor p a) across c e in let l = cursor_left p a b.0 b.1 in
    sym (first_of_drop p.paths c.later c.rest (suc (before_of a)) (sym l.later ∙ opened b.0.later c b.2)) ∙ ap (λ z. get_or p.paths z []) (sym (dimension-before a))
