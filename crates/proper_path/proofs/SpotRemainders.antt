-- What a walk leaves of a spot of the schema: the labels below it in its dimension, and the later dimensions.
use Rattle.std.proofs.Common.{◌≡◌, ℕ, zero, suc, ◌+◌, ◌-◌, ◌<◌, ◌≤◌, Bool, true, false, cond, eqb, List, [], ◌∷◌, length, drop, get_or, Option, Some, None, is_some, refl, sym, ◌∙◌, ap, arith, add-one, eq-eqb, eqb-true}
use Rattle.std.proofs.Math.Seq.{drop-cons}
use Rattle.cube_view.specs.Paths.{path_of, paths_from, spot_path}
use Rattle.cube_view.specs.Places.{time_dim, deepest, label_of}
use Rattle.cube_view.specs.Walks.{down, across, Walk, Cursor, after_down, after_across, then_step, cursor, under, Under, dimension}
use Rattle.cube_view.specs.declared.schema.Schema.{Schema}
use Rattle.cube_view.specs.declared.spot.Spot.{Spot}
use Rattle.cube_view.proofs.FinerWalks.{begun, under-some, iff_same}
use Rattle.proper_path.proofs.Labels.{length-path_of, get_or-path_of}
use Rattle.proper_path.specs.Paths.{level_of}

-- what is left of the spot
pub record IsLeft (z : Schema) (s : Spot) (w : Walk) (c : Cursor) : Type 0 where
  pub some : 1 ≤ dimension w
  pub within : dimension w ≤ time_dim z
  pub rest : c.rest ≡ drop (level_of w) (path_of z s (dimension w))
  pub later : c.later ≡ paths_from z s (dimension w + 1) (time_dim z - dimension w)

pub went_down : (l : ℕ) (rest : List ℕ) (later : List (List ℕ)) (c : Cursor) → after_down l rest later ≡ Some c → (rest ≡ l ∷ c.rest) × (later ≡ c.later)
went_down l [] later c h = absurd cc
went_down l (x ∷ rest) later c h = go (eqb l x) (eqb-true l x) h
  where
    go : (b : Bool) → (b ≡ true → l ≡ x) → cond b (Some (record { rest = rest; later = later })) None ≡ Some c → (x ∷ rest ≡ l ∷ c.rest) × (later ≡ c.later)
    go true t e = let f : record { rest = rest; later = later } ≡ c = cc in let x_is = t refl in (ap (λ y. y ∷ rest) (sym x_is) ∙ ap (λ (d : Cursor). l ∷ d.rest) f, ap (λ (d : Cursor). d.later) f)
    go false t e = absurd cc

went_across : (paths : List (List ℕ)) (path : List ℕ) (more : List (List ℕ)) (c : Cursor) → paths ≡ path ∷ more → after_across paths ≡ Some c → (c.rest ≡ path) × (c.later ≡ more)
went_across paths path more c is h =
    let e : Some (record { rest = path; later = more }) ≡ Some c = sym (ap after_across is) ∙ h in
    let f : record { rest = path; later = more } ≡ c = cc in
    (ap (λ (d : Cursor). d.rest) (sym f), ap (λ (d : Cursor). d.later) (sym f))

drop_tail : (n : ℕ) (xs : List ℕ) (x : ℕ) (ys : List ℕ) → x ∷ ys ≡ drop n xs → ys ≡ drop (suc n) xs
drop_tail zero [] x ys e = absurd cc
drop_tail zero (a ∷ xs) x ys e = cc
drop_tail (suc n) [] x ys e = absurd cc
drop_tail (suc n) (a ∷ xs) x ys e = drop_tail n xs x ys e

left_across : (z : Schema) (s : Spot) (w : Walk) (b c : Cursor) → IsLeft z s w b → after_across b.later ≡ Some c → (n : ℕ) → time_dim z - dimension w ≡ n → IsLeft z s (across ∷ w) c
left_across z s w b c before is zero e =
    let none : after_across b.later ≡ None = ap after_across (before.later ∙ ap (paths_from z s (dimension w + 1)) e) in
    let x : None ≡ Some c = sym none ∙ is in
    absurd cc
left_across z s w b c before is (suc n) e =
    let t = went_across b.later (path_of z s (dimension w + 1)) (paths_from z s (dimension w + 1 + 1) n) c (before.later ∙ ap (paths_from z s (dimension w + 1)) e) is in
    let d = add-one (dimension w) in
    let m : n ≡ time_dim z - suc (dimension w) = omega (arith, e) in
    record {
      some = omega arith;
      within = omega (arith, e);
      rest = t.0 ∙ ap (path_of z s) d;
      later = t.1 ∙ (ap (λ (j : ℕ). paths_from z s (j + 1) n) d ∙ ap (paths_from z s (suc (dimension w) + 1)) m);
    }

-- what a walk that went well has left
pub left : (z : Schema) (s : Spot) (w : Walk) (c : Cursor) → cursor (spot_path z s) w ≡ Some c → IsLeft z s w c
left z s [] c h =
    let dims : time_dim z ≡ suc (length z.categories + 1) = omega arith in
    let e = went_across (paths_from z s 1 (time_dim z)) (path_of z s 1) (paths_from z s (1 + 1) (length z.categories + 1)) c (ap (paths_from z s 1) dims) h in
    let n : length z.categories + 1 ≡ time_dim z - 1 = omega arith in
    record { some = omega arith; within = omega arith; rest = e.0; later = e.1 ∙ ap (paths_from z s (1 + 1)) n }
left z s (down l ∷ w) c h =
    let b = begun (cursor (spot_path z s) w) (down l) c h in
    let before = left z s w b.0 b.1 in
    let went = went_down l b.0.rest b.0.later c b.2 in
    record {
      some = before.some;
      within = before.within;
      rest = drop_tail (level_of w) (path_of z s (dimension w)) l c.rest (sym went.0 ∙ before.rest);
      later = sym went.1 ∙ before.later;
    }
left z s (across ∷ w) c h =
    let b = begun (cursor (spot_path z s) w) across c h in
    left_across z s w b.0 c (left z s w b.0 b.1) b.2 (time_dim z - dimension w) refl

-- a test for equality either way
pub turned : (a b : ℕ) → eqb a b ≡ eqb b a
turned a b = iff_same (eqb a b) (eqb b a) (λ e. eq-eqb b a (sym (eqb-true a b e))) (λ e. eq-eqb a b (sym (eqb-true b a e)))

-- a step down from above the deepest level goes to the spot where it is by the spot's label
pub under-down : (z : Schema) (s : Spot) (w : Walk) (l : ℕ) → Under (spot_path z s) w → level_of w < deepest z (dimension w) → under (spot_path z s) (down l ∷ w) ≡ eqb (label_of z s (dimension w) (level_of w + 1)) l
under-down z s w l u lt =
    let c = under-some (spot_path z s) w u in
    let L = left z s w c.0 c.1 in
    let size : level_of w < length (path_of z s (dimension w)) = let n = length-path_of z s (dimension w) in omega (arith, lt, n) in
    let head = drop-cons (path_of z s (dimension w)) (level_of w) 0 size in
    ap (λ (o : Option Cursor). is_some (then_step o (down l))) c.1
    ∙ (ap (λ (r : List ℕ). is_some (after_down l r c.0.later)) (L.rest ∙ head)
    ∙ (first l (get_or (path_of z s (dimension w)) (level_of w) 0) (drop (suc (level_of w)) (path_of z s (dimension w))) c.0.later
    ∙ (turned l (get_or (path_of z s (dimension w)) (level_of w) 0)
    ∙ ap (λ (x : ℕ). eqb x l) (sym (get_or-path_of z s (dimension w) (level_of w) lt)))))
  where
    first : (l x : ℕ) (rest : List ℕ) (later : List (List ℕ)) → is_some (after_down l (x ∷ rest) later) ≡ eqb l x
    first l x rest later = some_if (eqb l x)
      where
        some_if : (b : Bool) → is_some {T = Cursor} (cond b (Some (record { rest = rest; later = later })) None) ≡ b
        some_if true = refl
        some_if false = refl

-- a step across goes to each spot, before time
pub under-across : (z : Schema) (s : Spot) (w : Walk) → Under (spot_path z s) w → dimension w < time_dim z → Under (spot_path z s) (across ∷ w)
under-across z s w u lt = go (time_dim z - dimension w) refl
  where
    c : (d : Cursor) × (cursor (spot_path z s) w ≡ Some d)
    c = under-some (spot_path z s) w u

    go : (n : ℕ) → time_dim z - dimension w ≡ n → is_some (then_step (cursor (spot_path z s) w) across) ≡ true
    go zero e = absurd (omega (arith, lt, e))
    go (suc n) e =
        ap (λ (o : Option Cursor). is_some (then_step o across)) c.1
        ∙ ap (λ (ps : List (List ℕ)). is_some (after_across ps)) ((left z s w c.0 c.1).later ∙ ap (paths_from z s (dimension w + 1)) e)

-- and each spot lies under the top
pub under-top : (z : Schema) (s : Spot) → Under (spot_path z s) []
under-top z s = let dims : time_dim z ≡ suc (length z.categories + 1) = omega arith in ap (λ (n : ℕ). is_some (after_across (paths_from z s 1 n))) dims
