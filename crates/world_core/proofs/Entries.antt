-- Entries of a feeder that are numbered in order.
use Rattle.std.proofs.Common.{◌≡◌, ◌≢◌, ℕ, zero, suc, ◌+◌, eqb, eq-eqb, ne_eqb, cond, List, [], ◌∷◌, ◌++◌, length, take, refl, sym, ap, ◌∙◌, arith}
use Rattle.std.proofs.lemmas.List.Elements.{filter-append}
use Rattle.std.proofs.lemmas.List.{length-map, map-append}
use Rattle.std.proofs.Math.Seq.{take-append_seam}
use Rattle.cube_view.specs.Points.{Point}
use Rattle.world_core.specs.Interleaving.{entry, numbered, entries_of, entry_points}
use Rattle.world_core.specs.PairFact.{IsPrefix}
use Rattle.world_core.specs.declared.entry.Entry.{Entry}

pub entries_of-append : (f : ℕ) (a b : List Entry) → entries_of f (a ++ b) ≡ entries_of f a ++ entries_of f b
entries_of-append f a b = filter-append (λ (e : Entry). eqb e.feeder f) a b

pub entry_points-append : (a b : List Entry) → entry_points (a ++ b) ≡ entry_points a ++ entry_points b
entry_points-append a b = map-append (λ (e : Entry). e.point) a b

-- points of entries that stand in front of others are in front of theirs
pub IsPrefix-entry_points : (front whole : List Entry) → IsPrefix front whole → IsPrefix (entry_points front) (entry_points whole)
IsPrefix-entry_points front whole is = (entry_points is.0, ap entry_points is.1 ∙ entry_points-append front is.0)

pub length-entry_points : (entries : List Entry) → length (entry_points entries) ≡ length entries
length-entry_points entries = length-map entries (λ (e : Entry). e.point)

pub numbered-append : (f n : ℕ) (a b : List Point) → numbered f n (a ++ b) ≡ numbered f n a ++ numbered f (n + length a) b
numbered-append f n [] b = let e : n ≡ n + 0 = omega arith in ap (λ k. numbered f k b) e
numbered-append f n (p ∷ a) b =
    let e : n + 1 + length a ≡ n + suc (length a) = omega arith in
    ap (λ l. entry f n p ∷ l) (numbered-append f (n + 1) a b ∙ ap (λ k. numbered f (n + 1) a ++ numbered f k b) e)

pub length-numbered : (f n : ℕ) (points : List Point) → length (numbered f n points) ≡ length points
length-numbered f n [] = refl
length-numbered f n (p ∷ points) = ap suc (length-numbered f (n + 1) points)

pub entry_points-numbered : (f n : ℕ) (points : List Point) → entry_points (numbered f n points) ≡ points
entry_points-numbered f n [] = refl
entry_points-numbered f n (p ∷ points) = ap (λ l. p ∷ l) (entry_points-numbered f (n + 1) points)

pub take-numbered : (f n k : ℕ) (points : List Point) → take k (numbered f n points) ≡ numbered f n (take k points)
take-numbered f n zero points = refl
take-numbered f n (suc k) [] = refl
take-numbered f n (suc k) (p ∷ points) = ap (λ l. entry f n p ∷ l) (take-numbered f (n + 1) k points)

pub entries_of-numbered : (f n : ℕ) (points : List Point) → entries_of f (numbered f n points) ≡ numbered f n points
entries_of-numbered f n [] = refl
entries_of-numbered f n (p ∷ points) =
    ap (λ b. cond b (entry f n p ∷ entries_of f (numbered f (n + 1) points)) (entries_of f (numbered f (n + 1) points))) (eq-eqb f f refl)
    ∙ ap (λ l. entry f n p ∷ l) (entries_of-numbered f (n + 1) points)

pub entries_of-numbered_other : (f g n : ℕ) (points : List Point) → g ≢ f → entries_of f (numbered g n points) ≡ []
entries_of-numbered_other f g n [] other = refl
entries_of-numbered_other f g n (p ∷ points) other =
    ap (λ b. cond b (entry g n p ∷ entries_of f (numbered g (n + 1) points)) (entries_of f (numbered g (n + 1) points))) (ne_eqb g f other)
    ∙ entries_of-numbered_other f g (n + 1) points other

-- what stands before other entries of a feeder is numbered too, and has the points from the front
pub front_numbered : (f n : ℕ) (front more : List Entry) (points : List Point) → front ++ more ≡ numbered f n points → front ≡ numbered f n (entry_points front)
front_numbered f n front more points e =
    let k = length front in
    let first : front ≡ numbered f n (take k points) = sym (take-append_seam front more) ∙ (ap (take k) e ∙ take-numbered f n k points) in
    first ∙ ap (numbered f n) (sym (ap entry_points first ∙ entry_points-numbered f n (take k points)))

pub front_points : (f n : ℕ) (front more : List Entry) (points : List Point) → front ++ more ≡ numbered f n points → IsPrefix (entry_points front) points
front_points f n front more points e = (entry_points more, sym (entry_points-numbered f n points) ∙ (ap entry_points (sym e) ∙ entry_points-append front more))
