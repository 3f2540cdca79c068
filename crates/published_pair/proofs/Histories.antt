-- The published list of a history, and what its end says.
use Rattle.std.proofs.Common.{◌≡◌, List, [], ◌∷◌, ◌++◌, length, refl, ap, sym, subst, ◌∙◌, arith, append_assoc, append-nil, length-append}
use Rattle.cube_view.specs.Points.{Point}
use Rattle.world_core.specs.PairFact.{IsPrefix}
use Rattle.published_pair.specs.declared.note.Note.{Note}
use Rattle.published_pair.specs.declared.note.Note.TheVariants.{Published, Ended}
use Rattle.published_pair.specs.Notes.{batches_of, noted_points, open_of, ended_of, EndsOnce}

pub batches_open : (bs : List (List Point)) → batches_of (open_of bs) ≡ bs
batches_open [] = refl
batches_open (b ∷ bs) = ap (λ cs. b ∷ cs) (batches_open bs)

pub batches_ended : (bs : List (List Point)) → batches_of (ended_of bs) ≡ bs
batches_ended [] = refl
batches_ended (b ∷ bs) = ap (λ cs. b ∷ cs) (batches_ended bs)

pub open_push : (bs : List (List Point)) (b : List Point) → open_of bs ++ Published b ∷ [] ≡ open_of (bs ++ b ∷ [])
open_push [] b = refl
open_push (c ∷ bs) b = ap (λ notes. Published c ∷ notes) (open_push bs b)

-- one more publication adds its points at the end
pub points_push : (bs : List (List Point)) (b : List Point) → noted_points (open_of bs ++ Published b ∷ []) ≡ noted_points (open_of bs) ++ b
points_push [] b = append-nil b
points_push (c ∷ bs) b = ap (λ ps. c ++ ps) (points_push bs b) ∙ sym (append_assoc c (noted_points (open_of bs)) b)

-- an end adds no point
pub points_end : (bs : List (List Point)) → noted_points (ended_of bs) ≡ noted_points (open_of bs)
points_end [] = refl
points_end (c ∷ bs) = ap (λ ps. c ++ ps) (points_end bs)

-- of a longer history the published list goes on
pub points_prefix : (xs ys : List Note) → IsPrefix xs ys → IsPrefix (noted_points xs) (noted_points ys)
points_prefix [] ys p = (noted_points ys, refl)
points_prefix (x ∷ xs) [] p = absurd (cc (p.1))
points_prefix (Published a ∷ xs) (Published b ∷ ys) p =
    let heads : a ≡ b = cc (p.1) in
    let rest = points_prefix xs ys (p.0, cc (p.1)) in
    (rest.0, ap (λ c. c ++ noted_points ys) (sym heads) ∙ (ap (λ ps. a ++ ps) rest.1 ∙ sym (append_assoc a (noted_points xs) rest.0)))
points_prefix (Published a ∷ xs) (Ended ∷ ys) p = absurd (cc (p.1))
points_prefix (Ended ∷ xs) (Published b ∷ ys) p = absurd (cc (p.1))
points_prefix (Ended ∷ xs) (Ended ∷ ys) p = ([], refl)

pub batch_added : (v log : List Note) (b : List Point) → v ≡ open_of (batches_of v) → log ≡ v ++ Published b ∷ [] → (log ≡ open_of (batches_of log)) × (noted_points log ≡ noted_points v ++ b)
batch_added v log b opens is =
    let all : log ≡ open_of (batches_of v ++ b ∷ []) = is ∙ (ap (λ w. w ++ Published b ∷ []) opens ∙ open_push (batches_of v) b) in
    let batches : batches_of log ≡ batches_of v ++ b ∷ [] = ap batches_of all ∙ batches_open (batches_of v ++ b ∷ []) in
    let points : noted_points log ≡ noted_points v ++ b = ap noted_points (is ∙ ap (λ w. w ++ Published b ∷ []) opens) ∙ (points_push (batches_of v) b ∙ ap (λ w. noted_points w ++ b) (sym opens)) in
    (all ∙ ap open_of (sym batches), points)

pub end_added : (v log : List Note) → v ≡ open_of (batches_of v) → log ≡ v ++ Ended ∷ [] → (log ≡ ended_of (batches_of log)) × (noted_points log ≡ noted_points v)
end_added v log opens is =
    let all : log ≡ ended_of (batches_of v) = is ∙ ap (λ w. w ++ Ended ∷ []) opens in
    let batches : batches_of log ≡ batches_of v = ap batches_of all ∙ batches_ended (batches_of v) in
    (all ∙ ap ended_of (sym batches), ap noted_points all ∙ (points_end (batches_of v) ∙ ap noted_points (sym opens)))

-- a history that has not ended may take an end, or a publication
pub ends_once : (bs : List (List Point)) (e : Note) (before after : List Note) → open_of bs ++ e ∷ [] ≡ before ++ Ended ∷ after → after ≡ []
ends_once [] e [] after is = cc is
ends_once [] e (b ∷ bs) after is = absurd (omega (arith, ap length is, length-append bs (Ended ∷ after)))
ends_once (p ∷ ps) e [] after is = absurd (cc is)
ends_once (p ∷ ps) e (b ∷ bs) after is = ends_once ps e bs after (cc is)

pub nothing_ended : EndsOnce []
nothing_ended [] after is = absurd (cc is)
nothing_ended (b ∷ bs) after is = absurd (cc is)

-- a history that has ended stays
pub whole_stays : (bs : List (List Point)) (log : List Note) → IsPrefix (ended_of bs) log → EndsOnce log → log ≡ ended_of bs
whole_stays bs log pre once =
    let is : open_of bs ++ Ended ∷ pre.0 ≡ log = sym (append_assoc (open_of bs) (Ended ∷ []) pre.0) ∙ sym pre.1 in
    let none : pre.0 ≡ [] = once (open_of bs) pre.0 (sym is) in
    sym is ∙ ap (λ notes. open_of bs ++ Ended ∷ notes) none

-- whatever was published in a history that has ended is a prefix of its list
pub covered : (bs : List (List Point)) (front both : List Note) → IsPrefix front both → IsPrefix (ended_of bs) both → EndsOnce both → IsPrefix (noted_points front) (noted_points (ended_of bs))
covered bs front both p q once =
    subst (λ (w : List Note). IsPrefix (noted_points front) (noted_points w)) (whole_stays bs both q once) (points_prefix front both p)

-- the same of a history that is known to have ended
pub points_whole : (log front : List Note) → log ≡ ended_of (batches_of log) → IsPrefix (noted_points front) (noted_points (ended_of (batches_of log))) → IsPrefix (noted_points front) (noted_points log)
points_whole log front is p = subst (λ (w : List Note). IsPrefix (noted_points front) (noted_points w)) (sym is) p
