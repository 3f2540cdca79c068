-- Where a finer address turns off: it goes down a label where the other goes across.
use Rattle.std.proofs.Common.{◌≡◌, ℕ, true, ◌⊎◌, inl, inr, List, [], ◌∷◌, Option, Some, is_some, length, map, refl, ap, ◌∙◌}
use Rattle.cube_view.specs.Walks.{Step, down, across, Walk, SpotPath, Cursor, after_across, then_step, cursor, Under, Finer, top, by_down, by_across, longer, IsCoarser}
use Rattle.cube_view.proofs.FinerWalks.{begun, under-some, coarser_under, under_before}
use Rattle.point_insert.proofs.Cases.{same_left}
use Rattle.proper_path.specs.Order.{IsAbove, itself, further, shape_of}

-- so it is with an address that is one label longer
turn_of_longer : {a b : Walk} (l : ℕ) → IsCoarser a b ⊎ ((t : ℕ) × ((q : SpotPath) → Under q b → Under q (down t ∷ a))) → (t : ℕ) × ((q : SpotPath) → Under q (down l ∷ b) → Under q (down t ∷ a))
turn_of_longer l (inl c) = (l, λ q u. coarser_under (by_down c) q u)
turn_of_longer {b = b} l (inr r) = (r.0, λ q u. r.1 q (under_before q (down l) b u))

-- an address that lies within one is finer, or all its spots go down one label from there
pub within_cases : {a b : Walk} → Finer true a b → IsCoarser a b ⊎ ((t : ℕ) × ((q : SpotPath) → Under q b → Under q (down t ∷ a)))
within_cases top = inl top
within_cases (by_down f) = inl (by_down f)
within_cases (by_across f) = inl (by_across f)
within_cases (longer {l = l} f) = inr (turn_of_longer l (within_cases f))

-- the spots of a finer address go down a label where the other one goes across
pub record TurnsOff (a b : Walk) : Type 0 where
  pub base : Walk
  pub turn : ℕ
  pub above : IsAbove (across ∷ base) a
  pub goes : (q : SpotPath) → Under q b → Under q (down turn ∷ base)

turns_further : {a b : Walk} (e : Step) → TurnsOff a b → TurnsOff (e ∷ a) (e ∷ b)
turns_further {a} {b} e T = record { base = T.base; turn = T.turn; above = further T.above; goes = λ q u. T.goes q (under_before q e b u) }

turns_down : {a b : Walk} (l : ℕ) → (a ≡ b) ⊎ TurnsOff a b → (down l ∷ a ≡ down l ∷ b) ⊎ TurnsOff (down l ∷ a) (down l ∷ b)
turns_down l (inl e) = inl (ap (λ z. down l ∷ z) e)
turns_down l (inr T) = inr (turns_further (down l) T)

turns_across : {a b : Walk} → (a ≡ b) ⊎ TurnsOff a b → (across ∷ a ≡ across ∷ b) ⊎ TurnsOff (across ∷ a) (across ∷ b)
turns_across (inl e) = inl (ap (λ z. across ∷ z) e)
turns_across (inr T) = inr (turns_further across T)

turns_here : {a b : Walk} → (t : ℕ) × ((q : SpotPath) → Under q b → Under q (down t ∷ a)) → TurnsOff (across ∷ a) (across ∷ b)
turns_here {a} {b} r = record { base = a; turn = r.0; above = itself; goes = λ q u. r.1 q (under_before q across b u) }

mutual
  pub finer_turns : {a b : Walk} → IsCoarser a b → (a ≡ b) ⊎ TurnsOff a b
  finer_turns top = inl refl
  finer_turns (by_down {l = l} f) = turns_down l (finer_turns f)
  finer_turns (by_across f) = within_turns f

  within_turns : {a b : Walk} → Finer true a b → (across ∷ a ≡ across ∷ b) ⊎ TurnsOff (across ∷ a) (across ∷ b)
  within_turns top = inl refl
  within_turns (by_down {l = l} f) = turns_across (turns_down l (finer_turns f))
  within_turns (by_across f) = turns_across (within_turns f)
  within_turns (longer {l = l} f) = inr (turns_here (turn_of_longer l (within_cases f)))

more_left : (s r : List (List ℕ)) → map length s ≡ map length r → (d : Cursor) → after_across r ≡ Some d → is_some (after_across s) ≡ true
more_left [] [] e d x = absurd cc
more_left [] (n ∷ r) e d x = absurd cc
more_left (m ∷ s) r e d x = refl

-- where one spot goes across from an address, another of its shape does too
pub next_across : (q p : SpotPath) → shape_of q ≡ shape_of p → (a : Walk) → Under q a → Under p (across ∷ a) → Under q (across ∷ a)
next_across q p e a u v =
    let c = under-some q a u in
    let d = under-some p (across ∷ a) v in
    let b = begun (cursor p a) across d.0 d.1 in
    let k = same_left q p e a c.0 b.0 c.1 b.1 in
    ap (λ (o : Option Cursor). is_some (then_step o across)) c.1 ∙ more_left c.0.later b.0.later k.later d.0 b.2
