-- What a session has heard, step by step.
use Rattle.std.proofs.Common.{◌≡◌, ℕ, ◌≤◌, List, [], ◌∷◌, ◌++◌, All, length, set, Option, Some, None, IfSome, refl, sym, ap, ◌∙◌, subst, arith}
use Rattle.std.specs.Prelude.{max, slice_get}
use Rattle.std.proofs.Math.Nat.{max-le}
use Rattle.std.proofs.lemmas.List.{map-append}
use Rattle.std.proofs.lemmas.List.Elements.{All-push, All-set, All-weaker}
use Rattle.std.proofs.lemmas.Option.{get_or_from_slice_get, slice_get_within}
use Rattle.mailbox.specs.Ends.{and_taken, lengths_of}
use Rattle.published_pair.specs.Rules.{Known}
use Rattle.published_pair.specs.declared.told.Told.{Told}
use Rattle.world_core.proofs.Lists.{All-middle}
use Rattle.run_law.specs.Moves.{IsLastIn, having_posted, having_asked}
use Rattle.run_law.specs.Standing.{HasHeard}
use Rattle.run_law.specs.Views.{SessionView, last_length, told_to}

-- the list told last is the last one
pub last_length-push : (n : ℕ) (told : List Known) (list : Known) → last_length n (told ++ list ∷ []) ≡ length list.points
last_length-push n [] list = refl
last_length-push n (x ∷ told) list = last_length-push (length x.points) told list

-- of a session that was told this last
all_up_to : {X : Type 0} (size : X → ℕ) (m n : ℕ) (xs : List X) → m ≤ n → All (λ x. size x ≤ m) xs → All (λ x. size x ≤ n) xs
all_up_to size m n xs more all = All-weaker (λ x. size x ≤ m) (λ x. size x ≤ n) (λ x le. omega (arith, le, more)) xs all

abbrev size_of_told : Told → ℕ
size_of_told t = length t.front.points

-- where more is published
pub heard_more : (p q : Known) (session : SessionView) → length p.points ≤ length q.points → HasHeard p session → HasHeard q session
heard_more p q session more was = record {
  within = let w = was.within in omega (arith, w, more);
  put = was.put;
  taken = was.taken;
  learned = was.learned;
}

module _ (p : Known) (session : SessionView) (was : HasHeard p session) where
  -- where it is told of what is published
  pub heard_told : (list : Known) → length list.points ≡ length p.points → HasHeard p (record session { told = session.told ++ list ∷ [] })
  heard_told list all =
      let last : last_length 0 (session.told ++ list ∷ []) ≡ length list.points = last_length-push 0 session.told list in
      let n = last_length 0 (session.told ++ list ∷ []) in
      let more : told_to session ≤ n = let w = was.within in omega (arith, last, all, w) in
      record {
        within = omega (arith, last, all);
        put = all_up_to (λ (k : ℕ). k) (told_to session) n session.put.lengths more was.put;
        taken = all_up_to size_of_told (told_to session) n session.taken.taken more was.taken;
        learned = let l = was.learned in omega (arith, l, more);
      }

  -- where it learns no more than it was told
  pub heard_learned : (list : Known) → length list.points ≤ told_to session → HasHeard p (record session { learned = list })
  heard_learned list few = record { within = was.within; put = was.put; taken = was.taken; learned = few }

  -- where it is shown a list
  pub heard_shown : (list : Known) → HasHeard p (record session { shown = list })
  heard_shown list = record { within = was.within; put = was.put; taken = was.taken; learned = was.learned }

  -- where what it was told last is put into its mailbox
  pub heard_put : (earlier : List Known) (list : Known) → session.told ≡ earlier ++ list ∷ []
      → HasHeard p (having_posted session (length list.points))
  heard_put earlier list last =
      let is : told_to session ≡ length list.points = ap (last_length 0) last ∙ last_length-push 0 earlier list in
      record {
        within = was.within;
        put = All-push (λ (n : ℕ). n ≤ told_to session) session.put.lengths (length list.points) was.put (omega (arith, is));
        taken = was.taken;
        learned = was.learned;
      }

  -- what was put into its mailbox last is no longer than what it was told last
  last_few : (t : Told) → IsLastIn session t → size_of_told t ≤ told_to session
  last_few t is =
      let lengths : session.put.lengths ≡ lengths_of is.last.before ++ size_of_told t ∷ [] = sym is.lengths ∙ ap lengths_of is.last.last ∙ map-append size_of_told is.last.before (t ∷ []) in
      All-middle (λ (n : ℕ). n ≤ told_to session) (lengths_of is.last.before) (size_of_told t) [] (subst (All (λ (n : ℕ). n ≤ told_to session)) lengths was.put)

  taken_few : (told : Option Told) → IfSome told (IsLastIn session) → All (λ (t : Told). size_of_told t ≤ told_to session) (and_taken session.taken.taken told)
  taken_few None last = was.taken
  taken_few (Some t) last = All-push (λ (x : Told). size_of_told x ≤ told_to session) session.taken.taken t was.taken (last_few t last)

  -- where it asks its mailbox
  pub heard_asked : (told : Option Told) → IfSome told (IsLastIn session)
      → HasHeard p (having_asked session told)
  heard_asked told last = record { within = was.within; put = was.put; taken = taken_few told last; learned = was.learned }

  -- what it took last is no longer than what it was told last
  pub taken_last_few : (earlier : List Told) (t : Told) (n : ℕ) → session.taken.taken ≡ earlier ++ t ∷ [] → n ≡ max (length session.learned.points) (length t.front.points) → n ≤ told_to session
  taken_last_few earlier t n last greatest =
      let few = All-middle (λ (t : Told). size_of_told t ≤ told_to session) earlier t [] (subst (All (λ (t : Told). size_of_told t ≤ told_to session)) last was.taken) in
      let both = max-le was.learned few in
      omega (arith, greatest, both)

-- of a session in its place
pub heard_at : (p : Known) (sessions : List SessionView) (s : ℕ) (session : SessionView) → slice_get sessions s ≡ Some session → All (HasHeard p) sessions → HasHeard p session
heard_at p sessions s session at all = subst (HasHeard p) (get_or_from_slice_get sessions s session session at) (all s session (slice_get_within sessions s session at))

pub heard_set : (p : Known) (sessions : List SessionView) (s : ℕ) (session : SessionView) → HasHeard p session → All (HasHeard p) sessions → All (HasHeard p) (set sessions s session)
heard_set p sessions s session new all = All-set (HasHeard p) sessions s session new all

pub all_heard_more : (p q : Known) (sessions : List SessionView) → length p.points ≤ length q.points → All (HasHeard p) sessions → All (HasHeard q) sessions
all_heard_more p q sessions more all = All-weaker (HasHeard p) (HasHeard q) (λ session was. heard_more p q session more was) sessions all
