-- From one visit of a group to the next.
use Rattle.std.proofs.Common.{◌≡◌, ℕ, ◌+◌, ◌<◌, ◌≤◌, ◌⊎◌, inl, inr, List, ◌∷◌, Contains, length, ap, subst, arith}
use Rattle.std.proofs.lemmas.Bool.{cases_lt}
use Rattle.cube_view.specs.Walks.{Step, down, across, Walk, SpotPath, Under, HasSpot}
use Rattle.node_arena.specs.Amounts.{Weighted, spots_in}
use Rattle.node_arena.specs.Shape.{home_of, HasHomes}
use Rattle.node_arena.specs.Slots.{Slot}
use Rattle.proper_path.specs.Order.{IsAbove, itself, further}
use Rattle.proper_path.proofs.Above.{under_above}
use Rattle.proper_path.proofs.Homes.{IsFree}
use Rattle.proper_path.proofs.Order.{above-length}
use Rattle.proper_path.proofs.Steps.{none_below}
use Rattle.group_insert.specs.Turns.{IsEarlier, EndedBefore, EndedAfter, IsOpenAbove}
use Rattle.group_insert.proofs.Earlier.{earlier_below, earlier_across, EarlierDown, outside, in_content, in_lesser, earlier_down, content_earlier, lesser_earlier, open_step}
use Rattle.group_insert.proofs.SameState.{IsSameTurn}

below_longer : {e : Step} {a b : Walk} → IsAbove b a → b ≡ e ∷ a → ⊥
below_longer f x = let l = above-length f in let s = ap length x in omega (arith, l, s)

-- what is strictly above one step of a node is so above each other
open_other : {e f : Step} {a : Walk} (b : Walk) → IsOpenAbove (e ∷ a) b → IsOpenAbove (f ∷ a) b
open_other {a = a} b o = (further (open_step o), λ x. below_longer (open_step o) x)

open_more : {e : Step} {a : Walk} (b : Walk) → IsOpenAbove a b → IsOpenAbove (e ∷ a) b
open_more b o = (further o.0, λ x. below_longer o.0 x)

-- a visit begins with the node's content ..
pub begins_content : (slots : List Slot) (homes : List Walk) (g : List Weighted) (a : Walk) → IsSameTurn slots homes g (EndedBefore g a) (IsOpenAbove a) (EndedBefore g (across ∷ a)) (IsOpenAbove (across ∷ a))
begins_content slots homes g a = record {
  to = λ b d. (d.0, earlier_below d.1 (further itself));
  back = λ j l d. (d.0, earlier_across d.1);
  holds = λ b d. d.0;
  wider = λ b o. open_more b o;
}

-- .. or, where nothing stands there and nothing will, with the labels
pub begins_labels : (slots : List Slot) (homes : List Walk) (g : List Weighted) (i : ℕ) → HasHomes slots homes → i < length slots → IsFree slots i across → IsSameTurn slots homes g (EndedBefore g (home_of homes i)) (IsOpenAbove (home_of homes i)) (EndedBefore g (down 0 ∷ home_of homes i)) (IsOpenAbove (down 0 ∷ home_of homes i))
begins_labels slots homes g i H lt free = record {
  to = λ b d. (d.0, earlier_below d.1 (further itself));
  back = λ j l d. (d.0, go j l (earlier_down d.1));
  holds = λ b d. d.0;
  wider = λ b o. open_more b o;
}
  where
    go : (j : ℕ) → j < length slots → EarlierDown 0 (home_of homes i) (home_of homes j) → IsEarlier (home_of homes j) (home_of homes i)
    go j l (outside r) = r
    go j l (in_content f) = absurd (none_below slots homes H i across lt free j l f)
    go j l (in_lesser k x f) = absurd (omega (arith, x))

-- from a step of a node to a label, before which its visits are those up to the end of the step
after_step : (slots : List Slot) (homes : List Walk) (g : List Weighted) (a : Walk) (e : Step) (k : ℕ) → ((b : Walk) → IsEarlier b (e ∷ a) ⊎ IsAbove (e ∷ a) b → IsEarlier b (down k ∷ a)) → ((b : Walk) → EarlierDown k a b → IsEarlier b (e ∷ a) ⊎ IsAbove (e ∷ a) b) → IsSameTurn slots homes g (EndedAfter g (e ∷ a)) (IsOpenAbove (e ∷ a)) (EndedBefore g (down k ∷ a)) (IsOpenAbove (down k ∷ a))
after_step slots homes g a e k to back = record {
  to = λ b d. (d.0, to b d.1);
  back = λ j l d. (d.0, back (home_of homes j) (earlier_down d.1));
  holds = λ b d. d.0;
  wider = λ b o. open_other b o;
}

-- from the content to the labels
pub content_to_labels : (slots : List Slot) (homes : List Walk) (g : List Weighted) (a : Walk) → IsSameTurn slots homes g (EndedAfter g (across ∷ a)) (IsOpenAbove (across ∷ a)) (EndedBefore g (down 0 ∷ a)) (IsOpenAbove (down 0 ∷ a))
content_to_labels slots homes g a = after_step slots homes g a across 0 to back
  where
    to : (b : Walk) → IsEarlier b (across ∷ a) ⊎ IsAbove (across ∷ a) b → IsEarlier b (down 0 ∷ a)
    to b (inl r) = earlier_below (earlier_across r) (further itself)
    to b (inr f) = content_earlier f

    back : (b : Walk) → EarlierDown 0 a b → IsEarlier b (across ∷ a) ⊎ IsAbove (across ∷ a) b
    back b (outside r) = inl (earlier_below r (further itself))
    back b (in_content f) = inr f
    back b (in_lesser k x f) = absurd (omega (arith, x))

-- over labels that no point of the group goes down
pub over_labels : (slots : List Slot) (homes : List Walk) (g : List Weighted) (a : Walk) (k m : ℕ) → k ≤ m → ((n : ℕ) (q : SpotPath) → k ≤ n → n < m → Contains (spots_in g) q → Under q (down n ∷ a) → ⊥) → IsSameTurn slots homes g (EndedBefore g (down k ∷ a)) (IsOpenAbove (down k ∷ a)) (EndedBefore g (down m ∷ a)) (IsOpenAbove (down m ∷ a))
over_labels slots homes g a k m le none = record {
  to = λ b d. (d.0, to b (earlier_down d.1));
  back = λ j l d. (d.0, back (home_of homes j) d.0 (earlier_down d.1));
  holds = λ b d. d.0;
  wider = λ b o. open_other b o;
}
  where
    to : (b : Walk) → EarlierDown k a b → IsEarlier b (down m ∷ a)
    to b (outside x) = earlier_below x (further itself)
    to b (in_content f) = content_earlier f
    to b (in_lesser n x f) = lesser_earlier (omega (arith, x, le)) f

    back : (b : Walk) → HasSpot (spots_in g) b → EarlierDown m a b → IsEarlier b (down k ∷ a)
    back b w (outside r) = earlier_below r (further itself)
    back b w (in_content f) = content_earlier f
    back b w (in_lesser n x f) = go (cases_lt n k)
      where
        go : (n < k) ⊎ (k ≤ n) → IsEarlier b (down k ∷ a)
        go (inl y) = lesser_earlier y f
        go (inr y) = absurd (none n w.spot y x w.is_in (under_above f w.spot w.lies))

-- after a label
pub past_label : (slots : List Slot) (homes : List Walk) (g : List Weighted) (a : Walk) (k : ℕ) → IsSameTurn slots homes g (EndedAfter g (down k ∷ a)) (IsOpenAbove (down k ∷ a)) (EndedBefore g (down (k + 1) ∷ a)) (IsOpenAbove (down (k + 1) ∷ a))
past_label slots homes g a k = after_step slots homes g a (down k) (k + 1) to back
  where
    to : (b : Walk) → IsEarlier b (down k ∷ a) ⊎ IsAbove (down k ∷ a) b → IsEarlier b (down (k + 1) ∷ a)
    to b (inl r) = go (earlier_down r)
      where
        go : EarlierDown k a b → IsEarlier b (down (k + 1) ∷ a)
        go (outside x) = earlier_below x (further itself)
        go (in_content f) = content_earlier f
        go (in_lesser n x f) = lesser_earlier (omega (arith, x)) f
    to b (inr f) = lesser_earlier (omega arith) f

    split : (n : ℕ) → n < k + 1 → (n < k) ⊎ (n ≡ k)
    split n l = grind arith

    back : (b : Walk) → EarlierDown (k + 1) a b → IsEarlier b (down k ∷ a) ⊎ IsAbove (down k ∷ a) b
    back b (outside r) = inl (earlier_below r (further itself))
    back b (in_content f) = inl (content_earlier f)
    back b (in_lesser n x f) = go (split n x)
      where
        go : (n < k) ⊎ (n ≡ k) → IsEarlier b (down k ∷ a) ⊎ IsAbove (down k ∷ a) b
        go (inl y) = inl (lesser_earlier y f)
        go (inr y) = inr (subst (λ z. IsAbove (down z ∷ a) b) y f)
