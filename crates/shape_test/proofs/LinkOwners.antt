-- The owners of slots, link by link.
use Rattle.std.proofs.Common.{◌≡◌, ◌⊎◌, inl, inr, ℕ, zero, suc, ◌<◌, ◌≤◌, ◌≢◌, Bool, true, false, cond, List, [], ◌∷◌, length, Option, Some, None, refl, sym, ap, ◌∙◌, subst, arith, true≢false, ⊎_elim}
use Rattle.std.proofs.Math.ListN.{set}
use Rattle.std.proofs.lemmas.Bool.{cases_lt}
use Rattle.std.proofs.lemmas.List.{length-set, get_or-set_same, get_or-set_other}
use Rattle.cube_view.specs.Walks.{Step, Walk}
use Rattle.node_arena.specs.declared.link.Link.{Link}
use Rattle.node_arena.specs.Shape.{home_of, HasProperLinks}
use Rattle.node_arena.specs.Slots.{proper, shared, target, Slot, link_of}
use Rattle.node_arena.specs.Stats.{is_proper}
use Rattle.node_arena.proofs.Links.{linked-lt, link_cases}
use Rattle.shape_test.specs.Homes.{step_of}
use Rattle.shape_test.specs.declared.home.Move.{Move}
use Rattle.shape_test.specs.Owners.{Owners, owner_of, owner_at, IsFree, IsNoted, IsSecond, IsOwner, AreOwners}
use Rattle.shape_test.specs.declared.owner.Owner.{Owner}

proper_to : (l : Link) (j : ℕ) → l ≡ proper j → (is_proper l ≡ true) × (target l ≡ j)
proper_to l j e = (ap is_proper e, ap target e)

-- at two places, or at one
same_or : (i j : ℕ) → (i ≡ j) ⊎ (i ≢ j)
same_or i j = go (cases_lt i j) (cases_lt j i)
  where
    go : (i < j) ⊎ (j ≤ i) → (j < i) ⊎ (i ≤ j) → (i ≡ j) ⊎ (i ≢ j)
    go (inl x) y = inr (λ e. omega (arith, x, e))
    go (inr x) (inl y) = inr (λ e. omega (arith, y, e))
    go (inr x) (inr y) = inl (omega (arith, x, y))

-- what is seen may grow by links that aren't there
pub still_owners : (slots : List Slot) (seen more : ℕ → Step → Type 0) (owners : Owners) → ((k : ℕ) (e : Step) → seen k e → more k e) → ((k j : ℕ) (e : Step) → more k e → link_of slots k e ≡ Some (proper j) → seen k e) → AreOwners slots seen owners → AreOwners slots more owners
still_owners slots seen more owners grows none A = record {
  size = A.size;
  told = λ j o x. let t = A.told j o x in (t.0, grows o.by.0 (step_of o.step) t.1);
  all = λ i j e s x. A.all i j e (none i j e s x) x;
}

module _ (slots : List Slot) (seen : ℕ → Step → Type 0) (old : Owners) (A : AreOwners slots seen old) (i : ℕ) (m : Move) (l : Link) (there : link_of slots i (step_of m) ≡ Some l) where
  -- a proper link is the one to its target
  owned : is_proper l ≡ true → link_of slots i (step_of m) ≡ Some (proper (target l))
  owned p = there ∙ ap Some (⊎_elim (λ (q : l ≡ proper (target l)). q) (λ (q : l ≡ shared (target l)). absurd (true≢false (sym p ∙ ap is_proper q))) (link_cases l))

  -- the owner of a link's target, noted
  pub one_owner : (more : ℕ → Step → Type 0) (new : Owners) → IsNoted old new l (owner_of i m) → ((k : ℕ) (e : Step) → seen k e → more k e) → more i (step_of m) → ((k j : ℕ) (e : Step) → more k e → link_of slots k e ≡ Some (proper j) → seen k e ⊎ ((k ≡ i) × (e ≡ step_of m))) → AreOwners slots more new
  one_owner more new N grows here only = go (is_proper l) refl
    where
      go : (b : Bool) → is_proper l ≡ b → AreOwners slots more new
      go false p =
          let same : new ≡ old = N.is ∙ ap (λ (b : Bool). cond b (set old (target l) (Some (owner_of i m))) old) p in
          subst (AreOwners slots more) (sym same) (still_owners slots seen more old grows known A)
        where
          known : (k j : ℕ) (e : Step) → more k e → link_of slots k e ≡ Some (proper j) → seen k e
          known k j e s x = pick (only k j e s x)
            where
              pick : seen k e ⊎ ((k ≡ i) × (e ≡ step_of m)) → seen k e
              pick (inl y) = y
              pick (inr y) =
                  let z : link_of slots k e ≡ Some l = ap (λ (n : ℕ). link_of slots n e) y.0 ∙ (ap (link_of slots i) y.1 ∙ there) in
                  let w : l ≡ proper j = cc in
                  let q = (proper_to l j w).0 in
                  absurd cc
      go true p = subst (AreOwners slots more) (sym same) (record {
        size = length-set old (target l) (Some (owner_of i m)) ∙ A.size;
        told = told;
        all = all;
      })
        where
          same : new ≡ set old (target l) (Some (owner_of i m))
          same = N.is ∙ ap (λ (b : Bool). cond b (set old (target l) (Some (owner_of i m))) old) p

          F : IsFree old (target l)
          F = N.free p

          here_owner : owner_at (set old (target l) (Some (owner_of i m))) (target l) ≡ Some (owner_of i m)
          here_owner = get_or-set_same old (target l) (Some (owner_of i m)) None F.within

          elsewhere : (j : ℕ) → j ≢ target l → owner_at (set old (target l) (Some (owner_of i m))) j ≡ owner_at old j
          elsewhere j other = get_or-set_other old (target l) j (Some (owner_of i m)) None other

          told : (j : ℕ) (o : Owner) → owner_at (set old (target l) (Some (owner_of i m))) j ≡ Some o → (link_of slots o.by.0 (step_of o.step) ≡ Some (proper j)) × more o.by.0 (step_of o.step)
          told j o x = pick (same_or j (target l))
            where
              pick : (j ≡ target l) ⊎ (j ≢ target l) → (link_of slots o.by.0 (step_of o.step) ≡ Some (proper j)) × more o.by.0 (step_of o.step)
              pick (inl y) =
                  let z : Some (owner_of i m) ≡ Some o = sym here_owner ∙ (ap (owner_at (set old (target l) (Some (owner_of i m)))) (sym y) ∙ x) in
                  let w : owner_of i m ≡ o = cc in
                  subst (λ (q : Owner). (link_of slots q.by.0 (step_of q.step) ≡ Some (proper j)) × more q.by.0 (step_of q.step)) w (owned p ∙ ap (λ (n : ℕ). Some (proper n)) (sym y), here)
              pick (inr y) = let t = A.told j o (sym (elsewhere j y) ∙ x) in (t.0, grows o.by.0 (step_of o.step) t.1)

          all : (k j : ℕ) (e : Step) → more k e → link_of slots k e ≡ Some (proper j) → (0 < j) × IsOwner (set old (target l) (Some (owner_of i m))) k e j
          all k j e s x = pick (only k j e s x)
            where
              pick : seen k e ⊎ ((k ≡ i) × (e ≡ step_of m)) → (0 < j) × IsOwner (set old (target l) (Some (owner_of i m))) k e j
              pick (inl y) =
                  let a = A.all k j e y x in
                  let n = F.none in
                  let w = a.1.noted in
                  let other : j ≢ target l = λ z. let q : Some (owner_of k a.1.step) ≡ None = sym w ∙ (ap (owner_at old) z ∙ n) in absurd cc in
                  (a.0, record { step = a.1.step; is = a.1.is; noted = elsewhere j other ∙ w })
              pick (inr y) =
                  let z : link_of slots k e ≡ Some l = ap (λ (n : ℕ). link_of slots n e) y.0 ∙ (ap (link_of slots i) y.1 ∙ there) in
                  let w : l ≡ proper j = cc in
                  let t : target l ≡ j = (proper_to l j w).1 in
                  let f = F.some in
                  (omega (arith, f, t), record { step = m; is = sym y.1; noted = ap (owner_at (set old (target l) (Some (owner_of i m)))) (sym t) ∙ (here_owner ∙ ap (λ (n : ℕ). Some (owner_of n m)) (sym y.0)) })

  -- where it can't be noted, slots have no homes
  pub second_owner : (seen i (step_of m) → ⊥) → IsSecond old l → (homes : List Walk) → HasProperLinks slots homes → ⊥
  second_owner unseen S homes H = S.taken (record { some = some (target l) refl; within = within; none = none (owner_at old (target l)) refl })
    where
      own : link_of slots i (step_of m) ≡ Some (proper (target l))
      own = owned S.owning

      home : (target l < length slots) × (home_of homes (target l) ≡ step_of m ∷ home_of homes i)
      home = H.at_home i (target l) (step_of m) own

      some : (t : ℕ) → target l ≡ t → 0 < t
      some zero e = let z : step_of m ∷ home_of homes i ≡ [] = sym home.1 ∙ (ap (home_of homes) e ∙ H.root) in absurd cc
      some (suc t) e = omega arith

      within : target l < length old
      within = let s = A.size in let h = home.0 in omega (arith, s, h)

      none : (o : Option Owner) → owner_at old (target l) ≡ o → o ≡ None
      none None e = refl
      none (Some o) e =
          let t = A.told (target l) o e in
          let h = H.at_home o.by.0 (target l) (step_of o.step) t.0 in
          let z : step_of o.step ∷ home_of homes o.by.0 ≡ step_of m ∷ home_of homes i = sym h.1 ∙ home.1 in
          let x : step_of o.step ≡ step_of m = cc in
          let y : home_of homes o.by.0 ≡ home_of homes i = cc in
          let k : o.by.0 ≡ i = H.distinct o.by.0 i (linked-lt slots o.by.0 (step_of o.step) (proper (target l)) t.0) (linked-lt slots i (step_of m) l there) y in
          absurd (unseen (subst (λ (n : ℕ). seen n (step_of m)) k (subst (seen o.by.0) x t.1)))
