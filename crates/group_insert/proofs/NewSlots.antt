-- The slots that may be added while a group is inserted: an empty one, and the copy of a target that is not visited
-- yet.
use Rattle.std.proofs.Common.{◌≡◌, ℕ, ◌<◌, true, inr, ◌↔◌, List, ◌∷◌, ◌++◌, Some, None, length, sym, ◌∙◌}
use Rattle.cube_view.specs.Walks.{Step, Walk, HasSpot, dimension}
use Rattle.cube_view.proofs.FinerWalks.{step_across_finer, under_before}
use Rattle.node_arena.specs.Amounts.{Weighted, spots_in}
use Rattle.node_arena.specs.Calls.{copied}
use Rattle.node_arena.specs.Shape.{home_of, HasHomes}
use Rattle.node_arena.specs.Slots.{proper, shared, Slot, link, link_of, slot_of, is_table}
use Rattle.node_arena.specs.declared.link.Link.{Link}
use Rattle.node_arena.proofs.AddressAmounts.{amount-none}
use Rattle.proper_path.specs.Order.{IsBefore}
use Rattle.proper_path.proofs.Above.{comes_before}
use Rattle.proper_path.proofs.Between.{CountsAt, copy_counts}
use Rattle.proper_path.proofs.Grow.{HoldsAt, IsAlike, alike, copy_holds, copy_fits, IsEmpty, empty_holds, empty_fits}
use Rattle.proper_path.proofs.Homes.{IsFree, FitsUnder, home_free}
use Rattle.proper_path.proofs.Links.{proper≢shared, link-copied, share-some}
use Rattle.group_insert.specs.Halfway.{IsHalfway}
use Rattle.group_insert.specs.Later.{PutOff}
use Rattle.group_insert.proofs.SharedContent.{IsFresh, StandsShared, copy_shares, empty_shares}

-- what the added slot has to be at the address of the link that leads to it
pub record StandsIn (dims : ℕ) (slots : List Slot) (homes : List Walk) (i : ℕ) (e : Step) (s : Slot) (h g : List Weighted) : Type 0 where
  pub fits : FitsUnder slots homes (e ∷ home_of homes i) s
  pub holds : HoldsAt homes (e ∷ home_of homes i) s (spots_in h) (spots_in (g ++ h))
  pub counted : CountsAt dims (e ∷ home_of homes i) s h
  -- its links are wanted by old points, and it shares its only child's content
  pub wanted : (f : Step) (l : Link) → link s f ≡ Some l → HasSpot (spots_in h) (f ∷ e ∷ home_of homes i)
  pub shares : StandsShared slots i e s

-- a shared link is no proper one
pub shared_free : (slots : List Slot) (i t : ℕ) (e : Step) → link_of slots i e ≡ Some (shared t) → IsFree slots i e
shared_free slots i t e is k x = proper≢shared k t (let m : Some (proper k) ≡ Some (shared t) = sym x ∙ is in cc)

-- the target of a shared link comes before the link's address in the order of single visits, so its turn comes later
pub target_before : (slots : List Slot) (homes : List Walk) → HasHomes slots homes → (i t : ℕ) (e : Step) → i < length slots → link_of slots i e ≡ Some (shared t) → IsBefore (home_of homes t) (e ∷ home_of homes i)
target_before slots homes H i t e lt is =
    let r = H.finer i t e is in
    comes_before (e ∷ home_of homes i) (home_of homes t) r.1 (λ x. home_free slots homes H i e lt (shared_free slots i t e is) t r.0 (sym x))

pub copy_stands_in : (dims : ℕ) (slots : List Slot) (homes : List Walk) (h g : List Weighted) (done open' : Walk → Type 0) (put : List PutOff) (i t : ℕ) (e : Step) → IsHalfway dims slots homes h g done open' put → IsFresh done open' (e ∷ home_of homes i) → i < length slots → link_of slots i e ≡ Some (shared t) → StandsIn dims slots homes i e (copied (slot_of slots t)) h g
copy_stands_in dims slots homes h g done open' put i t e M F there is = record {
  fits = copy_fits slots homes M.has_homes (e ∷ home_of homes i) t A.coarser;
  holds = copy_holds slots homes (spots_in h) (spots_in (g ++ h)) M.has_homes M.holds (e ∷ home_of homes i) t lt A;
  counted = copy_counts dims slots homes h (g ++ h) done M.has_tables M.counted (e ∷ home_of homes i) t lt A (λ k. fresh);
  wanted = wanted;
  shares = copy_shares slots homes done open' put i t e M.has_homes is before F M.later.ended M.shares;
}
  where
    A : IsAlike homes (e ∷ home_of homes i) t (spots_in h)
    A = alike slots homes (spots_in h) (spots_in (g ++ h)) M.has_homes M.holds i t e is

    lt : t < length slots
    lt = (M.has_homes.finer i t e is).0

    before : IsBefore (home_of homes t) (e ∷ home_of homes i)
    before = target_before slots homes M.has_homes i t e there is

    fresh : done (home_of homes t) → ⊥
    fresh d = F.not_done (home_of homes t) (inr before) d

    wanted : (f : Step) (l : Link) → link (copied (slot_of slots t)) f ≡ Some l → HasSpot (spots_in h) (f ∷ e ∷ home_of homes i)
    wanted f l x =
        let k = share-some (link_of slots t f) l (sym (link-copied (slot_of slots t) f) ∙ x) in
        let w = M.untouched t f k.0 fresh (F.not_open (home_of homes t) (inr before)) k.1 in
        record { spot = w.spot; is_in = w.is_in; lies = step_across_finer A.coarser w.spot f (under_before w.spot f (home_of homes t) w.lies) ∙ w.lies }

pub empty_stands_in : (dims : ℕ) (slots : List Slot) (homes : List Walk) (h g : List Weighted) (done open' : Walk → Type 0) (put : List PutOff) (i : ℕ) (e : Step) (s : Slot) → IsHalfway dims slots homes h g done open' put → i < length slots → link_of slots i e ≡ None → IsEmpty s → (is_table s ≡ true) ↔ (dimension (e ∷ home_of homes i) ≡ dims) → StandsIn dims slots homes i e s h g
empty_stands_in dims slots homes h g done open' put i e s M lt is E kind = record {
  fits = empty_fits slots homes (e ∷ home_of homes i) s E;
  holds = empty_holds homes (e ∷ home_of homes i) s (spots_in h) (spots_in (g ++ h)) E none;
  counted = record { kind = kind; counts = λ bin k. E.no_count bin ∙ sym (amount-none h (e ∷ home_of homes i) bin none) };
  wanted = λ f l x. let n = E.no_link f in absurd cc;
  shares = empty_shares slots i e s E;
}
  where
    none : HasSpot (spots_in h) (e ∷ home_of homes i) → ⊥
    none w = let r = M.holds.needed i e lt w in let k = r.is in absurd cc
