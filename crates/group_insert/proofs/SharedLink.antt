-- A link of an open node becomes shared while a group is inserted.
use Rattle.std.proofs.Common.{◌≡◌, ℕ, true, ◌⊎◌, inl, inr, ◌↔◌, List, ◌++◌, sym, ◌∙◌, subst, arith}
use Rattle.cube_view.specs.Walks.{Step, Walk, SpotPath, dimension}
use Rattle.node_arena.specs.Amounts.{Weighted, spots_in}
use Rattle.node_arena.specs.Shape.{home_of}
use Rattle.node_arena.specs.Slots.{shared, Slot}
use Rattle.point_insert.proofs.Visits.{homes_relinked, holds_relinked}
use Rattle.proper_path.specs.Changes.{IsRelinked}
use Rattle.proper_path.proofs.Shares.{MayLead}
use Rattle.group_insert.specs.Halfway.{LeadsRight, IsHalfway}
use Rattle.group_insert.specs.Later.{PutOff, IsPut}
use Rattle.group_insert.proofs.LinksPutOff.{puts_relinked}
use Rattle.group_insert.proofs.SharedContent.{IsTurnOf, shares_relinked_by}

-- the link of an open node is made a shared one that it may be
pub halfway_relinked : (dims : ℕ) (old new : List Slot) (homes : List Walk) (h g : List Weighted) (done open' : Walk → Type 0) (put : List PutOff) (i u : ℕ) (e : Step) → IsHalfway dims old homes h g done open' put → IsRelinked old new i e (shared u) → IsTurnOf g done open' (home_of homes i) → MayLead old homes (spots_in h) (spots_in (g ++ h)) i u e → IsHalfway dims new homes h g done open' put
halfway_relinked dims old new homes h g done open' put i u e M R T may = record {
  has_homes = homes_relinked old new homes i u e M.has_homes R may.free may.in_range may.coarser;
  has_tables = record { tables = λ j l. subst (λ x. (x ≡ true) ↔ (dimension (home_of homes j) ≡ dims)) (sym (R.old_kind j)) (M.has_tables.tables j (omega (arith, R.size))) };
  holds = holds_relinked old new homes (spots_in h) (spots_in (g ++ h)) i u e M.holds R may.wanted may.agrees;
  untouched = λ j f l d o is. M.untouched j f l d o (sym (R.old_link j f (λ x y. o (subst (λ z. open' (home_of homes z)) (sym x) T.is_open))) ∙ is);
  visited = record { holds = M.visited.holds; links = λ j f l d q c v. links j f d q (M.visited.links j f (omega (arith, R.size)) d q c v) };
  counted = record {
    still = λ j bin l t d. R.old_count j bin ∙ M.counted.still j bin (omega (arith, R.size)) (sym (R.old_kind j) ∙ t) d;
    now = λ j bin l t d. R.old_count j bin ∙ M.counted.now j bin (omega (arith, R.size)) (sym (R.old_kind j) ∙ t) d;
  };
  shares = shares_relinked_by old new homes g done open' put i u e R M.has_homes T M.shares;
  later = puts_relinked old new homes h g done put i u e R M.later;
}
  where
    links : (j : ℕ) (f : Step) → done (home_of homes j) → (q : SpotPath) → LeadsRight old homes j f q ⊎ IsPut put j f → LeadsRight new homes j f q ⊎ IsPut put j f
    links j f d q (inl r) = inl (record { link = r.link; is = R.old_link j f (λ x y. T.not_done (subst (λ z. done (home_of homes z)) x d)) ∙ r.is; lies = r.lies })
    links j f d q (inr x) = inr x
