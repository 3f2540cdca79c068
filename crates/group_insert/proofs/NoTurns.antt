-- Whether a walk turns off, from what was found of its entry, and what an option that has none says.
use Rattle.std.proofs.Common.{◌≡◌, ℕ, ◌+◌, ◌<◌, false, ◌⊎◌, inl, inr, List, Option, Some, None, is_some, IfNone, refl, sym, ap, ◌∙◌, subst, subst₂}
use Rattle.cube_view.specs.Places.{deepest}
use Rattle.cube_view.specs.Points.{Point}
use Rattle.cube_view.specs.declared.schema.Schema.{Schema}
use Rattle.node_arena.specs.Slots.{Slot, walk_end}
use Rattle.node_arena.specs.declared.link.SlotId.{SlotId}
use Rattle.point_insert.specs.Visited.{place_of}
use Rattle.group_insert.specs.Entry.{root_at, root_level, turn_of, TurnsIn, HasNoTurn, elsewhere}
use Rattle.group_insert.specs.FinerWalk.{entry_of, finer_steps}
use Rattle.group_insert.specs.Labels.{TellsOneLabel}
use Rattle.group_insert.specs.Later.{PutOff}
use Rattle.group_insert.specs.Ways.{IsOpenIn}
use Rattle.group_insert.specs.declared.put_off.PutOffLink.{PutOffLink}
use Rattle.group_insert.specs.declared.way.Way.{Way}

-- where the test finds none
pub none_found : {A : Type 0} (o : Option A) {P : Type 0} → is_some o ≡ false → IfNone o P → P
none_found None e p = p
none_found (Some x) e p = absurd cc

-- where it is nothing that could be found
pub none_there : {A : Type 0} (o : Option A) {P : Type 0} → ((x : A) → o ≡ Some x → ⊥) → IfNone o P → P
none_there None n p = p
none_there (Some x) n p = absurd (n x refl)

-- the dimension is open below its root, whose level is this, and all points have the label of the turn there
module _ (z : Schema) (slots : List Slot) (part : List Point) (way : Way) (node label dim from level turn : ℕ) (old : Option SlotId) (p : PutOffLink) (is : entry_of p ≡ turn_of way node label dim from turn) (low : (level ≡ root_level way from) × (level < deepest z from) × IsOpenIn way.values from) (one : TellsOneLabel z from (level + 1) part (Some turn)) where
  pub turns_off : p.turn ≡ turn → p.from + p.between < 6 → (old ≡ None) ⊎ (walk_end slots p.base.0 (finer_steps (entry_of p)) ≡ place_of old) → TurnsIn z slots part way node label dim from old p
  turns_off t within leads = record {
    is = is ∙ ap (λ n. turn_of way node label dim from n) (sym t);
    within = within;
    is_open = low.2;
    less = subst (λ l. l < deepest z from) low.0 low.1;
    one = subst₂ (λ l n. TellsOneLabel z from (l + 1) part (Some n)) low.0 (sym t) one;
    leads = there leads;
  }
    where
      there : (old ≡ None) ⊎ (walk_end slots p.base.0 (finer_steps (entry_of p)) ≡ place_of old) → (old ≡ None) ⊎ (walk_end slots (root_at way from) (finer_steps (entry_of p)) ≡ place_of old)
      there (inl x) = inl x
      there (inr x) = inr (subst (λ b. walk_end slots b (finer_steps (entry_of p)) ≡ place_of old) (ap (λ (k : PutOff). k.base) is) x)

  pub leads_elsewhere : (to : SlotId) → old ≡ Some to → (end : Option SlotId) → place_of end ≡ walk_end slots p.base.0 (finer_steps (entry_of p)) → (place_of end ≡ Some to.0 → ⊥) → HasNoTurn z slots part way node label dim from old
  leads_elsewhere to o end e n =
      let w : walk_end slots (root_at way from) (finer_steps (turn_of way node label dim from turn)) ≡ place_of end = subst (λ (k : PutOff). walk_end slots k.base (finer_steps k) ≡ place_of end) is (sym e) in
      elsewhere turn to (subst (λ l. TellsOneLabel z from (l + 1) part (Some turn)) low.0 one) o (λ x. n (sym w ∙ x))

-- an option that is nothing that could be found is none
pub none_is : {A : Type 0} (o : Option A) → ((x : A) → o ≡ Some x → ⊥) → o ≡ None
none_is None n = refl
none_is (Some x) n = absurd (n x refl)
