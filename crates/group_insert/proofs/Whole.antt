-- The whole group, as the part of the root.
use Rattle.std.proofs.Common.{Result, Ok, Err, ◌≡◌, ℕ, ◌<◌, List, [], length, take, sym, ap, ap₂, ◌∙◌, subst, arith}
use Rattle.std.specs.Prelude.{slice_range, OnOk}
use Rattle.std.proofs.lemmas.List.{take_all}
use Rattle.std.proofs.Math.Logic.{∥∥₁_map}
use Rattle.cube_view.specs.Places.{time_dim}
use Rattle.cube_view.specs.Points.{Point}
use Rattle.cube_view.specs.declared.schema.Schema.{Schema}
use Rattle.node_arena.specs.Slots.{Slot}
use Rattle.group_insert.specs.InsertingAll.{CanInsertAll, InsertsAll}
use Rattle.group_insert.specs.FinerWalk.{entry_of}
use Rattle.group_insert.specs.Settling.{entries}
use Rattle.group_insert.specs.Visiting.{root_of, CanVisitAt, CanVisitPart, VisitsAt, VisitsPart}
use Rattle.group_insert.specs.declared.put_off.PutOffLink.{PutOffLink}
use Rattle.node_arena.specs.declared.link.SlotId.{SlotId}
use Rattle.std.proofs.lemmas.List.{length-map}
use Rattle.group_insert.proofs.VisitSteps.{root_visitable, inserts_all}
use Rattle.proper_path.specs.Paths.{paths_of}

-- what a call gives in two clauses
pub on_ok_both : {T E P Q R : Type 0} (r : Result T E) → (P → Q → R) → OnOk r P → OnOk r Q → OnOk r R
on_ok_both (Ok x) f p q = f p q
on_ok_both (Err e) f p q = p

module _ (z : Schema) (group pile : List Point) (slots : List Slot) (root : SlotId) (stop : ℕ) (at_root : root.0 ≡ 0) (s : stop ≡ length group) (p : pile ≡ group) where
  whole : slice_range pile 0 stop ≡ group
  whole = ap₂ (λ x n. slice_range x 0 n) p s ∙ (ap (λ n. take n group) (omega arith) ∙ take_all (length group) group (omega arith))

  -- the root can be visited with it
  pub can_visit_root : 0 < length group → ∥ CanInsertAll (time_dim z) (paths_of z group) slots ∥₁ → ∥ CanVisitPart z slots (root_of root stop) pile [] ∥₁
  can_visit_root some R = subst (λ x. ∥ CanVisitAt z slots (root_of root stop).way [] 1 0 root.0 x ∥₁) (sym whole)
      (∥∥₁_map R (λ C. record { group = group; homes = C.homes; counted = C.points; known = root_visitable z group slots root stop C.homes C.points at_root some C.known }))

  -- and afterwards it is inserted
  pub root_visited : (new : List Slot) (after : List PutOffLink) → 0 < length group → length after ≡ 0 → VisitsPart z slots new (root_of root stop) pile [] after → InsertsAll (time_dim z) (paths_of z group) slots new
  root_visited new after some none V = inserts_all z group slots new root stop (entries after) at_root (length-map after (λ q. entry_of q) ∙ none) some (subst (λ x. VisitsAt z slots new (root_of root stop).way [] (entries after) 1 0 root.0 x) whole V)
