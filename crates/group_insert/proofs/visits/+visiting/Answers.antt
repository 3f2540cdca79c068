use Rattle.std.proofs.Common.{◌≡◌, ◌+◌, ◌<◌, ◌≤◌, ◌^◌, true, List, All, IsTrue, Some, None, length, length-drop, drop, refl, ◌∙◌, sym, ap, subst, subst₂, arith, rules}
use Rattle.std.specs.Prelude.{slice_range, OnOk}
use Rattle.std.proofs.lemmas.List.{length-map}
use Rattle.std.proofs.lemmas.List.Elements.{All-weaker}
use Rattle.std.proofs.lemmas.Result.{on_ok_weaker}
use Rattle.cube_view.specs.Places.{deepest}
use Rattle.cube_view.specs.Points.{Point}
use Rattle.cube_view.specs.Validity.{sound}
use Rattle.cube_view.specs.Walks.{down, across}
use Rattle.node_arena.specs.Slots.{slot_of, counts_of}
use Rattle.time_table.specs.Counts.{total_count}
use Rattle.proper_path.specs.Changes.{IsAdded}
use Rattle.group_insert.specs.Added.{amount_in, part_weight}
use Rattle.group_insert.specs.Entry.{way_below}
use Rattle.group_insert.specs.FinerWalk.{entry_of}
use Rattle.group_insert.specs.Labels.{label_at, HoldsRest, IsFirstRun, IsLeastFrom, IsParted, TellsOneLabel, TellsOnlyLabel}
use Rattle.group_insert.specs.Settling.{entries}
use Rattle.group_insert.specs.Visiting.{IsLabelPart, CanVisitAt, CanPassAt, VisitsAt, PassesAt, PassesLabelsAt}
use Rattle.group_insert.proofs.VisitCalls.{leaf_part, wide_part, narrow_part, can_share, one_can_pass, can_visit_child, passes_label, label_part_some, pass_roots, pass_leads, passes_put, put_grows, told_put, told_kept, told_why, part_sound, can_visit_content, content_can_pass, passes_more, visit_in_range, visit_is_node, visit_inside, visit_some, pass_in_range, pass_is_node, pass_inside, can_pass_on, can_settle, visit_settled, rank_down, rank_across, table_there, content_counted}
use Rattle.group_insert.proofs.VisitSteps.{content_passed}
use Rattle.group_insert.proofs.Parted.{only_least, all_left}
use Rattle.group_insert.proofs.PartRuns.{slice-rest, one_part, parted_part, parted_here, parted_from, run_least, run_part, run_left, run_within, pass_some}
use Rattle.group_insert.proofs.Pile.{still_here}
use Rattle.group_insert.proofs.visits.+visiting.Goals as goal

-- a visit, and then what was put off in space
pub visit-settle_all-requires-clause-kept : goal.visit-settle_all-requires-clause-kept
visit-settle_all-requires-clause-kept g t c =
    let k : c.len-kept.result ≡ length c.args.put_off.now.items = search rules in
    let a = length-map c.args.put_off.now.items (λ q. entry_of q) in
    let b = length-map c.visit_node.new.put_off.items (λ q. entry_of q) in
    let e = put_grows c.args.schema.now c.args.place.now.way c.args.place.now.dim c.args.place.now.level c.args.place.now.at.0 (slice_range c.args.pile.now.items c.args.place.now.part.at c.args.place.now.part.end) c.requires.here.dim.0 c.requires.here.dim.1 c.args.work.now.slots c.visit_node.new.work.slots (entries c.args.put_off.now.items) (entries c.visit_node.new.put_off.items) c.in_ok-visit_node.ensures.visited c.requires.known in
    omega (arith, k, a, b, e)

pub visit-settle_all-requires-clause-known : goal.visit-settle_all-requires-clause-known
visit-settle_all-requires-clause-known g t c =
    can_settle c.args.schema.now c.args.place.now.way c.args.place.now.dim c.args.place.now.level c.args.place.now.at.0 (slice_range c.args.pile.now.items c.args.place.now.part.at c.args.place.now.part.end) c.requires.here.dim.0 c.requires.here.dim.1 c.args.work.now.slots c.visit_node.new.work.slots (entries c.args.put_off.now.items) (entries c.visit_node.new.put_off.items) c.len-kept.result (search rules) (length-map c.args.put_off.now.items (λ q. entry_of q) ∙ search rules) c.in_ok-visit_node.ensures.visited c.requires.known

pub visit-returns-then-place-eq1-clause-visited : goal.visit-returns-then-place-eq1-clause-visited
visit-returns-then-place-eq1-clause-visited g t c =
    on_ok_weaker c.settle_all.result (λ S. visit_settled c.args.schema.now c.args.place.now.way c.args.place.now.dim c.args.place.now.level c.args.place.now.at.0 (slice_range c.args.pile.now.items c.args.place.now.part.at c.args.place.now.part.end) c.requires.here.dim.0 c.requires.here.dim.1 c.args.work.now.slots c.visit_node.new.work.slots c.settle_all.new.work.slots (entries c.args.put_off.now.items) (entries c.visit_node.new.put_off.items) (entries c.settle_all.new.put_off.items) c.len-kept.result (search rules) (length-map c.args.put_off.now.items (λ q. entry_of q) ∙ search rules) c.in_ok-visit_node.ensures.visited S) c.settle_all.ensures.settled

-- a node's visit
pub visit_node-returns-then-place-levels-clause-visited :
    goal.visit_node-returns-then-place-levels-clause-visited
visit_node-returns-then-place-levels-clause-visited g t c =
    on_ok_weaker c.visit_content.result (λ P. leaf_part c.args.schema.now c.args.place.now.way c.args.place.now.dim c.args.place.now.level c.args.place.now.at.0 (slice_range c.args.pile.now.items c.args.place.now.part.at c.args.place.now.part.end) c.requires.here.dim.0 c.requires.here.dim.1 c.args.work.now.slots c.visit_content.new.work.slots (entries c.args.put_off.now.items) (entries c.visit_content.new.put_off.items) (c.if-place-levels.true ∙ c.levels.ensures) P) c.visit_content.ensures.passed

pub visit_node-only_label-requires-clause-some : goal.visit_node-only_label-requires-clause-some
visit_node-only_label-requires-clause-some g t c =
    subst (λ x. 0 < length (slice_range x c.args.place.now.part.at c.args.place.now.part.end)) (sym c.deref.ensures.value) (visit_some c.args.schema.now c.args.place.now.way c.args.place.now.dim c.args.place.now.level c.args.place.now.at.0 (slice_range c.args.pile.now.items c.args.place.now.part.at c.args.place.now.part.end) c.requires.here.dim.0 c.requires.here.dim.1 c.args.work.now.slots (entries c.args.put_off.now.items) c.requires.known)

pub visit_node-only_label-requires-clause-in_range : goal.visit_node-only_label-requires-clause-in_range
visit_node-only_label-requires-clause-in_range g t c = visit_in_range c.args.schema.now c.args.place.now.way c.args.place.now.dim c.args.place.now.level c.args.place.now.at.0 (slice_range c.args.pile.now.items c.args.place.now.part.at c.args.place.now.part.end) c.requires.here.dim.0 c.requires.here.dim.1 c.args.work.now.slots (entries c.args.put_off.now.items) c.requires.known

pub visit_node-only_label-requires-clause-is_node : goal.visit_node-only_label-requires-clause-is_node
visit_node-only_label-requires-clause-is_node g t c = visit_is_node c.args.schema.now c.args.place.now.way c.args.place.now.dim c.args.place.now.level c.args.place.now.at.0 (slice_range c.args.pile.now.items c.args.place.now.part.at c.args.place.now.part.end) c.requires.here.dim.0 c.requires.here.dim.1 c.args.work.now.slots (entries c.args.put_off.now.items) c.requires.known

pub visit_node-visit_labels-requires : goal.visit_node-visit_labels-requires
visit_node-visit_labels-requires g t c κs within =
    let z = c.args.schema.now in
    let less : c.args.place.now.level < deepest z c.args.place.now.dim = search rules in
    let told = subst₂ (λ x y. TellsOnlyLabel z c.args.place.now.dim x (slice_range y c.args.place.now.part.at c.args.place.now.part.end) c.args.work.now.slots c.args.place.now.at.0 (Some c.in-Some.field-0)) c.one_below-below.ensures c.deref.ensures.value c.in-Some.ensures in
    (omega arith, (search rules, (c.requires.here, (less, one_can_pass c.args.schema.now c.args.place.now.way c.args.place.now.dim c.args.place.now.level c.args.place.now.at.0 (slice_range c.args.pile.now.items c.args.place.now.part.at c.args.place.now.part.end) c.requires.here.dim.0 c.requires.here.dim.1 less c.args.work.now.slots (entries c.args.put_off.now.items) c.in-Some.field-0 told c.requires.known))))

pub visit_node-share_only-requires : goal.visit_node-share_only-requires
visit_node-share_only-requires g t c =
    let z = c.args.schema.now in
    let less : c.args.place.now.level < deepest z c.args.place.now.dim = search rules in
    let told = subst₂ (λ x y. TellsOnlyLabel z c.args.place.now.dim x (slice_range y c.args.place.now.part.at c.args.place.now.part.end) c.args.work.now.slots c.args.place.now.at.0 (Some c.in-Some.field-0)) c.one_below-below.ensures c.deref.ensures.value c.in-Some.ensures in
    can_share c.args.schema.now c.args.place.now.way c.args.place.now.dim c.args.place.now.level c.args.place.now.at.0 (slice_range c.args.pile.now.items c.args.place.now.part.at c.args.place.now.part.end) c.requires.here.dim.0 c.requires.here.dim.1 less c.args.work.now.slots c.visit_labels.new.work.slots (entries c.args.put_off.now.items) (entries c.visit_labels.new.put_off.items) c.in-Some.field-0 told c.in_ok-visit_labels-in-Some.ensures.passed c.requires.known

pub visit_node-visit_labels-requires-in-None : goal.visit_node-visit_labels-requires-in-None
visit_node-visit_labels-requires-in-None g t c κs within =
    let z = c.args.schema.now in
    let by_then = c.visit_content-in-None.new in
    let pile : c.args.pile.now.items ≡ by_then.pile.items = sym {A = List Point} c.in_ok-visit_content-in-None.ensures.pile.0 in (
      omega arith,
      (
        search rules,
        (
          still_here c.requires.here c.in_ok-visit_content-in-None.ensures.pile.0 c.in_ok-visit_content-in-None.ensures.pile.1,
          (
            search rules,
            subst (λ x. ∥ CanPassAt z by_then.work.slots c.args.place.now.way (entries by_then.put_off.items) c.args.place.now.dim c.args.place.now.level c.args.place.now.at.0 (slice_range x c.args.place.now.part.at c.args.place.now.part.end) true 0 ∥₁) pile
                (content_can_pass c.args.schema.now c.args.place.now.way c.args.place.now.dim c.args.place.now.level c.args.place.now.at.0 (slice_range c.args.pile.now.items c.args.place.now.part.at c.args.place.now.part.end) c.requires.here.dim.0 c.requires.here.dim.1 c.args.work.now.slots by_then.work.slots (entries c.args.put_off.now.items) (entries by_then.put_off.items) c.in_ok-visit_content-in-None.ensures.passed c.requires.known),
          ),
        ),
      ),
    )

pub visit_node-returns-in_ok-visit_labels-in-Some-clause-visited :
    goal.visit_node-returns-in_ok-visit_labels-in-Some-clause-visited
visit_node-returns-in_ok-visit_labels-in-Some-clause-visited g t c =
    let z = c.args.schema.now in
    let less : c.args.place.now.level < deepest z c.args.place.now.dim = search rules in
    let told = subst₂ (λ x y. TellsOnlyLabel z c.args.place.now.dim x (slice_range y c.args.place.now.part.at c.args.place.now.part.end) c.args.work.now.slots c.args.place.now.at.0 (Some c.in-Some.field-0)) c.one_below-below.ensures c.deref.ensures.value c.in-Some.ensures in
    on_ok_weaker c.share_only.result (λ S. narrow_part c.args.schema.now c.args.place.now.way c.args.place.now.dim c.args.place.now.level c.args.place.now.at.0 (slice_range c.args.pile.now.items c.args.place.now.part.at c.args.place.now.part.end) c.requires.here.dim.0 c.requires.here.dim.1 less c.args.work.now.slots c.visit_labels.new.work.slots c.share_only.new.work.slots (entries c.args.put_off.now.items) (entries c.visit_labels.new.put_off.items) c.in-Some.field-0 told c.in_ok-visit_labels-in-Some.ensures.passed S) c.share_only.ensures.shared

pub visit_node-returns-in_ok-visit_content-in-None-clause-visited :
    goal.visit_node-returns-in_ok-visit_content-in-None-clause-visited
visit_node-returns-in_ok-visit_content-in-None-clause-visited g t c =
    let z = c.args.schema.now in
    let less : c.args.place.now.level < deepest z c.args.place.now.dim = search rules in
    let by_then = c.visit_content-in-None.new in
    let after = c.visit_labels-in-None.new in
    let told = subst₂ (λ x y. TellsOnlyLabel z c.args.place.now.dim x (slice_range y c.args.place.now.part.at c.args.place.now.part.end) c.args.work.now.slots c.args.place.now.at.0 None) c.one_below-below.ensures c.deref.ensures.value c.in-None.ensures in
    let labels = subst (λ x. OnOk c.visit_labels-in-None.result (PassesLabelsAt z by_then.work.slots after.work.slots c.args.place.now.way (entries by_then.put_off.items) (entries after.put_off.items) c.args.place.now.dim c.args.place.now.level c.args.place.now.at.0 (slice_range x c.args.place.now.part.at c.args.place.now.part.end) true)) c.in_ok-visit_content-in-None.ensures.pile.0 c.visit_labels-in-None.ensures.passed in
    on_ok_weaker c.visit_labels-in-None.result (λ R. wide_part c.args.schema.now c.args.place.now.way c.args.place.now.dim c.args.place.now.level c.args.place.now.at.0 (slice_range c.args.pile.now.items c.args.place.now.part.at c.args.place.now.part.end) c.requires.here.dim.0 c.requires.here.dim.1 less c.args.work.now.slots by_then.work.slots after.work.slots (entries c.args.put_off.now.items) (entries by_then.put_off.items) (entries after.put_off.items) told c.in_ok-visit_content-in-None.ensures.passed R) labels

-- its content
pub visit_content-own_content-requires-clause-in_range :
    goal.visit_content-own_content-requires-clause-in_range
visit_content-own_content-requires-clause-in_range g t c = visit_in_range c.args.schema.now c.args.place.now.way c.args.place.now.dim c.args.place.now.level c.args.place.now.at.0 (slice_range c.args.pile.now.items c.args.place.now.part.at c.args.place.now.part.end) c.requires.here.dim.0 c.requires.here.dim.1 c.args.work.now.slots (entries c.args.put_off.now.items) c.requires.known

pub visit_content-own_content-requires-clause-is_node :
    goal.visit_content-own_content-requires-clause-is_node
visit_content-own_content-requires-clause-is_node g t c = visit_is_node c.args.schema.now c.args.place.now.way c.args.place.now.dim c.args.place.now.level c.args.place.now.at.0 (slice_range c.args.pile.now.items c.args.place.now.part.at c.args.place.now.part.end) c.requires.here.dim.0 c.requires.here.dim.1 c.args.work.now.slots (entries c.args.put_off.now.items) c.requires.known

pub visit_content-own_content-requires-clause-inside :
    goal.visit_content-own_content-requires-clause-inside
visit_content-own_content-requires-clause-inside g t c = visit_inside c.args.schema.now c.args.place.now.way c.args.place.now.dim c.args.place.now.level c.args.place.now.at.0 (slice_range c.args.pile.now.items c.args.place.now.part.at c.args.place.now.part.end) c.requires.here.dim.0 c.requires.here.dim.1 c.args.work.now.slots (entries c.args.put_off.now.items) across c.requires.known

pub visit_content-count_part-requires-clause-in_range :
    goal.visit_content-count_part-requires-clause-in_range
visit_content-count_part-requires-clause-in_range g t c =
    (table_there c.args.schema.now _ _ _ (c.args.place.now.dim + 1) 0 c.in_ok-content.content.0 _ (c.is_time.ensures.0 c.if-is_time.true)
    (can_visit_content c.args.schema.now c.args.place.now.way c.args.place.now.dim c.args.place.now.level c.args.place.now.at.0 (slice_range c.args.pile.now.items c.args.place.now.part.at c.args.place.now.part.end) c.requires.here.dim.0 c.requires.here.dim.1 c.args.work.now.slots c.own_content.new.work.slots (entries c.args.put_off.now.items) c.in_ok-content.content c.in_ok-content.ensures.filled c.requires.known)).0

pub visit_content-count_part-requires-clause-is_table :
    goal.visit_content-count_part-requires-clause-is_table
visit_content-count_part-requires-clause-is_table g t c =
    (table_there c.args.schema.now _ _ _ (c.args.place.now.dim + 1) 0 c.in_ok-content.content.0 _ (c.is_time.ensures.0 c.if-is_time.true)
    (can_visit_content c.args.schema.now c.args.place.now.way c.args.place.now.dim c.args.place.now.level c.args.place.now.at.0 (slice_range c.args.pile.now.items c.args.place.now.part.at c.args.place.now.part.end) c.requires.here.dim.0 c.requires.here.dim.1 c.args.work.now.slots c.own_content.new.work.slots (entries c.args.put_off.now.items) c.in_ok-content.content c.in_ok-content.ensures.filled c.requires.known)).1

pub visit_content-count_part-requires-clause-fits :
    goal.visit_content-count_part-requires-clause-fits
visit_content-count_part-requires-clause-fits g t c =
    subst (λ x. total_count (counts_of (slot_of c.own_content.new.work.slots c.in_ok-content.content.0)) + part_weight (slice_range x c.args.place.now.part.at c.args.place.now.part.end) ≤ 2 ^ 63) (sym c.deref.ensures.value)
    (table_there c.args.schema.now _ _ _ (c.args.place.now.dim + 1) 0 c.in_ok-content.content.0 _ (c.is_time.ensures.0 c.if-is_time.true)
    (can_visit_content c.args.schema.now c.args.place.now.way c.args.place.now.dim c.args.place.now.level c.args.place.now.at.0 (slice_range c.args.pile.now.items c.args.place.now.part.at c.args.place.now.part.end) c.requires.here.dim.0 c.requires.here.dim.1 c.args.work.now.slots c.own_content.new.work.slots (entries c.args.put_off.now.items) c.in_ok-content.content c.in_ok-content.ensures.filled c.requires.known)).2

pub visit_content-visit-requires : goal.visit_content-visit-requires
visit_content-visit-requires g t c κs within =
    let r = rank_across c.args.schema.now c.args.place.now.dim c.args.place.now.level c.requires.here.dim.0 c.requires.here.dim.1 in (
      omega (arith, r),
      (
        search rules,
        (
          record { dim = search rules; level = omega arith; part = c.requires.here.part; put_off = c.requires.here.put_off },
          subst (λ w. ∥ CanVisitAt c.args.schema.now c.own_content.new.work.slots w (entries c.args.put_off.now.items) (c.args.place.now.dim + 1) 0 c.in_ok-content.content.0 (slice_range c.args.pile.now.items c.args.place.now.part.at c.args.place.now.part.end) ∥₁) (sym c.on.ensures)
              (can_visit_content c.args.schema.now c.args.place.now.way c.args.place.now.dim c.args.place.now.level c.args.place.now.at.0 (slice_range c.args.pile.now.items c.args.place.now.part.at c.args.place.now.part.end) c.requires.here.dim.0 c.requires.here.dim.1 c.args.work.now.slots c.own_content.new.work.slots (entries c.args.put_off.now.items) c.in_ok-content.content c.in_ok-content.ensures.filled c.requires.known),
        ),
      ),
    )

pub visit_content-returns-then-is_time-clause-passed :
    goal.visit_content-returns-then-is_time-clause-passed
visit_content-returns-then-is_time-clause-passed g t c =
    let added = subst (λ x. OnOk c.count_part.result (IsAdded c.own_content.new.work.slots c.count_part.new.work.slots c.in_ok-content.content.0 (λ bin. amount_in (slice_range x c.args.place.now.part.at c.args.place.now.part.end) bin))) c.deref.ensures.value c.count_part.ensures.added in
    on_ok_weaker c.count_part.result (λ A. content_counted c.args.schema.now _ _ _ c.args.place.now.way (entries c.args.put_off.now.items) c.args.place.now.dim c.args.place.now.level c.args.place.now.at.0 c.in_ok-content.content _ c.requires.here.dim.0 c.requires.here.dim.1 c.in_ok-content.ensures.filled A) added

pub visit_content-returns-clause-passed :
    goal.visit_content-returns-clause-passed
visit_content-returns-clause-passed g t c =
    let after = c.visit.new in
    on_ok_weaker c.visit.result (λ V. content_passed c.args.schema.now c.args.work.now.slots c.own_content.new.work.slots after.work.slots c.args.place.now.way (entries c.args.put_off.now.items) (entries after.put_off.items) c.args.place.now.dim c.args.place.now.level c.args.place.now.at.0 c.in_ok-content.content (slice_range c.args.pile.now.items c.args.place.now.part.at c.args.place.now.part.end) c.requires.here.dim.0 c.requires.here.dim.1 c.in_ok-content.ensures.filled
    (subst (λ w. VisitsAt c.args.schema.now c.own_content.new.work.slots after.work.slots w (entries c.args.put_off.now.items) (entries after.put_off.items) (c.args.place.now.dim + 1) 0 c.in_ok-content.content.0 (slice_range c.args.pile.now.items c.args.place.now.part.at c.args.place.now.part.end)) c.on.ensures V)) c.visit.ensures.visited

-- a label
pub visit_label-put_later-requires-clause-part :
    goal.visit_label-put_later-requires-clause-part
visit_label-put_later-requires-clause-part g t c = (
  subst (λ x. 0 < length (slice_range x c.args.part.now.at c.args.part.now.end)) (sym c.deref.ensures.value) (label_part_some c.args.schema.now c.args.place.now.way c.args.place.now.dim c.args.place.now.level c.args.place.now.at.0 (slice_range c.args.pile.now.items c.args.place.now.part.at c.args.place.now.part.end) c.requires.here.dim.0 c.requires.here.dim.1 c.requires.level _ c.args.from c.args.label c.requires.next c.requires.part.points),
  subst (λ x. All (λ p. IsTrue (sound c.args.schema.now p)) (slice_range x c.args.part.now.at c.args.part.now.end)) (sym c.deref.ensures.value) (part_sound c.args.schema.now c.args.pile.now.items c.args.part.now.at c.args.part.now.end c.requires.part.there),
)

pub visit_label-put_later-requires-clause-node :
    goal.visit_label-put_later-requires-clause-node
visit_label-put_later-requires-clause-node g t c = (pass_in_range c.args.schema.now c.args.place.now.way c.args.place.now.dim c.args.place.now.level c.args.place.now.at.0 (slice_range c.args.pile.now.items c.args.place.now.part.at c.args.place.now.part.end) c.requires.here.dim.0 c.requires.here.dim.1 c.args.work.now.slots (entries c.args.put_off.now.items) c.args.wide c.args.from c.requires.known, pass_is_node c.args.schema.now c.args.place.now.way c.args.place.now.dim c.args.place.now.level c.args.place.now.at.0 (slice_range c.args.pile.now.items c.args.place.now.part.at c.args.place.now.part.end) c.requires.here.dim.0 c.requires.here.dim.1 c.args.work.now.slots (entries c.args.put_off.now.items) c.args.wide c.args.from c.requires.known)

pub visit_label-put_later-requires-clause-roots :
    goal.visit_label-put_later-requires-clause-roots
visit_label-put_later-requires-clause-roots g t c = pass_roots c.args.schema.now c.args.place.now.way c.args.place.now.dim c.args.place.now.level c.args.place.now.at.0 (slice_range c.args.pile.now.items c.args.place.now.part.at c.args.place.now.part.end) c.requires.here.dim.0 c.requires.here.dim.1 c.requires.level c.args.work.now.slots (entries c.args.put_off.now.items) c.args.wide c.args.from c.requires.known

pub visit_label-put_later-requires-clause-inside :
    goal.visit_label-put_later-requires-clause-inside
visit_label-put_later-requires-clause-inside g t c = pass_leads c.args.schema.now c.args.place.now.way c.args.place.now.dim c.args.place.now.level c.args.place.now.at.0 (slice_range c.args.pile.now.items c.args.place.now.part.at c.args.place.now.part.end) c.requires.here.dim.0 c.requires.here.dim.1 c.requires.level c.args.work.now.slots (entries c.args.put_off.now.items) c.args.wide c.args.from c.requires.known

pub visit_label-own_child-requires-clause-in_range :
    goal.visit_label-own_child-requires-clause-in_range
visit_label-own_child-requires-clause-in_range g t c = pass_in_range c.args.schema.now c.args.place.now.way c.args.place.now.dim c.args.place.now.level c.args.place.now.at.0 (slice_range c.args.pile.now.items c.args.place.now.part.at c.args.place.now.part.end) c.requires.here.dim.0 c.requires.here.dim.1 c.args.work.now.slots (entries c.args.put_off.now.items) c.args.wide c.args.from c.requires.known

pub visit_label-own_child-requires-clause-is_node :
    goal.visit_label-own_child-requires-clause-is_node
visit_label-own_child-requires-clause-is_node g t c = pass_is_node c.args.schema.now c.args.place.now.way c.args.place.now.dim c.args.place.now.level c.args.place.now.at.0 (slice_range c.args.pile.now.items c.args.place.now.part.at c.args.place.now.part.end) c.requires.here.dim.0 c.requires.here.dim.1 c.args.work.now.slots (entries c.args.put_off.now.items) c.args.wide c.args.from c.requires.known

pub visit_label-own_child-requires-clause-inside :
    goal.visit_label-own_child-requires-clause-inside
visit_label-own_child-requires-clause-inside g t c = pass_inside c.args.schema.now c.args.place.now.way c.args.place.now.dim c.args.place.now.level c.args.place.now.at.0 (slice_range c.args.pile.now.items c.args.place.now.part.at c.args.place.now.part.end) c.requires.here.dim.0 c.requires.here.dim.1 c.args.work.now.slots (entries c.args.put_off.now.items) c.args.wide c.args.from (down c.args.label) c.requires.known

pub visit_label-returns-then-later-clause-passed : goal.visit_label-returns-then-later-clause-passed
visit_label-returns-then-later-clause-passed g t c =
    let told = told_put c.args.schema.now c.args.work.now.slots _ c.args.place.now.way c.args.place.now.at.0 c.args.label c.args.place.now.dim c.args.wide c.args.put_off.now.items c.put_later.new.put_off.items c.in_ok-later.later c.if-later.true c.in_ok-later.ensures.put in
    passes_put c.args.schema.now c.args.place.now.way c.args.place.now.dim c.args.place.now.level c.args.place.now.at.0 (slice_range c.args.pile.now.items c.args.place.now.part.at c.args.place.now.part.end) c.requires.here.dim.0 c.requires.here.dim.1 c.requires.level c.args.work.now.slots c.args.put_off.now.items c.put_later.new.put_off.items c.args.from c.args.label _ c.args.wide told.0 c.requires.next (ap (λ x. slice_range x c.args.part.now.at c.args.part.now.end) c.deref.ensures.value ∙ c.requires.part.points) told.1

pub visit_label-visit-requires : goal.visit_label-visit-requires
visit_label-visit-requires g t c κs within =
    let z = c.args.schema.now in
    let r = rank_down z c.args.place.now.dim c.args.place.now.level c.requires.level in
    let same = told_kept c.args.schema.now c.args.work.now.slots _ c.args.place.now.way c.args.place.now.at.0 c.args.label c.args.place.now.dim c.args.wide c.args.put_off.now.items c.put_later.new.put_off.items c.in_ok-later.later c.if-later.false c.in_ok-later.ensures.put in
    let s = c.in_ok-child.child in
    let put = entries c.put_later.new.put_off.items in
    let next = c.own_child.new.work.slots in
    let can = subst (λ k. ∥ CanPassAt z c.args.work.now.slots c.args.place.now.way (entries k) c.args.place.now.dim c.args.place.now.level c.args.place.now.at.0 (slice_range c.args.pile.now.items c.args.place.now.part.at c.args.place.now.part.end) c.args.wide c.args.from ∥₁) (sym same) c.requires.known in
    let known = can_visit_child c.args.schema.now c.args.place.now.way c.args.place.now.dim c.args.place.now.level c.args.place.now.at.0 (slice_range c.args.pile.now.items c.args.place.now.part.at c.args.place.now.part.end) c.requires.here.dim.0 c.requires.here.dim.1 c.requires.level c.args.work.now.slots next put c.args.wide c.args.from c.args.label s c.requires.next c.in_ok-child.ensures.stepped can in (
      omega (arith, r, c.one_below-level.ensures),
      (
        search rules,
        (
          record { dim = c.requires.here.dim; level = omega (arith, c.one_below-level.ensures, c.requires.level); part = c.requires.part.there; put_off = c.in_ok-later.ensures.still },
          subst (λ w. ∥ CanVisitAt z next w put c.args.place.now.dim c.one_below-level.result s.0 (slice_range c.args.pile.now.items c.args.part.now.at c.args.part.now.end) ∥₁) (sym c.below.ensures)
              (subst₂ (λ x y. ∥ CanVisitAt z next (way_below c.args.place.now.way c.args.place.now.dim x c.args.label s) put c.args.place.now.dim x s.0 y ∥₁) (sym c.one_below-level.ensures) (sym c.requires.part.points) known),
        ),
      ),
    )

pub visit_label-returns-clause-passed : goal.visit_label-returns-clause-passed
visit_label-returns-clause-passed g t c =
    let z = c.args.schema.now in
    let same = told_kept c.args.schema.now c.args.work.now.slots _ c.args.place.now.way c.args.place.now.at.0 c.args.label c.args.place.now.dim c.args.wide c.args.put_off.now.items c.put_later.new.put_off.items c.in_ok-later.later c.if-later.false c.in_ok-later.ensures.put in
    let why = told_why c.args.schema.now c.args.work.now.slots _ c.args.place.now.way c.args.place.now.at.0 c.args.label c.args.place.now.dim c.args.wide c.args.put_off.now.items c.put_later.new.put_off.items c.in_ok-later.later c.if-later.false c.in_ok-later.ensures.put in
    let s = c.in_ok-child.child in
    let put = entries c.put_later.new.put_off.items in
    let after = entries c.visit.new.put_off.items in
    let next = c.own_child.new.work.slots in
    let new = c.visit.new.work.slots in
    on_ok_weaker c.visit.result (λ V.
    let on_way = subst (λ w. VisitsAt z next new w put after c.args.place.now.dim c.one_below-level.result s.0 (slice_range c.args.pile.now.items c.args.part.now.at c.args.part.now.end)) c.below.ensures V in
    let visited = subst₂ (λ x y. VisitsAt z next new (way_below c.args.place.now.way c.args.place.now.dim x c.args.label s) put after c.args.place.now.dim x s.0 y) c.one_below-level.ensures c.requires.part.points on_way in
    subst (λ k. PassesAt z c.args.work.now.slots new c.args.place.now.way (entries k) after c.args.place.now.dim c.args.place.now.level c.args.place.now.at.0 (slice_range c.args.pile.now.items c.args.place.now.part.at c.args.place.now.part.end) c.args.wide c.args.from (c.args.label + 1)) same
    (passes_label c.args.schema.now c.args.place.now.way c.args.place.now.dim c.args.place.now.level c.args.place.now.at.0 (slice_range c.args.pile.now.items c.args.place.now.part.at c.args.place.now.part.end) c.requires.here.dim.0 c.requires.here.dim.1 c.requires.level c.args.work.now.slots next new put after c.args.wide c.args.from c.args.label s _ c.requires.next (ap (λ x. slice_range x c.args.part.now.at c.args.part.now.end) c.deref.ensures.value ∙ c.requires.part.points) why c.in_ok-child.ensures.stepped visited)) c.visit.ensures.visited

-- all labels
pub visit_labels-one_label-requires-clause-some : goal.visit_labels-one_label-requires-clause-some
visit_labels-one_label-requires-clause-some g t c =
    subst (λ x. 0 < length (slice_range x c.args.place.now.part.at c.args.place.now.part.end)) (sym c.deref.ensures.value) (pass_some c.args.schema.now c.args.work.now.slots c.args.place.now.way (entries c.args.put_off.now.items) c.args.place.now.dim c.args.place.now.level c.args.place.now.at.0 (slice_range c.args.pile.now.items c.args.place.now.part.at c.args.place.now.part.end) c.args.wide 0 c.requires.known)

pub visit_labels-visit_label-requires : goal.visit_labels-visit_label-requires
visit_labels-visit_label-requires g t c κs within =
    let told = subst₂ (λ x y. TellsOneLabel c.args.schema.now c.args.place.now.dim x (slice_range y c.args.place.now.part.at c.args.place.now.part.end) (Some c.in-Some.label)) c.one_below-below.ensures c.deref.ensures.value c.in-Some.ensures in
    let some = pass_some c.args.schema.now c.args.work.now.slots c.args.place.now.way (entries c.args.put_off.now.items) c.args.place.now.dim c.args.place.now.level c.args.place.now.at.0 (slice_range c.args.pile.now.items c.args.place.now.part.at c.args.place.now.part.end) c.args.wide 0 c.requires.known in (
      omega arith,
      (
        search rules,
        (c.requires.here, (c.requires.level, (only_least c.args.schema.now c.args.place.now.dim (c.args.place.now.level + 1) c.in-Some.label (slice_range c.args.pile.now.items c.args.place.now.part.at c.args.place.now.part.end) some told, (one_part c.args.schema.now c.args.place.now c.args.pile.now.items c.args.put_off.now.items c.requires.here c.in-Some.label told, c.requires.known)))),
      ),
    )

pub visit_labels-returns-in-Some-clause-passed : goal.visit_labels-returns-in-Some-clause-passed
visit_labels-returns-in-Some-clause-passed g t c =
    let told = subst₂ (λ x y. TellsOneLabel c.args.schema.now c.args.place.now.dim x (slice_range y c.args.place.now.part.at c.args.place.now.part.end) (Some c.in-Some.label)) c.one_below-below.ensures c.deref.ensures.value c.in-Some.ensures in
    on_ok_weaker c.visit_label.result (λ P. (
      c.in-Some.label + 1,
      P,
      All-weaker (λ p. label_at c.args.schema.now c.args.place.now.dim (c.args.place.now.level + 1) p ≡ c.in-Some.label) (λ p. label_at c.args.schema.now c.args.place.now.dim (c.args.place.now.level + 1) p < c.in-Some.label + 1) (λ p e. omega (arith, e)) (slice_range c.args.pile.now.items c.args.place.now.part.at c.args.place.now.part.end) told,
    )) c.visit_label.ensures.passed

pub visit_labels-visit_runs-requires : goal.visit_labels-visit_runs-requires
visit_labels-visit_runs-requires g t c κs within =
    let P = subst (λ x. IsParted c.args.schema.now c.args.place.now.dim x (slice_range c.args.pile.now.items c.args.place.now.part.at c.args.place.now.part.end) c.args.pile.now.items c.part_by_label.new.pile.items) c.one_below-below.ensures c.in_ok-part_by_label.ensures.parted in
    let top : c.len-top.result ≡ length c.args.pile.now.items = search rules in
    let same = parted_part c.args.schema.now c.args.place.now c.args.pile.now.items c.args.put_off.now.items c.requires.here c.part_by_label.new.pile.items P in (
      omega arith,
      (
        search rules,
        (
          parted_here c.args.schema.now c.args.place.now c.args.pile.now.items c.args.put_off.now.items c.requires.here c.part_by_label.new.pile.items P,
          (
            c.requires.level,
            (
              parted_from c.args.schema.now c.args.place.now c.args.pile.now.items c.args.put_off.now.items c.requires.here c.part_by_label.new.pile.items P c.len-top.result top,
              subst (λ x. ∥ CanPassAt c.args.schema.now c.args.work.now.slots c.args.place.now.way (entries c.args.put_off.now.items) c.args.place.now.dim c.args.place.now.level c.args.place.now.at.0 x c.args.wide 0 ∥₁) (sym same) c.requires.known,
            ),
          ),
        ),
      ),
    )

pub visit_labels-returns-clause-passed : goal.visit_labels-returns-clause-passed
visit_labels-returns-clause-passed g t c =
    let P = subst (λ x. IsParted c.args.schema.now c.args.place.now.dim x (slice_range c.args.pile.now.items c.args.place.now.part.at c.args.place.now.part.end) c.args.pile.now.items c.part_by_label.new.pile.items) c.one_below-below.ensures c.in_ok-part_by_label.ensures.parted in
    let same = parted_part c.args.schema.now c.args.place.now c.args.pile.now.items c.args.put_off.now.items c.requires.here c.part_by_label.new.pile.items P in
    subst (λ x. PassesLabelsAt c.args.schema.now c.args.work.now.slots c.visit_runs.new.work.slots c.args.place.now.way (entries c.args.put_off.now.items) (entries c.visit_runs.new.put_off.items) c.args.place.now.dim c.args.place.now.level c.args.place.now.at.0 x c.args.wide) same c.in_ok-visit_runs.ensures.passed

-- the runs of a part
pub visit_runs-visit_label-requires : goal.visit_runs-visit_label-requires
visit_runs-visit_label-requires g t c κs within =
    let I = c.loop-from.invariant in
    let R = subst₂ (λ x y. IsFirstRun c.args.schema.now c.args.place.now.dim x y c.first_run-label.result.0 c.first_run-label.result.1) c.one_below-below.ensures (slice-rest c.deref.result.now c.loop-from.from ∙ ap (drop c.loop-from.from) (c.deref.ensures.value ∙ I.pile)) c.first_run-label.ensures in
    let less : c.loop-from.from < length c.args.pile.now.items = search rules in
    let least = run_least c.args.schema.now c.args.place.now c.args.pile.now.items c.args.put_off.now.items c.requires.here c.loop-from.from c.loop-from.next c.first_run-label.result.0 c.first_run-label.result.1 less I.left R in
    let part = run_part c.args.schema.now c.args.place.now c.args.pile.now.items c.args.put_off.now.items c.requires.here c.loop-from.from c.loop-from.next c.first_run-label.result.0 c.first_run-label.result.1 less I.left R (record { at = c.loop-from.from; end = c.loop-from.from + c.first_run-label.result.1 }) refl refl in (
      omega arith,
      (
        search rules,
        (
          still_here c.requires.here I.pile I.within,
          (
            c.requires.level,
            (
              subst (λ x. IsLeastFrom c.args.schema.now c.args.place.now.dim (c.args.place.now.level + 1) c.loop-from.next c.first_run-label.result.0 (slice_range x c.args.place.now.part.at c.args.place.now.part.end)) (sym I.pile) least,
              (
                subst (λ x. IsLabelPart c.args.schema.now c.args.place.now x c.first_run-label.result.0 (record { at = c.loop-from.from; end = c.loop-from.from + c.first_run-label.result.1 })) (sym I.pile) part,
                subst (λ x. ∥ CanPassAt c.args.schema.now c.loop-from.work.slots c.args.place.now.way (entries c.loop-from.put_off.items) c.args.place.now.dim c.args.place.now.level c.args.place.now.at.0 (slice_range x c.args.place.now.part.at c.args.place.now.part.end) c.args.wide c.loop-from.next ∥₁) (sym I.pile)
                    (can_pass_on c.args.schema.now c.args.place.now.way c.args.place.now.dim c.args.place.now.level c.args.place.now.at.0 (slice_range c.args.pile.now.items c.args.place.now.part.at c.args.place.now.part.end) c.requires.here.dim.0 c.requires.here.dim.1 _ _ _ _ c.args.wide 0 c.loop-from.next I.passed c.requires.known),
              ),
            ),
          ),
        ),
      ),
    )

pub visit_runs-loop-from-preserved : goal.visit_runs-loop-from-preserved
visit_runs-loop-from-preserved g t c =
    let I = c.loop-from.invariant in
    let R = subst₂ (λ x y. IsFirstRun c.args.schema.now c.args.place.now.dim x y c.first_run-label.result.0 c.first_run-label.result.1) c.one_below-below.ensures (slice-rest c.deref.result.now c.loop-from.from ∙ ap (drop c.loop-from.from) (c.deref.ensures.value ∙ I.pile)) c.first_run-label.ensures in
    let less : c.loop-from.from < length c.args.pile.now.items = search rules in
    let left = run_left c.args.schema.now c.args.place.now c.args.pile.now.items c.args.put_off.now.items c.requires.here c.loop-from.from c.loop-from.next c.first_run-label.result.0 c.first_run-label.result.1 less I.left R in
    let there = subst (λ x. PassesAt c.args.schema.now c.loop-from.work.slots c.visit_label.new.work.slots c.args.place.now.way (entries c.loop-from.put_off.items) (entries c.visit_label.new.put_off.items) c.args.place.now.dim c.args.place.now.level c.args.place.now.at.0 (slice_range x c.args.place.now.part.at c.args.place.now.part.end) c.args.wide c.loop-from.next (c.first_run-label.result.0 + 1)) I.pile c.in_ok-visit_label.ensures.passed in
    let passed = passes_more c.args.schema.now c.args.place.now.way c.args.place.now.dim c.args.place.now.level c.args.place.now.at.0 (slice_range c.args.pile.now.items c.args.place.now.part.at c.args.place.now.part.end) c.requires.here.dim.0 c.requires.here.dim.1 c.args.work.now.slots c.loop-from.work.slots c.visit_label.new.work.slots (entries c.args.put_off.now.items) (entries c.loop-from.put_off.items) (entries c.visit_label.new.put_off.items) c.args.wide 0 c.loop-from.next (c.first_run-label.result.0 + 1) I.passed there in
    record {
      passed = subst (λ n. PassesAt c.args.schema.now c.args.work.now.slots c.visit_label.new.work.slots c.args.place.now.way (entries c.args.put_off.now.items) (entries c.visit_label.new.put_off.items) c.args.place.now.dim c.args.place.now.level c.args.place.now.at.0 (slice_range c.args.pile.now.items c.args.place.now.part.at c.args.place.now.part.end) c.args.wide 0 (n + 1)) (sym c.from-next.ensures) passed;
      left = subst (λ n. HoldsRest c.args.schema.now c.args.place.now.dim (c.args.place.now.level + 1) (n + 1) (slice_range c.args.pile.now.items c.args.place.now.part.at c.args.place.now.part.end) (drop (c.loop-from.from + c.first_run-label.result.1) c.args.pile.now.items)) (sym c.from-next.ensures) left;
      place = run_within c.args.schema.now c.args.place.now c.args.pile.now.items c.args.put_off.now.items c.requires.here c.loop-from.from c.loop-from.next c.first_run-label.result.0 c.first_run-label.result.1 less I.left R;
      pile = c.in_ok-visit_label.ensures.pile.0 ∙ I.pile;
      within = c.in_ok-visit_label.ensures.pile.1;
      start = c.in_ok-visit_label.ensures.start ∙ I.start;
    }

pub visit_runs-returns-clause-passed : goal.visit_runs-returns-clause-passed
visit_runs-returns-clause-passed g t c =
    let I = c.loop-from.invariant in
    let end : length c.args.pile.now.items ≤ c.loop-from.from = search rules in (
      c.loop-from.next,
      I.passed,
      all_left c.args.schema.now c.args.place.now.dim (c.args.place.now.level + 1) c.loop-from.next (slice_range c.args.pile.now.items c.args.place.now.part.at c.args.place.now.part.end) (drop c.loop-from.from c.args.pile.now.items) (omega (arith, end, length-drop c.loop-from.from c.args.pile.now.items)) I.left,
    )
