use Rattle.std.proofs.lemmas.List.{length-map}
use Rattle.world_core.specs.declared.entry.Entry.{Entry}
use Rattle.feed_queue.specs.declared.item.Item.TheVariants.{End}
use Rattle.std.proofs.Common.{◌≡◌, ◌+◌, true, false, [], length, take, drop, ap, sym, refl, ◌∙◌, subst, true≢false, arith}
use Rattle.world_core.specs.Interleaving.{entry_points}
use Rattle.builder_core.specs.Builder.{BuilderState, IsBuilder}
use Rattle.builder_core.specs.Taking.{having_published}
use Rattle.builder_core.proofs.BuilderRule.{counting, having_published-none, ends-few, ended-part, ended-last, keeps-ended, keeps-ended_published, keeps-ended_spent}
use Rattle.builder_core.proofs.States.{same_state, published_state, length-all, none_pending, some_pending}
use Rattle.builder_core.proofs.WaysOut.{next_of, taking_of, takes-end, takes-last_spent, takes-last, takes-last_refused}
use Rattle.builder_core.proofs.builder.BuilderOf+Of+V.take_end.Goals as goal
use Rattle.builder_core.proofs.builder.BuilderOf+Of+V.take_end.Goals.{then-self-2-via-then-self-2, then-self-2-via-else-self-2+then-pending-eq0}

pub overflow_add-self : goal.overflow_add-self
overflow_add-self g c = let few = ends-few _ _ c.self.invariant in omega (arith, few)

pub invariant_of-self : goal.invariant_of-self
invariant_of-self g c =
    let next = next_of _ _ _ c.self.view_is c.requires in
    let after = same_state c.self.inside.feeders c.self.inside.batch _ _ _ _ _ _ _ _ _ _ _ _ _ _ _ _ c.and-self-inside.ensures refl refl refl refl refl refl refl in
    subst (λ (s : BuilderState). IsBuilder s (c.self.inside.ends + 1)) (sym after)
    (keeps-ended _ _ c.args.feeder c.args.count c.self.invariant next (λ opened all. absurd (true≢false (sym all ∙ ended-part _ _ c.args.feeder c.args.count c.self.invariant next (omega arith)))))

pub returns-then-self-clause-keeps : goal.returns-then-self-clause-keeps
returns-then-self-clause-keeps g c = (invariant_of-self g c).journal

pub returns-then-self-clause-taking : goal.returns-then-self-clause-taking
returns-then-self-clause-taking g c =
    let next = next_of _ _ _ c.self.view_is c.requires in
    taking_of _ _ _ _ _ c.self.view_is (takes-end _ _ _ c.args.feeder c.args.count c.self.invariant (ended-part _ _ c.args.feeder c.args.count c.self.invariant next (omega arith))
    (same_state c.self.inside.feeders c.self.inside.batch _ _ _ _ _ _ _ _ _ _ _ _ _ _ _ _ c.and-self-inside.ensures refl refl refl refl refl refl refl))

pub invariant_of-self-then-self-2 : goal.invariant_of-self-then-self-2
invariant_of-self-then-self-2 g c =
    let next = next_of _ _ _ c.self.view_is c.requires in
    let settled : c.self.inside.spent ≡ false → drop c.self.inside.out.published c.self.inside.out.entries.items ≡ [] = λ opened. elim c.then-self-2.branch [
      | then-self-2-via-then-self-2 w ↦ absurd (true≢false (sym w.if-self-2.true ∙ opened))
      | then-self-2-via-else-self-2+then-pending-eq0 w ↦ none_pending c.self.inside.out.entries.items c.self.inside.out.published w.pending.result w.pending.ensures w.if-pending-eq0.true
    ] in
    let after = same_state c.self.inside.feeders c.self.inside.batch _ _ _ _ _ _ _ _ _ _ _ _ _ _ _ _ c.and-self-inside.ensures refl refl refl refl refl refl refl in
    subst (λ (s : BuilderState). IsBuilder s (c.self.inside.ends + 1)) (sym after) (keeps-ended _ _ c.args.feeder c.args.count c.self.invariant next (λ opened all. settled opened))

pub returns-then-self-2-clause-keeps : goal.returns-then-self-2-clause-keeps
returns-then-self-2-clause-keeps g c = (invariant_of-self-then-self-2 g c).journal

pub returns-then-self-2-clause-taking : goal.returns-then-self-2-clause-taking
returns-then-self-2-clause-taking g c =
    let next = next_of _ _ _ c.self.view_is c.requires in
    let last = ended-last _ _ c.args.feeder c.args.count c.self.invariant next (omega arith) in
    let count = c.len.ensures ∙ (ap length c.self.inside.out.shown ∙ length-map (take c.self.inside.out.published c.self.inside.out.entries.items) (λ (e : Entry). e.point)) in
    let after = same_state c.self.inside.feeders c.self.inside.batch _ _ _ _ _ _ _ _ _ _ _ _ _ _ _ _ c.and-self-inside.ensures refl refl refl refl refl refl refl in
    elim c.then-self-2.branch [
      | then-self-2-via-then-self-2 w ↦ taking_of _ _ _ _ _ c.self.view_is (takes-last_spent _ _ _ c.args.feeder c.args.count c.self.invariant c.len.result w.if-self-2.true last count after)
      | then-self-2-via-else-self-2+then-pending-eq0 w ↦
          let still = having_published-none _ _ c.self.invariant (none_pending c.self.inside.out.entries.items c.self.inside.out.published w.pending.result w.pending.ensures w.if-pending-eq0.true) in
          taking_of _ _ _ _ _ c.self.view_is (takes-last _ _ _ c.args.feeder c.args.count c.self.invariant c.len.result w.if-self-2.false last count (after ∙ ap (λ (s : BuilderState). counting s (End c.args.feeder c.args.count)) (sym still)))
    ]

pub invariant_of-self-in-Ok : goal.invariant_of-self-in-Ok
invariant_of-self-in-Ok g c =
    let next = next_of _ _ _ c.self.view_is c.requires in
    let counted = same_state c.self.inside.feeders c.self.inside.batch _ _ c.self.inside.out.entries.items _ c.self.inside.out.published _ _ _ c.self.inside.out.publisher.published _ _ _ _ _ _ _ c.and-self-inside.ensures refl refl refl refl refl refl refl in
    let published = published_state c.self.inside.feeders c.self.inside.batch c.and-self-inside.result.items _ _ c.self.inside.out.published _ c.self.inside.spent c.self.inside.out.publisher.published c.publish.new.self.publisher.published _ _ _ _ _ _ c.self.inside.out.appended c.publish.new.self.appended c.publish.new.self.shown c.in-Ok.ensures.entries c.in-Ok.ensures.published.0 c.in-Ok.ensures.book c.in-Ok.ensures.pair.0 c.in-Ok.ensures.pair.1 in
    subst (λ (s : BuilderState). IsBuilder s (c.self.inside.ends + 1)) (sym (published ∙ ap having_published counted)) (keeps-ended_published _ _ c.args.feeder c.args.count c.self.invariant next c.if-self-2.false)

pub returns-in-Ok-clause-keeps : goal.returns-in-Ok-clause-keeps
returns-in-Ok-clause-keeps g c = (invariant_of-self-in-Ok g c).journal

pub returns-in-Ok-clause-taking : goal.returns-in-Ok-clause-taking
returns-in-Ok-clause-taking g c =
    let next = next_of _ _ _ c.self.view_is c.requires in
    let last = ended-last _ _ c.args.feeder c.args.count c.self.invariant next (omega arith) in
    let counted = same_state c.self.inside.feeders c.self.inside.batch _ _ c.self.inside.out.entries.items _ c.self.inside.out.published _ _ _ c.self.inside.out.publisher.published _ _ _ _ _ _ _ c.and-self-inside.ensures refl refl refl refl refl refl refl in
    let published = published_state c.self.inside.feeders c.self.inside.batch c.and-self-inside.result.items _ _ c.self.inside.out.published _ c.self.inside.spent c.self.inside.out.publisher.published c.publish.new.self.publisher.published _ _ _ _ _ _ c.self.inside.out.appended c.publish.new.self.appended c.publish.new.self.shown c.in-Ok.ensures.entries c.in-Ok.ensures.published.0 c.in-Ok.ensures.book c.in-Ok.ensures.pair.0 c.in-Ok.ensures.pair.1 in
    let count = c.in-Ok.ensures.published.1 ∙ sym (length-all _ _ _ c.in-Ok.ensures.entries c.in-Ok.ensures.published.0) in
    taking_of _ _ _ _ _ c.self.view_is (takes-last _ _ _ c.args.feeder c.args.count c.self.invariant c.in-Ok.count c.if-self-2.false last count (published ∙ ap having_published counted))

pub invariant_of-self-in-Err : goal.invariant_of-self-in-Err
invariant_of-self-in-Err g c =
    let next = next_of _ _ _ c.self.view_is c.requires in
    let left = same_state c.self.inside.feeders c.self.inside.batch _ _ _ _ _ _ true true _ _ _ _ _ _ _ _ c.and-self-inside.ensures c.in-Err.ensures.entries c.in-Err.ensures.unchanged.0 refl c.in-Err.ensures.unchanged.1 (c.publish.new.self.appended ∙ (ap entry_points c.in-Err.ensures.entries ∙ sym c.self.inside.out.appended)) c.in-Err.ensures.pair.0 c.in-Err.ensures.pair.1 in
    subst (λ (s : BuilderState). IsBuilder s (c.self.inside.ends + 1)) (sym left) (keeps-ended_spent _ _ c.args.feeder c.args.count c.self.invariant next)

pub returns-in-Err-clause-keeps : goal.returns-in-Err-clause-keeps
returns-in-Err-clause-keeps g c = (invariant_of-self-in-Err g c).journal

pub returns-in-Err-clause-taking : goal.returns-in-Err-clause-taking
returns-in-Err-clause-taking g c =
    let next = next_of _ _ _ c.self.view_is c.requires in
    let last = ended-last _ _ c.args.feeder c.args.count c.self.invariant next (omega arith) in
    let left = same_state c.self.inside.feeders c.self.inside.batch _ _ _ _ _ _ true true _ _ _ _ _ _ _ _ c.and-self-inside.ensures c.in-Err.ensures.entries c.in-Err.ensures.unchanged.0 refl c.in-Err.ensures.unchanged.1 (c.publish.new.self.appended ∙ (ap entry_points c.in-Err.ensures.entries ∙ sym c.self.inside.out.appended)) c.in-Err.ensures.pair.0 c.in-Err.ensures.pair.1 in
    taking_of _ _ _ _ _ c.self.view_is (takes-last_refused _ _ _ c.args.feeder c.args.count c.self.invariant _ c.if-self-2.false last (some_pending _ _ _ c.pending.ensures c.if-pending-eq0.false) left)
