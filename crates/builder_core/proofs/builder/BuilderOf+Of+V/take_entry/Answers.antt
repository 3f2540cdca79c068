use Rattle.std.proofs.Common.{length, length-append, take, drop, ap, sym, refl, ◌∙◌, subst, true, arith, rules}
use Rattle.std.proofs.lemmas.List.{take-append-drop}
use Rattle.world_core.specs.Interleaving.{entry_points}
use Rattle.builder_core.specs.Builder.{BuilderState, IsBuilder}
use Rattle.builder_core.specs.Taking.{having_published}
use Rattle.builder_core.proofs.BuilderRule.{room, keeps-left, keeps-unpublished, keeps-appended, keeps-published}
use Rattle.builder_core.proofs.States.{same_state, appended_state, published_state, length-pending_before, length-all}
use Rattle.builder_core.proofs.WaysOut.{next_of, taking_of, takes-kept, takes-published, takes-unpublished}
use Rattle.builder_core.proofs.builder.BuilderOf+Of+V.take_entry.Goals as goal

pub append-requires-clause-room : goal.append-requires-clause-room
append-requires-clause-room g c κs within =
    let few = room _ _ _ c.self.invariant (next_of _ _ _ c.self.view_is c.requires) (omega arith) in
    let l = length-append (take c.self.inside.out.published c.self.inside.out.entries.items) (drop c.self.inside.out.published c.self.inside.out.entries.items) in
    let all = ap length (take-append-drop c.self.inside.out.published c.self.inside.out.entries.items) in
    omega (arith, few, l, all)

pub invariant_of-self : goal.invariant_of-self
invariant_of-self g c =
    let after = same_state _ _ _ _ _ _ _ _ _ _ _ _ _ _ _ _ _ _ c.and-self-inside.ensures refl refl c.if-self.true refl refl refl refl in
    subst (λ (s : BuilderState). IsBuilder s c.self.inside.ends) (sym after) (keeps-left _ _ _ c.self.invariant (next_of _ _ _ c.self.view_is c.requires) (omega arith))

pub returns-then-self-clause-keeps : goal.returns-then-self-clause-keeps
returns-then-self-clause-keeps g c = (invariant_of-self g c).journal

pub invariant_of-self-then-is_err : goal.invariant_of-self-then-is_err
invariant_of-self-then-is_err g c =
    let after = same_state _ _ _ _ _ _ _ _ _ _ _ _ _ _ _ _ _ _ c.and-self-inside.ensures (search rules) (search rules) refl (search rules) (search rules) (search rules) (search rules) in
    subst (λ (s : BuilderState). IsBuilder s c.self.inside.ends) (sym after) (keeps-left _ _ _ c.self.invariant (next_of _ _ _ c.self.view_is c.requires) (omega arith))

pub returns-then-is_err-clause-keeps : goal.returns-then-is_err-clause-keeps
returns-then-is_err-clause-keeps g c = (invariant_of-self-then-is_err g c).journal

pub invariant_of-self-then-pending-self : goal.invariant_of-self-then-pending-self
invariant_of-self-then-pending-self g c =
    let full = length-pending_before c.self.inside.out.entries.items c.append.new.self.entries.items c.self.inside.out.published c.append.new.self.published c.pending.result c.args.entry c.self.inside.out.within (search rules) (search rules) c.pending.ensures in
    let left = appended_state _ _ _ _ _ _ _ _ _ _ _ _ _ _ _ _ _ c.args.entry c.self.inside.out.within c.self.inside.out.appended c.append.new.self.appended c.and-self-inside.ensures (search rules) (search rules) (search rules) (search rules) (search rules) in
    subst (λ (s : BuilderState). IsBuilder s c.self.inside.ends) (sym left) (keeps-appended _ _ c.args.entry c.self.invariant (next_of _ _ _ c.self.view_is c.requires) (omega arith) c.if-self.false (omega (arith, full)))

pub returns-then-pending-self-clause-keeps : goal.returns-then-pending-self-clause-keeps
returns-then-pending-self-clause-keeps g c = (invariant_of-self-then-pending-self g c).journal

pub returns-then-pending-self-clause-taking : goal.returns-then-pending-self-clause-taking
returns-then-pending-self-clause-taking g c =
    let full = length-pending_before c.self.inside.out.entries.items c.append.new.self.entries.items c.self.inside.out.published c.append.new.self.published c.pending.result c.args.entry c.self.inside.out.within (search rules) c.append.ensures.published.0 c.pending.ensures in
    taking_of _ _ _ _ _ c.self.view_is (takes-kept _ _ _ c.args.entry c.self.invariant c.if-self.false (omega (arith, full))
    (appended_state c.self.inside.feeders c.self.inside.batch _ _ _ _ _ _ c.self.inside.spent _ _ _ _ _ _ _ _ c.args.entry c.self.inside.out.within c.self.inside.out.appended c.append.new.self.appended c.and-self-inside.ensures (search rules) c.append.ensures.published.0 c.append.ensures.published.1 c.append.ensures.pair.0 c.append.ensures.pair.1))

pub invariant_of-self-in-Ok : goal.invariant_of-self-in-Ok
invariant_of-self-in-Ok g c =
    let pending = appended_state c.self.inside.feeders c.self.inside.batch _ _ _ _ _ _ c.self.inside.spent _ _ _ _ _ _ _ _ c.args.entry c.self.inside.out.within c.self.inside.out.appended c.append.new.self.appended c.and-self-inside.ensures (search rules) c.append.ensures.published.0 c.append.ensures.published.1 c.append.ensures.pair.0 c.append.ensures.pair.1 in
    let published = published_state c.self.inside.feeders c.self.inside.batch c.and-self-inside.result.items _ _ c.append.new.self.published _ c.self.inside.spent c.append.new.self.publisher.published c.publish.new.self.publisher.published _ _ _ _ _ _ c.append.new.self.appended c.publish.new.self.appended c.publish.new.self.shown c.in-Ok.ensures.entries c.in-Ok.ensures.published.0 c.in-Ok.ensures.book c.in-Ok.ensures.pair.0 c.in-Ok.ensures.pair.1 in
    subst (λ (s : BuilderState). IsBuilder s c.self.inside.ends) (sym (published ∙ ap having_published pending)) (keeps-published _ _ c.args.entry c.self.invariant (next_of _ _ _ c.self.view_is c.requires) (omega arith) c.if-self.false)

pub returns-in-Ok-clause-keeps : goal.returns-in-Ok-clause-keeps
returns-in-Ok-clause-keeps g c = (invariant_of-self-in-Ok g c).journal

pub returns-in-Ok-clause-taking : goal.returns-in-Ok-clause-taking
returns-in-Ok-clause-taking g c =
    let full = length-pending_before c.self.inside.out.entries.items c.append.new.self.entries.items c.self.inside.out.published c.append.new.self.published c.pending.result c.args.entry c.self.inside.out.within (search rules) c.append.ensures.published.0 c.pending.ensures in
    let pending = appended_state c.self.inside.feeders c.self.inside.batch _ _ _ _ _ _ c.self.inside.spent _ _ _ _ _ _ _ _ c.args.entry c.self.inside.out.within c.self.inside.out.appended c.append.new.self.appended c.and-self-inside.ensures (search rules) c.append.ensures.published.0 c.append.ensures.published.1 c.append.ensures.pair.0 c.append.ensures.pair.1 in
    let published = published_state c.self.inside.feeders c.self.inside.batch c.and-self-inside.result.items _ _ c.append.new.self.published _ c.self.inside.spent c.append.new.self.publisher.published c.publish.new.self.publisher.published _ _ _ _ _ _ c.append.new.self.appended c.publish.new.self.appended c.publish.new.self.shown c.in-Ok.ensures.entries c.in-Ok.ensures.published.0 c.in-Ok.ensures.book c.in-Ok.ensures.pair.0 c.in-Ok.ensures.pair.1 in
    let count = c.in-Ok.ensures.published.1 ∙ sym (length-all _ _ _ c.in-Ok.ensures.entries c.in-Ok.ensures.published.0) in
    taking_of _ _ _ _ _ c.self.view_is (takes-published _ _ _ c.args.entry c.self.invariant c.in-Ok.count c.if-self.false (omega (arith, full)) count (published ∙ ap having_published pending))

pub invariant_of-self-in-Err : goal.invariant_of-self-in-Err
invariant_of-self-in-Err g c =
    let pending = appended_state c.self.inside.feeders c.self.inside.batch _ _ _ _ _ _ c.self.inside.spent _ _ _ _ _ _ _ _ c.args.entry c.self.inside.out.within c.self.inside.out.appended c.append.new.self.appended c.and-self-inside.ensures (search rules) c.append.ensures.published.0 c.append.ensures.published.1 c.append.ensures.pair.0 c.append.ensures.pair.1 in
    let left = same_state c.self.inside.feeders c.self.inside.batch _ _ _ _ _ _ true true _ _ _ _ _ _ _ _ refl c.in-Err.ensures.entries c.in-Err.ensures.unchanged.0 refl c.in-Err.ensures.unchanged.1 (c.publish.new.self.appended ∙ (ap entry_points c.in-Err.ensures.entries ∙ sym c.append.new.self.appended)) c.in-Err.ensures.pair.0 c.in-Err.ensures.pair.1 in
    subst (λ (s : BuilderState). IsBuilder s c.self.inside.ends) (sym (left ∙ ap (λ (s : BuilderState). record s { spent = true }) pending)) (keeps-unpublished _ _ c.args.entry c.self.invariant (next_of _ _ _ c.self.view_is c.requires) (omega arith) c.if-self.false)

pub returns-in-Err-clause-keeps : goal.returns-in-Err-clause-keeps
returns-in-Err-clause-keeps g c = (invariant_of-self-in-Err g c).journal

pub returns-in-Err-clause-taking : goal.returns-in-Err-clause-taking
returns-in-Err-clause-taking g c =
    let full = length-pending_before c.self.inside.out.entries.items c.append.new.self.entries.items c.self.inside.out.published c.append.new.self.published c.pending.result c.args.entry c.self.inside.out.within (search rules) c.append.ensures.published.0 c.pending.ensures in
    let pending = appended_state c.self.inside.feeders c.self.inside.batch _ _ _ _ _ _ c.self.inside.spent _ _ _ _ _ _ _ _ c.args.entry c.self.inside.out.within c.self.inside.out.appended c.append.new.self.appended c.and-self-inside.ensures (search rules) c.append.ensures.published.0 c.append.ensures.published.1 c.append.ensures.pair.0 c.append.ensures.pair.1 in
    let left = same_state c.self.inside.feeders c.self.inside.batch _ _ _ _ _ _ true true _ _ _ _ _ _ _ _ refl c.in-Err.ensures.entries c.in-Err.ensures.unchanged.0 refl c.in-Err.ensures.unchanged.1 (c.publish.new.self.appended ∙ (ap entry_points c.in-Err.ensures.entries ∙ sym c.append.new.self.appended)) c.in-Err.ensures.pair.0 c.in-Err.ensures.pair.1 in
    taking_of _ _ _ _ _ c.self.view_is (takes-unpublished _ _ _ c.args.entry c.self.invariant _ c.if-self.false (omega (arith, full)) (left ∙ ap (λ (s : BuilderState). record s { spent = true }) pending))
