-- Each step is its event or none, and so a run of steps is a run of the machine.
use Rattle.std.proofs.Common.{◌≡◌, ℕ, ◌+◌, ◌≤◌, List, [], ◌∷◌, ◌++◌, length, refl, sym, ap, ◌∙◌, subst}
use Rattle.std.proofs.lemmas.List.{append-nil}
use Rattle.cube_view.specs.Points.{Point}
use Rattle.cube_view.specs.declared.schema.Schema.{Schema}
use Rattle.feed_queue.specs.Ends.{FeedState, having_sent}
use Rattle.feed_queue.specs.declared.item.Item.{Item}
use Rattle.feed_queue.specs.declared.item.Item.TheVariants as item
use Rattle.feed_queue.proofs.InTurn.{length-new_feeds}
use Rattle.world_core.specs.Machine.{first_world, after_events}
use Rattle.world_core.specs.declared.world.World.{World}
use Rattle.world_core.proofs.Prefixes.{IsPrefix-then}
use Rattle.world_core.proofs.Worlds.{after_events-append}
use Rattle.run_law.specs.Moves.{Sends}
use Rattle.run_law.specs.RunLaws.{StepIsItsEvent, RunIsOfTheMachine}
use Rattle.run_law.specs.Standing.{GoOnFrom, StandsWith}
use Rattle.run_law.specs.Steps.{IsRunStep, AreRunSteps, event_of, events_of}
use Rattle.run_law.specs.Views.{RunView}
use Rattle.run_law.specs.declared.step.Step.{Step}
use Rattle.run_law.specs.declared.step.Step.TheVariants as step
use Rattle.run_law.proofs.Feeders.{SendsOn, SendsOn-none, SendsOn-one}
use Rattle.run_law.proofs.Openings.{opening_stands}
use Rattle.run_law.proofs.SessionSteps.{tells, learns_end, puts, asks, learns, looks_on}
use Rattle.run_law.proofs.StepLaws.{entry_sent, end_sent, entry_drawn, end_drawn, kept, published, ended, ended_publishing}

-- Feeders only send on

sends_once : (room f : ℕ) (i : Item) (more : List Point) (a b : RunView) (sends : Sends room f i a b) → (having_sent sends.end i).points ≡ sends.end.points ++ more → SendsOn a.feeds b.feeds
sends_once room f i more a b sends gains =
    subst (λ (x : RunView). SendsOn a.feeds x.feeds) (sym sends.after) (SendsOn-one a.feeds f sends.end (having_sent sends.end i) more sends.at sends.number.0 gains)

abbrev feeds_of : RunView → List FeedState
feeds_of run = run.feeds

step_sends : (schema : Schema) (room : ℕ) (a b : RunView) (s : Step) → IsRunStep schema room a s b → SendsOn a.feeds b.feeds
step_sends schema room a b (step.SendEntry f) is = sends_once room f (item.One is.0) (is.0.point ∷ []) a b is.1 refl
step_sends schema room a b (step.SendEnd f) is = sends_once room f (item.End f is.0) [] a b is.1 (sym (append-nil is.1.end.points))
step_sends schema room a b step.DrawEntry is = SendsOn-none a.feeds b.feeds (ap feeds_of is.1.after)
step_sends schema room a b step.DrawEnd is = SendsOn-none a.feeds b.feeds (ap feeds_of is.2.after)
step_sends schema room a b step.Keep is = SendsOn-none a.feeds b.feeds (ap feeds_of is.after)
step_sends schema room a b step.Publish is = SendsOn-none a.feeds b.feeds (ap feeds_of is.after)
step_sends schema room a b (step.Tell s) is = SendsOn-none a.feeds b.feeds (ap feeds_of is.after)
step_sends schema room a b (step.PutMail s) is = SendsOn-none a.feeds b.feeds (ap feeds_of is.after)
step_sends schema room a b (step.TakeMail s) is = SendsOn-none a.feeds b.feeds (ap feeds_of is.after)
step_sends schema room a b (step.Learn s) is = SendsOn-none a.feeds b.feeds (ap feeds_of is.after)
step_sends schema room a b (step.Look s q) is = SendsOn-none a.feeds b.feeds (ap feeds_of is.after)
step_sends schema room a b step.EndPublishing is = SendsOn-none a.feeds b.feeds (ap feeds_of is.1.after)
step_sends schema room a b step.End is = SendsOn-none a.feeds b.feeds (ap feeds_of is.1.after)
step_sends schema room a b (step.LearnEnd s) is = SendsOn-none a.feeds b.feeds (ap feeds_of is.after)
step_sends schema room a b step.Rest is = SendsOn-none a.feeds b.feeds (ap feeds_of is)

SendsOn-then : (a b c : List FeedState) → SendsOn a b → SendsOn b c → SendsOn a c
SendsOn-then a b c first next = record {
  count = next.count ∙ first.count;
  each = λ f low high. IsPrefix-then _ _ _ (first.each f low high) (next.each f low (subst (λ n. f ≤ n) (sym first.count) high));
}

run_sends : (schema : Schema) (room : ℕ) (a b : RunView) (steps : List Step) → AreRunSteps schema room a steps b → SendsOn a.feeds b.feeds
run_sends schema room a b [] is = SendsOn-none a.feeds b.feeds (ap feeds_of is)
run_sends schema room a b (s ∷ steps) is = SendsOn-then a.feeds is.0.feeds b.feeds (step_sends schema room a is.0 s is.1) (run_sends schema room is.0 b steps is.2)

-- so lists that go on from what they have sent go on from what they had
go_on_before : (a b : RunView) (lists : List (List Point)) → SendsOn a.feeds b.feeds → GoOnFrom b lists → GoOnFrom a lists
go_on_before a b lists on go = record {
  count = go.count ∙ on.count;
  each = λ f low high. IsPrefix-then _ _ _ (on.each f low high) (go.each f low (subst (λ n. f ≤ n) (sym on.count) high));
}

-- Each step is its event, or none

pub step_is_its_event : StepIsItsEvent
step_is_its_event schema room a b (step.SendEntry f) lists n w stands is go =
    let sends = is.1 in
    subst (λ (x : RunView). StandsWith lists x (after_events schema room n w (event_of (step.SendEntry f)))) (sym sends.after)
    (entry_sent lists a w stands f sends.end is.0 sends.at sends.number.0 sends.number.1 sends.may (subst (λ (x : RunView). GoOnFrom x lists) sends.after go) schema room n sends.fits)
step_is_its_event schema room a b (step.SendEnd f) lists n w stands is go =
    let sends = is.1 in
    subst (λ (x : RunView). StandsWith lists x w) (sym sends.after) (end_sent lists a w stands f f is.0 sends.end sends.at sends.number.0)
step_is_its_event schema room a b step.DrawEntry lists n w stands is go =
    subst (λ (x : RunView). StandsWith lists x (after_events schema room n w (event_of step.DrawEntry))) (sym is.1.after) (entry_drawn lists a w stands is.1.rest is.0 is.1.front schema room n)
step_is_its_event schema room a b step.DrawEnd lists n w stands is go =
    subst (λ (x : RunView). StandsWith lists x w) (sym is.2.after) (end_drawn lists a w stands is.2.rest is.0 is.1 is.2.front)
step_is_its_event schema room a b step.Keep lists n w stands is go = kept lists a w stands b is
step_is_its_event schema room a b step.Publish lists n w stands is go = published lists a w stands b is schema room n
step_is_its_event schema room a b (step.Tell s) lists n w stands is go = tells lists a b w stands s is schema room n
step_is_its_event schema room a b (step.PutMail s) lists n w stands is go = puts lists a b w stands s is
step_is_its_event schema room a b (step.TakeMail s) lists n w stands is go = asks lists a b w stands s is
step_is_its_event schema room a b (step.Learn s) lists n w stands is go = learns lists a b w stands s is
step_is_its_event schema room a b (step.Look s q) lists n w stands is go = looks_on lists a b w stands s schema q is room n
step_is_its_event schema room a b step.EndPublishing lists n w stands is go = ended_publishing lists a w stands b is.1 is.0 schema room n
step_is_its_event schema room a b step.End lists n w stands is go = ended lists a w stands b is.1 is.0
step_is_its_event schema room a b (step.LearnEnd s) lists n w stands is go = learns_end lists a b w stands s is schema room n
step_is_its_event schema room a b step.Rest lists n w stands is go = subst (λ (x : RunView). StandsWith lists x w) (sym is) stands

-- A run of steps is a run of the machine

chain : (schema : Schema) (room : ℕ) (lists : List (List Point)) (a b : RunView) (steps : List Step) (n : ℕ) (w : World)
    → StandsWith lists a w → AreRunSteps schema room a steps b → GoOnFrom b lists → StandsWith lists b (after_events schema room n w (events_of steps))
chain schema room lists a b [] n w stands is go = subst (λ (x : RunView). StandsWith lists x w) (sym is) stands
chain schema room lists a b (s ∷ steps) n w stands is go =
    let go_mid = go_on_before is.0 b lists (run_sends schema room is.0 b steps is.2) go in
    let here = step_is_its_event schema room a is.0 s lists n w stands is.1 go_mid in
    let later = chain schema room lists is.0 b steps (n + length (event_of s)) (after_events schema room n w (event_of s)) here is.2 go in
    subst (StandsWith lists b) (sym (after_events-append schema room n w (event_of s) (events_of steps))) later

pub run_is_of_the_machine : RunIsOfTheMachine
run_is_of_the_machine schema feeders sessions a b steps lists opened is go =
    let room = a.draws.room in
    let on = run_sends schema room a b steps is in
    let size : length lists ≡ feeders = go.count ∙ on.count ∙ ap length opened.feeds ∙ length-new_feeds a.draws.lane schema feeders in
    chain schema room lists a b steps 0 (first_world lists sessions) (opening_stands schema feeders sessions a lists opened size) is go
