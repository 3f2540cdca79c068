-- Which event of the loading machine each step of a run is, and what a run of steps is.
use Rattle.std.specs.Prelude.{◌≡◌, ℕ, true, false, List, [], ◌∷◌, ◌++◌}
use Rattle.cube_view.specs.declared.schema.Schema.{Schema}
use Rattle.feed_queue.specs.Items.{entries_in}
use Rattle.feed_queue.specs.declared.item.Item.TheVariants as item
use Rattle.world_core.specs.declared.entry.Entry.{Entry}
use Rattle.world_core.specs.declared.event.Event.{Event}
use Rattle.world_core.specs.declared.event.Event.TheVariants as event
use Rattle.run_law.specs.Moves.{Sends, Draws, TakesItem, TellsSession, PutsMail, Asks, Learns, Looks, EndsPair, LearnsEnd, looked}
use Rattle.run_law.specs.Views.{RunView}
use Rattle.run_law.specs.declared.step.Step.{Step}
use Rattle.run_law.specs.declared.step.Step.TheVariants as step

-- the event that the step is, or none
abbrev pub event_of : Step → List Event
event_of (step.SendEntry f) = event.Push f ∷ []
event_of (step.SendEnd f) = []
event_of step.DrawEntry = event.Pop ∷ []
event_of step.DrawEnd = []
event_of step.Keep = []
event_of step.Publish = event.Publish ∷ []
event_of (step.Tell s) = event.Tell s ∷ []
event_of (step.PutMail s) = []
event_of (step.TakeMail s) = []
event_of (step.Learn s) = []
event_of (step.Look s q) = event.Look s (looked q) ∷ []
event_of step.EndPublishing = event.Publish ∷ []
event_of step.End = []
event_of (step.LearnEnd s) = event.Tell s ∷ []
event_of step.Rest = []

-- the events of the steps, in order
abbrev pub events_of : List Step → List Event
events_of [] = []
events_of (s ∷ steps) = event_of s ++ events_of steps

-- nothing that was drawn was dropped: journal and pending are all of it
abbrev pub DroppedNone : RunView → Type 0
DroppedNone a = a.builder.journal ++ a.builder.pending ≡ entries_in a.draws.drawn

-- of a run of that schema, in whose queue there is so much room
module _ (schema : Schema) (room : ℕ) where
  -- the step leads from the one moment to the other
  abbrev pub IsRunStep : RunView → Step → RunView → Type 0
  IsRunStep a (step.SendEntry f) b = (e : Entry) × Sends room f (item.One e) a b
  IsRunStep a (step.SendEnd f) b = (n : ℕ) × Sends room f (item.End f n) a b
  IsRunStep a step.DrawEntry b = (e : Entry) × Draws (item.One e) a b
  IsRunStep a step.DrawEnd b = (f : ℕ) × (n : ℕ) × Draws (item.End f n) a b
  IsRunStep a step.Keep b = TakesItem false a b
  IsRunStep a step.Publish b = TakesItem true a b
  IsRunStep a (step.Tell s) b = TellsSession s a b
  IsRunStep a (step.PutMail s) b = PutsMail s a b
  IsRunStep a (step.TakeMail s) b = Asks s a b
  IsRunStep a (step.Learn s) b = Learns s a b
  IsRunStep a (step.Look s q) b = Looks schema s q a b
  IsRunStep a step.EndPublishing b = DroppedNone a × EndsPair a b
  IsRunStep a step.End b = (a.builder.pending ≡ []) × EndsPair a b
  IsRunStep a (step.LearnEnd s) b = LearnsEnd s a b
  IsRunStep a step.Rest b = b ≡ a

  -- the steps lead from the one moment to the other, one after another
  abbrev pub AreRunSteps : RunView → List Step → RunView → Type 0
  AreRunSteps a [] b = b ≡ a
  AreRunSteps a (s ∷ steps) b = (mid : RunView) × IsRunStep a s mid × AreRunSteps mid steps b
