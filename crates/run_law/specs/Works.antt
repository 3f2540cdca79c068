-- What the builder's work does is a run of steps.
use Rattle.std.specs.Prelude.{◌≡◌, ℕ, ◌+◌, Bool, true, false, List, [], ◌∷◌, Some, slice_get, Result, Ok, Err}
use Rattle.builder_core.specs.declared.taken.Taken.{Taken}
use Rattle.builder_core.specs.declared.taken.Taken.TheVariants.{Kept, Published, LastEnd}
use Rattle.builder_core.specs.Steps as work
use Rattle.builder_core.specs.Work.{BuilderWorkState, DrawsFor}
use Rattle.cube_view.specs.declared.schema.Schema.{Schema}
use Rattle.feed_queue.specs.declared.item.Item.{Item}
use Rattle.feed_queue.specs.declared.item.Item.TheVariants.{One, End}
use Rattle.mailbox.specs.Ends.{InEnd}
use Rattle.published_pair.specs.declared.told.Told.{Told}
use Rattle.run_law.specs.Moves.{publishes}
use Rattle.run_law.specs.Steps.{AreRunSteps}
use Rattle.run_law.specs.Views.{RunView, SessionView}
use Rattle.run_law.specs.declared.step.Step.{Step}
use Rattle.run_law.specs.declared.step.Step.TheVariants as step

-- session k has this mailbox
abbrev pub HasMail : RunView → ℕ → InEnd → Type 0
HasMail run k mail = (session : SessionView) × (slice_get run.sessions k ≡ Some session) × (session.put ≡ mail)

-- A run shows the work of its builder
pub record ShowsWork (run : RunView) (work : BuilderWorkState) : Type 0 where
  -- the end that draws is the work's
  pub draws : run.draws ≡ work.draws
  -- and the builder
  pub builder : run.builder ≡ work.builder
  -- its mailboxes are those of the sessions, from 0 on
  pub mails : (k : ℕ) (mail : InEnd) → slice_get work.mails k ≡ Some mail → HasMail run k mail

-- the step that draws the item
abbrev pub draw_step : Item → Step
draw_step (One e) = step.DrawEntry
draw_step (End f n) = step.DrawEnd

-- the step that takes it, which publishes or not
abbrev pub take_step : Bool → Step
take_step true = step.Publish
take_step false = step.Keep

-- the steps that tell the sessions with these mailboxes, from k on
abbrev pub tell_steps : ℕ → List InEnd → List Step
tell_steps k [] = []
tell_steps k (mail ∷ mails) = step.Tell k ∷ step.PutMail k ∷ tell_steps (k + 1) mails

-- the steps that tell what the builder's answer asks for
abbrev pub answer_steps : {E : Type 0} → Result Taken E → List InEnd → List Step
answer_steps (Ok Kept) mails = []
answer_steps (Ok (Published n)) mails = tell_steps 0 mails
answer_steps (Ok (LastEnd n)) mails = tell_steps 0 mails
answer_steps (Err e) mails = []

-- the steps of a work that draws the item and gets this answer
abbrev pub work_steps : {E : Type 0} → BuilderWorkState → Item → Result Taken E → List Step
work_steps work item answer = draw_step item ∷ take_step (publishes work.builder item answer) ∷ answer_steps answer work.mails

-- one step of the builder's work, which takes the front of the queue and tells what its builder tells, is a run of
-- these steps
abbrev pub WorkIsSteps : Type 0
WorkIsSteps = (schema : Schema) (room : ℕ) (a : RunView) (before after : BuilderWorkState) → ShowsWork a before → DrawsFor before.draws before.builder
    → (s : work.IsStep before after) (rest : List Item) → a.queue ≡ s.takes.item ∷ rest → (told : Told) → told.front ≡ s.next.builder.published
    → (b : RunView) × AreRunSteps schema room a (work_steps before s.takes.item s.answer) b × ShowsWork b after
