-- What the builder's whole work does is steps, with steps of other ends anywhere between its own.
use Rattle.std.specs.Prelude.{◌≡◌, ℕ, zero, suc, List, [], ◌∷◌, length, Some, slice_get, Result, Ok, Err, ⊤}
use Rattle.builder_core.specs.Built.{IsBuilt}
use Rattle.builder_core.specs.Steps as work
use Rattle.builder_core.specs.Telling.{having_put}
use Rattle.builder_core.specs.Work.{BuilderWorkState, DrawsFor}
use Rattle.builder_core.specs.declared.taken.Taken.{Taken}
use Rattle.builder_core.specs.declared.taken.Taken.TheVariants.{Kept, Published, LastEnd}
use Rattle.cube_view.specs.declared.schema.Schema.{Schema}
use Rattle.feed_queue.specs.Ends.{having_drawn}
use Rattle.feed_queue.specs.declared.item.Item.{Item}
use Rattle.mailbox.specs.Ends.{InEnd}
use Rattle.published_pair.specs.declared.told.Told.{Told}
use Rattle.run_law.specs.Moves.{publishes}
use Rattle.run_law.specs.Turns.{LeadTo}
use Rattle.run_law.specs.Views.{RunView}
use Rattle.run_law.specs.Works.{ShowsWork, draw_step, take_step}
use Rattle.run_law.specs.declared.step.Step.TheVariants as step

-- the work once the item is drawn, and not yet taken
abbrev pub with_drawn : BuilderWorkState → Item → BuilderWorkState
with_drawn w i = record w { draws = having_drawn w.draws i }

-- the mailboxes once the length was put into the first k of them
abbrev pub put_first : ℕ → ℕ → List InEnd → List InEnd
put_first n zero mails = mails
put_first n (suc k) [] = []
put_first n (suc k) (mail ∷ mails) = having_put n mail ∷ put_first n k mails

-- the work once its first k sessions were told
abbrev pub with_told : ℕ → BuilderWorkState → BuilderWorkState
with_told k w = record w { mails = put_first (length w.builder.published.points) k w.mails }

-- of a run of that schema, in whose queue there is so much room
module _ (schema : Schema) (room : ℕ) where
  -- each session in turn is told, and that put into its mailbox, from whatever run shows the work then
  abbrev pub TellsEach : BuilderWorkState → Type 0
  TellsEach w = (k : ℕ) (mail : InEnd) (told : Told) (a : RunView) → slice_get w.mails k ≡ Some mail → told.front ≡ w.builder.published → ShowsWork a (with_told k w)
      → LeadTo schema room a (step.Tell k ∷ step.PutMail k ∷ []) (λ b. ShowsWork b (with_told (suc k) w))

  -- all sessions are told where the answer asks for it, and else none
  abbrev pub TellsOf : {E : Type 0} → Result Taken E → BuilderWorkState → BuilderWorkState → Type 0
  TellsOf (Ok Kept) next after = after ≡ next
  TellsOf (Ok (Published n)) next after = TellsEach next × (after ≡ with_told (length next.mails) next)
  TellsOf (Ok (LastEnd n)) next after = TellsEach next × (after ≡ with_told (length next.mails) next)
  TellsOf (Err e) next after = after ≡ next

  -- One step of the work is these steps, each from whatever run shows the work then
  pub record MakesSteps (before after : BuilderWorkState) (s : work.IsStep before after) : Type 0 where
    -- it draws the front of the queue
    pub draws : (a : RunView) (rest : List Item) → ShowsWork a before → a.queue ≡ s.takes.item ∷ rest
        → LeadTo schema room a (draw_step s.takes.item ∷ []) (λ b. ShowsWork b (with_drawn before s.takes.item))
    -- takes it, and publishes or not
    pub takes : (a : RunView) → ShowsWork a (with_drawn before s.takes.item)
        → LeadTo schema room a (take_step (publishes before.builder s.takes.item s.answer) ∷ []) (λ b. ShowsWork b s.next)
    -- and tells
    pub tells : TellsOf s.answer s.next after

  -- each of these steps of the work is such steps
  abbrev pub MakeSteps : (before : BuilderWorkState) (works : List BuilderWorkState) (after : BuilderWorkState) → work.AreSteps before works after → Type 0
  MakeSteps before [] after are = ⊤
  MakeSteps before (next ∷ works) after are = MakesSteps before next are.0 × MakeSteps next works after are.1

-- the whole of what `BuilderWork::run` ensures is such steps: others may stand anywhere between two of them
abbrev pub WholeWorkIsSteps : Type 0
WholeWorkIsSteps = (schema : Schema) (room : ℕ) (before after : BuilderWorkState) → DrawsFor before.draws before.builder → (built : IsBuilt before after)
    → MakeSteps schema room before built.steps.works after built.steps.each
