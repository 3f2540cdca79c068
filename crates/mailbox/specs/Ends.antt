-- The ends of a mailbox as contracts see them.
use Rattle.std.specs.Prelude.{◌≡◌, ℕ, List, [], ◌∷◌, ◌++◌, length, map, Option, Some, None}
use Rattle.atomic_table.specs.Seated.{TableId}
use Rattle.crossbeam_queue.specs.Passes.{Pass, view}
use Rattle.logbook.specs.Pages.{Book}
use Rattle.published_pair.specs.Rules.{Known}
use Rattle.published_pair.specs.declared.told.Told.{Told}
use Rattle.mailbox.specs.Rule.{putting, taking}
use Rattle.mailbox.specs.declared.place.Letter.{Letter}
use Rattle.mailbox.specs.declared.place.View.{View}
use Rattle.mailbox.specs.declared.place.View.TheVariants.{Puts, Takes}

-- the end that puts
pub record InEnd : Type 0 where
  -- the mailbox's own name
  pub mailbox : TableId
  -- the pair's
  pub pair : Book
  -- the lengths that were put, in order
  pub lengths : List ℕ

-- the end that takes
pub record OutEnd : Type 0 where
  -- the mailbox's own name
  pub mailbox : TableId
  -- the pair's
  pub pair : Book
  -- how often it was asked
  pub takes : ℕ
  -- what was taken, in order
  pub taken : List Told

-- a putting end of that mailbox and pair, which has put these lengths
abbrev pub mail_in : TableId → Book → List ℕ → InEnd
mail_in mailbox pair lengths = record { mailbox = mailbox; pair = pair; lengths = lengths }

-- a taking end of that mailbox and pair, which was asked so often and has taken these
abbrev pub mail_out : TableId → Book → ℕ → List Told → OutEnd
mail_out mailbox pair takes taken = record { mailbox = mailbox; pair = pair; takes = takes; taken = taken }

-- what was taken, with the answer of one take more
abbrev pub and_taken : List Told → Option Told → List Told
and_taken taken None = taken
and_taken taken (Some told) = taken ++ told ∷ []

-- what a putting end has put, by what its pass knows
abbrev pub put_by : View → List Told
put_by (Puts w) = w.put
put_by v = []

-- what a taking end has taken, by what its pass knows
abbrev pub taken_by : View → List Told
taken_by (Takes t) = t.taken
taken_by v = []

-- how long the lists are that were told
abbrev pub lengths_of : List Told → List ℕ
lengths_of put = map (λ (told : Told). length told.front.points) put

-- the putting end of a pass, by the pair's name
abbrev pub in_of : Pass Letter View → Book → InEnd
in_of pass pair = mail_in pass.table_id pair (lengths_of (put_by (view pass)))

-- the taking end of a pass, by the pair's name and how often it was asked
abbrev pub out_of : Pass Letter View → Book → ℕ → OutEnd
out_of pass pair takes = mail_out pass.table_id pair takes (taken_by (view pass))

-- the pass is that of the putting end of the pair, which is not replacing what the place holds
abbrev pub KnowsPut : Pass Letter View → Known → Type 0
KnowsPut pass pair = view pass ≡ Puts (putting pair (put_by (view pass)))

-- the pass is that of the taking end of the pair
abbrev pub KnowsTaken : Pass Letter View → Known → Type 0
KnowsTaken pass pair = view pass ≡ Takes (taking pair (taken_by (view pass)))
