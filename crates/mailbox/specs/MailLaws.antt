-- What a mailbox's place holds by its rule, by what both ends know, as a statement: so what is taken was put last.
use Rattle.std.specs.Prelude.{◌≡◌, ℕ, List, [], ◌∷◌}
use mathlib.Core.List.{Sublist}
use mathlib.Core.Option.{some}
use lib.ListN.{get_elem?}
use Rattle.mailbox.specs.Rule.{IsLastPut, IsLastTaken, KeepsMail}
use Rattle.mailbox.specs.declared.place.Letter.{Letter}
use Rattle.mailbox.specs.declared.place.Letter.TheVariants.{Brings}
use Rattle.mailbox.specs.declared.place.Putting.{Putting}
use Rattle.mailbox.specs.declared.place.Taking.{Taking}
use Rattle.mailbox.specs.declared.place.View.{View}
use Rattle.mailbox.specs.declared.place.View.TheVariants.{Puts, Takes}
use Rattle.published_pair.specs.declared.told.Told.{Told}

-- The letter brings the last that the putting end has put, which the taking end has not taken
pub record BringsLast (w : Putting) (t : Taking) (letter : Letter) : Type 0 where
  -- what it brings
  pub told : Told
  pub brings : letter ≡ Brings told
  -- of all that was put it is the last
  pub last : IsLastPut w.pair.book w.put told
  -- what was taken is a part of what was put before it, in order
  pub before : Sublist t.taken last.before

-- What the place holds, where one end has put all this and the other has taken all that
pub record KnowsPlace (w : Putting) (t : Taking) (letters : List Letter) : Type 0 where
  -- what comes out next is the last that was put
  pub next : (letter : Letter) (rest : List Letter) → letters ≡ letter ∷ rest → BringsLast w t letter
  -- where nothing is there, nothing was put, or the last that was put was the last that was taken
  pub none : letters ≡ [] → IsLastTaken w.put t.taken
  -- both ends are of one pair
  pub pair : w.pair ≡ t.pair

-- whatever the threads did, between any two steps the place holds what both ends know of it
abbrev pub HoldsLastPut : Type 0
HoldsLastPut = (letters : List Letter) (views : List View) (in_seat out_seat : ℕ) (w : Putting) (t : Taking) → KeepsMail letters views
    → get_elem? views in_seat ≡ some (Puts w) → get_elem? views out_seat ≡ some (Takes t) → KnowsPlace w t letters
