-- The rule of a mailbox: what its place holds, and what each pass knows, at every moment.
use Rattle.std.specs.Prelude.{◌≡◌, ◌⊎◌, List, [], ◌∷◌, ◌++◌}
use mathlib.Core.List.{Sublist}
use Rattle.logbook.specs.Pages.{Book}
use Rattle.published_pair.specs.Rules.{Known}
use Rattle.published_pair.specs.declared.told.Told.{Told}
use Rattle.mailbox.specs.declared.place.Letter.{Letter}
use Rattle.mailbox.specs.declared.place.Letter.TheVariants.{Opens, Brings}
use Rattle.mailbox.specs.declared.place.Putting.{Putting}
use Rattle.mailbox.specs.declared.place.Taking.{Taking}
use Rattle.mailbox.specs.declared.place.View.{View}
use Rattle.mailbox.specs.declared.place.View.TheVariants.{Fresh, Opening, Whole, Puts, Replaces, Takes}

-- what a putting end of that pair knows that has put these
abbrev pub putting : Known → List Told → Putting
putting pair put = record { pair = pair; put = put }

-- what a taking end of that pair knows that has taken these
abbrev pub taking : Known → List Told → Taking
taking pair taken = record { pair = pair; taken = taken }

-- Of what was put into a mailbox of the pair, this is the last
pub record IsLastPut (pair : Book) (put : List Told) (told : Told) : Type 0 where
  -- it is of the pair
  pub of : told.front.book ≡ pair
  -- what was put before
  pub before : List Told
  -- nothing was put after it
  pub last : put ≡ before ++ told ∷ []

-- It was the last of all that had been put at some moment, and what was taken until then had been put before it
pub record WasPutLast (pair : Book) (taken : List Told) (told : Told) : Type 0 where
  -- what had been put
  pub put : List Told
  -- it was the last
  pub last : IsLastPut pair put told
  -- what was taken is a part of what was put before, in order
  pub before : Sublist taken last.before

-- The place holds the last that was put
pub record HoldsLast (pair : Book) (put taken : List Told) (letters : List Letter) : Type 0 where
  -- what it holds
  pub told : Told
  -- it is all that the place holds
  pub letters_are : letters ≡ Brings told ∷ []
  -- it was put last, and is not taken: what was taken was put before it
  pub last : IsLastPut pair put told
  pub before : Sublist taken last.before

-- The last that was put was the last that was taken
pub record TookLast (put taken : List Told) : Type 0 where
  -- the last of both
  pub told : Told
  -- what was put and what was taken before
  pub put_before : List Told
  pub taken_before : List Told
  -- nothing was put or taken after it
  pub put_is : put ≡ put_before ++ told ∷ []
  pub taken_is : taken ≡ taken_before ++ told ∷ []
  -- what was taken before is a part of what was put before, in order
  pub before : Sublist taken_before put_before

-- nothing was put or taken, or the last that was put was the last that was taken
abbrev pub IsLastTaken : List Told → List Told → Type 0
IsLastTaken put taken = ((put ≡ []) × (taken ≡ [])) ⊎ TookLast put taken

-- what the place holds, by what both ends know: the last that was put, until it is taken or replaced by the putting end
abbrev pub FitsPlace : View → Taking → List Letter → Type 0
FitsPlace (Puts w) t letters = (w.pair ≡ t.pair) × (HoldsLast w.pair.book w.put t.taken letters ⊎ ((letters ≡ []) × IsLastTaken w.put t.taken))
FitsPlace (Replaces w) t letters = (w.pair ≡ t.pair) × (letters ≡ []) × Sublist t.taken w.put
FitsPlace Fresh t letters = ⊥
FitsPlace (Opening pair) t letters = ⊥
FitsPlace (Whole pair) t letters = ⊥
FitsPlace (Takes taker) t letters = ⊥

-- a mailbox that is open
pub record IsMailbox (letters : List Letter) (views : List View) : Type 0 where
  -- what the putting end knows
  pub putter : View
  -- what the taking end knows
  pub taker : Taking
  -- there is one end of each kind
  pub views_are : views ≡ putter ∷ Takes taker ∷ []
  -- the place holds what they know of it
  pub place : FitsPlace putter taker letters

-- a place just made: it is empty, and has one pass
pub record IsNewPlace (letters : List Letter) (views : List View) : Type 0 where
  -- it holds nothing
  pub letters_are : letters ≡ []
  -- its pass knows nothing
  pub views_are : views ≡ Fresh ∷ []

-- a mailbox while it is opened: its one pass has put the pair's name in
pub record IsBeingNamed (letters : List Letter) (views : List View) : Type 0 where
  -- the name, as a told list of the pair
  pub name : Told
  -- it is all that the place holds
  pub letters_are : letters ≡ Opens name ∷ []
  -- and its pass knows the pair
  pub views_are : views ≡ Opening name.front ∷ []

-- a mailbox while it is opened: the pair's name is out again, and its one pass is not yet two
pub record IsNamed (letters : List Letter) (views : List View) : Type 0 where
  -- the pair
  pub pair : Known
  -- the place holds nothing
  pub letters_are : letters ≡ []
  -- its pass knows the pair
  pub views_are : views ≡ Whole pair ∷ []

-- what holds between any two steps of a mailbox
abbrev pub KeepsMail : List Letter → List View → Type 0
KeepsMail letters views = IsNewPlace letters views ⊎ (IsBeingNamed letters views ⊎ (IsNamed letters views ⊎ IsMailbox letters views))
