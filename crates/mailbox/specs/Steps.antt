-- What each step of a mailbox does to the view of the pass that takes it.
use Rattle.std.specs.Prelude.{◌≡◌, [], ◌∷◌, ◌++◌}
use Rattle.published_pair.specs.declared.told.Told.{Told}
use Rattle.mailbox.specs.declared.place.Letter.{Letter}
use Rattle.mailbox.specs.declared.place.Letter.TheVariants.{Opens, Brings}
use Rattle.mailbox.specs.declared.place.Taking.{Taking}
use Rattle.mailbox.specs.declared.place.View.{View}
use Rattle.mailbox.specs.declared.place.View.TheVariants.{Fresh, Opening, Whole, Puts, Replaces, Takes}
use Rattle.mailbox.specs.Rule.{putting, taking, WasPutLast}

-- the first pass's view once it has put this in: the pair, where it is its name
abbrev pub naming_view : Letter → View
naming_view (Opens told) = Opening told.front
naming_view (Brings told) = Fresh

-- the first pass's view once the pair's name is out again
abbrev pub named_view : View → View
named_view (Opening pair) = Whole pair
named_view v = v

-- the view of the end that puts, once the ends are parted
abbrev pub putter_view : View → View
putter_view (Whole pair) = Puts (putting pair [])
putter_view v = v

-- the view of the end that takes
abbrev pub taker_view : View → View
taker_view (Whole pair) = Takes (taking pair [])
taker_view v = v

-- the putting end's view once it has removed what the place held, to put one more
abbrev pub removed_view : View → View
removed_view (Puts w) = Replaces w
removed_view v = v

-- the putting end's view once it has put one more
abbrev pub after_told : View → Told → View
after_told (Puts w) told = Puts (putting w.pair (w.put ++ told ∷ []))
after_told (Replaces w) told = Puts (putting w.pair (w.put ++ told ∷ []))
after_told v told = v

-- the same, by what the place takes in
abbrev pub after_letter : View → Letter → View
after_letter v (Opens told) = v
after_letter v (Brings told) = after_told v told

-- What comes out of the place, and the view after it, are those of a take
pub record Took (t : Taking) (told : Told) (next : View) : Type 0 where
  -- what came out is noted as the last that was taken
  pub after : next ≡ Takes (taking t.pair (t.taken ++ told ∷ []))
  -- it was put last
  pub last : WasPutLast t.pair.book t.taken told

-- the view before, what comes out, and the view after are those of a take
abbrev pub IsTake : View → Letter → View → Type 0
IsTake (Takes t) (Brings told) after = Took t told after
IsTake v letter after = ⊥
