-- Which verbs this crate answers.
use Rattle.std.specs.Prelude.{Bool, true, false}
use Rattle.query_syntax.specs.declared.query.Verb.{Verb}
use Rattle.query_syntax.specs.declared.query.Verb.TheVariants.{Count, Hist, Map, Series, Window, Cross, Best, Stat, Told, Quit}

-- the verb asks for a cross table
abbrev pub is_cross : Verb → Bool
is_cross Count = false
is_cross (Hist k) = false
is_cross (Map down) = false
is_cross (Series from wide rows) = false
is_cross (Window rect) = false
is_cross (Cross k l) = true
is_cross (Best down rows) = false
is_cross Stat = false
is_cross Told = false
is_cross Quit = false

-- the verb asks for the best tiles
abbrev pub is_best : Verb → Bool
is_best Count = false
is_best (Hist k) = false
is_best (Map down) = false
is_best (Series from wide rows) = false
is_best (Window rect) = false
is_best (Cross k l) = false
is_best (Best down rows) = true
is_best Stat = false
is_best Told = false
is_best Quit = false
