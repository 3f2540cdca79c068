-- What is asked of which the replies add up.
use Rattle.std.specs.Prelude.{Bool, true, false}
use Rattle.query_syntax.specs.declared.query.Parsed.{Parsed}
use Rattle.query_syntax.specs.declared.query.Parsed.TheVariants.{Skip, Ask, Fault}
use Rattle.query_syntax.specs.declared.query.Verb.{Verb}
use Rattle.query_syntax.specs.declared.query.Verb.TheVariants as verb

-- the replies to a query of the verb add up: neither the best tiles do from their rows, nor a structure's numbers
abbrev pub verb_adds_up : Verb → Bool
verb_adds_up verb.Count = true
verb_adds_up (verb.Hist k) = true
verb_adds_up (verb.Map down) = true
verb_adds_up (verb.Series from wide rows) = true
verb_adds_up (verb.Window rect) = true
verb_adds_up (verb.Cross k l) = true
verb_adds_up (verb.Best down rows) = false
verb_adds_up verb.Stat = false
verb_adds_up verb.Told = true
verb_adds_up verb.Quit = false

-- the replies to what was asked add up; a fault's are all the same
abbrev pub adds_up : Parsed → Bool
adds_up Skip = false
adds_up (Ask q) = verb_adds_up q.verb
adds_up (Fault fault word) = true
