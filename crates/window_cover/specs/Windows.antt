-- The rectangle that a query asks about.
use Rattle.query_syntax.specs.declared.query.Verb.{Verb}
use Rattle.query_syntax.specs.declared.query.Verb.TheVariants.{Count, Hist, Map, Series, Window, Cross, Best, Stat, Told, Quit}
use Rattle.query_syntax.specs.declared.rect.Rect.{Rect}

-- no finest tiles
abbrev pub no_rect : Rect
no_rect = record { x0 = 0; y0 = 0; x1 = 0; y1 = 0 }

-- the rectangle of a window; another verb has none
abbrev pub rect_of_verb : Verb → Rect
rect_of_verb Count = no_rect
rect_of_verb (Hist k) = no_rect
rect_of_verb (Map down) = no_rect
rect_of_verb (Series from wide rows) = no_rect
rect_of_verb (Window rect) = rect
rect_of_verb (Cross k l) = no_rect
rect_of_verb (Best down rows) = no_rect
rect_of_verb Stat = no_rect
rect_of_verb Told = no_rect
rect_of_verb Quit = no_rect
