-- What the final script asks: four tables.
use Rattle.std.proofs.Common.{◌≡◌, Bool, true, false, ap, refl}
use Rattle.std.specs.List.{list_all}
use Rattle.std.specs.Str.{chars, is_utf8}
use Rattle.texts.specs.Decimals.{decimal_value}
use Rattle.query_syntax.specs.Filters.{filters_at}
use Rattle.query_syntax.specs.Items.{category_number}
use Rattle.query_syntax.specs.Meaning.{meaning, query_after_verb, query_of}
use Rattle.query_syntax.specs.Reading.{number_at, number_of}
use Rattle.query_syntax.specs.Tables.{has_table}
use Rattle.query_syntax.specs.Verbs.{category_at, hist_at, map_at, series_at, verb_at}
use Rattle.query_syntax.specs.Words.{cut_pieces, words}
use Rattle.query_syntax.specs.declared.query.Parsed.{Parsed}
use Rattle.query_syntax.specs.declared.query.Parsed.TheVariants.{Skip, Ask, Fault}
use Rattle.big_run.specs.Laws.{AsksFour}
use Rattle.big_run.specs.Text.{final_asked}

-- the line asks for a table
abbrev pub asks_table : Parsed → Bool
asks_table Skip = false
asks_table (Ask q) = has_table q.verb
asks_table (Fault fault word) = false

-- the lines of the final script ask for these tables
pub asks_four : AsksFour
unfolding final_asked meaning query_of query_after_verb verb_at category_at hist_at map_at series_at words cut_pieces category_number number_at number_of decimal_value filters_at is_utf8 chars lib.Utf8.encode
asks_four = refl

-- so each of them asks for one
pub final_asks_tables : list_all asks_table final_asked ≡ true
final_asks_tables = ap (list_all asks_table) asks_four
