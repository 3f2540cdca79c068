use Rattle.std.proofs.Common.{◌≡◌, ◌≤◌, ◌+◌, ◌-◌, ◌*◌, length}
use Rattle.query_syntax.specs.Filters.{words_read, no_filters, filters_used}
use Rattle.query_syntax.specs.Filters.Wanted.{Name}
use Rattle.query_syntax.specs.Meaning.{FiltersFit}
use Rattle.query_syntax.specs.Words.{words}
use Rattle.query_syntax.proofs.filters.read_filters.Given as goal

abbrev pub invariant-loop-word : goal.invariant-loop-word
invariant-loop-word l =
    record {
      reads : words_read l.schema l.verb Name l.filters l.number (words l.rest) ≡ words_read l.schema l.verb Name no_filters l.fn.first (words l.line);
      number : l.number ≤ 6 + 3 * filters_used l.filters;
      fits : FiltersFit l.schema l.verb l.filters;
      places : length l.filters.sets ≡ 4;
    }

abbrev pub decreases-loop-word : goal.decreases-loop-word
decreases-loop-word l = 7 - filters_used l.filters
