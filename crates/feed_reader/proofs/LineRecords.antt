-- From the reads of a line to its one record.
use Rattle.std.proofs.Common.{Bool, ◌≡◌, ◌∙◌, refl, ℕ, true, false, List, [], ◌∷◌, length, get_or, ◌<◌, zero, suc, Option, Some, None, add-one, arith}
use Rattle.csv.specs.Machine.{Read, ends_with, next_record}
use Rattle.csv.specs.Reading.{NextIs, ReadRecord, ReadsNext, default_config, pending_of, records, records_from, source_of, strip_bom}
use Rattle.csv.specs.Records.{field_at}
use Rattle.csv.specs.declared.parser.State.{State}
use Rattle.csv.specs.declared.parser.State.TheVariants as st
use Rattle.csv.specs.declared.parser.Terminator.TheVariants as term
use Rattle.csv.specs.declared.reader.Reader.{Reader}
use Rattle.std.proofs.lemmas.Bool.{not-true}
use Rattle.feed_reader.specs.Records.{IsReaderOf, begins_with_mark, only, record_of}
use Rattle.feed_reader.specs.Regular.{ReadsField, ReadsToLast, begins_record}
use Rattle.feed_reader.specs.declared.regular.After.{After}
use Rattle.feed_reader.specs.declared.regular.After.TheVariants as after

-- the field at a place within the record
pub field_at_is : (fields : List (List ℕ)) (i : ℕ) → i < length fields → field_at fields i ≡ Some (get_or fields i [])
unfolding field_at
field_at_is [] i h = absurd (omega arith)
field_at_is (f ∷ fields) zero h = refl
field_at_is (f ∷ fields) (suc i) h = field_at_is fields i (omega arith)

next_found : (o : Option Read) (fields : List (List ℕ)) (s : State) (rest : List ℕ) → NextIs o true fields s rest → o ≡ Some (fields, s, rest)
next_found None fields s rest h = absurd (cc h)
next_found (Some p) fields s rest h = rw (h.1, h.2, h.3) refl

next_none : (o : Option Read) (fields : List (List ℕ)) (s : State) (rest : List ℕ) → NextIs o false fields s rest → o ≡ None
next_none None fields s rest h = refl
next_none (Some p) fields s rest h = absurd (cc h.0)

reads_found : (s s2 : State) (xs : List ℕ) (after : Option (List ℕ)) (fields : List (List ℕ)) → ReadsNext default_config s (Some xs) after true fields s2
    → (ys : List ℕ) × (after ≡ Some ys) × (next_record default_config s [] [] xs ≡ Some (fields, s2, ys))
reads_found s s2 xs None fields h = absurd h
reads_found s s2 xs (Some ys) fields h = (ys, refl, next_found (next_record default_config s [] [] xs) fields s2 ys h)

reads_none : (s s2 : State) (xs : List ℕ) (after : Option (List ℕ)) (fields : List (List ℕ)) → ReadsNext default_config s (Some xs) after false fields s2 → next_record default_config s [] [] xs ≡ None
reads_none s s2 xs None fields h = absurd h
reads_none s s2 xs (Some ys) fields h = next_none (next_record default_config s [] [] xs) fields s2 ys h

-- a line from which nothing is read has no record
none_read : (line : List ℕ) → next_record default_config st.StartRecord [] [] line ≡ None → only (records default_config line) ≡ None
unfolding records_from
none_read line h = rw (add-one, h) refl

-- one after which nothing is read has one
one_read : (line : List ℕ) (p : Read) → next_record default_config st.StartRecord [] [] line ≡ Some p → next_record default_config p.1 [] [] p.2 ≡ None → only (records default_config line) ≡ Some p.0
unfolding records_from next_record
one_read [] p h more = absurd (cc h)
one_read (b ∷ line) p h more = rw (add-one, h, more) refl

-- and one after which another is read has not one
two_read : (line : List ℕ) (p q : Read) → next_record default_config st.StartRecord [] [] line ≡ Some p → next_record default_config p.1 [] [] p.2 ≡ Some q → only (records default_config line) ≡ None
unfolding records_from next_record
two_read [] p q h more = absurd (cc h)
two_read (b ∷ line) p q h more = rw (add-one, h, more) refl

-- a mark is all that `csv` passes over
strip_bom_is : (line : List ℕ) → begins_with_mark line ≡ false → strip_bom line ≡ line
unfolding strip_bom
strip_bom_is [] h = refl
strip_bom_is (a ∷ []) h = refl
strip_bom_is (a ∷ b ∷ []) h = refl
strip_bom_is (a ∷ b ∷ c ∷ rest) h = rw h refl

unmarked : (line : List ℕ) → begins_with_mark line ≡ false → record_of line ≡ only (records default_config line)
unmarked line h = rw h refl

-- what the next read begins with
source_after : {R : Type 0} (remaining : R → Option (List ℕ)) (reader : Reader R) → reader.bom_checked ≡ true → source_of remaining reader ≡ pending_of (remaining reader.rdr) reader
source_after remaining reader h = rw h refl

pub first_none : {R : Type 0} (remaining : R → Option (List ℕ)) (a b : Reader R) (line : List ℕ) (fields : List (List ℕ)) → IsReaderOf remaining a line → begins_with_mark line ≡ false
    → ReadRecord remaining a b false fields → record_of line ≡ None
first_none remaining a b line fields start mark read =
    let reads = rw (start.config, start.state, start.source, strip_bom_is line mark) at read.0 in
    unmarked line mark ∙ none_read line (reads_none _ _ _ _ _ reads)

-- two reads of a reader of one line: the first finds a record, the second another one or none
pub record ReadsTwice {R : Type 0} (remaining : R → Option (List ℕ)) (a b d : Reader R) (line : List ℕ) (fields more : List (List ℕ)) (found : Bool) : Type 0 where
  -- the line is all that the reader is over
  pub start : IsReaderOf remaining a line
  -- no byte order mark stands in front of it
  pub mark : begins_with_mark line ≡ false
  pub read : ReadRecord remaining a b true fields
  pub next : ReadRecord remaining b d found more

pub second_none : {R : Type 0} (remaining : R → Option (List ℕ)) (a b d : Reader R) (line : List ℕ) (fields more : List (List ℕ)) → ReadsTwice remaining a b d line fields more false → record_of line ≡ Some fields
second_none remaining a b d line fields more two =
    let reads = rw (two.start.config, two.start.state, two.start.source, strip_bom_is line two.mark) at two.read.0 in
    let first = reads_found st.StartRecord b.state line (pending_of (remaining b.rdr) b) fields reads in
    let then = rw (two.read.2, two.start.config, source_after remaining b two.read.1, first.1) at two.next.0 in
    unmarked line two.mark ∙ one_read line (fields, b.state, first.0) first.2 (reads_none _ _ _ _ _ then)

pub second_found : {R : Type 0} (remaining : R → Option (List ℕ)) (a b d : Reader R) (line : List ℕ) (fields more : List (List ℕ)) → ReadsTwice remaining a b d line fields more true → record_of line ≡ None
second_found remaining a b d line fields more two =
    let reads = rw (two.start.config, two.start.state, two.start.source, strip_bom_is line two.mark) at two.read.0 in
    let first = reads_found st.StartRecord b.state line (pending_of (remaining b.rdr) b) fields reads in
    let then = rw (two.read.2, two.start.config, source_after remaining b two.read.1, first.1) at two.next.0 in
    let second = reads_found b.state d.state first.0 (pending_of (remaining d.rdr) d) more then in
    unmarked line two.mark ∙ two_read line (fields, b.state, first.0) (more, d.state, second.0) first.2 second.2

-- a line that begins a record is read from the start of a field
field_begins : (line : List ℕ) → begins_record line ≡ true → next_record default_config st.StartRecord [] [] line ≡ next_record default_config st.StartField [] [] line
unfolding next_record
field_begins [] h = absurd (cc h)
field_begins (b ∷ line) h = rw (not-true (ends_with term.CRLF b) h) refl

nothing_more : next_record default_config st.StartRecord [] [] [] ≡ None
unfolding next_record
nothing_more = refl

-- so where these fields are read over all of it, they are its one record
pub whole_record : (line : List ℕ) (fields : List (List ℕ)) → begins_record line ≡ true → next_record default_config st.StartField [] [] line ≡ Some (fields, st.StartRecord, []) → only (records default_config line) ≡ Some fields
whole_record line fields begins read = one_read line (fields, st.StartRecord, []) (field_begins line begins ∙ read) nothing_more

-- a field after which the line ends is its last
pub reads_last : (bytes field : List ℕ) (next : After) → next ≡ after.End → ReadsField bytes field next → ReadsToLast bytes field
reads_last bytes field (after.Field rest) h reads = absurd (cc h)
reads_last bytes field after.End h reads = reads
