-- A text that is put a buffer at a time.
use Rattle.std.proofs.Common.{◌≡◌, ℕ, ◌+◌, ◌<◌, ◌≤◌, List, [], ◌++◌, take, drop, get_or, length, Option, Result, Ok, Err, refl, sym, ◌∙◌, ap, subst, append_assoc, append-nil, arith, OnOk, OnErr}
use Rattle.std.proofs.lemmas.Grind.{flat_map-append}
use Rattle.std.proofs.lemmas.List.{flat_map_more, nil_from_length, take-append-drop, take_all, take_more}
use Rattle.cube_view.specs.declared.schema.Schema.{Schema}
use Rattle.feed_queue.specs.Journal.{entry_line, journal_text}
use Rattle.outer_io.proofs.GainedLaws.{gains_none, gains_on, part_on, part_whole}
use Rattle.outer_io.specs.Bytes.{Gains, GainsPart}
use Rattle.outer_io.specs.Faults.{HasCause}
use Rattle.outer_io.specs.declared.fault.IoFault.{IoFault}
use Rattle.outer_io.specs.declared.fault.IoFault.TheVariants as fault
use Rattle.world_core.specs.declared.entry.Entry.{Entry}
use Rattle.plan_run.specs.Journals.{Moves, PutsJournal}

-- the journal of the first entries, and of the others
pub journal_parts : (schema : Schema) (entries : List Entry) (i : ℕ) → journal_text schema (take i entries) ++ journal_text schema (drop i entries) ≡ journal_text schema entries
journal_parts schema entries i = sym (flat_map-append (entry_line schema) (take i entries) (drop i entries)) ∙ ap (journal_text schema) (take-append-drop i entries)

-- the journal of the first entries, and of one more
journal_more : (schema : Schema) (entries : List Entry) (i : ℕ) (d : Entry) → i < length entries → journal_text schema (take i entries) ++ entry_line schema (get_or entries i d) ≡ journal_text schema (take (i + 1) entries)
journal_more schema entries i d below = flat_map_more (entry_line schema) [] (take i entries) (get_or entries i d) ∙ ap (journal_text schema) (sym (take_more entries i d below))

-- of as many entries as there are it is the journal
pub journal_whole : (schema : Schema) (entries : List Entry) (i : ℕ) → length entries ≤ i → journal_text schema (take i entries) ≡ journal_text schema entries
journal_whole schema entries i all = ap (journal_text schema) (take_all i entries all)

module _ {O : Type 0} (held : O → Option (List ℕ)) (faults : O → ℕ) (named : O → List ℕ) (start : O) where
  -- a sink that was as at first, and a buffer, have this text together
  pub record Has (now : O) (buffer whole : List ℕ) : Type 0 where
    pub text : List ℕ
    pub gained : Gains (held start) (held now) text
    pub joined : text ++ buffer ≡ whole

  pub has_none : Has start [] []
  has_none = record { text = []; gained = gains_none (held start); joined = refl }

  module _ (now after : O) (buffer whole : List ℕ) (h : Has now buffer whole) where
    -- with a line more in the buffer
    pub has_line : (line : List ℕ) → Has now (buffer ++ line) (whole ++ line)
    has_line line = record { text = h.text; gained = h.gained; joined = sym (append_assoc h.text buffer line) ∙ ap (λ t. t ++ line) h.joined }

    -- once bytes went from the buffer to the sink
    pub has_moved : (left : List ℕ) → Moves held faults named now after buffer left → Has after left whole
    has_moved left m = record {
      text = h.text ++ m.bytes;
      gained = gains_on (held start) (held now) (held after) h.text m.bytes h.gained m.gained;
      joined = append_assoc h.text m.bytes left ∙ ap (λ t. h.text ++ t) (sym m.front) ∙ h.joined;
    }

    -- the sink has a part of all
    pub has_part : (rest : List ℕ) → GainsPart (held start) (held now) (whole ++ rest)
    has_part rest =
        subst (λ (t : List ℕ). GainsPart (held start) (held now) t) (sym (append_assoc h.text buffer rest) ∙ ap (λ t. t ++ rest) h.joined) (part_whole (held start) (held now) h.text (buffer ++ rest) h.gained)

    -- also after a part of the buffer
    pub has_part_more : (rest : List ℕ) → GainsPart (held now) (held after) buffer → GainsPart (held start) (held after) (whole ++ rest)
    has_part_more rest p =
        subst (λ (t : List ℕ). GainsPart (held start) (held after) t) (sym (append_assoc h.text buffer rest) ∙ ap (λ t. t ++ rest) h.joined) (part_on (held start) (held now) (held after) h.text buffer rest h.gained p)

  -- with nothing in the buffer the sink has all
  pub has_all : (now : O) (whole : List ℕ) → Has now [] whole → Gains (held start) (held now) whole
  has_all now whole h = subst (λ (t : List ℕ). Gains (held start) (held now) t) (sym (append-nil h.text) ∙ h.joined) h.gained

  -- where there is no memory for a line
  pub no_memory : (now : O) (buffer whole rest all : List ℕ) → whole ++ rest ≡ all → Has now buffer whole → faults now ≡ faults start → named now ≡ named start → PutsJournal held faults named start now all (Err fault.NoMemory)
  no_memory now buffer whole rest all is h quiet name = record {
    whole = tt;
    part = subst (λ (t : List ℕ). GainsPart (held start) (held now) t) is (has_part now now buffer whole h rest);
    cause = record { rose = λ e. cc; quiet = λ _. quiet };
    name = name;
  }

  -- where a put has a fault
  pub put_fault : (now after : O) (buffer whole rest all : List ℕ) (f : IoFault) → whole ++ rest ≡ all → Has now buffer whole → faults now ≡ faults start → named now ≡ named start → GainsPart (held now) (held after) buffer → HasCause (faults now) (faults after) {T = Unit {0}} (Err f) fault.Failed → named after ≡ named now → PutsJournal held faults named start after all (Err f)
  put_fault now after buffer whole rest all f is h quiet name part cause same = record {
    whole = tt;
    part = subst (λ (t : List ℕ). GainsPart (held start) (held after) t) is (has_part_more now after buffer whole h rest part);
    cause = subst (λ n. HasCause n (faults after) {T = Unit {0}} (Err f) fault.Failed) quiet cause;
    name = same ∙ name;
  }

  -- with the line of one entry more in the buffer
  pub has_entry : (now : O) (buffer buffer' : List ℕ) (schema : Schema) (entries : List Entry) (i : ℕ) (d : Entry) → i < length entries → buffer' ≡ buffer ++ entry_line schema (get_or entries i d) → Has now buffer (journal_text schema (take i entries)) → Has now buffer' (journal_text schema (take (i + 1) entries))
  has_entry now buffer buffer' schema entries i d below is h =
      let line = entry_line schema (get_or entries i d) in
      subst (λ (b : List ℕ). Has now b (journal_text schema (take (i + 1) entries))) (sym is)
      (subst (λ (whole : List ℕ). Has now (buffer ++ line) whole) (journal_more schema entries i d below) (has_line now now buffer (journal_text schema (take i entries)) h line))

  -- the last put
  pub at_last : (now after : O) (buffer left all : List ℕ) (r : Result (Unit {0}) IoFault) → Has now buffer all → faults now ≡ faults start → named now ≡ named start
      → OnOk r (Moves held faults named now after buffer left) → OnOk r (length left < 1) → OnErr r (GainsPart (held now) (held after) buffer) → HasCause (faults now) (faults after) r fault.Failed → named after ≡ named now → PutsJournal held faults named start after all r
  at_last now after buffer left all (Ok u) h quiet name moves few part cause same = record {
    whole = has_all after all (subst (λ (l : List ℕ). Has after l all) (nil_from_length left (omega (arith, few))) (has_moved now after buffer all h left moves));
    part = tt;
    cause = subst (λ n. HasCause n (faults after) {T = Unit {0}} (Ok u) fault.Failed) quiet cause;
    name = same ∙ name;
  }
  at_last now after buffer left all (Err f) h quiet name moves few part cause same = put_fault now after buffer all [] all f (append-nil all) h quiet name part cause same
