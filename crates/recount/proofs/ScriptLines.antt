-- What the lines of a script ask, one after another.
use Rattle.std.proofs.Common.{◌≡◌, ℕ, Bool, true, false, not, if◌then◌else◌, IsTrue, List, [], ◌∷◌, ◌++◌, All, Option, Some, None, refl, sym, ap, ◌∙◌, subst, append-nil, append_assoc, arith}
use Rattle.std.specs.Prelude.{IsSomeAnd}
use Rattle.std.proofs.lemmas.Bool.{false≢true}
use Rattle.std.proofs.lemmas.List.Elements.{All-append, All-cons}
use Rattle.cube_view.specs.declared.schema.Schema.{Schema}
use Rattle.outer_io.specs.Cutting.{Cutter, lines_left}
use Rattle.outer_io.specs.Lines.{Line}
use Rattle.outer_io.specs.Progress.{IsGoing, Passes}
use Rattle.outer_io.specs.Told.{Told}
use Rattle.outer_io.proofs.ProgressLaws.{passes_on}
use Rattle.outer_io.proofs.ToldLaws.{Told-each}
use Rattle.query_syntax.specs.Meaning.{asks_valid}
use Rattle.query_syntax.specs.declared.query.Parsed.{Parsed}
use Rattle.query_syntax.specs.declared.query.Parsed.TheVariants as parsed
use Rattle.session_core.specs.Asked.{asked, asked_then, asks_reply, asks_to_end, ends, line_meaning}
use Rattle.session_core.specs.Scripts.{has_quit}
use Rattle.session_core.specs.Turns.{PassesLine}
use Rattle.session_core.proofs.AskedLaws.{asked-append, asked-quit, has_quit-push}

none_all : {A : Type 0} (P : A → Type 0) → All P []
none_all P k d less = absurd (omega arith)

module _ (schema : Schema) where
  abbrev pub IsValid : Parsed → Type 0
  IsValid p = IsTrue (asks_valid schema p)

  -- what a valid line asks is valid
  pub valid_then : (p : Parsed) → IsValid p → All IsValid (asked_then p [])
  valid_then parsed.Skip is = none_all IsValid
  valid_then (parsed.Ask q) is = here (ends q.verb)
    where
      here : (b : Bool) → All IsValid (if b then [] else (parsed.Ask q ∷ []))
      here true = none_all IsValid
      here false = All-cons IsValid (parsed.Ask q) [] is (none_all IsValid)
  valid_then (parsed.Fault fault word) is = All-cons IsValid (parsed.Fault fault word) [] is (none_all IsValid)

-- what a line asks that does not end the session, added where it is a reply
pub asked_then-added : (p : Parsed) (ps : List Parsed) → asks_to_end p ≡ false → (if asks_reply p then ps ++ p ∷ [] else ps) ≡ ps ++ asked_then p []
asked_then-added parsed.Skip ps e = sym (append-nil ps)
asked_then-added (parsed.Ask q) ps e = here (ends q.verb) e
  where
    here : (b : Bool) → b ≡ false → (if not b then ps ++ parsed.Ask q ∷ [] else ps) ≡ ps ++ (if b then [] else (parsed.Ask q ∷ []))
    here true e = absurd (false≢true (sym e))
    here false e = refl
asked_then-added (parsed.Fault fault word) ps e = refl

module _ {S : Type 0} (left : S → Option (List ℕ)) (faults : S → ℕ) (schema : Schema) where
  -- What was asked so far, from a cutter's start on
  pub record AskedSoFar (start now : Cutter S) (ps : List Parsed) : Type 0 where
    pub lines : List Line
    pub passed : Passes left faults start now lines
    pub no_quit : has_quit schema lines ≡ false
    pub asks : ps ≡ asked schema lines
    pub going : IsGoing now
    pub valid : All (IsValid schema) ps

  pub asked_on : (start now next : Cutter S) (ps more : List Parsed) (p : Parsed) (line : Line) → AskedSoFar start now ps → PassesLine left faults schema now next line → p ≡ line_meaning schema line → IsValid schema p → asks_to_end p ≡ false → more ≡ ps ++ asked_then p [] → AskedSoFar start next more
  asked_on start now next ps more p line s on is valid goes same = record {
    lines = s.lines ++ line ∷ [];
    passed = passes_on left faults start now next s.lines (line ∷ []) s.passed on.passed;
    no_quit = has_quit-push schema s.lines line s.no_quit (ap asks_to_end (sym is) ∙ goes);
    asks = same ∙ (λ i. s.asks i ++ asked_then (is i) []) ∙ sym (asked-append schema s.lines (line ∷ []) s.no_quit);
    going = on.going;
    valid = subst (All (IsValid schema)) (sym same) (All-append (IsValid schema) ps (asked_then p []) s.valid (valid_then schema p valid));
  }

  pub asked_last : (start now next : Cutter S) (ps : List Parsed) (p : Parsed) (line : Line) → AskedSoFar start now ps → PassesLine left faults schema now next line → p ≡ line_meaning schema line → asks_to_end p ≡ true → Told (lines_left left start) (λ all. ps ≡ asked schema all)
  asked_last start now next ps p line s on is quit =
      Told-each (lines_left left start) _ _ (λ xs e. here (lines_left left next) xs e)
      (passes_on left faults start now next s.lines (line ∷ []) s.passed on.passed).covers
    where
      here : (o : Option (List Line)) (xs : List Line) → IsSomeAnd o (λ rest. xs ≡ (s.lines ++ line ∷ []) ++ rest) → ps ≡ asked schema xs
      here None xs e = absurd e
      here (Some rest) xs e = s.asks ∙ sym (ap (asked schema) (e ∙ append_assoc s.lines (line ∷ []) rest) ∙ asked-quit schema s.lines line rest s.no_quit (ap asks_to_end (sym is) ∙ quit))
