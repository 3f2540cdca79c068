-- What answering the lines of a script without a cube puts into a sink.
use Rattle.std.specs.Prelude.{◌≡◌, ◌⊎◌, ℕ, Bool, true, false, List, [], ◌++◌, Option, Result, Ok, Err}
use Rattle.std.specs.List.{AllZip, flat_map}
use Rattle.outer_io.specs.Bytes.{Gains, GainsPart}
use Rattle.outer_io.specs.Cutting.{Cutter, lines_left}
use Rattle.outer_io.specs.Lines.{Line, lines}
use Rattle.outer_io.specs.Progress.{IsTooLarge, IsWithinLimit}
use Rattle.outer_io.specs.Told.{Told}
use Rattle.outer_io.specs.declared.source.Source as Source
use Rattle.query_syntax.specs.declared.query.Parsed.{Parsed}
use Rattle.reply_json.specs.declared.reply.Reply.{Reply}
use Rattle.session_core.specs.Asked.{asked, asked_then, asks_to_end, reply_line}
use Rattle.session_core.specs.Scripts.{has_quit, is_script_refused}
use Rattle.session_core.specs.Turns.{GoesOn}
use Rattle.session_core.specs.declared.fault.SessionFault.{SessionFault}
use Rattle.session_core.specs.declared.fault.SessionFault.TheVariants as fault
use Rattle.flat_session.specs.Answers.{answer_line, FlatBasis}

-- where an answer may be the line for want of memory, or may not
module _ (of : FlatBasis) (may_lack : Bool) where
  -- the line answers what was asked, or says that memory lacked
  abbrev pub IsAnswerLine : Parsed → List ℕ → Type 0
  IsAnswerLine p line = (line ≡ answer_line of p) ⊎ ((may_lack ≡ true) × (line ≡ reply_line Reply.NoMemory))

  -- the sink gained such a line for each that was asked, in order
  abbrev pub PutsAnswers : Option (List ℕ) → Option (List ℕ) → List Parsed → Type 0
  PutsAnswers before after asked = (answers : List (List ℕ)) × AllZip IsAnswerLine asked answers × Gains before after (flat_map (λ line. line) answers)

  -- it gained a part of such lines, from the front
  abbrev pub PutsAnswersPart : Option (List ℕ) → Option (List ℕ) → List Parsed → Type 0
  PutsAnswersPart before after asked = (answers : List (List ℕ)) × AllZip IsAnswerLine asked answers × GainsPart before after (flat_map (λ line. line) answers)

  -- a line of this meaning asks for no end, and the sink gained its answer, if it asks for one
  abbrev pub PutsOneAnswer : Option (List ℕ) → Option (List ℕ) → Parsed → Type 0
  PutsOneAnswer before after p = (asks_to_end p ≡ false) × PutsAnswers before after (asked_then p [])

  -- the same, and the sink gained a part of it, from the front
  abbrev pub PutsOnePart : Option (List ℕ) → Option (List ℕ) → Parsed → Type 0
  PutsOnePart before after p = (asks_to_end p ≡ false) × PutsAnswersPart before after (asked_then p [])

  -- the sink gained the answers to all that the lines ask
  abbrev pub PutsLineAnswers : Option (List ℕ) → Option (List ℕ) → List Line → Type 0
  PutsLineAnswers before after lines = PutsAnswers before after (asked of.schema lines)

  -- it gained a part of them, from the front
  abbrev pub PutsLinesPart : Option (List ℕ) → Option (List ℕ) → List Line → Type 0
  PutsLinesPart before after lines = PutsAnswersPart before after (asked of.schema lines)

  -- it gained a part, from the front, of the answers to a front of what the lines ask
  abbrev pub PutsLinesFront : Option (List ℕ) → Option (List ℕ) → List Line → Type 0
  PutsLinesFront before after lines = (front : List Parsed) × (later : List Parsed) × (asked of.schema lines ≡ front ++ later) × PutsAnswersPart before after front

  -- a line was passed that is no `quit`, and the sink gained the answer to it
  abbrev pub PutsNext : {S : Type 0} → Source.Ghosts S → Cutter S → Cutter S → Option (List ℕ) → Option (List ℕ) → Type 0
  PutsNext source before after held now = GoesOn source.left source.faults of.schema before after (PutsLineAnswers held now)

  -- the same, and the sink gained a part of it, from the front
  abbrev pub PutsNextPart : {S : Type 0} → Source.Ghosts S → Cutter S → Cutter S → Option (List ℕ) → Option (List ℕ) → Type 0
  PutsNextPart source before after held now = GoesOn source.left source.faults of.schema before after (PutsLinesPart held now)

  -- the sink gained the answers to all lines that a cutter has left
  abbrev pub PutsLeft : {S : Type 0} → (S → Option (List ℕ)) → Cutter S → Option (List ℕ) → Option (List ℕ) → Type 0
  PutsLeft left before held now = Told (lines_left left before) (PutsLineAnswers held now)

  -- or a part, from the front, of those to a front of them
  abbrev pub PutsLeftPart : {S : Type 0} → (S → Option (List ℕ)) → Cutter S → Option (List ℕ) → Option (List ℕ) → Type 0
  PutsLeftPart left before held now = Told (lines_left left before) (PutsLinesFront held now)

  -- it gained the answers to all that a script asks, where its bytes are told, and the script is refused or is not
  abbrev pub PutsScript : Bool → Option (List ℕ) → Option (List ℕ) → Option (List ℕ) → Type 0
  PutsScript refused script before after = Told script (λ bytes. PutsLineAnswers before after (lines bytes) × (is_script_refused of.schema bytes ≡ refused))

  -- or a part, from the front, of those to a front of it
  abbrev pub PutsScriptPart : Option (List ℕ) → Option (List ℕ) → Option (List ℕ) → Type 0
  PutsScriptPart script before after = Told script (λ bytes. PutsLinesFront before after (lines bytes))

-- so it is where all lines were answered: at the script's own end, and where too much is left
abbrev pub OnAll : Result (Unit {0}) SessionFault → Type 0 → Type 0
OnAll (Ok done) P = P
OnAll (Err fault.Read) P = Unit {0}
OnAll (Err fault.Write) P = Unit {0}
OnAll (Err fault.TooMuch) P = P
OnAll (Err fault.NoMemory) P = Unit {0}

module _ {S : Type 0} (of : FlatBasis) (left : S → Option (List ℕ)) (before : Cutter S) where
  -- what a cutter has left is within the limit, or a `quit` stands among its lines
  abbrev pub HasEnd : Type 0
  HasEnd = IsWithinLimit left before ⊎ Told (lines_left left before) (λ all. has_quit of.schema all ≡ true)

  -- it is over the limit, and no `quit` stands among its lines
  abbrev pub HasTooMuch : Type 0
  HasTooMuch = IsTooLarge left before × Told (lines_left left before) (λ all. has_quit of.schema all ≡ false)
