-- How answering the lines of a script goes on and ends: what became of the cutter over them and of the sink.
use Rattle.std.specs.Prelude.{◌≡◌, ℕ, Bool, false, ◌||◌, List, Option, Result, IsErrOf}
use Rattle.outer_io.specs.Cutting.{Cutter, lines_left}
use Rattle.outer_io.specs.Faults.{HasCause}
use Rattle.outer_io.specs.Progress.{IsTooLarge}
use Rattle.outer_io.specs.Told.{Told}
use Rattle.outer_io.specs.declared.source.Source as Source
use Rattle.query_syntax.specs.declared.query.Parsed.{Parsed}
use Rattle.session_core.specs.Answered.{PutsAll, PutsAnswer, PutsSomeAnswer, PutsSomeOf, ReplyBasis}
use Rattle.session_core.specs.Scripts.{has_quit}
use Rattle.session_core.specs.Turns.{GoesOn}
use Rattle.session_core.specs.declared.fault.SessionFault.{SessionFault}
use Rattle.session_core.specs.declared.fault.SessionFault.TheVariants as fault

-- so it is where the sink failed to take a reply
abbrev pub OnWrite : {T : Type 0} → Result T SessionFault → Type 0 → Type 0
OnWrite result P = IsErrOf result fault.Write → P

-- so it is where more than 2^30 bytes are left, and no `quit`
abbrev pub OnTooMuch : {T : Type 0} → Result T SessionFault → Type 0 → Type 0
OnTooMuch result P = IsErrOf result fault.TooMuch → P

-- the count of failed reads rose where the result is such a fault, that of failed puts where it is that, and neither
-- else
abbrev pub CountsFaults : {S O T : Type 0} → (S → ℕ) → (O → ℕ) → Cutter S → Cutter S → O → O → Result T SessionFault → Type 0
CountsFaults reads puts before after out out' result = HasCause (reads before.source) (reads after.source) result fault.Read × HasCause (puts out) (puts out') result fault.Write

-- that a reply was the line for want of memory is noted: one was before, or the one is that was put now
abbrev pub NotesLack : Bool → Bool → (Bool → Type 0) → Type 0
NotesLack before after Of = (lack : Bool) × (after ≡ before || lack) × Of lack

module _ {O : Type 0} (held : O → Option (List ℕ)) (out out' : O) (lacked lacked' : Bool) where
  -- nothing was put and noted
  abbrev pub PutsNothing : Type 0
  PutsNothing = (held out' ≡ held out) × (lacked' ≡ lacked)

  module _ (of : ReplyBasis) where
    -- a line of this meaning asks for no end, and the sink gained its reply, if it asks for one
    abbrev pub NotesAnswer : Parsed → Type 0
    NotesAnswer p = NotesLack lacked lacked' (λ lack. PutsAnswer of lack (held out) (held out') p)

    -- the same, and the sink gained a part of it, from the front
    abbrev pub NotesPart : Parsed → Type 0
    NotesPart p = NotesLack lacked lacked' (λ lack. PutsSomeAnswer of lack (held out) (held out') p)

    -- a line was passed that is no `quit`, and the sink gained the reply to it
    abbrev pub AnswersNext : {S : Type 0} → Source.Ghosts S → Cutter S → Cutter S → Type 0
    AnswersNext source before after = NotesLack lacked lacked' (λ lack. GoesOn source.left source.faults of.schema before after (PutsAll of lack (held out) (held out')))

    -- the same, and the sink gained a part of the reply, from the front
    abbrev pub AnswersPart : {S : Type 0} → Source.Ghosts S → Cutter S → Cutter S → Type 0
    AnswersPart source before after = NotesLack lacked lacked' (λ lack. GoesOn source.left source.faults of.schema before after (PutsSomeOf of lack (held out) (held out')))

-- the sink gained the replies to all lines that the cutter has left: more bytes than the limit, and no `quit` among
-- them
abbrev pub RefusesLeft : {S : Type 0} → ReplyBasis → Bool → (S → Option (List ℕ)) → Cutter S → Option (List ℕ) → Option (List ℕ) → Type 0
RefusesLeft of lacked left cutter held now = Told (lines_left left cutter) (PutsAll of lacked held now) × IsTooLarge left cutter × Told (lines_left left cutter) (λ all. has_quit of.schema all ≡ false)
