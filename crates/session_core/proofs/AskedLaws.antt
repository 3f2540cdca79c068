-- Laws of what lines ask, one after another.
use Rattle.std.proofs.Common.{◌≡◌, Bool, true, false, not, ◌||◌, if◌then◌else◌, List, [], ◌∷◌, ◌++◌, refl, sym, ◌∙◌, ap, append-nil}
use Rattle.std.proofs.Math.Bool.{or-true}
use Rattle.std.proofs.lemmas.Bool.{false≢true, not-true}
use Rattle.cube_view.specs.declared.schema.Schema.{Schema}
use Rattle.outer_io.specs.Lines.{Line}
use Rattle.query_syntax.proofs.WholeTexts.{or_false_left, or_false_right}
use Rattle.query_syntax.specs.declared.query.Parsed.{Parsed}
use Rattle.query_syntax.specs.declared.query.Parsed.TheVariants as parsed
use Rattle.session_core.specs.Asked.{asked, asked_then, asks_reply, asks_to_end, ends, line_meaning}
use Rattle.session_core.specs.Scripts.{has_quit, is_quit}

then_goes_on : (p : Parsed) (ps qs : List Parsed) → asks_to_end p ≡ false → asked_then p (ps ++ qs) ≡ asked_then p ps ++ qs
then_goes_on parsed.Skip ps qs e = refl
then_goes_on (parsed.Ask q) ps qs e = here (ends q.verb) e
  where
    here : (b : Bool) → b ≡ false → (if b then [] else (parsed.Ask q ∷ ps ++ qs)) ≡ (if b then [] else (parsed.Ask q ∷ ps)) ++ qs
    here true e = absurd (false≢true (sym e))
    here false e = refl
then_goes_on (parsed.Fault fault word) ps qs e = refl

-- after a `quit` nothing is asked
pub asked_then-end : (p : Parsed) (ps : List Parsed) → asks_to_end p ≡ true → asked_then p ps ≡ []
asked_then-end parsed.Skip ps e = absurd (false≢true e)
asked_then-end (parsed.Ask q) ps e = here (ends q.verb) e
  where
    here : (b : Bool) → b ≡ true → (if b then [] else (parsed.Ask q ∷ ps)) ≡ []
    here true e = refl
    here false e = absurd (false≢true e)
asked_then-end (parsed.Fault fault word) ps e = absurd (false≢true e)

-- what asks for a reply is asked, and goes on
pub asked_then-reply : (p : Parsed) → asks_reply p ≡ true → asked_then p [] ≡ p ∷ []
asked_then-reply parsed.Skip e = absurd (false≢true e)
asked_then-reply (parsed.Ask q) e = here (ends q.verb) e
  where
    here : (b : Bool) → not b ≡ true → (if b then [] else (parsed.Ask q ∷ [])) ≡ parsed.Ask q ∷ []
    here true e = absurd (false≢true e)
    here false e = refl
asked_then-reply (parsed.Fault fault word) e = refl

pub reply-goes_on : (p : Parsed) → asks_reply p ≡ true → asks_to_end p ≡ false
reply-goes_on parsed.Skip e = refl
reply-goes_on (parsed.Ask q) e = not-true (ends q.verb) e
reply-goes_on (parsed.Fault fault word) e = refl

module _ (schema : Schema) where
  -- lines without `quit`, and lines after them, ask what each asks
  pub asked-append : (xs ys : List Line) → has_quit schema xs ≡ false → asked schema (xs ++ ys) ≡ asked schema xs ++ asked schema ys
  asked-append [] ys none = refl
  asked-append (x ∷ xs) ys none =
      ap (asked_then (line_meaning schema x)) (asked-append xs ys (or_false_right _ _ none))
      ∙ then_goes_on (line_meaning schema x) (asked schema xs) (asked schema ys) (or_false_left _ _ none)

  -- what comes after a `quit` is not asked
  pub asked-quit : (xs : List Line) (x : Line) (ys : List Line) → has_quit schema xs ≡ false → is_quit schema x ≡ true → asked schema (xs ++ x ∷ ys) ≡ asked schema xs
  asked-quit xs x ys none quit =
      asked-append xs (x ∷ ys) none ∙ ap (λ ps. asked schema xs ++ ps) (asked_then-end (line_meaning schema x) (asked schema ys) quit) ∙ append-nil (asked schema xs)

  -- no `quit` is among lines without one and one more
  pub has_quit-push : (xs : List Line) (x : Line) → has_quit schema xs ≡ false → is_quit schema x ≡ false → has_quit schema (xs ++ x ∷ []) ≡ false
  has_quit-push [] x none e = ap (λ b. b || false) e
  has_quit-push (y ∷ xs) x none e =
      ap (λ b. b || has_quit schema (xs ++ x ∷ [])) (or_false_left (is_quit schema y) (has_quit schema xs) none)
      ∙ has_quit-push xs x (or_false_right (is_quit schema y) (has_quit schema xs) none) e

  -- one is among all lines where it is among some
  pub has_quit-at : (xs : List Line) (x : Line) (ys : List Line) → is_quit schema x ≡ true → has_quit schema (xs ++ x ∷ ys) ≡ true
  has_quit-at [] x ys e = ap (λ b. b || has_quit schema ys) e
  has_quit-at (y ∷ xs) x ys e = ap (λ b. is_quit schema y || b) (has_quit-at xs x ys e) ∙ or-true (is_quit schema y)
