use Rattle.std.proofs.Common.{◌≡◌, true, false, List, ℕ, sym, refl}
use Rattle.std.proofs.lemmas.Str.{is_utf8-from_IsUtf8, IsUtf8-from_is_utf8}
use Rattle.std.specs.Str.{is_utf8, IsUtf8}
use Rattle.query_syntax.proofs.parsing.is_text_line.Goals as goal

not_text : (bytes : List ℕ) → (IsUtf8 bytes → ⊥) → false ≡ is_utf8 bytes
not_text bytes h =
    (elim (is_utf8 bytes) as (λ v. v ≡ is_utf8 bytes → false ≡ v) [
      | true ↦ λ e. absurd (h (IsUtf8-from_is_utf8 bytes (sym e)))
      | false ↦ λ e. refl
    ]) refl

pub returns-in-Ok : goal.returns-in-Ok
returns-in-Ok c = sym (is_utf8-from_IsUtf8 c.args.line.now c.in-Ok.ensures.cases.1)

pub returns-in-Err : goal.returns-in-Err
returns-in-Err c = not_text c.args.line.now c.in-Err.ensures.cases.0
