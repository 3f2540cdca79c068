-- Texts as they are stored.
use Rattle.std.specs.Prelude.{ℕ, List, string_bytes}
use Rattle.texts.specs.declared.text.Form.{Form}
use Rattle.texts.specs.declared.text.Form.TheVariants.{Short, Long}

-- the bytes of a text, wherever they stand
abbrev pub form_bytes : Form → List ℕ
form_bytes (Short text) = text.bytes
form_bytes (Long text) = string_bytes text
