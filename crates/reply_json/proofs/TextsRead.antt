-- The compact text of a value of counts and texts is UTF-8, and it is read as that value.
use Rattle.std.proofs.Common.{◌≡◌, ℕ, ◌<◌, ◌≤◌, ◌^◌, List, [], ◌∷◌, ◌++◌, Bool, true, false, Some, option_and_then, refl, sym, ap, ◌∙◌, append-nil}
use Rattle.std.specs.Prelude.{⊤}
use Rattle.std.specs.Str.{IsUtf8}
use Rattle.std.proofs.lemmas.Fmt.{IsAscii-decimal}
use Rattle.std.proofs.lemmas.Str.{IsUtf8-append, IsUtf8-from_ascii}
use Rattle.json.specs.Lex.{tokens}
use Rattle.json.specs.Json as json
use Rattle.json.specs.Print.{quoted}
use Rattle.json.specs.Tree as tree
use Rattle.json.proofs.Printed.Decimals.{IsNumber-decimal}
use Rattle.json.proofs.Printed.Tokens.{tokens-print}
use Rattle.json.proofs.Printed.Trees.{value-json_tokens, ArePrintable-json_tokens}
use Rattle.json.proofs.Printed.Utf8.{IsUtf8-are_ascii, IsUtf8-quoted}
use Rattle.serde_json.specs.Data.{unsigned, negative, float, Data, null, boolean, number, string, array, object, Items, no_items, item, Members, no_members, member}
use Rattle.serde_json.specs.Read.{read, max_depth, of_json}
use Rattle.serde_json.specs.Written.{outline, items_outline, members_outline, compact_text, items_text, members_text, comma_if}
use Rattle.serde_json.proofs.Texts.{print-outline}

-- the value has no other numbers than counts, and its texts are UTF-8
abbrev mutual
  pub IsPlain : Data → Type 0
  IsPlain null = ⊤
  IsPlain (boolean b) = ⊤
  IsPlain (number (unsigned n)) = n < 2 ^ 64
  IsPlain (number (negative z)) = ⊥
  IsPlain (number (float x)) = ⊥
  IsPlain (string s) = IsUtf8 s
  IsPlain (array ds) = ArePlain ds
  IsPlain (object ms) = HasPlain ms

  pub ArePlain : Items → Type 0
  ArePlain no_items = ⊤
  ArePlain (item d ds) = IsPlain d × ArePlain ds

  pub HasPlain : Members → Type 0
  HasPlain no_members = ⊤
  HasPlain (member k d ms) = IsUtf8 k × IsPlain d × HasPlain ms

mutual
  numbers : (d : Data) → IsPlain d → tree.HasNumbers (outline d)
  numbers null h = tt
  numbers (boolean b) h = tt
  numbers (number (unsigned n)) h = IsNumber-decimal n h
  numbers (number (negative z)) h = absurd h
  numbers (number (float x)) h = absurd h
  numbers (string s) h = tt
  numbers (array ds) h = numbers_in_items ds h
  numbers (object ms) h = numbers_in_members ms h

  numbers_in_items : (ds : Items) → ArePlain ds → tree.ItemsHaveNumbers (items_outline ds)
  numbers_in_items no_items h = tt
  numbers_in_items (item d ds) h = (numbers d h.0, numbers_in_items ds h.1)

  numbers_in_members : (ms : Members) → HasPlain ms → tree.MembersHaveNumbers (members_outline ms)
  numbers_in_members no_members h = tt
  numbers_in_members (member k d ms) h = (numbers d h.1, numbers_in_members ms h.2)

comma_utf8 : (later : Bool) → IsUtf8 (comma_if later)
comma_utf8 true = IsUtf8-are_ascii (44 ∷ []) refl
comma_utf8 false = IsUtf8-are_ascii [] refl

after_byte : (b : List ℕ) (bytes : List ℕ) → IsUtf8 b → IsUtf8 bytes → IsUtf8 (b ++ bytes)
after_byte b bytes h k = IsUtf8-append b bytes h k

mutual
  pub text_utf8 : (d : Data) → IsPlain d → IsUtf8 (compact_text d)
  text_utf8 null h = IsUtf8-are_ascii (compact_text null) refl
  text_utf8 (boolean true) h = IsUtf8-are_ascii (compact_text (boolean true)) refl
  text_utf8 (boolean false) h = IsUtf8-are_ascii (compact_text (boolean false)) refl
  text_utf8 (number (unsigned n)) h = IsUtf8-from_ascii _ (IsAscii-decimal n h)
  text_utf8 (number (negative z)) h = absurd h
  text_utf8 (number (float x)) h = absurd h
  text_utf8 (string s) h = IsUtf8-quoted s h
  text_utf8 (array ds) h = IsUtf8-append (91 ∷ []) _ (IsUtf8-are_ascii (91 ∷ []) refl) (items_utf8 false ds h)
  text_utf8 (object ms) h = IsUtf8-append (123 ∷ []) _ (IsUtf8-are_ascii (123 ∷ []) refl) (members_utf8 false ms h)

  items_utf8 : (later : Bool) (ds : Items) → ArePlain ds → IsUtf8 (items_text later ds)
  items_utf8 later no_items h = IsUtf8-are_ascii (93 ∷ []) refl
  items_utf8 later (item d ds) h = IsUtf8-append (comma_if later) _ (comma_utf8 later) (IsUtf8-append (compact_text d) _ (text_utf8 d h.0) (items_utf8 true ds h.1))

  members_utf8 : (later : Bool) (ms : Members) → HasPlain ms → IsUtf8 (members_text later ms)
  members_utf8 later no_members h = IsUtf8-are_ascii (125 ∷ []) refl
  members_utf8 later (member k d ms) h =
      IsUtf8-append (comma_if later) _ (comma_utf8 later)
      (IsUtf8-append (quoted k) _ (IsUtf8-quoted k h.0)
      (IsUtf8-append (58 ∷ []) _ (IsUtf8-are_ascii (58 ∷ []) refl)
      (IsUtf8-append (compact_text d) _ (text_utf8 d h.1) (members_utf8 true ms h.2))))

text_tokens : (d : Data) → IsPlain d → tokens (compact_text d) ≡ tree.json_tokens (outline d)
text_tokens d h = ap tokens (sym (print-outline d)) ∙ tokens-print (tree.json_tokens (outline d)) (ArePrintable-json_tokens (outline d) (numbers d h))

-- what the text of a plain value is read as
pub text_read : (d : Data) → IsPlain d → tree.depth (outline d) ≤ max_depth → of_json (outline d) ≡ Some d → read (compact_text d) ≡ Some d
text_read d h shallow is =
    ap (λ ts. option_and_then of_json (option_and_then (λ p. json.if_last p.0 p.1) (json.value max_depth ts))) (text_tokens d h ∙ sym (append-nil (tree.json_tokens (outline d))))
    ∙ ap (λ o. option_and_then of_json (option_and_then (λ p. json.if_last p.0 p.1) o)) (value-json_tokens (outline d) max_depth [] shallow)
    ∙ is
