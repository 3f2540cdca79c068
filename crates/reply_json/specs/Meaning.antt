-- What bytes are as a reply.
use Rattle.std.specs.Prelude.{◌≡◌, ℕ, List, IsTrue}
use Rattle.reply_json.specs.declared.reply.Reply.{Reply}
use Rattle.reply_json.specs.Printed.{reply_text}
use Rattle.reply_json.specs.Types.{ReplyFits}
use Rattle.reply_json.specs.Validity.{is_valid_reply}

-- the bytes are the text of the reply, which is valid
abbrev pub IsTextOf : Reply → List ℕ → Type 0
IsTextOf reply bytes = IsTrue (is_valid_reply reply) × ReplyFits reply × (bytes ≡ reply_text reply)

-- the bytes are the text of no valid reply
unfoldable pub IsNoReply : List ℕ → Type 0
IsNoReply bytes = (reply : Reply) → ¬ IsTextOf reply bytes
