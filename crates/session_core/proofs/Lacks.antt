-- The line for want of memory among replies.
use Rattle.std.proofs.Common.{◌≡◌, ℕ, false, ◌||◌, List, [], ◌∷◌, ◌++◌, Some, refl, sym, ap, ◌∙◌}
use Rattle.std.proofs.Math.Bool.{or_assoc}
use Rattle.cube_view.specs.Points.{Point}
use Rattle.cube_view.specs.declared.schema.Schema.{Schema}
use Rattle.cube_view.specs.declared.stat.Stat.{Stat}
use Rattle.query_syntax.specs.declared.query.Parsed.{Parsed}
use Rattle.query_syntax.specs.declared.query.Parsed.TheVariants as parsed
use Rattle.query_syntax.specs.declared.query.Query.{Query}
use Rattle.query_syntax.specs.declared.query.Verb.{Verb}
use Rattle.query_syntax.specs.declared.query.Verb.TheVariants as verb
use Rattle.reply_json.specs.declared.reply.Reply.{Reply}
use Rattle.session_core.specs.Asked.{asked_reply, query_reply}
use Rattle.session_core.specs.Transcript.{has_lack, is_lack}

-- no line means the reply for want of memory
verb_no_lack : (stat : Stat) (schema : Schema) (h : List Point) (v : ℕ) (q : Query) (verb : Verb) → query_reply stat schema h v q verb ≡ Some Reply.NoMemory → ⊥
verb_no_lack stat schema h v q verb.Count e = cc
verb_no_lack stat schema h v q (verb.Hist k) e = cc
verb_no_lack stat schema h v q (verb.Map down) e = cc
verb_no_lack stat schema h v q (verb.Series from wide rows) e = cc
verb_no_lack stat schema h v q (verb.Window rect) e = cc
verb_no_lack stat schema h v q (verb.Cross k l) e = cc
verb_no_lack stat schema h v q (verb.Best down rows) e = cc
verb_no_lack stat schema h v q verb.Stat e = cc
verb_no_lack stat schema h v q verb.Told e = cc
verb_no_lack stat schema h v q verb.Quit e = cc

not_meant : (stat : Stat) (schema : Schema) (h : List Point) (v : ℕ) (p : Parsed) → asked_reply stat schema h v p ≡ Some Reply.NoMemory → ⊥
not_meant stat schema h v parsed.Skip e = cc
not_meant stat schema h v (parsed.Ask q) e = verb_no_lack stat schema h v q q.verb e
not_meant stat schema h v (parsed.Fault fault word) e = cc

pub no_lack : (stat : Stat) (schema : Schema) (h : List Point) (v : ℕ) (p : Parsed) (reply : Reply) → asked_reply stat schema h v p ≡ Some reply → is_lack reply ≡ false
no_lack stat schema h v p (Reply.Table table) e = refl
no_lack stat schema h v p (Reply.Stat stat' seen) e = refl
no_lack stat schema h v p (Reply.Told told) e = refl
no_lack stat schema h v p (Reply.Fault fault word) e = refl
no_lack stat schema h v p Reply.NoMemory e = absurd (not_meant stat schema h v p e)

-- it is among replies and more replies where it is among either
pub has_lack-append : (rs ss : List Reply) → has_lack (rs ++ ss) ≡ has_lack rs || has_lack ss
has_lack-append [] ss = refl
has_lack-append (r ∷ rs) ss = ap (λ lack. is_lack r || lack) (has_lack-append rs ss) ∙ sym (or_assoc (is_lack r) (has_lack rs) (has_lack ss))
