-- What is said to a line is the reply to what it asks.
use Rattle.std.proofs.Common.{◌≡◌, ℕ, Bool, true, false, not, if◌then◌else◌, List, [], length, Some, None, Result, Ok, Err, IfOk, refl, sym, ap, ◌∙◌, subst}
use Rattle.std.proofs.lemmas.Bool.{false≢true}
use Rattle.cube_view.specs.Points.{Point}
use Rattle.cube_view.specs.declared.schema.Schema.{Schema}
use Rattle.cube_view.specs.declared.stat.Stat.{Stat}
use Rattle.cube_view.specs.declared.view.CubeView as CubeView
use Rattle.live_session.specs.News.{News, seen_asked}
use Rattle.live_session.specs.Saying.{IsNewsOf, IsShownTo, Says, SaysOver}
use Rattle.published_pair.specs.declared.viewer.Viewer.{Viewer}
use Rattle.query_syntax.specs.Tables.{table}
use Rattle.query_syntax.specs.declared.query.Parsed.{Parsed}
use Rattle.query_syntax.specs.declared.query.Parsed.TheVariants as parsed
use Rattle.query_syntax.specs.declared.query.Query.{Query}
use Rattle.query_syntax.specs.declared.query.Verb.{Verb}
use Rattle.query_syntax.specs.declared.query.Verb.TheVariants as verb
use Rattle.reply_json.specs.Printed.{seen_of}
use Rattle.reply_json.specs.Types.{ReplyFits}
use Rattle.reply_json.specs.declared.reply.Reply.{Reply}
use Rattle.session_core.specs.Asked.{asked_reply, asks_look, asks_reply, ends, is_look, query_reply}
use Rattle.session_core.specs.Serving.{Serves}
use Rattle.session_core.specs.Transcript.{IsReply}
use Rattle.session_core.specs.declared.serving.Served.{Served}
use Rattle.session_core.specs.declared.serving.Served.TheVariants as served
use Rattle.reply_json.proofs.RepliesRead.{one_reply}
use Rattle.session_core.proofs.OwnReplies.{reply_own}

module _ (schema : Schema) (is_stat : Stat → Type 0) (h : List Point) (told : ℕ) where
  verb_asks : (stat : Stat) (q : Query) (v : Verb) (reply : Reply) → query_reply stat schema h told q v ≡ Some reply → not (ends v) ≡ true
  verb_asks stat q verb.Count reply e = refl
  verb_asks stat q (verb.Hist k) reply e = refl
  verb_asks stat q (verb.Map down) reply e = refl
  verb_asks stat q (verb.Series from wide rows) reply e = refl
  verb_asks stat q (verb.Window rect) reply e = refl
  verb_asks stat q (verb.Cross k l) reply e = refl
  verb_asks stat q (verb.Best down rows) reply e = refl
  verb_asks stat q verb.Stat reply e = refl
  verb_asks stat q verb.Told reply e = refl
  verb_asks stat q verb.Quit reply e = cc

  asks : (stat : Stat) (p : Parsed) (reply : Reply) → asked_reply stat schema h told p ≡ Some reply → asks_reply p ≡ true
  asks stat parsed.Skip reply e = cc
  asks stat (parsed.Ask q) reply e = verb_asks stat q q.verb reply e
  asks stat (parsed.Fault fault word) reply e = refl

  table_seen : (q : Query) → seen_of (Reply.Table (table schema q h)) ≡ Some (length h)
  unfolding table
  table_seen q = refl

  verb_seen : (stat : Stat) (q : Query) (v : Verb) (reply : Reply) → query_reply stat schema h told q v ≡ Some reply → seen_of reply ≡ (if is_look v then Some (length h) else None)
  verb_seen stat q verb.Count reply e = ap seen_of (sym (one_reply (Reply.Table (table schema q h)) reply e)) ∙ table_seen q
  verb_seen stat q (verb.Hist k) reply e = ap seen_of (sym (one_reply (Reply.Table (table schema q h)) reply e)) ∙ table_seen q
  verb_seen stat q (verb.Map down) reply e = ap seen_of (sym (one_reply (Reply.Table (table schema q h)) reply e)) ∙ table_seen q
  verb_seen stat q (verb.Series from wide rows) reply e = ap seen_of (sym (one_reply (Reply.Table (table schema q h)) reply e)) ∙ table_seen q
  verb_seen stat q (verb.Window rect) reply e = ap seen_of (sym (one_reply (Reply.Table (table schema q h)) reply e)) ∙ table_seen q
  verb_seen stat q (verb.Cross k l) reply e = ap seen_of (sym (one_reply (Reply.Table (table schema q h)) reply e)) ∙ table_seen q
  verb_seen stat q (verb.Best down rows) reply e = ap seen_of (sym (one_reply (Reply.Table (table schema q h)) reply e)) ∙ table_seen q
  verb_seen stat q verb.Stat reply e = ap seen_of (sym (one_reply (Reply.Stat stat (length h)) reply e))
  verb_seen stat q verb.Told reply e = ap seen_of (sym (one_reply (Reply.Told told) reply e))
  verb_seen stat q verb.Quit reply e = cc

  seen : (stat : Stat) (p : Parsed) (reply : Reply) → asked_reply stat schema h told p ≡ Some reply → seen_of reply ≡ seen_asked (length h) p
  seen stat parsed.Skip reply e = cc
  seen stat (parsed.Ask q) reply e = verb_seen stat q q.verb reply e
  seen stat (parsed.Fault fault word) reply e = ap seen_of (sym (one_reply (Reply.Fault fault word) reply e))

  -- what is served over a list by a view whose numbers meet the test
  look_says : (stat : Stat) (p : Parsed) (s : Served) → is_stat stat → Serves stat schema h told p s → Says schema is_stat h told p s
  look_says stat p served.Skipped met serves = serves
  look_says stat p (served.Reply bytes) met (reply, asked, fits, text) = (reply, reply_own schema is_stat h told stat p reply met asked fits, text, seen stat p reply asked, asks stat p reply asked)
  look_says stat p served.Quit met serves = serves

  -- a reply that prints no numbers of the structure is one under any test
  unseen_verb : (stat : Stat) (q : Query) (v : Verb) (reply : Reply) → is_look v ≡ false → query_reply stat schema h told q v ≡ Some reply → (reply ≡ Reply.Told told) × (v ≡ verb.Told)
  unseen_verb stat q verb.Count reply blind e = absurd (false≢true (sym blind))
  unseen_verb stat q (verb.Hist k) reply blind e = absurd (false≢true (sym blind))
  unseen_verb stat q (verb.Map down) reply blind e = absurd (false≢true (sym blind))
  unseen_verb stat q (verb.Series from wide rows) reply blind e = absurd (false≢true (sym blind))
  unseen_verb stat q (verb.Window rect) reply blind e = absurd (false≢true (sym blind))
  unseen_verb stat q (verb.Cross k l) reply blind e = absurd (false≢true (sym blind))
  unseen_verb stat q (verb.Best down rows) reply blind e = absurd (false≢true (sym blind))
  unseen_verb stat q verb.Stat reply blind e = absurd (false≢true (sym blind))
  unseen_verb stat q verb.Told reply blind e = (sym (one_reply (Reply.Told told) reply e), refl)
  unseen_verb stat q verb.Quit reply blind e = cc

  told_is : (q : Query) (v : Verb) → v ≡ verb.Told → query_reply (record { nodes = 0; tables = 0; proper = 0; shared = 0 }) schema [] told q v ≡ Some (Reply.Told told)
  told_is q v is = ap (query_reply (record { nodes = 0; tables = 0; proper = 0; shared = 0 }) schema [] told q) is

  unseen_own : (stat : Stat) (p : Parsed) (reply : Reply) → asks_look p ≡ false → asked_reply stat schema h told p ≡ Some reply → ReplyFits reply → IsReply schema is_stat true h told p reply
  unseen_own stat parsed.Skip reply blind e fits = cc
  unseen_own stat (parsed.Ask q) reply blind e fits =
      let told' = unseen_verb stat q q.verb reply blind e in
      subst (λ (r : Reply). ReplyFits r → IsReply schema is_stat true h told (parsed.Ask q) r) (sym told'.0)
      (λ f. record { meant = told_is q q.verb told'.1; numbers = refl; fits = f }) fits
  unseen_own stat (parsed.Fault fault word) reply blind e fits =
      subst (λ (r : Reply). ReplyFits r → IsReply schema is_stat true h told (parsed.Fault fault word) r) (one_reply (Reply.Fault fault word) reply e)
      (λ f. record { meant = refl; numbers = tt; fits = f }) fits

  -- what is served where no look is asked for
  unseen_says : (stat : Stat) (p : Parsed) (s : Served) → asks_look p ≡ false → Serves stat schema h told p s → Says schema is_stat h told p s
  unseen_says stat p served.Skipped blind serves = serves
  unseen_says stat p (served.Reply bytes) blind (reply, asked, fits, text) = (reply, unseen_own stat p reply blind asked fits, text, seen stat p reply asked, asks stat p reply asked)
  unseen_says stat p served.Quit blind serves = serves

  -- the same of answers that may be want of memory
  pub served_unseen : {E : Type 0} (p : Parsed) (r : Result Served E) → asks_look p ≡ false → ((stat : Stat) (z : Schema) (l : List Point) → IfOk r (Serves stat z l told p)) → IfOk r (Says schema is_stat h told p)
  served_unseen p (Ok s) blind serves = let stat : Stat = record { nodes = 0; tables = 0; proper = 0; shared = 0 } in unseen_says stat p s blind (serves stat schema h)
  served_unseen p (Err e) blind serves = tt

  pub served_look : {E : Type 0} (stat : Stat) (p : Parsed) (r : Result Served E) → is_stat stat → IfOk r (Serves stat schema h told p) → IfOk r (Says schema is_stat h told p)
  served_look stat p (Ok s) met serves = look_says stat p s met serves
  served_look stat p (Err e) met serves = tt

module _ (schema : Schema) (is_stat : Stat → Type 0) (shown : List Point) (told : ℕ) (p : Parsed) where
  -- what is said where no look is asked for is said over any list
  pub over_unseen : {E : Type 0} (r : Result Served E) → asks_look p ≡ false → ((stat : Stat) (z : Schema) (l : List Point) → IfOk r (Serves stat z l told p)) → IfOk r (SaysOver schema is_stat shown told p)
  over_unseen {E} (Ok s) blind serves = λ h look. served_unseen schema is_stat h told {E = E} p (Ok s) blind serves
  over_unseen (Err e) blind serves = tt

  -- and what is said for a look over the list that it was shown
  pub over_shown : {E : Type 0} (r : Result Served E) → asks_look p ≡ true → IfOk r (Says schema is_stat shown told p) → IfOk r (SaysOver schema is_stat shown told p)
  over_shown (Ok s) asked says = λ h look. subst (λ l. Says schema is_stat l told p s) (look asked) says
  over_shown (Err e) asked says = tt

-- it is said over what is shown and told now
pub says_news : {V C : Type 0} {members : CubeView.Ghosts V C} (viewer : Viewer V C members) (p : Parsed) (news : News) (s : Served) → IsNewsOf viewer p news → SaysOver viewer.schema (IsShownTo viewer) viewer.shown.points (length viewer.learned.points) p s → Says viewer.schema (IsShownTo viewer) news.shown (length news.told) p s
says_news viewer p news s is says = subst (λ xs. Says viewer.schema (IsShownTo viewer) news.shown (length xs) p s) is.1 (says news.shown is.0)

-- and the number that is printed is that of what is shown now
pub seen_news : {V C : Type 0} {members : CubeView.Ghosts V C} (viewer : Viewer V C members) (p : Parsed) (news : News) → IsNewsOf viewer p news → seen_asked (length viewer.shown.points) p ≡ seen_asked (length news.shown) p
seen_news viewer p news is = here (asks_look p) is.0
  where
    here : (b : Bool) → (b ≡ true → viewer.shown.points ≡ news.shown) → (if b then Some (length viewer.shown.points) else None) ≡ (if b then Some (length news.shown) else None)
    here true look = ap (λ l. Some (length l)) (look refl)
    here false look = refl

-- what is served over a view that is shown
pub shown_says : {V E : Type 0} (schema_of : V → Schema) (numbers : V → Stat) (schema : Schema) (h h' : List Point) (told told' : ℕ) (p : Parsed) (r : Result Served E) (view view' : V) → schema_of view ≡ schema → view ≡ view' → h ≡ h' → told ≡ told' → IfOk r (Serves (numbers view) (schema_of view) h told p) → IfOk r (Says schema (λ stat. stat ≡ numbers view') h' told' p)
shown_says schema_of numbers schema h h' told told' p r view view' same shown list length serves =
    subst (λ (x : List Point × ℕ). IfOk r (Says schema (λ stat. stat ≡ numbers view') x.0 x.1 p)) (λ i. (list i, length i))
    (served_look schema (λ stat. stat ≡ numbers view') h told (numbers view) p r (ap numbers shown) (subst (λ (z : Schema). IfOk r (Serves (numbers view) z h told p)) same serves))
