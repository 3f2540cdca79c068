-- What is said of shares.
use Rattle.std.proofs.Common.{◌≡◌, ℕ, ◌+◌, List, [], ◌∷◌, map, get_or, take, Option, Some, None, Result, Ok, Err, refl, sym, ◌∙◌, ap, subst, if◌then◌else◌}
use Rattle.cube_schema.specs.declared.plan.Plan.{Plan}
use Rattle.cube_view.specs.declared.schema.Schema.{Schema}
use Rattle.outer_io.specs.Files.{Files, file_or_empty}
use Rattle.outer_io.specs.Lines.{lines}
use Rattle.outer_io.specs.Told.{Told}
use Rattle.plain_cube.specs.Listed.{no_structure}
use Rattle.query_syntax.specs.declared.query.Parsed.{Parsed}
use Rattle.reply_sums.specs.Additive.{adds_up}
use Rattle.reply_json.specs.declared.reply.Reply.{Reply}
use Rattle.run_files.specs.Outside.{file_of}
use Rattle.run_files.specs.Planned.{IsPlanOf}
use Rattle.run_files.specs.declared.stop.Stop.{Stop}
use Rattle.session_core.specs.Asked.{asked, asked_reply}
use Rattle.share_replies.specs.Ends.{FileNames, IsWrongShare, RefusesShare, TakesShares}
use Rattle.share_replies.specs.Lengths.{AreFilesShort}
use Rattle.share_replies.proofs.OneRefusal.{first_one, right_none}
use Rattle.share_replies.specs.Refusals.{AreRight, DecidesFiles, DecidesScript, asks_of, first_total, first_totals, total_of_sum, totals_of}
use Rattle.share_replies.specs.Shares.{nothing}
use Rattle.share_replies.specs.Sums.{IsSumOver, SumsOver}
use Rattle.share_replies.specs.Texts.{wrong_line}
use Rattle.share_replies.specs.declared.fault.SharesFault.{SharesFault}
use Rattle.share_replies.specs.declared.fault.SharesFault.TheVariants as shares
use Rattle.share_replies.specs.declared.fault.WrongReply.{WrongReply}
use Rattle.share_replies.specs.declared.summed.Summed.{Summed}

-- the total of no replies
pub first_one_is : (schema : Schema) (p : Parsed) (sum : Option Summed) → IsSumOver schema nothing p sum → total_of_sum sum ≡ first_total schema p
first_one_is schema p None is = ap (λ b. if b then asked_reply no_structure schema [] 0 p else None) (sym is)
first_one_is schema p (Some sum) is = sym (ap (λ b. if b then asked_reply no_structure schema [] 0 p else None) is.0 ∙ is.1)

-- those of what was asked
first_is : (schema : Schema) (ps : List Parsed) (sums : List (Option Summed)) → SumsOver schema nothing ps sums → totals_of sums ≡ first_totals schema ps
first_is schema [] [] all = refl
first_is schema [] (sum ∷ sums) all = absurd all
first_is schema (p ∷ ps) [] all = absurd all
first_is schema (p ∷ ps) (sum ∷ sums) all = λ i. first_one_is schema p sum all.0 i ∷ first_is schema ps sums all.1 i

-- what is decided of files is decided of what the script asks
pub decides_script : (schema : Schema) (told now : Option Files) (name : List ℕ) (names : List (List ℕ)) (ps : List Parsed) (first : List (Option Summed)) (bytes : List ℕ) (r : Result (List (Option Summed)) SharesFault)
    → now ≡ told → Told (file_of told name) (λ all. bytes ≡ all) → ps ≡ asked schema (lines bytes) → SumsOver schema nothing ps first → DecidesFiles now ps (totals_of first) names r → DecidesScript schema told name names r
decides_script schema told now name names ps first bytes r same whole asks none d = at told whole (subst (λ (o : Option Files). DecidesFiles o ps (totals_of first) names r) same d)
  where
    at : (told : Option Files) → Told (file_of told name) (λ all. bytes ≡ all) → DecidesFiles told ps (totals_of first) names r → DecidesScript schema told name names r
    at None whole d = record { right = d.right; wrong = d.wrong }
    at (Some files) whole d =
        let is : ps ≡ asks_of schema files name = asks ∙ ap (λ t. asked schema (lines t)) whole in
        let e = subst (λ (qs : List Parsed). DecidesFiles (Some files) qs (first_totals schema qs) names r) is (subst (λ ts. DecidesFiles (Some files) ps ts names r) (first_is schema ps first none) d) in
        record { right = e.right; wrong = e.wrong }

pub stopped_decides : (schema : Schema) (told : Option Files) (name : List ℕ) (names : List (List ℕ)) (stop : Stop) → DecidesScript schema told name names (Err (shares.Stopped stop))
stopped_decides schema told name names stop = record { right = tt; wrong = λ k line w e. cc }

-- where a share is the first that is wrong, no other is
only_one : (told : Option Files) (schema : Schema) (names : FileNames) (share line : ℕ) (w : WrongReply) → Told told (λ files. IsWrongShare schema names files share line w)
    → Told told (λ files. (k l : ℕ) (v : WrongReply) → IsWrongShare schema names files k l v → (k ≡ share) × (l ≡ line) × (v ≡ w))
only_one None schema names share line w wrong = tt
only_one (Some files) schema names share line w wrong = λ k l v other. first_one (asks_of schema files names.script) (map (file_or_empty files) names.replies) _ k share l line v w other wrong

-- where all shares are right, none is the first that is wrong
none_wrong : (told : Option Files) (schema : Schema) (names : FileNames) (last : List (Option Summed))
    → Told told (λ files. AreRight (asks_of schema files names.script) (first_totals schema (asks_of schema files names.script)) (map (file_or_empty files) names.replies) (totals_of last))
    → Told told (λ files. (k l : ℕ) (v : WrongReply) → ¬ IsWrongShare schema names files k l v)
none_wrong None schema names last right = tt
none_wrong (Some files) schema names last right = λ k l v. right_none (asks_of schema files names.script) (map (file_or_empty files) names.replies) _ (totals_of last) k l v right

-- under a plan, what is decided of the script and the replies, in files that are as before
module _ (told now : Option Files) (names : FileNames) (plan : Plan) (same : now ≡ told) (is : IsPlanOf (file_of told names.plan) plan) where
  -- the shares are taken
  pub shares_taken : (last : List (Option Summed)) → DecidesScript plan.schema now names.script names.replies (Ok last) → Told now (λ files. AreFilesShort files (names.script ∷ names.replies)) → (Says : List (Option Reply) → Type 0) → Says (totals_of last)
      → TakesShares told names Says
  shares_taken last decides short Says says =
      let here = subst (λ (f : Option Files). DecidesScript plan.schema f names.script names.replies (Ok last)) same decides in
      record {
        plan = plan;
        is_plan = is;
        last = totals_of last;
        right = here.right;
        none = none_wrong told plan.schema names last here.right;
        short = subst (λ (f : Option Files). Told f (λ files. AreFilesShort files (names.script ∷ names.replies))) same short;
        says = says;
      }

  -- or one is refused
  pub share_refused : (k line : ℕ) (w : WrongReply) → DecidesScript plan.schema now names.script names.replies (Err (shares.Wrong k line w)) → Told now (λ files. AreFilesShort files (names.script ∷ take (k + 1) names.replies)) → (Says : List ℕ → Type 0)
      → Says (wrong_line (get_or names.replies k []) line w) → RefusesShare told names w Says
  share_refused k line w decides short Says says =
      let here = subst (λ (f : Option Files). DecidesScript plan.schema f names.script names.replies (Err (shares.Wrong k line w))) same decides in
      record {
        plan = plan;
        is_plan = is;
        share = k;
        line = line;
        wrong = here.wrong k line w refl;
        only = only_one told plan.schema names k line w (here.wrong k line w refl);
        short = subst (λ (f : Option Files). Told f (λ files. AreFilesShort files (names.script ∷ take (k + 1) names.replies))) same short;
        says = says;
      }
