use Rattle.std.proofs.Common.{rules, arith, ap, ◌∙◌}
use Rattle.std.proofs.Math.Bool.{Bool-set}
use Rattle.std.proofs.Math.Logic.{∥∥₁_elim}
use Rattle.reply_json.specs.ValidTables.{is_valid_reply-table}
use Rattle.reply_json.specs.Validity.{is_valid_reply}
use Rattle.reply_json.specs.declared.reply.Reply.{Reply}
use Rattle.session_core.proofs.serving.serve.Goals as goal

pub returns-in_default : goal.returns-in_default
returns-in_default g c = record {
  served = λ h counts. c.serve_unseen.ensures.served (g.V.CubeView.numbers c.args.view.now) (g.V.CubeView.schema c.args.view.now) h;
  cost = λ h counts. omega arith;
  no_memory = c.serve_unseen.ensures.no_memory;
}

pub line_of-requires : goal.line_of-requires
line_of-requires g c = ∥∥₁_elim (g.met.V.CubeView.bag c.args.view.now).counted (Bool-set _ _) (λ p.
    ap (λ t. is_valid_reply (Reply.Table t)) (c.in_ok-table-in-Count.ensures.table p.0 p.1) ∙ is_valid_reply-table (g.V.CubeView.schema c.args.view.now) _ p.0 (search rules))

pub line_of-requires-in-Window : goal.line_of-requires-in-Window
line_of-requires-in-Window g c = ∥∥₁_elim (g.met.V.CubeView.bag c.args.view.now).counted (Bool-set _ _) (λ p.
    ap (λ t. is_valid_reply (Reply.Table t)) (c.in_ok-table-in-Window.ensures.table p.0 p.1) ∙ is_valid_reply-table (g.V.CubeView.schema c.args.view.now) _ p.0 (search rules))

pub line_of-requires-in-Cross : goal.line_of-requires-in-Cross
line_of-requires-in-Cross g c = ∥∥₁_elim (g.met.V.CubeView.bag c.args.view.now).counted (Bool-set _ _) (λ p.
    ap (λ t. is_valid_reply (Reply.Table t)) (c.in_ok-table-in-Cross.ensures.table p.0 p.1) ∙ is_valid_reply-table (g.V.CubeView.schema c.args.view.now) _ p.0 (search rules))

pub line_of-requires-in-Best : goal.line_of-requires-in-Best
line_of-requires-in-Best g c = ∥∥₁_elim (g.met.V.CubeView.bag c.args.view.now).counted (Bool-set _ _) (λ p.
    ap (λ t. is_valid_reply (Reply.Table t)) (c.in_ok-table-in-Best.ensures.table p.0 p.1) ∙ is_valid_reply-table (g.V.CubeView.schema c.args.view.now) _ p.0 (search rules))

pub returns-in-Told-clause-served : goal.returns-in-Told-clause-served
returns-in-Told-clause-served g c h counts = c.serve_unseen-in-Told.ensures.served (g.V.CubeView.numbers c.args.view.now) (g.V.CubeView.schema c.args.view.now) h
