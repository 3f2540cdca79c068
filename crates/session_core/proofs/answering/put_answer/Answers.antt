use Rattle.std.proofs.Common.{false, true, refl, sym, arith}
use Rattle.std.proofs.Math.Bool.{Bool-set, or-false, or-true}
use Rattle.std.proofs.Math.Logic.{∥∥₁_elim}
use Rattle.session_core.proofs.AskedLaws.{reply-goes_on}
use Rattle.session_core.proofs.GainedReplies.{skipped_goes_on, skipped_gains, quit_ends, reply_goes_on, reply_gains, reply_some, lack_gains, lack_some, broke_off}
use Rattle.session_core.proofs.answering.put_answer.Goals as goal

pub returns-in-Ok-Skipped-clause-goes_on : goal.returns-in-Ok-Skipped-clause-goes_on
returns-in-Ok-Skipped-clause-goes_on g c =
    let schema = g.V.CubeView.schema c.args.view.now in
    let stat = g.V.CubeView.numbers c.args.view.now in
    λ _. (
      false,
      sym (or-false c.args.lacked.now),
      (
        ∥∥₁_elim (g.met.V.CubeView.bag c.args.view.now).counted (Bool-set _ _) (λ p. skipped_goes_on schema stat p.0 c.args.told c.args.parsed.now _ c.in-Ok-Skipped.field-0-is (c.in-Ok-Skipped.ensures.served p.0 p.1)),
        λ h counts. skipped_gains schema stat h c.args.told (omega (arith, c.requires.1, counts.number)) _ c.args.parsed.now _ c.in-Ok-Skipped.field-0-is (c.in-Ok-Skipped.ensures.served h counts),
      ),
    )

pub returns-in-Ok-Quit-clause-stops : goal.returns-in-Ok-Quit-clause-stops
returns-in-Ok-Quit-clause-stops g c =
    let schema = g.V.CubeView.schema c.args.view.now in
    let stat = g.V.CubeView.numbers c.args.view.now in
    λ _. (
      ∥∥₁_elim (g.met.V.CubeView.bag c.args.view.now).counted (Bool-set _ _) (λ p. quit_ends schema stat p.0 c.args.told c.args.parsed.now _ c.in-Ok-Quit.field-0-is (c.in-Ok-Quit.ensures.served p.0 p.1)),
      (refl, refl),
    )

pub returns-in_ok-put_line-in-Ok-Reply-clause-goes_on : goal.returns-in_ok-put_line-in-Ok-Reply-clause-goes_on
returns-in_ok-put_line-in-Ok-Reply-clause-goes_on g c =
    let schema = g.V.CubeView.schema c.args.view.now in
    let stat = g.V.CubeView.numbers c.args.view.now in
    λ _. (
      false,
      sym (or-false c.args.lacked.now),
      (
        ∥∥₁_elim (g.met.V.CubeView.bag c.args.view.now).counted (Bool-set _ _) (λ p. reply_goes_on schema stat p.0 c.args.told c.args.parsed.now _ _ c.in-Ok-Reply.field-0-is (c.in-Ok-Reply.ensures.served p.0 p.1)),
        λ h counts. reply_gains schema stat h c.args.told (omega (arith, c.requires.1, counts.number)) _ _ c.args.parsed.now _ _ c.as_slice.result.now c.in-Ok-Reply.field-0-is (c.in-Ok-Reply.ensures.served h counts) c.as_slice.ensures c.in_ok-put_line-in-Ok-Reply.ensures.put,
      ),
    )

pub returns-in_err-put_line-in-Ok-Reply-clause-breaks_off : goal.returns-in_err-put_line-in-Ok-Reply-clause-breaks_off
returns-in_err-put_line-in-Ok-Reply-clause-breaks_off g c =
    let schema = g.V.CubeView.schema c.args.view.now in
    let stat = g.V.CubeView.numbers c.args.view.now in
    λ e. (
      false,
      sym (or-false c.args.lacked.now),
      (
        ∥∥₁_elim (g.met.V.CubeView.bag c.args.view.now).counted (Bool-set _ _) (λ p. reply_goes_on schema stat p.0 c.args.told c.args.parsed.now _ _ c.in-Ok-Reply.field-0-is (c.in-Ok-Reply.ensures.served p.0 p.1)),
        λ h counts. reply_some schema stat h c.args.told (omega (arith, c.requires.1, counts.number)) _ _ c.args.parsed.now _ _ c.as_slice.result.now c.in-Ok-Reply.field-0-is (c.in-Ok-Reply.ensures.served h counts) c.as_slice.ensures
            (c.in_err-put_line-in-Ok-Reply.ensures.part (broke_off _ _ c.from_residual.ensures.1 e)),
      ),
    )

pub returns-in-Ok-clause-goes_on : goal.returns-in-Ok-clause-goes_on
returns-in-Ok-clause-goes_on g c =
    let schema = g.V.CubeView.schema c.args.view.now in
    let stat = g.V.CubeView.numbers c.args.view.now in
    let asks = c.in-Err.ensures.no_memory in
    λ _. (
      true,
      sym (or-true c.args.lacked.now),
      (
        reply-goes_on c.args.parsed.now asks,
        λ h counts. lack_gains schema stat h c.args.told (omega (arith, c.requires.1, counts.number)) c.args.parsed.now asks _ _ c.as_bytes.result.now _ c.as_bytes.ensures.value c.no_memory_line.ensures c.in-Ok.ensures.put,
      ),
    )

pub returns-in-Err-Failed-clause-breaks_off : goal.returns-in-Err-Failed-clause-breaks_off
returns-in-Err-Failed-clause-breaks_off g c =
    let schema = g.V.CubeView.schema c.args.view.now in
    let stat = g.V.CubeView.numbers c.args.view.now in
    λ _. (
      true,
      sym (or-true c.args.lacked.now),
      (
        reply-goes_on c.args.parsed.now c.in-Err.ensures.no_memory,
        λ h counts. lack_some schema stat h c.args.told (omega (arith, c.requires.1, counts.number)) c.args.parsed.now c.in-Err.ensures.no_memory _ _ c.as_bytes.result.now _ c.as_bytes.ensures.value c.no_memory_line.ensures (c.in-Err-Failed.ensures.failed (cc)),
      ),
    )
