use Rattle.std.proofs.Common.{refl}
use Rattle.flat_session.specs.Answers.{basis_of}
use Rattle.flat_session.proofs.Gained.{lack_part, lack_puts, quit_served, reply_part, reply_puts, skipped_puts, wrote}
use Rattle.flat_session.proofs.answering.put_answer.Goals as goal

pub returns-in-Ok-Skipped-clause-goes_on : goal.returns-in-Ok-Skipped-clause-goes_on
returns-in-Ok-Skipped-clause-goes_on g c = λ _. skipped_puts (basis_of c.args.view.now) _ _ c.args.parsed.now _ c.in-Ok-Skipped.field-0-is c.in-Ok-Skipped.ensures.served

pub returns-in-Ok-Quit-clause-stops : goal.returns-in-Ok-Quit-clause-stops
returns-in-Ok-Quit-clause-stops g c = λ _. (quit_served (basis_of c.args.view.now) c.args.parsed.now _ c.in-Ok-Quit.field-0-is c.in-Ok-Quit.ensures.served, refl)

pub returns-in_ok-put_line-in-Ok-Reply-clause-goes_on : goal.returns-in_ok-put_line-in-Ok-Reply-clause-goes_on
returns-in_ok-put_line-in-Ok-Reply-clause-goes_on g c =
    λ _. reply_puts (basis_of c.args.view.now) _ _ _ c.args.parsed.now _ _ c.as_slice.result.now c.in-Ok-Reply.field-0-is c.in-Ok-Reply.ensures.served c.as_slice.ensures c.in_ok-put_line-in-Ok-Reply.ensures.put

pub returns-in_err-put_line-in-Ok-Reply-clause-breaks_off : goal.returns-in_err-put_line-in-Ok-Reply-clause-breaks_off
returns-in_err-put_line-in-Ok-Reply-clause-breaks_off g c =
    λ e. reply_part (basis_of c.args.view.now) _ _ _ c.args.parsed.now _ _ c.as_slice.result.now c.in-Ok-Reply.field-0-is c.in-Ok-Reply.ensures.served c.as_slice.ensures (c.in_err-put_line-in-Ok-Reply.ensures.part (wrote _ _ e c.from_residual-in_err-put_line-in-Ok-Reply.ensures.1))

pub returns-in_ok-put_line-in-Err-clause-goes_on : goal.returns-in_ok-put_line-in-Err-clause-goes_on
returns-in_ok-put_line-in-Err-clause-goes_on g c =
    λ _. lack_puts (basis_of c.args.view.now) c.args.parsed.now c.in-Err.ensures.no_memory _ _ c.as_bytes.result.now _ c.as_bytes.ensures.value c.no_memory_line.ensures c.in_ok-put_line-in-Err.ensures.put

pub returns-in_err-put_line-in-Err-clause-breaks_off : goal.returns-in_err-put_line-in-Err-clause-breaks_off
returns-in_err-put_line-in-Err-clause-breaks_off g c =
    λ e. lack_part (basis_of c.args.view.now) c.args.parsed.now c.in-Err.ensures.no_memory _ _ c.as_bytes.result.now _ c.as_bytes.ensures.value c.no_memory_line.ensures (c.in_err-put_line-in-Err.ensures.part (wrote _ _ e c.from_residual.ensures.1))
