use Rattle.glm.proofs.Silent.{silent, silent_always, silent_in_pieces}
use Rattle.glm.proofs.Streams.{kept_by_outcome, standard}
use Rattle.glm.proofs.commands.program_with_hints.Goals as goal

pub returns : goal.returns
returns c c' = record {
  outcome = (c'.outcome_of.result, c'.status.ensures.outcome, c'.outcome_of.ensures);
  standard = λ reads writes whole. (c'.outcome_of.result, c'.status.ensures.outcome, standard _ _ _ _ c'.outcome_of.result reads writes whole c'.outcome_of.ensures);
  status_is = c'.status.ensures.status;
  silent = λ whole run shell done illegal device.
      kept_by_outcome _ _ _ _ c'.outcome_of.result c'.outcome_of.ensures
      (λ read before after did. silent _ read before after c'.outcome_of.result c'.status.result c'.status.ensures.outcome did whole run shell done illegal device);
  silent_in_pieces = λ run done illegal device memory.
      kept_by_outcome _ _ _ _ c'.outcome_of.result c'.outcome_of.ensures
      (λ read before after did. silent_in_pieces _ read before after c'.outcome_of.result c'.status.result c'.status.ensures.outcome did run done illegal device memory);
  silent_always = λ done illegal device memory stopped.
      kept_by_outcome _ _ _ _ c'.outcome_of.result c'.outcome_of.ensures
      (λ read before after did. silent_always _ read before after c'.outcome_of.result c'.status.result c'.status.ensures.outcome did done illegal device memory stopped);
}
