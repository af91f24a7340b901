use Rattle.glm.proofs.commands.program.Goals as goal

-- what the program has done with hints as asked for
pub returns : goal.returns
returns c c' = record {
  outcome = c'.program_with_hints.ensures.outcome;
  standard = c'.program_with_hints.ensures.standard;
  status = c'.program_with_hints.ensures.status_is;
  silent = c'.program_with_hints.ensures.silent;
  silent_in_pieces = c'.program_with_hints.ensures.silent_in_pieces;
  silent_always = c'.program_with_hints.ensures.silent_always;
}
