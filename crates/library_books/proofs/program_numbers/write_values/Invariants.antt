use Rattle.std.proofs.Common.{◌≡◌}
use Rattle.lock_programs.specs.Answers.{replies_of}
use Rattle.library_books.specs.Calls.{written}
use Rattle.library_books.specs.Programs.{value_of_reply}
use Rattle.library_books.proofs.program_numbers.write_values.Given as goal

abbrev pub invariant-loop-k : goal.invariant-loop-k
invariant-loop-k l = l.places ≡ written value_of_reply l.k (replies_of l.program l.answer) l.initial.places
