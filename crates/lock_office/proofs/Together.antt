-- What the sessions of a board were told of locks goes together, in every state with the rule.
use Rattle.std.proofs.Common.{ℕ, Option, List}
use Rattle.lock_modes.specs.declared.Mode.{Mode}
use Rattle.lock_rules.specs.State.{State}
use Rattle.lock_rules.specs.Legal.{state_of}
use Rattle.lock_rules.specs.Laws.{DoesRefusalKeep, HoldsAtLeast}
use Rattle.publication.specs.Collected.{HasCollected}
use Rattle.publication.proofs.RealTime.{accounted}
use Rattle.lock_office.proofs.by_calls.ToldTogether.{modes-together, none-beside, access-apart}
use Rattle.lock_office.specs.ProgramBoards.{AnsweredProgram, Pending, BoardState, IsRuled, flat_history, history_of, program_object}
use Rattle.lock_office.specs.HoldsAsTold.{HoldsAsTold, ToldModesGoTogether, IsToldExclusive, IsToldAccessCompatible}
use Rattle.lock_office.proofs.Held.{held}
use Rattle.lock_office.proofs.InTime.{board-legal}

module _ (refuses : (st : State) → DoesRefusalKeep st) (s : BoardState) (ruled : IsRuled s) where
  -- what a session was told that it holds is held
  pub told-held-there : (i : ℕ) (answers : List AnsweredProgram) (pending : Option Pending) → HasCollected s i answers pending
      → (r : List ℕ) (m : Mode) → HoldsAsTold answers pending r m → HoldsAtLeast (state_of (flat_history (history_of s))).table i r m
  told-held-there i answers pending has = held refuses (history_of s) (board-legal s ruled) i answers pending (accounted {obj = program_object} s ruled i answers pending has)

  pub together : ToldModesGoTogether s
  together i j mine theirs my_pending their_pending ne a b =
      modes-together (flat_history (history_of s)) i j ne (HoldsAsTold mine my_pending) (HoldsAsTold theirs their_pending)
      (told-held-there i mine my_pending a) (told-held-there j theirs their_pending b)

  pub exclusive : IsToldExclusive s
  exclusive i j mine theirs my_pending their_pending ne a b =
      none-beside (flat_history (history_of s)) i j ne (HoldsAsTold mine my_pending) (HoldsAsTold theirs their_pending)
      (told-held-there i mine my_pending a) (told-held-there j theirs their_pending b)

  pub apart : IsToldAccessCompatible s
  apart i j mine theirs my_pending their_pending ne a b =
      access-apart (flat_history (history_of s)) i j ne (HoldsAsTold mine my_pending) (HoldsAsTold theirs their_pending)
      (told-held-there i mine my_pending a) (told-held-there j theirs their_pending b)
