-- A call of a session that has its reply.
use Rattle.std.specs.Prelude.{◌≡◌, ℕ, ◌≤◌, [], ◌∷◌, ◌++◌, take}
use mathlib.Core.Option as opt
use mathlib.Core.List.{IsPrefix}
use lib.ListN.{get_elem?}
use Rattle.sequential.specs.Histories.{calls_of}
use Rattle.publication.specs.Views.{TicketView, entry, answer}
use Rattle.flat_combining.specs.declared.machine.Machine.{Ghosts}
use Rattle.flat_combining.specs.Runs.{reply_behind}

module _ {S C R : Type 0} (machine : Ghosts S C R) where
  -- The call of the session, made when it knew `floor` entries of the history, has this reply.
  pub record HasReply (before after : TicketView C R) (call : C) (floor : ℕ) (reply : R) : Type 0 where
    -- its entry is at this place of the history, behind all that the session knew
    pub place : ℕ
    pub late : floor ≤ place
    pub stands : get_elem? after.front place ≡ opt.some (entry before.number call reply)
    -- the reply is the only one that the machine gives there, behind the calls before it
    pub only : reply ≡ reply_behind machine (take place after.front) before.number call
    -- the session knows the history up to there, which goes on from what it knew
    pub longer : IsPrefix before.front after.front
    -- in it are the session's calls, in the order in which it made them, with this one as the last
    pub calls : calls_of before.number after.front ≡ before.collected ++ answer place call reply ∷ []
    pub collected : after.collected ≡ calls_of before.number after.front
