-- A combiner that performs a call of its own, without its record.
use Rattle.std.specs.Prelude.{◌≡◌, ℕ, ◌+◌, Bool, cond, List, [], ◌∷◌, ◌++◌, length}
use Rattle.std.specs.List.{range_with_len}
use Rattle.sequential.specs.declared.entry.Entry.{Entry}
use Rattle.publication.specs.Views.{TicketView, entry, answer}

module _ {C R : Type 0} where
  -- The call was performed and entered directly: its entry is the last one, and its answer is collected.
  pub record IsOwnEntered (before after : TicketView C R) (call : C) (place : ℕ) (reply : R) : Type 0 where
    pub session : after ≡ record before {
      front = before.front ++ entry before.number call reply ∷ [];
      collected = before.collected ++ answer place call reply ∷ [];
      entered = before.entered ++ place ∷ [];
    }
    pub place_is : place ≡ length before.front

  -- A pass in which the combiner performed this call, and `served` calls that were published: ahead of it or behind it.
  pub record IsPassWithOwn (first : Bool) (before after : TicketView C R) (call : C) (place : ℕ) (reply : R) (served : ℕ) : Type 0 where
    pub session : after ≡ record before {
      front = after.front;
      collected = before.collected ++ answer place call reply ∷ [];
      route = after.route;
      put_backs = after.put_backs;
      entered = after.entered;
    }
    pub entered : after.entered ≡ before.entered ++ range_with_len (length before.front) (served + 1)
    pub ahead : List (Entry C R)
    pub behind : List (Entry C R)
    pub front : after.front ≡ (before.front ++ ahead) ++ entry before.number call reply ∷ behind
    pub place_is : place ≡ length (before.front ++ ahead)
    pub count : length ahead + length behind ≡ served
    pub order : cond first ahead behind ≡ []
