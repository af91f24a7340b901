-- A legal history in which each session finds its calls is one history of them.
use Rattle.std.proofs.Common.{◌≡◌, ℕ, ◌↔◌, List}
use Rattle.std.specs.Prelude.{All, Any, Contains}
use Rattle.lock_rules.specs.Entries.{Entry, Answered}
use Rattle.lock_rules.specs.Legal.{IsLegal}
use Rattle.lock_rules.proofs.Histories.{legal-steps}
use Rattle.lock_rules.proofs.Lawful.{lawful}
use Rattle.lock_rules.proofs.Grants.{grant-stands}
use Rattle.lock_rules.proofs.DoomsStand.{doom-stands}
use Rattle.lock_rules.proofs.RequestsStand.{request-stands}
use Rattle.sequential.specs.Histories.{IsEntryOf, ArePlacesRising}
use Rattle.lock_office.specs.by_calls.OneHistory.{IsOneHistoryOf}

pub one-history-of : {T : Type 0} (number : T → ℕ) (collected : T → List Answered) (sessions : List T) (h : List Entry) → IsLegal h
    → All (λ session. (a : Answered) → Contains (collected session) a ↔ IsEntryOf (number session) h a) sessions
    → All (λ session. ArePlacesRising (collected session)) sessions → All (λ entry. Any (λ session. number session ≡ entry.session) sessions) h
    → IsOneHistoryOf number collected sessions h
one-history-of number collected sessions h legal entries in_order whose = record {
  replies = legal-steps h legal;
  modes = λ front rest _. (lawful front).holders_compatible;
  access = λ front rest _. (lawful front).access_compatible;
  circles = λ front rest _. (lawful front).no_circle;
  lawful = λ front rest _. lawful front;
  grants = λ front later rest _. grant-stands front later;
  dooms = λ front later rest _. doom-stands front later;
  requests = λ front later rest _. request-stands front later;
  entries = entries;
  in_order = in_order;
  whose = whose;
}
