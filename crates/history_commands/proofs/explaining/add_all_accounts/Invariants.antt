use Rattle.std.proofs.Common.{◌≡◌, [], take}
use Rattle.lock_rules.specs.Legal.{IsLegal}
use Rattle.history_commands.specs.Explaining.{AreAccounts}
use Rattle.history_commands.proofs.explaining.add_all_accounts.Given as goal

-- the entries so far are legal and are the history of both books, and the text has their accounts
abbrev pub invariant-loop-place : goal.invariant-loop-place
invariant-loop-place l = record {
  behind : l.before.history ≡ take l.place l.history.entries.now;
  ahead : l.after.history ≡ take l.place l.history.entries.now;
  sessions : l.before.sessions ≡ l.fn.before.sessions;
  others : l.after.sessions ≡ l.fn.before.sessions;
  legal : IsLegal (take l.place l.history.entries.now);
  accounts : AreAccounts l.history.form l.fn.before.sessions [] (take l.place l.history.entries.now) l.text.items;
}
