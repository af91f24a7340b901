-- A batch leaves the replies and the entries that its calls leave when they are served one after another.
use Rattle.std.specs.Prelude.{◌≡◌, ℕ, ◌≤◌, List, ◌++◌, map, take, drop, Some}
use Rattle.sequential.specs.declared.entry.Entry.{Entry}
use Rattle.sequential.specs.declared.entry.Item.{Item}

module _ {C R : Type 0} where
  -- The item is of one of the sessions 1 to `sessions`.
  pub record IsItemWithin (sessions : ℕ) (i : Item C R) : Type 0 where
    pub some : 1 ≤ i.session
    pub within : i.session ≤ sessions

  -- The item of a served call: the entry with its reply.
  abbrev pub item_of : Entry C R → Item C R
  item_of e = record { session = e.session; call = e.call; reply = Some e.reply }

  -- Who asks what in these items, in order.
  abbrev pub asked_by : List (Item C R) → List (ℕ × C)
  asked_by items = map (λ item. (item.session, item.call)) items

  -- Who asked what in these entries, in order.
  abbrev pub asked_in : List (Entry C R) → List (ℕ × C)
  asked_in entries = map (λ entry. (entry.session, entry.call)) entries

  -- The first `served` calls of the batch `old` were served in order: each has an entry behind those of the history
  -- `before`, and its item in `new` has the entry's reply. The other items are unchanged.
  pub record IsBatch (before after : List (Entry C R)) (old new : List (Item C R)) (served : ℕ) : Type 0 where
    pub entries : List (Entry C R)
    pub history : after ≡ before ++ entries
    pub asked : asked_in entries ≡ asked_by (take served old)
    pub items : new ≡ map item_of entries ++ drop served old
