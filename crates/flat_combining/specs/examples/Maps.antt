-- What an ordered map is: its keys with their values, in the keys' order. Lookups, insertions and removals in such a list are
-- those of the kit's map.
use Rattle.std.specs.Prelude.{ℕ, Option, Some, None, is_some, cond, List, [], ◌∷◌}
use Rattle.std.specs.Ordering.{nat_cmp}
use Rattle.std.specs.BTreeMap.{insert_entry, is_at}
use Rattle.std.specs.Map.{lookup, remove_entry}
use Rattle.flat_combining.specs.declared.examples.ordered_map.MapCall.{MapCall}
use Rattle.flat_combining.specs.declared.examples.ordered_map.MapCall.TheVariants.{Add, Take, Get, First}
use Rattle.flat_combining.specs.declared.examples.ordered_map.MapReply.{MapReply}
use Rattle.flat_combining.specs.declared.examples.ordered_map.MapReply.TheVariants.{Added, Present, Taken, Found, Absent}

-- The value of the key, if it is in the map.
abbrev pub value_of : ℕ → List (ℕ × ℕ) → Option ℕ
value_of key = lookup (is_at (nat_cmp key))

-- The map after a call: a key is added that wasn't there, or taken out.
abbrev pub entries_after : List (ℕ × ℕ) → MapCall → List (ℕ × ℕ)
entries_after entries (Add key value) = cond (is_some (value_of key entries)) entries (insert_entry nat_cmp entries key value)
entries_after entries (Take key) = remove_entry (is_at (nat_cmp key)) entries
entries_after entries (Get key) = entries
entries_after entries First = entries

-- The replies, by what was found.

abbrev pub reply_to_add : Option ℕ → MapReply
reply_to_add (Some value) = Present value
reply_to_add None = Added

abbrev pub reply_to_take : Option ℕ → MapReply
reply_to_take (Some value) = Taken value
reply_to_take None = Absent

abbrev pub reply_to_get : ℕ → Option ℕ → MapReply
reply_to_get key (Some value) = Found key value
reply_to_get key None = Absent

-- The reply to a call.
abbrev pub reply_of : List (ℕ × ℕ) → MapCall → MapReply
reply_of entries (Add key value) = reply_to_add (value_of key entries)
reply_of entries (Take key) = reply_to_take (value_of key entries)
reply_of entries (Get key) = reply_to_get key (value_of key entries)
reply_of [] First = Absent
reply_of (entry ∷ entries) First = Found entry.0 entry.1
