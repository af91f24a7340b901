-- The items of a batch as numbers.
use Rattle.std.specs.Prelude.{Option, Some, None}
use Rattle.lock_rules.specs.declared.calls.Reply.{Reply}
use Rattle.lock_desk.specs.Batches.{Item}
use Rattle.library_books.specs.declared.numbers.EntryNumbers.{EntryNumbers}
use Rattle.library_books.specs.declared.numbers.ReplyNumbers.{ReplyNumbers}
use Rattle.library_books.specs.Numbers.{numbers_of_call, numbers_of_reply}

-- the numbers of the reply of an item, all 0 if it has none
abbrev pub numbers_of_some_reply : Option Reply → ReplyNumbers
numbers_of_some_reply None = record { kind = 0; value = 0 }
numbers_of_some_reply (Some r) = numbers_of_reply r

-- the numbers of an item
abbrev pub numbers_of_item : Item → EntryNumbers
numbers_of_item i = record { session = i.session; call = numbers_of_call i.call; reply = numbers_of_some_reply i.reply }
