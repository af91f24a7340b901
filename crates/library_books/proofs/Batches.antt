-- Lists of items that numbers encode.
use Rattle.std.proofs.Common.{◌≡◌, ℕ, zero, suc, ◌<◌, List, [], ◌∷◌, ◌++◌, length, take, drop, map, get_or, refl, ap, arith}
use Rattle.lock_rules.specs.Entries.{Entry}
use Rattle.lock_rules.specs.State.{State}
use Rattle.lock_rules.specs.Step.{step}
use Rattle.lock_desk.specs.Batches.{Item, entries_from}
use Rattle.sequential.specs.Batches.{IsItemWithin, item_of}
use Rattle.lock_desk.specs.BookView.{BookView}
use Rattle.library_books.specs.declared.numbers.EntryNumbers.{EntryNumbers}
use Rattle.library_books.specs.Numbers.{numbers_of_entry}
use Rattle.library_books.specs.Calls.{written}
use Rattle.library_books.specs.Batches.{IsItem, AreItems, IsItemFault, IsFirstFault}
use Rattle.library_books.specs.inner.Items.{numbers_of_item}

-- one more item is read
pub next_item : (book : BookView) (k : ℕ) (ns : List EntryNumbers) (is : List Item) (d : EntryNumbers) (i : Item) → k < length ns
    → AreItems book (take k ns) is → IsItem book (get_or ns k d) i → AreItems book (take (suc k) ns) (is ++ i ∷ [])
next_item book k [] is d i h are one = absurd (omega (arith, h))
next_item book zero (n ∷ ns) [] d i h are one = (one, tt)
next_item book zero (n ∷ ns) (j ∷ is) d i h are one = absurd are
next_item book (suc k) (n ∷ ns) [] d i h are one = absurd are
next_item book (suc k) (n ∷ ns) (j ∷ is) d i h are one = (are.0, next_item book k ns is d i (omega (arith, h)) are.1 one)

-- a list is its front, the element behind it, and the rest
pub parts : {X : Type 0} (k : ℕ) (xs : List X) (d : X) → k < length xs → xs ≡ take k xs ++ get_or xs k d ∷ drop (suc k) xs
parts k [] d h = absurd (omega (arith, h))
parts zero (x ∷ xs) d h = refl
parts (suc k) (x ∷ xs) d h = ap (λ rest. x ∷ rest) (parts k xs d (omega (arith, h)))

-- the first fault is the one behind items that were read
pub first_fault : (book : BookView) (k : ℕ) (ns : List EntryNumbers) (is : List Item) (d : EntryNumbers) (fault : ℕ) → k < length ns
    → AreItems book (take k ns) is → IsItemFault book (get_or ns k d) fault → IsFirstFault book ns fault
first_fault book k ns is d fault h are is_fault = (take k ns, get_or ns k d, drop (suc k) ns, parts k ns d h, (is, are), is_fault)

-- there are as many items as numbers
pub as_many : (book : BookView) (ns : List EntryNumbers) (is : List Item) → AreItems book ns is → length is ≡ length ns
as_many book [] [] are = refl
as_many book [] (i ∷ is) are = absurd are
as_many book (n ∷ ns) [] are = absurd are
as_many book (n ∷ ns) (i ∷ is) are = ap suc (as_many book ns is are.1)

-- each item is of a session of the book
pub are_within : (book : BookView) (ns : List EntryNumbers) (is : List Item) → AreItems book ns is
    → (k : ℕ) (d : Item) → k < length is → IsItemWithin book.sessions (get_or is k d)
are_within book ns [] are k d h = absurd (omega (arith, h))
are_within book [] (i ∷ is) are k d h = absurd are
are_within book (n ∷ ns) (i ∷ is) are zero d h =
    record { some = omega (arith, are.0.known.0, are.0.session); within = omega (arith, are.0.known.1, are.0.session) }
are_within book (n ∷ ns) (i ∷ is) are (suc k) d h = are_within book ns is are.1 k d (omega (arith, h))

-- as many entries as calls
pub as_many_entries : (st : State) (is : List Item) → length (entries_from st is) ≡ length is
as_many_entries st [] = refl
as_many_entries st (i ∷ is) = ap suc (as_many_entries (step st i.session i.call).state is)

-- the numbers of the items of entries are those of the entries
pub written_entries : (es : List Entry) (rest : List Item) (places : List EntryNumbers)
    → written numbers_of_item (length es) (map item_of es ++ rest) places ≡ written numbers_of_entry (length es) es places
written_entries es rest places = ap (λ front. front ++ drop (length es) places) (fronts es rest)
  where
    fronts : (es : List Entry) (rest : List Item) → map numbers_of_item (take (length es) (map item_of es ++ rest)) ≡ map numbers_of_entry (take (length es) es)
    fronts [] rest = refl
    fronts (e ∷ es) rest = ap (λ more. numbers_of_entry e ∷ more) (fronts es rest)
