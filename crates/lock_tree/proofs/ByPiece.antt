-- The reader of a resource, piece by piece.
use Rattle.std.proofs.Common.{◌≡◌, ℕ, ◌+◌, ◌-◌, ◌<◌, ◌≤◌, false, List, [], ◌∷◌, ◌++◌, length, map, take, drop, set, replicate, refl, sym, ap, ◌∙◌, arith, Option, Some, None, Result, Ok, Err, subst}
use Rattle.std.specs.Prelude.{count_by}
use Rattle.std.specs.List.{after_first, position_or_len}
use Rattle.std.specs.Option.{option_or}
use Rattle.std.specs.Result.{result_unwrap_or, result_err}
use Rattle.std.proofs.lemmas.List.{length-set, length-take, take_all, take_more_set, take_rest, drop-drop, append_assoc, append-nil}
use Rattle.std.proofs.lemmas.List.Elements.{All-from_get_or}
use Rattle.std.proofs.lemmas.List.Sums.{fails_before_first}
use Rattle.std.proofs.lemmas.List.Splits.{slice_split_none, slice_split_first, length-slice_split}
use Rattle.lock_tree.specs.declared.levels.TheConstants.{LEVELS}
use Rattle.lock_tree.specs.declared.path_fault.PathFault.{PathFault}
use Rattle.lock_tree.specs.declared.path_fault.PathFault.TheVariants.{TooDeep}
use Rattle.lock_tree.specs.Text.{is_slash, pieces_of}
use Rattle.lock_tree.specs.inner.Pieces.{first_piece, reading_of_piece}
use Rattle.lock_tree.specs.Numerals.{number_of, ok_unless}
use Rattle.lock_tree.specs.Faults.{fault_of_piece, first_fault, fault_of}
use Rattle.lock_tree.specs.Readings.{numbers_in, reading_of}
use Rattle.lock_tree.proofs.Texts.{fault_deep, fault_in_piece}

-- what the reader knows after `level` pieces, with the pieces `left` to come: the numbers so far, and the first fault
pub record IsReadTo (bytes : List ℕ) (level : ℕ) (numbers : List ℕ) (fault : Option PathFault) (left : List (List ℕ)) : Type 0 where
  pub first : first_fault (pieces_of bytes) ≡ option_or fault (first_fault left)
  pub values : fault ≡ None → numbers_in bytes ≡ take level numbers ++ map number_of left
  pub full : length numbers ≡ LEVELS
  pub count : count_by is_slash bytes + 1 ≡ level + length left

-- it holds before the first piece
pub at_start : (bytes : List ℕ) → IsReadTo bytes 0 (replicate LEVELS 0) None (pieces_of bytes)
at_start bytes = record {
  first = refl;
  values = λ e. refl;
  full = refl;
  count = sym (length-slice_split is_slash bytes) ∙ omega arith;
}

-- the first of three faults, in either grouping
either : (a b c : Option PathFault) → option_or (option_or a b) c ≡ option_or a (option_or b c)
either None b c = refl
either (Some f) b c = refl

-- what the reader keeps of a piece: its number, or 0 if it is faulty, and the first fault so far
pub record IsKept (piece : List ℕ) (fault : Option PathFault) (number : Result ℕ PathFault) (value : ℕ) (err after : Option PathFault) : Type 0 where
  pub number_is : number ≡ reading_of_piece piece
  pub value_is : value ≡ result_unwrap_or number 0
  pub err_is : err ≡ result_err number
  pub after_is : after ≡ option_or fault err

-- the error of a reading is its fault
err_of : (f : Option PathFault) (n : ℕ) → result_err (ok_unless f n) ≡ f
err_of None n = refl
err_of (Some f) n = refl

-- if there is no fault so far and none in the piece, its number is read
neither : (a : Option PathFault) (f : Option PathFault) (n : ℕ) → option_or a f ≡ None → (a ≡ None) × (result_unwrap_or (ok_unless f n) 0 ≡ n)
neither None None n e = (refl, refl)
neither None (Some f) n e = absurd cc
neither (Some g) f n e = absurd cc

-- it holds after one more piece
pub one_more : (bytes : List ℕ) (level : ℕ) (numbers : List ℕ) (fault : Option PathFault) (left : List (List ℕ)) (p : List ℕ) (ps : List (List ℕ)) (number : Result ℕ PathFault) (value : ℕ) (err after : Option PathFault)
    → left ≡ p ∷ ps → level < LEVELS → IsKept p fault number value err after → IsReadTo bytes level numbers fault left → IsReadTo bytes (level + 1) (set numbers level value) after ps
one_more bytes level numbers fault left p ps number value err after is_left lt kept so_far =
    let h : IsReadTo bytes level numbers fault (p ∷ ps) = subst (IsReadTo bytes level numbers fault) is_left so_far in
    let room : level < length numbers = omega (arith, h.full) in
    let of_piece : err ≡ fault_of_piece p = kept.err_is ∙ ap result_err kept.number_is ∙ err_of (fault_of_piece p) (number_of p) in
    let first : after ≡ option_or fault (fault_of_piece p) = kept.after_is ∙ ap (option_or fault) of_piece in
    record {
      first = h.first ∙ rw first (sym (either fault (fault_of_piece p) (first_fault ps)));
      values = λ none.
          let parts = neither fault (fault_of_piece p) (number_of p) (sym first ∙ none) in
          let value_is : value ≡ number_of p = kept.value_is ∙ ap (λ (x : Result ℕ PathFault). result_unwrap_or x 0) kept.number_is ∙ parts.1 in
          h.values parts.0 ∙ rw (take_more_set numbers level value room, value_is) (sym (append_assoc (take level numbers) (number_of p ∷ []) (map number_of ps)));
      full = length-set numbers level value ∙ h.full;
      count = h.count ∙ omega arith;
    }

-- the pieces of a text with a `/` are its first piece and those behind the `/`
pub next_piece_is : (rest : List ℕ) → (length (first_piece rest) ≡ length rest → ⊥) → pieces_of rest ≡ first_piece rest ∷ pieces_of (after_first is_slash rest)
next_piece_is rest more = slice_split_first is_slash rest 0 (omega (arith, length-take (position_or_len is_slash rest) rest, more))

-- the bytes behind the `/` that follows n bytes
abbrev pub after_slash : List ℕ → ℕ → List ℕ
after_slash rest n = let left = take (length rest - n) (drop n rest) in take (length left - 1) (drop 1 left)

-- they are the text behind the first `/`
pub after_slash_is : (rest : List ℕ) (n : ℕ) → n ≡ length (first_piece rest) → (n ≡ length rest → ⊥) → after_slash rest n ≡ after_first is_slash rest
after_slash_is rest n is more =
    let at : n + 1 ≡ position_or_len is_slash rest + 1 = omega (arith, length-take (position_or_len is_slash rest) rest, is, more) in
    let left = take (length rest - n) (drop n rest) in
    take_rest left 1 ∙ ap (drop 1) (take_rest rest n) ∙ drop-drop 1 n rest ∙ ap (λ (k : ℕ). drop k rest) at

-- a text without a `/` is one piece
last_piece_is : (rest : List ℕ) → length (first_piece rest) ≡ length rest → pieces_of rest ≡ first_piece rest ∷ []
last_piece_is rest end =
    let all : length rest ≤ position_or_len is_slash rest = omega (arith, length-take (position_or_len is_slash rest) rest, end) in
    slice_split_none is_slash rest (All-from_get_or (λ b. is_slash b ≡ false) rest 0 (λ i lt. fails_before_first is_slash rest i 0 (omega (arith, all, lt))))
    ∙ ap (λ (p : List ℕ). p ∷ []) (sym (take_all (position_or_len is_slash rest) rest all))

-- it holds after the last piece
pub read_last : (bytes : List ℕ) (level : ℕ) (numbers : List ℕ) (fault : Option PathFault) (rest : List ℕ) (number : Result ℕ PathFault) (value : ℕ) (err after : Option PathFault)
    → length (first_piece rest) ≡ length rest → level < LEVELS → IsKept (first_piece rest) fault number value err after → IsReadTo bytes level numbers fault (pieces_of rest) → IsReadTo bytes (level + 1) (set numbers level value) after []
read_last bytes level numbers fault rest number value err after end lt kept h = one_more bytes level numbers fault (pieces_of rest) (first_piece rest) [] number value err after (last_piece_is rest end) lt kept h

-- after the last piece the numbers or the first fault are the reading of the text
pub at_end : (bytes : List ℕ) (level : ℕ) (numbers : List ℕ) (fault : Option PathFault) → level ≤ LEVELS → IsReadTo bytes level numbers fault [] → ok_unless fault (take level numbers) ≡ reading_of bytes
at_end bytes level numbers fault le h =
    let flat : count_by is_slash bytes < LEVELS = omega (arith, h.count, le) in
    let same : fault_of bytes ≡ option_or fault None = fault_in_piece bytes flat ∙ h.first in
    cases fault same h.values
  where
    cases : (f : Option PathFault) → fault_of bytes ≡ option_or f None → (f ≡ None → numbers_in bytes ≡ take level numbers ++ []) → ok_unless f (take level numbers) ≡ reading_of bytes
    cases None same values = rw same (ap (λ (ns : List ℕ). Ok ns) (sym (values refl ∙ append-nil (take level numbers))))
    cases (Some g) same values = rw same refl

-- if there are pieces left after LEVELS pieces, the text is too deep
pub too_deep : (bytes : List ℕ) (level : ℕ) (numbers : List ℕ) (fault : Option PathFault) (rest : List ℕ) → LEVELS ≤ level → IsReadTo bytes level numbers fault (pieces_of rest) → Err TooDeep ≡ reading_of bytes
too_deep bytes level numbers fault rest le h =
    let deep = fault_deep bytes (omega (arith, h.count, length-slice_split is_slash rest)) in
    rw deep refl
