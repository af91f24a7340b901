-- Operations, modes, kinds of replies and refusals are found by their names, and no other field finds one.
use Rattle.std.proofs.Common.{◌≡◌, ℕ, Bool, true, false, List, [], ◌∷◌, length, drop, drop-cons, get_or, add-one, ◌+◌, Result, Ok, Err, refl, sym, ap, ◌∙◌, arith}
use Rattle.std.specs.Prelude.{if◌then◌else◌, bytes_eq, nat_lt, ◌<◌}
use Rattle.std.specs.List.{list_all}
use Rattle.std.specs.Str.{is_utf8, IsAscii}
use Rattle.std.proofs.lemmas.Bool.{and_parts}
use Rattle.std.proofs.lemmas.Bool.Decides.{nat_tests}
use Rattle.std.proofs.lemmas.Slice.Eq.{bytes_eq-Decides}
use Rattle.std.proofs.lemmas.Str.{is_utf8-from_IsUtf8, IsUtf8-from_ascii}
use Rattle.std.proofs.lemmas.Str.Ascii.{IsAscii-nil, IsAscii-cons}
use Rattle.lock_modes.specs.declared.Mode.{Mode}
use Rattle.lock_modes.specs.declared.Mode.TheVariants.{NL, IS, IX, S, SIX, U, X}
use Rattle.lock_modes.specs.Codes.{name_of}
use Rattle.lock_rules.specs.declared.calls.Why.{Why}
use Rattle.lock_rules.specs.declared.calls.Why.TheVariants as why
use Rattle.lock_rules.specs.Names.{name_of_why}
use Rattle.lock_trace.specs.declared.faults.TraceKind.{TraceKind}
use Rattle.lock_trace.specs.declared.faults.TraceKind.TheVariants as kind
use Rattle.lock_rules.specs.declared.kinds.Op.{Op}
use Rattle.lock_rules.specs.declared.kinds.ReplyKind.{ReplyKind}
use Rattle.lock_modes.specs.declared.TheConstants.{MODES}
use Rattle.lock_rules.specs.declared.kinds.TheConstants.{OPS, REPLY_KINDS, REFUSALS}
use Rattle.lock_rules.specs.Kinds.{word_of, word_of_reply}
use Rattle.lock_trace.specs.Fields.{find_named, op_in, mode_in, reply_kind_in, why_in}

-- The field is the name of no item.
abbrev pub Misses : {A : Type 0} → (A → List ℕ) → List A → List ℕ → Type 0
Misses name [] bs = Unit {0}
Misses name (x ∷ xs) bs = (bs ≡ name x → ⊥) × Misses name xs bs

-- A field that is the name of no item is the fault.
pub named_none : {A : Type 0} (name : A → List ℕ) (fault : TraceKind) (xs : List A) (bs : List ℕ) → Misses name xs bs → find_named name fault xs bs ≡ Err fault
named_none name fault [] bs miss = refl
named_none {A} name fault (y ∷ ys) bs miss = cases (bytes_eq bs (name y)) refl (named_none name fault ys bs miss.1)
  where
    cases : (b : Bool) → bytes_eq bs (name y) ≡ b → find_named name fault ys bs ≡ Err fault → (if b then Ok y else find_named name fault ys bs) ≡ Err fault
    cases true is rest = absurd (miss.0 ((bytes_eq-Decides bs (name y)).0 is))
    cases false is rest = rest

-- The search goes on with the next item if the current one has another name.
pub passed_over : {A : Type 0} (name : A → List ℕ) (fault : TraceKind) (xs : List A) (i : ℕ) (d : A) (bs word : List ℕ) (found : Result A TraceKind) → i < length xs
    → word ≡ name (get_or xs i d) → bytes_eq bs word ≡ false → found ≡ find_named name fault (drop i xs) bs → found ≡ find_named name fault (drop (i + 1) xs) bs
passed_over {A} name fault xs i d bs word found lt is other so_far = so_far ∙ ap (λ (ys : List A). find_named name fault ys bs) (drop-cons xs i d lt) ∙ rw (← is, other, add-one i) refl

-- An `Ok` with the fault type fixed.
abbrev ok : {A : Type 0} → A → Result A TraceKind
ok a = Ok a

-- `Ok` is injective.
same_ok : {A : Type 0} (a b : A) → ok a ≡ ok b → a ≡ b
same_ok a b e = cc

-- The field is the name of the item that was found.
pub named_ok : {A : Type 0} (name : A → List ℕ) (fault : TraceKind) (xs : List A) (bs : List ℕ) (x : A) → find_named name fault xs bs ≡ Ok x → bs ≡ name x
named_ok name fault [] bs x e = absurd cc
named_ok {A} name fault (y ∷ ys) bs x e = cases (bytes_eq bs (name y)) refl (named_ok name fault ys bs x) e
  where
    cases : (b : Bool) → bytes_eq bs (name y) ≡ b → (find_named name fault ys bs ≡ Ok x → bs ≡ name x) → (if b then ok y else find_named name fault ys bs) ≡ ok x → bs ≡ name x
    cases true is later found = (bytes_eq-Decides bs (name y)).0 is ∙ ap name (same_ok y x found)
    cases false is later found = later found

-- The field of an operation is its word.
pub op_is : (bs : List ℕ) (o : Op) → op_in bs ≡ Ok o → bs ≡ word_of o
op_is bs o e = named_ok word_of kind.Op OPS bs o e

-- The field of a mode is its name.
pub mode_is : (bs : List ℕ) (m : Mode) → mode_in bs ≡ Ok m → bs ≡ name_of m
mode_is bs m e = named_ok name_of kind.Mode MODES bs m e

-- The name of a mode finds that mode.
pub mode_by_name : (m : Mode) (bs : List ℕ) → bs ≡ name_of m → mode_in bs ≡ Ok m
mode_by_name NL bs e = rw e refl
mode_by_name IS bs e = rw e refl
mode_by_name IX bs e = rw e refl
mode_by_name S bs e = rw e refl
mode_by_name SIX bs e = rw e refl
mode_by_name U bs e = rw e refl
mode_by_name X bs e = rw e refl

-- A list of bytes below 128 is ASCII.
ascii_by_test : (bs : List ℕ) → list_all (λ b. nat_lt b 128) bs ≡ true → IsAscii bs
ascii_by_test [] e = IsAscii-nil
ascii_by_test (b ∷ bs) e =
    let parts = and_parts (nat_lt b 128) (list_all (λ b. nat_lt b 128) bs) e in
    IsAscii-cons b bs (below b parts.0) (ascii_by_test bs parts.1)
  where
    below : (b : ℕ) → nat_lt b 128 ≡ true → b < 128
    below b is = grind (arith, nat_tests)

-- A list of bytes below 128 is UTF-8.
pub is_text : (bs : List ℕ) → list_all (λ b. nat_lt b 128) bs ≡ true → is_utf8 bs ≡ true
is_text bs e = is_utf8-from_IsUtf8 bs (IsUtf8-from_ascii bs (ascii_by_test bs e))

-- The field of a kind of reply is its word.
pub reply_word_is : (bs : List ℕ) (w : ReplyKind) → reply_kind_in bs ≡ Ok w → bs ≡ word_of_reply w
reply_word_is bs w e = named_ok word_of_reply kind.Reply REPLY_KINDS bs w e

-- The field of a reason of a refusal is its name.
pub why_is : (bs : List ℕ) (w : Why) → why_in bs ≡ Ok w → bs ≡ name_of_why w
why_is bs w e = named_ok name_of_why kind.Value REFUSALS bs w e

-- The name of a reason of a refusal finds that reason.
pub why_by_name : (w : Why) (bs : List ℕ) → bs ≡ name_of_why w → why_in bs ≡ Ok w
why_by_name why.AlreadyOpen bs e = rw e refl
why_by_name why.NoTransaction bs e = rw e refl
why_by_name why.IsWaiting bs e = rw e refl
why_by_name why.IsDoomed bs e = rw e refl
why_by_name why.NothingAsked bs e = rw e refl
why_by_name why.NotHeld bs e = rw e refl
why_by_name why.ParentNotHeld bs e = rw e refl
why_by_name why.ChildHeld bs e = rw e refl
why_by_name why.TooManyLocks bs e = rw e refl
why_by_name why.WouldWait bs e = rw e refl
why_by_name why.NotWaiting bs e = rw e refl

-- The names of reasons of a refusal are UTF-8.
why_text : (w : Why) → is_utf8 (name_of_why w) ≡ true
why_text why.AlreadyOpen = is_text _ refl
why_text why.NoTransaction = is_text _ refl
why_text why.IsWaiting = is_text _ refl
why_text why.IsDoomed = is_text _ refl
why_text why.NothingAsked = is_text _ refl
why_text why.NotHeld = is_text _ refl
why_text why.ParentNotHeld = is_text _ refl
why_text why.ChildHeld = is_text _ refl
why_text why.TooManyLocks = is_text _ refl
why_text why.WouldWait = is_text _ refl
why_text why.NotWaiting = is_text _ refl

-- A field that is no reason's name has the fault Value.
pub no_why : (bs : List ℕ) → ((w : Why) → bs ≡ name_of_why w → ⊥) → why_in bs ≡ Err kind.Value
no_why bs none =
    named_none name_of_why kind.Value REFUSALS bs
    (none why.AlreadyOpen, (none why.NoTransaction, (none why.IsWaiting, (none why.IsDoomed, (none why.NothingAsked, (none why.NotHeld, (none why.ParentNotHeld, (none why.ChildHeld, (none why.TooManyLocks, (none why.WouldWait, (none why.NotWaiting, tt)))))))))))

-- A field that is not UTF-8 has the fault Value, as a reason of a refusal.
pub no_text_no_why : (bs : List ℕ) → is_utf8 bs ≡ false → why_in bs ≡ Err kind.Value
no_text_no_why bs not = no_why bs (λ w e. let is : is_utf8 bs ≡ true = ap is_utf8 e ∙ why_text w in let bad : true ≡ false = sym is ∙ not in cc)
