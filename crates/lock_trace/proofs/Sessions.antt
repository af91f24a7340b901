-- A session is read from exactly one text.
use Rattle.std.proofs.Common.{◌≡◌, ◌↔◌, ℕ, ◌<◌, ◌≤◌, ◌^◌, Bool, true, false, List, Result, Ok, Err, refl, ap, ◌∙◌, subst, arith, ne_eqb}
use Rattle.std.specs.Prelude.{if◌then◌else◌, ◌==◌, decimal}
use Rattle.std.proofs.lemmas.Bool.{eqb-false}
use Rattle.lock_tree.specs.declared.numeral.NumeralFault.{NumeralFault}
use Rattle.lock_tree.specs.Numerals.{reading_of_numeral}
use Rattle.lock_tree.proofs.Numerals.{reading_iff}
use Rattle.lock_trace.specs.declared.faults.TraceKind.{TraceKind}
use Rattle.lock_trace.specs.declared.faults.TraceKind.TheVariants as kind
use Rattle.lock_trace.specs.Fields.{above_zero, session_in, IsSessionText}

-- An `Ok` with the fault type fixed.
abbrev ok : ℕ → Result ℕ TraceKind
ok a = Ok a

-- `Ok` is injective.
same_ok : (a b : ℕ) → ok a ≡ ok b → a ≡ b
same_ok a b e = cc

-- A number that passes the test for 0 is positive and unchanged.
read_number : (b : Bool) (a s : ℕ) → (a == 0) ≡ b → (if b then Err kind.Session else ok a) ≡ ok s → (0 < a) × (a ≡ s)
read_number true a s is e = absurd cc
read_number false a s is e = let some = eqb-false a 0 is in (omega (arith, some), same_ok a s e)

-- A field that is read as a session is the text of that session.
read_session : (n s : ℕ) (field : List ℕ) (r : Result ℕ NumeralFault) → n < 2 ^ 16 → reading_of_numeral n field ≡ r → above_zero r ≡ Ok s → IsSessionText n s field
read_session n s field (Ok a) lt is e =
    let (some, same) = read_number (a == 0) a s refl e in
    let (last, text) = (reading_iff field n a (omega (arith, lt))).0 is in
    subst (λ (x : ℕ). IsSessionText n x field) same (record { first = some; last = last; text = text })
read_session n s field (Err f) lt is e = absurd cc

-- The decimal text of a session is read as that session.
pub session_back : (n s : ℕ) → n < 2 ^ 16 → 0 < s → s ≤ n → session_in n (decimal s) ≡ Ok s
session_back n s lt some le =
    let read : reading_of_numeral n (decimal s) ≡ Ok s = (reading_iff (decimal s) n s (omega (arith, lt))).1 (le, refl) in
    ap above_zero read ∙ rw (ne_eqb s 0 (λ e. omega (arith, e, some))) refl

-- A field is read as a session exactly if it is the text of that session.
pub session_iff : (n s : ℕ) (field : List ℕ) → n < 2 ^ 16 → (session_in n field ≡ Ok s) ↔ IsSessionText n s field
session_iff n s field lt = (
  read_session n s field (reading_of_numeral n field) lt refl,
  λ h. ap (session_in n) h.text ∙ session_back n s lt h.first h.last,
)
