-- The fast path reads what the formats read: the bytes passed so far are the text of the numbers read so far.
use Rattle.std.proofs.Common.{◌≡◌, ℕ, ◌+◌, ◌-◌, ◌*◌, ◌^◌, ◌<◌, ◌≤◌, List, [], ◌∷◌, ◌++◌, length, take, take_all, set, get_or, Option, Some, None, Ok, refl, ap, sym, ◌∙◌, inl, inr, eq-zero-or-pos, append_assoc, arith}
use Rattle.std.specs.Prelude.{decimal, IfSome}
use Rattle.std.proofs.lemmas.List.{append-nil, take_more, take_more_set}
use Rattle.std.proofs.lemmas.Fmt.{decimal_digit}
use Rattle.lock_tree.specs.Paths.{IsResource}
use Rattle.lock_tree.specs.Text.{text_of}
use Rattle.lock_trace.specs.Fields.{resource_in}
use Rattle.lock_trace.proofs.Digits.{digit_more}
use Rattle.lock_trace.proofs.Resources.{resource_iff}

-- The bytes from the start to the end are the decimal text of the number, or there are none and the number is 0.
pub record IsNumberTo (field : List ℕ) (start end number : ℕ) : Type 0 where
  pub none : end ≡ start → number ≡ 0
  pub some : start < end → take end field ≡ take start field ++ decimal number

-- The bytes up to an index, followed by a digit, are the decimal text of the number with that digit appended.
digit_joins : (field : List ℕ) (start at number d : ℕ) → start ≤ at → d < 10 → number < 2 ^ 32 → (number ≡ 0 → at ≡ start) → IsNumberTo field start at number
    → take at field ++ (48 + d) ∷ [] ≡ take start field ++ decimal (number * 10 + d)
digit_joins field start at number d le small fits first so_far =
    elim (eq-zero-or-pos (at - start)) [
      | inl none ↦
          let same : at ≡ start = omega (arith, le, none) in
          let zero_now : number * 10 + d ≡ d = omega (arith, so_far.none same) in
          ap (λ (k : ℕ). take k field ++ (48 + d) ∷ []) same ∙ ap (λ (t : List ℕ). take start field ++ t) (sym (decimal_digit d small) ∙ ap decimal (sym zero_now))
      | inr more ↦
          let later : start < at = omega (arith, le, more) in
          let some : 0 < number = elim (eq-zero-or-pos number) [ inl z ↦ absurd (omega (arith, first z, later)) | inr p ↦ p ] in
          ap (λ (t : List ℕ). t ++ (48 + d) ∷ []) (so_far.some later)
          ∙ append_assoc (take start field) (decimal number) ((48 + d) ∷ [])
          ∙ ap (λ (t : List ℕ). take start field ++ t) (sym (digit_more number d some fits small))
    ]

-- After one more digit, the bytes so far are the decimal text of the new number.
pub digit_read : (field : List ℕ) (start at number byte : ℕ) → start ≤ at → at < length field → byte ≡ get_or field at 0 → 48 ≤ byte → byte ≤ 57 → number < 2 ^ 32 → (number ≡ 0 → at ≡ start)
    → IsNumberTo field start at number → IsNumberTo field start (at + 1) (number * 10 + (byte - 48))
digit_read field start at number byte le lt is low high fits first so_far = record {
  none = λ same. absurd (omega (arith, same, le));
  some = λ later.
      let d : ℕ = byte - 48 in
      let digit : get_or field at 0 ≡ 48 + (byte - 48) = sym is ∙ omega (arith, low) in
      take_more field at 0 lt ∙ ap (λ (b : ℕ). take at field ++ b ∷ []) digit ∙ digit_joins field start at number (byte - 48) le (omega (arith, low, high)) fits first so_far;
}

-- The numbers in decimal, with a `/` after each.
abbrev pub slash_terminated : List ℕ → List ℕ
slash_terminated [] = []
slash_terminated (n ∷ ns) = (decimal n ++ 47 ∷ []) ++ slash_terminated ns

-- Two ways to group a number, a `/`, and two texts.
regrouped : (d c t : List ℕ) → d ++ 47 ∷ (c ++ t) ≡ ((d ++ 47 ∷ []) ++ c) ++ t
regrouped d c t = sym (append_assoc (d ++ 47 ∷ []) c t ∙ append_assoc d (47 ∷ []) (c ++ t))

-- The path of numbers is the numbers before the last with a `/` after each, and the last.
last_number : (ns : List ℕ) (n : ℕ) → text_of (ns ++ n ∷ []) ≡ slash_terminated ns ++ decimal n
last_number [] n = refl
last_number (x ∷ []) n = regrouped (decimal x) [] (decimal n)
last_number (x ∷ y ∷ ns) n = ap (λ (t : List ℕ). decimal x ++ 47 ∷ t) (last_number (y ∷ ns) n) ∙ regrouped (decimal x) (slash_terminated (y ∷ ns)) (decimal n)

-- One more number adds its decimal text and a `/`.
one_more_number : (ns : List ℕ) (n : ℕ) → slash_terminated (ns ++ n ∷ []) ≡ (slash_terminated ns ++ decimal n) ++ 47 ∷ []
one_more_number [] n = append-nil (decimal n ++ 47 ∷ [])
one_more_number (x ∷ ns) n =
    ap (λ (t : List ℕ). (decimal x ++ 47 ∷ []) ++ t) (one_more_number ns n)
    ∙ sym (append_assoc (decimal x ++ 47 ∷ []) (slash_terminated ns ++ decimal n) (47 ∷ []))
    ∙ ap (λ (t : List ℕ). t ++ 47 ∷ []) (sym (append_assoc (decimal x ++ 47 ∷ []) (slash_terminated ns) (decimal n)))

-- After one more number and a `/`, the bytes so far are the numbers so far, each with a `/` after it.
pub number_and_slash : (field numbers : List ℕ) (level start end number : ℕ) → level < length numbers → end < length field → get_or field end 0 ≡ 47
    → take start field ≡ slash_terminated (take level numbers) → take end field ≡ take start field ++ decimal number
    → take (end + 1) field ≡ slash_terminated (take (level + 1) (set numbers level number))
number_and_slash field numbers level start end number deep lt slash so_far text =
    take_more field end 0 lt
    ∙ ap (λ (b : ℕ). take end field ++ b ∷ []) slash
    ∙ ap (λ (t : List ℕ). t ++ 47 ∷ []) (text ∙ ap (λ (t : List ℕ). t ++ decimal number) so_far)
    ∙ sym (ap slash_terminated (take_more_set numbers level number deep) ∙ one_more_number (take level numbers) number)

-- If the last number ends the field, the field is the path of the numbers.
number_ends : (field numbers : List ℕ) (level start end number : ℕ) → level < length numbers → end ≡ length field
    → take start field ≡ slash_terminated (take level numbers) → take end field ≡ take start field ++ decimal number
    → field ≡ text_of (take (level + 1) (set numbers level number))
number_ends field numbers level start end number deep all so_far text =
    sym (take_all end field (omega (arith, all)))
    ∙ text ∙ ap (λ (t : List ℕ). t ++ decimal number) so_far
    ∙ sym (ap text_of (take_more_set numbers level number deep) ∙ last_number (take level numbers) number)

-- A resource made of the numbers whose path is the field is what the field is read as.
made_of_text : (field ns : List ℕ) (found : Option (List ℕ)) → field ≡ text_of ns → IfSome found IsResource → IfSome found (λ r. r ≡ ns) → IfSome found (λ r. resource_in field ≡ Ok r)
made_of_text field ns None text is value = tt
made_of_text field ns (Some r) text is value = (resource_iff r field).1 (is, text ∙ ap text_of (sym value))

-- At the end of the field, the resource made of the numbers read is what the field is read as.
pub resource_made : (field numbers : List ℕ) (level start end number : ℕ) (found : Option (List ℕ)) → level < length numbers → end ≡ length field
    → take start field ≡ slash_terminated (take level numbers) → take end field ≡ take start field ++ decimal number
    → IfSome found IsResource → IfSome found (λ r. r ≡ take (level + 1) (set numbers level number))
    → IfSome found (λ r. resource_in field ≡ Ok r)
resource_made field numbers level start end number found deep all so_far text is value =
    made_of_text field (take (level + 1) (set numbers level number)) found (number_ends field numbers level start end number deep all so_far text) is value
