-- What a line has after each write: what it had before, and what was written.
use Rattle.std.proofs.Common.{◌≡◌, ℕ, ◌+◌, ◌/◌, ◌%◌, ◌^◌, ◌<◌, ◌≤◌, List, [], ◌∷◌, ◌++◌, length, take, ap, sym, refl, ◌∙◌, append_assoc, arith}
use Rattle.std.specs.Prelude.{decimal}
use Rattle.std.proofs.lemmas.List.{append-nil, length-take-le, take-take}
use Rattle.std.proofs.lemmas.Fmt.{decimal_digit}
use Rattle.std.proofs.lemmas.Slice.{take-put_mid}
use Rattle.std.proofs.Math.Seq.{take-append-add}
use borrow.Rule.Slice.PartMut.{put_mid}
use Rattle.lock_trace.specs.Histories.{after_commas}
use Rattle.lock_trace.proofs.Digits.{two_digits, hundreds}

-- Two texts written one after the other.
pub both_written : (front mid all s t : List ℕ) → mid ≡ front ++ s → all ≡ mid ++ t → all ≡ front ++ (s ++ t)
both_written front mid all s t first second = second ∙ ap (λ (x : List ℕ). x ++ t) first ∙ append_assoc front s t

-- Of a token that is copied whole, the first n bytes count.
pub front_written : (a k n : ℕ) (line piece token : List ℕ) → a ≤ length line → n ≤ length piece → piece ≡ token → take (a + n) (put_mid a k line piece) ≡ take a line ++ take n token
front_written a k n line piece token le few is =
    sym (take-take (a + n) (a + length piece) (put_mid a k line piece) (omega (arith, few)))
    ∙ ap (take (a + n)) (take-put_mid a k line piece (a + length piece) refl le)
    ∙ ap (λ (m : ℕ). take (m + n) (take a line ++ piece)) (sym (length-take-le a line le))
    ∙ take-append-add (take a line) piece n
    ∙ ap (λ (t : List ℕ). take a line ++ take n t) is

-- One digit is the decimal text of a number below 10.
pub digit_written : (front all : List ℕ) (n : ℕ) → n < 10 → all ≡ front ++ (48 + n) ∷ [] → all ≡ front ++ decimal n
digit_written front all n lt is = is ∙ ap (λ (t : List ℕ). front ++ t) (sym (decimal_digit n lt))

-- Two digits are the decimal text of a number from 10 to 99.
pub pair_written : (front all : List ℕ) (n : ℕ) → 10 ≤ n → n < 100 → all ≡ front ++ (48 + n / 10) ∷ (48 + n % 10) ∷ [] → all ≡ front ++ decimal n
pair_written front all n low high is = is ∙ ap (λ (t : List ℕ). front ++ t) (sym (two_digits n low high))

-- The hundreds and two more digits are the decimal text of a number from 100 on.
pub hundreds_written : (front mid all : List ℕ) (n : ℕ) → 100 ≤ n → n < 2 ^ 64 → mid ≡ front ++ decimal (n / 100) → all ≡ mid ++ (48 + n % 100 / 10) ∷ (48 + n % 100 % 10) ∷ [] → all ≡ front ++ decimal n
hundreds_written front mid all n low high first second =
    both_written front mid all (decimal (n / 100)) ((48 + n % 100 / 10) ∷ (48 + n % 100 % 10) ∷ []) first second ∙ ap (λ (t : List ℕ). front ++ t) (sym (hundreds n low high))

-- The word of a reply between commas, and its value, are its fields with a comma before each.
pub reply_written : (front mid all token word value : List ℕ) → mid ≡ front ++ token → token ≡ 44 ∷ (word ++ 44 ∷ []) → all ≡ mid ++ value → all ≡ front ++ after_commas (word ∷ value ∷ [])
unfolding after_commas
reply_written front mid all token word value first is second =
    both_written front mid all token value first second
    ∙ ap (λ (t : List ℕ). front ++ (t ++ value)) is
    ∙ ap (λ (t : List ℕ). front ++ 44 ∷ t) (append_assoc word (44 ∷ []) value ∙ ap (λ (t : List ℕ). word ++ 44 ∷ t) (sym (append-nil value)))

-- The word of a call between commas, its resource, a comma and its mode are its fields with a comma before each.
pub call_written : (front l1 l2 l3 l4 token word resource mode : List ℕ) → l1 ≡ front ++ token → token ≡ 44 ∷ (word ++ 44 ∷ []) → l2 ≡ l1 ++ resource → l3 ≡ l2 ++ 44 ∷ [] → l4 ≡ l3 ++ mode
    → l4 ≡ front ++ after_commas (word ∷ resource ∷ mode ∷ [])
unfolding after_commas
call_written front l1 l2 l3 l4 token word resource mode first is second comma third =
    third
    ∙ ap (λ (t : List ℕ). t ++ mode) (comma ∙ ap (λ (t : List ℕ). t ++ 44 ∷ []) (both_written front l1 l2 token resource first second))
    ∙ append_assoc (front ++ (token ++ resource)) (44 ∷ []) mode
    ∙ append_assoc front (token ++ resource) (44 ∷ mode)
    ∙ ap (λ (t : List ℕ). front ++ t) (append_assoc token resource (44 ∷ mode))
    ∙ ap (λ (t : List ℕ). front ++ (t ++ (resource ++ 44 ∷ mode))) is
    ∙ ap (λ (t : List ℕ). front ++ 44 ∷ t) (append_assoc word (44 ∷ []) (resource ++ 44 ∷ mode) ∙ ap (λ (t : List ℕ). word ++ 44 ∷ (resource ++ 44 ∷ t)) (sym (append-nil mode)))
