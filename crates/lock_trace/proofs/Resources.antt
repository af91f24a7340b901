-- A resource is read from exactly one text.
use Rattle.std.proofs.Common.{◌≡◌, ◌↔◌, ℕ, ◌<◌, ◌^◌, Bool, true, false, List, [], ◌∷◌, map, Result, Ok, Err, Some, refl, sym, ap, ◌∙◌, arith}
use Rattle.std.specs.Prelude.{if◌then◌else◌, decimal}
use Rattle.std.specs.List.{AllByRecursion, join_with_byte}
use Rattle.std.specs.Str.{is_utf8, IsAscii}
use Rattle.std.proofs.lemmas.Fmt.{IsAscii-decimal}
use Rattle.std.proofs.lemmas.List.Elements.{recursion_from_All}
use Rattle.std.proofs.lemmas.Str.{is_utf8-from_IsUtf8, IsUtf8-from_ascii, IsAscii-append}
use Rattle.std.proofs.lemmas.Str.Ascii.{IsAscii-nil, IsAscii-cons}
use Rattle.lock_tree.specs.declared.path_fault.PathFault.{PathFault}
use Rattle.lock_tree.specs.Paths.{IsResource}
use Rattle.lock_tree.specs.Text.{text_of}
use Rattle.lock_tree.specs.Faults.{fault_of}
use Rattle.lock_tree.specs.Readings.{reading_of}
use Rattle.lock_tree.proofs.Texts.{ok_iff, err_iff}
use Rattle.lock_trace.specs.declared.faults.TraceKind.TheVariants as kind
use Rattle.lock_tree.specs.declared.path_fault.PathFault.TheVariants as path
use Rattle.lock_trace.specs.Fields.{or_path, resource_in}

-- A result with these conditions for `Ok` and `Err` is what the text is read as.
pub is_reading : (t : List ℕ) (result : Result (List ℕ) PathFault)
    → ((r : List ℕ) → (result ≡ Ok r) ↔ (IsResource r × (text_of r ≡ t))) → ((f : PathFault) → (result ≡ Err f) ↔ (fault_of t ≡ Some f)) → result ≡ reading_of t
is_reading t (Ok r) ok fault = sym ((ok_iff t r).1 ((ok r).0 refl))
is_reading t (Err f) ok fault = sym ((err_iff t f).1 ((fault f).0 refl))

-- The path of 32-bit numbers is ASCII.
joined_ascii : (r : List ℕ) → AllByRecursion (λ n. n < 2 ^ 32) r → IsAscii (join_with_byte 47 (map decimal r))
joined_ascii [] small = IsAscii-nil
joined_ascii (n ∷ []) small = IsAscii-decimal n (omega (arith, small.0))
joined_ascii (n ∷ m ∷ ns) small =
    IsAscii-append (decimal n) (47 ∷ join_with_byte 47 (map decimal (m ∷ ns))) (IsAscii-decimal n (omega (arith, small.0))) (IsAscii-cons 47 (join_with_byte 47 (map decimal (m ∷ ns))) (omega arith) (joined_ascii (m ∷ ns) small.1))

-- The path of a resource is UTF-8.
resource_text : (r : List ℕ) → IsResource r → is_utf8 (text_of r) ≡ true
resource_text r h = is_utf8-from_IsUtf8 (text_of r) (IsUtf8-from_ascii (text_of r) (joined_ascii r (recursion_from_All (λ n. n < 2 ^ 32) r h.small)))

-- A resource behind `or_path` was read without a fault.
or_path_ok : (x : Result (List ℕ) PathFault) (r : List ℕ) → or_path x ≡ Ok r → x ≡ Ok r
or_path_ok (Ok a) r e = cc
or_path_ok (Err f) r e = absurd cc

-- A field that is read as a resource is the path of that resource.
read_text : (b : Bool) (field r : List ℕ) → (if b then or_path (reading_of field) else Err (kind.Path path.NotANumber)) ≡ Ok r → IsResource r × (field ≡ text_of r)
read_text true field r e = let is = (ok_iff field r).0 (or_path_ok (reading_of field) r e) in (is.0, sym is.1)
read_text false field r e = absurd cc

-- The path of a resource is read as that resource.
pub resource_back : (r : List ℕ) → IsResource r → resource_in (text_of r) ≡ Ok r
resource_back r h = rw (resource_text r h, (ok_iff (text_of r) r).1 (h, refl)) refl

-- A field is read as a resource exactly if it is the path of that resource.
pub resource_iff : (r field : List ℕ) → (resource_in field ≡ Ok r) ↔ (IsResource r × (field ≡ text_of r))
resource_iff r field = (read_text (is_utf8 field) field r, λ h. ap resource_in h.1 ∙ resource_back r h.0)
