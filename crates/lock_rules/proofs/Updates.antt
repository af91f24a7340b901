-- Each history with U, worked by hand, is legal, and at most one session holds a resource in U.
use Rattle.std.proofs.Common.{List, inl, inr, refl}
use Rattle.lock_modes.specs.declared.Mode.TheVariants.{U}
use Rattle.lock_modes.proofs.Compatibility.{compatible-tests}
use Rattle.lock_rules.specs.Entries.{Entry}
use Rattle.lock_rules.specs.Legal.{IsLegal, state_of}
use Rattle.lock_rules.specs.Updates.{IsUpdateAlone, update_beside_readers, update_with_intention, update_under_parent, updates_one_after_another}
use Rattle.lock_rules.proofs.Histories.{legal-served}
use Rattle.lock_rules.proofs.Lawful.{lawful}

pub legal-update_beside_readers : IsLegal update_beside_readers
legal-update_beside_readers = legal-served update_beside_readers refl

pub legal-update_with_intention : IsLegal update_with_intention
legal-update_with_intention = legal-served update_with_intention refl

pub legal-update_under_parent : IsLegal update_under_parent
legal-update_under_parent = legal-served update_under_parent refl

pub legal-updates_one_after_another : IsLegal updates_one_after_another
legal-updates_one_after_another = legal-served updates_one_after_another refl

-- U is not compatible with itself, so no two sessions hold one resource in it
pub update-alone : (es : List Entry) → IsUpdateAlone (state_of es)
update-alone es s u r n h k = elim ((lawful es).holders_compatible s u r U U n h k) [
  | inl c ↦ let yes = compatible-tests U U c in absurd (cc yes)
  | inr c ↦ let yes = compatible-tests U U c in absurd (cc yes)
]
