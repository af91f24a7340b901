-- Lists of resources: what is in them, and their order.
use Rattle.std.specs.Prelude.{◌≡◌, ℕ, Bool, true, false, List, [], ◌∷◌, filter, Option, Some, None, take}
use Rattle.std.specs.Coded.{×_prop, Unit-prop, Coded-set, coded_bool}
use Rattle.std.specs.List.{list_any}
use Rattle.lock_tree.specs.Paths.{same_path}
use Rattle.lock_rules.specs.Listing.{with_path, comes_before}

-- resource `r` is in the list
abbrev pub has_path : List ℕ → List (List ℕ) → Bool
has_path r rs = list_any (λ q. same_path q r) rs

-- no resource is in the list twice
abbrev pub AreApart : List (List ℕ) → Type 0
AreApart [] = Unit {0}
AreApart (r ∷ rs) = (has_path r rs ≡ false) × AreApart rs

-- it has at most one proof, which a fact that a struct keeps must have
pub AreApart-prop : (rs : List (List ℕ)) → IsProp (AreApart rs)
AreApart-prop [] = Unit-prop
AreApart-prop (r ∷ rs) = ×_prop (Coded-set coded_bool (has_path r rs) false) (AreApart-prop rs)

-- these resources, each once, in the order of resources
abbrev pub in_order : List (List ℕ) → List (List ℕ)
in_order [] = []
in_order (r ∷ rs) = with_path r (in_order rs)

-- the resource comes behind `after` in the order of resources; behind None each resource comes
abbrev pub is_behind : Option (List ℕ) → List ℕ → Bool
is_behind None r = true
is_behind (Some a) r = comes_before a r

-- those of the resources that come behind `after`
abbrev pub those_behind : Option (List ℕ) → List (List ℕ) → List (List ℕ)
those_behind after rs = filter (is_behind after) rs

-- the first `n` of the resources that come behind `after`, in the order of resources
abbrev pub first_behind : ℕ → Option (List ℕ) → List (List ℕ) → List (List ℕ)
first_behind n after rs = take n (in_order (those_behind after rs))
