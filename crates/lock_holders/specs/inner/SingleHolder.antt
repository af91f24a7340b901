-- Internal to this crate, cited by no public contract: holders that are a single one by itself, or several in columns.
use Rattle.std.specs.Prelude.{◌≡◌, max, List, [], ◌∷◌, Option, Some, None}
use Rattle.lock_holders.specs.declared.session_mode.SessionMode.{SessionMode}
use Rattle.lock_holders.specs.declared.holders.Holders.TheInside.{Inside}
use Rattle.lock_holders.specs.Holders.{HolderList}

-- the single holder, if there is one, and else these
abbrev pub single_or : Option SessionMode → List SessionMode → List SessionMode
single_or None hs = hs
single_or (Some h) hs = h ∷ []

-- what contracts see of the holders; there is always room for the single one
abbrev pub holders_of : Inside → HolderList
holders_of a = record {
  items = single_or a.single a.columns.items;
  capacity = max 1 a.columns.capacity;
}

-- while a single holder is kept by itself, the columns are empty
abbrev pub IsSingleOrColumns : Inside → Type 0
IsSingleOrColumns a = (h : SessionMode) → a.single ≡ Some h → a.columns.items ≡ []
