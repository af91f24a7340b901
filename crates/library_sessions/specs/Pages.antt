-- How many locks a session holds, and pages of them, as the exports state it.
use Rattle.std.specs.Prelude.{◌≡◌, ℕ, ◌≤◌, List, Option, Some, None, length, take}
use Rattle.lock_tree.specs.declared.levels.TheConstants.{LEVELS}
use Rattle.lock_rules.specs.State.{State}
use Rattle.lock_desk.specs.Pages.{locks_of}
use Rattle.library_books.specs.declared.claims.ClaimNumbers.{ClaimNumbers}
use Rattle.library_books.specs.declared.numbers.ResourceNumbers.{ResourceNumbers}
use Rattle.library_books.specs.Calls.{are_written}
use Rattle.library_books.specs.Claims.{numbers_of_claim}
use Rattle.library_books.specs.Numbers.{IsPath}

-- the level of the resource behind which a page begins; 0 means that the page begins with the first lock
abbrev pub IsAfterLevel : ℕ → Type 0
IsAfterLevel level = level ≤ LEVELS

-- the resource behind which a page begins, None if it begins with the first lock
abbrev pub IsAfter : ResourceNumbers → Option (List ℕ) → Type 0
IsAfter p None = p.level ≡ 0
IsAfter p (Some r) = IsPath p r

-- the session's first locks behind this resource, as many as there are places, and how many they are
abbrev pub IsPageOf : State → ℕ → ResourceNumbers → List ClaimNumbers → List ClaimNumbers → ℕ → Type 0
IsPageOf st session place places written count = (after : Option (List ℕ)) × IsAfter place after
    × (let page = take (length places) (locks_of st session after) in (written ≡ are_written numbers_of_claim page places) × (count ≡ length page))
