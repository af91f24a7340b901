-- Internal to this crate, cited by no public contract: the memory of a search.
use Rattle.std.specs.Prelude.{◌≡◌, ◌≤◌, vec_capacity}
use Rattle.waits_for.specs.declared.TheConstants.{MAX_SESSIONS}
use Rattle.waits_for.specs.CycleView.{CycleView}
use Rattle.waits_for.specs.declared.shortest_cycle.CycleSearch.TheInside.{Inside}

-- what contracts see of a search
abbrev pub view_of : Inside → CycleView
view_of a = record { sessions = a.sessions; cycle = a.cycle.items }

-- each list has room for all sessions
pub record HasRoom (a : Inside) : Type 0 where
  pub few : a.sessions ≤ MAX_SESSIONS
  pub met : a.sessions ≤ vec_capacity a.met
  pub parents : a.sessions ≤ vec_capacity a.parents
  pub marks : a.marks.sessions ≡ a.sessions
  pub cycle : a.sessions ≤ vec_capacity a.cycle
