-- Rounds of a bounded pass, one behind another.
use Rattle.std.proofs.Common.{◌≡◌, ◌≢◌, ℕ, ◌+◌, ◌-◌, ◌*◌, ◌<◌, ◌≤◌, Bool, None, List, ◌++◌, length, get_or, refl, sym, ap, ◌∙◌, subst, arith, append_assoc, append-nil}
use Rattle.std.proofs.Math.Nat.{mul-le-mul_right}
use Rattle.std.specs.List.{range_with_len}
use mathlib.Core.List.{IsPrefix}
use Rattle.sequential.specs.Histories.{calls_of}
use Rattle.publication.specs.Views.{TicketView}
use Rattle.publication.specs.Boards.{published_by}
use Rattle.publication.specs.declared.slot.Load.{Load}
use Rattle.publication.proofs.Lists.{prefix_trans}
use Rattle.combining.specs.inner.Passes.{HasPassed}
use Rattle.combining.specs.inner.BoundedPasses.{HasServedWithin}
use Rattle.combining.specs.Rounds.{HaveLed}
use Rattle.combining.specs.declared.bounds.PassBound.{PassBound}
use Rattle.combining.proofs.Places.{range-append}
use Rattle.combining.proofs.RoundWeights.{led-further, full-on}
use Rattle.sequential.specs.declared.entry.Entry.{Entry}

module _ {C R : Type 0} where
  -- Two passes are one that served what both served.
  pub passed-on : (t u v : TicketView C R) (a b : ℕ) → HasPassed t u a → HasPassed u v b → HasPassed t v (a + b)
  passed-on t u v a b first later = record {
    session = later.session ∙ ap (λ (x : TicketView C R). record x { front = v.front; route = v.route; put_backs = v.put_backs; entered = v.entered }) first.session;
    count = omega (arith, first.count, later.count);
    entered = later.entered
        ∙ (ap (λ (l : List ℕ). l ++ range_with_len (length u.front) b) first.entered
        ∙ (append_assoc t.entered (range_with_len (length t.front) a) (range_with_len (length u.front) b)
        ∙ ap (λ (l : List ℕ). t.entered ++ l) (ap (λ (k : ℕ). range_with_len (length t.front) a ++ range_with_len k b) first.count ∙ sym (range-append (length t.front) a b))));
  }

  -- No pass has served no call.
  pub passed-none : (t : TicketView C R) → HasPassed t t 0
  passed-none t = record {
    session = refl;
    count = omega arith;
    entered = sym (append-nil t.entered);
  }

-- So many rounds of so many calls, and one more.

pub no-round : (calls : ℕ) → 0 ≤ 0 * calls
no-round calls = omega arith

pub next-round : (made calls a b : ℕ) → a ≤ made * calls → b ≤ calls → a + b ≤ (made + 1) * calls
next-round made calls a b few more = omega (arith, few, more)

-- As many calls as some of the rounds serve are served by all of them.
pub all-rounds : (made rounds calls served : ℕ) → made ≤ rounds → served ≤ made * calls → served ≤ rounds * calls
all-rounds made rounds calls served few within = omega (arith, within, mul-le-mul_right calls few)

module _ {O C R : Type 0} {weight : List (Entry C R) → ℕ → C → ℕ} where
  -- A round behind rounds in which no memory was refused: what the last one says of starved and left calls holds of all.
  pub rounds-on : (n : ℕ) (bound : PassBound) (made : ℕ) (t u v : TicketView C R) (old mid new : Load O C R) (a b : ℕ) (starved left : Bool)
      → HasPassed t u a → a ≤ made * bound.calls → HaveLed weight bound made t.front u.front → IsPrefix t.front u.front → u.put_backs ≡ t.put_backs → mid.pieces.items ≡ old.pieces.items
      → HasServedWithin weight n bound 1 u v mid new b starved left → HasServedWithin weight n bound (made + 1) t v old new (a + b) starved left
  rounds-on n bound made t u v old mid new a b starved left passed few led longer backs pieces later =
      let heard : u.heard ≡ t.heard = ap (λ (x : TicketView C R). x.heard) passed.session in
      record {
        passed = passed-on t u v a b passed later.passed;
        longer = prefix_trans t.front u.front v.front longer later.longer;
        few = next-round made bound.calls a b few (omega (arith, later.few));
        led = λ unstarved. led-further weight bound made t.front u.front v.front led (later.led unstarved);
        all = later.all;
        full = λ unstarved is. full-on weight bound b (a + b) v.front (omega arith) (later.full unstarved is);
        put_back = (λ h. subst (λ (k : ℕ). k < v.put_backs) backs (later.put_back.0 h), λ h. later.put_back.1 (subst (λ (k : ℕ). k < v.put_backs) (sym backs) h));
        kept = λ unstarved. later.kept unstarved ∙ backs;
        own = λ unstarved. subst (λ (x : TicketView C R). x.pending ≢ None → published_by x ≤ length (calls_of x.number v.front)) passed.session (later.own unstarved);
        heard = λ unstarved none j is few. subst (λ (l : List ℕ). get_or l j 0 ≤ length (calls_of j v.front)) heard (later.heard unstarved none j is few);
        taken = later.taken ∙ pieces;
      }

-- How many entries more are known is how many calls were served.
pub served-is : (later earlier served seen known : ℕ) → later ≡ earlier + served → seen ≡ later → known ≡ earlier → served ≡ seen - known
served-is later earlier served seen known count is was = omega (arith, count, is, was)
