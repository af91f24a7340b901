-- What a seat knows of other seats stays true.
use Rattle.std.proofs.Common.{◌≡◌, ℕ, ◌<◌, ◌≤◌, List, length, sym, ap, ◌∙◌, arith}
use mathlib.Core.List.{IsPrefix}
use Rattle.sequential.specs.declared.entry.Entry.{Entry}
use Rattle.publication.specs.Views.{Own, Handed, Others}
use Rattle.publication.specs.Rule.{BoardState, seat, own_at, IsHanded, AreTrue}
use Rattle.publication.proofs.Lists.{prefix_trans}
use Rattle.publication.proofs.InTime.{same_map}

module _ {O C R : Type 0} where
  -- A seat that has lost its session gets no session again, and what that session knew of its calls doesn't change.
  abbrev pub StaysGone : BoardState O C R → BoardState O C R → List (Own C R) → List (Own C R) → Type 0
  StaysGone s t owns later = (j : ℕ) → 0 < j → j < length s.views → (seat s j).number ≡ 0 → ((seat t j).number ≡ 0) × (own_at later j ≡ own_at owns j)

  -- A session that was handed in stays so, as the history grows and seats change.
  pub still-handed : (h g : List (Entry C R)) (s t : BoardState O C R) (slots : ℕ) (owns later : List (Own C R)) (x : Handed C R) → IsPrefix h g → length s.views ≤ length t.views → StaysGone s t owns later → IsHanded h s slots owns x → IsHanded g t slots later x
  still-handed h g s t slots owns later x grows more gone is = let e = gone x.number is.some is.there is.gone in record {
    some = is.some;
    small = is.small;
    there = omega (arith, is.there);
    gone = e.0;
    settled = ap (λ (o : Own C R). o.pending) e.1 ∙ is.settled;
    collected = ap (λ (o : Own C R). o.collected) e.1 ∙ is.collected;
    begins = prefix_trans x.front h g is.begins grows;
  }

  -- What a seat knows of others stays true, as the history grows and seats change.
  pub still-true : (h g : List (Entry C R)) (s t : BoardState O C R) (slots : ℕ) (owns later : List (Own C R)) (x : Others C R) → IsPrefix h g → length s.views ≤ length t.views → StaysGone s t owns later → AreTrue h s slots owns x → AreTrue g t slots later x
  still-true h g s t slots owns later x grows more gone is = record {
    all_made = λ e. omega (arith, is.all_made e);
    beside = prefix_trans x.beside h g is.beside grows;
    handed = λ p y at. still-handed h g s t slots owns later y grows more gone (is.handed p y at);
    logged = is.logged ∙ same_map (λ (y : Handed C R). (y.number, (own_at owns y.number).log)) (λ (y : Handed C R). (y.number, (own_at later y.number).log)) x.handed
        (λ p y at. let d = is.handed p y at in ap (λ (o : Own C R). (y.number, o.log)) (sym (gone y.number d.some d.there d.gone).1));
  }
