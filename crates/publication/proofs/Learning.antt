-- A load after a join keeps the rule: the seat learns that the longer of two fronts is a front of the history, or which of
-- its session's calls that front has.
use Rattle.std.proofs.Common.{◌≡◌, ℕ, ◌<◌, ◌≤◌, List, length, get_or, set, refl, sym, ap, ◌∙◌, subst, arith, length-set}
use Rattle.sequential.specs.Bounds.{Bounds}
use Rattle.std.proofs.lemmas.List.{set-get_or}
use mathlib.Core.Option as opt
use mathlib.Core.List.{IsPrefix}
use lib.ListN.{get_elem?}
use Rattle.atomic_table.specs.Table.{keeps, step, Allows}
use Rattle.sequential.specs.declared.entry.Entry.{Entry}
use Rattle.publication.specs.Views.{IsAccountedIn}
use Rattle.publication.specs.Rule.{blank, BoardState, word, seat, own_at, announced, AreTrue, IsOrderly}
use Rattle.publication.specs.List.{IsLinked, IsRuled, IsBounded}
use Rattle.publication.specs.StepKinds.{longer, learning, learns, compares}
use Rattle.publication.specs.declared.view.View.{View}
use Rattle.publication.specs.declared.slot.SlotValue.{SlotValue}
use Rattle.publication.proofs.Lists.{at_there, each_set, prefix_whole}
use Rattle.publication.proofs.SeatViews.{session_of, front_of, heard_few, others_of, whole_of, pieces_of_seat}
use Rattle.publication.proofs.Histories.{legal-begins, length-begins}
use Rattle.publication.proofs.Accounts.{account-whole, account-between}
use Rattle.publication.proofs.LongerFronts.{IsLonger, is-longer}
use Rattle.publication.proofs.Others.{StaysGone}
use Rattle.publication.proofs.SessionKinds.{Goes, seated, unmoved}
use Rattle.publication.proofs.ChangedViews.{viewed, sits-others}
use Rattle.publication.proofs.SplitsAndJoins.{learned, learned_listed}
use Rattle.sequential.specs.Meaning.{AreFrontsLegal}
use Rattle.sequential.specs.declared.object.Sequential.{Ghosts}

module _ {O C R : Type 0} {obj : Ghosts O C R} where
  module _ (i : ℕ) (v : View C R) (is : v.number ≡ i) (some_number : 0 < i) (s : BoardState O C R) (o : IsOrderly obj s) (l : IsLinked s) (me : get_elem? s.views i ≡ opt.some v) (small : i < o.slots) where
    is_me : seat s i ≡ v
    is_me = (at_there s.views i v blank me).0

    own_is : v.own ≡ own_at o.owns i
    own_is = (session_of s o i v me (λ e. omega arith)).own_is

    beside : IsPrefix v.others.beside o.history
    beside = (others_of s o i v me).beside

    front : List (Entry C R)
    front = longer v.front v.others.beside

    is_long : IsLonger v.front v.others.beside o.history (longer v.front v.others.beside)
    is_long = is-longer v.front v.others.beside o.history (front_of s o i v me) beside

    account : IsAccountedIn v.front v.number v.own.collected v.own.pending → IsAccountedIn (longer v.front v.others.beside) v.number v.own.collected v.own.pending
    account was = account-between v.number v.front (longer v.front v.others.beside) o.history v.own.collected v.own.pending is_long.mine is_long.begins was (account-whole s o i v me some_number (λ e. omega arith))

    compare_goes : (more : List (ℕ × SlotValue O C R)) → Goes obj s 0 i (v, more) (compares (step o.slots 0 0 0 opt.none) (v, more)) (word s 0)
    compare_goes more = (v, keeps, tt, unmoved s o l 0 i v me, (refl, account))

    learn_goes : AreFrontsLegal obj → (more : List (ℕ × SlotValue O C R)) → Goes obj s 0 i (v, more) (learns obj (step o.slots 0 0 0 opt.none) (v, more)) (word s 0)
    learn_goes fronts more = let k = is_long in let f : List (Entry C R) = longer v.front v.others.beside in
        let vs : List (View C R) = set s.views i (learning v) in
        let long : length vs ≡ length s.views = length-set s.views i (learning v) in
        let gone : StaysGone s (viewed s o vs) o.owns o.owns = λ j some few none. (each_set s.views i (learning v) blank (λ j x. (seat s j).number ≡ 0 → x.number ≡ 0) (at_there s.views i v blank me).1 (λ z. ap (λ (x : View C R). x.number) (sym is_me) ∙ z) (λ j ne z. z) j none, refl) in (
          learning v,
          keeps,
          tt,
          subst (λ (ws : List ℕ). IsRuled obj record { words = ws; homes = s.homes; views = vs }) (sym (set-get_or s.words 0 0)) (record {
            records = learned s o i v f v.heard v.others me refl k.begins
                (λ has. let w = whole_of s o i v me has in prefix_whole f o.history k.begins (let a = length-begins v.front f k.mine in omega (arith, ap (λ (x : List (Entry C R)). length x) w)))
                (heard_few s o i v me)
                (subst (λ (x : View C R). AreTrue o.history (viewed s o vs) o.slots o.owns x.others) is_me (sits-others s o vs (omega arith) gone i))
                (pieces_of_seat s o i v me).handed;
            list = learned_listed s l i v f v.heard v.others me;
          }),
          (
            refl,
            record {
              legal = legal-begins obj fronts f o.history k.begins o.legal;
              short = let a = length-begins f o.history k.begins in let b = o.short in omega arith;
              mine = k.mine;
              theirs = k.theirs;
              accounted = account;
              heard = subst (λ (k : ℕ). get_or v.heard k 0 ≤ announced v.own) (sym is) (let a = heard_few s o i v me i in omega (arith, ap announced own_is));
            },
          ),
        )

module _ {O C R : Type 0} where
  module _ (slots id : ℕ) (v : View C R) (more : List (ℕ × SlotValue O C R)) (some_number : 0 < v.number) where
    module _ {obj : Ghosts O C R} {bound : Bounds} where
      -- Compare keeps the rule.
      pub compare_kept : Allows (IsBounded obj bound) slots id (v, more) 0 (λ n. n) (compares (step slots 0 0 0 opt.none) (v, more))
      compare_kept = seated slots id v.number 0 v more (λ n. n) (compares (step slots 0 0 0 opt.none) (v, more)) refl some_number
          (λ s o l me small wide e. compare_goes v.number v refl some_number s o l me small more)

      -- Learn keeps the rule.
      pub learn_kept : AreFrontsLegal obj → Allows (IsBounded obj bound) slots id (v, more) 0 (λ n. n) (learns obj (step slots 0 0 0 opt.none) (v, more))
      learn_kept fronts = seated slots id v.number 0 v more (λ n. n) (learns obj (step slots 0 0 0 opt.none) (v, more)) refl some_number
          (λ s o l me small wide e. learn_goes v.number v refl some_number s o l me small fronts more)
