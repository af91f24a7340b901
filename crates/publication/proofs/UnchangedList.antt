-- Steps that don't change the publication list keep its rule.
use Rattle.std.proofs.Common.{◌≡◌, ◌≢◌, ℕ, ◌<◌, Bool, true, false, Some, None, List, ◌++◌, length, get_or, set, sym, refl, ap, ◌∙◌, subst, arith, get_or-set_other}
use mathlib.Core.Option as opt
use lib.ListN.{get_elem?}
use Rattle.publication.specs.Words.{word_of, link_of, FREE}
use Rattle.publication.specs.Views.{Own, Combiner, Listing}
use Rattle.publication.specs.Rule.{blank, BoardState, word, seat}
use Rattle.publication.specs.List.{Chain, link, belongs, is_listed, IsWalking, IsLinked}
use Rattle.publication.specs.declared.view.View.{View}
use Rattle.publication.specs.declared.slot.SlotValue.{SlotValue}
use Rattle.publication.proofs.Lists.{at_there, each_set}
use Rattle.publication.proofs.Chains.{chain_same}

-- A write to a state word changes no link.
pub links_kept : (ws : List ℕ) (x n j : ℕ) → get_or (set ws (word_of x) n) (link_of j) 0 ≡ get_or ws (link_of j) 0
links_kept ws x n j = get_or-set_other ws (word_of x) (link_of j) n 0 (λ e. omega (arith, e))

module _ {O C R : Type 0} where
  module _ (s t : BoardState O C R) (l : IsLinked s) where
    -- Seat j now has view x. Its record has to be on the list, or off it, only if it had to before; the head noted, if
    -- any, is as before; and a combiner's listing is true.
    pub record Keeps (j : ℕ) (x : View C R) : Type 0 where
      pub claims : (b : Bool) → 0 < j → belongs (word t j) x.own.listed ≡ Some b → is_listed s j ≡ Some b
      pub heads_seen : (n : ℕ) → x.listing.head_seen ≡ Some n → ((seat s j).listing.head_seen ≡ Some n) × (0 < j → belongs (word t j) x.own.listed ≡ is_listed s j)
      pub walkers : x.combiner.has_object ≡ true → IsWalking l.list l.off l.before x.listing

    -- What a step leaves as it is: the links, the number of slots, and for each seat what `Keeps` says.
    pub record IsAside : Type 0 where
      pub links : (j : ℕ) → link t j ≡ link s j
      pub homes : length t.homes ≡ length s.homes
      pub locks : word t 0 ≡ FREE → l.off ≡ 0
      pub seats : (j : ℕ) → Keeps j (seat t j)

    -- The rule of the list holds after a step that meets `IsAside`.
    pub relisted : IsAside → IsLinked t
    relisted a = record {
      list = l.list;
      chain = subst (λ (k : ℕ). Chain (link t) k l.list) (sym (a.links 0)) (chain_same (link s) (link t) (link s 0) l.list (λ q on. sym (a.links q)) l.chain);
      apart = l.apart;
      within = λ q on. let r = l.within q on in let e = a.homes in (r.0, omega (arith, r.1, e));
      off = l.off;
      before = l.before;
      unlinked = λ some. let u = l.unlinked some in let e = a.homes in
          record { gone = u.gone; small = omega (arith, u.small, e); front = u.front; rest = u.rest; seam = u.seam; link_is = a.links l.off ∙ u.link_is };
      whole = a.locks;
      ons = λ j some is. l.ons j some ((a.seats j).claims true some is);
      offs = λ j some is. l.offs j some ((a.seats j).claims false some is);
      heads_seen = λ j n is. let r = (a.seats j).heads_seen n is in let q = l.heads_seen j n r.0 in (q.0, r.1 q.0 ∙ q.1, a.links j ∙ q.2);
      walkers = λ k has. (a.seats k).walkers has;
    }

    -- A seat whose view is the same.
    pub same_seat : (j : ℕ) → ((b : Bool) → 0 < j → belongs (word t j) b ≡ belongs (word s j) b) → Keeps j (seat s j)
    same_seat j same = record {
      claims = λ b some is. sym (same (seat s j).own.listed some) ∙ is;
      heads_seen = λ n is. (is, λ some. same (seat s j).own.listed some);
      walkers = λ has. l.walkers j has;
    }

  -- Seat k's view changes from v to u.
  module _ (s : BoardState O C R) (l : IsLinked s) (k : ℕ) (v u : View C R) (ws : List ℕ) (hs : List (opt.Option (SlotValue O C R))) (me : get_elem? s.views k ≡ opt.some v) where
    -- The board after the step.
    abbrev pub turned_to : BoardState O C R
    turned_to = record { words = ws; homes = hs; views = set s.views k u }

    is_me : seat s k ≡ v
    is_me = (at_there s.views k v blank me).0

    -- What `Keeps` says, for the seat whose view changes from v to u.
    pub record IsKeptHere : Type 0 where
      pub claims : (b : Bool) → 0 < k → belongs (get_or ws (word_of k) 0) u.own.listed ≡ Some b → belongs (word s k) v.own.listed ≡ Some b
      pub heads_seen : (n : ℕ) → u.listing.head_seen ≡ Some n → (v.listing.head_seen ≡ Some n) × (0 < k → belongs (get_or ws (word_of k) 0) u.own.listed ≡ belongs (word s k) v.own.listed)
      pub walkers : u.combiner.has_object ≡ true → IsWalking l.list l.off l.before u.listing

    keeps_here : IsKeptHere → Keeps s turned_to l k u
    keeps_here h = record {
      claims = λ b some is. ap (λ (x : View C R). belongs (word s k) x.own.listed) is_me ∙ h.claims b some is;
      heads_seen = λ n is. let r = h.heads_seen n is in (ap (λ (x : View C R). x.listing.head_seen) is_me ∙ r.0, λ some. r.1 some ∙ sym (ap (λ (x : View C R). belongs (word s k) x.own.listed) is_me));
      walkers = λ has. h.walkers has;
    }

    -- A combiner keeps its walk.
    pub same_walk : v.combiner.has_object ≡ true → u.listing.route ≡ v.listing.route → u.listing.off ≡ v.listing.off → u.listing.before ≡ v.listing.before → IsWalking l.list l.off l.before u.listing
    same_walk has route off before =
        let w : IsWalking l.list l.off l.before v.listing = subst (λ (x : View C R). x.combiner.has_object ≡ true → IsWalking l.list l.off l.before x.listing) is_me (l.walkers k) has in
        record { new = w.new; list_is = w.list_is ∙ ap (λ (r : List ℕ). w.new ++ r) (sym route); off_is = off ∙ w.off_is; before_is = λ some. before ∙ w.before_is some }

    -- The step keeps the rule of the list, if it changes no link, and for no other record whether it has to be on the
    -- list.
    pub aside : ((j : ℕ) → get_or ws (link_of j) 0 ≡ link s j) → length hs ≡ length s.homes → (get_or ws (word_of 0) 0 ≡ FREE → l.off ≡ 0)
        → ((j : ℕ) (b : Bool) → 0 < j → j ≢ k → belongs (get_or ws (word_of j) 0) b ≡ belongs (word s j) b) → IsKeptHere → IsLinked turned_to
    aside links homes locks others here = relisted s turned_to l record {
      links = links;
      homes = homes;
      locks = locks;
      seats = each_set s.views k u blank (Keeps s turned_to l) (at_there s.views k v blank me).1 (keeps_here here) (λ j ne. same_seat s turned_to l j (λ b some. others j b some ne));
    }

  -- Only views change: each record has to be on the list, or off it, only if it had to before.
  module _ (s : BoardState O C R) (l : IsLinked s) (vs : List (View C R)) where
    -- The board with other views.
    abbrev pub viewed_as : BoardState O C R
    viewed_as = record { words = s.words; homes = s.homes; views = vs }

    -- The rule of the list holds, if each seat meets `Keeps`.
    pub seen_listed : ((j : ℕ) → Keeps s viewed_as l j (get_or vs j blank)) → IsLinked viewed_as
    seen_listed seats = relisted s viewed_as l record { links = λ j. refl; homes = refl; locks = l.whole; seats = seats }

    -- A seat that isn't the combiner's, with no head noted and its `listed` unchanged, meets `Keeps`.
    pub unseated : (j : ℕ) (x : View C R) → x.own.listed ≡ (seat s j).own.listed → x.listing.head_seen ≡ None → x.combiner.has_object ≡ false → Keeps s viewed_as l j x
    unseated j x same none no_object = record {
      claims = λ b some is. ap (λ (y : Bool). belongs (word s j) y) (sym same) ∙ is;
      heads_seen = λ n is. absurd (let e = none in cc (is, e));
      walkers = λ has. absurd (let e = no_object in cc (has, e));
    }

    -- A seat whose listing is the same.
    pub same_listed : (j : ℕ) (v x : View C R) → seat s j ≡ v → x.own ≡ v.own → x.listing ≡ v.listing → x.combiner ≡ v.combiner → Keeps s viewed_as l j x
    same_listed j v x is own_same listing_same combiner_same = record {
      claims = λ b some e. ap (λ (y : View C R). belongs (word s j) y.own.listed) is ∙ (ap (λ (o : Own C R). belongs (word s j) o.listed) (sym own_same) ∙ e);
      heads_seen = λ n e. (
        ap (λ (y : View C R). y.listing.head_seen) is ∙ (ap (λ (y : Listing). y.head_seen) (sym listing_same) ∙ e),
        λ some. ap (λ (o : Own C R). belongs (word s j) o.listed) own_same ∙ sym (ap (λ (y : View C R). belongs (word s j) y.own.listed) is),
      );
      walkers = λ has. subst (λ (y : Listing). IsWalking l.list l.off l.before y) (ap (λ (y : View C R). y.listing) is ∙ sym listing_same)
          (l.walkers j (ap (λ (y : View C R). y.combiner.has_object) is ∙ (ap (λ (c : Combiner C). c.has_object) (sym combiner_same) ∙ has)));
    }
