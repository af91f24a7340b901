-- The weight of the calls that a round takes.
use Rattle.std.proofs.Common.{None, ◌≡◌, ◌⊎◌, inl, inr, ⊎_elim, ℕ, ◌+◌, ◌<◌, ◌≤◌, suc, List, [], ◌∷◌, ◌++◌, length, take, drop, vec_len, refl, sym, ap, ◌∙◌, subst, arith, length-append}
use Rattle.std.specs.Prelude.{Contains}
use Rattle.std.specs.Global.{Vec}
use Rattle.std.proofs.lemmas.List.{take-append-drop}
use Rattle.std.proofs.lemmas.List.Elements.{Contains-append_right}
use Rattle.std.proofs.Math.Seq.{drop-append_seam}
use mathlib.Core.List.{IsPrefix}
use Rattle.sequential.specs.declared.entry.Entry.{Entry}
use Rattle.sequential.specs.declared.entry.Item.{Item}
use Rattle.sequential.specs.declared.entry.TheConstants.{MAX_SESSIONS}
use Rattle.sequential.specs.Batches.{asked_by, asked_in}
use Rattle.sequential.proofs.Batches.{asked-append}
use Rattle.combining.specs.Rounds.{weight_of, IsLight, IsUnmet, IsRound, HaveLed, IsFull}
use Rattle.combining.specs.declared.bounds.PassBound.{PassBound}
use Rattle.combining.specs.declared.bounds.TheConstants.{MAX_WEIGHT, UNBOUNDED}
use Rattle.combining.specs.inner.Passes.{HasInserted}
use Rattle.combining.specs.inner.BoundedPasses.{IsFilled, IsWithin}

module _ {C R : Type 0} (weight : List (Entry C R) → ℕ → C → ℕ) (front : List (Entry C R)) where
  weight-append : (these those : List (ℕ × C)) → weight_of weight front (these ++ those) ≡ weight_of weight front these + weight_of weight front those
  weight-append [] those = omega arith
  weight-append (a ∷ others) those = omega (arith, weight-append others those)

  asked-inserted : (old new : List (Item C R)) (whose : ℕ) (call : C) (i : HasInserted whose call old new)
      → asked_by new ≡ asked_by (take i.place old) ++ (whose, call) ∷ asked_by (drop i.place old)
  asked-inserted old new whose call i = ap asked_by i.items ∙ asked-append (take i.place old) _

  -- A call that is inserted makes the row longer by one.
  pub longer-inserted : (old new : List (Item C R)) (whose : ℕ) (call : C) → HasInserted whose call old new → length new ≡ length old + 1
  longer-inserted old new whose call i =
      let parts : length old ≡ length (take i.place old) + length (drop i.place old)
      = ap (λ (l : List (Item C R)). length l) (sym (take-append-drop i.place old)) ∙ length-append (take i.place old) (drop i.place old) in
      omega (arith, parts, ap (λ (l : List (Item C R)). length l) i.items ∙ length-append (take i.place old) ((record { session = whose; call = call; reply = None }) ∷ drop i.place old))

  -- A call that is inserted adds its weight.
  pub weight-inserted : (old new : List (Item C R)) (whose : ℕ) (call : C) → HasInserted whose call old new
      → weight_of weight front (asked_by new) ≡ weight_of weight front (asked_by old) + weight front whose call
  weight-inserted old new whose call i =
      let ahead = asked_by (take i.place old) in
      let behind = asked_by (drop i.place old) in
      let after : weight_of weight front (asked_by new) ≡ weight_of weight front (ahead ++ (whose, call) ∷ behind) = ap (weight_of weight front) (asked-inserted old new whose call i) in
      let before : weight_of weight front (asked_by old) ≡ weight_of weight front (ahead ++ behind)
      = ap (weight_of weight front) (ap asked_by (sym (take-append-drop i.place old)) ∙ asked-append (take i.place old) (drop i.place old)) in
      omega (arith, after, before, weight-append ahead ((whose, call) ∷ behind), weight-append ahead behind)

  -- A call that is taken while the others are light leaves all of them light.
  pub light-inserted : (most : ℕ) (old new : List (Item C R)) (whose : ℕ) (call : C) → HasInserted whose call old new → weight_of weight front (asked_by old) < most
      → IsLight weight most front (asked_by new)
  light-inserted most old new whose call i less heaviest each =
      let there : Contains (asked_by new) (whose, call) = subst (λ (l : List (ℕ × C)). Contains l (whose, call)) (sym (asked-inserted old new whose call i))
      (Contains-append_right (asked_by (take i.place old)) ((whose, call) ∷ asked_by (drop i.place old)) (whose, call) (0, omega arith, refl)) in
      omega (arith, weight-inserted old new whose call i, less, each whose call there)

module _ {C R : Type 0} (weight : List (Entry C R) → ℕ → C → ℕ) where
  -- A round that has opened nothing is within its bound.
  pub within-none : (bound : PassBound) (front : List (Entry C R)) (row : Vec (Item C R)) → row.items ≡ [] → vec_len row ≡ 0 → 0 < bound.weight → IsWithin weight bound front row 0
  within-none bound front row none len some = record {
    few = omega (arith, len);
    weight_is = ap (λ (l : List (Item C R)). weight_of weight front (asked_by l)) (sym none);
    light = subst (λ (l : List (Item C R)). IsLight weight bound.weight front (asked_by l)) (sym none) (λ heaviest each. omega (arith, some));
    slight = omega arith;
  }

  -- A round that isn't filled may take one call more.
  pub within-opened : (bound : PassBound) (front : List (Entry C R)) (old new : Vec (Item C R)) (opened now whose : ℕ) (call : C) → IsWithin weight bound front old opened → vec_len old < bound.calls → opened < bound.weight
      → vec_len new ≤ vec_len old + 1 → HasInserted whose call old.items new.items → now ≡ opened + weight front whose call → weight front whose call ≤ MAX_WEIGHT → IsWithin weight bound front new now
  within-opened bound front old new opened now whose call w room less one i is slight =
      let more = weight-inserted weight front old.items new.items whose call i in
      record {
        few = omega (arith, room, one);
        weight_is = omega (arith, is, w.weight_is, more);
        light = light-inserted weight front bound.weight old.items new.items whose call i (omega (arith, less, w.weight_is));
        slight = omega (arith, is, slight, w.slight, longer-inserted weight front old.items new.items whose call i);
      }

  -- A round that isn't filled looks at one record more.
  pub within-further : (bound : PassBound) (front : List (Entry C R)) (old new : Vec (Item C R)) (opened now whose : ℕ) → IsWithin weight bound front old opened → vec_len old < bound.calls → opened < bound.weight
      → vec_len new ≤ vec_len old + 1 → ((new ≡ old) × (now ≡ opened)) ⊎ ((call : C) × HasInserted whose call old.items new.items × (now ≡ opened + weight front whose call) × (weight front whose call ≤ MAX_WEIGHT)) → IsWithin weight bound front new now
  within-further bound front old new opened now whose w room less one further =
      ⊎_elim (λ same. subst (λ (v : Vec (Item C R)). IsWithin weight bound front v now) (sym same.0) (subst (λ (n : ℕ). IsWithin weight bound front old n) (sym same.1) w))
      (λ more. within-opened bound front old new opened now whose more.0 w room less one more.1 more.2 more.3) further

  -- The entries by which a round has led on.
  led-on : (front after : List (Entry C R)) → IsPrefix front after → after ≡ front ++ drop (length front) after
  led-on front after p = sym p.1 ∙ ap (λ (l : List (Entry C R)). front ++ l) (sym (drop-append_seam front p.0) ∙ ap (drop (length front)) p.1)

  -- A round that has served all that it has opened is one within the bound.
  pub round-made : (bound : PassBound) (front after : List (Entry C R)) (row : List (Item C R)) (served : ℕ) → IsPrefix front after → length after ≡ length front + served
      → asked_in (drop (length front) after) ≡ asked_by row → served ≤ bound.calls → IsLight weight bound.weight front (asked_by row) → IsRound weight bound front after
  round-made bound front after row served longer count asked few light =
      let entries = drop (length front) after in
      let history = led-on front after longer in
      let parts : length after ≡ length front + length entries = ap (λ (l : List (Entry C R)). length l) history ∙ length-append front entries in
      record {
        entries = entries;
        history = history;
        few = omega (arith, parts, count, few);
        light = subst (λ (l : List (ℕ × C)). IsLight weight bound.weight front l) (sym asked) light;
      }

  -- A round that has served all that it has opened, and took as much as it may, is full.
  pub round-full : (bound : PassBound) (front after : List (Entry C R)) (row : List (Item C R)) (served opened : ℕ) → IsPrefix front after → length after ≡ length front + served
      → asked_in (drop (length front) after) ≡ asked_by row → opened ≡ weight_of weight front (asked_by row) → IsFilled bound served opened → IsFull weight bound served after
  round-full bound front after row served opened longer count asked weighed filled =
      let entries = drop (length front) after in
      let history = led-on front after longer in
      let parts : length after ≡ length front + length entries = ap (λ (l : List (Entry C R)). length l) history ∙ length-append front entries in
      record {
        before = front;
        entries = entries;
        history = history;
        own = omega (arith, parts, count);
        full = ⊎_elim (λ calls. inl (omega (arith, calls, parts, count)))
            (λ heavy. inr (subst (λ (l : List (ℕ × C)). bound.weight ≤ weight_of weight front l) (sym asked) (subst (λ (n : ℕ). bound.weight ≤ n) weighed heavy))) filled;
      }

  -- A round behind others.
  pub led-further : (bound : PassBound) (made : ℕ) (before between after : List (Entry C R)) → HaveLed weight bound made before between → HaveLed weight bound 1 between after
      → HaveLed weight bound (made + 1) before after
  led-further bound made before between after led last =
      subst (λ (n : ℕ). HaveLed weight bound n before after) (let one : suc made ≡ made + 1 = omega arith in one)
      (between, led, subst (λ (l : List (Entry C R)). IsRound weight bound l after) last.1 last.2)

  -- One round.
  pub led-once : (bound : PassBound) (before after : List (Entry C R)) → IsRound weight bound before after → HaveLed weight bound 1 before after
  led-once bound before after round = (before, refl, round)

  -- What is full of a pass is full of one that served more.
  pub full-on : (bound : PassBound) (served more : ℕ) (after : List (Entry C R)) → served ≤ more → IsFull weight bound served after → IsFull weight bound more after
  full-on bound served more after few f = record {
    before = f.before;
    entries = f.entries;
    history = f.history;
    own = omega (arith, f.own, few);
    full = f.full;
  }

  -- No round is filled within a bound that no pass meets.
  pub never-filled : (bound : PassBound) (front : List (Entry C R)) (row : Vec (Item C R)) (opened sessions : ℕ) → IsWithin weight bound front row opened → IsUnmet bound
      → length row.items ≤ sessions → vec_len row ≡ length row.items → sessions ≤ MAX_SESSIONS → IsFilled bound (vec_len row) opened → ⊥
  never-filled bound front row opened sessions w unmet few long many filled =
      ⊎_elim (λ calls. omega (arith, calls, unmet.0, few, long, many)) (λ heavy. omega (arith, heavy, unmet.1, w.slight, few, many)) filled

-- No pass meets the bound that stands for none.
pub unbounded : IsUnmet UNBOUNDED
unbounded = (omega arith, omega arith)
