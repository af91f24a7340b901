-- Rows that are written item by item, from the front.
use Rattle.std.proofs.Common.{◌≡◌, ℕ, ◌+◌, ◌-◌, ◌<◌, ◌≤◌, ◌↔◌, ◌≢◌, true, not, eqb, List, length, get_or, set, refl, sym, ◌∙◌, ap, arith, inl, inr, get_or-set_same, get_or-set_other, length-set}
use Rattle.std.specs.Prelude.{bit_or, bit_xor}
use Rattle.std.proofs.lemmas.Bool.{cases_lt}
use Rattle.std.proofs.lemmas.Grind.{same_number_lists}
use lib.Bits.{xor_self}
use Rattle.mode_lanes.specs.Masks.{union_of}
use Rattle.mode_lanes.proofs.Unions.{or-zero_parts, or-zero, zero-from_union, union-all_zero, union-zip2, same-from_xor, ne_from_not, not_from_ne}
use lib.Lanes.{zip2, put_chunk, chunk}
use Rattle.std.proofs.lemmas.Simd.{length-chunk, length-zip2, get_or-zip2, get_or-chunk, get_or-put_chunk_below, get_or-put_chunk_at, get_or-put_chunk_above, length-put_chunk}

-- The items below n are f of the old items and the other row's items; the items from n on are the old items.
pub record WrittenBelow (f : ℕ → ℕ → ℕ) (n : ℕ) (old other now : List ℕ) : Type 0 where
  pub room : length now ≡ length old
  pub written : (k : ℕ) → k < n → get_or now k 0 ≡ f (get_or old k 0) (get_or other k 0)
  pub open_yet : (k : ℕ) → n ≤ k → get_or now k 0 ≡ get_or old k 0

-- Below n the other row has no bit that the old row does not have.
abbrev pub AddsNothingBelow : ℕ → List ℕ → List ℕ → Type 0
AddsNothingBelow n old other = (k : ℕ) → k < n → bit_or (get_or old k 0) (get_or other k 0) ≡ get_or old k 0

module _ (f : ℕ → ℕ → ℕ) (old other now : List ℕ) (n : ℕ) (h : WrittenBelow f n old other now) where
  -- After one more item, the items are written one further.
  pub written-item : n < length old → WrittenBelow f (n + 1) old other (set now n (f (get_or now n 0) (get_or other n 0)))
  written-item lt = record {
    room = length-set now n _ ∙ h.room;
    written = λ k below. elim (cases_lt k n) [
      | inl less ↦ let ne : k ≢ n = omega (arith, less) in get_or-set_other now n k _ 0 ne ∙ h.written k less
      | inr not_less ↦ let e : k ≡ n = omega (arith, below, not_less) in rw e (get_or-set_same now n _ 0 (omega (arith, h.room, lt)) ∙ ap (λ (x : ℕ). f x (get_or other n 0)) (h.open_yet n (omega arith)))
    ];
    open_yet = λ k above. let ne : k ≢ n = omega (arith, above) in get_or-set_other now n k _ 0 ne ∙ h.open_yet k (omega (arith, above));
  }

  -- After one more chunk, the items are written one chunk further.
  pub written-chunk : (w : ℕ) (vs : List ℕ) → length vs ≡ w → n + w ≤ length old → ((j : ℕ) → j < w → get_or vs j 0 ≡ f (get_or now (n + j) 0) (get_or other (n + j) 0)) → WrittenBelow f (n + w) old other (put_chunk n now vs)
  written-chunk w vs long le each = record {
    room = length-put_chunk n now vs ∙ h.room;
    written = λ k below. elim (cases_lt k n) [
      | inl less ↦ get_or-put_chunk_below n now vs k 0 less ∙ h.written k less
      | inr not_less ↦ at k below not_less
    ];
    open_yet = λ k above. get_or-put_chunk_above n now vs k 0 (omega (arith, long, above)) ∙ h.open_yet k (omega (arith, above));
  }
    where
      at : (k : ℕ) → k < n + w → n ≤ k → get_or (put_chunk n now vs) k 0 ≡ f (get_or old k 0) (get_or other k 0)
      at k below from =
          let e : n + (k - n) ≡ k = omega (arith, from) in
          let small : k - n < w = omega (arith, from, below) in
          ap (λ (i : ℕ). get_or (put_chunk n now vs) i 0) (sym e) ∙ get_or-put_chunk_at n now vs (k - n) 0 (omega (arith, small, long)) (omega (arith, long, le, h.room))
          ∙ each (k - n) small ∙ ap (λ (i : ℕ). f (get_or now i 0) (get_or other i 0)) e ∙ ap (λ (x : ℕ). f x (get_or other k 0)) (h.open_yet k from)

  -- After one more chunk, written as f of two chunks lane by lane, the items are written one chunk further.
  pub written-lanes : (w : ℕ) → length old ≡ length other → n + w ≤ length other → WrittenBelow f (n + w) old other (put_chunk n now (zip2 f (chunk n w now) (chunk n w other)))
  written-lanes w same le = written-chunk w _ (length-zip2 f (chunk n w now) (chunk n w other) (mine ∙ sym theirs) ∙ mine) (omega (arith, same, le)) (λ j lt. get_or-zip2 f (chunk n w now) (chunk n w other) j 0 0 0 (omega (arith, mine, lt)) (omega (arith, theirs, lt)) ∙ rw (get_or-chunk n w now j 0 lt) (rw (get_or-chunk n w other j 0 lt) refl))
    where
      mine : length (chunk n w now) ≡ w
      mine = length-chunk n w now (omega (arith, h.room, same, le))

      theirs : length (chunk n w other) ≡ w
      theirs = length-chunk n w other le

-- Whether a row changes, after one more item and after one more chunk.
module _ (old other now : List ℕ) (n : ℕ) (h : WrittenBelow bit_or n old other now) where
  -- After one more item, no change was noted exactly if the other row adds nothing so far.
  pub adds-item : (changes : ℕ) → ((changes ≡ 0) ↔ AddsNothingBelow n old other) → (bit_or changes (bit_xor (get_or now n 0) (bit_or (get_or now n 0) (get_or other n 0))) ≡ 0) ↔ AddsNothingBelow (n + 1) old other
  adds-item changes s = (there, back)
    where
      was : get_or now n 0 ≡ get_or old n 0
      was = h.open_yet n (omega arith)

      there : bit_or changes (bit_xor (get_or now n 0) (bit_or (get_or now n 0) (get_or other n 0))) ≡ 0 → AddsNothingBelow (n + 1) old other
      there e k below =
          let parts = or-zero_parts changes _ e in
          elim (cases_lt k n) [
            | inl less ↦ s.0 parts.0 k less
            | inr not_less ↦ let at : k ≡ n = omega (arith, below, not_less) in let q : get_or now n 0 ≡ bit_or (get_or now n 0) (get_or other n 0) = same-from_xor _ _ parts.1 in rw at (sym (rw was at q))
          ]

      back : AddsNothingBelow (n + 1) old other → bit_or changes (bit_xor (get_or now n 0) (bit_or (get_or now n 0) (get_or other n 0))) ≡ 0
      back a = or-zero changes _ (s.1 (λ k less. a k (omega (arith, less)))) (rw was (rw (a n (omega arith)) (xor_self (get_or old n 0))))

  -- After one more chunk, no change was noted exactly if the other row adds nothing so far.
  pub adds-lanes : (w : ℕ) (changed : List ℕ) → length old ≡ length other → n + w ≤ length other → length changed ≡ w → ((union_of changed ≡ 0) ↔ AddsNothingBelow n old other) → (union_of (zip2 bit_or changed (zip2 bit_xor (chunk n w now) (zip2 bit_or (chunk n w now) (chunk n w other)))) ≡ 0) ↔ AddsNothingBelow (n + w) old other
  adds-lanes w changed same le full s = (there, back)
    where
      mine : length (chunk n w now) ≡ w
      mine = length-chunk n w now (omega (arith, h.room, same, le))

      theirs : length (chunk n w other) ≡ w
      theirs = length-chunk n w other le

      both : length (zip2 bit_or (chunk n w now) (chunk n w other)) ≡ w
      both = length-zip2 bit_or (chunk n w now) (chunk n w other) (mine ∙ sym theirs) ∙ mine

      news : length (zip2 bit_xor (chunk n w now) (zip2 bit_or (chunk n w now) (chunk n w other))) ≡ w
      news = length-zip2 bit_xor (chunk n w now) (zip2 bit_or (chunk n w now) (chunk n w other)) (mine ∙ sym both) ∙ mine

      lane : (j : ℕ) → j < w → get_or (zip2 bit_xor (chunk n w now) (zip2 bit_or (chunk n w now) (chunk n w other))) j 0 ≡ bit_xor (get_or old (n + j) 0) (bit_or (get_or old (n + j) 0) (get_or other (n + j) 0))
      lane j lt =
          get_or-zip2 bit_xor (chunk n w now) (zip2 bit_or (chunk n w now) (chunk n w other)) j 0 0 0 (omega (arith, mine, lt)) (omega (arith, both, lt))
          ∙ rw (get_or-zip2 bit_or (chunk n w now) (chunk n w other) j 0 0 0 (omega (arith, mine, lt)) (omega (arith, theirs, lt))) (rw (get_or-chunk n w now j 0 lt) (rw (get_or-chunk n w other j 0 lt) (rw (h.open_yet (n + j) (omega arith)) refl)))

      parted : union_of (zip2 bit_or changed (zip2 bit_xor (chunk n w now) (zip2 bit_or (chunk n w now) (chunk n w other)))) ≡ bit_or (union_of changed) (union_of (zip2 bit_xor (chunk n w now) (zip2 bit_or (chunk n w now) (chunk n w other))))
      parted = union-zip2 changed _ (full ∙ sym news)

      there : union_of (zip2 bit_or changed (zip2 bit_xor (chunk n w now) (zip2 bit_or (chunk n w now) (chunk n w other)))) ≡ 0 → AddsNothingBelow (n + w) old other
      there e k below =
          let parts = or-zero_parts (union_of changed) _ (sym parted ∙ e) in
          elim (cases_lt k n) [
            | inl less ↦ s.0 parts.0 k less
            | inr not_less ↦
                let at : n + (k - n) ≡ k = omega (arith, not_less) in
                let z : bit_xor (get_or old (n + (k - n)) 0) (bit_or (get_or old (n + (k - n)) 0) (get_or other (n + (k - n)) 0)) ≡ 0 = sym (lane (k - n) (omega (arith, below, not_less))) ∙ zero-from_union _ parts.1 (k - n) in
                sym (same-from_xor _ _ (rw at at z))
          ]

      back : AddsNothingBelow (n + w) old other → union_of (zip2 bit_or changed (zip2 bit_xor (chunk n w now) (zip2 bit_or (chunk n w now) (chunk n w other)))) ≡ 0
      back a = parted ∙ or-zero (union_of changed) _ (s.1 (λ k less. a k (omega (arith, less)))) (union-all_zero _ (λ j lt. let small : j < w = omega (arith, lt, news) in lane j small ∙ rw (a (n + j) (omega (arith, small))) (xor_self (get_or old (n + j) 0))))

-- After the whole row, a change was noted exactly if the row differs from the old row.
pub changed-whole : (old other now : List ℕ) (n changes : ℕ) → WrittenBelow bit_or n old other now → length old ≡ n → ((changes ≡ 0) ↔ AddsNothingBelow n old other) → (not (eqb changes 0) ≡ true) ↔ (now ≢ old)
changed-whole old other now n changes h long s = (there, back)
  where
    there : not (eqb changes 0) ≡ true → now ≢ old
    there t e = ne_from_not changes t (s.1 (λ k lt. sym (h.written k lt) ∙ ap (λ (l : List ℕ). get_or l k 0) e))

    back : now ≢ old → not (eqb changes 0) ≡ true
    back ne = not_from_ne changes (λ z. ne (same_number_lists now old h.room (λ k lt. h.written k (omega (arith, lt, h.room, long)) ∙ s.0 z k (omega (arith, lt, h.room, long)))))
