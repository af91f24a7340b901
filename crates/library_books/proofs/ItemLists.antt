-- The walks of lists that may be null, at all items at once: `is_null`, and `items`, which lends them. Assumes `Logic`.
use Rattle.std.proofs.Common.{◌≡◌, ℕ, zero, suc, ◌*◌, ◌^◌, ◌<◌, List, [], ◌∷◌, length, refl, sym, ap, ◌∙◌, subst, lit<, arith, zero-mul, eqb→eq, true≢false, IsTrue, ◌↔◌, w64, MutBor}
use Rattle.library_books.proofs.Walking.{proved, Ura, Fn, Body, Callee, named, erased, ty_ptr, ty_bool, ty_int, local, value_local, place, deref, field, copy, int, assign, rv_opd, op2, eq, ptr_eq, cond, seq}
use mir.Syntax.{ne, bit_and}
use mir.Val.{ptr_same}
use mathlib.Core.Bool.{Bool, not, ◌&&◌}
use lib.Dec.{eqb, eqb-suc-zero}
use Rattle.library_books.proofs.Walking.{aggregate, return, skip, block, addr_of, Val, vint, vbool, full_share, ent, sep, emp, GName, Fml, ftrue, fsep, feq, flft, Model, Closed, fact, Running, tables, Logic, sem}
use Rattle.library_books.proofs.Walking.{whole, sub, look_in, agg, Item, Goal, Seq, ‵, raw, ◌⊛◌, some, later, at_ret, ◌$◌, ◌∵◌, !, qed, done, move, keep, drop, use1, split, split3, join, fsplit, fsplit3, fjoin, fpack, feq_l}
use Rattle.library_books.proofs.Walking.{feq_i, flt_l, flt_i, pick, await, rewrite, suffices, frame, group, enter, of_opd, lit, bin, addr, load, stop, fld, no_more, and_then, first, blocks, branches, skips, exec}
use Rattle.library_books.proofs.Walking.{returns, is, alloc_all, pass_all, free_all, look_at, get, through, sets, sets_last, env, bool, RefMutOf, SliceRefMutOf, yes, no, shows, mem, cell_at, part_at, RattleType}
use Rattle.library_books.proofs.Walking.{Ptr, block_ptr, null_ptr, ptr_val, Testable, tests_null, MutRef, mut_vals, mut_Tells, Signature, plain, mut_ref_to, nothing, heard, opens, closes, peeks, RawPtr-laws, usize-laws, Struct}
use Rattle.library_books.proofs.Walking.{layout, Owning, row, shape, Tells-lowered, Clauses, Ended, closing, Meets, Stays, walk_of, says, stay_dropped, stay_ref, Goes-ref, Goes-spent_ref, ends_at}
use Rattle.std.proofs.lemmas.List.{nil_from_length}
use Rattle.std.specs.Borrow.{Lends}
use types.SemTy.{Arr, cells}
use denote.Array.{Array}
use denote.ArrayMemory.{Array-apart, Array-whole}
use denote.Follow.{follows}
use denote.FollowSlice.{lends_Elements}
use denote.Memory.{part_of}
use denote.Slice.{MutSlice, slice_val}
use denote.Struct.Field.{RawPtr-field, usize-field}
use Rattle.library_books.specs.Behind.{items_at, list_at}
use Rattle.library_books.proofs.PointerValues.{ptr_typed}
use Rattle.library_books.proofs.Behind.{PointerTo, behind_block, null_or_block, says_both, not_null, first_of, sized, pointer_of}

module _ {M : Type 1} {𝓤 : Ura M} {𝓛 : Logic 𝓤} {K : Type 0} {Γ : List (Item 𝓤)} {G : Goal 𝓤 𝓛.H} where
  -- by whether a number is 0
  pub none_or_more : K → (n : ℕ) (F : ℕ → Fml) → (n ≡ 0 → Seq K 𝓛 (‵ (F 0) ∷ Γ) G)
      → ((m : ℕ) → n ≡ suc m → Seq K 𝓛 (‵ (F (suc m)) ∷ Γ) G) → Seq K 𝓛 (‵ (F n) ∷ Γ) G
  none_or_more t zero F k h = k refl
  none_or_more t (suc m) F k h = h m refl

-- what the test of a pointer gives
abbrev at_null : Ptr → Bool
at_null p = ptr_same (ptr_val p) (vint w64 0)

at_null_told : (p : Ptr) → IsTrue (at_null p) ↔ (p ≡ null_ptr)
at_null_told null_ptr = ((λ t. refl), (λ z. refl))
at_null_told (block_ptr b o) = ((λ t. absurd (true≢false (sym t))), (λ z. absurd (not_null z)))

-- what the tests of a pointer and of a number give
abbrev is_null_list : Ptr → ℕ → Bool
is_null_list p n = not (eqb n 0) && at_null p

is_null_list_told : (p : Ptr) (n : ℕ) → IsTrue (is_null_list p n) ↔ ((p ≡ null_ptr) × (0 < n))
is_null_list_told p zero = ((λ t. absurd (true≢false (sym t))), (λ z. absurd (omega (arith, z.1))))
is_null_list_told p (suc m) =
    subst (λ (b : Bool). IsTrue (not b && at_null p) ↔ ((p ≡ null_ptr) × (0 < suc m))) (sym (eqb-suc-zero m))
    ((λ t. ((at_null_told p).0 t, omega arith)), (λ z. (at_null_told p).1 z.0))

module _ {M : Type 1} {𝓤 : Ura M} (𝓛 : Logic 𝓤) (R T : RattleType) (F : List T.Denot → R.Denot) (A : Fml) (us : List Val) (b o b' o' : ℕ) (xs : List T.Denot) where
  -- all but the items
  abbrev pub Rest : Fml
  Rest = fsep A (cell_at full_share R.mir us b o)

  pub back : (H : List T.Denot → Fml) → ((ws : List T.Denot) → R.own_val (F ws) us ≡ fsep A (H ws))
      → ((ws : List T.Denot) → length ws ≡ length xs → ent 𝓤 (sem 𝓛 (cells (mem T) ws b' o')) (sem 𝓛 (H ws)))
      → (ws : List T.Denot) → length ws ≡ length xs → ent 𝓤 (sep 𝓤 (sem 𝓛 (cells (mem T) ws b' o')) (sem 𝓛 Rest)) (sem 𝓛 ((mem R).own_at (F ws) b o))
  unfolding part_of
  back H e h ws same =
      qed 𝓛 (‵ (cells (mem T) ws b' o') ∷ ‵ Rest ∷ []) ∵ use1 𝓛 (‵ (H ws)) (h ws same) $ move ! (1 ∷ []) $ fsplit ! $ move ! (0 ∷ 2 ∷ []) $ fjoin ! $
      rewrite ! 0 (λ (X : Fml). ‵ X) (sym (e ws)) refl $ move ! (1 ∷ 0 ∷ []) $ fjoin ! $
      fpack ! (List Val) (λ vs. fsep (cell_at full_share R.mir vs b o) (R.own_val (F ws) vs)) us $ done !

-- a struct of a pointer and a number, with the items behind the pointer as a ghost field
pub record ListOf (X : RattleType) : Type 2 where
  pub pointer : PointerTo (Array (sized X (first_of X.mir)) 0)
  pub room : pointer.owning.D → ℕ
  pub with_behind : pointer.owning.D → List X.Denot → pointer.owning.D
  pub at_stays : (d : pointer.owning.D) (xs : List X.Denot) → pointer.at (with_behind d xs) ≡ pointer.at d
  pub room_stays : (d : pointer.owning.D) (xs : List X.Denot) → room (with_behind d xs) ≡ room d
  pub is_behind : (d : pointer.owning.D) (xs : List X.Denot) → pointer.behind (with_behind d xs) ≡ xs

-- one by its type
abbrev pub list_of : (X : RattleType) (o : Owning) (at : o.D → Ptr) → ((d : o.D) → Testable (at d)) → (behind : o.D → List X.Denot) (room : o.D → ℕ) (with_behind : o.D → List X.Denot → o.D)
    → ((d : o.D) (xs : List X.Denot) → at (with_behind d xs) ≡ at d) → ((d : o.D) (xs : List X.Denot) → room (with_behind d xs) ≡ room d) → ((d : o.D) (xs : List X.Denot) → behind (with_behind d xs) ≡ xs) → ListOf X
list_of X o at testable behind room with_behind at_stays room_stays is_behind = record {
  pointer = pointer_of (Array (sized X (first_of X.mir)) 0) o at testable behind;
  room = room;
  with_behind = with_behind;
  at_stays = at_stays;
  room_stays = room_stays;
  is_behind = is_behind;
}

module _ {X : RattleType} (P : ListOf X) where
  abbrev T : RattleType
  T = sized X (first_of X.mir)

  abbrev pub the_type : Owning
  the_type = record {
    name = P.pointer.owning.name;
    args = [];
    types = [];
    parts = RawPtr-field ∷ usize-field ∷ [];
    D = P.pointer.owning.D;
    as_values = λ d. (P.pointer.at d, (P.room d, tt));
    coded = P.pointer.owning.coded;
    heap = λ d. list_at T (P.room d) (P.pointer.at d) (P.pointer.behind d);
    exit = P.pointer.owning.exit;
    shr_at = P.pointer.owning.shr_at;
  }

  abbrev pub R : RattleType
  R = row the_type

  -- what the struct's fields own
  abbrev fields_own : Ptr → ℕ → List Val → Fml
  fields_own p n us = (Struct (shape the_type)).own_val (p, (n, tt)) us

  abbrev pub IsNull : P.pointer.owning.D → Type 0
  IsNull d = (P.pointer.at d ≡ null_ptr) × (0 < P.room d)

  -- the items
  abbrev pub items_signature : Signature
  items_signature = record {
    lifetimes = 1;
    outlives = [];
    params = RefMutOf (0 ∷ []) tt (plain (λ κs. R)) (λ κs. tt) ∷ [];
    result = SliceRefMutOf (0 ∷ []) tt (plain (λ κs. T)) (λ κs. tt);
  }

  abbrev pub items_ended : Ended
  items_ended = record { signature = items_signature; kept = (no, tt) }

  abbrev items_stayed : Stays items_ended.signature.params items_ended.kept
  items_stayed = (stay_dropped (mut_ref_to (0 ∷ []) tt (plain (λ _. R))) no, tt)

  abbrev pub items_clauses : {M : Type 1} {𝓤 : Ura M} (𝓛 : Logic 𝓤) → (P.pointer.owning.D → Type 0) → Clauses 𝓤 items_ended
  items_clauses {𝓤 = 𝓤} 𝓛 Null κs a = record {
    ghost = Unit {0};
    requires = λ _. fact 𝓤 (Null a.0.now → ⊥);
    ensures = λ _ r _. sep 𝓤 (sem 𝓛 (Lends R (Array T 0) a.0 r (P.with_behind a.0.now))) (fact 𝓤 (r.now ≡ P.pointer.behind a.0.now));
  }

  abbrev self_at : ℕ → Body
  self_at k = assign (place k []) (addr_of (place 1 (deref (layout (shape the_type)) ∷ [])))

  abbrev self_field : ℕ → ℕ → Body
  self_field i k = assign (place i []) (rv_opd (copy (place 1 (deref (layout (shape the_type)) ∷ field k ∷ []))))

  abbrev made : Body
  made = assign (place 4 []) (aggregate (copy (place 3 []) ∷ copy (place 2 []) ∷ []))

  abbrev t-2 : Body
  t-2 = seq (assign (place 0 []) (rv_opd (copy (place 4 [])))) return

  abbrev pub items_function : Fn
  items_function = record {
    lifetimes = 1;
    outlives = [];
    ty_params = [];
    givens = 0;
    params = 1;
    locals = local (first_of (MutSlice (named 0) [] T).mir) value_local ∷ local (first_of (MutRef (named 0) [] R).mir) value_local ∷ local (ty_int w64) value_local ∷ local ty_ptr value_local
        ∷ local (first_of (MutSlice erased [] T).mir) value_local ∷ local ty_bool value_local ∷ local ty_ptr value_local ∷ [];
    body = seq (block (seq (self_field 2 1) (seq (self_field 3 0) (seq (assign (place 5 []) (op2 eq (copy (place 2 [])) (int w64 0)))
        (seq (cond (copy (place 5 [])) (seq (self_at 6) (assign (place 3 []) (rv_opd (copy (place 6 []))))) skip) made))))) t-2;
  }

  -- the list with other items, of the same pointer and number
  opened : (h : P.pointer.owning.D) (us : List Val) (ws : List X.Denot) → R.own_val (P.with_behind h ws) us ≡ fsep (fields_own (P.pointer.at h) (P.room h) us) (list_at T (P.room h) (P.pointer.at h) ws)
  opened h us ws =
      ap (λ (p : Ptr). fsep (fields_own p (P.room (P.with_behind h ws)) us) (list_at T (P.room (P.with_behind h ws)) p (P.pointer.behind (P.with_behind h ws)))) (P.at_stays h ws)
      ∙ ap (λ (n : ℕ). fsep (fields_own (P.pointer.at h) n us) (list_at T n (P.pointer.at h) (P.pointer.behind (P.with_behind h ws)))) (P.room_stays h ws)
      ∙ ap (λ (zs : List X.Denot). fsep (fields_own (P.pointer.at h) (P.room h) us) (list_at T (P.room h) (P.pointer.at h) zs)) (P.is_behind h ws)

  module _ {M : Type 1} (𝓤 : Ura M) (𝓛 : Logic 𝓤) (𝓜 : Model 𝓤 𝓛.H) (𝓡 : Running 𝓤 𝓛.H 𝓜) {k : Callee} where
    pub items_lent : (Null : P.pointer.owning.D → Type 0) → ((d : P.pointer.owning.D) → IsNull d → Null d)
        → Closed 𝓤 𝓛.H (tables 𝓤 𝓛.H 𝓜 𝓡 𝓡.env).C (tables 𝓤 𝓛.H 𝓜 𝓡 𝓡.env).Λ k items_function
        → Meets 𝓛 items_signature (𝓡.run (𝓡.env k)) (closing 𝓛 items_ended (items_clauses 𝓛 Null))
    items_lent Null nulls closed =
        let c = items_clauses 𝓛 Null in let W = walk_of 𝓛 items_ended items_stayed c in let 𝓣 = tables 𝓤 𝓛.H 𝓜 𝓡 𝓡.env in
        proved 𝓛 items_ended items_stayed c 𝓜 𝓡 (Goes-spent_ref 𝓛 1 (0 ∷ []) tt (plain (λ _. R)), tt)
        k items_function closed
        (λ κs. (mut_vals, tt)) (λ κs. (mut_Tells (named 0) κs.0 R, tt)) (λ κs qs bounds a _ are.
        let b = a.0.ref_ptr.0 in let o = a.0.ref_ptr.1 in let γ = a.0.ghost_name in let h = a.0.now in let vs = mut_vals a.0 in
        let xs = P.pointer.behind h in
        let y : W.Ghost = ((κs, qs, bounds, a, (vs, tt)), tt) in
        let Lent : RattleType = MutSlice (named 0) κs.0 T in
        qed 𝓛 (((‵ (flft κs.0 qs.0) ⊛ ‵ ftrue) ⊛ ‵ ((MutRef (named 0) κs.0 R).own_val a.0 vs) ⊛ ‵ ftrue) ∷ raw (fact 𝓤 (Null h → ⊥)) ∷ []) ∵ move ! (1 ∷ []) $ heard ! (Null h → ⊥) (λ filled.
        split ! $ split ! $ move ! (2 ∷ []) $ split ! $ keep ! (0 ∷ 2 ∷ []) $
        enter ! _ _ _ _ _ $ alloc_all ! (λ l. pass_all ! refl ((tt, tt), tt) $
        let En = env items_function.locals l in
        fsplit3 ! $ move ! (1 ∷ 2 ∷ 3 ∷ []) $ opens ! tt R b o (λ us.
        move ! (1 ∷ []) $ peeks ! R _ (shows 𝓛 R) h us (λ is_us. fsplit ! $ move ! (1 ∷ []) $
        let Cell = λ (ws : List Val). ‵ (cell_at full_share R.mir ws b o) in
        let word = Tells-lowered the_type (RawPtr-laws, (usize-laws, tt)) h us is_us in
        let A : Fml = fields_own (P.pointer.at h) (P.room h) us in
        let fits : P.room h < 2 ^ 64 = is_us.0.1.1.1.0.1 in
        first ! $ blocks ! $
        none_or_more ! (P.room h) (λ n. list_at T n (P.pointer.at h) xs)
        (λ e. feq_l ! (λ none. rewrite ! 1 Cell word refl $
        -- [the fields; the struct's cell; the open borrow, in three entries]
        sets ! (is ! (of_opd ! (load ! (through ! refl (fld ! refl (stop !))) (look_in ! 1 (sub ! 1 refl (whole !))))) (ap (vint w64) e)) refl (tt, record { fits = lit< tt }) $
        sets ! (of_opd ! (load ! (through ! refl (fld ! refl (stop !))) (look_in ! 1 (sub ! 0 refl (whole !))))) refl (ptr_typed (P.pointer.at h)) $
        sets ! (bin ! (get ! refl) (lit ! tt) tt) refl (tt, tt) $
        first ! $ branches ! (get ! refl)
        (λ t. rewrite ! 1 Cell (sym word) refl $ sets ! (addr ! (through ! refl (stop !))) refl (tt, tt) $ sets_last ! (of_opd ! (get ! refl)) refl (tt, tt) $
        exec ! 𝓣.C 𝓣.Λ En made (behind_block 𝓛 𝓣.C 𝓣.Λ En t-2 (W.post y)) $
        let count : length xs ≡ 0 = ap length none in let roomy : length xs < 2 ^ 64 = omega (arith, count) in
        nothing ! $ rewrite ! 0 (λ (ws : List X.Denot). ‵ (cells (mem T) ws b o)) (sym none) refl $
        sets_last ! (is ! (agg ! (and_then ! (get ! refl) (and_then ! (get ! refl) (no_more !)))) (ap (slice_val (b, o)) (sym count))) refl (tt, (tt, (record { fits = roomy }, tt))) $
        exec ! 𝓣.C 𝓣.Λ En t-2 (at_ret En (W.post y)) $
        sets ! (of_opd ! (get ! refl)) refl (tt, (tt, (record { fits = roomy }, tt))) $
        -- [the items; the fields; the struct's cell; the open borrow, in three entries]
        move ! (1 ∷ 2 ∷ []) $ fjoin ! $ move ! (2 ∷ 3 ∷ 4 ∷ 1 ∷ 0 ∷ []) $ group ! 5 $
        let value : Val = slice_val (b, o) (length xs) in
        let lent : GName → MutBor (List X.Denot) = λ δ. record { ref_ptr = (b, o); ghost_name = δ; now = xs } in
        let way = back 𝓛 R T (P.with_behind h) A us b o b o xs (λ ws. feq (List T.Denot) ws [])
        (λ ws. opened h us ws ∙ ap (λ n. fsep A (list_at T n (P.pointer.at h) ws)) e)
        (λ ws same. qed 𝓛 (‵ (cells (mem T) ws b o) ∷ []) ∵ drop ! $ feq_i ! (List T.Denot) ws [] (nil_from_length ws (same ∙ count)) $ done !) in
        use1 𝓛 (later (some (λ (δ : GName). ‵ (Lent.own_val (lent δ) (value ∷ [])) ⊛ ‵ (flft κs.0 qs.0) ⊛ ‵ (follows R (Array T 0) γ δ (P.with_behind h)))))
        (lends_Elements 𝓛 R T (P.with_behind h) (named 0) κs.0 qs.0 b o b o γ xs ((roomy, subst (λ (n : ℕ). n * (mem T).size < 2 ^ 63) (sym count) (subst (λ (n : ℕ). n < 2 ^ 63) (sym (zero-mul (mem T).size)) (lit< tt)))) (sem 𝓛 (Rest 𝓛 R T (P.with_behind h) A us b o b o xs)) way (R.coded.code h) (R.coded.code h)) $ await ! tt $ pick ! (λ δ. split3 ! $
        returns ! (look_at ! 0 refl) $ free_all ! refl $ keep ! (0 ∷ 1 ∷ 2 ∷ []) $
        suffices ! _ (ends_at 𝓛 items_ended items_stayed c y value (lent δ) (tt, tt) (tt, tt)) $
        nothing ! $ move ! (2 ∷ 0 ∷ []) $ join ! $ nothing ! $ nothing ! $ join ! $ move ! (1 ∷ 0 ∷ 2 ∷ []) $ group ! 3 $ frame ! $ says ! refl $ done !))
        (λ t. absurd t)))
        (λ m e. let fits_m : suc m < 2 ^ 64 = subst (λ (n : ℕ). n < 2 ^ 64) e fits in
        null_or_block ! (P.pointer.at h) (λ p. items_at T (suc m) p xs) (λ null. absurd (filled (nulls h (null, subst (λ (n : ℕ). 0 < n) (sym e) (omega arith)))))
        (λ b' o' at_is. fsplit ! $ flt_l ! (λ small. use1 𝓛 (‵ ((Arr (mem T) (suc m)).own_at xs b' o')) (Array-apart 𝓛 T full_share tt (suc m) xs b' o') $ fsplit ! $ feq_l ! (λ count.
        rewrite ! 2 Cell word refl $
        sets ! (is ! (of_opd ! (load ! (through ! refl (fld ! refl (stop !))) (look_in ! 2 (sub ! 1 refl (whole !))))) (ap (vint w64) e)) refl (tt, record { fits = fits_m }) $
        sets ! (is ! (of_opd ! (load ! (through ! refl (fld ! refl (stop !))) (look_in ! 2 (sub ! 0 refl (whole !))))) (ap ptr_val at_is)) refl (tt, tt) $
        sets ! (bin ! (get ! refl) (lit ! tt) tt) refl (tt, tt) $
        first ! $ branches ! (get ! refl) (λ t. absurd (omega (arith, eqb→eq (suc m) 0 t)))
        (λ t. skips ! $ exec ! 𝓣.C 𝓣.Λ En made (behind_block 𝓛 𝓣.C 𝓣.Λ En t-2 (W.post y)) $
        let roomy : length xs < 2 ^ 64 = omega (arith, count, fits_m) in
        rewrite ! 2 Cell (sym word) refl $
        sets_last ! (is ! (agg ! (and_then ! (get ! refl) (and_then ! (get ! refl) (no_more !)))) (ap (slice_val (b', o')) (sym count))) refl (tt, (tt, (record { fits = roomy }, tt))) $
        exec ! 𝓣.C 𝓣.Λ En t-2 (at_ret En (W.post y)) $
        sets ! (of_opd ! (get ! refl)) refl (tt, (tt, (record { fits = roomy }, tt))) $
        -- [the items; the fields; the struct's cell; the open borrow, in three entries]
        move ! (1 ∷ 2 ∷ []) $ fjoin ! $ move ! (2 ∷ 3 ∷ 4 ∷ 1 ∷ 0 ∷ []) $ group ! 5 $
        let value : Val = slice_val (b', o') (length xs) in
        let lent : GName → MutBor (List X.Denot) = λ δ. record { ref_ptr = (b', o'); ghost_name = δ; now = xs } in
        let way = back 𝓛 R T (P.with_behind h) A us b o b' o' xs (λ ws. items_at T (suc m) (block_ptr b' o') ws)
        (λ ws. opened h us ws ∙ ap (λ n. fsep A (list_at T n (P.pointer.at h) ws)) e ∙ ap (λ p. fsep A (items_at T (suc m) p ws)) at_is)
        (λ ws same. qed 𝓛 (‵ (cells (mem T) ws b' o') ∷ []) ∵ feq_i ! ℕ (length ws) (suc m) (same ∙ count) $ fjoin ! $ use1 𝓛 (‵ (part_at (Array T (suc m)) full_share ws b' o')) (Array-whole 𝓛 T full_share (suc m) ws b' o') $ flt_i ! (suc m * (mem T).size) (2 ^ 63) small $ fjoin ! $ done !) in
        use1 𝓛 (later (some (λ (δ : GName). ‵ (Lent.own_val (lent δ) (value ∷ [])) ⊛ ‵ (flft κs.0 qs.0) ⊛ ‵ (follows R (Array T 0) γ δ (P.with_behind h)))))
        (lends_Elements 𝓛 R T (P.with_behind h) (named 0) κs.0 qs.0 b o b' o' γ xs ((roomy, subst (λ (n : ℕ). n * (mem T).size < 2 ^ 63) (sym count) small)) (sem 𝓛 (Rest 𝓛 R T (P.with_behind h) A us b o b' o' xs)) way (R.coded.code h) (R.coded.code h)) $ await ! tt $ pick ! (λ δ. split3 ! $
        returns ! (look_at ! 0 refl) $ free_all ! refl $ keep ! (0 ∷ 1 ∷ 2 ∷ []) $
        suffices ! _ (ends_at 𝓛 items_ended items_stayed c y value (lent δ) (tt, tt) (tt, tt)) $
        nothing ! $ move ! (2 ∷ 0 ∷ []) $ join ! $ nothing ! $ nothing ! $ join ! $ move ! (1 ∷ 0 ∷ 2 ∷ []) $ group ! 3 $ frame ! $ says ! refl $ done !)))))))))))

  -- whether the list is null
  abbrev pub null_signature : Signature
  null_signature = record {
    lifetimes = 1;
    outlives = [];
    params = RefMutOf (0 ∷ []) tt (plain (λ κs. R)) (λ κs. tt) ∷ [];
    result = plain (λ κs. bool);
  }

  abbrev pub null_ended : Ended
  null_ended = record { signature = null_signature; kept = (yes, tt) }

  abbrev null_stayed : Stays null_ended.signature.params null_ended.kept
  null_stayed = (stay_ref (0 ∷ []) tt (plain (λ _. R)), tt)

  abbrev pub null_clauses : {M : Type 1} {𝓤 : Ura M} (𝓛 : Logic 𝓤) → (P.pointer.owning.D → Type 0) → Clauses 𝓤 null_ended
  null_clauses {𝓤 = 𝓤} 𝓛 Null κs a = record {
    ghost = Unit {0};
    requires = λ _. emp 𝓤;
    ensures = λ _ r w. sep 𝓤 (fact 𝓤 (IsTrue r ↔ Null a.0.now)) (fact 𝓤 (w.0.now ≡ a.0.now));
  }

  -- of the pointer alone
  abbrev pub at_function : Fn
  at_function = record {
    lifetimes = 1;
    outlives = [];
    ty_params = [];
    givens = 0;
    params = 1;
    locals = local ty_bool value_local ∷ local (first_of (MutRef (named 0) [] R).mir) value_local ∷ local ty_ptr value_local ∷ [];
    body = seq (self_field 2 0) (seq (assign (place 0 []) (op2 ptr_eq (copy (place 2 [])) (int w64 0))) return);
  }

  -- of the number too
  abbrev pub null_function : Fn
  null_function = record {
    lifetimes = 1;
    outlives = [];
    ty_params = [];
    givens = 0;
    params = 1;
    locals = local ty_bool value_local ∷ local (first_of (MutRef (named 0) [] R).mir) value_local ∷ local (ty_int w64) value_local ∷ local ty_bool value_local ∷ local ty_ptr value_local ∷ local ty_bool value_local ∷ [];
    body = seq (self_field 2 1) (seq (assign (place 3 []) (op2 ne (copy (place 2 [])) (int w64 0))) (seq (self_field 4 0)
        (seq (assign (place 5 []) (op2 ptr_eq (copy (place 4 [])) (int w64 0))) (seq (assign (place 0 []) (op2 bit_and (copy (place 3 [])) (copy (place 5 [])))) return))));
  }

  module _ {M : Type 1} (𝓤 : Ura M) (𝓛 : Logic 𝓤) (𝓜 : Model 𝓤 𝓛.H) (𝓡 : Running 𝓤 𝓛.H 𝓜) {k : Callee} where
    pub tells_null_at : Closed 𝓤 𝓛.H (tables 𝓤 𝓛.H 𝓜 𝓡 𝓡.env).C (tables 𝓤 𝓛.H 𝓜 𝓡 𝓡.env).Λ k at_function
        → Meets 𝓛 null_signature (𝓡.run (𝓡.env k)) (closing 𝓛 null_ended (null_clauses 𝓛 (λ d. P.pointer.at d ≡ null_ptr)))
    tells_null_at closed =
        let c = null_clauses 𝓛 (λ d. P.pointer.at d ≡ null_ptr) in let W = walk_of 𝓛 null_ended null_stayed c in let 𝓣 = tables 𝓤 𝓛.H 𝓜 𝓡 𝓡.env in
        proved 𝓛 null_ended null_stayed c 𝓜 𝓡 (Goes-ref 𝓛 1 0 tt (plain (λ _. R)), tt)
        k at_function closed
        (λ κs. (mut_vals, tt)) (λ κs. (mut_Tells (named 0) κs.0 R, tt)) (λ κs qs bounds a _ are.
        let b = a.0.ref_ptr.0 in let o = a.0.ref_ptr.1 in let γ = a.0.ghost_name in let h = a.0.now in let vs = mut_vals a.0 in
        let y : W.Ghost = ((κs, qs, bounds, a, (vs, tt)), tt) in
        qed 𝓛 (((‵ (flft κs.0 qs.0) ⊛ ‵ ftrue) ⊛ ‵ ((MutRef (named 0) κs.0 R).own_val a.0 vs) ⊛ ‵ ftrue) ∷ ‵ ftrue ∷ []) ∵
        split ! $ split ! $ move ! (2 ∷ []) $ split ! $ keep ! (0 ∷ 2 ∷ []) $
        enter ! _ _ _ _ _ $ alloc_all ! (λ l. pass_all ! refl ((tt, tt), tt) $
        let En = env at_function.locals l in
        fsplit3 ! $ move ! (1 ∷ 2 ∷ 3 ∷ []) $ opens ! tt R b o (λ us.
        move ! (1 ∷ []) $ peeks ! R _ (shows 𝓛 R) h us (λ is_us.
        let Cell = λ (ws : List Val). ‵ (cell_at full_share R.mir ws b o) in
        let word = Tells-lowered the_type (RawPtr-laws, (usize-laws, tt)) h us is_us in
        rewrite ! 1 Cell word refl $
        -- [the value; the struct's cell; the open borrow, in three entries]
        let told = at_null (P.pointer.at h) in
        sets ! (of_opd ! (load ! (through ! refl (fld ! refl (stop !))) (look_in ! 1 (sub ! 0 refl (whole !))))) refl (ptr_typed (P.pointer.at h)) $
        sets ! (bin ! (get ! refl) (lit ! tt) (tests_null (P.pointer.at h) (P.pointer.testable h))) refl (tt, tt) $
        rewrite ! 1 Cell (sym word) refl $ move ! (1 ∷ []) $ closes ! tt R h us b o $
        returns ! (look_at ! 0 refl) $ free_all ! refl $ move ! (3 ∷ []) $
        suffices ! _ (ends_at 𝓛 null_ended null_stayed c y (vbool told) told (h, tt) (tt, tt)) $ says_both ! (at_null_told (P.pointer.at h)) refl $
        group ! 3 $ nothing ! $ move ! (1 ∷ 0 ∷ []) $ join ! $ nothing ! $ move ! (2 ∷ 0 ∷ []) $ join ! $ frame ! $ frame ! $
        feq_i ! (List Val) (vbool told ∷ []) (vbool told ∷ []) refl $ done !))))

    pub tells_null : Closed 𝓤 𝓛.H (tables 𝓤 𝓛.H 𝓜 𝓡 𝓡.env).C (tables 𝓤 𝓛.H 𝓜 𝓡 𝓡.env).Λ k null_function
        → Meets 𝓛 null_signature (𝓡.run (𝓡.env k)) (closing 𝓛 null_ended (null_clauses 𝓛 (IsNull)))
    tells_null closed =
        let c = null_clauses 𝓛 (IsNull) in let W = walk_of 𝓛 null_ended null_stayed c in let 𝓣 = tables 𝓤 𝓛.H 𝓜 𝓡 𝓡.env in
        proved 𝓛 null_ended null_stayed c 𝓜 𝓡 (Goes-ref 𝓛 1 0 tt (plain (λ _. R)), tt)
        k null_function closed
        (λ κs. (mut_vals, tt)) (λ κs. (mut_Tells (named 0) κs.0 R, tt)) (λ κs qs bounds a _ are.
        let b = a.0.ref_ptr.0 in let o = a.0.ref_ptr.1 in let γ = a.0.ghost_name in let h = a.0.now in let vs = mut_vals a.0 in
        let y : W.Ghost = ((κs, qs, bounds, a, (vs, tt)), tt) in
        qed 𝓛 (((‵ (flft κs.0 qs.0) ⊛ ‵ ftrue) ⊛ ‵ ((MutRef (named 0) κs.0 R).own_val a.0 vs) ⊛ ‵ ftrue) ∷ ‵ ftrue ∷ []) ∵
        split ! $ split ! $ move ! (2 ∷ []) $ split ! $ keep ! (0 ∷ 2 ∷ []) $
        enter ! _ _ _ _ _ $ alloc_all ! (λ l. pass_all ! refl ((tt, tt), tt) $
        let En = env null_function.locals l in
        fsplit3 ! $ move ! (1 ∷ 2 ∷ 3 ∷ []) $ opens ! tt R b o (λ us.
        move ! (1 ∷ []) $ peeks ! R _ (shows 𝓛 R) h us (λ is_us.
        let Cell = λ (ws : List Val). ‵ (cell_at full_share R.mir ws b o) in
        let word = Tells-lowered the_type (RawPtr-laws, (usize-laws, tt)) h us is_us in
        rewrite ! 1 Cell word refl $
        -- [the value; the struct's cell; the open borrow, in three entries]
        let told = is_null_list (P.pointer.at h) (P.room h) in
        sets ! (of_opd ! (load ! (through ! refl (fld ! refl (stop !))) (look_in ! 1 (sub ! 1 refl (whole !))))) refl (tt, record { fits = is_us.0.1.1.1.0.1 }) $
        sets ! (bin ! (get ! refl) (lit ! tt) tt) refl (tt, tt) $
        sets ! (of_opd ! (load ! (through ! refl (fld ! refl (stop !))) (look_in ! 1 (sub ! 0 refl (whole !))))) refl (ptr_typed (P.pointer.at h)) $
        sets ! (bin ! (get ! refl) (lit ! tt) (tests_null (P.pointer.at h) (P.pointer.testable h))) refl (tt, tt) $
        sets ! (bin ! (get ! refl) (get ! refl) tt) refl (tt, tt) $
        rewrite ! 1 Cell (sym word) refl $ move ! (1 ∷ []) $ closes ! tt R h us b o $
        returns ! (look_at ! 0 refl) $ free_all ! refl $ move ! (3 ∷ []) $
        suffices ! _ (ends_at 𝓛 null_ended null_stayed c y (vbool told) told (h, tt) (tt, tt)) $ says_both ! (is_null_list_told (P.pointer.at h) (P.room h)) refl $
        group ! 3 $ nothing ! $ move ! (1 ∷ 0 ∷ []) $ join ! $ nothing ! $ move ! (2 ∷ 0 ∷ []) $ join ! $ frame ! $ frame ! $
        feq_i ! (List Val) (vbool told ∷ []) (vbool told ∷ []) refl $ done !))))
