-- The walk of `get` of a pointer that may be null and lends what lies behind it, at all pointees at once. Assumes `Logic`.
use Rattle.std.proofs.Common.{◌≡◌, ◌≢◌, ℕ, List, [], ◌∷◌, refl, sym, ap, ap₂, ◌∙◌, subst, lit<, w8, w64, Some, None, MatchOption}
use Rattle.library_books.proofs.Walking.{proved, Ura, Ty, Fn, Body, Callee, named, erased, ty_ptr, ty_bool, local, value_local, place, deref, field, copy, int, assign, rv_opd, op2, ptr_eq, cond, seq, aggregate, return, skip}
use Rattle.library_books.proofs.Walking.{block, addr_of, Val, vptr, of_list, full_share, ent, sep, emp, id⊢, GName, Fml, ftrue, fsep, fres, flft, Model, Closed, fact, Running, tables, Logic, sem, whole, sub, look_in, agg, ‵, ◌⊛◌}
use Rattle.library_books.proofs.Walking.{some, later, at_ret, ◌$◌, ◌∵◌, !, qed, done, move, keep, use0, use1, split, split3, join, fsplit, fsplit3, fjoin, fpack, pick, await, rewrite, suffices, frame, group, enter, of_opd, lit}
use Rattle.library_books.proofs.Walking.{bin, addr, load, stop, fld, no_more, and_then, first, blocks, branches, skips, exec, returns, returns_within, is, alloc_all, pass_all, free_all, look_at, get, through, sets, sets_last, env}
use Rattle.library_books.proofs.Walking.{RefMutOf, no, shows, mem, cell_at, RattleType, Ptr, block_ptr, null_ptr, ptr_val, Testable, tests_null, lies_at, MutRef, mut_vals, mut_Tells, Signature, plain, type_at, mut_ref_to, nothing}
use Rattle.library_books.proofs.Walking.{opens, closes, peeks, RawPtr-laws, Struct, layout, Owning, row, shape, Tells-lowered, Clauses, Ended, closing, Meets, Stays, walk_of, says, stay_dropped, Goes-spent_ref, ends_at}
use Rattle.std.specs.Borrow.{LendsIf}
use mathlib.Core.Option as maybe
use types.Match.{live}
use denote.Follow.{follows, follows_if, follows_by, lends_Part}
use denote.Memory.{part_of}
use Rattle.core.specs.contracts.option.Option as OP
use Rattle.core.proofs.option.Made.{Some-of, none_of}
use Rattle.library_books.specs.Behind.{maybe_at}
use Rattle.library_books.proofs.Behind.{PointerTo, behind_block, pointing, null_or_block, not_null, first_of, sized, pointer_of}

module _ {M : Type 1} {𝓤 : Ura M} (𝓛 : Logic 𝓤) (R T : RattleType) (F : T.Denot → R.Denot) where
  -- what a reference that lends nothing ends as
  pub none_follows : (γ : GName) (v : R.Denot) → ent 𝓤 (sem 𝓛 (fres γ (R.coded.code v))) (sem 𝓛 (follows_if R T γ maybe.none F v))
  unfolding follows_by
  none_follows γ v = id⊢ 𝓤 _

  pub some_follows : (γ δ : GName) (v : R.Denot) → ent 𝓤 (sem 𝓛 (follows R T γ δ F)) (sem 𝓛 (follows_if R T γ (maybe.some δ) F v))
  unfolding follows_by
  some_follows γ δ v = id⊢ 𝓤 _

  module _ (A : Fml) (us : List Val) (b o b' o' : ℕ) where
    -- all but what lies behind the pointer
    abbrev pub Rest : Fml
    Rest = fsep A (cell_at full_share R.mir us b o)

    pub back : ((w : T.Denot) → R.own_val (F w) us ≡ fsep A (lies_at T full_share (block_ptr b' o') w))
        → (w : T.Denot) → ent 𝓤 (sep 𝓤 (sem 𝓛 ((mem T).own_at w b' o')) (sem 𝓛 Rest)) (sem 𝓛 ((mem R).own_at (F w) b o))
    unfolding part_of
    back e w =
        qed 𝓛 (‵ (lies_at T full_share (block_ptr b' o') w) ∷ ‵ Rest ∷ []) ∵ move ! (1 ∷ []) $ fsplit ! $ move ! (0 ∷ 2 ∷ []) $ fjoin ! $
        rewrite ! 0 (λ (X : Fml). ‵ X) (sym (e w)) refl $ move ! (1 ∷ 0 ∷ []) $ fjoin ! $
        fpack ! (List Val) (λ vs. fsep (cell_at full_share R.mir vs b o) (R.own_val (F w) vs)) us $ done !

module _ (X : RattleType) (O : Owning) (at : O.D → Ptr) (testable : (d : O.D) → Testable (at d)) (behind : O.D → X.Denot) (with_behind : O.D → X.Denot → O.D)
    (at_stays : (d : O.D) (x : X.Denot) → at (with_behind d x) ≡ at d) (is_behind : (d : O.D) (x : X.Denot) → behind (with_behind d x) ≡ x) where
  abbrev ty : Ty
  ty = first_of X.mir

  abbrev T : RattleType
  T = sized X ty

  abbrev P : PointerTo T
  P = pointer_of T O at testable behind

  abbrev pub the_type : Owning
  the_type = pointing T P (maybe_at T)

  abbrev pub R : RattleType
  R = row the_type

  -- what the struct's field owns
  abbrev fields_own : Ptr → List Val → Fml
  fields_own p us = (Struct (shape the_type)).own_val (p, tt) us

  abbrev pub signature : Signature
  signature = record {
    lifetimes = 1;
    outlives = [];
    params = RefMutOf (0 ∷ []) tt (plain (λ κs. R)) (λ κs. tt) ∷ [];
    result = plain (λ κs. OP.the_row (type_at {n = 1} (RefMutOf (0 ∷ []) tt (plain (λ κs. T)) (λ κs. tt)) κs));
  }

  abbrev pub ended : Ended
  ended = record { signature = signature; kept = (no, tt) }

  abbrev stayed : Stays ended.signature.params ended.kept
  stayed = (stay_dropped (mut_ref_to (0 ∷ []) tt (plain (λ _. R))) no, tt)

  abbrev pub clauses : {M : Type 1} {𝓤 : Ura M} (𝓛 : Logic 𝓤) → Clauses 𝓤 ended
  clauses {𝓤 = 𝓤} 𝓛 κs a = record {
    ghost = Unit {0};
    requires = λ _. emp 𝓤;
    ensures = λ _ r _. sep 𝓤 (sem 𝓛 (LendsIf R T a.0 r (with_behind a.0.now) a.0.now))
        (fact 𝓤 (MatchOption r (P.at a.0.now ≡ null_ptr) (λ x. (P.at a.0.now ≢ null_ptr) × (x.now ≡ P.behind a.0.now))));
  }

  -- the code
  abbrev option_ty : Ty
  option_ty = first_of (OP.the_row (MutRef (named 0) [] T)).mir

  abbrev option_erased : Ty
  option_erased = first_of (OP.the_row (MutRef erased [] T)).mir

  abbrev inside : Body
  inside = seq (assign (place 5 []) (addr_of (place 2 (deref ty ∷ [])))) (assign (place 3 []) (aggregate (int w8 1 ∷ copy (place 5 []) ∷ [])))

  abbrev t-2 : Body
  t-2 = seq (assign (place 0 []) (rv_opd (copy (place 3 [])))) return

  abbrev pub function : Fn
  function = record {
    lifetimes = 1;
    outlives = [];
    ty_params = [];
    givens = 0;
    params = 1;
    locals = local option_ty value_local ∷ local (first_of (MutRef (named 0) [] R).mir) value_local ∷ local ty_ptr value_local
        ∷ local option_erased value_local ∷ local ty_bool value_local ∷ local (first_of (MutRef erased [] T).mir) value_local ∷ [];
    body = seq (block (seq (assign (place 2 []) (rv_opd (copy (place 1 (deref (layout (shape the_type)) ∷ field 0 ∷ []))))) (seq (assign (place 4 []) (op2 ptr_eq (copy (place 2 [])) (int w64 0)))
        (seq (cond (copy (place 4 [])) (seq (assign (place 0 []) (aggregate (int w8 0 ∷ []))) return) skip) inside)))) t-2;
  }

  module _ {M : Type 1} (𝓤 : Ura M) (𝓛 : Logic 𝓤) (𝓜 : Model 𝓤 𝓛.H) (𝓡 : Running 𝓤 𝓛.H 𝓜) {k : Callee} where
    pub gets : Closed 𝓤 𝓛.H (tables 𝓤 𝓛.H 𝓜 𝓡 𝓡.env).C (tables 𝓤 𝓛.H 𝓜 𝓡 𝓡.env).Λ k function
        → Meets 𝓛 signature (𝓡.run (𝓡.env k)) (closing 𝓛 ended (clauses 𝓛))
    gets closed =
        let c = clauses 𝓛 in let W = walk_of 𝓛 ended stayed c in let 𝓣 = tables 𝓤 𝓛.H 𝓜 𝓡 𝓡.env in
        proved 𝓛 ended stayed c 𝓜 𝓡 (Goes-spent_ref 𝓛 1 (0 ∷ []) tt (plain (λ _. R)), tt)
        k function closed
        (λ κs. (mut_vals, tt)) (λ κs. (mut_Tells (named 0) κs.0 R, tt)) (λ κs qs bounds a _ are.
        let b = a.0.ref_ptr.0 in let o = a.0.ref_ptr.1 in let γ = a.0.ghost_name in let h = a.0.now in let vs = mut_vals a.0 in
        let y : W.Ghost = ((κs, qs, bounds, a, (vs, tt)), tt) in
        let Lent : RattleType = MutRef (named 0) κs.0 T in
        qed 𝓛 (((‵ (flft κs.0 qs.0) ⊛ ‵ ftrue) ⊛ ‵ ((MutRef (named 0) κs.0 R).own_val a.0 vs) ⊛ ‵ ftrue) ∷ ‵ ftrue ∷ []) ∵
        split ! $ split ! $ move ! (2 ∷ []) $ split ! $ keep ! (0 ∷ 2 ∷ []) $
        enter ! _ _ _ _ _ $ alloc_all ! (λ l. pass_all ! refl ((tt, tt), tt) $
        fsplit3 ! $ move ! (1 ∷ 2 ∷ 3 ∷ []) $ opens ! tt R b o (λ us.
        move ! (1 ∷ []) $ peeks ! R _ (shows 𝓛 R) h us (λ is_us. fsplit ! $ move ! (1 ∷ []) $
        let Cell = λ (ws : List Val). ‵ (cell_at full_share R.mir ws b o) in
        let word = Tells-lowered the_type (RawPtr-laws, tt) h us is_us in
        first ! $ blocks ! $
        null_or_block ! (P.at h) (λ p. maybe_at T p (P.behind h))
        (λ e. rewrite ! 2 Cell word refl $
        -- [nothing; the fields; the struct's cell; the open borrow, in three entries]
        sets ! (is ! (of_opd ! (load ! (through ! refl (fld ! refl (stop !))) (look_in ! 2 (sub ! 0 refl (whole !))))) (ap ptr_val e)) refl (tt, record { fits = lit< tt }) $
        sets ! (bin ! (get ! refl) (lit ! tt) (tests_null null_ptr (subst Testable e (P.testable h)))) refl (tt, tt) $
        first ! $ branches ! (get ! refl)
        (λ t. sets ! (agg ! (and_then ! (lit ! tt) (no_more !))) refl (tt, (record { fits = lit< tt }, tt)) $
        rewrite ! 2 Cell (sym word) refl $ rewrite ! 0 (λ (p : Ptr). ‵ (maybe_at T p (P.behind h))) (sym e) refl $
        move ! (1 ∷ []) $ fjoin ! $ move ! (1 ∷ []) $ closes ! tt R h us b o $
        use1 𝓛 (‵ (fres γ (R.coded.code h))) (𝓛.names.obs-res γ (R.coded.code h)) $ use1 𝓛 (‵ (follows_if R T γ maybe.none (with_behind h) h)) (none_follows 𝓛 R T (with_behind h) γ h) $
        -- [what is said of the borrow; the borrow; the token]
        returns_within ! (W.post y) refl (look_at ! 0 refl) $ free_all ! refl $ keep ! (2 ∷ 0 ∷ []) $
        use0 𝓛 (‵ ((OP.the_row Lent).own_val None (live 0 (of_list []) ∷ []))) (none_of 𝓛 Lent) $
        suffices ! _ (ends_at 𝓛 ended stayed c y (live 0 (of_list [])) None (tt, tt) (tt, tt)) $
        nothing ! $ move ! (2 ∷ 0 ∷ []) $ join ! $ nothing ! $ nothing ! $ join ! $ move ! (1 ∷ 0 ∷ []) $ group ! 3 $ frame ! $ says ! e $ done !)
        (λ t. absurd t))
        (λ b' o' e. rewrite ! 2 Cell word refl $
        sets ! (is ! (of_opd ! (load ! (through ! refl (fld ! refl (stop !))) (look_in ! 2 (sub ! 0 refl (whole !))))) (ap ptr_val e)) refl (tt, tt) $
        sets ! (bin ! (get ! refl) (lit ! tt) (tests_null (block_ptr b' o') (subst Testable e (P.testable h)))) refl (tt, tt) $
        first ! $ branches ! (get ! refl) (λ t. absurd t)
        (λ t. skips ! $ exec ! 𝓣.C 𝓣.Λ (env function.locals l) inside (behind_block 𝓛 𝓣.C 𝓣.Λ (env function.locals l) t-2 (W.post y)) $
        sets ! (addr ! (through ! refl (stop !))) refl (tt, tt) $
        sets_last ! (agg ! (and_then ! (lit ! tt) (and_then ! (get ! refl) (no_more !)))) refl (tt, (record { fits = lit< tt }, (tt, tt))) $
        exec ! 𝓣.C 𝓣.Λ (env function.locals l) t-2 (at_ret (env function.locals l) (W.post y)) $
        sets ! (of_opd ! (get ! refl)) refl (tt, (record { fits = lit< tt }, (tt, tt))) $
        rewrite ! 2 Cell (sym word) refl $
        -- [the value behind; the fields; the struct's cell; the open borrow, in three entries]
        move ! (1 ∷ 2 ∷ []) $ fjoin ! $ move ! (2 ∷ 3 ∷ 4 ∷ 1 ∷ 0 ∷ []) $ group ! 5 $
        let k' = R.coded.code h in
        let A : Fml = fields_own (P.at h) us in
        let way = back 𝓛 R T (with_behind h) A us b o b' o' (λ w.
        ap₂ (λ (p : Ptr) (x : T.Denot). fsep (fields_own p us) (maybe_at T p x)) (at_stays h w) (is_behind h w)
        ∙ ap (λ (p : Ptr). fsep A (maybe_at T p w)) e) in
        use1 𝓛 (later (some (λ (δ : GName). ‵ (Lent.own_val (record { ref_ptr = (b', o'); ghost_name = δ; now = P.behind h }) (vptr b' o' ∷ [])) ⊛ ‵ (flft κs.0 qs.0) ⊛ ‵ (follows R T γ δ (with_behind h)))))
        (lends_Part 𝓛 R T (with_behind h) (named 0) κs.0 qs.0 b o b' o' γ (sem 𝓛 (Rest 𝓛 R T (with_behind h) A us b o b' o')) way k' k' (P.behind h)) $ await ! tt $ pick ! (λ δ. split3 ! $
        use1 𝓛 (‵ ((OP.the_row Lent).own_val (Some (record { ref_ptr = (b', o'); ghost_name = δ; now = P.behind h })) (live 1 (of_list (vptr b' o' ∷ [])) ∷ []))) (Some-of 𝓛 Lent (record { ref_ptr = (b', o'); ghost_name = δ; now = P.behind h }) (vptr b' o')) $
        returns ! (look_at ! 0 refl) $ free_all ! refl $ keep ! (0 ∷ 1 ∷ 2 ∷ []) $
        suffices ! _ (ends_at 𝓛 ended stayed c y (live 1 (of_list (vptr b' o' ∷ []))) (Some (record { ref_ptr = (b', o'); ghost_name = δ; now = P.behind h })) (tt, tt) (tt, tt)) $
        move ! (2 ∷ []) $ use1 𝓛 (‵ (follows_if R T γ (maybe.some δ) (with_behind h) h)) (some_follows 𝓛 R T (with_behind h) γ δ h) $ move ! (1 ∷ 2 ∷ 0 ∷ []) $
        nothing ! $ move ! (2 ∷ 0 ∷ []) $ join ! $ nothing ! $ nothing ! $ join ! $ move ! (1 ∷ 0 ∷ 2 ∷ []) $ group ! 3 $ frame ! $ says ! ((λ z. not_null (sym e ∙ z)), refl) $ done !)))))))
