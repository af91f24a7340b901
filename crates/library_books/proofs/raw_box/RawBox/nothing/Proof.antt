-- `nothing` puts a null pointer beside the allocator.
use Rattle.std.proofs.Common.{refl, sym, subst, List, [], ◌∷◌, ◌++◌}
use Rattle.library_books.proofs.Walking.{Ura, Fn, inst_fn, Val, vstruct, vcons, vnil, has_ty, WT, SProp, ent, ftrue, fsep, flft, ◌⊑◌, fact, tables, Memory, Routine, Fun, WpFn, Tables, WpFn-mono, Logic, Item, ‵, raw, ◌⊛◌, ◌$◌, ◌∵◌}
use Rattle.library_books.proofs.Walking.{ !, qed, by, move, drop, join, split, fsplit, fjoin, fpack, feq_i, suffices, done, agg, lit, of_opd, no_more, and_then, returns, enter, alloc_all, pass_all, free_all, look_at, get, sets}
use Rattle.library_books.proofs.Walking.{RattleType, Valss, no, RawPtr, null_ptr, ptr_val, plain, nothing, within, shape, Ended, Clauses, triple_of, entered, says, Stays, stay_dropped, walk_of, ends_at, walk_Meets, α}
use Rattle.library_books.proofs.Walking.{handle_tells, Goes-blank}
use Rattle.std.specs.Prelude.{None}
use lib.Dec.{T, lit<}
use contract.Running.{tables_of}
use Rattle.std_alloc.proofs.BoxSteps.Form.{Bx, R, P, args, box_ty}
use Rattle.std_alloc.proofs.ResultValues.{and_tt}
use Rattle.library_books.specs.contracts.raw_box.RawBox as raw_box
use Rattle.library_books.specs.contracts.raw_box.RawBox.nothing as F
use Rattle.library_books.specs.contracts.raw_box.RawBox.nothing.Key.{name as #self}
use Rattle.library_books.proofs.raw_box.RawBox.nothing.Statement as stated
use Rattle.library_books.proofs.raw_box.RawBox.nothing.Code as code

module _ (E : Bx) where
  abbrev fn' : Fn
  fn' = inst_fn (args E) code.function

  abbrev ended : Ended
  ended = F.ended E.row E.al.row E.al.g E.al.d E.al.drops

  abbrev stayed : Stays ended.signature.params ended.kept
  stayed = (stay_dropped (plain (λ _. P E)) no, tt)

  abbrev To : RattleType
  To = raw_box.the_row (R E) (P E) E.al.g

  module _ {M : Type 1} {𝓤 : Ura M} (𝓛 : Logic 𝓤) (at_mem : Memory → SProp 𝓤) (run : Routine → Fun 𝓤) (𝓣 : Tables 𝓤 𝓛.H) where
    open 𝓛 use {H}

    abbrev held : Clauses 𝓤 ended
    held = F.clauses E.row E.al.row E.al.g E.al.d E.al.drops 𝓛 at_mem run

    walk : (z : (walk_of 𝓛 ended stayed held).Ghost) → ent 𝓤 ((walk_of 𝓛 ended stayed held).pre z) (WpFn 𝓤 H 𝓣.C 𝓣.Λ fn' (z.0.4.0 ++ []) ((walk_of 𝓛 ended stayed held).post z))
    walk z =
        let κs = z.0.0 in let qs = z.0.1 in let a = z.0.3.0 in let Post = (walk_of 𝓛 ended stayed held).post z in
        let ts : Item 𝓤 = ‵ (flft κs.0 qs.0) ⊛ ‵ (flft κs.1.0 qs.1.0) ⊛ ‵ ftrue in
        let alive : Item 𝓤 = raw (fact 𝓤 (κs.0 ⊑ E.row.lives)) ⊛ raw (fact 𝓤 (κs.1.0 ⊑ E.al.row.lives)) ⊛ ‵ ftrue in
        qed 𝓛 ((ts ⊛ ‵ (fsep ((P E).own_val a z.0.4.0) ftrue)) ∷ alive ∷ []) ∵ move ! (1 ∷ []) $ drop ! $ split ! $ move ! (1 ∷ []) $ fsplit ! $
        handle_tells E.al ! a z.0.4.0 (λ h eh fits.
        let w : Val = vstruct (vcons (ptr_val null_ptr) (vcons h vnil)) in
        let typed : T (has_ty (box_ty E) w) × WT w = (and_tt (has_ty (α E.al) h) fits.0, (record { fits = lit< tt }, (fits.1, tt))) in
        let made : To.Denot = record { at = null_ptr; alloc = a; value = None } in
        let Γ : List (Item 𝓤) = ‵ ((P E).own_val a (h ∷ [])) ∷ ‵ ftrue ∷ ts ∷ [] in
        by ! (subst (λ (us : List Val). ent 𝓤 (types.Kit.⋆ 𝓛 Γ) (WpFn 𝓤 H 𝓣.C 𝓣.Λ fn' (us ++ []) Post)) (sym eh)
        (qed 𝓛 Γ ∵ enter ! 𝓣.C 𝓣.Λ fn' (h ∷ []) _ $ alloc_all ! (λ ls. pass_all ! refl (fits, tt) $
        sets ! (of_opd ! (get ! refl)) refl fits $ sets ! (agg ! (and_then ! (lit ! tt) (and_then ! (get ! refl) (no_more !)))) refl typed $ returns ! (look_at ! 0 refl) $ free_all ! refl $
        nothing ! $ nothing ! $ move ! (2 ∷ 0 ∷ []) $ fjoin ! $ feq_i ! (List Val) (ptr_val null_ptr ∷ []) (ptr_val null_ptr ∷ []) refl $ fjoin ! $ feq_i ! (List Val) (w ∷ []) (w ∷ []) refl $ fjoin ! $
        fpack ! (Valss (RawPtr ∷ P E ∷ [])) (within (shape (raw_box.the_type (R E) (P E) E.al.g)) (null_ptr, (a, tt)) (w ∷ [])) (ptr_val null_ptr ∷ [], (h ∷ [], tt)) $ fjoin ! $
        -- [no box; true; the tokens]
        move ! (1 ∷ []) $ drop ! $ suffices ! _ (ends_at 𝓛 ended stayed held z w made (tt, tt) (tt, tt)) $ says ! refl $
        nothing ! $ nothing ! $ fjoin ! $ join ! $ move ! (1 ∷ 0 ∷ []) $ join ! $ done !))))

pub nothing_spec : {M : Type 1} → stated.statement M
unfolding tables_of
nothing_spec 𝓤 𝓛 𝓜 𝓡 wired X Z LX LZ g d dd allocator md =
    let E : Bx = record { row = X; laws = LX; al = record { row = Z; laws = LZ; g = g; d = d; drops = dd } } in
    let 𝓣 : Tables 𝓤 𝓛.H = tables_of 𝓤 𝓛.H 𝓜 (tables 𝓤 𝓛.H 𝓜 𝓡 𝓡.env) in
    let fn = fn' E in
    entered 𝓤 𝓛.H (triple_of 𝓛 (ended E).signature (F.spec X Z g d dd 𝓛 𝓜.mem 𝓡.returns)) 𝓣.C 𝓣.Λ (#self (args E)) fn (code.unfolded 𝓤 𝓛.H 𝓜 𝓡 wired (X, (Z, tt)) d dd)
    (walk_Meets 𝓛 (ended E) (stayed E) (Goes-blank 𝓛 2 (plain (λ _. P E)) no (λ κs x f. tt), tt) (held E 𝓛 𝓜.mem 𝓡.returns 𝓣) (WpFn 𝓤 𝓛.H 𝓣.C 𝓣.Λ fn) (WpFn-mono 𝓤 𝓛.H 𝓛.laws 𝓣 fn)
    (walk E 𝓛 𝓜.mem 𝓡.returns 𝓣))
