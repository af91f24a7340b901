-- Resources brought into their order, each once.
use Rattle.std.proofs.Common.{◌≡◌, ℕ, true, Bool, ◌||◌, List, [], ◌∷◌, refl, sym, ◌∙◌, ap}
use Rattle.lock_tree.specs.Paths.{same_path}
use Rattle.lock_rules.proofs.ResourceOrder.{rise, same-lists, has-with, rise-with}
use Rattle.session_locks.specs.Resources.{has_path, in_order}

-- they rise
pub rise-in_order : (rs : List (List ℕ)) → rise (in_order rs) ≡ true
rise-in_order [] = refl
rise-in_order (r ∷ rs) = rise-with r (in_order rs) (rise-in_order rs)

-- they are the same resources
pub has-in_order : (q : List ℕ) (rs : List (List ℕ)) → has_path q (in_order rs) ≡ has_path q rs
has-in_order q [] = refl
has-in_order q (r ∷ rs) = has-with q r (in_order rs) ∙ ap (λ (b : Bool). same_path r q || b) (has-in_order q rs)

-- a list that rises and has the same resources is that list in order
pub is-in_order : (xs rs : List (List ℕ)) → rise xs ≡ true → ((r : List ℕ) → has_path r xs ≡ has_path r rs) → xs ≡ in_order rs
is-in_order xs rs h e = same-lists xs (in_order rs) h (rise-in_order rs) (λ r. e r ∙ sym (has-in_order r rs))

-- lists with the same resources are equal in order
pub same-in_order : (xs ys : List (List ℕ)) → ((r : List ℕ) → has_path r xs ≡ has_path r ys) → in_order xs ≡ in_order ys
same-in_order xs ys e = is-in_order (in_order xs) ys (rise-in_order xs) (λ r. has-in_order r xs ∙ e r)
